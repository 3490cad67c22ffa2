-- The peer slots of a lent table.
-- Assumes nothing.
use Rattle.std.specs.Prelude.{ℕ, ◌≡◌, false, List, [], ◌∷◌, get_or, None}
use Rattle.protocol.specs.Numbers.{ca_number}
use Rattle.protocol.specs.declared.Alignment.TheVariants as alignment
use Rattle.protocol.specs.declared.HelloState.TheVariants as hello
use Rattle.protocol.specs.declared.Role.TheVariants.{Master}
use Rattle.rules.specs.Server as rules
use Rattle.rules.specs.Server.{Request}
use Rattle.slots.specs.declared.state.Slot.{Slot}
use Rattle.slots.specs.State.{slot_of}

-- a slot with no peer
abbrev pub unused : Slot
unused = record {
  used = false;
  peer = 0 ∷ 0 ∷ 0 ∷ 0 ∷ [];
  link = record {
    hello = hello.Down;
    heard = 0;
    interval = 0;
    factor = 0;
    alignment = alignment.Down;
    role = Master;
    number = ca_number 0;
    last = record { number = ca_number 0; flags = record { master = false; initial = false; more = false } };
    more = false;
  };
  timers = record { hello = None; ca = None; csus = None; update = None };
  listed = 0;
  cursor = 0;
  missed = 0;
  updates = 0;
}

-- slot k of the table
unfoldable pub slot_in : List Slot → ℕ → Slot
slot_in t k = get_or t k unused

-- ---- a part of a slot put
-- all slots but k are as they were
abbrev pub OthersStay : ℕ → List Slot → List Slot → Type 0
OthersStay k before after = (j : ℕ) → (j ≡ k → ⊥) → slot_in after j ≡ slot_in before j

-- slot k is what f makes of it, whatever its part of the memory
pub record Changes (k : ℕ) (f : rules.Slot → rules.Slot) (before after : List Slot) : Type 0 where
  pub slot : (qs : List Request) (kept : List ℕ) → slot_of (slot_in after k) qs kept ≡ f (slot_of (slot_in before k) qs kept)
  pub others : OthersStay k before after
