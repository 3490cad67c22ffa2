-- Laws of the table after a slot or a part of one is put.
-- Assumes nothing.
use Prim.Native.Nat.{ℕ}
use mathlib.Core.List.{List}
use mathlib.Core.Path.{◌≡◌, ap, ◌∙◌}
use Rattle.rules.specs.Server as rules
use Rattle.rules.specs.Server.{Request}
use Rattle.slots.specs.declared.state.Slot.{Slot}
use Rattle.slots.specs.State.{slot_of}
use Rattle.table.specs.Slots.{slot_in, Changes}

-- one part of a slot after another
pub changes_then : (k : ℕ) (f g : rules.Slot → rules.Slot) (a b c : List Slot) → Changes k f a b → Changes k g b c → Changes k (λ x. g (f x)) a c
changes_then k f g a b c h l = record { slot = λ qs kept. l.slot qs kept ∙ ap g (h.slot qs kept); others = λ j q. l.others j q ∙ h.others j q }

-- the same change in other words
pub changes_as : (k : ℕ) (f g : rules.Slot → rules.Slot) (a b : List Slot)
    → ((qs : List Request) (kept : List ℕ) → f (slot_of (slot_in a k) qs kept) ≡ g (slot_of (slot_in a k) qs kept)) → Changes k f a b → Changes k g a b
changes_as k f g a b e h = record { slot = λ qs kept. h.slot qs kept ∙ e qs kept; others = h.others }
