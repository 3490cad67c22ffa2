-- An event of a slot leaves the other slots as they are.
-- Assumes nothing.
use Prim.Native.Nat.{ℕ}
use mathlib.Core.Path.{◌≡◌, refl, ap, ◌∙◌}
use mathlib.Core.Bool.{Bool, true, false}
use mathlib.Core.List.{List}
use lib.ListN.{get_or}
use lib.Seq.{get_or-set_other}
use Rattle.rules.specs.Server.{fresh_slot, Server, slot_at}
use Rattle.rules.specs.Events.{Event, packet, code_of, counts, Place, in_slot, nowhere, place_of, live_in, slot_after, slots_after, acted, server_if, step}

-- the slots of a server after an event
pub slots_acted : (s : Server) (e : Event) → (acted s e).slots ≡ slots_after (place_of e) e s
unfolding acted
slots_acted s e = refl

others_place : (s : Server) (e : Event) (k j : ℕ) → (j ≡ k → ⊥) → (p : Place) → p ≡ in_slot k → get_or (slots_after p e s) j fresh_slot ≡ slot_at s j
others_place s e k j far (in_slot i) at =
    let here : i ≡ k = cc in
    get_or-set_other s.slots i j (slot_after e s.settings (live_in s.slots) s.rows (slot_at s i)) fresh_slot (λ q. far (q ∙ here))
others_place s e k j far nowhere at = refl

others_if : (s : Server) (e : Event) (k j : ℕ) → place_of e ≡ in_slot k → (j ≡ k → ⊥) → (b : Bool) → slot_at (server_if b s e) j ≡ slot_at s j
others_if s e k j at far true = ap (λ l. get_or l j fresh_slot) (slots_acted s e) ∙ others_place s e k j far (place_of e) at
others_if s e k j at far false = refl

pub others_any : (s : Server) (e : Event) (k j : ℕ) → place_of e ≡ in_slot k → (j ≡ k → ⊥) → slot_at (step s e) j ≡ slot_at s j
unfolding step
others_any s e k j at far = others_if s e k j at far (counts e (code_of s e))

pub others : (s : Server) (k now : ℕ) (p : List ℕ) (room j : ℕ) → (j ≡ k → ⊥) → slot_at (step s (packet k now p room)) j ≡ slot_at s j
others s k now p room j far = others_any s (packet k now p room) k j refl far

-- an event of no slot leaves them all
nowhere_if : (s : Server) (e : Event) → place_of e ≡ nowhere → (b : Bool) → (server_if b s e).slots ≡ s.slots
nowhere_if s e at true = slots_acted s e ∙ ap (λ p. slots_after p e s) at
nowhere_if s e at false = refl

pub others_nowhere : (s : Server) (e : Event) → place_of e ≡ nowhere → (step s e).slots ≡ s.slots
unfolding step
others_nowhere s e at = nowhere_if s e at (counts e (code_of s e))
