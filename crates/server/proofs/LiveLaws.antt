-- The slots that puts go to, marked one after another.
-- Assumes nothing.
use Prim.Native.Nat.{ℕ, ◌+◌, ◌≤◌, ◌<◌}
use mathlib.Core.Path.{◌≡◌, refl, sym, ap, ◌∙◌, fun_ext}
use mathlib.Core.Bool.{Bool, true, false, ◌&&◌}
use mathlib.Core.List.{List}
use native.Mathlib.Omega.{arith}
use lib.Dec.{eqb, ltb}
use lib.ListN.{length, get_or-eq_default}
use borrow.Author.Tests.{eqb-true, eqb-false, ltb-true, ltb-false, lt-ltb, le-ltb}
use Rattle.rules.specs.Server as rules
use Rattle.rules.specs.Server.{fresh_slot}
use Rattle.rules.specs.Links.{is_live}
use Rattle.rules.specs.Events.{live_in}
use Rattle.memory.specs.Memory.{is_marked}
use Rattle.memory.proofs.Bits.{spread_none}
use Rattle.table.specs.Slots.{slot_in}
use Rattle.server.specs.State.{slots_of, marked_if}
use Rattle.server.proofs.ServerLaws.{slots_eight, slot_get}
use Rattle.slots.specs.declared.state.Slot.{Slot}

abbrev pub live_slot : List Slot → ℕ → Bool
live_slot slots j = is_live (slot_in slots j).link.alignment

-- those of the first k slots
abbrev pub live_below : List Slot → ℕ → ℕ → Bool
live_below slots k j = ltb j k && live_slot slots j

pub below_none : (slots : List Slot) → is_marked 0 ≡ live_below slots 0
below_none slots = spread_none (λ _. false) 0 0 refl ∙ fun_ext (λ j. sym (ap (λ (b : Bool). b && live_slot slots j) (le-ltb j 0 (omega arith))))

-- one more
other : (k j : ℕ) (b : Bool) → (j ≡ k → ⊥) → ltb j k ≡ b → b ≡ ltb j (k + 1)
other k j true d h =
    let g : j < k = ltb-true j k h in
    sym (lt-ltb j (k + 1) (omega arith))
other k j false d h =
    let g : k ≤ j = ltb-false j k h in
    sym (le-ltb j (k + 1) (omega arith))

more_at : (live : ℕ → Bool) (k j : ℕ) (t b : Bool) → live k ≡ t → eqb j k ≡ b → marked_if t k (λ i. ltb i k && live i) j ≡ (ltb j (k + 1) && live j)
more_at live k j true true e h =
    let q : j ≡ k = eqb-true j k h in
    rw (h, lt-ltb j (k + 1) (omega arith)) (sym (ap live q ∙ e))
more_at live k j false true e h =
    let q : j ≡ k = eqb-true j k h in
    rw (le-ltb j k (omega arith), lt-ltb j (k + 1) (omega arith)) (sym (ap live q ∙ e))
more_at live k j true false e h = rw h (ap (λ (b : Bool). b && live j) (other k j (ltb j k) (eqb-false j k h) refl))
more_at live k j false false e h = ap (λ (b : Bool). b && live j) (other k j (ltb j k) (eqb-false j k h) refl)

pub below_more : (slots : List Slot) (k b r : ℕ) → is_marked b ≡ live_below slots k → is_marked r ≡ marked_if (live_slot slots k) k (is_marked b)
    → is_marked r ≡ live_below slots (k + 1)
below_more slots k b r e f =
    f ∙ ap (marked_if (live_slot slots k) k) e ∙ fun_ext (λ j. more_at (live_slot slots) k j (live_slot slots k) (eqb j k) refl refl)

-- all of them
all_at : (slots : List Slot) (m : List ℕ) (j : ℕ) (b : Bool) → ltb j 8 ≡ b → (b && live_slot slots j) ≡ live_in (slots_of slots m) j
all_at slots m j true h = sym (ap (λ (x : rules.Slot). is_live x.link.alignment) (slot_get slots m j (ltb-true j 8 h)))
all_at slots m j false h =
    let n : length (slots_of slots m) ≡ 8 = slots_eight slots m in
    let g : 8 ≤ j = ltb-false j 8 h in
    sym (ap (λ (x : rules.Slot). is_live x.link.alignment) (get_or-eq_default (slots_of slots m) fresh_slot (omega arith)))

pub below_all : (slots : List Slot) (k b : ℕ) → k ≡ 8 → is_marked b ≡ live_below slots k → (m : List ℕ) → is_marked b ≡ live_in (slots_of slots m)
below_all slots k b q e m =
    e ∙ ap (live_below slots) q ∙ fun_ext (λ j. all_at slots m j (ltb j 8) refl)
