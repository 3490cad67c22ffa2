-- Codes 1 to 4 of a server with its memory, case by case.
-- Assumes nothing.
use Prim.Native.Nat.{ℕ, ◌≤◌, ◌<◌}
use mathlib.Core.Path.{◌≡◌, refl, sym, ap, ◌∙◌}
use mathlib.Core.Bool.{Bool, true, false, not, ◌||◌, false≢true}
use mathlib.Core.List.{List}
use native.Mathlib.Omega.{arith}
use lib.Dec.{ltb}
use borrow.Author.Tests.{ltb-true, ltb-false, lt-ltb, le-ltb, eqb-false}
use Rattle.laws.specs.Choice.{pick}
use Rattle.protocol.specs.declared.Index.{Index}
use Rattle.std.specs.Prelude.{Option, None, is_some, Err}
use Rattle.rules.specs.Server as rules
use Rattle.rules.specs.Server.{slot_at}
use Rattle.rules.specs.Links.{is_down}
use Rattle.rules.specs.Refusals.{link_code, poll_code}
use Rattle.slots.specs.declared.state.Server.{Server}
use Rattle.slots.specs.declared.answers.Failure.{Failure}
use Rattle.slots.specs.Codes.{failure_number}
use Rattle.slots.proofs.Laws.{refused_code}
use Rattle.table.specs.Slots.{slot_in}
use Rattle.server.specs.State.{server_of}
use Rattle.server.proofs.ServerLaws.{slot_of_lem}
use Rattle.slots.specs.declared.state.Slot.{Slot}

abbrev pub SlotIndex : Type 0
SlotIndex = Index 8

pub used_is : (s : Server) (slots : List Slot) (k : ℕ) (m : List ℕ) → k < 8 → {b : Bool} → (slot_in slots k).used ≡ b → (slot_at (server_of s slots m) k).used ≡ b
used_is s slots k m h u = ap (λ (x : rules.Slot). x.used) (slot_of_lem s slots m k h) ∙ u

-- an index that there is none of
pub above : {n at : ℕ} (r : Option (Index n)) → (at < n → is_some r ≡ true) → r ≡ None → n ≤ at
above {n} {at} r some e = by (ltb at n) refl where
  by : (b : Bool) → ltb at n ≡ b → n ≤ at
  by true h = absurd (false≢true (sym (ap is_some e) ∙ some (ltb-true at n h)))
  by false h = ltb-false at n h

module _ (s : Server) (slots : List Slot) (k : SlotIndex) (slot time : ℕ) (q : k.at ≡ slot) (m : List ℕ) where
  pub code_unused : (slot_in slots k.at).used ≡ false → 1 ≡ link_code (server_of s slots m) slot time
  code_unused u = rw (sym q, lt-ltb k.at 8 k.below, used_is s slots k.at m k.below u)

  pub code_early : (slot_in slots k.at).used ≡ true → time < s.time → 2 ≡ link_code (server_of s slots m) slot time
  code_early u e = rw (sym q, lt-ltb k.at 8 k.below, used_is s slots k.at m k.below u, lt-ltb time s.time e)

  pub code_none : (slot_in slots k.at).used ≡ true → s.time ≤ time → 0 ≡ link_code (server_of s slots m) slot time
  code_none u e = rw (sym q, lt-ltb k.at 8 k.below, used_is s slots k.at m k.below u, le-ltb time s.time e)

-- ---- a poll: codes 1 and 2 are tried first
first_stops : (a b : Bool) (n rest : ℕ) → (n ≡ 0 → ⊥) → n ≡ pick a 1 (pick b 2 0) → n ≡ pick a 1 (pick b 2 rest)
first_stops true b n rest z e = e
first_stops false true n rest z e = e
first_stops false false n rest z e = absurd (z e)

first_goes : (a b : Bool) (rest : ℕ) → pick {A = ℕ} a 1 (pick b 2 0) ≡ 0 → pick a 1 (pick b 2 rest) ≡ rest
first_goes true b rest e = absurd (omega arith)
first_goes false true rest e = absurd (omega arith)
first_goes false false rest e = refl

module _ (s : Server) (slots : List Slot) (slot time room : ℕ) (m : List ℕ) where
  abbrev room_code : ℕ → ℕ
  room_code down = pick (ltb room 284) 3 down

  absent : Bool
  absent = not (ltb slot 8) || not (slot_at (server_of s slots m) slot).used

  pub poll_stops : (f : Failure) → failure_number f ≡ link_code (server_of s slots m) slot time
      → failure_number f ≡ poll_code (server_of s slots m) slot time room
  unfolding absent
  poll_stops f c =
      first_stops absent (ltb time s.time) (failure_number f) (room_code (pick (is_down (slot_at (server_of s slots m) slot).link.hello) 4 0))
      (eqb-false (failure_number f) 0 (sym (refused_code {A = ℕ} (Err f) refl))) c

  pub poll_goes : (k : SlotIndex) → k.at ≡ slot → 0 ≡ link_code (server_of s slots m) slot time
      → room_code (pick (is_down (slot_in slots k.at).link.hello) 4 0) ≡ poll_code (server_of s slots m) slot time room
  unfolding absent
  poll_goes k q z =
      let h : slot < 8 = omega (arith, k.below, q) in
      ap (λ (j : ℕ). room_code (pick (is_down (slot_in slots j).link.hello) 4 0)) q
      ∙ sym (first_goes absent (ltb time s.time) (room_code (pick (is_down (slot_at (server_of s slots m) slot).link.hello) 4 0)) (sym z)
      ∙ ap (λ (x : rules.Slot). room_code (pick (is_down x.link.hello) 4 0)) (slot_of_lem s slots m slot h))
