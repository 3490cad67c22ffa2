-- A slot and a row at any index, as a host sees them.
-- Assumes nothing.
use Prim.Native.Nat.{ℕ, ◌^◌, ◌≤◌, ◌<◌}
use mathlib.Core.Path.{◌≡◌, refl, sym, ap, ◌∙◌, subst}
use mathlib.Core.Bool.{Bool, true, false, not, ◌||◌, false≢true}
use mathlib.Core.List.{List, []}
use native.Mathlib.Omega.{arith}
use lib.Dec.{ltb}
use lib.ListN.{length, get_or-eq_default}
use lib.Pow.{pow_mono}
use borrow.Author.Tests.{ltb-true, ltb-false}
use Rattle.std.specs.Prelude.{Option, Some, None, is_some, IfSome}
use Rattle.laws.specs.Choice.{pick}
use Rattle.laws.proofs.Bools.{or_right}
use Rattle.protocol.specs.Fields.{octet}
use Rattle.rules.specs.Server as rules
use Rattle.rules.specs.Server.{slots_most, fresh_slot, Row, free, slot_at, is_used, waits_for, row_at}
use Rattle.memory.specs.Layout.{mark_place}
use Rattle.memory.specs.Memory.{is_marked, row_in, rows_in, requests_in}
use Rattle.memory.proofs.Bits.{bit_le}
use Rattle.memory.proofs.RowPlaces.{rows_length, row_get, used_row, used_row_lem, row_case}
use Rattle.memory.proofs.Rooms.{requests_of_lem}
use Rattle.slots.specs.declared.state.Slot.{Slot}
use Rattle.slots.specs.declared.state.Server.{Server}
use Rattle.slots.specs.State.{slot_of}
use Rattle.table.specs.Slots.{slot_in}
use Rattle.actions.specs.Parts.{slot_now, slot_with}
use Rattle.server.specs.State.{slots_of, server_of}
use Rattle.server.specs.Queries.{refused, shown, slot_report, report_by, report_of}
use Rattle.server.proofs.ServerLaws.{slots_eight, slot_of_lem}
use Rattle.server.proofs.CodeLaws.{SlotIndex}
use Rattle.protocol.specs.declared.Index.{Index}

-- ---- a slot
-- x with the slot's lists is the slot
abbrev Shows : Slot → rules.Slot → Type 0
Shows x y = slot_of x y.requests y.kept ≡ y

module _ (s : Server) (slots : List Slot) (m : List ℕ) (k : ℕ) where
  slot_above_lem : 8 ≤ k → slot_at (server_of s slots m) k ≡ fresh_slot
  slot_above_lem h =
      let n : length (slots_of slots m) ≡ 8 = slots_eight slots m in
      get_or-eq_default (slots_of slots m) fresh_slot {n = k} (omega arith)

  shows : (x : Slot) (y : rules.Slot) → slot_at (server_of s slots m) k ≡ y → Shows x y → Shows x (slot_at (server_of s slots m) k)
  shows x y e f = ap (λ (z : rules.Slot). slot_of x z.requests z.kept) e ∙ f ∙ sym e

  shows_below : (x : Slot) → k < 8 → x ≡ slot_in slots k → Shows x (slot_at (server_of s slots m) k)
  shows_below x h e = shows x (slot_now slots k m) (slot_of_lem s slots m k h) (ap (λ (z : Slot). slot_with z k m) e)

  pub shows_fresh : (x : Slot) → 8 ≤ k → slot_of x [] [] ≡ fresh_slot → Shows x (slot_at (server_of s slots m) k)
  shows_fresh x h e = shows x fresh_slot (slot_above_lem h) e

  -- ---- its report
  used_as : (x : Slot) → Shows x (slot_at (server_of s slots m) k) → (slot_at (server_of s slots m) k).used ≡ x.used
  used_as x h = sym (ap (λ (y : rules.Slot). y.used) h)

  pub report_none : (x : Slot) → Shows x (slot_at (server_of s slots m) k) → x.used ≡ false → refused 1 ≡ report_of (server_of s slots m) k
  report_none x h u =
      ap (λ (b : Bool). report_by (pick b 1 0) (slot_at (server_of s slots m) k))
      (sym (or_right (not (ltb k slots_most)) (not (slot_at (server_of s slots m) k).used) (ap not (used_as x h ∙ u))))

  below_eight : (b : Bool) → ltb k 8 ≡ b → (slot_at (server_of s slots m) k).used ≡ true → b ≡ true
  below_eight true e u = refl
  below_eight false e u = absurd (false≢true (sym (ap (λ (y : rules.Slot). y.used) (slot_above_lem (ltb-false k 8 e))) ∙ u))

  pub report_shown : (x : Slot) → Shows x (slot_at (server_of s slots m) k) → x.used ≡ true
      → shown x.link.hello x.link.alignment x.link.role x.updates x.missed ≡ report_of (server_of s slots m) k
  report_shown x h u =
      let v : (slot_at (server_of s slots m) k).used ≡ true = used_as x h ∙ u in
      ap slot_report h ∙ (λ i. report_by (pick (not (sym (below_eight (ltb k 8) refl v) i) || not (sym v i)) 1 0) (slot_at (server_of s slots m) k))

  requests_at : (n : ℕ) → k < 8 → n ≡ length (requests_in m k) → n ≡ length (slot_at (server_of s slots m) k).requests
  requests_at n h e = e ∙ ap length (sym (ap (λ (x : rules.Slot). x.requests) (slot_of_lem s slots m k h) ∙ requests_of_lem m k h))

  pub requests_above : 8 ≤ k → 0 ≡ length (slot_at (server_of s slots m) k).requests
  requests_above h = sym (ap (λ (x : rules.Slot). length x.requests) (slot_above_lem h))

-- by the slot's index
module _ (s : Server) (slots : List Slot) (m : List ℕ) (k : SlotIndex) (slot : ℕ) (q : k.at ≡ slot) where
  pub shows_slot : (x : Slot) → x ≡ slot_in slots k.at → Shows x (slot_at (server_of s slots m) slot)
  shows_slot x e = subst (λ (j : ℕ). Shows x (slot_at (server_of s slots m) j)) q (shows_below s slots m k.at x k.below e)

  pub requests_below : (n : ℕ) → n ≡ length (requests_in m k.at) → n ≡ length (slot_at (server_of s slots m) slot).requests
  requests_below n e = requests_at s slots m k.at n k.below e ∙ ap (λ (j : ℕ). length (slot_at (server_of s slots m) j).requests) q

-- ---- a row
module _ (s : List ℕ) (i : ℕ) where
  row_above : 64 ≤ i → row_at (rows_in s) i ≡ free
  row_above h =
      let n : length (rows_in s) ≡ 64 = rows_length s in
      get_or-eq_default (rows_in s) free {n = i} (omega arith)

  used_below : (b : Bool) → i < 64 → b ≡ is_used (row_in s i) → b ≡ is_used (row_at (rows_in s) i)
  used_below b h e = e ∙ ap is_used (sym (row_get s i h))

  pub used_above : 64 ≤ i → false ≡ is_used (row_at (rows_in s) i)
  used_above h = sym (ap is_used (row_above h))

  -- where a row is used it is one of the rows, and what stands there
  below_by : (b : Bool) → ltb i 64 ≡ b → is_used (row_at (rows_in s) i) ≡ true → i < 64
  below_by true e u = ltb-true i 64 e
  below_by false e u = absurd (false≢true (used_above (ltb-false i 64 e) ∙ u))

  is_below : (b : Bool) → b ≡ is_used (row_at (rows_in s) i) → b ≡ true → i < 64
  is_below b e t = below_by (ltb i 64) refl (sym e ∙ t)

  row_used : (b : Bool) → b ≡ is_used (row_at (rows_in s) i) → b ≡ true → used_row s i ≡ row_at (rows_in s) i
  row_used b e t =
      let at : row_at (rows_in s) i ≡ row_in s i = row_get s i (is_below b e t) in
      sym (at ∙ used_row_lem s i (sym (ap is_used at) ∙ sym e ∙ t))

  free_by : (r : Row) → is_used r ≡ false → free ≡ r
  free_by free h = refl
  free_by (rules.used e v m) h = absurd (false≢true (sym h))

  -- by its index
  pub used_at : (j : Index 64) → j.at ≡ i → (b : Bool) → b ≡ is_used (row_in s j.at) → b ≡ is_used (row_at (rows_in s) i)
  used_at j q b e = used_below b (omega (arith, j.below, q)) (e ∙ ap (λ (n : ℕ). is_used (row_in s n)) q)

  row_shown : (j : Index 64) → j.at ≡ i → true ≡ is_used (row_at (rows_in s) i) → used_row s j.at ≡ row_at (rows_in s) i
  row_shown j q e = ap (λ (n : ℕ). used_row s n) q ∙ row_used true e refl

  -- what a row that may be in use shows, or a free one
  pub row_or : {B : Type 0} (f : Row → B) (o : Option (Index 64)) (r : B) → is_some o ≡ is_used (row_at (rows_in s) i) → IfSome o (λ j. j.at ≡ i)
      → (o ≡ None → r ≡ f free) → ((j : Index 64) → o ≡ Some j → r ≡ f (used_row s j.at)) → r ≡ f (row_at (rows_in s) i)
  row_or f None r u q n h = n refl ∙ ap f (free_by (row_at (rows_in s) i) (sym u))
  row_or f (Some j) r u q n h = h j refl ∙ ap f (row_shown j q u)

  -- no mark above bit 7 of an octet
  unmarked : (k n : ℕ) (b : Bool) → 8 ≤ k → n < 256 → is_marked n k ≡ b → false ≡ b
  unmarked k n true h l e =
      let p : 2 ^ k ≤ n = bit_le k n e in
      let q : 2 ^ 8 ≤ 2 ^ k = pow_mono h in
      absurd (omega arith)
  unmarked k n false h l e = refl

  pub waits_row : (k : ℕ) → 64 ≤ i → false ≡ waits_for k (row_at (rows_in s) i)
  waits_row k h = sym (ap (waits_for k) (row_above h))

  pub waits_slot : (k : ℕ) → i < 64 → 8 ≤ k → octet s (mark_place i) < 256 → false ≡ waits_for k (row_at (rows_in s) i)
  waits_slot k h a l =
      let n : ℕ = octet s (mark_place i) in
      row_case s i (λ (r : Row). false ≡ waits_for k r) refl (unmarked k n (is_marked n k) a l refl) ∙ ap (waits_for k) (sym (row_get s i h))
