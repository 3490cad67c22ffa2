-- Rows freed at the end of an event, and a fresh memory.
-- Assumes nothing.
use Rattle.std.proofs.Common.{◌≡◌, ℕ, zero, suc, ◌+◌, ◌-◌, ◌*◌, ◌/◌, ◌%◌, ◌<◌, ◌≤◌, min, Bool, true, false, not, ◌&&◌, eqb, ltb, ◌⊎◌, List, [], ◌∷◌, length, take, set, replicate, pos, negsuc, sym, refl, ap, ◌∙◌, inl, inr, arith, ltb-true, eq-eqb, ne_eqb, eqb-true}
use mathlib.Core.Bool.{and-false, false≢true}
use native.Mathlib.Decide.{ℕ_discrete}
use lib.Signed.{le_z}
use lib.Seq.{set-get_or}
use borrow.Author.Tests.{eqb-false, lt-leb}
use mir.Val.{sel}
use Rattle.laws.specs.Choice.{pick}
use Rattle.laws.specs.Lists.{part, table}
use Rattle.laws.proofs.Bools.{or_false}
use Rattle.protocol.specs.Fields.{octet, field2}
use Rattle.protocol.specs.Numbers.{csa_of}
use Rattle.rules.specs.Server.{slots_most, rows_most, Row, free, row_at}
use Rattle.rules.specs.Rows.{is_purged, any_slot, to_free, swept_row}
use Rattle.memory.specs.Layout.{row_place, length_place, mark_place, top_place, list_place, kept_place}
use Rattle.memory.specs.Memory.{value_at, is_marked, bits_at, row_in, rows_in, request_in, requests_in, kept_in, memory_of, with_rows, fresh_memory}
use Rattle.memory.specs.Search.{with_row, LastOrNone}
use Rattle.memory.proofs.RowPlaces.{rows_length, row_get, is_used_lem, octet_free, octet_used, free_row}
use Rattle.memory.proofs.RowLoops.{front}

-- ---- no mark is an octet 0
module _ (b : ℕ) (low : b < 256) where
  clear : any_slot (is_marked b) ≡ false → b ≡ 0
  clear h =
      let f0 = or_false (is_marked b 0) _ h in
      let f1 = or_false (is_marked b 1) _ f0.1 in
      let f2 = or_false (is_marked b 2) _ f1.1 in
      let f3 = or_false (is_marked b 3) _ f2.1 in
      let f4 = or_false (is_marked b 4) _ f3.1 in
      let f5 = or_false (is_marked b 5) _ f4.1 in
      let f6 = or_false (is_marked b 6) (is_marked b 7) f5.1 in
      let l7 : b < 128 = below7 b low (eqb-false (b / 128 % 2) 1 f6.1) in
      let l6 : b < 64 = below6 b l7 (eqb-false (b / 64 % 2) 1 f6.0) in
      let l5 : b < 32 = below5 b l6 (eqb-false (b / 32 % 2) 1 f5.0) in
      let l4 : b < 16 = below4 b l5 (eqb-false (b / 16 % 2) 1 f4.0) in
      let l3 : b < 8 = below3 b l4 (eqb-false (b / 8 % 2) 1 f3.0) in
      let l2 : b < 4 = below2 b l3 (eqb-false (b / 4 % 2) 1 f2.0) in
      let l1 : b < 2 = below1 b l2 (eqb-false (b / 2 % 2) 1 f1.0) in
      let l0 : b < 1 = below0 b l1 (eqb-false (b / 1 % 2) 1 f0.0) in
      omega arith where
        below7 : (b : ℕ) → b < 256 → (b / 128 % 2 ≡ 1 → ⊥) → b < 128
        below7 b h n = omega arith

        below6 : (b : ℕ) → b < 128 → (b / 64 % 2 ≡ 1 → ⊥) → b < 64
        below6 b h n = omega arith

        below5 : (b : ℕ) → b < 64 → (b / 32 % 2 ≡ 1 → ⊥) → b < 32
        below5 b h n = omega arith

        below4 : (b : ℕ) → b < 32 → (b / 16 % 2 ≡ 1 → ⊥) → b < 16
        below4 b h n = omega arith

        below3 : (b : ℕ) → b < 16 → (b / 8 % 2 ≡ 1 → ⊥) → b < 8
        below3 b h n = omega arith

        below2 : (b : ℕ) → b < 8 → (b / 4 % 2 ≡ 1 → ⊥) → b < 4
        below2 b h n = omega arith

        below1 : (b : ℕ) → b < 4 → (b / 2 % 2 ≡ 1 → ⊥) → b < 2
        below1 b h n = omega arith

        below0 : (b : ℕ) → b < 2 → (b / 1 % 2 ≡ 1 → ⊥) → b < 1
        below0 b h n = omega arith

  any_by : (a : Bool) → any_slot (is_marked b) ≡ a → a ≡ not (eqb b 0)
  any_by true h = rw (ne_eqb b 0 (λ z. false≢true (sym (ap (λ x. any_slot (is_marked x)) z) ∙ h)))
  any_by false h = rw (eq-eqb b 0 (clear h))

  pub any_slot_lem : any_slot (is_marked b) ≡ not (eqb b 0)
  any_slot_lem = any_by (any_slot (is_marked b)) refl

no_marks_by : (x : ℕ) (b : Bool) → eqb x 0 ≡ b → not (not b) ≡ true → x ≡ 0
no_marks_by x true e h = eqb-true x 0 e
no_marks_by x false e h = absurd (false≢true h)

pub no_marks : (x : ℕ) → not (not (eqb x 0)) ≡ true → x ≡ 0
no_marks x = no_marks_by x (eqb x 0) refl

-- ---- a row to free
-- 2147483647 is the bits 0x7FFFFFFF, no other
bits_by : (n : ℕ) (b : Bool) → ltb n 2147483648 ≡ b → (n ≡ 2147483647 → ⊥) → le_z (pos 2147483647) (sel b (pos n) (negsuc (4294967296 - suc n))) ≡ false
bits_by n true e h = lt-leb 2147483647 n (let l : n < 2147483648 = ltb-true n 2147483648 e in omega arith)
bits_by n false e h = refl

unpurged : (n : ℕ) → (n ≡ 2147483647 → ⊥) → is_purged (csa_of n) ≡ false
unpurged n h = bits_by n (ltb n 2147483648) refl h

top_octet : (a b c d : ℕ) → b < 256 → c < 256 → d < 256 → (a ≡ 127 → ⊥) → ((a * 256 + b) * 256 + c) * 256 + d ≡ 2147483647 → ⊥
top_octet a b c d hb hc hd n e = n (omega arith)

module _ (s : List ℕ) (i : ℕ) where
  kept_free : octet s (length_place i) ≡ 0 → to_free (row_in s i) ≡ false
  kept_free z = ap to_free (octet_free s i z)

  pub kept_unused : not (eqb (octet s (length_place i)) 0) ≡ false → to_free (row_in s i) ≡ false
  kept_unused h = ap to_free (free_row s i (is_used_lem s i ∙ h))

  module _ (u : octet s (length_place i) ≡ 0 → ⊥) where
    told : to_free (row_in s i) ≡ (is_purged (value_at s i).number && not (any_slot (is_marked (octet s (mark_place i)))))
    told = ap to_free (octet_used s i u)

    used_waiting : octet s (mark_place i) < 256 → (octet s (mark_place i) ≡ 0 → ⊥) → to_free (row_in s i) ≡ false
    used_waiting low n =
        told ∙ ap (λ b. is_purged (value_at s i).number && not b) (any_slot_lem (octet s (mark_place i)) low)
        ∙ ap (λ b. is_purged (value_at s i).number && not (not b)) (ne_eqb (octet s (mark_place i)) 0 n) ∙ and-false (is_purged (value_at s i).number)

    pub purged_free : octet s (mark_place i) ≡ 0 → {p : Bool} → p ≡ is_purged (value_at s i).number → p ≡ to_free (row_in s i)
    purged_free z {p} e = e ∙ yes (is_purged (value_at s i).number) ∙ sym (told ∙ ap (λ m. is_purged (value_at s i).number && not (any_slot (is_marked m))) z) where
      yes : (b : Bool) → b ≡ (b && not (any_slot (is_marked 0)))
      yes true = refl
      yes false = refl

  by_length : (x : ℕ) → octet s (length_place i) ≡ x → ((octet s (length_place i) ≡ 0 → ⊥) → to_free (row_in s i) ≡ false) → to_free (row_in s i) ≡ false
  by_length zero e f = kept_free e
  by_length (suc x) e f = f (λ z. omega (arith, e, z))

  pub kept_waiting : octet s (mark_place i) < 256 → (octet s (mark_place i) ≡ 0 → ⊥) → to_free (row_in s i) ≡ false
  kept_waiting low n = by_length (octet s (length_place i)) refl (λ u. used_waiting u low n)

  pub kept_number : ((j : ℕ) → octet s j < 256) → (octet s (top_place i) ≡ 127 → ⊥) → to_free (row_in s i) ≡ false
  kept_number low n =
      let at : ℕ = row_place i in
      let p : is_purged (value_at s i).number ≡ false =
      unpurged (bits_at s i) (top_octet (octet s (top_place i)) (octet s (at + 5)) (octet s (at + 6)) (octet s (at + 7)) (low (at + 5)) (low (at + 6))
      (low (at + 7)) n) in
      by_length (octet s (length_place i)) refl (λ u. told u ∙ ap (λ b. b && not (any_slot (is_marked (octet s (mark_place i))))) p)

-- ---- the first that may be one
-- no row before r, of the first i, is to be freed
abbrev pub LastTo : List ℕ → ℕ → ℕ → Type 0
LastTo s i r = (i ≤ 64) × ((j : ℕ) → j < r → j < i → to_free (row_in s j) ≡ false)

module _ (s : List ℕ) (low : (j : ℕ) → octet s j < 256) where
  not_this : (i : ℕ) → (octet s (length_place i) ≡ 0) ⊎ ((octet s (mark_place i) ≡ 0 → ⊥) ⊎ (octet s (top_place i) ≡ 127 → ⊥)) → to_free (row_in s i) ≡ false
  not_this i (inl z) = kept_free s i z
  not_this i (inr (inl n)) = kept_waiting s i (low (mark_place i)) n
  not_this i (inr (inr n)) = kept_number s i low n

  pub last_more : (i r x r' : ℕ) → i < 64 → LastTo s i r → LastOrNone (octet s (length_place i)) (octet s (mark_place i)) (octet s (top_place i)) i x
      → r' ≡ min r x → LastTo s (i + 1) r'
  last_more i r x r' h f g m = (omega arith, λ j a b. by j a b (ℕ_discrete j i)) where
    by : (j : ℕ) → j < r' → j < i + 1 → Dec (j ≡ i) → to_free (row_in s j) ≡ false
    by j a b (yes e) = ap (λ n. to_free (row_in s n)) e ∙ not_this i (g.not (λ z. omega (arith, m, a, e, z)))
    by j a b (no e) = f.1 j (omega (arith, m, a)) (omega (arith, e))

-- ---- the rows before it stay
front_same : (l : List Row) (i : ℕ) → ((j : ℕ) → j < i → j < length l → to_free (row_at l j) ≡ false) → front swept_row free l i ≡ l
front_same [] zero h = refl
front_same [] (suc i) h = refl
front_same (r ∷ l) zero h = refl
front_same (r ∷ l) (suc i) h =
    λ z. pick (h 0 (omega arith) (omega arith) z) free r ∷ front_same l i (λ j a b. h (suc j) (omega arith) (omega arith)) z

pub swept_first : (s : List ℕ) (r : ℕ) → ((j : ℕ) → j < r → j < rows_most → to_free (row_in s j) ≡ false)
    → memory_of s ≡ with_rows (front swept_row free (rows_in s) r) (memory_of s)
unfolding memory_of
swept_first s r f =
    let n : length (rows_in s) ≡ rows_most = rows_length s in
    ap (λ (rows : List Row). with_rows rows (memory_of s))
    (sym (front_same (rows_in s) r (λ j a b. ap to_free (row_get s j (omega arith)) ∙ f j a (omega arith))))

-- ---- row i swept

pub swept_not : (s : List ℕ) (i : ℕ) {b : Bool} → i < rows_most → b ≡ to_free (row_in s i) → b ≡ false → memory_of s ≡ with_row s i (swept_row (row_in s i))
unfolding memory_of
swept_not s i h e f =
    ap (λ (rows : List Row). with_rows rows (memory_of s)) (sym (ap (set (rows_in s) i)
    (ap (λ (x : Bool). pick x free (row_in s i)) (sym e ∙ f) ∙ sym (row_get s i h)) ∙ set-get_or (rows_in s) i free))

-- ---- zeros
table_all : {A : Type 0} (f : ℕ → A) (x : A) → ((j : ℕ) → f j ≡ x) → (n i : ℕ) → table f n i ≡ replicate n x
table_all f x h zero i = refl
table_all f x h (suc n) i = λ k. h i k ∷ table_all f x h n (suc i) k

module _ (s : List ℕ) (zeros : (j : ℕ) → octet s j ≡ 0) where
  zero_field : (at : ℕ) → field2 s at ≡ 0
  zero_field at = let a = zeros at in let b = zeros (at + 1) in omega arith

  no_row : (i : ℕ) → row_in s i ≡ free
  no_row i = octet_free s i (zeros (length_place i))

  no_requests : (k : ℕ) → requests_in s k ≡ []
  unfolding requests_in
  no_requests k = ap (λ n. take n (table (request_in s k) 64 0)) (zero_field (list_place k))

  no_kept : (k : ℕ) → kept_in s k ≡ []
  unfolding kept_in
  no_kept k = ap (λ n. take n (part s (kept_place k + 2) 284)) (zero_field (kept_place k))

  pub zero_memory : memory_of s ≡ fresh_memory
  unfolding memory_of rows_in
  zero_memory = λ j. record {
    rows = table_all (row_in s) free no_row rows_most 0 j;
    requests = table_all (requests_in s) [] no_requests slots_most 0 j;
    kept = table_all (kept_in s) [] no_kept slots_most 0 j;
  }

zero_at : (n j : ℕ) → octet (replicate n 0) j ≡ 0
zero_at zero j = refl
zero_at (suc n) zero = refl
zero_at (suc n) (suc j) = zero_at n j

pub zeros_filled : (n : ℕ) (s : List ℕ) → s ≡ replicate n 0 → memory_of s ≡ fresh_memory
zeros_filled n s e = zero_memory s (λ j. ap (λ (l : List ℕ). octet l j) e ∙ zero_at n j)
