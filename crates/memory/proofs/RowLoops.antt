-- A loop that puts f of each row in its place, from the front.
-- Assumes nothing.
use Rattle.std.proofs.Common.{◌≡◌, ℕ, zero, suc, ◌+◌, ◌<◌, ◌≤◌, List, [], ◌∷◌, ◌++◌, map, length, get_or, take, drop, set, sym, refl, ap, ◌∙◌, append-nil, le_of_suc-le-suc, not-suc-le-zero, add-one, arith, drop_of_length-le, take_all}
use Rattle.rules.specs.Server.{rows_most, Row, free, row_at}
use Rattle.memory.specs.Memory.{rows_in, Memory, memory_of, with_rows}
use Rattle.memory.specs.Marks.{changed_at}
use Rattle.memory.proofs.RowPlaces.{rows_are, rows_length}

module _ {A : Type 0} (f : A → A) (d : A) where
  -- the list with f of its first i
  abbrev pub front : List A → ℕ → List A
  front l i = map f (take i l) ++ drop i l

  front_suc : (l : List A) (i : ℕ) → i < length l → set (front l i) i (f (get_or (front l i) i d)) ≡ front l (suc i)
  front_suc [] i h = absurd (not-suc-le-zero h)
  front_suc (x ∷ l) zero h = refl
  front_suc (x ∷ l) (suc i) h = ap (λ (t : List A). f x ∷ t) (front_suc l i (le_of_suc-le-suc h))

  front_all : (l : List A) (i : ℕ) → length l ≤ i → front l i ≡ map f l
  front_all l i h = (λ k. map f (take_all i l h k) ++ drop_of_length-le l h k) ∙ append-nil (map f l)

module _ (f : Row → Row) (s t : List ℕ) (i : ℕ) (e : memory_of t ≡ with_rows (front f free (rows_in s) i) (memory_of s)) where
  rows_so : rows_in t ≡ front f free (rows_in s) i
  rows_so = sym (rows_are t) ∙ ap (λ (m : Memory). m.rows) e

  pub changed_more : (u : List ℕ) → i < rows_most → memory_of u ≡ changed_at f i t → memory_of u ≡ with_rows (front f free (rows_in s) (i + 1)) (memory_of s)
  changed_more u h g =
      let n : length (rows_in s) ≡ rows_most = rows_length s in
      g ∙ (λ z. with_rows (set (rows_so z) i (f (row_at (rows_so z) i))) (e z))
      ∙ ap (λ (rows : List Row). with_rows rows (memory_of s)) (front_suc f free (rows_in s) i (omega arith) ∙ ap (front f free (rows_in s)) (sym (add-one i)))

  pub changed_all : rows_most ≤ i → memory_of t ≡ with_rows (map f (rows_in s)) (memory_of s)
  changed_all h =
      let n : length (rows_in s) ≡ rows_most = rows_length s in
      e ∙ ap (λ (rows : List Row). with_rows rows (memory_of s)) (front_all f free (rows_in s) i (omega arith))

pub changed_none : (f : Row → Row) (s : List ℕ) → memory_of s ≡ with_rows (front f free (rows_in s) 0) (memory_of s)
unfolding memory_of
changed_none f s = refl
