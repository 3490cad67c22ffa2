-- Searches and counts over rows, one row at a time.
-- Assumes nothing.
use Rattle.std.proofs.Common.{◌≡◌, ℕ, zero, suc, ◌+◌, ◌<◌, ◌≤◌, Bool, true, false, ◌||◌, List, [], ◌∷◌, length, drop, set, sym, refl, ap, ◌∙◌, add-one, arith, drop_of_length-le, drop-cons}
use mathlib.Core.Bool.{false≢true}
use Rattle.laws.specs.Choice.{pick}
use Rattle.laws.specs.Tables.{has, find, change, count}
use Rattle.rules.specs.Server.{Row, free, row_at}
use Rattle.std.specs.Prelude.{Some, None}
use Rattle.memory.specs.Search.{first_from}

module _ (p : Row → Bool) (rows : List Row) (i : ℕ) where
  pub first_hit : i < length rows → p (row_at rows i) ≡ true → first_from p i (drop i rows) ≡ Some i
  unfolding first_from
  first_hit h t = rw (drop-cons rows i free h, t)

  pub first_miss : i < length rows → p (row_at rows i) ≡ false → first_from p i (drop i rows) ≡ first_from p (i + 1) (drop (i + 1) rows)
  unfolding first_from
  first_miss h t = rw (add-one, drop-cons rows i free h, t)

  pub first_none : length rows ≤ i → first_from p i (drop i rows) ≡ None
  unfolding first_from
  first_none h = rw (drop_of_length-le rows h)

  count_by : (b : Bool) (n : ℕ) → pick b (suc n) n ≡ pick b 1 0 + n
  count_by true n = omega arith
  count_by false n = omega arith

  pub count_step : i < length rows → count p (drop i rows) ≡ pick (p (row_at rows i)) 1 0 + count p (drop (i + 1) rows)
  count_step h = rw (add-one, drop-cons rows i free h) (count_by (p (row_at rows i)) (count p (drop (suc i) rows)))

  pub count_none : length rows ≤ i → count p (drop i rows) ≡ 0
  count_none h = rw (drop_of_length-le rows h)

-- rows that do not pass are passed by at once
module _ (p : Row → Bool) where
  pass_by : (rows : List Row) (k c : ℕ) → ((j : ℕ) → j < c → j < length rows → p (row_at rows j) ≡ false) → first_from p k rows
      ≡ first_from p (k + c) (drop c rows)
  unfolding first_from
  pass_by rows k zero h = let e : k ≡ k + 0 = omega arith in ap (λ n. first_from p n rows) e
  pass_by [] k (suc c) h = refl
  pass_by (r ∷ rows) k (suc c) h =
      let e : suc k + c ≡ k + suc c = omega arith in
      rw (h 0 (omega arith) (omega arith)) (pass_by rows (suc k) c (λ j g l. h (suc j) (omega arith) (omega arith)) ∙ ap (λ n. first_from p n (drop c rows)) e)

  pub passed_by : (rows : List Row) (c : ℕ) → ((j : ℕ) → j < c → j < length rows → p (row_at rows j) ≡ false) → first_from p 0 rows ≡ first_from p c (drop c rows)
  passed_by rows c h = let e : 0 + c ≡ c = omega arith in pass_by rows 0 c h ∙ ap (λ n. first_from p n (drop c rows)) e

-- a row that is found: it passes, it is one of the rows, and none before it passes
pub record First (p : Row → Bool) (rows : List Row) (i : ℕ) : Type 0 where
  pub passes : p (row_at rows i) ≡ true
  pub below : i < length rows
  pub lowest : (j : ℕ) → j < i → p (row_at rows j) ≡ false

module _ (p : Row → Bool) where
  first_later : (r : Row) (rows : List Row) (i : ℕ) → p r ≡ false → First p rows i → First p (r ∷ rows) (suc i)
  first_later r rows i q f = record {
    passes = f.passes;
    below = let b = f.below in omega arith;
    lowest =
        elim [ zero ↦ λ h. q | suc j ↦ λ h. f.lowest j (omega arith) ];
  }

  found_by : (r : Row) (rows : List Row) (k i : ℕ) → ((j : ℕ) → first_from p (suc k) rows ≡ Some j → (n : ℕ) × ((j ≡ suc k + n) × First p rows n))
      → (b : Bool) → p r ≡ b → pick b (Some k) (first_from p (suc k) rows) ≡ Some i → (n : ℕ) × ((i ≡ k + n) × First p (r ∷ rows) n)
  found_by r rows k i ih true q e = let z : k ≡ i = cc in (0, (omega arith, record { passes = q; below = omega arith; lowest = λ j h. absurd (omega arith) }))
  found_by r rows k i ih false q e = let f = ih i e in (suc f.0, (let z : i ≡ suc k + f.0 = f.1.0 in omega arith, first_later r rows f.0 q f.1.1))

  found_from : (rows : List Row) (k i : ℕ) → first_from p k rows ≡ Some i → (n : ℕ) × ((i ≡ k + n) × First p rows n)
  unfolding first_from
  found_from [] k i e = let z : ◌≡◌ {A = ℕ} 0 1 = cc in absurd (omega arith)
  found_from (r ∷ rows) k i e = found_by r rows k i (λ j. found_from rows (suc k) j) (p r) refl e

  pub found : (rows : List Row) (i : ℕ) → first_from p 0 rows ≡ Some i → First p rows i
  found rows i e = let f = found_from rows 0 i e in let e : i ≡ 0 + f.0 = f.1.0 in let z : i ≡ f.0 = omega arith in rw z f.1.1

  -- and such a row is found
  find_by : (r : Row) (rows : List Row) (k : ℕ) → (i : ℕ) → ((n : ℕ) → First p rows n → first_from p (suc k) rows ≡ Some (suc k + n))
      → First p (r ∷ rows) i → pick (p r) (Some k) (first_from p (suc k) rows) ≡ Some (k + i)
  find_by r rows k zero ih f = let z : k ≡ k + 0 = omega arith in rw f.passes (ap Some z)
  find_by r rows k (suc i) ih f =
      let z : suc k + i ≡ k + suc i = omega arith in
      let b = f.below in
      rw (f.lowest 0 (omega arith)) (ih i (record { passes = f.passes; below = omega arith; lowest = λ j h. f.lowest (suc j) (omega arith) }) ∙ ap Some z)

  find_from : (rows : List Row) (k i : ℕ) → First p rows i → first_from p k rows ≡ Some (k + i)
  unfolding first_from
  find_from [] k i f = let b = f.below in absurd (omega arith)
  find_from (r ∷ rows) k i f = find_by r rows k i (λ n. find_from rows (suc k) n) f

  pub finds : (rows : List Row) (i : ℕ) → First p rows i → first_from p 0 rows ≡ Some i
  finds rows i f = let z : 0 + i ≡ i = omega arith in find_from rows 0 i f ∙ ap Some z

  -- nothing is found exactly where no row passes
  nothing_by : (r : Row) (rows : List Row) (k : ℕ) → (first_from p (suc k) rows ≡ None → has p rows ≡ false) → (b : Bool)
      → pick b (Some k) (first_from p (suc k) rows) ≡ None → (b || has p rows) ≡ false
  nothing_by r rows k ih true e = let z : ◌≡◌ {A = ℕ} 0 1 = cc in absurd (omega arith)
  nothing_by r rows k ih false e = ih e

  pub none_found : (rows : List Row) (k : ℕ) → first_from p k rows ≡ None → has p rows ≡ false
  unfolding first_from
  none_found [] k e = refl
  none_found (r ∷ rows) k e = nothing_by r rows k (none_found rows (suc k)) (p r) e

  absent_by : (r : Row) (rows : List Row) (k : ℕ) → (has p rows ≡ false → first_from p (suc k) rows ≡ None) → (b : Bool)
      → (b || has p rows) ≡ false → pick b (Some k) (first_from p (suc k) rows) ≡ None
  absent_by r rows k ih true e = absurd (false≢true (sym e))
  absent_by r rows k ih false e = ih e

  pub finds_none : (rows : List Row) (k : ℕ) → has p rows ≡ false → first_from p k rows ≡ None
  unfolding first_from
  finds_none [] k e = refl
  finds_none (r ∷ rows) k e = absent_by r rows k (finds_none rows (suc k)) (p r) e

  has_later : (a b : Bool) → b ≡ true → (a || b) ≡ true
  has_later true b e = refl
  has_later false b e = e

  pub has_first : (rows : List Row) (i : ℕ) → First p rows i → has p rows ≡ true
  has_first [] i f = let b = f.below in absurd (omega arith)
  has_first (r ∷ rows) zero f = rw f.passes
  has_first (r ∷ rows) (suc i) f =
      let b = f.below in
      has_later (p r) (has p rows) (has_first rows i (record { passes = f.passes; below = omega arith; lowest = λ j h. f.lowest (suc j) (omega arith) }))

  -- the row that is found is the one that changes
  pub change_first : (f : Row → Row) (rows : List Row) (i : ℕ) → First p rows i → change p f rows ≡ set rows i (f (row_at rows i))
  change_first f [] i h = let b = h.below in absurd (omega arith)
  change_first f (r ∷ rows) zero h = rw h.passes
  change_first f (r ∷ rows) (suc i) h =
      let b = h.below in
      rw (h.lowest 0 (omega arith)) (ap (λ z. r ∷ z) (change_first f rows i
      (record { passes = h.passes; below = omega arith; lowest = λ j k. h.lowest (suc j) (omega arith) })))

  -- and the one that is taken out
  pub find_first : (rows : List Row) (i : ℕ) → First p rows i → find p free rows ≡ row_at rows i
  find_first [] i f = refl
  find_first (r ∷ rows) zero f = rw f.passes
  find_first (r ∷ rows) (suc i) f =
      let b = f.below in
      rw (f.lowest 0 (omega arith)) (find_first rows i (record { passes = f.passes; below = omega arith; lowest = λ j h. f.lowest (suc j) (omega arith) }))
