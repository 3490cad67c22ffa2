-- Laws of tables by their cells; d is what stands past the end.
-- Assumes nothing.
use Prim.Native.Nat.{ℕ, zero, suc, ◌<◌}
use mathlib.Core.Path.{◌≡◌, refl, sym, ap, ◌∙◌}
use mathlib.Core.Bool.{Bool, true, false, ◌||◌, false≢true}
use mathlib.Core.List.{List, [], ◌∷◌}
use mathlib.Core.Logic.{◌⊎◌, inl, inr}
use native.Mathlib.Decide.{ℕ_discrete}
use native.Mathlib.Omega.{arith}
use lib.ListN.{length, get_or, set, take, replicate}
use Rattle.laws.specs.Choice.{pick}
use Rattle.laws.specs.Lists.{All}
use Rattle.laws.specs.Tables.{has, find, change, update, without, In, here, there}
use Rattle.laws.proofs.Bools.{or_false, or_right, is_false, pick_of}

-- ---- every cell
pub all_alike : {A : Type 0} (x : A) (n i : ℕ) → get_or (replicate n x) i x ≡ x
all_alike x zero i = refl
all_alike x (suc n) zero = refl
all_alike x (suc n) (suc i) = all_alike x n i

-- what holds of each cell and of the new one holds of each after a set
pub each_set : {A : Type 0} (P : A → Type 0) (d y : A) → P y → (l : List A) (k : ℕ) → ((j : ℕ) → P (get_or l j d)) → (j : ℕ) → P (get_or (set l k y) j d)
each_set P d y p [] k h j = h j
each_set P d y p (x ∷ l) zero h zero = p
each_set P d y p (x ∷ l) zero h (suc j) = h (suc j)
each_set P d y p (x ∷ l) (suc k) h zero = h 0
each_set P d y p (x ∷ l) (suc k) h (suc j) = each_set P d y p l k (λ i. h (suc i)) j

-- what holds of each cell and past the end holds of each of the first n
pub each_take : {A : Type 0} (P : A → Type 0) (d : A) → P d → (n : ℕ) (l : List A) → ((j : ℕ) → P (get_or l j d)) → (j : ℕ) → P (get_or (take n l) j d)
each_take P d p zero l h j = p
each_take P d p (suc n) [] h j = p
each_take P d p (suc n) (x ∷ l) h zero = h 0
each_take P d p (suc n) (x ∷ l) h (suc j) = each_take P d p n l (λ i. h (suc i)) j

-- the cell that is set, if it is there
pub set_here : {A : Type 0} (d y : A) (l : List A) (k : ℕ) → (get_or (set l k y) k d ≡ y) ⊎ (get_or (set l k y) k d ≡ d)
set_here d y [] k = inr refl
set_here d y (x ∷ l) zero = inl refl
set_here d y (x ∷ l) (suc k) = set_here d y l k

pub all_cells : {A : Type 0} (Q : A → Type 0) (d : A) (p : A → Bool) (l : List A) → ((i : ℕ) → Q (get_or l i d)) → All Q (without p l)
all_cells Q d p [] h = tt
all_cells Q d p (x ∷ l) h =
    let r = all_cells Q d p l (λ i. h (suc i)) in pick_of (All Q) (p x) (without p l) (x ∷ without p l) r (h 0, r)

-- a cell that does not pass is among those that do not
pub in_without : {A : Type 0} (p : A → Bool) (d : A) → p d ≡ true → (l : List A) (i : ℕ) → p (get_or l i d) ≡ false → In (get_or l i d) (without p l)
in_without p d pd [] i h = absurd (false≢true (sym h ∙ pd))
in_without p d pd (x ∷ l) zero h = rw h here
in_without p d pd (x ∷ l) (suc i) h =
    let r = in_without p d pd l i h in pick_of (In (get_or l i d)) (p x) (without p l) (x ∷ without p l) r (there r)

-- ---- some cell
module _ {A : Type 0} (d : A) (p : A → Bool) where
  pub has_false : p d ≡ false → (l : List A) → has p l ≡ false → (i : ℕ) → p (get_or l i d) ≡ false
  has_false z [] n i = z
  has_false z (x ∷ xs) n zero = (or_false (p x) (has p xs) n).0
  has_false z (x ∷ xs) n (suc i) = has_false z xs (or_false (p x) (has p xs) n).1 i

  has_head : (x : A) (xs : List A) → (has p xs ≡ true → (i : ℕ) × (p (get_or xs i d) ≡ true)) → (b : Bool) → p x ≡ b
      → (b || has p xs) ≡ true → (i : ℕ) × (p (get_or (x ∷ xs) i d) ≡ true)
  has_head x xs ih true q e = (0, q)
  has_head x xs ih false q e = let r = ih e in (suc r.0, r.1)

  pub has_true : (l : List A) → has p l ≡ true → (i : ℕ) × (p (get_or l i d) ≡ true)
  has_true [] e = absurd (false≢true e)
  has_true (x ∷ xs) e = has_head x xs (has_true xs) (p x) refl e

  pub has_at : p d ≡ false → (l : List A) (i : ℕ) → p (get_or l i d) ≡ true → has p l ≡ true
  has_at z [] i h = absurd (false≢true (sym z ∙ h))
  has_at z (x ∷ xs) zero h = rw h
  has_at z (x ∷ xs) (suc i) h = or_right (p x) (has p xs) (has_at z xs i h)

  -- the first that passes, if one does
  find_has_by : (x : A) (xs : List A) → (has p xs ≡ true → p (find p d xs) ≡ true) → (b : Bool) → p x ≡ b → (b || has p xs) ≡ true
      → p (pick b x (find p d xs)) ≡ true
  find_has_by x xs ih true q e = q
  find_has_by x xs ih false q e = ih e

  pub find_has : (l : List A) → has p l ≡ true → p (find p d l) ≡ true
  find_has [] e = absurd (false≢true e)
  find_has (x ∷ xs) e = find_has_by x xs (find_has xs) (p x) refl e

  pub find_none : (l : List A) → has p l ≡ false → find p d l ≡ d
  find_none [] e = refl
  find_none (x ∷ xs) e = let r = or_false (p x) (has p xs) e in rw (r.0, find_none xs r.1)

  -- a cell that passes is one of the list, if d does not pass
  pub within : p d ≡ false → (l : List A) (i : ℕ) → p (get_or l i d) ≡ true → i < length l
  within z [] i h = absurd (false≢true (sym z ∙ h))
  within z (x ∷ l) zero h = omega arith
  within z (x ∷ l) (suc i) h = let w = within z l i h in omega arith

  -- at most one cell passes
  abbrev pub AtMostOne : List A → Type 0
  AtMostOne l = (i j : ℕ) → p (get_or l i d) ≡ true → p (get_or l j d) ≡ true → i ≡ j

  rest_at_most : (x : A) (xs : List A) → AtMostOne (x ∷ xs) → AtMostOne xs
  rest_at_most x xs h i j q r = let z = h (suc i) (suc j) q r in omega arith

  -- then the first is the one
  found_by : (x : A) (xs : List A) (i : ℕ) → AtMostOne (x ∷ xs) → find p d xs ≡ get_or xs i d → p (get_or xs i d) ≡ true → (b : Bool) → p x ≡ b
      → pick b x (find p d xs) ≡ get_or xs i d
  found_by x xs i h ih t true e = let z = h 0 (suc i) e t in absurd (omega arith)
  found_by x xs i h ih t false e = ih

  pub one_found : (l : List A) → AtMostOne l → (i : ℕ) → p (get_or l i d) ≡ true → find p d l ≡ get_or l i d
  one_found [] h i t = refl
  one_found (x ∷ xs) h zero t = rw t
  one_found (x ∷ xs) h (suc i) t = found_by x xs i h (one_found xs (rest_at_most x xs h) i t) t (p x) refl

  -- and a change of the first is a change of all
  none_update : (f : A → A) (l : List A) → ((i : ℕ) → p (get_or l i d) ≡ true → ⊥) → update p f l ≡ l
  none_update f [] h = refl
  none_update f (x ∷ xs) h = rw (is_false (p x) (h 0), none_update f xs (λ i. h (suc i)))

  change_update_by : (f : A → A) (x : A) (xs : List A) → AtMostOne (x ∷ xs) → change p f xs ≡ update p f xs → (b : Bool) → p x ≡ b
      → pick b (f x ∷ xs) (x ∷ change p f xs) ≡ pick b (f x) x ∷ update p f xs
  change_update_by f x xs h ih true e = rw (none_update f xs (λ i q. let z = h 0 (suc i) e q in omega arith))
  change_update_by f x xs h ih false e = rw ih

  pub change_update : (f : A → A) (l : List A) → AtMostOne l → change p f l ≡ update p f l
  change_update f [] h = refl
  change_update f (x ∷ xs) h =
      change_update_by f x xs h (change_update f xs (rest_at_most x xs h)) (p x) refl

-- ---- a change is at one cell, or nowhere
module _ {A : Type 0} (d : A) where
  pub data Changed (p : A → Bool) (f : A → A) (l m : List A) : Type 0 where
    nowhere : ((i : ℕ) → get_or m i d ≡ get_or l i d) → Changed p f l m
    at_cell : (i : ℕ) → p (get_or l i d) ≡ true → get_or m i d ≡ f (get_or l i d) → ((j : ℕ) → (j ≡ i → ⊥) → get_or m j d ≡ get_or l j d) → Changed p f l m

  module _ (p : A → Bool) (f : A → A) where
    others : (x : A) (xs ys : List A) (i : ℕ) → ((j : ℕ) → (j ≡ i → ⊥) → get_or ys j d ≡ get_or xs j d)
        → (j : ℕ) → (j ≡ suc i → ⊥) → get_or (x ∷ ys) j d ≡ get_or (x ∷ xs) j d
    others x xs ys i h zero n = refl
    others x xs ys i h (suc j) n = h j (λ q. n (ap suc q))

    later : (x : A) (xs ys : List A) → Changed p f xs ys → Changed p f (x ∷ xs) (x ∷ ys)
    later x xs ys (nowhere h) = nowhere (elim [ zero ↦ refl | suc i ↦ h i ])
    later x xs ys (at_cell i q e h) = at_cell (suc i) q e (others x xs ys i h)

    head_only : (x y : A) (xs : List A) (j : ℕ) → (j ≡ 0 → ⊥) → get_or (y ∷ xs) j d ≡ get_or (x ∷ xs) j d
    head_only x y xs zero n = absurd (n refl)
    head_only x y xs (suc j) n = refl

    changed_by : (x : A) (xs : List A) → Changed p f xs (change p f xs) → (b : Bool) → p x ≡ b
        → Changed p f (x ∷ xs) (pick b (f x ∷ xs) (x ∷ change p f xs))
    changed_by x xs ih true e = at_cell 0 e refl (head_only x (f x) xs)
    changed_by x xs ih false e = later x xs (change p f xs) ih

    pub changed : (l : List A) → Changed p f l (change p f l)
    changed [] = nowhere (λ i. refl)
    changed (x ∷ xs) = changed_by x xs (changed xs) (p x) refl

    pub length_change : (l : List A) → length (change p f l) ≡ length l
    length_change [] = refl
    length_change (x ∷ xs) =
        pick_of (λ (m : List A). length m ≡ suc (length xs)) (p x) (f x ∷ xs) (x ∷ change p f xs) refl (ap suc (length_change xs))

    -- what holds between a cell and itself, and between the cell that passes and its change, holds of each cell before and after
    each_by : (R : A → A → Type 0) → ((x : A) → R x x) → (l m : List A) → ((i : ℕ) → p (get_or l i d) ≡ true → R (get_or l i d) (f (get_or l i d)))
        → Changed p f l m → (i : ℕ) → R (get_or l i d) (get_or m i d)
    each_by R same l m one (nowhere h) i = rw (h i) (same (get_or l i d))
    each_by R same l m one (at_cell k q e h) i = by (ℕ_discrete i k) where
      by : Dec (i ≡ k) → R (get_or l i d) (get_or m i d)
      by (yes z) = rw (z, e) (one k q)
      by (no z) = rw (h i z) (same (get_or l i d))

    pub each_change : (R : A → A → Type 0) → ((x : A) → R x x) → (l : List A)
        → ((i : ℕ) → p (get_or l i d) ≡ true → R (get_or l i d) (f (get_or l i d))) → (i : ℕ) → R (get_or l i d) (get_or (change p f l) i d)
    each_change R same l one i = each_by R same l (change p f l) one (changed l) i

-- a change that the test and a view do not see: the view of the first that passes is as it was
viewed_by : {A B : Type 0} (g : A → B) (a b : Bool) (x x' y y' : A) → a ≡ b → g x ≡ g x' → g y ≡ g y' → g (pick a x y) ≡ g (pick b x' y')
viewed_by g true b x x' y y' e p q = rw (← e) p
viewed_by g false b x x' y y' e p q = rw (← e) q

pub found_same : {A B : Type 0} (d : A) (p q : A → Bool) (f : A → A) (g : A → B) → ((x : A) → p (f x) ≡ p x) → ((x : A) → g (f x) ≡ g x) → (l : List A)
    → g (find p d (change q f l)) ≡ g (find p d l)
found_same d p q f g hp hg [] = refl
found_same d p q f g hp hg (x ∷ l) =
    pick_of (λ m. g (find p d m) ≡ g (find p d (x ∷ l))) (q x) (f x ∷ l) (x ∷ change q f l)
    (viewed_by g (p (f x)) (p x) (f x) x (find p d l) (find p d l) (hp x) (hg x) refl)
    (viewed_by g (p x) (p x) x x (find p d (change q f l)) (find p d l) refl refl (found_same d p q f g hp hg l))
