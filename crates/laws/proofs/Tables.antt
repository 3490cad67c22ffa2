-- Laws of tables: lists of octets that are the same; a function changed at one number; cells under a map, and those that do not pass a test.
-- Assumes nothing.
use Prim.Native.Nat.{ℕ, suc, ◌≤◌, ◌<◌}
use mathlib.Core.Path.{◌≡◌, refl, sym, ap, ◌∙◌}
use mathlib.Core.Logic.{inl, inr}
use mathlib.Core.Bool.{Bool, true, false, ◌&&◌, ◌||◌, false≢true}
use mathlib.Core.List.{List, [], ◌∷◌, ◌++◌, map}
use native.Mathlib.Omega.{arith}
use lib.Dec.{eqb, ltb, leb-suc-suc}
use lib.ListN.{length, length-append, get_or, set}
use Rattle.std.proofs.lemmas.Bool.{cases_eq}
use Rattle.std.proofs.lemmas.Grind.{get_or-set_at}
use Rattle.std.proofs.lemmas.List.{get_or-set_other}
use borrow.Author.Tests.{lt-ltb, eqb-true, eqb-false, eq-eqb, ne_eqb}
use Rattle.laws.specs.Choice.{pick}
use Rattle.laws.specs.Lists.{All}
use Rattle.laws.specs.Tables.{on, has, change, without, count, same, In, here, there}
use Rattle.laws.proofs.Bools.{and_true, is_false, pick_of}

-- ---- a function changed at one number
module _ {A : Type 0} (k : ℕ) (b : A) (f : ℕ → A) where
  pub on_here : on k b f k ≡ b
  on_here = rw (eq-eqb k k refl) refl

  pub on_other : (j : ℕ) → (j ≡ k → ⊥) → on k b f j ≡ f j
  on_other j far = rw (ne_eqb j k far) refl

-- the cells of a list, one of them set
pub set_on : {A : Type 0} (l : List A) (k : ℕ) (y d : A) (j : ℕ) → k < length l → get_or (set l k y) j d ≡ on k y (λ i. get_or l i d) j
set_on l k y d j h =
    elim (cases_eq j k) [
      | inl e ↦ get_or-set_at l k j y d e h ∙ sym (on_here k y (λ i. get_or l i d)) ∙ ap (on k y (λ i. get_or l i d)) (sym e)
      | inr f ↦ get_or-set_other l k j y d f ∙ sym (on_other k y (λ i. get_or l i d) j f)
    ]

-- ---- some cell passes where one is counted
count_by : (b more : Bool) (n : ℕ) → (0 < n → more ≡ true) → 0 < pick b (suc n) n → (b || more) ≡ true
count_by true more n h l = refl
count_by false more n h l = h l

pub count_has : {A : Type 0} (p : A → Bool) (l : List A) → 0 < count p l → has p l ≡ true
count_has p [] h = absurd (omega arith)
count_has p (x ∷ l) h = count_by (p x) (has p l) (count p l) (count_has p l) h

-- ---- the same octets
pub same_refl : (l : List ℕ) → same l l ≡ true
same_refl [] = refl
same_refl (x ∷ xs) = rw (eq-eqb x x refl) (same_refl xs)

pub same_true : (l m : List ℕ) → same l m ≡ true → l ≡ m
same_true [] [] e = refl
same_true [] (y ∷ ys) e = absurd (false≢true e)
same_true (x ∷ xs) [] e = absurd (false≢true e)
same_true (x ∷ xs) (y ∷ ys) e =
    let p = and_true (eqb x y) (same xs ys) e in
    let q : x ≡ y = eqb-true x y p.0 in
    let r : xs ≡ ys = same_true xs ys p.1 in
    cc

eqb_sym_by : (x y : ℕ) (b : Bool) → eqb x y ≡ b → b ≡ eqb y x
eqb_sym_by x y true e = sym (eq-eqb y x (sym (eqb-true x y e)))
eqb_sym_by x y false e = sym (ne_eqb y x (λ h. eqb-false x y e (sym h)))

pub same_sym : (l m : List ℕ) → same l m ≡ same m l
same_sym [] [] = refl
same_sym [] (y ∷ ys) = refl
same_sym (x ∷ xs) [] = refl
same_sym (x ∷ xs) (y ∷ ys) = rw (eqb_sym_by x y (eqb x y) refl, same_sym xs ys)

-- lists of different lengths are not
pub same_long : (l m : List ℕ) → (length l ≡ length m → ⊥) → same l m ≡ false
same_long l m n = is_false (same l m) (λ e. n (ap length (same_true l m e)))

and_assoc : (a b c : Bool) → (a && (b && c)) ≡ ((a && b) && c)
and_assoc true b c = refl
and_assoc false b c = refl

-- in two parts, of which the second are of one length
pub same_append : (a b c d : List ℕ) → length c ≡ length d → same (a ++ c) (b ++ d) ≡ (same a b && same c d)
same_append [] [] c d h = refl
same_append [] (y ∷ b) c d h = same_long c (y ∷ (b ++ d)) (λ e. let f = length-append b d in omega arith)
same_append (x ∷ a) [] c d h = same_long (x ∷ (a ++ c)) d (λ e. let f = length-append a c in omega arith)
same_append (x ∷ a) (y ∷ b) c d h = ap (λ z. eqb x y && z) (same_append a b c d h) ∙ and_assoc (eqb x y) (same a b) (same c d)

-- ---- under a map
module _ {A B : Type 0} (g : A → B) where
  pub map_map : (f : A → A) (f' : B → B) → ((x : A) → f' (g x) ≡ g (f x)) → (l : List A) → map f' (map g l) ≡ map g (map f l)
  map_map f f' h [] = refl
  map_map f f' h (x ∷ xs) = rw (h x, map_map f f' h xs)

  -- the same, where it is known of the cells that are there
  pub map_map_all : (P : A → Type 0) (f : A → A) (f' : B → B) → ((x : A) → P x → f' (g x) ≡ g (f x)) → (l : List A) → All P l
      → map f' (map g l) ≡ map g (map f l)
  map_map_all P f f' h [] n = refl
  map_map_all P f f' h (x ∷ xs) n = rw (h x n.0, map_map_all P f f' h xs n.1)

  pub has_map : (p : A → Bool) (q : B → Bool) → ((x : A) → q (g x) ≡ p x) → (l : List A) → has q (map g l) ≡ has p l
  has_map p q h [] = refl
  has_map p q h (x ∷ xs) = rw (h x, has_map p q h xs)

  pub all_map : (Q : B → Type 0) (l : List A) → All Q (map g l) → All (λ x. Q (g x)) l
  all_map Q [] h = tt
  all_map Q (x ∷ l) h = (h.0, all_map Q l h.1)

  pub map_in : (x : A) (l : List A) → In x l → In (g x) (map g l)
  map_in x [] i = elim i [ ]
  map_in x (a ∷ l) here = here
  map_in x (a ∷ l) (there i) = there (map_in x l i)

  in_map_by : (a : A) (l : List A) (y : B) → In y (g a ∷ map g l) → (In y (map g l) → (x : A) × In x l × (g x ≡ y))
      → (x : A) × In x (a ∷ l) × (g x ≡ y)
  in_map_by a l y here k = (a, here, refl)
  in_map_by a l y (there i) k = let h = k i in (h.0, there h.1, h.2)

  pub in_map : (y : B) (l : List A) → In y (map g l) → (x : A) × In x l × (g x ≡ y)
  in_map y [] i = elim i [ ]
  in_map y (a ∷ l) i = in_map_by a l y i (in_map y l)

  without_map_by : (p : A → Bool) (q : B → Bool) (x : A) (xs : List A) → without q (map g xs) ≡ map g (without p xs) → (b : Bool)
      → pick b (without q (map g xs)) (g x ∷ without q (map g xs)) ≡ map g (pick b (without p xs) (x ∷ without p xs))
  without_map_by p q x xs ih true = ih
  without_map_by p q x xs ih false = rw ih

  pub without_map : (p : A → Bool) (q : B → Bool) → ((x : A) → q (g x) ≡ p x) → (l : List A) → without q (map g l) ≡ map g (without p l)
  without_map p q h [] = refl
  without_map p q h (x ∷ xs) = rw (h x) (without_map_by p q x xs (without_map p q h xs) (p x))

-- ---- the cells that do not pass p
module _ {A : Type 0} (p : A → Bool) where
  -- a change that keeps the test p
  pub without_same : (f : A → A) → ((x : A) → p (f x) ≡ p x) → (l : List A) → without p (map f l) ≡ map f (without p l)
  without_same f h l = without_map f p p h l

  -- a test that none of those that pass p passes
  has_without_by : (q : A → Bool) (x : A) (xs : List A) → (p x ≡ true → q x ≡ false) → has q (without p xs) ≡ has q xs → (b : Bool)
      → p x ≡ b → has q (pick b (without p xs) (x ∷ without p xs)) ≡ (q x || has q xs)
  has_without_by q x xs h ih true e = rw (h e, ih)
  has_without_by q x xs h ih false e = rw ih

  pub has_without : (q : A → Bool) → ((x : A) → p x ≡ true → q x ≡ false) → (l : List A) → has q (without p l) ≡ has q l
  has_without q h [] = refl
  has_without q h (x ∷ xs) = has_without_by q x xs (h x) (has_without q h xs) (p x) refl

  -- a change after which those that passed p still do
  without_more_by : (f : A → A) (x : A) (xs : List A) → (p x ≡ true → p (f x) ≡ true)
      → without p (map f xs) ≡ without p (map f (without p xs)) → (b : Bool) → p x ≡ b
      → pick (p (f x)) (without p (map f xs)) (f x ∷ without p (map f xs)) ≡ without p (map f (pick b (without p xs) (x ∷ without p xs)))
  without_more_by f x xs h ih true e = rw (h e) ih
  without_more_by f x xs h ih false e = rw ih

  pub without_more : (f : A → A) → ((x : A) → p x ≡ true → p (f x) ≡ true) → (l : List A)
      → without p (map f l) ≡ without p (map f (without p l))
  without_more f h [] = refl
  without_more f h (x ∷ xs) = without_more_by f x xs (h x) (without_more f h xs) (p x) refl

  -- a cell passes where fewer are left than there were
  few : (l : List A) → length (without p l) ≤ length l
  few [] = omega arith
  few (x ∷ xs) =
      let h = few xs in
      pick_of (λ (m : List A). length m ≤ suc (length xs)) (p x) (without p xs) (x ∷ without p xs) (omega arith) (omega arith)

  room_by : (x : A) (xs : List A) → has p xs ≡ ltb (length (without p xs)) (length xs) → (b : Bool)
      → (b || has p xs) ≡ ltb (length (pick b (without p xs) (x ∷ without p xs))) (suc (length xs))
  room_by x xs ih true = let h = few xs in sym (lt-ltb (length (without p xs)) (suc (length xs)) (omega arith))
  room_by x xs ih false = ih ∙ sym (leb-suc-suc (suc (length (without p xs))) (length xs))

  pub room : (l : List A) → has p l ≡ ltb (length (without p l)) (length l)
  room [] = refl
  room (x ∷ xs) = room_by x xs (room xs) (p x)

  -- where none passes, nothing changes
  full_by : (f : A → A) (x : A) (xs : List A) → (has p xs ≡ false → change p f xs ≡ xs) → (b : Bool) → (b || has p xs) ≡ false
      → pick b (f x ∷ xs) (x ∷ change p f xs) ≡ x ∷ xs
  full_by f x xs ih true h = absurd (false≢true (sym h))
  full_by f x xs ih false h = rw (ih h)

  pub full : (f : A → A) (l : List A) → has p l ≡ false → change p f l ≡ l
  full f [] h = refl
  full f (x ∷ xs) h = full_by f x xs (full f xs) (p x) h
