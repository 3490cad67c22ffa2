-- Laws of tables in another order.
-- Assumes nothing.
use Prim.Native.Nat.{suc}
use mathlib.Core.Path.{◌≡◌, refl, ap, ◌∙◌}
use mathlib.Core.Bool.{Bool, true, false, ◌||◌, false≢true}
use mathlib.Core.List.{List, [], ◌∷◌, map}
use lib.ListN.{length}
use Rattle.laws.specs.Choice.{pick}
use Rattle.laws.specs.Lists.{All}
use Rattle.laws.specs.Tables.{has, change, without, Perm, none, skip, swap, trans, In, here, there}
use Rattle.laws.proofs.Bools.{or_swap}

pub perm_refl : {A : Type 0} (l : List A) → Perm l l
perm_refl [] = none
perm_refl (x ∷ xs) = skip x (perm_refl xs)

pub perm_sym : {A : Type 0} {l m : List A} → Perm l m → Perm m l
perm_sym none = none
perm_sym (skip x p) = skip x (perm_sym p)
perm_sym (swap x y l) = swap y x l
perm_sym (trans p q) = trans (perm_sym q) (perm_sym p)

pub perm_map : {A B : Type 0} (g : A → B) {l m : List A} → Perm l m → Perm (map g l) (map g m)
perm_map g none = none
perm_map g (skip x p) = skip (g x) (perm_map g p)
perm_map g (swap x y l) = swap (g x) (g y) (map g l)
perm_map g (trans p q) = trans (perm_map g p) (perm_map g q)

pub perm_length : {A : Type 0} {l m : List A} → Perm l m → length l ≡ length m
perm_length none = refl
perm_length (skip x p) = ap suc (perm_length p)
perm_length (swap x y l) = refl
perm_length (trans p q) = perm_length p ∙ perm_length q

pub perm_has : {A : Type 0} (p : A → Bool) {l m : List A} → Perm l m → has p l ≡ has p m
perm_has p none = refl
perm_has p (skip x q) = rw (perm_has p q)
perm_has p (swap x y l) = or_swap (p x) (p y) (has p l)
perm_has p (trans q r) = perm_has p q ∙ perm_has p r

skip_if : {A : Type 0} (x : A) (l m : List A) (b : Bool) → Perm l m → Perm (pick b l (x ∷ l)) (pick b m (x ∷ m))
skip_if x l m true p = p
skip_if x l m false p = skip x p

swap_if : {A : Type 0} (x y : A) (l : List A) (b c : Bool)
    → Perm (pick b (pick c l (y ∷ l)) (x ∷ pick c l (y ∷ l))) (pick c (pick b l (x ∷ l)) (y ∷ pick b l (x ∷ l)))
swap_if x y l true true = perm_refl l
swap_if x y l true false = perm_refl (y ∷ l)
swap_if x y l false true = perm_refl (x ∷ l)
swap_if x y l false false = swap x y l

pub perm_without : {A : Type 0} (p : A → Bool) {l m : List A} → Perm l m → Perm (without p l) (without p m)
perm_without p none = none
perm_without p (skip {l} {m} x q) = skip_if x (without p l) (without p m) (p x) (perm_without p q)
perm_without p (swap x y l) = swap_if x y (without p l) (p x) (p y)
perm_without p (trans q r) = trans (perm_without p q) (perm_without p r)

pub perm_all : {A : Type 0} (Q : A → Type 0) {l m : List A} → Perm l m → All Q l → All Q m
perm_all Q none h = tt
perm_all Q (skip x p) h = (h.0, perm_all Q p h.1)
perm_all Q (swap x y l) h = (h.1.0, (h.0, h.1.1))
perm_all Q (trans p q) h = perm_all Q q (perm_all Q p h)

pub perm_in : {A : Type 0} {x : A} {l m : List A} → Perm l m → In x l → In x m
perm_in none i = i
perm_in (skip y p) here = here
perm_in (skip y p) (there i) = there (perm_in p i)
perm_in (swap y z l) here = there here
perm_in (swap y z l) (there here) = here
perm_in (swap y z l) (there (there i)) = there (there i)
perm_in (trans p q) i = perm_in q (perm_in p i)

-- the first cell that passes p is filled
module _ {A : Type 0} (p : A → Bool) (y : A) (no-y : p y ≡ false) where
  fill_by : (x : A) (xs : List A) → (has p xs ≡ true → Perm (without p (change p (λ _. y) xs)) (y ∷ without p xs)) → (b : Bool) → p x ≡ b
      → (b || has p xs) ≡ true
      → Perm (without p (pick b (y ∷ xs) (x ∷ change p (λ _. y) xs))) (y ∷ pick b (without p xs) (x ∷ without p xs))
  fill_by x xs ih true e h = rw no-y (perm_refl (y ∷ without p xs))
  fill_by x xs ih false e h = rw e (trans (skip x (ih h)) (swap x y (without p xs)))

  pub fill : (l : List A) → has p l ≡ true → Perm (without p (change p (λ _. y) l)) (y ∷ without p l)
  fill [] h = absurd (false≢true h)
  fill (x ∷ xs) h = fill_by x xs (fill xs) (p x) refl h
