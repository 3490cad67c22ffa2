-- Tables as lists: look a cell up by a test, change one, change all, leave some out. No index is named.
-- Assumes nothing.
use Rattle.std.specs.Prelude.{ℕ, suc, Bool, true, false, ◌&&◌, ◌||◌, List, [], ◌∷◌, map, eqb, ltb}
use Rattle.laws.specs.Choice.{pick}

-- the function f, but b at k
abbrev pub on : {A : Type 0} → ℕ → A → (ℕ → A) → ℕ → A
on k b f j = pick (eqb j k) b (f j)

-- some cell passes the test
abbrev pub has : {A : Type 0} → (A → Bool) → List A → Bool
has p [] = false
has p (x ∷ xs) = p x || has p xs

-- the first cell that passes the test, d where none does
abbrev pub find : {A : Type 0} → (A → Bool) → A → List A → A
find p d [] = d
find p d (x ∷ xs) = pick (p x) x (find p d xs)

-- the first cell that passes the test is changed; where none passes, nothing is
abbrev pub change : {A : Type 0} → (A → Bool) → (A → A) → List A → List A
change p f [] = []
change p f (x ∷ xs) = pick (p x) (f x ∷ xs) (x ∷ change p f xs)

-- each cell that passes the test is changed
abbrev pub update : {A : Type 0} → (A → Bool) → (A → A) → List A → List A
update p f l = map (λ x. pick (p x) (f x) x) l

-- the cells that do not pass the test
abbrev pub without : {A : Type 0} → (A → Bool) → List A → List A
without p [] = []
without p (x ∷ xs) = pick (p x) (without p xs) (x ∷ without p xs)

-- how many cells pass the test
abbrev pub count : {A : Type 0} → (A → Bool) → List A → ℕ
count p [] = 0
count p (x ∷ xs) = pick (p x) (suc (count p xs)) (count p xs)

-- two lists of octets are the same
abbrev pub same : List ℕ → List ℕ → Bool
same [] [] = true
same [] (y ∷ ys) = false
same (x ∷ xs) [] = false
same (x ∷ xs) (y ∷ ys) = eqb x y && same xs ys

-- the first is greater: the first octet that differs decides, and a list is greater than one that it begins with
abbrev pub greater : List ℕ → List ℕ → Bool
greater [] [] = false
greater [] (y ∷ ys) = false
greater (x ∷ xs) [] = true
greater (x ∷ xs) (y ∷ ys) = pick (eqb x y) (greater xs ys) (ltb y x)

-- the same cells in some order
pub data Perm {A : Type 0} : List A → List A → Type 0 where
  none : Perm [] []
  skip : {l m : List A} (x : A) → Perm l m → Perm (x ∷ l) (x ∷ m)
  swap : (x y : A) (l : List A) → Perm (x ∷ y ∷ l) (y ∷ x ∷ l)
  trans : {l m n : List A} → Perm l m → Perm m n → Perm l n

-- a cell is in the list
pub data In {A : Type 0} (x : A) : List A → Type 0 where
  here : {l : List A} → In x (x ∷ l)
  there : {y : A} {l : List A} → In x l → In x (y ∷ l)
