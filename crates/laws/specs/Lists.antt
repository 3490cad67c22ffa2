-- Parts of a list, and what holds of each element.
-- Assumes nothing.
use Rattle.std.specs.Prelude.{ℕ, zero, suc, Bool, true, false, List, [], ◌∷◌, take, drop}

-- the n elements from `at` on, or those that there are
abbrev pub part : List ℕ → ℕ → ℕ → List ℕ
part d at n = take n (drop at d)

abbrev pub is_empty : {A : Type 0} → List A → Bool
is_empty [] = true
is_empty (x ∷ xs) = false

-- P holds of every element
abbrev pub All : {A : Type 0} → (A → Type 0) → List A → Type 0
All P [] = Unit {0}
All P (x ∷ xs) = P x × All P xs

-- f at n places from i on
abbrev pub table : {A : Type 0} → (ℕ → A) → ℕ → ℕ → List A
table f zero i = []
table f (suc n) i = f i ∷ table f n (suc i)
