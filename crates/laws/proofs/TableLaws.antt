-- Laws of a table of a function: its length, its cells, and what it is where the function changes nowhere or at one place.
-- Assumes nothing.
use Prim.Native.Nat.{ℕ, zero, suc, ◌+◌, ◌≤◌, ◌<◌}
use mathlib.Core.Path.{◌≡◌, refl, sym, ap, ◌∙◌}
use mathlib.Core.List.{◌∷◌}
use native.Mathlib.Nat.{not-suc-le-zero, le_of_suc-le-suc}
use native.Mathlib.Omega.{arith}
use lib.ListN.{length, get_or, set}
use Rattle.laws.specs.Lists.{table}

pub table_length : {A : Type 0} (f : ℕ → A) (n i : ℕ) → length (table f n i) ≡ n
table_length f zero i = refl
table_length f (suc n) i = ap suc (table_length f n (suc i))

-- ---- from any place on
get_from : {A : Type 0} (f : ℕ → A) (n k i : ℕ) (d : A) → i < n → get_or (table f n k) i d ≡ f (k + i)
get_from f zero k i d h = absurd (not-suc-le-zero h)
get_from f (suc n) k zero d h = let e : k ≡ k + 0 = omega arith in ap f e
get_from f (suc n) k (suc i) d h =
    let e : suc k + i ≡ k + suc i = omega arith in
    get_from f n (suc k) i d (le_of_suc-le-suc h) ∙ ap f e

same_from : {A : Type 0} (f g : ℕ → A) (n k : ℕ) → ((j : ℕ) → k ≤ j → j < k + n → f j ≡ g j) → table f n k ≡ table g n k
same_from f g zero k h = refl
same_from f g (suc n) k h =
    let rest = same_from f g n (suc k) (λ j a b. h j (omega arith) (omega arith)) in
    let first = h k (omega arith) (omega arith) in
    λ z. first z ∷ rest z

set_from : {A : Type 0} (f g : ℕ → A) (n k i : ℕ) → i < n → ((j : ℕ) → k ≤ j → j < k + n → (j ≡ k + i → ⊥) → g j ≡ f j)
    → table g n k ≡ set (table f n k) i (g (k + i))
set_from f g zero k i h e = absurd (not-suc-le-zero h)
set_from f g (suc n) k zero h e =
    let p : k ≡ k + 0 = omega arith in
    let rest = same_from g f n (suc k) (λ j a b. e j (omega arith) (omega arith) (λ q. omega arith)) in
    λ z. g (p z) ∷ rest z
set_from f g (suc n) k (suc i) h e =
    let p : suc k + i ≡ k + suc i = omega arith in
    let first = e k (omega arith) (omega arith) (λ q. omega arith) in
    let rest = set_from f g n (suc k) i (le_of_suc-le-suc h) (λ j a b c. e j (omega arith) (omega arith) (λ q. c (q ∙ sym p))) in
    λ z. first z ∷ (rest ∙ ap (λ (m : ℕ). set (table f n (suc k)) i (g m)) p) z

-- ---- from the start
module _ {A : Type 0} (f g : ℕ → A) (n : ℕ) where
  pub table_same : ((j : ℕ) → j < n → f j ≡ g j) → table f n 0 ≡ table g n 0
  table_same h = same_from f g n 0 (λ j a b. h j (omega arith))

  -- they differ at one place
  pub table_set : (i : ℕ) → i < n → ((j : ℕ) → j < n → (j ≡ i → ⊥) → g j ≡ f j) → table g n 0 ≡ set (table f n 0) i (g i)
  table_set i h e =
      let p : 0 + i ≡ i = omega arith in
      set_from f g n 0 i h (λ j a b c. e j (omega arith) (λ q. c (q ∙ sym p))) ∙ ap (λ (m : ℕ). set (table f n 0) i (g m)) p

pub table_get : {A : Type 0} (f : ℕ → A) (n : ℕ) (i : ℕ) (d : A) → i < n → get_or (table f n 0) i d ≡ f i
table_get f n i d h = let p : 0 + i ≡ i = omega arith in get_from f n 0 i d h ∙ ap f p
