-- Laws of `All`: what each cell of a table keeps.
-- Assumes nothing.
use Prim.Native.Nat.{ℕ, zero, suc}
use mathlib.Core.Path.{◌≡◌, refl}
use mathlib.Core.Bool.{Bool, true, false}
use mathlib.Core.List.{List, [], ◌∷◌, ◌++◌, map}
use lib.ListN as lists
use lib.ListN.{get_or, take, drop, replicate}
use Rattle.laws.specs.Choice.{pick}
use Rattle.laws.specs.Lists.{All}
use Rattle.laws.proofs.Bools.{pick_of}
use Rattle.laws.specs.Tables.{find, change, without}

-- what holds of both choices, or of each in its case
pub picked : {A : Type 0} (P : A → Type 0) (b : Bool) (x y : A) → (b ≡ true → P x) → (b ≡ false → P y) → P (pick b x y)
picked P true x y f g = f refl
picked P false x y f g = g refl

module _ {A : Type 0} where
  pub all_at : (P : A → Type 0) (l : List A) (d : A) → P d → All P l → (i : ℕ) → P (get_or l i d)
  all_at P [] d h a i = h
  all_at P (x ∷ l) d h a zero = a.0
  all_at P (x ∷ l) d h a (suc i) = all_at P l d h a.1 i

  pub all_set : (P : A → Type 0) (l : List A) (i : ℕ) (y : A) → P y → All P l → All P (lists.set l i y)
  all_set P [] i y h a = tt
  all_set P (x ∷ l) zero y h a = (h, a.1)
  all_set P (x ∷ l) (suc i) y h a = (a.0, all_set P l i y h a.1)

  pub all_map : {B : Type 0} (P : A → Type 0) (Q : B → Type 0) (f : A → B) → ((x : A) → P x → Q (f x)) → (l : List A) → All P l → All Q (map f l)
  all_map P Q f h [] a = tt
  all_map P Q f h (x ∷ l) a = (h x a.0, all_map P Q f h l a.1)

  pub all_mono : (P Q : A → Type 0) → ((x : A) → P x → Q x) → (l : List A) → All P l → All Q l
  all_mono P Q h [] a = tt
  all_mono P Q h (x ∷ l) a = (h x a.0, all_mono P Q h l a.1)

  pub all_append : (P : A → Type 0) (l m : List A) → All P l → All P m → All P (l ++ m)
  all_append P [] m a b = b
  all_append P (x ∷ l) m a b = (a.0, all_append P l m a.1 b)

  pub all_take : (P : A → Type 0) (n : ℕ) (l : List A) → All P l → All P (take n l)
  all_take P zero l a = tt
  all_take P (suc n) [] a = tt
  all_take P (suc n) (x ∷ l) a = (a.0, all_take P n l a.1)

  pub all_drop : (P : A → Type 0) (n : ℕ) (l : List A) → All P l → All P (drop n l)
  all_drop P zero l a = a
  all_drop P (suc n) [] a = tt
  all_drop P (suc n) (x ∷ l) a = all_drop P n l a.1

  pub all_replicate : (P : A → Type 0) (n : ℕ) (x : A) → P x → All P (replicate n x)
  all_replicate P zero x h = tt
  all_replicate P (suc n) x h = (h, all_replicate P n x h)

  pub all_without : (P : A → Type 0) (p : A → Bool) (l : List A) → All P l → All P (without p l)
  all_without P p [] a = tt
  all_without P p (x ∷ l) a =
      pick_of (All P) (p x) (without p l) (x ∷ without p l) (all_without P p l a.1) (a.0, all_without P p l a.1)

  pub all_find : (P : A → Type 0) (p : A → Bool) (d : A) (l : List A) → P d → All P l → P (find p d l)
  all_find P p d [] h a = h
  all_find P p d (x ∷ l) h a = pick_of P (p x) x (find p d l) a.0 (all_find P p d l h a.1)

  -- the first that passes is changed, and keeps what holds of each cell
  module _ (P : A → Type 0) (p : A → Bool) (f : A → A) (d : A) where
    change_by : (x : A) (l : List A) → All P (x ∷ l) → ((P (find p d l) → P (f (find p d l))) → All P (change p f l)) → (b : Bool)
        → (P (pick b x (find p d l)) → P (f (pick b x (find p d l)))) → All P (pick b (f x ∷ l) (x ∷ change p f l))
    change_by x l a ih true h = (h a.0, a.1)
    change_by x l a ih false h = (a.0, ih h)

    pub all_change : (l : List A) → (P (find p d l) → P (f (find p d l))) → All P l → All P (change p f l)
    all_change [] h a = tt
    all_change (x ∷ l) h a = change_by x l a (λ k. all_change l k a.1) (p x) h
