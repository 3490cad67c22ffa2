-- Laws of parts of lists, and of what stands at a position.
-- Assumes nothing.
use Prim.Native.Nat.{ℕ, zero, suc, ◌+◌, ◌-◌, ◌≤◌, min}
use mathlib.Core.Path.{◌≡◌, refl, sym, ap, ◌∙◌}
use mathlib.Core.List.{List, [], ◌∷◌, ◌++◌, map}
use native.Mathlib.Nat.{min-le_left, min-le_right, le_of_eq}
use native.Mathlib.Numerals.{add-one}
use native.Mathlib.Omega.{arith, min_cases}
use lib.ListN.{length, get_or, set, take, drop, take-append-drop, length-take, length-drop, length-append}
use lib.Seq.{take_all, take-length, length-take-le, get_or-drop, drop-cons, drop-drop, take-add, take-append_seam, drop-append_seam}
use Rattle.laws.specs.Lists.{part}

-- all that stands from `at` on, taken
pub take_rest : (l : List ℕ) (at : ℕ) → take (length l - at) (drop at l) ≡ drop at l
take_rest l at = take_all (length l - at) (drop at l) (le_of_eq (length-drop at l))

-- a part taken is no longer than asked, nor than the list
pub take_short : (n : ℕ) (l : List ℕ) → (length (take n l) ≤ n) × (length (take n l) ≤ length l)
take_short n l = (rw length-take (min-le_left n (length l)), rw length-take (min-le_right n (length l)))

module _ {A : Type 0} where
  -- as many taken as there are to take
  pub take_taken : (n : ℕ) (l : List A) → (length (take n l) ≤ length l) × (take (length (take n l)) l ≡ take n l)
  take_taken n l =
      let L : length (take n l) ≡ min n (length l) = length-take n l in (
        omega arith,
        min_cases n (length l) (take (length (take n l)) l ≡ take n l) (λ h e. ap (λ (k : ℕ). take k l) (L ∙ e))
            (λ h e. ap (λ (k : ℕ). take k l) (L ∙ e) ∙ take-length l ∙ sym (take_all n l h)),
      )

  pub map_append : {B : Type 0} (f : A → B) (s t : List A) → map f (s ++ t) ≡ map f s ++ map f t
  map_append f [] t = refl
  map_append f (x ∷ s) t = ap (λ z. f x ∷ z) (map_append f s t)

  pub map_set : {B : Type 0} (f : A → B) (l : List A) (k : ℕ) (y : A) → map f (set l k y) ≡ set (map f l) k (f y)
  map_set f [] k y = refl
  map_set f (x ∷ xs) zero y = refl
  map_set f (x ∷ xs) (suc k) y = ap (λ l. f x ∷ l) (map_set f xs k y)

-- ---- the octets of p from a position on
-- the first, or some, before the rest
pub peel1 : (p : List ℕ) (at next : ℕ) → next ≡ at + 1 → next ≤ length p → drop at p ≡ get_or p at 0 ∷ drop next p
peel1 p at next e h = drop-cons p at 0 (omega arith) ∙ ap (λ (n : ℕ). get_or p at 0 ∷ drop n p) (sym (add-one at) ∙ sym e)

pub peel_part : (p : List ℕ) (at n next : ℕ) → next ≡ at + n → drop at p ≡ part p at n ++ drop next p
peel_part p at n next e =
    sym (take-append-drop n (drop at p)) ∙ ap (λ (l : List ℕ). part p at n ++ l) (drop-drop n at p ∙ ap (λ (j : ℕ). drop j p) (sym e))

-- a part in two, `to` where the second begins
pub part_split : (p : List ℕ) (at n m to : ℕ) → to ≡ at + n → part p at (n + m) ≡ part p at n ++ part p to m
part_split p at n m to e =
    take-add n m (drop at p) ∙ ap (λ (l : List ℕ). part p at n ++ take m l) (drop-drop n at p ∙ ap (λ (j : ℕ). drop j p) (sym e))

pub part_length : (p : List ℕ) (at n : ℕ) → at + n ≤ length p → length (part p at n) ≡ n
part_length p at n h = length-take-le n (drop at p) (simp length-drop (omega arith))

-- a position `a` behind `at`, from where the octets are l
module _ (p : List ℕ) (at : ℕ) (l : List ℕ) (e : drop at p ≡ l) (a k : ℕ) (here : a ≡ at + k) where
  pub octet_in_lem : get_or p a 0 ≡ get_or l k 0
  octet_in_lem = ap (λ (n : ℕ). get_or p n 0) here ∙ sym (get_or-drop at p k 0) ∙ ap (λ (z : List ℕ). get_or z k 0) e

  pub drop_in : drop a p ≡ drop k l
  drop_in = ap (λ (n : ℕ). drop n p) here ∙ sym (drop-drop k at p) ∙ ap (drop k) e

  pub room_in : k ≤ length l → at ≤ length p → a ≤ length p
  room_in h g = let n : length p - at ≡ length l = sym (length-drop at p) ∙ ap length e in omega arith

-- the list v at a position, and what is behind it
module _ (p : List ℕ) (at : ℕ) (v rest : List ℕ) (e : drop at p ≡ v ++ rest) where
  pub part_in : (a n : ℕ) → a ≡ at → n ≡ length v → part p a n ≡ v
  part_in a n h g = (λ i. take (g i) (drop (h i) p)) ∙ ap (take (length v)) e ∙ take-append_seam v rest

  pub behind : (a : ℕ) → a ≡ at + length v → drop a p ≡ rest
  behind a h = drop_in p at (v ++ rest) e a (length v) h ∙ drop-append_seam v rest

  pub room_behind : at ≤ length p → at + length v ≤ length p
  room_behind h = room_in p at (v ++ rest) e (at + length v) (length v) refl (simp length-append (omega arith)) h
