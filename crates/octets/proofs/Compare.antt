-- The equality and the order of slices compare octets from the front.
-- Assumes nothing.
use Rattle.std.proofs.Common.{◌≡◌, ◌≢◌, ℕ, Bool, ◌&&◌, List, [], ◌∷◌, refl, ap, inl, inr, arith, Option, Some, Ordering}
use Rattle.std.proofs.Common.{eq-eqb, ne_eqb, lt-ltb, le-ltb, eqb, ltb}
use Rattle.std.specs.Ordering.{is_some_and, is_gt, nat_cmp, as_partial_cmp, partial_ordering_then, partial_gt}
use Rattle.std.proofs.lemmas.Bool.{cases_lt}
use Rattle.std.specs.Cmp.Lexicographic.{slice_partial_cmp}
use lib.Pointwise.{pointwise}
use Rattle.laws.specs.Choice.{pick}
use Rattle.laws.specs.Tables.{same, greater}

pub same_by_equal : (a b : List ℕ) → pointwise eqb a b ≡ same a b
same_by_equal [] [] = refl
same_by_equal [] (y ∷ b) = refl
same_by_equal (x ∷ a) [] = refl
same_by_equal (x ∷ a) (y ∷ b) = ap (λ (r : Bool). eqb x y && r) (same_by_equal a b)

-- the first octet of each
step : (x y : ℕ) (r : Option Ordering) (g : Bool) → is_some_and is_gt r ≡ g
    → is_some_and is_gt (partial_ordering_then (Some (nat_cmp x y)) r) ≡ pick (eqb x y) g (ltb y x)
step x y r g e =
    elim (cases_lt x y) [
      | inl h ↦ let n : x ≢ y = omega arith in rw (lt-ltb x y h, ne_eqb x y n, le-ltb y x (omega arith)) refl
      | inr h ↦ elim (cases_lt y x) [
        | inl k ↦ let n : x ≢ y = omega arith in rw (le-ltb x y h, ne_eqb x y n, lt-ltb y x k) refl
        | inr k ↦ let q : x ≡ y = omega arith in rw (le-ltb x y h, eq-eqb x y q) e
      ]
    ]

pub greater_by_order : (a b : List ℕ) → partial_gt (slice_partial_cmp (as_partial_cmp nat_cmp)) a b ≡ greater a b
greater_by_order [] [] = refl
greater_by_order [] (y ∷ b) = refl
greater_by_order (x ∷ a) [] = refl
greater_by_order (x ∷ a) (y ∷ b) =
    step x y (slice_partial_cmp (as_partial_cmp nat_cmp) a b) (greater a b) (greater_by_order a b)
