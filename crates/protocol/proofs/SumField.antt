-- 02, L4: a sum is good exactly when the field holds the checksum computed with the field 0, or that is 0 and the field 0xFFFF.
-- Of octets of any number up to 65536, odd or even; fewer than six too, since an octet beyond the end reads as 0.
-- Assumes nothing.
use Prim.Native.Nat.{ℕ, zero, suc, ◌+◌, ◌-◌, ◌≤◌, ◌<◌}
use mathlib.Core.Path.{◌≡◌, refl, sym, ap, ◌∙◌}
use mathlib.Core.Bool.{Bool, true, false, ◌&&◌}
use mathlib.Core.List.{List, [], ◌∷◌}
use mathlib.Core.Logic.{◌⊎◌, inl, inr, ⊎_elim}
use native.Mathlib.Omega.{arith}
use lib.ListN.{length}
use lib.Dec.{eqb}
use borrow.Author.Tests.{eq-eqb, eqb-true, eqb-false}
use Rattle.laws.proofs.Bools.{and_true, both_true, one_true, or_right, same_answer}
use Rattle.protocol.specs.Fields.{field2}
use Rattle.protocol.specs.Checksum.{total, fold, checksum_of, good_sum, with_field, right_field}
use Rattle.protocol.specs.WellFormed.{Octets}
use Rattle.protocol.proofs.Folds.{total_most, two_folds, Folded, folded2}

-- ---- the two cases of L4's sentence, of a field f and the checksum x that is computed with the field 0
abbrev pub Cases : ℕ → ℕ → Type 0
Cases f x = (f ≡ x) ⊎ ((x ≡ 0) × (f ≡ 65535))

pub right_by : (p : List ℕ) → Cases (field2 p 4) (checksum_of (with_field 0 p)) → right_field p ≡ true
right_by p (inl e) = rw (eq-eqb (field2 p 4) (checksum_of (with_field 0 p)) e)
right_by p (inr e) =
    or_right (eqb (field2 p 4) (checksum_of (with_field 0 p))) _
    (both_true (eq-eqb (checksum_of (with_field 0 p)) 0 e.0) (eq-eqb (field2 p 4) 65535 e.1))

right_tells : (p : List ℕ) → right_field p ≡ true → Cases (field2 p 4) (checksum_of (with_field 0 p))
right_tells p r =
    let f : ℕ = field2 p 4 in
    let x : ℕ = checksum_of (with_field 0 p) in
    ⊎_elim (λ h. inl (eqb-true f x h))
    (λ h. let q = and_true (eqb x 0) (eqb f 65535) h in inr (eqb-true x 0 q.0, eqb-true f 65535 q.1))
    (one_true (eqb f x) (eqb x 0 && eqb f 65535) r)

-- ---- a field f beside a rest z that folds to s; both together fold to t
module _ {z s t : ℕ} (f : ℕ) (r : Folded z s) (b : Folded (z + f) t) (fits : s ≤ 65535) (field_fits : f ≤ 65535) where
  full_cases : t ≡ 65535 → (same : Bool) → eqb f (65535 - s) ≡ same → Cases f (65535 - s)
  full_cases e true q = inl (eqb-true f (65535 - s) q)
  full_cases e false q =
      let n = eqb-false f (65535 - s) q in
      let some : 0 < s = some_sum z refl n in
      inr (omega (arith, r.same, b.same), omega (arith, r.same, b.same))
    where
      -- with no rest the field is all of the sum
      some_sum : (x : ℕ) → z ≡ x → (f ≡ 65535 - s → ⊥) → 0 < s
      some_sum zero h n = absurd (omega (arith, r.same, b.same))
      some_sum (suc x) h n = r.more (omega arith)

  cases_full : t ≤ 65535 → Cases f (65535 - s) → t ≡ 65535
  cases_full h (inl e) = let some = b.more (omega (arith, r.same)) in omega (arith, r.same, b.same)
  cases_full h (inr e) = let some = b.more (omega (arith, e.1)) in omega (arith, r.same, b.same, e.0, e.1)

-- ---- octets
-- the field stands at an even position, so the sum has it as it is
sum_apart : (p : List ℕ) → total true p ≡ total true (with_field 0 p) + field2 p 4
unfolding total
sum_apart [] = refl
sum_apart (a ∷ []) = omega arith
sum_apart (a ∷ b ∷ []) = omega arith
sum_apart (a ∷ b ∷ c ∷ []) = omega arith
sum_apart (a ∷ b ∷ c ∷ d ∷ []) = omega arith
sum_apart (a ∷ b ∷ c ∷ d ∷ e ∷ []) = omega arith
sum_apart (a ∷ b ∷ c ∷ d ∷ e ∷ f ∷ p) = omega arith

module _ (p : List ℕ) (o : Octets p) (few : length p ≤ 65536) where
  abbrev rest : ℕ
  rest = total true (with_field 0 p)

  abbrev field : ℕ
  field = field2 p 4

  field_small : field ≤ 65535
  field_small = let a = o 4 in let b = o 5 in omega arith

  all_small : rest + field < 4294967296
  all_small = let t = total_most p o in let e = sum_apart p in omega arith

  rest_folds : fold (fold rest) ≤ 65535
  rest_folds = two_folds rest (omega (arith, all_small))

  good_by : good_sum p ≡ eqb (fold (fold (rest + field))) 65535
  good_by = ap (λ (t : ℕ). eqb (fold (fold t)) 65535) (sum_apart p)

  -- what is taken was written so
  pub good_right : good_sum p ≡ true → right_field p ≡ true
  good_right g =
      right_by p
      (full_cases field (folded2 rest) (folded2 (rest + field)) rest_folds field_small
      (eqb-true (fold (fold (rest + field))) 65535 (sym good_by ∙ g)) (eqb field (65535 - fold (fold rest))) refl)

  -- what a right sender writes is taken
  pub right_good : right_field p ≡ true → good_sum p ≡ true
  right_good r =
      good_by
      ∙ eq-eqb (fold (fold (rest + field))) 65535
      (cases_full field (folded2 rest) (folded2 (rest + field)) rest_folds field_small (two_folds (rest + field) all_small) (right_tells p r))

  -- exactly then
  pub good_field : good_sum p ≡ right_field p
  good_field = same_answer (good_sum p) (right_field p) good_right right_good
