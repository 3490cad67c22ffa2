-- Lists of checks one behind the other, and the turns of the loop over records and receivers.
-- Assumes nothing.
use Rattle.std.proofs.Common.{ℕ, suc, ◌+◌, ◌-◌, ◌<◌, ◌≤◌, length, eqb, ◌≡◌, List, [], ◌∷◌, ◌++◌, refl, ap, ◌∙◌, arith}
use Rattle.std.specs.Prelude.{Ok, Err}
use Rattle.protocol.specs.declared.Kind.{Kind}
use Rattle.protocol.specs.Checks.{Checked, rule, and_then, first_break, element_check, element_size, elements_check}

and_assoc : (a b d : Checked) → and_then a (and_then b d) ≡ and_then (and_then a b) d
and_assoc (Ok _) b d = refl
and_assoc (Err at) b d = refl

pub break_append : (l m : List Checked) → first_break (l ++ m) ≡ and_then (first_break l) (first_break m)
break_append [] m = refl
break_append (a ∷ l) m = ap (and_then a) (break_append l m) ∙ and_assoc a (first_break l) (first_break m)

-- one record or receiver, and those behind it
pub one_more : (w : ℕ) (k : Kind) (p : List ℕ) (n i at : ℕ) → i < n
    → elements_check w k p (n - i) at ≡ and_then (element_check w k p at) (elements_check w k p (n - (i + 1)) (at + element_size w k p at))
unfolding elements_check
one_more w k p n i at h =
    let e : n - i ≡ suc (n - (i + 1)) = omega arith in
    ap (λ (m : ℕ). elements_check w k p m at) e

-- none: no octets left over
pub no_more : (w : ℕ) (k : Kind) (p : List ℕ) (n i at : ℕ) → n ≤ i → elements_check w k p (n - i) at ≡ rule (eqb at (length p)) at
unfolding elements_check
no_more w k p n i at h =
    let e : n - i ≡ 0 = omega arith in
    ap (λ (m : ℕ). elements_check w k p m at) e
