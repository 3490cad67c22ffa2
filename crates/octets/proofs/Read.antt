-- Fields read from what stands at a position and behind it.
-- Assumes nothing.
use Prim.Native.Nat.{ℕ, ◌+◌, ◌*◌, ◌≤◌, ◌<◌}
use mathlib.Core.Path.{◌≡◌, refl, ◌∙◌}
use mathlib.Core.List.{List, ◌++◌, append-nil}
use native.Mathlib.Omega.{arith}
use lib.ListN.{length, take, drop, drop_of_length-le, get_or-eq_default}
use lib.Seq.{take-length}
use Rattle.laws.proofs.Lists.{octet_in_lem}
use Rattle.protocol.specs.Fields.{octet, field4}

-- three octets are left: the last of the field is 0
pub field4_of_three : (p s : List ℕ) (at x : ℕ) → drop at p ≡ s → length s < 4
    → x ≡ octet s 0 * 16777216 + octet s 1 * 65536 + octet s 2 * 256 + 0 → x ≡ field4 p at
field4_of_three p s at x e h q =
    let a : octet p at ≡ octet s 0 = octet_in_lem p at s e at 0 (omega arith) in
    let b : octet p (at + 1) ≡ octet s 1 = octet_in_lem p at s e (at + 1) 1 refl in
    let c : octet p (at + 2) ≡ octet s 2 = octet_in_lem p at s e (at + 2) 2 refl in
    let d : octet p (at + 3) ≡ octet s 3 = octet_in_lem p at s e (at + 3) 3 refl in
    let n : octet s 3 ≡ 0 = get_or-eq_default s 0 (omega arith) in
    omega arith

-- octets copied over as many
pub copied_all : (s d r : List ℕ) → r ≡ take (length s) s ++ drop (length s) d → length d ≤ length s → r ≡ s
copied_all s d r e h = e ∙ (λ i. take-length s i ++ drop_of_length-le d h i) ∙ append-nil s
