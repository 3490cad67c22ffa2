-- Fields at a position of a packet whose octets from an earlier position on are known, and checks that are fine.
-- Assumes nothing.
use Prim.Native.Nat.{ℕ, ◌+◌, ◌*◌, ◌/◌, ◌%◌, ◌≤◌, ◌<◌}
use mathlib.Core.Path.{◌≡◌, refl}
use mathlib.Core.Bool.{Bool, true, false}
use mathlib.Core.List.{List, [], ◌∷◌, ◌++◌}
use native.Mathlib.Omega.{arith}
use lib.ListN.{length, get_or, drop}
use lib.Dec.{leb}
use borrow.Author.Tests.{le-leb, lt-leb}
use Rattle.laws.proofs.Lists.{octet_in_lem}
use Rattle.protocol.specs.Checks.{Checked}
use Rattle.protocol.specs.Checks.{Fine}
use Rattle.protocol.specs.Fields.{field2, field4}
use Rattle.protocol.specs.Layouts.{bit}
use Rattle.protocol.specs.Checks.{field, first_break}

-- a field, x, of two octets or of four, at a position `a` behind `at`, from where the octets are l
module _ (p : List ℕ) (at : ℕ) (l : List ℕ) (e : drop at p ≡ l) (a k : ℕ) (here : a ≡ at + k) (x : ℕ) where
  pub two_in : get_or l k 0 ≡ x / 256 → get_or l (k + 1) 0 ≡ x % 256 → field2 p a ≡ x
  two_in h g =
      let h' = octet_in_lem p at l e a k here in
      let g' = octet_in_lem p at l e (a + 1) (k + 1) (omega arith) in
      omega arith

  pub four_in : get_or l k 0 ≡ x / 16777216 → get_or l (k + 1) 0 ≡ x / 65536 % 256 → get_or l (k + 2) 0 ≡ x / 256 % 256 → get_or l (k + 3) 0 ≡ x % 256
      → field4 p a ≡ x
  four_in h g i j =
      let h' = octet_in_lem p at l e a k here in
      let g' = octet_in_lem p at l e (a + 1) (k + 1) (omega arith) in
      let i' = octet_in_lem p at l e (a + 2) (k + 2) (omega arith) in
      let j' = octet_in_lem p at l e (a + 3) (k + 3) (omega arith) in
      omega arith

-- the bit of weight n in x, where x holds no higher one
pub bit_back : (b : Bool) (n x : ℕ) → bit b * n ≤ x → x < bit b * n + n → leb n x ≡ b
bit_back true n x h g = le-leb n x (omega arith)
bit_back false n x h g = lt-leb n x (omega arith)

pub bit_le : (b : Bool) → bit b ≤ 1
bit_le true = omega arith
bit_le false = omega arith

-- ---- checks that are fine
-- every check of a list is fine
infixr 20 ◌also◌
pub data Fines : List Checked → Type 0 where
  done : Fines []
  ◌also◌ : {c : Checked} {cs : List Checked} → c ≡ Fine → Fines cs → Fines (c ∷ cs)

pub all_fine : {cs : List Checked} → Fines cs → first_break cs ≡ Fine
all_fine done = refl
all_fine (h also g) = rw h (all_fine g)

pub fines_append : {cs ds : List Checked} → Fines cs → Fines ds → Fines (cs ++ ds)
fines_append done g = g
fines_append (h also f) g = h also fines_append f g

pub field_fine : (p : List ℕ) (at n : ℕ) (good : Bool) → at + n ≤ length p → good ≡ true → field p at n good ≡ Fine
field_fine p at n good h g = rw (le-leb (at + n) (length p) h, g)
