-- Lists of octets compared octet by octet.
-- Assumes nothing.
use Prim.Native.Nat.{ℕ, ◌+◌, ◌≤◌, ◌<◌}
use mathlib.Core.Path.{◌≡◌, refl}
use mathlib.Core.Bool.{true, false}
use mathlib.Core.List.{List, [], ◌∷◌}
use native.Mathlib.Numerals.{add-one}
use lib.Dec.{eqb, ltb}
use lib.ListN.{length, drop, get_or, drop_of_length-le}
use lib.Seq.{drop-cons}
use Rattle.laws.specs.Choice.{pick}
use Rattle.laws.specs.Tables.{greater}

-- one octet of each
pub greater_step : (a b : List ℕ) (i : ℕ) → i < length a → i < length b
    → greater (drop i a) (drop i b) ≡ pick (eqb (get_or a i 0) (get_or b i 0)) (greater (drop (i + 1) a) (drop (i + 1) b)) (ltb (get_or b i 0) (get_or a i 0))
greater_step a b i h k = rw (add-one, drop-cons a i 0 h, drop-cons b i 0 k)

-- the second ends first
pub greater_longer : (a b : List ℕ) (i : ℕ) → i < length a → length b ≤ i → greater (drop i a) (drop i b) ≡ true
greater_longer a b i h k = rw (drop-cons a i 0 h, drop_of_length-le b k)

greater_none : (b : List ℕ) → greater [] b ≡ false
greater_none [] = refl
greater_none (y ∷ ys) = refl

-- the first ends
pub greater_end : (a b : List ℕ) (i : ℕ) → length a ≤ i → greater (drop i a) (drop i b) ≡ false
greater_end a b i h = rw (drop_of_length-le a h) (greater_none (drop i b))
