-- The sum of some octets, and what folding its carries makes of it.
-- Assumes nothing.
use Prim.Native.Nat.{ℕ, ◌+◌, ◌*◌, ◌/◌, ◌≤◌, ◌<◌}
use mathlib.Core.Path.{◌≡◌}
use mathlib.Core.Bool.{Bool, true, false, not}
use mathlib.Core.List.{List}
use native.Mathlib.Omega.{arith}
use lib.ListN.{length}
use Rattle.protocol.specs.Checksum.{weigh, total, fold, ones_sum}
use Rattle.protocol.specs.WellFormed.{Octets}
use Rattle.protocol.proofs.PacketOctets.{Small, none, one, octets_small}

-- ---- bounds
weigh_most : (high : Bool) (x : ℕ) → x < 256 → weigh high x ≤ 65280
weigh_most true x h = omega arith
weigh_most false x h = omega arith

small_total : (high : Bool) {p : List ℕ} → Small p → total high p ≤ 65280 * length p
unfolding total
small_total high none = omega arith
small_total high (one x h s) = let a = weigh_most high x h in let b = small_total (not high) s in omega arith

pub total_most : (p : List ℕ) → Octets p → total true p ≤ 65280 * length p
total_most p o = small_total true (octets_small p o)

pub two_folds : (s : ℕ) → s < 4294967296 → fold (fold s) ≤ 65535
two_folds s h = omega arith

pub sum_fits : (p : List ℕ) → Octets p → length p ≤ 65536 → ones_sum p < 65536
sum_fits p o h = let t = total_most p o in let f = two_folds (total true p) (omega arith) in omega arith

-- ---- a number and what folds make of it: they differ by a multiple of 65535, and only 0 becomes 0
pub record Folded (s r : ℕ) : Type 0 where
  pub times : ℕ
  pub same : s ≡ r + 65535 * times
  pub more : 0 < s → 0 < r

folded : (s : ℕ) → Folded s (fold s)
folded s = record { times = s / 65536; same = omega arith; more = λ h. omega arith }

pub then : {s r t : ℕ} → Folded s r → Folded r t → Folded s t
then f g = record { times = f.times + g.times; same = omega (arith, f.same, g.same); more = λ h. g.more (f.more h) }

pub folded2 : (s : ℕ) → Folded s (fold (fold s))
folded2 s = then (folded s) (folded (fold s))
