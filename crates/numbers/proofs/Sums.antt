-- The sum by words of four octets, the low octet first, gives the ones' complement sum.
-- Assumes nothing.
use Rattle.std.proofs.Common.{◌≡◌, ℕ, zero, suc, ◌+◌, ◌*◌, ◌<◌, ◌≤◌, true, List, [], ◌∷◌, length}
use Rattle.std.proofs.Common.{get_or, drop, refl, ◌∙◌, add-zero, arith, length-drop, get_or-drop, drop-drop}
use Rattle.protocol.specs.Checksum.{total, fold, ones_sum}
use Rattle.protocol.specs.WellFormed.{Octets}
use Rattle.protocol.proofs.PacketOctets.{Small, none, one, octets_small}
use Rattle.protocol.proofs.Folds.{total_most, two_folds, then, folded2}
use Rattle.numbers.specs.Words.{low_first, low_total}

-- ---- the words one by one
low_four : (q : List ℕ) → 4 ≤ length q
    → low_total q ≡ low_first (get_or q 0 0) (get_or q 1 0) (get_or q 2 0) (get_or q 3 0) + low_total (drop 4 q)
unfolding low_total
low_four [] h = absurd (omega arith)
low_four (a ∷ []) h = absurd (omega arith)
low_four (a ∷ b ∷ []) h = absurd (omega arith)
low_four (a ∷ b ∷ c ∷ []) h = absurd (omega arith)
low_four (a ∷ b ∷ c ∷ d ∷ q) h = refl

low_few : (q : List ℕ) → length q < 4 → low_total q ≡ low_first (get_or q 0 0) (get_or q 1 0) (get_or q 2 0) 0
unfolding low_total
low_few [] h = refl
low_few (a ∷ []) h = refl
low_few (a ∷ b ∷ []) h = refl
low_few (a ∷ b ∷ c ∷ []) h = refl
low_few (a ∷ b ∷ c ∷ d ∷ q) h = absurd (omega arith)

-- one more word
pub low_step : (p : List ℕ) (at next : ℕ) → next ≡ at + 4 → next ≤ length p
    → low_total (drop at p) ≡ low_first (get_or p at 0) (get_or p (at + 1) 0) (get_or p (at + 2) 0) (get_or p (at + 3) 0) + low_total (drop next p)
low_step p at next e h = low_four (drop at p) (simp length-drop (omega arith)) ∙ simp (e, get_or-drop, drop-drop, add-zero)

-- the octets behind the last whole word
pub low_end : (p : List ℕ) (at : ℕ) → length p < at + 4
    → low_total (drop at p) ≡ low_first (get_or p at 0) (get_or p (at + 1) 0) (get_or p (at + 2) 0) 0
low_end p at h = low_few (drop at p) (simp length-drop (omega arith)) ∙ simp (get_or-drop, add-zero)

-- ---- the sums of the same octets, the high octet first and the low octet first
-- 256 times the low sum exceeds the high sum by a multiple of 65535, and the low sum is 0 where the high sum is
record Sums (high low : ℕ) : Type 0 where
  pub times : ℕ
  pub same : low * 256 ≡ high + 65535 * times
  pub least : low ≤ 16777216 * high

both_sums : {p : List ℕ} → Small p → Sums (total true p) (low_total p)
unfolding total low_total
both_sums none = record { times = 0; same = omega arith; least = omega arith }
both_sums (one a ha none) = record { times = 0; same = omega arith; least = omega arith }
both_sums (one a ha (one b hb none)) = record { times = b; same = omega arith; least = omega arith }
both_sums (one a ha (one b hb (one c hc none))) = record { times = b + 256 * c; same = omega arith; least = omega arith }
both_sums (one a ha (one b hb (one c hc (one d hd s)))) =
    let r = both_sums s in
    record { times = b + 256 * c + 65537 * d + r.times; same = omega arith; least = omega arith }

-- ---- folds
-- two numbers from 1 to 65535 that differ by a multiple of 65535
equal : (r t m n : ℕ) → 0 < r → r ≤ 65535 → 0 < t → t ≤ 65535 → r + 65535 * m ≡ t + 65535 * n → r ≡ t
equal r t m n a b c d e = omega arith

large_folds : (s : ℕ) → s ≤ 4294967296 * 16385 * 256 → fold (fold s) < 4294967296
large_folds s h = omega arith

-- ---- the ones' complement sum
same_folds : {low : ℕ} (high : ℕ) → Sums high low → high < 4294967296 → low ≤ 4294967296 * 16385
    → fold (fold (fold (fold (low * 256)))) ≡ fold (fold high)
same_folds {low} zero s h g = let e : low ≡ 0 = omega arith in rw e
same_folds {low} (suc k) s h g =
    let most : low * 256 ≤ 4294967296 * 16385 * 256 = omega (arith, g) in
    let some : 0 < low * 256 = omega (arith, s.same) in
    let f = then (folded2 (low * 256)) (folded2 (fold (fold (low * 256)))) in
    let u = folded2 (suc k) in
    equal (fold (fold (fold (fold (low * 256))))) (fold (fold (suc k))) f.times (u.times + s.times)
    (f.more some) (two_folds (fold (fold (low * 256))) (large_folds (low * 256) most))
    (u.more (omega arith)) (two_folds (suc k) h)
    (omega (arith, f.same, u.same, s.same))

pub low_ones_sum : (p : List ℕ) → Octets p → length p ≤ 65536 → low_total p ≤ 4294967296 * 16385
    → fold (fold (fold (fold (low_total p * 256)))) ≡ ones_sum p
low_ones_sum p o h g = let t = total_most p o in same_folds (total true p) (both_sums (octets_small p o)) (omega arith) g
