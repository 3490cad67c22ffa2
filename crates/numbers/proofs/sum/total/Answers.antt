use Rattle.std.proofs.Common.{◌≡◌, ℕ, ◌+◌, ◌*◌, ◌/◌, length, drop, ap, arith}
use Rattle.numbers.specs.Words.{low_total}
use Rattle.numbers.proofs.Sums.{low_step, low_end}
use Rattle.numbers.proofs.sum.total.Goals as goal

pub loop-i-preserved : goal.loop-i-preserved
loop-i-preserved c =
    let l = c.loop-i in
    let step = low_step c.args.p.now (l.i * 4) ((l.i + 1) * 4) (omega arith) (omega arith) in
    record { most = omega arith; same = omega (arith, step, c.word-sum.ensures.0, l.invariant.same) }

pub returns : goal.returns
returns c =
    let l = c.loop-i in
    let p = c.args.p.now in
    let end : l.i ≡ length p / 4 = omega arith in
    let left = ap (λ (k : ℕ). low_total (drop (k * 4) p)) end in
    (omega (arith, low_end p (length p / 4 * 4) (omega arith), c.rest.ensures.0, l.invariant.same, left), omega arith)
