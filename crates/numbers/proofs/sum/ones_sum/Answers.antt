-- The sum of the words, swapped and folded, is the ones' complement sum.
use Rattle.std.proofs.Common.{ℕ, ◌*◌, ap, ◌∙◌, arith}
use Rattle.protocol.specs.Checksum.{fold}
use Rattle.numbers.proofs.Sums.{low_ones_sum}
use Rattle.numbers.proofs.sum.ones_sum.Goals as goal

pub returns : goal.returns
returns c =
    c.fold-4.ensures
    ∙ ap fold (c.fold-3.ensures ∙ ap fold (c.fold-2.ensures
    ∙ ap fold (c.fold.ensures ∙ ap (λ (n : ℕ). fold (n * 256)) c.total.ensures.0)))
    ∙ low_ones_sum c.args.p.now (λ i. (c.type_inv.p i).fits) c.requires (omega (arith, c.total.ensures))
