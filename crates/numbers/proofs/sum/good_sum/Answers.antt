-- The sum is 0xFFFF exactly where the field is right (`good_field`).
use Rattle.std.proofs.Common.{◌≡◌, ℕ, eqb, ap, ◌∙◌}
use Rattle.protocol.specs.Checksum.{good_sum}
use Rattle.protocol.proofs.SumField.{good_field}
use Rattle.numbers.proofs.sum.good_sum.Goals as goal

pub returns : goal.returns
returns c =
    let good : eqb c.ones_sum.result 65535 ≡ good_sum c.args.p.now = ap (λ (n : ℕ). eqb n 65535) c.ones_sum.ensures in
    (good, good ∙ good_field c.args.p.now (λ i. (c.type_inv.p i).fits) c.requires)
