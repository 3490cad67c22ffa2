use Rattle.std.proofs.Common.{ℕ, ◌-◌, ap, ◌∙◌, arith}
use lib.Bits.{bit_and}
use Rattle.memory.proofs.Bits.{bit_clear}
use Rattle.memory.specs.Memory.{is_marked}
use Rattle.memory.proofs.marks.without_mark.Goals as goal

pub returns : goal.returns
returns c =
    let a = c.args in
    ap (λ (p : ℕ). is_marked (bit_and a.b (255 - p))) c.power_of.ensures.0 ∙ bit_clear a.k.at a.b a.k.below (omega arith)
