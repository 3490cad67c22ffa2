use Rattle.std.proofs.Common.{ℕ, ap, ◌∙◌}
use lib.Bits.{bit_or}
use Rattle.memory.proofs.Bits.{bit_set}
use Rattle.memory.specs.Memory.{is_marked}
use Rattle.memory.proofs.marks.with_mark.Goals as goal

pub returns : goal.returns
returns c = ap (λ (p : ℕ). is_marked (bit_or c.args.b p)) c.power_of.ensures.0 ∙ bit_set c.args.k.at c.args.b
