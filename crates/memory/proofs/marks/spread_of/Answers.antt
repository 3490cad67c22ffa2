use Rattle.std.proofs.Common.{◌∙◌, arith}
use Rattle.memory.proofs.Bits.{spread_some}
use Rattle.memory.specs.Memory.{is_marked}
use Rattle.memory.proofs.marks.spread_of.Goals as goal

pub returns : goal.returns
returns c = c.without_mark.ensures ∙ spread_some (is_marked c.args.live) c.args.k.at c.args.remaining (omega arith)
