use Rattle.std.proofs.Common.{◌%◌, ap}
use Rattle.memory.specs.Memory.{tag_of}
use Rattle.memory.proofs.tags.tag_of.Goals as goal

pub returns : goal.returns
unfolding tag_of
returns c = ap (λ n. n % 239) c.name_sum.ensures
