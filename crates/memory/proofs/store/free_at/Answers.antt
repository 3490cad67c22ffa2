use Rattle.std.proofs.Common.{ap, ◌∙◌}
use Rattle.memory.specs.Memory.{memory_of}
use Rattle.memory.proofs.RowWhole.{row_freed}
use Rattle.memory.proofs.store.free_at.Goals as goal

pub returns : goal.returns
returns c = ap memory_of c.put_sections.ensures ∙ row_freed c.args.memory.now c.args.i.at 255 c.args.i.below (search)
