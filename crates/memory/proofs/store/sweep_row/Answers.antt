use Rattle.memory.proofs.RowSweep.{swept_not}
use Rattle.memory.proofs.store.sweep_row.Goals as goal

pub returns-else-is_last : goal.returns-else-is_last
returns-else-is_last c = swept_not c.args.memory.now c.args.i.at c.args.i.below c.is_last.ensures c.if-is_last.false
