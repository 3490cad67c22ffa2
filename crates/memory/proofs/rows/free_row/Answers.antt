use Rattle.memory.proofs.RowReads.{free_place}
use Rattle.memory.proofs.rows.free_row.Goals as goal

pub returns : goal.returns
returns c = free_place c.args.memory.now c.first_index.result c.first_index.ensures
