use Rattle.std.proofs.Common.{sym}
use Rattle.memory.proofs.RowPlaces.{is_used_lem}
use Rattle.memory.proofs.rows.is_used.Goals as goal

pub returns : goal.returns
returns c = sym (is_used_lem c.args.memory.now c.args.i.at)
