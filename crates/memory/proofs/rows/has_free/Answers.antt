use Rattle.std.proofs.Common.{◌∙◌}
use Rattle.rules.specs.Server.{is_free}
use Rattle.memory.specs.Memory.{rows_in}
use Rattle.memory.proofs.RowLaws.{has_place}
use Rattle.memory.proofs.rows.has_free.Goals as goal

pub returns : goal.returns
returns c = c.is_some.ensures ∙ has_place is_free (rows_in c.args.memory.now) c.free_row.result c.free_row.ensures
