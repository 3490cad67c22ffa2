-- That of the row, where it is used.
use Rattle.std.proofs.Common.{rules}
use Rattle.server.specs.Queries.{entry_shown}
use Rattle.server.proofs.QueryLaws.{row_or}
use Rattle.server.proofs.queries.originator_of.Goals as goal

pub returns : goal.returns
returns c =
    let a = c.args in
    let u = c.used_row in
    row_or a.memory.now a.row (λ r. (entry_shown r).originator) u.result c.map_or.result.now u.ensures.used u.ensures.index
    (λ e. search rules) (λ j e. search rules)
