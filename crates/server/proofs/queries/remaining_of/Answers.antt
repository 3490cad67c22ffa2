-- That of the row, where it is used.
use Rattle.std.proofs.Common.{rules}
use Rattle.server.specs.Queries.{value_shown}
use Rattle.server.proofs.QueryLaws.{row_or}
use Rattle.server.proofs.queries.remaining_of.Goals as goal

pub returns : goal.returns
returns c =
    let a = c.args in
    let u = c.used_row in
    row_or a.memory.now a.row (λ r. (value_shown r).remaining) u.result c.map_or.result u.ensures.used u.ensures.index
    (λ e. search rules) (λ j e. search rules)
