-- A row above the last is not used.
use Rattle.std.proofs.Common.{rules, ◌≡◌, sym, ◌∙◌}
use Rattle.server.proofs.CodeLaws.{above}
use Rattle.server.proofs.QueryLaws.{used_at, used_above}
use Rattle.server.proofs.queries.used_row.Goals as goal

pub returns-in-Some-clause-used : goal.returns-in-Some-clause-used
returns-in-Some-clause-used c =
    let a = c.args in
    let i = c.in-Some.i in
    let q : i.at ≡ a.row = search rules in
    sym c.if-is_used.true ∙ used_at a.memory.now a.row i q c.is_used.result c.is_used.ensures

pub returns-in_default-clause-used : goal.returns-in_default-clause-used
returns-in_default-clause-used c =
    let a = c.args in
    let i = c.in-Some.i in
    let q : i.at ≡ a.row = search rules in
    sym c.if-is_used.false ∙ used_at a.memory.now a.row i q c.is_used.result c.is_used.ensures

pub returns-in_default-2-clause-used : goal.returns-in_default-2-clause-used
returns-in_default-2-clause-used c = used_above c.args.memory.now c.args.row (above c.new.result c.new.ensures.some c.in_default.is)
