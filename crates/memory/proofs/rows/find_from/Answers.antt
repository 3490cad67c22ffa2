use Rattle.std.proofs.Common.{sym, ◌∙◌}
use Rattle.rules.specs.Server.{holds}
use Rattle.memory.specs.Memory.{entry_named}
use Rattle.memory.proofs.RowReads.{from_hit, from_miss, from_end}
use Rattle.memory.proofs.rows.find_from.Goals as goal

pub returns-then-row_is : goal.returns-then-row_is
returns-then-row_is c =
    let a = c.args in
    let l = c.loop-at in
    from_hit (holds (entry_named a.name.now)) a.memory.now a.from l.at c.loop-at-test.true l.invariant
    (sym c.row_is.ensures ∙ c.if-row_is.true)

pub loop-at-preserved : goal.loop-at-preserved
loop-at-preserved c =
    let a = c.args in
    let l = c.loop-at in
    from_miss (holds (entry_named a.name.now)) a.memory.now a.from l.at c.loop-at-test.true l.invariant
    (sym c.row_is.ensures ∙ c.if-row_is.false)

pub returns : goal.returns
returns c =
    let a = c.args in
    from_end (holds (entry_named a.name.now)) a.memory.now a.from c.loop-at.at c.loop-at-test.false c.loop-at.invariant
