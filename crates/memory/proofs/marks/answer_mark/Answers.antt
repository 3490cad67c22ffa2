-- A greater number than the one held changes nothing; else the row waits if hops remain, as where an older record comes.
use Rattle.std.proofs.Common.{sym, ◌∙◌}
use Rattle.rules.specs.Updates.{waits_again, answer_waits}
use Rattle.memory.proofs.MarkLaws.{changed_as, changed_not, answer_newer, answer_held}
use Rattle.memory.proofs.marks.answer_mark.Goals as goal

pub returns-then-newer-clause-memory_after : goal.returns-then-newer-clause-memory_after
returns-then-newer-clause-memory_after c =
    let a = c.args in
    let s = a.memory.now in
    changed_not (answer_waits a.k.at a.number) s a.i.at
    (answer_newer s a.i.at c.args.i.below a.k.at a.number c.number_of.result c.number_of.ensures (sym c.newer.ensures ∙ c.if-newer.true))

pub returns-clause-memory_after : goal.returns-clause-memory_after
returns-clause-memory_after c =
    let a = c.args in
    let s = a.memory.now in
    c.mark_again.ensures.memory_after ∙ changed_as (waits_again a.k.at) (answer_waits a.k.at a.number) s a.i.at
    (answer_held s a.i.at c.args.i.below a.k.at a.number c.number_of.result c.number_of.ensures (sym c.newer.ensures ∙ c.if-newer.false))
