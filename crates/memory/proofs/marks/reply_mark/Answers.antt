-- Another number changes nothing; an equal one takes the mark away.
use Rattle.std.proofs.Common.{sym, ◌∙◌}
use Rattle.rules.specs.Rows.{unmarked}
use Rattle.rules.specs.Updates.{replied}
use Rattle.memory.proofs.MarkLaws.{changed_as, changed_not, replied_same, replied_other}
use Rattle.memory.proofs.marks.reply_mark.Goals as goal

pub returns-then-eq-clause-memory_after : goal.returns-then-eq-clause-memory_after
returns-then-eq-clause-memory_after c =
    let a = c.args in
    let s = a.memory.now in
    c.clear_mark.ensures ∙ changed_as (unmarked a.k.at) (replied a.k.at a.number) s a.i.at
    (replied_same s a.i.at a.i.below a.k.at a.number c.number_of.result c.number_of.ensures (sym c.eq.ensures ∙ c.if-eq.true))

pub returns-else-eq-clause-memory_after : goal.returns-else-eq-clause-memory_after
returns-else-eq-clause-memory_after c =
    let a = c.args in
    let s = a.memory.now in
    changed_not (replied a.k.at a.number) s a.i.at
    (replied_other s a.i.at a.i.below a.k.at a.number c.number_of.result c.number_of.ensures (sym c.eq.ensures ∙ c.if-eq.false))
