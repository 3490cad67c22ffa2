-- Not yet, nothing waits, or the rows that wait from the cursor on.
use Rattle.std.proofs.Common.{sym, ◌∙◌}
use Rattle.table.specs.Slots.{slot_in}
use Rattle.rules.specs.Slots.{passed}
use Rattle.actions.proofs.DueLaws.{update_none, update_some}
use Rattle.actions.proofs.due.update_due.Goals as goal

pub returns-then-picks-eq0 : goal.returns-then-picks-eq0
returns-then-picks-eq0 c =
    let a = c.args in
    let x = slot_in a.slots.now a.k.at in
    update_none a.memory.now a.k.at x c.next_rows-picks.result c.next_rows-picks.ensures (passed 1 x.timers.update a.time) c.if-picks-eq0.true

pub returns : goal.returns
returns c =
    let a = c.args in
    let x = slot_in a.slots.now a.k.at in
    update_some a.memory.now a.k.at x c.next_rows-picks.result c.next_rows-picks.ensures (passed 1 x.timers.update a.time)
    (sym c.update_passed.ensures ∙ c.if-not-update_passed.false) c.if-picks-eq0.false
