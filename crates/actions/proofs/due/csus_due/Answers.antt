-- Less than a second, or an empty list, means that none is due.
use Rattle.std.proofs.Common.{sym, ◌∙◌}
use Rattle.table.specs.Slots.{slot_in}
use Rattle.rules.specs.Slots.{passed}
use Rattle.actions.proofs.DueLaws.{passed_at, csus_left}
use Rattle.actions.proofs.due.csus_due.Goals as goal

pub returns-then-passed : goal.returns-then-passed
returns-then-passed c =
    let a = c.args in
    let due = passed_at 1 a.time _ _ _ c.passed.ensures c.csus_sent_at.ensures in
    csus_left (passed 1 (slot_in a.slots.now a.k.at).timers.csus a.time) a.memory.now a.k.at c.count.result c.args.k.below
    (sym due ∙ c.if-passed.true) c.count.ensures.0
