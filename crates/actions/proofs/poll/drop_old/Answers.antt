-- The kept CA goes past Summarize and 5 seconds after it was sent.
use Rattle.std.proofs.Common.{sym, ap, ◌∙◌}
use Rattle.table.specs.Slots.{slot_in}
use Rattle.rules.specs.Links.{is_past}
use Rattle.rules.specs.Slots.{passed}
use Rattle.actions.proofs.PollLaws.{drop_early, drop_young, drop_done}
use Rattle.actions.proofs.poll.drop_old.Goals.{else-is_past-via-then-is_past+else-ca_passed, else-is_past-via-else-is_past}
use Rattle.actions.proofs.poll.drop_old.Goals as goal

pub returns-then-ca_passed : goal.returns-then-ca_passed
returns-then-ca_passed c =
    let a = c.args in
    let x = slot_in a.slots.now a.k.at in
    let past = ap is_past (sym c.alignment_at.ensures) ∙ sym c.is_past.ensures ∙ c.if-is_past.true in
    drop_done a.k.at x a.memory.now (is_past x.link.alignment) (passed 5 x.timers.ca a.time) c.drop_kept.new.memory past
    (sym c.ca_passed.ensures ∙ c.if-ca_passed.true) c.drop_kept.ensures

pub returns-else-is_past : goal.returns-else-is_past
returns-else-is_past c =
    let a = c.args in
    let x = slot_in a.slots.now a.k.at in
    let past = ap is_past (sym c.alignment_at.ensures) ∙ sym c.is_past.ensures in
    elim c.else-is_past.branch [
      | else-is_past-via-then-is_past+else-ca_passed w ↦ drop_young a.k.at x a.memory.now (is_past x.link.alignment) (passed 5 x.timers.ca a.time)
          (past ∙ w.if-is_past.true) (sym w.ca_passed.ensures ∙ w.if-ca_passed.false)
      | else-is_past-via-else-is_past w ↦ drop_early a.k.at x a.memory.now (is_past x.link.alignment) (passed 5 x.timers.ca a.time)
          (past ∙ w.if-is_past.false)
    ]
