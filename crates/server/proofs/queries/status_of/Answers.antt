-- A slot with no peer has no report.
use borrow.Author.Tests.{not-true, not-false}
use Rattle.server.proofs.QueryLaws.{report_none, report_shown}
use Rattle.server.proofs.queries.status_of.Goals as goal

pub returns-then-not-x : goal.returns-then-not-x
returns-then-not-x c s m =
    report_none s c.args.slots.now m c.args.slot c.slot_of-x.result (c.slot_of-x.ensures s m) (not-true _ c.if-not-x.true)

pub returns : goal.returns
returns c s m =
    report_shown s c.args.slots.now m c.args.slot c.slot_of-x.result (c.slot_of-x.ensures s m) (not-false _ c.if-not-x.false)
