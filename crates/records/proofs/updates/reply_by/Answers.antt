-- A rule that acknowledges adds its summary to those before; any other adds none.
use Rattle.std.proofs.Common.{refl}
use Rattle.records.proofs.UpdateLaws.{reply_put, reply_none}
use Rattle.records.specs.Views.{record_shown}
use Rattle.records.specs.Walks.{update_rule_of}
use Rattle.protocol.specs.Messages.{summary_of}
use Rattle.records.proofs.updates.reply_by.Goals as goal

pub returns-then-is_acknowledged : goal.returns-then-is_acknowledged
returns-then-is_acknowledged c =
    let a = c.args in
    let q = c.put_summary-next in
    let b = c.is_acknowledged in
    reply_put (update_rule_of a.rule) (record_shown a.v) b.result b.ensures a.to a.out.now (summary_of (record_shown a.v)) q.new.out
    q.result _ refl c.if-is_acknowledged.true q.ensures

pub returns : goal.returns
returns c =
    let a = c.args in
    let b = c.is_acknowledged in
    reply_none (update_rule_of a.rule) (record_shown a.v) b.result b.ensures a.to a.out.now c.if-is_acknowledged.false
