use Rattle.records.proofs.UpdateLaws.{one_updated}
use Rattle.records.specs.Views.{record_shown}
use Rattle.records.specs.Walks.{update_rule_of}
use Rattle.memory.specs.Memory.{is_marked}
use Rattle.records.proofs.updates.update_one.Goals as goal

pub returns : goal.returns
returns c =
    let a = c.args in
    let u = c.apply_record-rule in
    let q = c.reply_by in
    one_updated (is_marked a.live) a.k.at (record_shown a.v) a.memory.now (update_rule_of u.result) u.new.memory a.out.now
    q.new.out a.to q.result u.ensures q.ensures
