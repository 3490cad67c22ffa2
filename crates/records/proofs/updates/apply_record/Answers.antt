-- The row found by the name is the entry's; then rule, rows and requests, each by its own contract.
use Rattle.std.proofs.Common.{refl}
use Rattle.records.proofs.UpdateLaws.{one_applied}
use Rattle.records.specs.Views.{record_shown}
use Rattle.records.specs.Walks.{update_rule_of}
use Rattle.memory.specs.Memory.{is_marked}
use Rattle.records.proofs.updates.apply_record.Goals as goal

pub returns : goal.returns
returns c =
    let a = c.args in
    let u = c.update_rule-rule in
    one_applied (is_marked a.live) a.k.at (record_shown a.v) a.memory.now (update_rule_of u.result) c.rows_by.new.memory
    c.requests_by.new.memory (u.ensures (record_shown a.v) refl refl c.find-found.ensures) c.rows_by.ensures c.requests_by.ensures
