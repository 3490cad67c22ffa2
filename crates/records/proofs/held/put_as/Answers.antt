use Rattle.std.proofs.Common.{[], false}
use Rattle.records.proofs.HeldLaws.{row_summary, as_summary}
use Rattle.records.specs.Places.{entry_record}
use Rattle.memory.specs.Memory.{entry_named}
use Rattle.records.proofs.held.put_as.Goals as goal

pub returns-in-Summary : goal.returns-in-Summary
returns-in-Summary c =
    let a = c.args in
    let q = c.put_summary in
    let x = c.entry_of in
    let z = c.number_of-number in
    as_summary a.shape a.memory.now a.i.at a.at a.out.now q.new.out q.result
    (entry_record 1 false z.result (entry_named x.result.now) []) c.in-Summary.is
    (row_summary a.memory.now a.i.at (search) a.i.below x.result.now x.ensures.0 z.result z.ensures) q.ensures
