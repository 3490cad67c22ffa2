use Rattle.std.proofs.Common.{length, [], false, arith}
use Rattle.records.proofs.PutLaws.{puts_one}
use Rattle.records.specs.Places.{entry_record}
use Rattle.memory.specs.Memory.{entry_named}
use Rattle.records.proofs.summaries.put_summary.Goals as goal

pub returns : goal.returns
returns c =
    let a = c.args in
    let q = c.put_record in
    puts_one 32 (entry_record 1 false a.number (entry_named a.name.now) []) a.at (length a.name.now) 0 a.out.now
    q.new.out q.result q.ensures (omega (arith, c.requires))
