use Rattle.std.proofs.Common.{length, [], true, arith}
use Rattle.records.proofs.PutLaws.{puts_one}
use Rattle.records.specs.Places.{entry_record}
use Rattle.memory.specs.Memory.{entry_named}
use Rattle.records.proofs.solicited.put_null.Goals as goal

pub returns : goal.returns
returns c =
    let a = c.args in
    let q = c.put_record in
    puts_one 64 (entry_record 1 true a.v.number (entry_named a.v.name.octets.now) []) a.at (length a.v.name.octets.now) 0 a.out.now
    q.new.out q.result q.ensures (omega (arith, a.v.name.fits))
