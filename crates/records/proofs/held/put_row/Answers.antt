-- The record put is the row's, by its name, number and payload.
use Rattle.std.proofs.Common.{length, [], ◌∷◌, false, ap, arith}
use Rattle.records.proofs.HeldLaws.{row_record}
use Rattle.records.proofs.PutLaws.{puts_one, puts_as}
use Rattle.records.specs.Places.{entry_record}
use Rattle.memory.specs.Memory.{entry_named}
use Rattle.protocol.specs.Messages.{CsaRecord}
use Rattle.records.proofs.held.put_row.Goals as goal

pub returns : goal.returns
returns c =
    let a = c.args in
    let q = c.put_record in
    let y = c.payload_of in
    let x = c.entry_of in
    let z = c.number_of-number in
    puts_as 64 a.at a.out.now q.new.out q.result (ap (λ (r : CsaRecord). r ∷ [])
    (row_record a.memory.now a.i.at (search) a.i.below x.result.now x.ensures.0 z.result z.ensures a.hops y.result.now
    y.ensures.0)) (puts_one 64 (entry_record a.hops false z.result (entry_named x.result.now) y.result.now) a.at
    (length x.result.now) (length y.result.now) a.out.now q.new.out q.result q.ensures (omega (arith, x.ensures.1, y.ensures.1)))
