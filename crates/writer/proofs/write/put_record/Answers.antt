-- Head, name and payload are put one behind the other, which is one put of the record; an empty payload changes nothing.
use Rattle.std.proofs.Common.{refl}
use Rattle.writer.proofs.Heads.{named_put, put_empty}
use Rattle.writer.proofs.write.put_record.Goals as goal

pub returns-then-payload-eq0 : goal.returns-then-payload-eq0
returns-then-payload-eq0 c =
    let a = c.args in
    let h = c.requires in
    named_put a.hops a.null a.number a.name.now a.payload.now h.0.0 h.0.1 a.at a.out.now h.1.1 refl refl
    c.bits_of.ensures c.record_head-h.ensures c.put-a.ensures c.put-b.ensures
    (put_empty a.payload.now _ _ c.if-payload-eq0.true)

pub returns : goal.returns
returns c =
    let a = c.args in
    let h = c.requires in
    named_put a.hops a.null a.number a.name.now a.payload.now h.0.0 h.0.1 a.at a.out.now h.1.1 refl refl
    c.bits_of.ensures c.record_head-h.ensures c.put-a.ensures c.put-b.ensures c.put.ensures
