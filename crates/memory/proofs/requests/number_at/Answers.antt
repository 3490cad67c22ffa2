use Rattle.memory.proofs.RoomReads.{number_read}
use Rattle.memory.proofs.requests.number_at.Goals as goal

pub returns : goal.returns
returns c =
    let a = c.args in
    let at = c.place in
    number_read a.memory.now a.k.at a.i.at at.result at.ensures.0 c.field4.result c.csa_of.result c.field4.ensures c.csa_of.ensures
