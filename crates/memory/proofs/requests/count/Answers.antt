use Rattle.memory.proofs.RoomReads.{counted}
use Rattle.memory.proofs.requests.count.Goals as goal

pub returns : goal.returns
returns c =
    let a = c.args in
    counted a.memory.now a.k.at c.list_place.result c.size_at.result c.list_place.ensures.0 c.size_at.ensures
