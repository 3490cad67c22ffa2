-- The room's octets and its tag are put; the tags lie apart from the rooms.
use Rattle.std.proofs.Common.{ℕ, List, set, ap}
use Rattle.memory.proofs.RoomReads.{room_put}
use Rattle.memory.proofs.room.put_room.Goals as goal

pub returns : goal.returns
returns c =
    let a = c.args in
    let at = c.place in
    let to = c.tag_place in
    room_put a.memory.now a.k.at a.i.at at.result at.ensures.0 _ a.q.now a.tag to.result a.k.below a.i.below (search) c.requires
    to.ensures.0 (ap (λ (l : List ℕ). set l to.result a.tag) c.put.ensures.octets)
