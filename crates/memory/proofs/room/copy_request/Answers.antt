use Rattle.std.proofs.Common.{set}
use Rattle.memory.proofs.RoomReads.{room_copied}
use Rattle.memory.proofs.room.copy_request.Goals as goal

pub returns : goal.returns
returns c =
    let a = c.args in
    let at = c.place-at in
    let to = c.place in
    let tag = c.tag_place in
    room_copied a.memory.now _ a.k.at a.from.at a.to.at at.result to.result a.k.below a.from.below a.to.below (search) at.ensures.0 to.ensures.0
    (λ j. set (c.copy_within.ensures.after j) (tag.ensures.0 j) (c.tag_at-tag.ensures j))
