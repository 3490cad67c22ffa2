-- Four or fewer stand as they did; else rooms and tags are rotated, and the list with them.
use Rattle.memory.proofs.Rotations.{rotate_none, rotate_done}
use Rattle.memory.proofs.requests.rotate.Goals as goal

pub returns-then-n-le4 : goal.returns-then-n-le4
returns-then-n-le4 c =
    let a = c.args in
    rotate_none a.memory.now a.k.at c.count-n.result a.k.below c.count-n.ensures.0 c.if-n-le4.true

pub returns : goal.returns
returns c =
    let a = c.args in
    let n = c.count-n in
    let r = c.rotate in
    let t = c.rotate-2 in
    rotate_done a.memory.now a.k.at n.result a.k.below c.if-n-le4.false n.ensures.1 (search) n.ensures.0 r.new.memory t.new.memory
    c.place.result c.tag_place.result c.place.ensures.0 c.tag_place.ensures.0 r.ensures t.ensures
