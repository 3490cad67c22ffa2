-- The octets of the room's name, with a key or without by its tag.
use Rattle.std.proofs.Common.{◌≡◌, length, ap, ◌∙◌, arith}
use Rattle.memory.specs.Layout.{memory_size}
use Rattle.memory.proofs.Rooms.{room_name_length}
use Rattle.memory.proofs.RoomReads.{name_read}
use Rattle.memory.proofs.requests.name_at.Goals as goal

pub tagged-requires : goal.tagged-requires
tagged-requires c =
    let a = c.args in
    let at = c.place in
    let size : length a.memory.now ≡ memory_size = search in
    omega (arith, ap length c.name_at-name.ensures ∙ room_name_length a.memory.now at.result (omega (arith, at.ensures.1)))

pub returns : goal.returns
returns c =
    let a = c.args in
    let at = c.place in
    let v = c.name_at-name in
    let r = c.tagged.ensures in
    let size : length a.memory.now ≡ memory_size = search in
    let n = ap length v.ensures ∙ room_name_length a.memory.now at.result (omega (arith, at.ensures.1)) in (
      name_read a.memory.now a.k.at a.i.at at.result at.ensures.0 c.tagged.result.now v.result.now c.tag_at.result
          v.ensures c.tag_at.ensures r.0,
      (r.1.0, omega (arith, n, r.1.1)),
    )
