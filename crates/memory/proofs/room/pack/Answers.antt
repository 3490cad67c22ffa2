-- The head is made, and the name put into its place: together the octets of the request.
use Rattle.std.proofs.Common.{ℕ, List, length, ap, ◌∙◌, arith, rules}
use Rattle.laws.specs.Puts.{put_at}
use Rattle.memory.proofs.RoomReads.{packed}
use Rattle.memory.proofs.room.pack.Goals as goal

pub returns : goal.returns
returns c =
    let a = c.args in
    let p = a.name.fits in
    let h = c.head-q in (
      c.put.auto.out ∙ ap length h.ensures,
      packed a.name.octets.now a.number p.0 p.1 c.bits_of.result c.put.new.out (search rules) (omega arith) c.bits_of.ensures
          (c.put.ensures.octets ∙ ap (λ (z : List ℕ). put_at z 8 a.name.octets.now) h.ensures),
    )
