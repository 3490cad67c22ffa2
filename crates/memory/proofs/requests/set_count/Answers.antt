use Rattle.memory.proofs.RoomReads.{sized}
use Rattle.memory.proofs.requests.set_count.Goals as goal

pub returns : goal.returns
returns c =
    let a = c.args in
    let at = c.list_place in
    sized a.memory.now c.put_size.new.memory a.k.at at.result a.n at.ensures.0 c.args.k.below (search) c.put_size.ensures
