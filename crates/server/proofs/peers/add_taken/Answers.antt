-- The lists emptied and the slot put are what adding the peer leaves.
use Rattle.server.proofs.PeerLaws.{adds}
use Rattle.server.proofs.peers.add_taken.Goals as goal

pub returns : goal.returns
returns c =
    let a = c.args in
    adds a.s a.slots.now c.put_slot.new.t a.k.at a.id.now c.array4.result c.peer_slot-x.result a.memory.now c.empty_lists.new.memory
    a.k.below c.array4.ensures c.peer_slot-x.ensures c.put_slot.ensures c.empty_lists.ensures
