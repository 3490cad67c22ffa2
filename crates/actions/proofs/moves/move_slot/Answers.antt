use Rattle.actions.proofs.MoveLaws.{moved_put}
use Rattle.actions.proofs.moves.move_slot.Goals as goal

pub returns : goal.returns
returns c =
    moved_put c.args.k.at c.args.slots.now c.put_slot.new.t c.args.memory.now c.move_link-y.new.memory c.move_link-y.result
    c.args.l c.slot_at-x.result c.slot_at-x.ensures c.move_link-y.ensures c.put_slot.ensures
