use Rattle.actions.proofs.AlignmentLaws.{completed_put}
use Rattle.actions.proofs.moves.put_completed.Goals as goal

pub returns : goal.returns
returns c =
    completed_put c.args.k.at c.args.slots.now c.put_alignment.new.t c.args.memory.now c.count.result c.alignment_at.result
    c.completed-to.result c.args.k.below c.count.ensures.0 c.alignment_at.ensures c.completed-to.ensures c.put_alignment.ensures
