use Rattle.actions.proofs.AlignmentLaws.{completes}
use Rattle.actions.proofs.alignment.complete.Goals as goal

pub returns : goal.returns
returns c =
    completes c.args.memory.now c.args.k.at c.count.result c.args.x c.completed.result c.args.k.below c.count.ensures.0 c.completed.ensures
