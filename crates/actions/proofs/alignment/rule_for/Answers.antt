use Rattle.slots.specs.State.{rule_of}
use Rattle.actions.proofs.AlignmentLaws.{rule_here}
use Rattle.actions.proofs.alignment.rule_for.Goals as goal

pub returns : goal.returns
returns c =
    rule_here c.args.id.now c.args.p.now c.args.memory.now c.sender.result.now c.args.h c.args.k.at c.args.x c.head_of.result
    c.kept_len-kept.result (rule_of c.ca_rule.result) c.args.k.below c.head_of.ensures c.sender.ensures
    c.kept_len-kept.ensures.0 c.ca_rule.ensures
