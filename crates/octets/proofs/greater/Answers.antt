use Rattle.std.proofs.Common.{◌∙◌}
use Rattle.octets.proofs.Compare.{greater_by_order}
use Rattle.octets.proofs.greater.Goals as goal

pub returns : goal.returns
returns c = c.gt.ensures ∙ greater_by_order c.args.a.now c.args.b.now
