use Rattle.std.proofs.Common.{◌∙◌}
use Rattle.octets.proofs.Compare.{same_by_equal}
use Rattle.octets.proofs.same.Goals as goal

pub returns : goal.returns
returns c = c.eq.ensures ∙ same_by_equal c.args.a.now c.args.b.now
