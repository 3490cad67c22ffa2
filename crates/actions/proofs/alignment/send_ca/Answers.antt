use Rattle.actions.proofs.AlignmentLaws.{sends_ca}
use Rattle.actions.proofs.alignment.send_ca.Goals as goal

pub returns : goal.returns
returns c = sends_ca c.write_ca-n.ensures.wrote c.first.ensures c.keep.ensures
