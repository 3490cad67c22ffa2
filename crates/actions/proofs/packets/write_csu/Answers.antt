use Rattle.actions.proofs.FinishLaws.{none_written}
use Rattle.writer.specs.Write.{csu_body}
use Rattle.actions.proofs.packets.write_csu.Goals as goal

pub returns-then-count-eq0 : goal.returns-then-count-eq0
returns-then-count-eq0 c = none_written (csu_body c.args.t) c.args.c c.args.count c.args.n c.args.out.now c.if-count-eq0.true
