use Rattle.std.proofs.Common.{arith}
use Rattle.server.proofs.LiveLaws.{below_none, below_more, below_all}
use Rattle.server.proofs.ends.live_of.Goals as goal

pub loop-k-init : goal.loop-k-init
loop-k-init c = (omega arith, below_none c.args.slots.now)

pub loop-k-preserved : goal.loop-k-preserved
loop-k-preserved c =
    let l = c.loop-k in
    (omega arith, below_more c.args.slots.now l.k l.b c.mark_live-b.result l.invariant.1 c.mark_live-b.ensures)

pub returns : goal.returns
returns c =
    let l = c.loop-k in
    below_all c.args.slots.now l.k l.b (omega arith) l.invariant.1
