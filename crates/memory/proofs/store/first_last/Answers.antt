use Rattle.memory.proofs.RowSweep.{last_more}
use Rattle.memory.proofs.store.first_last.Goals as goal

pub loop-i-preserved : goal.loop-i-preserved
loop-i-preserved c =
    let l = c.loop-i in
    last_more c.args.memory.now c.fits-memory l.i l.best c.last_or_none-here.result c.min-best.result
    c.loop-i-test.true l.invariant c.last_or_none-here.ensures c.min-best.ensures
