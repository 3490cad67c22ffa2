-- So far no row before both best and i is to be freed.
use Rattle.memory.proofs.RowSweep.{LastTo}
use Rattle.memory.proofs.store.first_last.Given as goal

abbrev pub invariant-loop-i : goal.invariant-loop-i
invariant-loop-i l = LastTo l.memory l.i l.best
