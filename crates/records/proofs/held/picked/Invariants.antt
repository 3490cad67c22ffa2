-- All records are those put and the rows of the places from i on; four at most, so there is room for one more.
use Rattle.records.proofs.HeldLaws.{Holding}
use Rattle.records.proofs.held.picked.Given as goal

abbrev pub invariant-loop-place : goal.invariant-loop-place
invariant-loop-place l = Holding l.memory l.place-items l.shape l.at l.fn.out l.out l.to l.place-index
