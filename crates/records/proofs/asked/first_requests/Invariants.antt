-- The first i requests were put; four at most, so there is room for one more.
use Rattle.records.proofs.AskedLaws.{Asking}
use Rattle.records.proofs.asked.first_requests.Given as goal

abbrev pub invariant-loop-i : goal.invariant-loop-i
invariant-loop-i l = Asking l.memory l.k.at l.count l.fn.out l.out l.next l.i
