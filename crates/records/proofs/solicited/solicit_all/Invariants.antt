-- All answers are those put and the answers to the records that are left; four at most, so there is room for one more. What those that are left leave
-- of the memory is what all leave.
use Rattle.records.specs.Views.{records_left}
use Rattle.records.proofs.SolicitedLaws.{Soliciting}
use Rattle.records.proofs.solicited.solicit_all.Given as goal

abbrev pub invariant-loop-v : goal.invariant-loop-v
invariant-loop-v l = Soliciting l.k.at l.fn.memory (records_left l.fn.records) l.fn.out l.memory l.out (records_left l.v-iterator) l.to
