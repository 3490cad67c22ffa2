-- What the records that are left leave is what all leave.
use Rattle.std.proofs.Common.{ℕ, List}
use Rattle.records.specs.Views.{records_left}
use Rattle.records.specs.Walks.{TakesAll}
use Rattle.records.proofs.summaries.take_all.Given as goal

abbrev pub invariant-loop-v : goal.invariant-loop-v
invariant-loop-v l = (u : List ℕ) (r : ℕ) → TakesAll l.k.at (records_left l.v-iterator) l.n l.memory u r
    → TakesAll l.k.at (records_left l.fn.records) l.missed l.fn.memory u r
