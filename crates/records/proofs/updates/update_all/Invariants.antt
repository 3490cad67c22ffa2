-- What all records do is what those that are left do to what is there now; a summary was put for each that was acknowledged.
use Rattle.records.specs.Views.{records_left}
use Rattle.records.proofs.UpdateLaws.{Updating}
use Rattle.memory.specs.Memory.{is_marked}
use Rattle.records.proofs.updates.update_all.Given as goal

abbrev pub invariant-loop-v : goal.invariant-loop-v
invariant-loop-v l =
    Updating (is_marked l.live) l.k.at (records_left l.fn.records) l.fn.memory l.fn.out l.memory l.out (records_left l.v-iterator) l.to
