-- So far the rows before `at` wait no more.
use Rattle.std.proofs.Common.{◌≡◌}
use Rattle.memory.proofs.RowLoops.{front}
use Rattle.memory.specs.Memory.{rows_in, memory_of, with_rows}
use Rattle.rules.specs.Rows.{unmarked}
use Rattle.rules.specs.Server.{free}
use Rattle.memory.proofs.marks.clear_slot.Given as goal

abbrev pub invariant-loop-at : goal.invariant-loop-at
invariant-loop-at l = memory_of l.memory ≡ with_rows (front (unmarked l.k.at) free (rows_in l.initial.memory) l.at) (memory_of l.initial.memory)
