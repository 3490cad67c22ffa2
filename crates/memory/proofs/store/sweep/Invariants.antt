-- So far the rows before `at` are swept; those before the first that may be freed are as they were.
use Rattle.std.proofs.Common.{◌≡◌}
use Rattle.rules.specs.Server.{free}
use Rattle.rules.specs.Rows.{swept_row}
use Rattle.memory.specs.Memory.{rows_in, memory_of, with_rows}
use Rattle.memory.proofs.RowLoops.{front}
use Rattle.memory.proofs.store.sweep.Given as goal

abbrev pub invariant-loop-at : goal.invariant-loop-at
invariant-loop-at l = memory_of l.memory ≡ with_rows (front swept_row free (rows_in l.fn.memory) l.at) (memory_of l.fn.memory)
