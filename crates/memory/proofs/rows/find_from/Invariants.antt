-- So far no row from `from` up to `at` holds the entry.
use Rattle.rules.specs.Server.{holds}
use Rattle.memory.specs.Memory.{entry_named}
use Rattle.memory.proofs.RowReads.{From}
use Rattle.memory.proofs.rows.find_from.Given as goal

abbrev pub invariant-loop-at : goal.invariant-loop-at
invariant-loop-at l = From (holds (entry_named l.name)) l.memory l.from l.at
