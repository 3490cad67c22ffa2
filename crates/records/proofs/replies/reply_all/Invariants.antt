-- What the records that are left leave is what all leave.
use Rattle.std.proofs.Common.{ℕ, List, ◌≡◌}
use Rattle.records.specs.Views.{records_left}
use Rattle.memory.specs.Entries.{rows_as}
use Rattle.memory.specs.Memory.{memory_of}
use Rattle.rules.specs.Updates.{all_replied}
use Rattle.records.proofs.replies.reply_all.Given as goal

abbrev pub invariant-loop-v : goal.invariant-loop-v
invariant-loop-v l = (u : List ℕ) → memory_of u ≡ rows_as (all_replied l.k.at (records_left l.v-iterator)) l.memory
    → memory_of u ≡ rows_as (all_replied l.k.at (records_left l.fn.records)) l.fn.memory
