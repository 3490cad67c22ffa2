-- What the exported functions answer.
-- Assumes nothing.
use Rattle.std.specs.Prelude.{ℕ, List}
use Rattle.laws.specs.Choice.{pick}
use Rattle.rules.specs.Server.{rows_used, fresh}
use Rattle.rules.specs.Events.{run}
use Rattle.rules.specs.Replay.{settings_in, starts_good}
use Rattle.lines.specs.Lines.{events_in}

-- the rows used after a slice of records, 255 where the first is not accepted settings
abbrev pub used_after : List ℕ → ℕ
used_after input = pick (starts_good input) (rows_used (run (fresh (settings_in input)) (events_in input)).rows) 255
