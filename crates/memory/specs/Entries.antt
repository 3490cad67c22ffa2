-- What the functions on entries answer and leave, in the words of the rules.
-- Assumes nothing.
use Rattle.std.specs.Prelude.{ℕ, Bool, false, List}
use Rattle.laws.specs.Choice.{pick}
use Rattle.laws.specs.Tables.{has, change}
use Rattle.protocol.specs.declared.CsaNumber.{CsaNumber}
use Rattle.protocol.specs.Messages.{CsaRecord}
use Rattle.rules.specs.Server.{Entry, Value, Row, used, holds}
use Rattle.rules.specs.Rows.{filled}
use Rattle.memory.specs.Memory.{rows_in, Memory, memory_of, with_rows}
use Rattle.memory.specs.Search.{revalued}

-- a record that is not null
abbrev pub received : ℕ → CsaNumber → Entry → List ℕ → CsaRecord
received hops number e payload = record {
  hops = hops;
  null = false;
  number = number;
  key = e.key;
  originator = e.originator;
  payload = payload;
}

-- the memory with f of its rows
abbrev pub rows_as : (List Row → List Row) → List ℕ → Memory
rows_as f s = with_rows (f (rows_in s)) (memory_of s)

-- a value and marks for an entry: in its row, or in the lowest free one
abbrev pub put_rows : Entry → Value → (ℕ → Bool) → List Row → List Row
put_rows e v m rows = pick (has (holds e) rows) (change (holds e) (revalued v m) rows) (filled (used e v m) rows)
