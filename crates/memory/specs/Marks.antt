-- What the functions on marks answer and leave, and what the next rows are given as.
-- Assumes nothing.
use Rattle.std.specs.Prelude.{◌≡◌, ℕ, ◌%◌, Bool, true, List, length, take, nat_eq}
use Rattle.std.proofs.Math.ListN as lists
use Rattle.laws.specs.Tables.{on, has}
use Rattle.rules.specs.Server.{rows_most, Row, free, used, waits_for, row_at}
use Rattle.rules.specs.Rows.{behind}
use Rattle.memory.specs.declared.next.Picks.{Picks}
use Rattle.memory.specs.Memory.{is_marked, rows_in, Memory, memory_of, with_rows}

-- the row with other marks; a free row has none
abbrev pub with_marks : (ℕ → Bool) → Row → Row
with_marks m free = free
with_marks m (used e v o) = used e v m

-- the row waits for slot k
abbrev pub marked : ℕ → Row → Row
marked k free = free
marked k (used e v m) = used e v (on k true m)

-- the memory with f of row i in its place
abbrev pub changed_at : (Row → Row) → ℕ → List ℕ → Memory
changed_at f i s = with_rows (lists.set (rows_in s) i (f (row_at (rows_in s) i))) (memory_of s)

-- the octet has the mark of each slot that some row waits for, and of no other
abbrev pub AnyMarks : List Row → ℕ → Type 0
AnyMarks rows r = (k : ℕ) → is_marked r k ≡ has (waits_for k) rows

-- ---- the next rows
-- the rows that are meant
abbrev pub picks_of : Picks → List ℕ
picks_of p = take p.count p.rows

-- p means the rows l from row `from` on, and where to go on
pub record Picked (from : ℕ) (l : List ℕ) (p : Picks) : Type 0 where
  pub chosen : picks_of p ≡ l
  pub onward : p.next ≡ behind from l
  pub full : length p.rows ≡ 4

-- row i is among them
abbrev pub is_picked : ℕ → List ℕ → Bool
is_picked i l = has (λ y. nat_eq (y % rows_most) i) l
