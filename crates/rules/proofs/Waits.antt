-- Demand 3, `waits`: an entry waits by its row exactly when it waits in the history.
-- Assumes nothing.
use Prim.Native.Nat.{ℕ}
use mathlib.Core.Path.{◌≡◌, refl, ◌∙◌}
use mathlib.Core.Bool.{true}
use mathlib.Core.List.{List}
use Rattle.laws.specs.Tables.{has}
use Rattle.laws.proofs.Bools.{and_true}
use Rattle.laws.proofs.Cells.{has_true}
use Rattle.rules.specs.Server.{Entry, Row, free, holds, row_at}
use Rattle.rules.specs.Server as server
use Rattle.rules.specs.History.{Known, entry_waits}
use Rattle.rules.specs.Demand3.{row_waits}
use Rattle.rules.proofs.Relation.{Sim}
use Rattle.rules.proofs.RowSim.{sim_has}

pub waits : (rows : List Row) (es : List Known) → Sim rows es → (k : ℕ) (e : Entry) → has (row_waits k e) rows ≡ has (entry_waits k e) es
waits rows es m k e = sim_has (row_waits k e) refl rows es m

-- an entry that waits in the history has a row, and the row waits
pub waiting_row : (rows : List Row) (es : List Known) → Sim rows es → (k : ℕ) (e : Entry) → has (entry_waits k e) es ≡ true
    → (i : ℕ) × (holds e (row_at rows i) ≡ true) × (server.waits_for k (row_at rows i) ≡ true)
waiting_row rows es m k e t =
    let f = has_true free (row_waits k e) rows (waits rows es m k e ∙ t) in
    let w = and_true (holds e (row_at rows f.0)) (server.waits_for k (row_at rows f.0)) f.1 in
    (f.0, w.0, w.1)
