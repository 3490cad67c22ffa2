-- What the functions on entries leave: a found row changed, or none; and what is held.
-- Assumes nothing.
use Rattle.std.proofs.Common.{◌≡◌, ℕ, ◌-◌, Bool, false, not, List, sym, refl, ap, ◌∙◌}
use mathlib.Core.Path.{fun_ext}
use Rattle.laws.specs.Choice.{pick}
use Rattle.laws.specs.Tables.{has, change}
use Rattle.laws.proofs.Cells.{find_none}
use Rattle.protocol.specs.declared.CsaNumber.{CsaNumber}
use Rattle.protocol.specs.declared.Index.{Index}
use Rattle.protocol.specs.Numbers.{newer, next_csa}
use Rattle.protocol.specs.Messages.{CsaRecord}
use Rattle.rules.specs.Server.{Entry, Row, free, used, holds}
use Rattle.rules.specs.Rows.{entry_row, spread, filled}
use Rattle.rules.specs.Requests.{up_to_date}
use Rattle.rules.specs.Updates.{hops_most, value, stepped, changed_row, stored, value_of, row_for, renewed, rows_by}
use Rattle.std.specs.Prelude.{Option, Some, None, MatchOption}
use Rattle.std.proofs.lemmas.Option.{none-some}
use Rattle.memory.specs.Memory.{value_at, is_marked, row_in, rows_in, memory_of, with_rows}
use Rattle.memory.specs.Search.{place_found, first_from, with_row, revalued}
use Rattle.memory.specs.Marks.{changed_at}
use Rattle.memory.specs.Entries.{received, rows_as, put_rows}
use Rattle.memory.proofs.SearchLaws.{find_first}
use Rattle.memory.proofs.RowPlaces.{row_case, used_row}
use Rattle.memory.proofs.MarkLaws.{as_changed}
use Rattle.memory.proofs.RowInsert.{found_below, all_rows}
use Rattle.memory.proofs.RowLaws.{found_first, has_found, change_found, has_none, change_none, not_found, found_row}

-- ---- the entry's row changed
module _ (e : Entry) (s : List ℕ) where
  module _ (i : ℕ) (at : first_from (holds e) 0 (rows_in s) ≡ Some i) (f : Row → Row) (t : List ℕ) where
    pub entry_marked : memory_of t ≡ changed_at f i s → memory_of t ≡ rows_as (change (holds e) f) s
    entry_marked p = p ∙ ap (λ (rows : List Row). with_rows rows (memory_of s)) (sym (change_found (holds e) (rows_in s) i at f))

    pub entry_changed : memory_of t ≡ with_row s i (f (row_in s i)) → memory_of t ≡ rows_as (change (holds e) f) s
    entry_changed p = entry_marked (as_changed f s t i (found_below (holds e) s i at) p)

    -- where a new entry would be inserted
    pub entry_held : (r : Row) → memory_of t ≡ with_row s i (f (row_in s i))
        → memory_of t ≡ rows_as (λ rows. pick (has (holds e) rows) (change (holds e) f rows) (filled r rows)) s
    entry_held r p =
        entry_changed p
        ∙ ap (λ (b : Bool). with_rows (pick b (change (holds e) f (rows_in s)) (filled r (rows_in s))) (memory_of s)) (sym (has_found (holds e) (rows_in s) i at))

  module _ (none : first_from (holds e) 0 (rows_in s) ≡ None) (f : Row → Row) where
    pub entry_absent : memory_of s ≡ rows_as (change (holds e) f) s
    entry_absent = all_rows s ∙ ap (λ (rows : List Row). with_rows rows (memory_of s)) (sym (change_none (holds e) (rows_in s) none f))

    pub entry_new : (t : List ℕ) (r : Row) → memory_of t ≡ rows_as (filled r) s
        → memory_of t ≡ rows_as (λ rows. pick (has (holds e) rows) (change (holds e) f rows) (filled r rows)) s
    entry_new t r p =
        p ∙ ap (λ (b : Bool). with_rows (pick b (change (holds e) f (rows_in s)) (filled r (rows_in s))) (memory_of s)) (sym (has_none (holds e) (rows_in s) none))

-- ---- a row that was found, whatever the entry
-- it changes; where none was found, no octet does
abbrev pub Changes : Option (Index 64) → (Row → Row) → List ℕ → List ℕ → Type 0
Changes found f s t =
    ((e : Entry) → place_found found ≡ first_from (holds e) 0 (rows_in s) → memory_of t ≡ rows_as (change (holds e) f) s) × (found ≡ None → t ≡ s)

no_place : (found : Option (Index 64)) → place_found found ≡ None → found ≡ None
no_place None e = refl
no_place (Some i) e = cc

module _ (found : Option (Index 64)) (s : List ℕ) (f : Row → Row) where
  pub found_marked : (i : Index 64) (t : List ℕ) → found ≡ Some i → memory_of t ≡ changed_at f i.at s → Changes found f s t
  found_marked i t a m = (λ e g. entry_marked e s i.at (sym g ∙ ap place_found a) f t m, λ n. absurd (none-some i (sym n ∙ a)))

  pub found_changed : (i : Index 64) (t : List ℕ) → found ≡ Some i → memory_of t ≡ with_row s i.at (f (row_in s i.at)) → Changes found f s t
  found_changed i t a m = found_marked i t a (as_changed f s t i.at i.below m)

  pub found_absent : found ≡ None → Changes found f s s
  found_absent a = (λ e g. entry_absent e s (sym g ∙ ap place_found a) f, λ n. refl)

  -- the row of an entry that was looked for
  pub entry_by : (e : Entry) (t : List ℕ) → place_found found ≡ first_from (holds e) 0 (rows_in s) → Changes found f s t
      → (memory_of t ≡ rows_as (change (holds e) f) s) × (has (holds e) (rows_in s) ≡ false → t ≡ s)
  entry_by e t g c = (c.0 e g, λ h. c.1 (no_place found (g ∙ not_found (holds e) (rows_in s) h)))

-- ---- the rules' changes by a value and marks
renewed_by : (live : ℕ → Bool) (k : ℕ) (r : CsaRecord) (x : Row) → revalued (value_of r) (spread live k (r.hops - 1)) x ≡ renewed live k r x
renewed_by live k r free = refl
renewed_by live k r (used e v m) = refl

pub renewed_as : (live : ℕ → Bool) (k : ℕ) (r : CsaRecord) → revalued (value_of r) (spread live k (r.hops - 1)) ≡ renewed live k r
renewed_as live k r = fun_ext (renewed_by live k r)

-- what `store_record` leaves
pub stored_as : (s t : List ℕ) (e : Entry) (n : CsaNumber) (p : List ℕ) (hops left m k : ℕ) (live : ℕ → Bool) → left ≡ hops - 1 → is_marked m
    ≡ spread live k left
    → memory_of t ≡ rows_as (put_rows e (value n p left) (is_marked m)) s → memory_of t ≡ rows_as (rows_by stored live k (received hops n e p)) s
stored_as s t e n p hops left m k live v w put =
    let b : is_marked m ≡ spread live k (hops - 1) = w ∙ ap (spread live k) v in
    put
    ∙ (λ j. rows_as (put_rows e (value n p (v j)) (b j)) s)
    ∙ ap (λ (f : Row → Row). rows_as (λ rows. pick (has (holds e) rows) (change (holds e) f rows) (filled (row_for live k (received hops n e p)) rows)) s)
    (renewed_as live k (received hops n e p))

module _ (s : List ℕ) (i : ℕ) (live : ℕ → Bool) where
  pub changed_row_lem : (payload : List ℕ) (n : CsaNumber) → n ≡ stepped (value_at s i).number (next_csa (value_at s i).number)
      → revalued (value n payload hops_most) live (row_in s i) ≡ changed_row live payload (row_in s i)
  changed_row_lem payload n e =
      row_case s i (λ r. revalued (value n payload hops_most) live r ≡ changed_row live payload r) refl
      (ap (λ (x : CsaNumber). revalued (value x payload hops_most) live (used_row s i)) e)

-- ---- what is held
module _ (e : Entry) (s : List ℕ) where
  pub found_entry : (i : ℕ) → first_from (holds e) 0 (rows_in s) ≡ Some i → entry_row e (rows_in s) ≡ used_row s i
  found_entry i at = find_first (holds e) (rows_in s) i (found_first (holds e) (rows_in s) i at) ∙ found_row s e i at

  pub none_entry : first_from (holds e) 0 (rows_in s) ≡ None → entry_row e (rows_in s) ≡ free
  none_entry none = find_none free (holds e) (rows_in s) (has_none (holds e) (rows_in s) none)

  pub up_found : (n held : CsaNumber) (b : Bool) (i : ℕ) → first_from (holds e) 0 (rows_in s) ≡ Some i → held ≡ (value_at s i).number → b ≡ newer n held
      → not b ≡ up_to_date n (entry_row e (rows_in s))
  up_found n held b i at h p = ap not (p ∙ ap (newer n) h) ∙ sym (ap (up_to_date n) (found_entry i at))

  pub up_none : (n : CsaNumber) → first_from (holds e) 0 (rows_in s) ≡ None → false ≡ up_to_date n (entry_row e (rows_in s))
  up_none n none = sym (ap (up_to_date n) (none_entry none))

  -- the answer by the row found
  pub up_by : (n : CsaNumber) (b : Bool) (found : Option (Index 64)) → place_found found ≡ first_from (holds e) 0 (rows_in s)
      → MatchOption found (b ≡ false) (λ i. b ≡ not (newer n (value_at s i.at).number)) → b ≡ up_to_date n (entry_row e (rows_in s))
  up_by n b None p m = m ∙ up_none n (sym p)
  up_by n b (Some i) p m = m ∙ up_found n (value_at s i.at).number (newer n (value_at s i.at).number) i.at (sym p) refl refl
