-- An entry is in one row at most: kept by each function on rows and entries.
-- Assumes nothing.
use Rattle.std.proofs.Common.{◌≡◌, ℕ, ◌-◌, ◌<◌, Bool, true, false, not, ◌&&◌, List, [], length, set, sym, refl, ap, ◌∙◌, arith, length-set, get_or-set_other, get_or-set_same}
use mathlib.Core.Bool.{false≢true}
use native.Mathlib.Decide.{ℕ_discrete}
use lib.ListN.{get_or-map}
use Rattle.laws.specs.Choice.{pick}
use Rattle.laws.specs.Tables.{on, has, change}
use Rattle.laws.proofs.Cells.{has_false}
use Rattle.protocol.specs.declared.CsaNumber.{CsaNumber}
use Rattle.protocol.specs.Numbers.{newer, first_number}
use Rattle.protocol.specs.Messages.{CsaRecord}
use Rattle.rules.specs.Server.{Entry, Value, Row, free, used, is_free, holds, same_entry, row_at}
use Rattle.rules.specs.Rows.{is_purged, any_slot, unmarked, spread, swept_row, swept, filled}
use Rattle.rules.specs.Requests.{entry_of}
use Rattle.rules.specs.Updates.{hops_most, value, changed_row, purged_row, set_rows, withdraw_rows, purge_rows, UpdateRule, null, purge_absent, full, stored}
use Rattle.rules.specs.Updates.{equal, older, value_of, renewed, waits_again, rows_by, replied}
use Rattle.rules.specs.Demand3.{Once}
use Rattle.rules.proofs.Entries.{entry_true, entry_refl}
use Rattle.std.specs.Prelude.{Option}
use Rattle.std.specs.Prelude.{Some, None}
use Rattle.memory.specs.Memory.{rows_in, Memory, memory_of}
use Rattle.memory.specs.Entries.{rows_as}
use Rattle.memory.specs.Search.{first_from, revalued}
use Rattle.memory.proofs.SearchLaws.{First, found, finds}
use Rattle.memory.proofs.RowPlaces.{rows_are}
use Rattle.memory.proofs.RowLaws.{change_found, change_none}

-- ---- an entry inserted where none was
module _ (e : Entry) (v : Value) (m : ℕ → Bool) (rows : List Row) (absent : has (holds e) rows ≡ false) where
  absent_at : (j : ℕ) → holds e (row_at rows j) ≡ false
  absent_at j = has_false free (holds e) refl rows absent j

  -- is found, at the row that was free
  pub find_inserted : (i : ℕ) → first_from is_free 0 rows ≡ Some i → first_from (holds e) 0 (filled (used e v m) rows) ≡ Some i
  find_inserted i at =
      let f : First is_free rows i = found is_free rows i at in
      let new : List Row = set rows i (used e v m) in
      ap (first_from (holds e) 0) (change_found is_free rows i at (λ _. used e v m))
      ∙ finds (holds e) new i (record {
        passes = ap (holds e) (get_or-set_same rows i (used e v m) free f.below) ∙ entry_refl e;
        below = let b = f.below in let l : length new ≡ length rows = length-set rows i (used e v m) in omega arith;
        lowest = λ j h. ap (holds e) (get_or-set_other rows i j (used e v m) free (λ z. let g = h in omega arith)) ∙ absent_at j;
      })

  clash : {A : Type 0} (f : Entry) (j : ℕ) → holds f (used e v m) ≡ true → holds f (row_at rows j) ≡ true → A
  clash f j p q =
      let z : e ≡ f = entry_true e f p in
      absurd (false≢true (sym (absent_at j) ∙ ap (λ x. holds x (row_at rows j)) z ∙ q))

  -- and is there once
  pub once_inserted : Once rows → Once (filled (used e v m) rows)
  once_inserted once = by (first_from is_free 0 rows) refl where
    at_free : (i : ℕ) → First is_free rows i → Once (set rows i (used e v m))
    at_free i f g j k p q = cases (ℕ_discrete j i) (ℕ_discrete k i) where
      here : (a : ℕ) → a ≡ i → holds g (row_at (set rows i (used e v m)) a) ≡ true → holds g (used e v m) ≡ true
      here a z h = sym (ap (λ x. holds g (row_at (set rows i (used e v m)) x)) z ∙ ap (holds g) (get_or-set_same rows i (used e v m) free f.below)) ∙ h

      other : (a : ℕ) → (a ≡ i → ⊥) → holds g (row_at (set rows i (used e v m)) a) ≡ true → holds g (row_at rows a) ≡ true
      other a n h = sym (ap (holds g) (get_or-set_other rows i a (used e v m) free n)) ∙ h

      cases : Dec (j ≡ i) → Dec (k ≡ i) → j ≡ k
      cases (yes y) (yes z) = y ∙ sym z
      cases (yes y) (no z) = clash g k (here j y p) (other k z q)
      cases (no y) (yes z) = clash g j (here k z q) (other j y p)
      cases (no y) (no z) = once g j k (other j y p) (other k z q)

    by : (r : Option ℕ) → first_from is_free 0 rows ≡ r → Once (filled (used e v m) rows)
    by (Some i) at = rw (change_found is_free rows i at (λ _. used e v m)) (at_free i (found is_free rows i at))
    by None at = rw (change_none is_free rows at (λ _. used e v m)) once

-- ---- entries that stay where they are, or go
pub once_fewer : (rows new : List Row) → ((e : Entry) (i : ℕ) → holds e (row_at new i) ≡ true → holds e (row_at rows i) ≡ true) → Once rows → Once new
once_fewer rows new h once e i j p q = once e i j (h e i p) (h e j q)

module _ (rows : List Row) (i : ℕ) (r : Row) (below : i < length rows) (fewer : (e : Entry) → holds e r ≡ true → holds e (row_at rows i) ≡ true) where
  pub once_set : Once rows → Once (set rows i r)
  once_set once = once_fewer rows (set rows i r) (λ e j p. by e j p (ℕ_discrete j i)) once where
    by : (e : Entry) (j : ℕ) → holds e (row_at (set rows i r) j) ≡ true → Dec (j ≡ i) → holds e (row_at rows j) ≡ true
    by e j p (yes z) =
        ap (λ x. holds e (row_at rows x)) z ∙ fewer e (sym (ap (λ x. holds e (row_at (set rows i r) x)) z ∙ ap (holds e) (get_or-set_same rows i r free below)) ∙ p)
    by e j p (no n) = sym (ap (holds e) (get_or-set_other rows i j r free n)) ∙ p

revalued_holds : (v : Value) (m : ℕ → Bool) (e : Entry) (r : Row) → holds e (revalued v m r) ≡ true → holds e r ≡ true
revalued_holds v m e free h = h
revalued_holds v m e (used f w n) h = h

pub once_revalued : (rows : List Row) (i : ℕ) (v : Value) (m : ℕ → Bool) → i < length rows → Once rows → Once (set rows i (revalued v m (row_at rows i)))
once_revalued rows i v m h once = once_set rows i (revalued v m (row_at rows i)) h (λ e p. revalued_holds v m e (row_at rows i) p) once

pub once_freed : (rows : List Row) (i : ℕ) → i < length rows → Once rows → Once (set rows i free)
once_freed rows i h once = once_set rows i free h (λ e p. absurd (false≢true p)) once

swept_holds_by : (e f : Entry) (v : Value) (m : ℕ → Bool) (b : Bool) → holds e (pick b free (used f v m)) ≡ true → holds e (used f v m) ≡ true
swept_holds_by e f v m true h = absurd (false≢true h)
swept_holds_by e f v m false h = h

swept_holds : (e : Entry) (r : Row) → holds e (swept_row r) ≡ true → holds e r ≡ true
swept_holds e free h = h
swept_holds e (used f v m) h = swept_holds_by e f v m (is_purged v.number && not (any_slot m)) h

pub once_swept : (rows : List Row) → Once rows → Once (swept rows)
once_swept rows once = once_fewer rows (swept rows) (λ e i p. swept_holds e (row_at rows i) (sym (ap (holds e) (get_or-map swept_row rows i free)) ∙ p)) once

-- ---- the first row that passes changed, where the change adds no entry
abbrev pub Keeps : (Row → Row) → Type 0
Keeps f = (e : Entry) (r : Row) → holds e (f r) ≡ true → holds e r ≡ true

pub once_changed : (p : Row → Bool) (f : Row → Row) → Keeps f → (rows : List Row) → Once rows → Once (change p f rows)
once_changed p f keeps rows once = by (first_from p 0 rows) refl where
  by : (r : Option ℕ) → first_from p 0 rows ≡ r → Once (change p f rows)
  by (Some i) at = rw (change_found p rows i at f) (once_set rows i (f (row_at rows i)) (found p rows i at).below (λ e. keeps e (row_at rows i)) once)
  by None at = rw (change_none p rows at f) once

keeps_renewed : (live : ℕ → Bool) (k : ℕ) (r : CsaRecord) → Keeps (renewed live k r)
keeps_renewed live k r e free h = h
keeps_renewed live k r e (used f v m) h = h

keeps_unmarked : (k : ℕ) → Keeps (unmarked k)
keeps_unmarked k e free h = h
keeps_unmarked k e (used f v m) h = h

keeps_owed : (k : ℕ) → Keeps (waits_again k)
keeps_owed k e free h = h
keeps_owed k e (used f v m) h = h

pick_same : (e f : Entry) (v : Value) (m n : ℕ → Bool) (a b : Bool) → holds e (pick a (used f v m) (pick b (used f v m) (used f v n))) ≡ true
    → same_entry f e ≡ true
pick_same e f v m n true b h = h
pick_same e f v m n false true h = h
pick_same e f v m n false false h = h

keeps_replied : (k : ℕ) (n : CsaNumber) → Keeps (replied k n)
keeps_replied k n e free h = h
keeps_replied k n e (used f v m) h = pick_same e f v m (on k false m) (newer n v.number) (newer v.number n) h

keeps_changed : (live : ℕ → Bool) (payload : List ℕ) → Keeps (changed_row live payload)
keeps_changed live payload e free h = h
keeps_changed live payload e (used f v m) h = h

keeps_purged : (live : ℕ → Bool) → Keeps (purged_row live)
keeps_purged live e free h = h
keeps_purged live e (used f v m) h = h

-- ---- the rules
module _ (rows : List Row) (once : Once rows) where
  -- a change of the entry's row, or a new row for it
  once_put : (e : Entry) (v : Value) (m : ℕ → Bool) (f : Row → Row) → Keeps f → (b : Bool) → has (holds e) rows ≡ b
      → Once (pick b (change (holds e) f rows) (filled (used e v m) rows))
  once_put e v m f keeps true h = once_changed (holds e) f keeps rows once
  once_put e v m f keeps false h = once_inserted e v m rows h once

  -- `store_record`, `equal_record`, `older_record`: a record of a CSU Request
  pub once_by : (u : UpdateRule) (live : ℕ → Bool) (k : ℕ) (r : CsaRecord) → Once (rows_by u live k r rows)
  once_by null live k r = once
  once_by purge_absent live k r = once
  once_by full live k r = once
  once_by stored live k r =
      once_put (entry_of r) (value_of r) (spread live k (r.hops - 1)) (renewed live k r) (keeps_renewed live k r) (has (holds (entry_of r)) rows) refl
  once_by equal live k r = once_changed (holds (entry_of r)) (unmarked k) (keeps_unmarked k) rows once
  once_by older live k r = once_changed (holds (entry_of r)) (waits_again k) (keeps_owed k) rows once

  -- `reply_record`
  pub once_replied : (k : ℕ) (e : Entry) (n : CsaNumber) → Once (change (holds e) (replied k n) rows)
  once_replied k e n = once_changed (holds e) (replied k n) (keeps_replied k n) rows once

  -- `set_entry`, `withdraw_entry`, `purge_entry`
  pub once_set_rows : (live : ℕ → Bool) (e : Entry) (payload : List ℕ) → Once (set_rows live e payload rows)
  once_set_rows live e payload = once_put e (value first_number payload hops_most) live (changed_row live payload) (keeps_changed live payload)
      (has (holds e) rows) refl

  pub once_withdrawn : (live : ℕ → Bool) (e : Entry) → Once (withdraw_rows live e rows)
  once_withdrawn live e = once_changed (holds e) (changed_row live []) (keeps_changed live []) rows once

  pub once_purged : (live : ℕ → Bool) (e : Entry) → Once (purge_rows live e rows)
  once_purged live e = once_changed (holds e) (purged_row live) (keeps_purged live) rows once

-- what a function leaves in the memory
pub rows_left : (f : List Row → List Row) (s t : List ℕ) → memory_of t ≡ rows_as f s → rows_in t ≡ f (rows_in s)
rows_left f s t e = sym (rows_are t) ∙ ap (λ (m : Memory). m.rows) e

pub once_left : (f : List Row → List Row) (s t : List ℕ) → memory_of t ≡ rows_as f s → Once (f (rows_in s)) → Once (rows_in t)
once_left f s t e once = rw (rows_left f s t e) once
