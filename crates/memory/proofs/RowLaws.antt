-- What is found and changed, and the row that holds an entry, in the words of the rules.
-- Assumes nothing.
use Rattle.std.proofs.Common.{◌≡◌, ℕ, Bool, true, false, List, set, sym, refl, ap, ◌∙◌}
use Rattle.laws.specs.Tables.{has, change}
use Rattle.laws.proofs.Tables.{full}
use Rattle.rules.specs.Server.{Entry, Row, free, used, is_used, holds, row_at}
use Rattle.std.specs.Prelude.{Option, Some, None, is_some}
use Rattle.protocol.specs.declared.Index.{Index}
use Rattle.memory.specs.Memory.{row_in, rows_in}
use Rattle.memory.specs.Search.{place_found, first_from}
use Rattle.memory.proofs.SearchLaws.{First, found, none_found, finds_none, has_first, change_first}
use Rattle.memory.proofs.RowPlaces.{row_get, used_row, used_row_lem}
use Rattle.memory.proofs.RowInsert.{found_below}

-- ---- what a search tells
module _ (p : Row → Bool) (rows : List Row) where
  module _ (i : ℕ) (at : first_from p 0 rows ≡ Some i) where
    -- it is the first that passes
    pub found_first : First p rows i
    found_first = found p rows i at

    pub has_found : has p rows ≡ true
    has_found = has_first p rows i found_first

    pub change_found : (f : Row → Row) → change p f rows ≡ set rows i (f (row_at rows i))
    change_found f = change_first p f rows i found_first

  module _ (none : first_from p 0 rows ≡ None) where
    pub has_none : has p rows ≡ false
    has_none = none_found p rows 0 none

    pub change_none : (f : Row → Row) → change p f rows ≡ rows
    change_none f = full p f rows has_none

  -- and nothing is found where none passes
  pub not_found : has p rows ≡ false → first_from p 0 rows ≡ None
  not_found h = finds_none p rows 0 h

-- whether something is found
pub has_place : (p : Row → Bool) (rows : List Row) (o : Option (Index 64)) → place_found o ≡ first_from p 0 rows → is_some o ≡ has p rows
has_place p rows (Some i) e = sym (has_found p rows i.at (sym e))
has_place p rows None e = sym (has_none p rows (sym e))

-- ---- a found row is used
holds_used : (e : Entry) (r : Row) → holds e r ≡ true → is_used r ≡ true
holds_used e free h = h
holds_used e (used f v m) h = refl

module _ (s : List ℕ) (e : Entry) (i : ℕ) (at : first_from (holds e) 0 (rows_in s) ≡ Some i) where
  pub found_row : row_at (rows_in s) i ≡ used_row s i
  found_row =
      let g = row_get s i (found_below (holds e) s i at) in
      g ∙ used_row_lem s i (holds_used e (row_in s i) (sym (ap (holds e) g) ∙ (found_first (holds e) (rows_in s) i at).passes))
