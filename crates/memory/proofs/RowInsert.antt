-- A row inserted at the lowest free place.
-- Assumes nothing.
use Rattle.std.proofs.Common.{◌≡◌, ℕ, ◌<◌, Bool, true, false, List, length, sym, refl, ap, ◌∙◌, arith}
use mathlib.Core.Bool.{false≢true}
use Rattle.laws.specs.Tables.{has}
use Rattle.laws.proofs.Tables.{full}
use Rattle.rules.specs.Server.{rows_most, Entry, Value, Row, used, is_free}
use Rattle.std.specs.Prelude.{Some, None}
use Rattle.std.specs.Prelude.{Option}
use Rattle.protocol.specs.declared.Index.{Index}
use Rattle.memory.specs.Memory.{rows_in, memory_of, with_rows}
use Rattle.memory.specs.Search.{place_found, first_from, with_row, Inserts}
use Rattle.memory.proofs.SearchLaws.{First, found, none_found, has_first, change_first}
use Rattle.memory.proofs.RowPlaces.{rows_length}

pub found_below : (p : Row → Bool) (s : List ℕ) (i : ℕ) → first_from p 0 (rows_in s) ≡ Some i → i < rows_most
found_below p s i e = let b = (found p (rows_in s) i e).below in let l : length (rows_in s) ≡ rows_most = rows_length s in omega arith

pub all_rows : (s : List ℕ) → memory_of s ≡ with_rows (rows_in s) (memory_of s)
unfolding memory_of
all_rows s = refl

pub insert_stored : (s t : List ℕ) (a : Option (Index 64)) (i : ℕ) (e : Entry) (v : Value) (m : ℕ → Bool) → place_found a ≡ first_from is_free 0 (rows_in s)
    → first_from is_free 0 (rows_in s) ≡ Some i → memory_of t ≡ with_row s i (used e v m) → Inserts (used e v m) s t a
insert_stored s t a i e v m is at put =
    let f : First is_free (rows_in s) i = found is_free (rows_in s) i at in
    let h : has is_free (rows_in s) ≡ true = has_first is_free (rows_in s) i f in
    record {
      rows = put ∙ ap (λ z. with_rows z (memory_of s)) (sym (change_first is_free (λ _. used e v m) (rows_in s) i f));
      answer = is;
      kept = λ q. absurd (false≢true (sym q ∙ h));
    }

pub insert_full : (s : List ℕ) (r : Row) → first_from is_free 0 (rows_in s) ≡ None → Inserts r s s None
insert_full s r at =
    let h : has is_free (rows_in s) ≡ false = none_found is_free (rows_in s) 0 at in
    record {
      rows = all_rows s ∙ ap (λ z. with_rows z (memory_of s)) (sym (full is_free (λ _. r) (rows_in s) h));
      answer = sym at;
      kept = λ q. refl;
    }
