-- A row by its octets: free or used, its name and its entry.
-- Assumes nothing.
use Rattle.std.proofs.Common.{◌≡◌, ℕ, ◌+◌, ◌-◌, ◌<◌, Bool, true, false, not, ◌&&◌, eqb, List, length, sym, refl, ap, ◌∙◌, arith, length-drop, eq-eqb, ne_eqb}
use mathlib.Core.Bool.{false≢true}
use Rattle.laws.specs.Choice.{pick}
use Rattle.laws.specs.Tables.{same}
use Rattle.laws.proofs.Bools.{pick_of}
use Rattle.laws.proofs.Lists.{part_length}
use Rattle.protocol.specs.Sizes.{id_length}
use Rattle.protocol.specs.Fields.{octet}
use Rattle.rules.specs.Server.{rows_most, Row, free, used, is_used, holds, row_at}
use Rattle.memory.specs.Layout.{name_place, memory_size, row_place, length_place, mark_place, tag_place}
use Rattle.memory.specs.Memory.{entry_named, tag_of, is_marked, key_room, row_name, row_entry, value_at, row_in, rows_in, memory_of}
use Rattle.memory.proofs.NameLaws.{tagged_is, tagged_originator}
use Rattle.memory.proofs.Frame.{table_get, table_length}

-- ---- the rows
pub rows_are : (s : List ℕ) → (memory_of s).rows ≡ rows_in s
unfolding memory_of
rows_are s = refl

pub rows_length : (s : List ℕ) → length (rows_in s) ≡ rows_most
unfolding rows_in
rows_length s = table_length (row_in s) rows_most 0

pub row_get : (s : List ℕ) (i : ℕ) → i < rows_most → row_at (rows_in s) i ≡ row_in s i
unfolding rows_in
row_get s i h = table_get (row_in s) rows_most i free h

-- ---- free or used: told by the octet of the key length
module _ (s : List ℕ) (i : ℕ) where
  abbrev pub used_row : Row
  used_row = used (row_entry s i) (value_at s i) (is_marked (octet s (mark_place i)))

  used_by : (b : Bool) → is_used (pick b free used_row) ≡ not b
  used_by true = refl
  used_by false = refl

  pub is_used_lem : is_used (row_in s i) ≡ not (eqb (octet s (length_place i)) 0)
  unfolding row_in
  is_used_lem = used_by (eqb (octet s (length_place i)) 0)

  pub octet_free : octet s (length_place i) ≡ 0 → row_in s i ≡ free
  unfolding row_in
  octet_free z = ap (λ b. pick b free used_row) (eq-eqb (octet s (length_place i)) 0 z)

  pub octet_used : (octet s (length_place i) ≡ 0 → ⊥) → row_in s i ≡ used_row
  unfolding row_in
  octet_used n = ap (λ b. pick b free used_row) (ne_eqb (octet s (length_place i)) 0 n)

  used_as : (b : Bool) → is_used (pick b free used_row) ≡ true → pick b free used_row ≡ used_row
  used_as true h = absurd (false≢true h)
  used_as false h = refl

  -- a used row is its entry, its value and its marks
  pub used_row_lem : is_used (row_in s i) ≡ true → row_in s i ≡ used_row
  unfolding row_in
  used_row_lem h = used_as (eqb (octet s (length_place i)) 0) h

  free_as : (b : Bool) → is_used (pick b free used_row) ≡ false → pick b free used_row ≡ free
  free_as true h = refl
  free_as false h = absurd (false≢true (sym h))

  pub free_row : is_used (row_in s i) ≡ false → row_in s i ≡ free
  unfolding row_in
  free_row h = free_as (eqb (octet s (length_place i)) 0) h

  pub not_held : (name : List ℕ) → is_used (row_in s i) ≡ false → holds (entry_named name) (row_in s i) ≡ false
  not_held name h = ap (holds (entry_named name)) (free_row h)

  -- what holds of a free row and of a used one with these octets
  pub row_case : (P : Row → Type 0) → P free → P used_row → P (row_in s i)
  unfolding row_in
  row_case P a b = pick_of P (eqb (octet s (length_place i)) 0) free used_row a b

-- ---- the lengths of what is read, in any memory
originator_length : (s : List ℕ) (i : ℕ) → length (row_entry s i).originator ≡ length (row_name s i) - (length (row_name s i) - id_length)
originator_length s i = ap length (tagged_originator (row_name s i) (octet s (tag_place i))) ∙ length-drop (length (row_name s i) - id_length) (row_name s i)

-- ---- its name
module _ (s : List ℕ) (i : ℕ) (size : length s ≡ memory_size) (h : i < rows_most) where
  pub name_length : length (row_name s i) ≡ key_room s i + id_length
  name_length = part_length s (row_place i + name_place) (key_room s i + id_length) (omega arith)

  pub originator_long : length (row_entry s i).originator ≡ id_length
  originator_long = let a = originator_length s i in let n = name_length in omega arith

  -- ---- whether it holds an entry
  pub held_by_name : (name : List ℕ) → 4 < length name → octet s (tag_place i) ≡ tag_of name → is_used (row_in s i) ≡ true
      → same (row_name s i) name ≡ holds (entry_named name) (row_in s i)
  held_by_name name g t u =
      let l : length (row_name s i) ≡ key_room s i + id_length = name_length in
      sym (ap (holds (entry_named name)) (used_row_lem s i u) ∙ tagged_is (octet s (tag_place i)) (row_name s i) name (omega arith) g
      ∙ ap (λ b. b && same (row_name s i) name) (eq-eqb (octet s (tag_place i)) (tag_of name) t))

  pub other_tag : (name : List ℕ) → 4 < length name → (octet s (tag_place i) ≡ tag_of name → ⊥) → holds (entry_named name) (row_in s i) ≡ false
  other_tag name g n =
      let l : length (row_name s i) ≡ key_room s i + id_length = name_length in
      row_case s i (λ r. holds (entry_named name) r ≡ false) refl
      (tagged_is (octet s (tag_place i)) (row_name s i) name (omega arith) g
      ∙ ap (λ b. b && same (row_name s i) name) (ne_eqb (octet s (tag_place i)) (tag_of name) n))
