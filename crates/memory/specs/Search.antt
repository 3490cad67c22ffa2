-- What the functions on rows answer, and what they leave in the memory.
-- Assumes nothing.
use Rattle.std.specs.Prelude.{◌≡◌, ℕ, suc, ◌+◌, ◌-◌, ◌/◌, ◌%◌, ◌<◌, ◌≤◌, Bool, false, ◌⊎◌, List, [], ◌∷◌, length, ◌≢◌}
use Rattle.std.proofs.Math.ListN as lists
use Rattle.laws.specs.Choice.{pick}
use Rattle.laws.specs.Puts.{put_at}
use Rattle.laws.specs.Tables.{has}
use Rattle.protocol.specs.Sizes.{id_length, key_most, payload_most}
use Rattle.protocol.specs.declared.CsaNumber.{CsaNumber}
use Rattle.protocol.specs.Fields.{octet}
use Rattle.protocol.specs.Numbers.{bits_of}
use Rattle.rules.specs.Server.{rows_most, Entry, Value, Row, free, used, is_free}
use Rattle.rules.specs.Rows.{filled, to_free}
use Rattle.memory.specs.Layout.{name_place, row_place, length_place, mark_place, top_place, tag_place}
use Rattle.memory.specs.Memory.{tag_of, payload_place, row_in, rows_in, Memory, memory_of, with_rows}
use Rattle.std.specs.Prelude.{Option, Some, None}
use Rattle.protocol.specs.declared.Index.{Index}

abbrev pub entry : List ℕ → List ℕ → Entry
entry key originator = record { key = key; originator = originator }

-- key and originator of an entry that a row has room for
abbrev pub FitsKey : List ℕ → List ℕ → Type 0
FitsKey key originator = ((1 ≤ length key) × (length key ≤ key_most)) × (length originator ≡ id_length)

-- the same with a payload
pub record FitsRow (key originator payload : List ℕ) : Type 0 where
  pub some_key : 1 ≤ length key
  pub key_fits : length key ≤ key_most
  pub originator_fits : length originator ≡ id_length
  pub payload_fits : length payload ≤ payload_most

-- a name that a row has room for
abbrev pub FitsName : List ℕ → Type 0
FitsName name = (id_length < length name) × (length name ≤ id_length + key_most)

-- of 64 octets from `at` on the first that is t: its place, or a number past them
pub record FirstOctet (s : List ℕ) (at t r : ℕ) : Type 0 where
  pub there : r < 64 → octet s (at + r) ≡ t
  pub none_before : (j : ℕ) → j < 64 → octet s (at + j) ≡ t → r ≤ j

-- the same as an index, or that none is t
abbrev pub FirstIndex : List ℕ → ℕ → ℕ → Option (Index 64) → Type 0
FirstIndex s at t (Some i) = FirstOctet s at t i.at
FirstIndex s at t None = (j : ℕ) → j < 64 → octet s (at + j) ≢ t

-- the first row that passes the test, where the rows are counted from i on
unfoldable pub first_from : (Row → Bool) → ℕ → List Row → Option ℕ
first_from p i [] = None
first_from p i (r ∷ rows) = pick (p r) (Some i) (first_from p (suc i) rows)

-- the place of a row that was found
abbrev pub place_found : Option (Index 64) → Option ℕ
place_found (Some i) = Some i.at
place_found None = None

-- ---- rows put
-- the memory with another row i
abbrev pub with_row : List ℕ → ℕ → Row → Memory
with_row s i r = with_rows (lists.set (rows_in s) i r) (memory_of s)

-- a used row keeps its entry and gets a value and marks
abbrev pub revalued : Value → (ℕ → Bool) → Row → Row
revalued v m free = free
revalued v m (used e w n) = used e v m

-- the first octets of a row's body: payload length, remaining hops, the number without its highest octet
abbrev pub row_head : ℕ → ℕ → ℕ → List ℕ
row_head payload bits remaining =
    payload ∷ 0 ∷ remaining / 256 ∷ remaining % 256 ∷ 0 ∷ bits / 65536 % 256 ∷ bits / 256 % 256 ∷ bits % 256 ∷ []

abbrev pub head_put : ℕ → ℕ → ℕ → ℕ → ℕ → List ℕ → List ℕ
head_put i payload bits remaining marks s =
    lists.set (lists.set (put_at s (row_place i) (row_head payload bits remaining)) (top_place i) (bits / 16777216)) (mark_place i) marks

-- a value and marks: every octet of the memory then
abbrev pub value_put : ℕ → CsaNumber → List ℕ → ℕ → ℕ → List ℕ → List ℕ
value_put i number payload remaining marks s = put_at (head_put i (length payload) (bits_of number) remaining marks s) (payload_place s i) payload

abbrev pub sections_put : ℕ → ℕ → ℕ → List ℕ → List ℕ
sections_put i key tag s = lists.set (lists.set s (length_place i) key) (tag_place i) tag

-- a row: every octet then
abbrev pub row_put : ℕ → List ℕ → CsaNumber → List ℕ → ℕ → ℕ → List ℕ → List ℕ
row_put i name number payload remaining marks s =
    let headed = sections_put i (length name - id_length) (tag_of name) (head_put i (length payload) (bits_of number) remaining marks s) in
    put_at (put_at headed (row_place i + name_place) name) (row_place i + name_place + length name) payload

-- the lowest free row is filled; without one, no octet changes
pub record Inserts (r : Row) (before after : List ℕ) (a : Option (Index 64)) : Type 0 where
  pub rows : memory_of after ≡ with_rows (filled r (rows_in before)) (memory_of before)
  pub answer : place_found a ≡ first_from is_free 0 (rows_in before)
  pub kept : has is_free (rows_in before) ≡ false → after ≡ before

-- ---- rows to free
-- r is i where length, marks and highest octet may be those of a row to free, and past all rows where they are not
pub record LastOrNone (size marks top i r : ℕ) : Type 0 where
  pub may : r < 64 → r ≡ i
  pub not : (r ≢ i) → (size ≡ 0) ⊎ ((marks ≢ 0) ⊎ (top ≢ 127))

-- no row before i is to be freed, or none at all
abbrev pub FirstLast : List ℕ → Option (Index 64) → Type 0
FirstLast s (Some i) = (j : ℕ) → j < i.at → to_free (row_in s j) ≡ false
FirstLast s None = (j : ℕ) → j < rows_most → to_free (row_in s j) ≡ false
