-- The cache rows: marks, the lowest free row, purged rows, and the next rows to send (document 01, 'Alignment', 'Updates', 'Poll').
-- Assumes nothing.
use Rattle.std.specs.Prelude.{ℕ, zero, suc, ◌-◌, ◌%◌, Bool, true, false, not, ◌&&◌, ◌||◌, List, [], ◌∷◌, map, eqb, ltb}
use Rattle.std.specs.Int.Signed.{le_z}
use Rattle.laws.specs.Choice.{pick}
use Rattle.laws.specs.Lists.{is_empty}
use Rattle.laws.specs.Tables.{on, find, change}
use Rattle.protocol.specs.declared.CsaNumber.{CsaNumber}
use Rattle.protocol.specs.Numbers.{purged}
use Rattle.rules.specs.Server.{rows_most, Entry, Value, Row, free, used, is_free, is_used, holds, waits_for, row_at}

-- the row of an entry: the first that holds it, free where none does
abbrev pub entry_row : Entry → List Row → Row
entry_row e rows = find (holds e) free rows

-- number 2147483647
abbrev pub is_purged : CsaNumber → Bool
is_purged n = le_z purged.0 n.0

-- ---- marks
-- some slot of the eight
abbrev pub any_slot : (ℕ → Bool) → Bool
any_slot m = m 0 || (m 1 || (m 2 || (m 3 || (m 4 || (m 5 || (m 6 || m 7))))))

abbrev pub unmarked : ℕ → Row → Row
unmarked k free = free
unmarked k (used e v m) = used e v (on k false m)

-- the slots that a change stored from slot k waits for: the other live ones, if hops remain
abbrev pub spread : (ℕ → Bool) → ℕ → ℕ → ℕ → Bool
spread live k remaining j = ltb 0 remaining && (live j && not (eqb j k))

-- ---- a row gets an entry: 'A new entry takes the lowest free row'
abbrev pub filled : Row → List Row → List Row
filled r rows = change is_free (λ _. r) rows

-- ---- 'A purged row that waits for nobody at the end of an event is freed'
abbrev pub to_free : Row → Bool
to_free free = false
to_free (used e v m) = is_purged v.number && not (any_slot m)

abbrev pub swept_row : Row → Row
swept_row r = pick (to_free r) free r

abbrev pub swept : List Row → List Row
swept rows = map swept_row rows

abbrev pub swept_if : Bool → List Row → List Row
swept_if true rows = swept rows
swept_if false rows = rows

-- the marks of a slot emptied
abbrev pub cleared_if : Bool → ℕ → List Row → List Row
cleared_if true k rows = map (unmarked k) rows
cleared_if false k rows = rows

-- ---- the next rows
-- of `left` rows from row j on, the first n that pass the test
unfoldable pub next : (ℕ → Bool) → ℕ → ℕ → ℕ → List ℕ
next p zero n j = []
next p (suc left) zero j = []
next p (suc left) (suc n) j = pick (p j) (j ∷ next p left n (suc j)) (next p left (suc n) (suc j))

-- behind the last of them; j if there are none
abbrev pub behind : ℕ → List ℕ → ℕ
behind j [] = j
behind j (i ∷ is) = behind (suc i) is

-- the rows at some places, the free ones left out; `shape` says what is made of a used one
abbrev pub used1 : {A : Type 0} → (Entry → Value → A) → Row → List A → List A
used1 shape free xs = xs
used1 shape (used e v m) xs = shape e v ∷ xs

abbrev pub rows_of : {A : Type 0} → (Entry → Value → A) → List Row → List ℕ → List A
rows_of shape rows [] = []
rows_of shape rows (i ∷ is) = used1 shape (row_at rows (i % rows_most)) (rows_of shape rows is)

-- 'the next 4 used rows, or all that are left, in row order'
abbrev pub next_used : List Row → ℕ → List ℕ
next_used rows j = next (λ i. is_used (row_at rows i)) (rows_most - j) 4 j

-- 'a used row follows'
abbrev pub used_from : List Row → ℕ → Bool
used_from rows j = not (is_empty (next (λ i. is_used (row_at rows i)) (rows_most - j) 1 j))

-- 'the next 4 waiting rows, or all if fewer, after the last row that a poll so sent this peer, going round'; a row past the end is counted on
abbrev pub next_waiting : List Row → ℕ → ℕ → List ℕ
next_waiting rows k j = next (λ i. waits_for k (row_at rows (i % rows_most))) rows_most 4 j
