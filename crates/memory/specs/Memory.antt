-- What the octets of the lent memory mean: the rows, request lists and kept CAs of the rules.
-- Assumes nothing.
use Rattle.std.specs.Prelude.{ℕ, ◌+◌, ◌-◌, ◌*◌, ◌/◌, ◌%◌, ◌^◌, min, Bool, List, [], length, take, drop, ◌==◌, nat_lt}
use Rattle.std.proofs.Math.ListN as lists
use Rattle.laws.specs.Choice.{pick}
use Rattle.laws.specs.Lists.{part, table}
use Rattle.protocol.specs.Sizes.{id_length, key_most, payload_most, packet_most}
use Rattle.protocol.specs.Fields.{octet, field2, field4}
use Rattle.protocol.specs.Numbers.{csa_of}
use Rattle.rules.specs.Server.{slots_most, rows_most, requests_most, Entry, Value, Row, free, used, Request}
use Rattle.memory.specs.Layout.{number_place, name_place, row_place, length_place, mark_place}
use Rattle.memory.specs.Layout.{top_place, tag_place, list_place, request_tag_place, request_place, kept_place}

-- ---- names: key and originator of an entry, one behind the other, as in a packet
abbrev pub entry_named : List ℕ → Entry
entry_named name = record { key = take (length name - id_length) name; originator = drop (length name - id_length) name }

-- ---- tags: an octet made of a name, to look for before the name itself
-- words of four and of eight octets, the first octet the lowest
abbrev pub word4 : List ℕ → ℕ → ℕ
word4 p at = ((octet p (at + 3) * 256 + octet p (at + 2)) * 256 + octet p (at + 1)) * 256 + octet p at

abbrev pub word8 : List ℕ → ℕ → ℕ
word8 p at = word4 p (at + 4) * 4294967296 + word4 p at

abbrev pub plus64 : ℕ → ℕ → ℕ
plus64 a b = (a + b) % 2 ^ 64

-- every octet of a name of up to 24 octets counts
abbrev pub long_sum : List ℕ → ℕ → ℕ
long_sum name n =
    let ends = plus64 (word8 name 0) (word8 name (n - 8)) in
    pick (nat_lt 16 n) (plus64 ends (word8 name 8)) ends

abbrev pub name_sum : List ℕ → ℕ → ℕ
name_sum name n = pick (nat_lt n 4) 0 (pick (nat_lt n 8) (word4 name 0 + word4 name (n - 4)) (long_sum name n))

unfoldable pub tag_of : List ℕ → ℕ
tag_of name = name_sum name (length name) % 239

-- The entry of a row or a request. One whose tag is not that of its name has no key, as no packet has it: so a search may pass it by.
abbrev pub without_key : Entry → Entry
without_key e = record { key = []; originator = e.originator }

abbrev pub tagged_entry : ℕ → List ℕ → Entry
tagged_entry tag name = pick (tag == tag_of name) (entry_named name) (without_key (entry_named name))

-- ---- rows
-- slot k's mark in an octet of marks
abbrev pub is_marked : ℕ → ℕ → Bool
is_marked marks k = marks / 2 ^ k % 2 == 1

-- a key length over the room counts as the room
abbrev pub key_room : List ℕ → ℕ → ℕ
key_room s i = min (octet s (length_place i)) key_most

abbrev pub row_name : List ℕ → ℕ → List ℕ
row_name s i = part s (row_place i + name_place) (key_room s i + id_length)

abbrev pub row_entry : List ℕ → ℕ → Entry
row_entry s i = tagged_entry (octet s (tag_place i)) (row_name s i)

-- the 32 bits of the number
abbrev pub bits_at : List ℕ → ℕ → ℕ
bits_at s i =
    ((octet s (top_place i) * 256 + octet s (row_place i + 5)) * 256 + octet s (row_place i + 6)) * 256 + octet s (row_place i + 7)

abbrev pub payload_length : List ℕ → ℕ → ℕ
payload_length s i = min (octet s (row_place i)) payload_most

abbrev pub payload_place : List ℕ → ℕ → ℕ
payload_place s i = row_place i + name_place + key_room s i + id_length

abbrev pub value_at : List ℕ → ℕ → Value
value_at s i = record {
  number = csa_of (bits_at s i);
  payload = part s (payload_place s i) (payload_length s i);
  remaining = field2 s (row_place i + 2);
}

-- key length 0 is a free row
unfoldable pub row_in : List ℕ → ℕ → Row
row_in s i =
    pick (octet s (length_place i) == 0) free
    (used (row_entry s i) (value_at s i) (is_marked (octet s (mark_place i))))

unfoldable pub rows_in : List ℕ → List Row
rows_in s = table (row_in s) rows_most 0

-- ---- request lists
-- the name in the room that begins at a place; a key length over the room counts as the room
abbrev pub room_name : List ℕ → ℕ → List ℕ
room_name s at = part s (at + name_place) (min (octet s at) key_most + id_length)

unfoldable pub request_in : List ℕ → ℕ → ℕ → Request
request_in s k i = record {
  entry = tagged_entry (octet s (request_tag_place k i)) (room_name s (request_place k i));
  number = csa_of (field4 s (request_place k i + number_place));
}

-- a number of requests over the room counts as the room
unfoldable pub requests_in : List ℕ → ℕ → List Request
requests_in s k = take (field2 s (list_place k)) (table (request_in s k) requests_most 0)

-- ---- kept CAs
unfoldable pub kept_in : List ℕ → ℕ → List ℕ
kept_in s k = take (field2 s (kept_place k)) (part s (kept_place k + 2) (packet_most id_length))

-- ---- the whole
pub record Memory : Type 0 where
  pub rows : List Row
  pub requests : List (List Request)
  pub kept : List (List ℕ)

unfoldable pub memory_of : List ℕ → Memory
memory_of s = record { rows = rows_in s; requests = table (requests_in s) slots_most 0; kept = table (kept_in s) slots_most 0 }

abbrev pub with_rows : List Row → Memory → Memory
with_rows rows m = record { rows = rows; requests = m.requests; kept = m.kept }

abbrev pub requests_put : ℕ → List Request → Memory → Memory
requests_put k qs m = record { rows = m.rows; requests = lists.set m.requests k qs; kept = m.kept }

abbrev pub kept_put : ℕ → List ℕ → Memory → Memory
kept_put k p m = record { rows = m.rows; requests = m.requests; kept = lists.set m.kept k p }

abbrev pub requests_of : Memory → ℕ → List Request
requests_of m k = lists.get_or m.requests k []

abbrev pub kept_of : Memory → ℕ → List ℕ
kept_of m k = lists.get_or m.kept k []

-- a memory with no rows, no requests and no kept CAs
abbrev pub fresh_memory : Memory
fresh_memory = record {
  rows = lists.replicate rows_most free;
  requests = lists.replicate slots_most [];
  kept = lists.replicate slots_most [];
}
