-- The lent memory: what stands where. A row has a body of 64 octets, and an octet in each of four sections, so that what is scanned lies together.
-- Assumes nothing.
use Rattle.std.specs.Prelude.{ℕ, ◌+◌, ◌*◌}
use Rattle.protocol.specs.Sizes.{id_length, key_most, payload_most, packet_most}
use Rattle.rules.specs.Server.{slots_most, rows_most, requests_most}

-- ---- bodies: payload length (1), not used (1), remaining hops (2), not used (1), the number's three lower octets, then key, originator and
-- payload, one behind the other
abbrev pub name_place : ℕ
name_place = 8

abbrev pub row_size : ℕ
row_size = name_place + key_most + id_length + payload_most + 4

-- ---- sections, an octet for each row: key length, marks, the number's highest octet, tag
abbrev pub lengths_at : ℕ
lengths_at = rows_most * row_size

abbrev pub marks_at : ℕ
marks_at = lengths_at + rows_most

abbrev pub tops_at : ℕ
tops_at = marks_at + rows_most

abbrev pub tags_at : ℕ
tags_at = tops_at + rows_most

-- ---- the request lists: of each slot the number of requests (2), then their tags together, then the rooms: key length (1), not used (3),
-- number (4), then the name
abbrev pub number_place : ℕ
number_place = 4

abbrev pub requests_at : ℕ
requests_at = tags_at + rows_most

abbrev pub request_size : ℕ
request_size = name_place + key_most + id_length

abbrev pub list_size : ℕ
list_size = 2 + requests_most + requests_most * request_size

-- ---- the kept CAs: of each slot the length (2), then room for a packet
abbrev pub kept_at : ℕ
kept_at = requests_at + slots_most * list_size

abbrev pub kept_size : ℕ
kept_size = 2 + packet_most id_length

abbrev pub memory_size : ℕ
memory_size = kept_at + slots_most * kept_size

-- ---- places
abbrev pub row_place : ℕ → ℕ
row_place i = i * row_size

abbrev pub length_place : ℕ → ℕ
length_place i = lengths_at + i

abbrev pub mark_place : ℕ → ℕ
mark_place i = marks_at + i

abbrev pub top_place : ℕ → ℕ
top_place i = tops_at + i

abbrev pub tag_place : ℕ → ℕ
tag_place i = tags_at + i

abbrev pub list_place : ℕ → ℕ
list_place k = requests_at + k * list_size

abbrev pub request_tag_place : ℕ → ℕ → ℕ
request_tag_place k i = list_place k + 2 + i

abbrev pub request_place : ℕ → ℕ → ℕ
request_place k i = list_place k + 2 + requests_most + i * request_size

abbrev pub kept_place : ℕ → ℕ
kept_place k = kept_at + k * kept_size
