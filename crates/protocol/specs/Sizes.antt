-- Document 01, 'Sizes'. The ID length is a parameter `w` of every rule on records and layouts; `id_length` is its value.
-- Assumes nothing.
use Rattle.std.specs.Prelude.{ℕ, ◌+◌, ◌*◌}

abbrev pub id_length : ℕ
id_length = 4

abbrev pub key_most : ℕ
key_most = 16

abbrev pub payload_most : ℕ
payload_most = 32

-- records in a packet
abbrev pub records_most : ℕ
records_most = 4

-- additional receivers in a Hello
abbrev pub receivers_most : ℕ
receivers_most = 8

-- the fixed part
abbrev pub fixed_size : ℕ
fixed_size = 8

-- the common part without its IDs
abbrev pub common_size : ℕ
common_size = 12

-- a record without its key, originator and payload
abbrev pub record_size : ℕ
record_size = 12

-- the largest packet: four update records, of the longest key and payload, and six IDs; 284 for IDs of 4 octets
abbrev pub packet_most : ℕ → ℕ
packet_most w = 260 + 6 * w
