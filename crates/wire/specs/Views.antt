-- What the answers of the reader mean: their numbers, with the octets of the packet at the places that they name.
-- Assumes nothing.
use Rattle.std.specs.Prelude.{ℕ, ◌≤◌, ◌≡◌, List, Result, Ok, Err}
use Rattle.laws.specs.Lists.{part}
use Rattle.protocol.specs.Sizes.{id_length}
use Rattle.protocol.specs.Messages.{CsaRecord, Message}
use Rattle.protocol.specs.Reading as protocol
use Rattle.protocol.specs.Reading.{records_at, receivers_at, body_at, read_packet}
use Rattle.wire.specs.declared.record.Cursor.{Cursor}
use Rattle.wire.specs.declared.read.Head.{Head}
use Rattle.wire.specs.declared.read.Refusal.{Refusal}
use Rattle.wire.specs.declared.read.Refusal.TheVariants.{Length, Version, «Type» as Wrong-type, Checksum, Extensions, Malformed}

-- ---- records and receivers
-- the records that a cursor has before it
abbrev pub records_of : List ℕ → Cursor → List CsaRecord
records_of p c = records_at id_length p c.left c.at

-- the receivers that a cursor has before it
abbrev pub receivers_of : List ℕ → Cursor → List (List ℕ)
receivers_of p c = receivers_at id_length p c.left c.at

-- ---- the message
-- the message of a packet that a head names
abbrev pub message_of : List ℕ → Head → Message
message_of p h = record {
  protocol = h.protocol;
  group = h.group;
  sender = part p h.sender_at id_length;
  receiver = part p h.receiver_at h.receiver_len;
  body = body_at id_length h.kind p h.records.left h.records.at;
}

-- the paper's number of each refusal, and where a malformed packet breaks a rule
abbrev pub refused_as : Refusal → protocol.Reading
refused_as Length = protocol.refused 5
refused_as Version = protocol.refused 6
refused_as Wrong-type = protocol.refused 7
refused_as Checksum = protocol.refused 8
refused_as Extensions = protocol.refused 9
refused_as (Malformed at) = protocol.malformed at

-- the same number, 0 where the fixed part is right
abbrev pub fixed_number : {A : Type 0} → Result A Refusal → ℕ
fixed_number (Ok _) = 0
fixed_number (Err e) = protocol.refusal_of (refused_as e)

abbrev pub reading_of : List ℕ → Result Head Refusal → protocol.Reading
reading_of p (Ok h) = protocol.message (message_of p h)
reading_of p (Err e) = refused_as e

-- where the records or receivers start
abbrev pub start_of : Result Head Refusal → ℕ
start_of (Ok h) = h.records.at
start_of (Err e) = 0

-- the answer means what the definition reads
pub record Reads (p : List ℕ) (r : Result Head Refusal) : Type 0 where
  pub means : reading_of p r ≡ read_packet id_length p
  pub near : start_of r ≤ 287
