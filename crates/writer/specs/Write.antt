-- What is written: the message of each writer, its contract, and the parts of which a packet is put together.
-- Assumes nothing.
use Rattle.std.specs.Prelude.{ℕ, ◌+◌, ◌-◌, ◌≤◌, ◌≡◌, Bool, List, [], ◌∷◌, ◌++◌, length, take, drop}
use Rattle.laws.specs.Choice.{pick}
use Rattle.laws.specs.Puts.{written, Put}
use Rattle.protocol.specs.declared.Kind.{Kind}
use Rattle.protocol.specs.declared.Kind.TheVariants.{CsuRequest, CsuReply, Csus}
use Rattle.protocol.specs.declared.CsaNumber.{CsaNumber}
use Rattle.protocol.specs.Sizes.{id_length, fixed_size}
use Rattle.protocol.specs.Fields.{put2, put4}
use Rattle.protocol.specs.Checksum.{checksum_of, with_field}
use Rattle.protocol.specs.Messages.{CsaRecord, Body, csu_request, csu_reply, csus, hello, Message}
use Rattle.protocol.specs.Layouts.{fixed_part, records_octets, packet_of}
use Rattle.writer.specs.declared.write.Common.{Common}
use Rattle.writer.specs.declared.write.Csu.{Csu}
use Rattle.writer.specs.declared.write.Csu.TheVariants.{Request, Reply, Solicit}

-- ---- messages
-- a record whose name is key and originator, one behind the other
abbrev pub named_record : ℕ → Bool → CsaNumber → List ℕ → List ℕ → CsaRecord
named_record hops null number name payload = record {
  hops = hops;
  null = null;
  number = number;
  key = take (length name - id_length) name;
  originator = drop (length name - id_length) name;
  payload = payload;
}

abbrev pub message_from : Common → List ℕ → Body → Message
message_from c receiver b = record { protocol = c.protocol; group = c.group; sender = c.sender; receiver = receiver; body = b }

-- our Hello names its receiver or nobody
abbrev pub hello_message : Common → ℕ → ℕ → Bool → Message
hello_message c interval factor named = message_from c (pick named c.receiver []) (hello interval factor [])

-- what a packet of each type carries, and its kind
abbrev pub csu_body : Csu → List CsaRecord → Body
csu_body Request rs = csu_request rs
csu_body Reply rs = csu_reply rs
csu_body Solicit rs = csus rs

abbrev pub csu_kind : Csu → Kind
csu_kind Request = CsuRequest
csu_kind Reply = CsuReply
csu_kind Solicit = Csus

-- ---- contracts
-- p is at the start of a lent slice, and n is its length
pub record Wrote (p before after : List ℕ) (n : ℕ) : Type 0 where
  pub size : n ≡ length p
  pub octets : after ≡ written p before

-- what finishes a packet: records that were put from `at` up to n are a whole packet with its head before them
abbrev pub FinishesWith : (List CsaRecord → Body) → Common → ℕ → ℕ → ℕ → List ℕ → List ℕ → Type 0
FinishesWith body c at count n before after =
    (rs : List CsaRecord) (out : List ℕ) → count ≡ length rs → n ≤ length out → Put (records_octets [] rs) at out before n
    → Wrote (packet_of (message_from c c.receiver (body rs))) out after n

-- ---- the parts of a packet
abbrev pub hello_fields : ℕ → ℕ → List ℕ
hello_fields interval factor = put2 interval (put2 factor (0 ∷ 0 ∷ 0 ∷ 0 ∷ []))

abbrev pub receiver_length : Bool → ℕ
receiver_length named = pick named id_length 0

-- the common part without its IDs
abbrev pub common_fields : ℕ → ℕ → ℕ → ℕ → ℕ → List ℕ
common_fields protocol group flags len count = put2 protocol (put2 group (put2 0 (put2 flags (id_length ∷ len ∷ put2 count []))))

-- with its IDs, of the receiver's the first `len` octets
unfoldable pub common_part : Common → ℕ → ℕ → ℕ → List ℕ
common_part c flags len count = common_fields c.protocol c.group flags len count ++ (c.sender ++ take len c.receiver)

-- a record without its key, originator and payload
abbrev pub record_fields : ℕ → ℕ → ℕ → ℕ → ℕ → List ℕ
record_fields hops keyLength payload_length flags bits =
    put2 hops (put2 (16 + keyLength + payload_length) (keyLength ∷ id_length ∷ put2 flags (put4 bits [])))

-- a packet with its checksum in place
unfoldable pub summed : List ℕ → List ℕ
summed p = with_field (checksum_of p) p

-- the packet with b behind its fixed part
unfoldable pub sealed : Kind → List ℕ → List ℕ
sealed k b = fixed_part k (fixed_size + length b) (checksum_of (fixed_part k (fixed_size + length b) 0 ++ b)) ++ b

-- b that was put from `at` up to n is a packet, with o between its fixed part and b
abbrev pub Behind : Kind → List ℕ → ℕ → ℕ → List ℕ → List ℕ → Type 0
Behind k o at n before after = (b out : List ℕ) → n ≤ length out → Put b at out before n → Wrote (sealed k (o ++ b)) out after n
