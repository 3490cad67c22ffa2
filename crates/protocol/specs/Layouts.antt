-- Document 01, 'Packet layouts' (RFC 2334, appendix B): a message as octets, the fields in packet order.
-- Assumes nothing.
use Rattle.std.specs.Prelude.{ℕ, ◌+◌, ◌*◌, Bool, true, false, List, [], ◌∷◌, ◌++◌, length, get_or, drop}
use Rattle.protocol.specs.declared.Kind.{Kind}
use Rattle.protocol.specs.declared.Kind.TheVariants.{Ca, CsuRequest, CsuReply, Csus, Hello}
use Rattle.protocol.specs.declared.CaFlags.{CaFlags}
use Rattle.protocol.specs.Sizes.{fixed_size, record_size}
use Rattle.protocol.specs.Fields.{put2, put4}
use Rattle.protocol.specs.Numbers.{bits_of}
use Rattle.protocol.specs.Checksum.{checksum_of}
use Rattle.protocol.specs.Messages.{CsaRecord, Body, ca, csu_request, csu_reply, csus, hello, Message, kind_of_body}

-- 'Types: 1 CA, 2 CSU Request, 3 CSU Reply, 4 CSUS, 5 Hello'
abbrev pub type_of : Kind → ℕ
type_of Ca = 1
type_of CsuRequest = 2
type_of CsuReply = 3
type_of Csus = 4
type_of Hello = 5

-- What is ignored when read: the unused field of the common part, its undefined flags, the unused field and the Family ID of a
-- Hello, and the 15 bits beside N of each record in turn.
pub record Ignored : Type 0 where
  pub unused : ℕ
  pub flags : ℕ
  pub hello_unused : ℕ
  pub family : ℕ
  pub beside : List ℕ

-- 'We write unused fields, Family ID and undefined flags as 0'
abbrev pub zeros : Ignored
zeros = record { unused = 0; flags = 0; hello_unused = 0; family = 0; beside = [] }

abbrev pub bit : Bool → ℕ
bit true = 1
bit false = 0

-- 'CA flags from the top bit: M, I, O'
abbrev pub flags_field : CaFlags → ℕ
flags_field f = bit f.master * 32768 + bit f.initial * 16384 + bit f.more * 8192

-- the other types define none
abbrev pub flags_of : Body → ℕ
flags_of (ca n f rs) = flags_field f
flags_of (csu_request rs) = 0
flags_of (csu_reply rs) = 0
flags_of (csus rs) = 0
flags_of (hello i f rs) = 0

abbrev pub count_of : Body → ℕ
count_of (ca n f rs) = length rs
count_of (csu_request rs) = length rs
count_of (csu_reply rs) = length rs
count_of (csus rs) = length rs
count_of (hello i f ids) = length ids

-- a record without its key, originator and payload; `beside` are the 15 bits beside N
abbrev pub record_head : ℕ → CsaRecord → List ℕ
record_head beside r =
    put2 r.hops
    (put2 (record_size + length r.key + length r.originator + length r.payload)
    (length r.key ∷ length r.originator
    ∷ put2 (bit r.null * 32768 + beside)
    (put4 (bits_of r.number) [])))

unfoldable pub record_octets : ℕ → CsaRecord → List ℕ
record_octets beside r = record_head beside r ++ (r.key ++ (r.originator ++ r.payload))

unfoldable pub records_octets : List ℕ → List CsaRecord → List ℕ
records_octets beside [] = []
records_octets beside (r ∷ rs) = record_octets (get_or beside 0 0) r ++ records_octets (drop 1 beside) rs

-- 'receivers of one length octet and an ID'
unfoldable pub receivers_octets : List (List ℕ) → List ℕ
receivers_octets [] = []
receivers_octets (id ∷ ids) = (length id ∷ id) ++ receivers_octets ids

-- what stands before the common part
abbrev pub before_common : Ignored → Body → List ℕ
before_common g (ca n f rs) = put4 n.0 []
before_common g (csu_request rs) = []
before_common g (csu_reply rs) = []
before_common g (csus rs) = []
before_common g (hello i f ids) = put2 i (put2 f (put2 g.hello_unused (put2 g.family [])))

-- the common part without its IDs
abbrev pub common_head : Ignored → Message → List ℕ
common_head g m =
    put2 m.protocol
    (put2 m.group
    (put2 g.unused
    (put2 (flags_of m.body + g.flags)
    (length m.sender ∷ length m.receiver ∷ put2 (count_of m.body) []))))

-- the records or receivers behind the common part
abbrev pub elements : Ignored → Body → List ℕ
elements g (ca n f rs) = records_octets g.beside rs
elements g (csu_request rs) = records_octets g.beside rs
elements g (csu_reply rs) = records_octets g.beside rs
elements g (csus rs) = records_octets g.beside rs
elements g (hello i f ids) = receivers_octets ids

-- all behind the fixed part
unfoldable pub mandatory : Ignored → Message → List ℕ
mandatory g m = before_common g m.body ++ (common_head g m ++ (m.sender ++ (m.receiver ++ elements g m.body)))

-- 'Fixed part, 8 octets: version 1, type, packet size (2), checksum (2), start of extensions (2, 0 for none)'
abbrev pub fixed_part : Kind → ℕ → ℕ → List ℕ
fixed_part k size checksum = 1 ∷ type_of k ∷ put2 size (put2 checksum (put2 0 []))

-- a packet with these ignored fields and this checksum field
unfoldable pub layout : Ignored → ℕ → Message → List ℕ
layout g checksum m = fixed_part (kind_of_body m.body) (fixed_size + length (mandatory g m)) checksum ++ mandatory g m

-- the packet that is written for a message
unfoldable pub packet_of : Message → List ℕ
packet_of m = layout zeros (checksum_of (layout zeros 0 m)) m
