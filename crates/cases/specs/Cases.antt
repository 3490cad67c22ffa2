-- Document 01, 'Marked cases': what the definitions of the protocol and the server's rules give for the numbers of each.
-- Assumes nothing.
use Rattle.std.specs.Prelude.{ℕ, ◌*◌, ◌%◌, false, List, [], ◌∷◌, length, replicate, Option}
use Rattle.std.specs.List.{slice_get}
use Rattle.laws.specs.Choice.{pick}
use Rattle.protocol.specs.declared.CsaNumber.{CsaNumber}
use Rattle.protocol.specs.declared.Role.TheVariants.{Master}
use Rattle.protocol.specs.declared.HelloState.{HelloState}
use Rattle.protocol.specs.declared.HelloState.TheVariants.{Down, Waiting, Unidirectional, Bidirectional}
use Rattle.protocol.specs.declared.Alignment.TheVariants.{Aligned}
use Rattle.protocol.specs.declared.Link.{Link}
use Rattle.protocol.specs.Fields.{field2, put4}
use Rattle.protocol.specs.Numbers.{ca_number, csa_of, bits_of, newer}
use Rattle.protocol.specs.Messages.{CsaRecord, csu_request, hello}
use Rattle.protocol.specs.Layouts.{packet_of}
use Rattle.protocol.specs.Reading.{read_packet, refusal_of}
use Rattle.rules.specs.Server.{slots_most, Settings, Row, free, used, row_at, fresh_link, fresh_slot, Server}
use Rattle.rules.specs.Links.{check_move}
use Rattle.rules.specs.Updates.{hops_most, value}
use Rattle.rules.specs.Refusals.{own_entry, set_code}
use Rattle.rules.specs.Events.{set, step}
use Rattle.cases.specs.declared.Rule.{Rule}
use Rattle.cases.specs.declared.Rule.TheVariants.{Order, Next, SetCode, Stale, Product, Checksum, RecordLength, PacketLength, PacketCode}
use Rattle.cases.specs.declared.Numbers.{Numbers}
use Rattle.cases.specs.declared.Case.{Case}

-- ---- the packets of the cases
-- a Hello from a server with this ID and these settings, to nobody
abbrev pub hello_packet : ℕ → ℕ → ℕ → ℕ → ℕ → List ℕ
hello_packet id protocol group interval factor =
    packet_of (record { protocol = protocol; group = group; sender = put4 id []; receiver = []; body = hello interval factor [] })

-- a record of this key length, payload length and number
abbrev pub case_record : ℕ → ℕ → ℕ → CsaRecord
case_record key payload bits = record {
  hops = 1;
  null = false;
  number = csa_of bits;
  key = replicate key 65;
  originator = 10 ∷ 0 ∷ 0 ∷ 1 ∷ [];
  payload = replicate payload 120;
}

-- a CSU Request of some such records
abbrev pub request_packet : ℕ → ℕ → ℕ → ℕ → List ℕ
request_packet count key payload bits =
    packet_of
    (record {
      protocol = 2;
      group = 7;
      sender = 10 ∷ 0 ∷ 0 ∷ 1 ∷ [];
      receiver = 10 ∷ 0 ∷ 0 ∷ 2 ∷ [];
      body = csu_request (replicate count (case_record key payload bits));
    })

-- ---- the rules
-- 0: a is older than b; 1: neither; 2: a is newer
abbrev pub order : CsaNumber → CsaNumber → ℕ
order a b = pick (newer b a) 0 (pick (newer a b) 2 1)

-- a server with the settings of the listing that holds one entry of its own, of the key `A`, with this number
abbrev pub listed : Settings
listed = record { id = 10 ∷ 0 ∷ 0 ∷ 2 ∷ []; protocol = 2; group = 7; interval = 10; factor = 3 }

abbrev pub key_a : List ℕ
key_a = 65 ∷ []

abbrev pub payload_x : List ℕ
payload_x = 120 ∷ []

abbrev pub holding : ℕ → Server
holding bits = record {
  settings = listed;
  time = 0;
  slots = replicate slots_most fresh_slot;
  rows = used (own_entry listed key_a) (value (csa_of bits) payload_x hops_most) (λ _. false) ∷ replicate 63 free;
}

-- the code of a set of that entry there, and the bits of the number that the entry has after it
abbrev pub set_outcome : ℕ → ℕ
set_outcome bits = set_code (holding bits) key_a payload_x

abbrev pub held_bits : Row → ℕ
held_bits free = 0
held_bits (used e v m) = bits_of v.number

abbrev pub set_number : ℕ → ℕ
set_number bits = held_bits (row_at (step (holding bits) (set key_a payload_x)).rows 0)

-- a link whose last Hello, taken at `heard`, had this interval and factor; 1 if the Hello check at a poll moves it to Waiting, 0 if it stays
abbrev pub heard_link : ℕ → ℕ → ℕ → Link
heard_link interval factor heard = record {
  hello = Bidirectional;
  heard = heard;
  interval = interval;
  factor = factor;
  alignment = Aligned;
  role = Master;
  number = ca_number 0;
  last = fresh_link.last;
  more = false;
}

abbrev pub is_waiting : HelloState → ℕ
is_waiting Down = 0
is_waiting Waiting = 1
is_waiting Unidirectional = 0
is_waiting Bidirectional = 0

-- what a row's numbers give by its rule
abbrev pub outcome : Rule → Numbers → ℕ
-- two CSA numbers, compared both ways
outcome Order n = order (csa_of n.0) (csa_of n.1)
-- the CSA number that an entry of ours has: the number that a set gives it, and the code of the set
outcome Next n = set_number n.0
outcome SetCode n = set_outcome n.0
-- interval, factor, time of the last Hello and time now: the Hello check at a poll
outcome Stale n = is_waiting (check_move n.3 (heard_link n.0 n.1 n.2)).hello
-- interval and factor: the seconds that a peer is alive, as a number of 32 bits
outcome Product n = n.0 * n.1 % 4294967296
-- own ID, Protocol ID, Server Group ID, interval and factor: the checksum field of the Hello
outcome Checksum n = field2 (hello_packet n.0 n.1 n.2 n.3 n.4) 4
-- number of records, key length, payload length and CSA number of each: the record length of the first, the length of the packet, and the
-- code that it is read with
outcome RecordLength n = field2 (request_packet n.0 n.1 n.2 n.3) 30
outcome PacketLength n = length (request_packet n.0 n.1 n.2 n.3)
outcome PacketCode n = refusal_of (read_packet 4 (request_packet n.0 n.1 n.2 n.3))

-- ---- the table
abbrev pub numbers : ℕ → ℕ → ℕ → ℕ → ℕ → Numbers
numbers a b c d e = record { 0 = a; 1 = b; 2 = c; 3 = d; 4 = e }

-- a row whose result is what the definitions give
abbrev pub case : ℕ → Rule → Numbers → Case
case m r n = record { 0 = m; 1 = r; 2 = n; 3 = outcome r n }

-- The marked cases in order. Their numbers stand here and in the code's table, so that neither can change alone; the line results stand
-- only there. 01 leaves open the key of case 4 and the CSA numbers of cases 9 and 10.
unfoldable pub cases : List Case
cases =
    case 1 Order (numbers 0x80000001 0 0 0 0)
    ∷ case 2 Order (numbers 0x7FFFFFFF 0x80000001 0 0 0)
    ∷ case 3 Order (numbers 0xFFFFFFFF 0 0 0 0)
    ∷ case 4 PacketCode (numbers 1 1 0 0x80000000 0)
    ∷ case 5 SetCode (numbers 2147483645 0 0 0 0)
    ∷ case 5 Next (numbers 2147483645 0 0 0 0)
    ∷ case 5 SetCode (numbers 2147483646 0 0 0 0)
    ∷ case 6 Stale (numbers 10 3 0 30 0)
    ∷ case 6 Stale (numbers 10 3 0 31 0)
    ∷ case 7 Product (numbers 65535 65535 0 0 0)
    ∷ case 7 Stale (numbers 65535 65535 0 4294836225 0)
    ∷ case 7 Stale (numbers 65535 65535 0 4294836226 0)
    ∷ case 8 Checksum (numbers 0x0A000002 2 7 10 3)
    ∷ case 9 RecordLength (numbers 1 16 32 1 0)
    ∷ case 9 PacketCode (numbers 1 16 32 1 0)
    ∷ case 9 PacketCode (numbers 1 16 33 1 0)
    ∷ case 10 PacketLength (numbers 4 16 32 1 0)
    ∷ case 10 PacketCode (numbers 4 16 32 1 0)
    ∷ []

abbrev pub case_at : ℕ → Option Case
case_at i = slice_get cases i
