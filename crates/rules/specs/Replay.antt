-- Document 01, 'The replay program': from an input's octets to its lines.
-- Assumes nothing.
use Rattle.std.specs.Prelude.{ℕ, zero, suc, ◌/◌, Bool, true, false, ◌&&◌, List, [], ◌∷◌, eqb, leb, length, take, drop}
use Rattle.laws.specs.Choice.{pick}
use Rattle.laws.specs.Lists.{is_empty, part}
use Rattle.protocol.specs.Sizes.{id_length, key_most, packet_most}
use Rattle.protocol.specs.Fields.{octet, field2, field4}
use Rattle.rules.specs.Server.{Settings, settings_code, Server, fresh, rows_used}
use Rattle.rules.specs.Events.{Event, add_peer, link_up, link_down, packet, poll, set, withdraw, purge, code_of, step, written_at}

-- 'records of 292 octets, big-endian, no header: kind, slot, length (2), time (4), data (284)'
abbrev pub replay_record : ℕ
replay_record = 292

abbrev pub kind_at : List ℕ → ℕ
kind_at r = octet r 0

abbrev pub slot_octet : List ℕ → ℕ
slot_octet r = octet r 1

abbrev pub length_at : List ℕ → ℕ
length_at r = field2 r 2

abbrev pub time_at : List ℕ → ℕ
time_at r = field4 r 4

abbrev pub data_at : List ℕ → List ℕ
data_at r = drop 8 r

-- '0 settings (in data: ID, group numbers, interval, factor, 2 octets a number)'
abbrev pub settings_in : List ℕ → Settings
settings_in r = record {
  id = part r 8 id_length;
  protocol = field2 r 12;
  group = field2 r 14;
  interval = field2 r 16;
  factor = field2 r 18;
}

-- a packet of the length that the record says; one of more than 284 octets has the length of no packet, 'is 5, after 1 to 4'
abbrev pub packet_in : List ℕ → List ℕ
packet_in r = pick (leb (length_at r) (packet_most id_length)) (take (length_at r) (data_at r)) []

-- 'In 5 to 7 slot is the key length .. data a key of 16 then payload'; a key length over 16 or payload length over 32 is no key or payload
abbrev pub key_in : List ℕ → List ℕ
key_in r = pick (leb (slot_octet r) key_most) (take (slot_octet r) (data_at r)) []

abbrev pub payload_in : List ℕ → List ℕ
payload_in r = pick (leb (length_at r) 32) (part r 24 (length_at r)) []

-- what a record is: an event, or none
pub data RecordKind : Type 0 where
  an_event : Event → RecordKind
  other : RecordKind

abbrev pub record_kind : List ℕ → RecordKind
record_kind r =
    pick (eqb (kind_at r) 1) (an_event (link_up (slot_octet r) (time_at r)))
    (pick (eqb (kind_at r) 2) (an_event (link_down (slot_octet r) (time_at r)))
    (pick (eqb (kind_at r) 3) (an_event (packet (slot_octet r) (time_at r) (packet_in r) (packet_most id_length)))
    (pick (eqb (kind_at r) 4) (an_event (poll (slot_octet r) (time_at r) (packet_most id_length)))
    (pick (eqb (kind_at r) 5) (an_event (set (key_in r) (payload_in r)))
    (pick (eqb (kind_at r) 6) (an_event (withdraw (key_in r)))
    (pick (eqb (kind_at r) 7) (an_event (purge (key_in r)))
    (pick (eqb (kind_at r) 8) (an_event (add_peer (slot_octet r) (part r 8 id_length))) other)))))))

-- ---- the lines
-- a line: 'event number, code, octets written, rows used', and the octets beside it; `cut` is the line of no numbers
pub record Line : Type 0 where
  pub numbers : List ℕ
  pub octets : List ℕ

abbrev pub a_line : ℕ → ℕ → List ℕ → Server → Line
a_line n code octets s = record { numbers = n ∷ code ∷ length octets ∷ rows_used s.rows ∷ []; octets = octets }

abbrev pub cut : Line
cut = record { numbers = []; octets = [] }

abbrev pub line_of : RecordKind → ℕ → Server → Line
line_of (an_event e) n s = a_line n (code_of s e) (written_at s e) (step s e)
-- 'Other kinds, or 0 later, print 17'
line_of other n s = a_line n 17 [] s

abbrev pub server_after : RecordKind → Server → Server
server_after (an_event e) s = step s e
server_after other s = s

-- some whole records, then nothing: 'a short last record prints `cut` and ends'
unfoldable pub lines_from : ℕ → ℕ → Server → List ℕ → List Line
lines_from zero n s input = pick (is_empty input) [] (cut ∷ [])
lines_from (suc more) n s input =
    line_of (record_kind (take replay_record input)) n s
    ∷ lines_from more (suc n) (server_after (record_kind (take replay_record input)) s) (drop replay_record input)

-- 'Empty input, a first record that isn't accepted settings, or a short last record prints `cut` and ends'
abbrev pub starts_good : List ℕ → Bool
starts_good input =
    leb replay_record (length input) && (eqb (kind_at input) 0 && eqb (settings_code (settings_in input)) 0)

unfoldable pub replay : Bool → List ℕ → List Line
replay true input =
    a_line 0 0 [] (fresh (settings_in input))
    ∷ lines_from (length (drop replay_record input) / replay_record) 1 (fresh (settings_in input)) (drop replay_record input)
replay false input = cut ∷ []

abbrev pub line_numbers : List Line → List (List ℕ)
line_numbers [] = []
line_numbers (l ∷ ls) = l.numbers ∷ line_numbers ls

unfoldable pub replayed : List ℕ → List Line
replayed input = replay (starts_good input) input

-- the numbers of the lines
unfoldable pub lines_of : List ℕ → List (List ℕ)
lines_of input = line_numbers (replayed input)
