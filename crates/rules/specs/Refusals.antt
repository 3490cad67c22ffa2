-- Document 01, 'Answers to an event' and 'Updates': the code of each event, the cases tried in the stated order.
-- Assumes nothing.
use Rattle.std.specs.Prelude.{ℕ, zero, suc, Bool, true, false, not, ◌&&◌, ◌||◌, List, [], ◌∷◌, eqb, ltb, leb, length}
use Rattle.laws.specs.Lists.{is_empty}
use Rattle.laws.specs.Tables.{has, same}
use Rattle.protocol.specs.Sizes.{id_length, key_most, payload_most, packet_most}
use Rattle.protocol.specs.Fields.{octet}
use Rattle.protocol.specs.Numbers.{spent}
use Rattle.protocol.specs.Messages.{Message, Body, ca, csu_request, csu_reply, csus, hello}
use Rattle.protocol.specs.Answers.{Refusal, refuse, first_code}
use Rattle.protocol.specs.Reading.{Reading, refused, malformed, message, read_packet}
use Rattle.rules.specs.Server.{slots_most, Settings, Entry, Row, free, used, is_free, Slot, Server, slot_at}
use Rattle.rules.specs.Links as links
use Rattle.rules.specs.Links.{CaRule, is_down, is_past}
use Rattle.rules.specs.Rows.{entry_row, is_purged}
use Rattle.rules.specs.Alignment.{ca_packet, rule_for}

abbrev pub or_else : ℕ → ℕ → ℕ
or_else zero d = d
or_else (suc c) d = suc c

-- ---- events of a slot
-- 1: 'slot above 7, or no peer in it'
abbrev pub no_peer : Server → ℕ → Refusal
no_peer s k = refuse (not (ltb k slots_most) || not (slot_at s k).used) 1

-- 2: 'time before the server's time'
abbrev pub early : Server → ℕ → Refusal
early s now = refuse (ltb now s.time) 2

-- 3: 'out buffer under 284 octets'
abbrev pub no_room : ℕ → Refusal
no_room room = refuse (ltb room (packet_most id_length)) 3

-- 4: 'that peer's link is down'
abbrev pub link_is_down : Server → ℕ → Refusal
link_is_down s k = refuse (is_down (slot_at s k).link.hello) 4

abbrev pub link_code : Server → ℕ → ℕ → ℕ
link_code s k now = first_code (no_peer s k ∷ early s now ∷ [])

abbrev pub poll_code : Server → ℕ → ℕ → ℕ → ℕ
poll_code s k now room = first_code (no_peer s k ∷ early s now ∷ no_room room ∷ link_is_down s k ∷ [])

-- ---- a packet that was read
abbrev pub is_hello : Body → Bool
is_hello (ca n f rs) = false
is_hello (csu_request rs) = false
is_hello (csu_reply rs) = false
is_hello (csus rs) = false
is_hello (hello i f ids) = true

abbrev pub is_refused : CaRule → Bool
is_refused links.refuse_ca = true
is_refused links.become_slave = false
is_refused links.become_master = false
is_refused links.repeat = false
is_refused links.slave_on = false
is_refused links.master_on = false
is_refused links.master_done = false
is_refused links.ignore = false
is_refused links.restart = false

-- 14: 'type not usable in this state'
abbrev pub unusable : Settings → Message → Slot → Body → Bool
unusable s m x (ca n f rs) = is_refused (rule_for s.id (ca_packet n f rs m.sender) x)
unusable s m x (csu_request rs) = not (is_past x.link.alignment)
unusable s m x (csu_reply rs) = not (is_past x.link.alignment)
unusable s m x (csus rs) = not (is_past x.link.alignment)
unusable s m x (hello i f ids) = false

-- 11: 'other Protocol ID or Server Group ID'; 12: 'not Hello, receiver not us'; 13: 'sender is not this slot's peer'
abbrev pub message_code : Settings → Slot → Message → ℕ
message_code s x m =
    first_code
    (refuse (not (eqb m.protocol s.protocol && eqb m.group s.group)) 11
    ∷ refuse (not (is_hello m.body) && not (same m.receiver s.id)) 12
    ∷ refuse (not (same m.sender x.peer)) 13
    ∷ refuse (unusable s m x m.body) 14
    ∷ [])

abbrev pub reading_code : Settings → Slot → Reading → ℕ
reading_code s x (refused c) = c
reading_code s x (malformed at) = 10
reading_code s x (message m) = message_code s x m

-- 'A packet is tried in order 1 to 14'
abbrev pub packet_code : Server → ℕ → ℕ → List ℕ → ℕ → ℕ
packet_code s k now p room = or_else (poll_code s k now room) (reading_code s.settings (slot_at s k) (read_packet id_length p))

-- the type octet says Hello
abbrev pub is_hello_type : List ℕ → Bool
is_hello_type p = eqb (octet p 1) 5

-- ---- adding a peer: '1 for a slot above 7, then 17 for a slot in use, our own ID, or another slot's ID'; and for an ID that is none
abbrev pub is_peer : List ℕ → Slot → Bool
is_peer id x = x.used && same x.peer id

abbrev pub add_peer_code : Server → ℕ → List ℕ → ℕ
add_peer_code s k id =
    first_code
    (refuse (not (ltb k slots_most)) 1
    ∷ refuse (not (eqb (length id) id_length) || ((slot_at s k).used || (same id s.settings.id || has (is_peer id) s.slots))) 17
    ∷ [])

-- ---- local events
abbrev pub own_key_good : List ℕ → Bool
own_key_good key = ltb 0 (length key) && leb (length key) key_most

abbrev pub own_payload_good : List ℕ → Bool
own_payload_good p = ltb 0 (length p) && leb (length p) payload_most

-- our entry of a key
abbrev pub own_entry : Settings → List ℕ → Entry
own_entry s key = record { key = key; originator = s.id }

-- 'the number is 2147483646 or more'
abbrev pub row_spent : Row → Bool
row_spent free = false
row_spent (used e v m) = spent v.number

abbrev pub row_purged : Row → Bool
row_purged free = false
row_purged (used e v m) = is_purged v.number

-- 'absent or already empty'
abbrev pub row_empty : Row → Bool
row_empty free = true
row_empty (used e v m) = is_empty v.payload

abbrev pub set_code : Server → List ℕ → List ℕ → ℕ
set_code s key payload =
    first_code
    (refuse (not (own_key_good key && own_payload_good payload)) 17
    ∷ refuse (row_spent (entry_row (own_entry s.settings key) s.rows)) 16
    ∷ refuse (is_free (entry_row (own_entry s.settings key) s.rows) && not (has is_free s.rows)) 15
    ∷ [])

abbrev pub withdraw_code : Server → List ℕ → ℕ
withdraw_code s key =
    first_code
    (refuse (not (own_key_good key)) 17
    ∷ refuse (row_empty (entry_row (own_entry s.settings key) s.rows)) 18
    ∷ refuse (row_spent (entry_row (own_entry s.settings key) s.rows)) 16
    ∷ [])

abbrev pub purge_code : Server → List ℕ → ℕ
purge_code s key =
    first_code
    (refuse (not (own_key_good key)) 17
    ∷ refuse (is_free (entry_row (own_entry s.settings key) s.rows)) 18
    ∷ refuse (row_purged (entry_row (own_entry s.settings key) s.rows)) 16
    ∷ [])
