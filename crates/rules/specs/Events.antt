-- The eight events: the server after each, the code and the octets written.
-- Assumes nothing.
use Rattle.std.specs.Prelude.{ℕ, Bool, true, false, ◌&&◌, ◌||◌, List, [], ◌∷◌, eqb, get_or}
use Rattle.std.proofs.Math.ListN as lists
use Rattle.laws.specs.Choice.{pick}
use Rattle.protocol.specs.declared.Alignment.{Alignment}
use Rattle.std.specs.Prelude.{None}
use Rattle.protocol.specs.Sizes.{id_length}
use Rattle.protocol.specs.Messages.{Body, ca, csu_request, csu_reply, csus, hello}
use Rattle.protocol.specs.Reading.{Reading, refused, malformed, message, read_packet}
use Rattle.rules.specs.Server.{Settings, Row, Slot, fresh_slot, fresh_link, no_timers, Server, slot_at}
use Rattle.rules.specs.Links.{is_down, is_live, enters, up_move, down_move}
use Rattle.rules.specs.Rows.{cleared_if, swept_if}
use Rattle.rules.specs.Updates.{set_rows, withdraw_rows, purge_rows}
use Rattle.rules.specs.Slots.{moved, hello_sent}
use Rattle.rules.specs.Sent.{Sent, nothing, octets_of}
use Rattle.rules.specs.Packets.{slot_on, slot_malformed, rows_on, sent_on}
use Rattle.rules.specs.Poll.{poll_slot, poll_sent}
use Rattle.rules.specs.Refusals.{link_code, poll_code, packet_code, is_hello_type, add_peer_code, own_entry, set_code, withdraw_code, purge_code}

-- `room` is the length of the out buffer
pub data Event : Type 0 where
  add_peer : (slot : ℕ) (id : List ℕ) → Event
  link_up : (slot now : ℕ) → Event
  link_down : (slot now : ℕ) → Event
  packet : (slot now : ℕ) (octets : List ℕ) (room : ℕ) → Event
  poll : (slot now room : ℕ) → Event
  set : (key payload : List ℕ) → Event
  withdraw : (key : List ℕ) → Event
  purge : (key : List ℕ) → Event

-- ---- the code
unfoldable pub code_of : Server → Event → ℕ
code_of s (add_peer k id) = add_peer_code s k id
code_of s (link_up k now) = link_code s k now
code_of s (link_down k now) = link_code s k now
code_of s (packet k now p room) = packet_code s k now p room
code_of s (poll k now room) = poll_code s k now room
code_of s (set key payload) = set_code s key payload
code_of s (withdraw key) = withdraw_code s key
code_of s (purge key) = purge_code s key

-- code 0; or 10 and a Hello's type octet: 'the one malformed Hello'
abbrev pub counts : Event → ℕ → Bool
counts (add_peer k id) c = eqb c 0
counts (link_up k now) c = eqb c 0
counts (link_down k now) c = eqb c 0
counts (packet k now p room) c = eqb c 0 || (eqb c 10 && is_hello_type p)
counts (poll k now room) c = eqb c 0
counts (set key payload) c = eqb c 0
counts (withdraw key) c = eqb c 0
counts (purge key) c = eqb c 0

-- ---- the slot that an event is for
pub data Place : Type 0 where
  in_slot : ℕ → Place
  nowhere : Place

abbrev pub place_of : Event → Place
place_of (add_peer k id) = in_slot k
place_of (link_up k now) = in_slot k
place_of (link_down k now) = in_slot k
place_of (packet k now p room) = in_slot k
place_of (poll k now room) = in_slot k
place_of (set key payload) = nowhere
place_of (withdraw key) = nowhere
place_of (purge key) = nowhere

abbrev pub alignment_at : List Slot → ℕ → Alignment
alignment_at slots j = (get_or slots j fresh_slot).link.alignment

-- the slots that puts go to
abbrev pub live_in : List Slot → ℕ → Bool
live_in slots j = is_live (alignment_at slots j)

-- ---- the slot after it
abbrev pub peer_slot : List ℕ → Slot
peer_slot id = record {
  used = true;
  peer = id;
  link = fresh_link;
  timers = no_timers;
  kept = [];
  listed = 0;
  cursor = 0;
  requests = [];
  missed = 0;
  updates = 0;
}

-- 'none since link up' starts anew when link up leaves Down
abbrev pub up_slot : Slot → Slot
up_slot x = pick (is_down x.link.hello) (hello_sent None (moved (up_move x.link) x)) x

abbrev pub down_slot : Slot → Slot
down_slot x = moved (down_move x.link) x

abbrev pub read_slot : Reading → Settings → (ℕ → Bool) → ℕ → ℕ → List Row → Slot → Slot
read_slot (refused c) s live k now rows x = x
read_slot (malformed at) s live k now rows x = slot_malformed x
read_slot (message m) s live k now rows x = slot_on m.body s live k now rows m x

abbrev pub slot_after : Event → Settings → (ℕ → Bool) → List Row → Slot → Slot
slot_after (add_peer k id) s live rows x = peer_slot id
slot_after (link_up k now) s live rows x = up_slot x
slot_after (link_down k now) s live rows x = down_slot x
slot_after (packet k now p room) s live rows x = read_slot (read_packet id_length p) s live k now rows x
slot_after (poll k now room) s live rows x = poll_slot s now rows k x
slot_after (set key payload) s live rows x = x
slot_after (withdraw key) s live rows x = x
slot_after (purge key) s live rows x = x

abbrev pub slots_after : Place → Event → Server → List Slot
slots_after (in_slot k) e s = lists.set s.slots k (slot_after e s.settings (live_in s.slots) s.rows (slot_at s k))
slots_after nowhere e s = s.slots

-- ---- the rows after it
abbrev pub read_rows : Reading → (ℕ → Bool) → ℕ → List Row → List Row
read_rows (refused c) live k rows = rows
read_rows (malformed at) live k rows = rows
read_rows (message m) live k rows = rows_on m.body live k rows

abbrev pub rows_changed : Event → Settings → (ℕ → Bool) → List Row → List Row
rows_changed (add_peer k id) s live rows = rows
rows_changed (link_up k now) s live rows = rows
rows_changed (link_down k now) s live rows = rows
rows_changed (packet k now p room) s live rows = read_rows (read_packet id_length p) live k rows
rows_changed (poll k now room) s live rows = rows
rows_changed (set key payload) s live rows = set_rows live (own_entry s key) payload rows
rows_changed (withdraw key) s live rows = withdraw_rows live (own_entry s key) rows
rows_changed (purge key) s live rows = purge_rows live (own_entry s key) rows

-- the slot whose waiting list an event may empty; one that gets a peer has none
abbrev pub empties_in : Event → Place
empties_in (add_peer k id) = nowhere
empties_in (link_up k now) = in_slot k
empties_in (link_down k now) = in_slot k
empties_in (packet k now p room) = in_slot k
empties_in (poll k now room) = in_slot k
empties_in (set key payload) = nowhere
empties_in (withdraw key) = nowhere
empties_in (purge key) = nowhere

-- 'Entering Down or Negotiate empties the slot's .. waiting list'
abbrev pub enters_at : Place → List Slot → List Slot → Bool
enters_at (in_slot k) before after = enters (alignment_at before k) (alignment_at after k)
enters_at nowhere before after = false

abbrev pub cleared : Place → List Slot → List Slot → List Row → List Row
cleared (in_slot k) before after rows = cleared_if (enters (alignment_at before k) (alignment_at after k)) k rows
cleared nowhere before after rows = rows

-- whether rows may be changed so that one has to be freed; the puts of a CSUS free none
abbrev pub body_changes : Body → Bool
body_changes (hello i f ids) = false
body_changes (ca n f rs) = false
body_changes (csu_request rs) = true
body_changes (csu_reply rs) = true
body_changes (csus rs) = false

abbrev pub read_changes : Reading → Bool
read_changes (refused c) = false
read_changes (malformed at) = false
read_changes (message m) = body_changes m.body

abbrev pub changes_rows : Event → Bool
changes_rows (add_peer k id) = false
changes_rows (link_up k now) = false
changes_rows (link_down k now) = false
changes_rows (packet k now p room) = read_changes (read_packet id_length p)
changes_rows (poll k now room) = false
changes_rows (set key payload) = true
changes_rows (withdraw key) = true
changes_rows (purge key) = true

-- ---- what is written
abbrev pub read_sent : Reading → Settings → (ℕ → Bool) → ℕ → List Row → Slot → Sent
read_sent (refused c) s live k rows x = nothing
read_sent (malformed at) s live k rows x = nothing
read_sent (message m) s live k rows x = sent_on m.body s live k rows m x

abbrev pub sent_by : Server → Event → Sent
sent_by s (add_peer k id) = nothing
sent_by s (link_up k now) = nothing
sent_by s (link_down k now) = nothing
sent_by s (packet k now p room) = read_sent (read_packet id_length p) s.settings (live_in s.slots) k s.rows (slot_at s k)
sent_by s (poll k now room) = poll_sent s.settings now s.rows k (slot_at s k)
sent_by s (set key payload) = nothing
sent_by s (withdraw key) = nothing
sent_by s (purge key) = nothing

-- ---- the server after it
-- 'A taken event of these kinds sets the time'
abbrev pub time_after : Event → ℕ → ℕ
time_after (add_peer k id) t = t
time_after (link_up k now) t = now
time_after (link_down k now) t = now
time_after (packet k now p room) t = now
time_after (poll k now room) t = now
time_after (set key payload) t = t
time_after (withdraw key) t = t
time_after (purge key) t = t

unfoldable pub acted : Server → Event → Server
acted s e =
    let slots = slots_after (place_of e) e s in
    record {
      settings = s.settings;
      time = time_after e s.time;
      slots = slots;
      rows =
          swept_if (changes_rows e || enters_at (empties_in e) s.slots slots)
          (cleared (empties_in e) s.slots slots (rows_changed e s.settings (live_in s.slots) s.rows));
    }

-- 'Every other refusal changes nothing', and writes nothing
abbrev pub server_if : Bool → Server → Event → Server
server_if true s e = acted s e
server_if false s e = s

abbrev pub sent_if : Bool → Server → Event → Sent
sent_if true s e = sent_by s e
sent_if false s e = nothing

unfoldable pub step : Server → Event → Server
step s e = server_if (counts e (code_of s e)) s e

unfoldable pub written_at : Server → Event → List ℕ
written_at s e = octets_of (sent_if (counts e (code_of s e)) s e)

-- ---- lists of events
-- an event, its code and the octets written
pub record Item : Type 0 where
  pub event : Event
  pub code : ℕ
  pub written : List ℕ

abbrev pub item_of : Server → Event → Item
item_of s e = record { event = e; code = code_of s e; written = written_at s e }

abbrev pub run : Server → List Event → Server
run s [] = s
run s (e ∷ es) = run (step s e) es

abbrev pub items : Server → List Event → List Item
items s [] = []
items s (e ∷ es) = item_of s e ∷ items (step s e) es
