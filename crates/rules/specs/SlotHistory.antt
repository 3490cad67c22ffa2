-- The slots in the history of demand 3: how their machines move, and the CA that a slot keeps (document 01, 'Hello', 'Alignment'), from each
-- event's arguments and the octets written at it. No server is in sight.
-- Assumes nothing.
use Rattle.std.specs.Prelude.{ℕ, Bool, true, false, ◌&&◌, ◌||◌, List, eqb, get_or}
use Rattle.std.proofs.Math.ListN as lists
use Rattle.laws.specs.Choice.{pick}
use Rattle.laws.specs.Lists.{is_empty}
use Rattle.protocol.specs.declared.Role.TheVariants.{Master, Slave}
use Rattle.protocol.specs.declared.Alignment.{Alignment}
use Rattle.protocol.specs.declared.Alignment.TheVariants.{Down, Negotiate, Summarize, Update, Aligned}
use Rattle.std.specs.Prelude.{Option}
use Rattle.std.specs.Prelude.{None, Some}
use Rattle.protocol.specs.declared.Link.{Link}
use Rattle.protocol.specs.Sizes.{id_length}
use Rattle.protocol.specs.Fields.{octet}
use Rattle.protocol.specs.Messages.{Message, Body, ca, csu_request, csu_reply, csus, hello}
use Rattle.protocol.specs.Reading.{Reading, refused, malformed, message, read_packet, flags_at}
use Rattle.rules.specs.Server.{Settings, fresh_link}
use Rattle.rules.specs.Links.{is_live, is_past, enters, up_move, down_move, hello_move, malformed_move, check_move, CaIn, ca_rule, ca_move}
use Rattle.rules.specs.Slots.{passed}
use Rattle.rules.specs.Packets.{names_us}
use Rattle.rules.specs.Poll.{ca_interval}
use Rattle.rules.specs.Events.{Event, add_peer, link_up, link_down, packet, poll, set, withdraw, purge, Place, in_slot, nowhere}

-- a slot as it moved: its machines, whether its last CA is kept, and when a CA was last sent since it entered Down or Negotiate
pub record SlotHistory : Type 0 where
  pub link : Link
  pub kept : Bool
  pub sent : Option ℕ

abbrev pub unused_slot : SlotHistory
unused_slot = record { link = fresh_link; kept = false; sent = None }

-- ---- the machines, 'our CAs as written': the O bit of a CA
abbrev pub more_in : List ℕ → Bool
more_in p = (flags_at p 18).more

abbrev pub ca_link : List ℕ → CaIn → Bool → List ℕ → Link → Link
ca_link id c kept written l = ca_move (ca_rule id c kept l) c (more_in written) l

abbrev pub body_link : Body → Settings → ℕ → Message → Bool → List ℕ → Link → Link
body_link (hello i f ids) s now m kept written l = hello_move now i f (names_us s.id m.receiver ids) l
body_link (ca n f rs) s now m kept written l =
    ca_link s.id (record { head = record { number = n; flags = f }; sender = m.sender; empty = is_empty rs }) kept written l
body_link (csu_request rs) s now m kept written l = l
body_link (csu_reply rs) s now m kept written l = l
body_link (csus rs) s now m kept written l = l

abbrev pub read_link : Reading → Settings → ℕ → Bool → List ℕ → Link → Link
read_link (refused c) s now kept written l = l
read_link (malformed at) s now kept written l = malformed_move l
read_link (message m) s now kept written l = body_link m.body s now m kept written l

abbrev pub link_after : Event → Settings → Bool → List ℕ → Link → Link
link_after (add_peer k id) s kept written l = l
link_after (link_up k now) s kept written l = up_move l
link_after (link_down k now) s kept written l = down_move l
link_after (packet k now p room) s kept written l = read_link (read_packet id_length p) s now kept written l
link_after (poll k now room) s kept written l = check_move now l
link_after (set key payload) s kept written l = l
link_after (withdraw key) s kept written l = l
link_after (purge key) s kept written l = l

-- ---- the kept CA
-- 'The master drops its kept CA on entering Update'
abbrev pub master_enters : Alignment → Alignment → Bool
master_enters a Down = false
master_enters a Negotiate = false
master_enters a (Summarize r) = false
master_enters Down Update = false
master_enters Negotiate Update = false
master_enters (Summarize Master) Update = true
master_enters (Summarize Slave) Update = false
master_enters Update Update = false
master_enters Aligned Update = false
master_enters a Aligned = false

abbrev pub is_csus : Body → Bool
is_csus (ca n f rs) = false
is_csus (csu_request rs) = false
is_csus (csu_reply rs) = false
is_csus (csus rs) = true
is_csus (hello i f ids) = false

abbrev pub reads_csus : Reading → Bool
reads_csus (refused c) = false
reads_csus (malformed at) = false
reads_csus (message m) = is_csus m.body

-- 'the slave at a CSUS or, past Summarize, at a poll 5 seconds after it was last sent'; the master has none there
abbrev pub drops_at : Event → Alignment → Option ℕ → Bool
drops_at (add_peer k id) a sent = false
drops_at (link_up k now) a sent = false
drops_at (link_down k now) a sent = false
drops_at (packet k now p room) a sent = reads_csus (read_packet id_length p)
drops_at (poll k now room) a sent = is_past a && passed ca_interval sent now
drops_at (set key payload) a sent = false
drops_at (withdraw key) a sent = false
drops_at (purge key) a sent = false

-- 'Entering Down or Negotiate empties the slot's .. kept CA'; CAs are counted from there on
abbrev pub sent_from : Alignment → Alignment → Option ℕ → Option ℕ
sent_from before after sent = pick (enters before after) None sent

-- with no CA written, the link is l now
abbrev pub quiet : Event → Link → SlotHistory → SlotHistory
quiet e l x =
    let sent = sent_from x.link.alignment l.alignment x.sent in
    record {
      link = l;
      kept =
          pick (enters x.link.alignment l.alignment || (master_enters x.link.alignment l.alignment || drops_at e l.alignment sent)) false
          x.kept;
      sent = sent;
    }

-- the type octet says CA
abbrev pub is_ca : List ℕ → Bool
is_ca p = eqb (octet p 1) 1

-- the type octet says CSU Request
abbrev pub is_request_type : List ℕ → Bool
is_request_type p = eqb (octet p 1) 2

-- the time of an event that may write
abbrev pub time_of : Event → ℕ
time_of (add_peer k id) = 0
time_of (link_up k now) = now
time_of (link_down k now) = now
time_of (packet k now p room) = now
time_of (poll k now room) = now
time_of (set key payload) = 0
time_of (withdraw key) = 0
time_of (purge key) = 0

-- ---- the slot after an event: 'The last CA sent is kept'
abbrev pub event_after : Event → Settings → List ℕ → SlotHistory → SlotHistory
event_after e s written x =
    let l = link_after e s x.kept written x.link in
    pick (is_ca written) (record { link = l; kept = true; sent = Some (time_of e) }) (quiet e l x)

abbrev pub slot_history_after : Event → Settings → List ℕ → SlotHistory → SlotHistory
slot_history_after (add_peer k id) s written x = unused_slot
slot_history_after (link_up k now) s written x = event_after (link_up k now) s written x
slot_history_after (link_down k now) s written x = event_after (link_down k now) s written x
slot_history_after (packet k now p room) s written x = event_after (packet k now p room) s written x
slot_history_after (poll k now room) s written x = event_after (poll k now room) s written x
slot_history_after (set key payload) s written x = x
slot_history_after (withdraw key) s written x = x
slot_history_after (purge key) s written x = x

-- ---- all slots
abbrev pub slot_history_at : List SlotHistory → ℕ → SlotHistory
slot_history_at xs k = get_or xs k unused_slot

abbrev pub slot_histories_after : Place → Event → Settings → List ℕ → List SlotHistory → List SlotHistory
slot_histories_after (in_slot k) e s written xs = lists.set xs k (slot_history_after e s written (slot_history_at xs k))
slot_histories_after nowhere e s written xs = xs

abbrev pub state_at : List SlotHistory → ℕ → Alignment
state_at xs k = (slot_history_at xs k).link.alignment

-- the slots in Summarize, Update or Aligned
abbrev pub live_states : List SlotHistory → ℕ → Bool
live_states xs j = is_live (state_at xs j)
