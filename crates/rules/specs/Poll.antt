-- Document 01, 'Poll': what is due first, and what it does to the slot.
-- Assumes nothing.
use Rattle.std.specs.Prelude.{ℕ, ◌%◌, Bool, true, false, not, ◌&&◌, List, [], map, take}
use Rattle.laws.specs.Choice.{pick}
use Rattle.laws.specs.Lists.{is_empty}
use Rattle.laws.specs.Tables.{has}
use Rattle.protocol.specs.declared.CaFlags.{CaFlags}
use Rattle.protocol.specs.declared.Role.TheVariants.{Master, Slave}
use Rattle.protocol.specs.declared.Alignment.{Alignment}
use Rattle.protocol.specs.declared.Alignment.TheVariants.{Down, Negotiate, Summarize, Update, Aligned}
use Rattle.std.specs.Prelude.{Some}
use Rattle.protocol.specs.Messages.{CsaRecord, Message, ca, csu_request, csus, hello}
use Rattle.protocol.specs.Layouts.{packet_of}
use Rattle.rules.specs.Server.{Settings, rows_most, Entry, Value, Row, waits_for, Request, Slot}
use Rattle.rules.specs.Links.{hears_peer, is_past, check_move}
use Rattle.rules.specs.Rows.{next_waiting, behind, rows_of}
use Rattle.rules.specs.Requests.{rotated}
use Rattle.rules.specs.Updates.{record_of}
use Rattle.rules.specs.Slots.{passed, to_peer, moved, with_kept, with_cursor, with_requests, hello_sent, ca_sent, csus_sent, update_sent, update_counted}
use Rattle.rules.specs.Sent.{Sent, nothing, new_packet, again}

-- what a poll sends
pub data Due : Type 0 where
  nothing_due : Due
  a_hello : Due
  first_ca : Due
  kept_ca : Due
  a_csus : Due
  an_update : Due

-- the seconds between two CAs, and between two packets of one kind in Update and Aligned
abbrev pub ca_interval : ℕ
ca_interval = 5

abbrev pub update_interval : ℕ
update_interval = 1

-- 'CSU Request .. while a row waits'
abbrev pub update_due : ℕ → List Row → ℕ → Slot → Due
update_due now rows k x = pick (passed update_interval x.timers.update now && has (waits_for k) rows) an_update nothing_due

-- 'CSUS in Update', where a request is left
abbrev pub csus_due : ℕ → Slot → Bool
csus_due now x = passed update_interval x.timers.csus now && not (is_empty x.requests)

abbrev pub due_in : ℕ → List Row → ℕ → Slot → Alignment → Due
due_in now rows k x Down = nothing_due
due_in now rows k x Negotiate = pick (passed ca_interval x.timers.ca now) first_ca nothing_due
due_in now rows k x (Summarize Master) = pick (passed ca_interval x.timers.ca now) kept_ca nothing_due
due_in now rows k x (Summarize Slave) = nothing_due
due_in now rows k x Update = pick (csus_due now x) a_csus (update_due now rows k x)
due_in now rows k x Aligned = update_due now rows k x

-- 'the first that is due: Hello (none since link up, or our interval passed)'
abbrev pub due_of : Settings → ℕ → List Row → ℕ → Slot → Due
due_of s now rows k x = pick (passed s.interval x.timers.hello now) a_hello (due_in now rows k x x.link.alignment)

-- ---- what is written
-- 'Our Hello names the peer in the last two states, else receiver length 0'
abbrev pub hello_of : Settings → Slot → Message
hello_of s x = record {
  protocol = s.protocol;
  group = s.group;
  sender = s.id;
  receiver = pick (hears_peer x.link.hello) x.peer [];
  body = hello s.interval s.factor [];
}

-- 'CA in Negotiate (M, I, O set, no records)'
abbrev pub first_flags : CaFlags
first_flags = record { master = true; initial = true; more = true }

abbrev pub first_ca_of : Settings → Slot → Message
first_ca_of s x = to_peer s x (ca x.link.number first_flags [])

abbrev pub request_record : Request → CsaRecord
request_record q = record {
  hops = 1;
  null = false;
  number = q.number;
  key = q.entry.key;
  originator = q.entry.originator;
  payload = [];
}

abbrev pub csus_of : Settings → Slot → Message
csus_of s x = to_peer s x (csus (map request_record (take 4 x.requests)))

-- 'hop count what remains'
abbrev pub held_record : Entry → Value → CsaRecord
held_record e v = record_of v.remaining e v

abbrev pub update_of : Settings → List Row → ℕ → Slot → Message
update_of s rows k x = to_peer s x (csu_request (rows_of held_record rows (next_waiting rows k x.cursor)))

abbrev pub due_sent : Due → Settings → List Row → ℕ → Slot → Sent
due_sent nothing_due s rows k x = nothing
due_sent a_hello s rows k x = new_packet (hello_of s x)
due_sent first_ca s rows k x = new_packet (first_ca_of s x)
due_sent kept_ca s rows k x = again x.kept
due_sent a_csus s rows k x = new_packet (csus_of s x)
due_sent an_update s rows k x = new_packet (update_of s rows k x)

-- ---- the slot
abbrev pub due_slot : Due → Settings → ℕ → List Row → ℕ → Slot → Slot
due_slot nothing_due s now rows k x = x
due_slot a_hello s now rows k x = hello_sent (Some now) x
due_slot first_ca s now rows k x = ca_sent now (with_kept (packet_of (first_ca_of s x)) x)
due_slot kept_ca s now rows k x = ca_sent now x
due_slot a_csus s now rows k x = csus_sent now (with_requests (rotated x.requests) x.missed x)
due_slot an_update s now rows k x =
    update_counted (update_sent now (with_cursor (behind x.cursor (next_waiting rows k x.cursor) % rows_most) x))

-- 'the slave at .. past Summarize, at a poll 5 seconds after it was last sent'; the master has none there
abbrev pub kept_dropped : ℕ → Slot → Slot
kept_dropped now x = pick (is_past x.link.alignment && passed ca_interval x.timers.ca now) (with_kept [] x) x

-- after the Hello check
abbrev pub checked : ℕ → Slot → Slot
checked now x = moved (check_move now x.link) x

abbrev pub poll_slot : Settings → ℕ → List Row → ℕ → Slot → Slot
poll_slot s now rows k x =
    let y = kept_dropped now (checked now x) in
    due_slot (due_of s now rows k y) s now rows k y

abbrev pub poll_sent : Settings → ℕ → List Row → ℕ → Slot → Sent
poll_sent s now rows k x =
    let y = kept_dropped now (checked now x) in
    due_sent (due_of s now rows k y) s rows k y
