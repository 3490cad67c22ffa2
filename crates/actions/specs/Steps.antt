-- What each function on a slot leaves and answers, in the words of the rules.
-- Assumes nothing.
use Rattle.std.specs.Prelude.{Option, Some, None, ℕ, ◌≤◌, ◌≡◌, Bool, true, false, List, [], map, length}
use Rattle.laws.specs.Choice.{pick}
use Rattle.laws.specs.Lists.{is_empty}
use Rattle.laws.specs.Puts.{Put}
use Rattle.protocol.specs.declared.CaHead.{CaHead}
use Rattle.protocol.specs.declared.Role.{Role}
use Rattle.protocol.specs.declared.Role.TheVariants.{Master, Slave}
use Rattle.protocol.specs.declared.Link.{Link}
use Rattle.protocol.specs.Fields.{field4}
use Rattle.protocol.specs.Numbers as numbers
use Rattle.protocol.specs.Messages.{CsaRecord, summary_of, Message, Body, csu_request, csu_reply}
use Rattle.protocol.specs.Layouts.{records_octets, packet_of}
use Rattle.protocol.specs.Reading.{flags_at}
use Rattle.rules.specs.Server as rules
use Rattle.rules.specs.Server.{Row, Request}
use Rattle.rules.specs.Links as links
use Rattle.rules.specs.Links.{enters}
use Rattle.rules.specs.Rows.{behind, next_waiting, cleared_if}
use Rattle.rules.specs.Requests.{all_taken_in, rotated}
use Rattle.rules.specs.Slots as slots
use Rattle.rules.specs.Slots.{with_link, with_requests, completed}
use Rattle.rules.specs.Sent.{octets_of}
use Rattle.rules.specs.Alignment.{CaPacket, ca_packet, wanted_of, with_wanted, ca_sent_by, ca_slot}
use Rattle.rules.specs.Updates.{all_solicited, all_answers_wait}
use Rattle.rules.specs.Packets.{updated_by, unless_empty}
use Rattle.rules.specs.Poll as poll
use Rattle.rules.specs.Poll.{due_slot, due_sent, poll_slot, poll_sent}
use Rattle.memory.specs.Memory.{rows_in, memory_of, kept_put, requests_of, requests_put}
use Rattle.memory.specs.Marks.{Picked}
use Rattle.wire.specs.declared.read.Head.{Head}
use Rattle.wire.specs.Views.{records_of, message_of}
use Rattle.writer.specs.declared.write.Common.{Common}
use Rattle.writer.specs.Write.{message_from, Wrote}
use Rattle.slots.specs.declared.state.Settings.{Settings}
use Rattle.slots.specs.declared.state.Slot.{Slot}
use Rattle.slots.specs.State.{slot_of}
use Rattle.table.specs.Slots.{slot_in, OthersStay}
use Rattle.actions.specs.declared.parts.Acted.{Acted}
use Rattle.actions.specs.declared.due.Due.{Due}
use Rattle.actions.specs.declared.due.Due.TheVariants.{Hello, FirstCa, KeptCa, Csus, Update}
use Rattle.actions.specs.Parts.{slot_with, slot_now, Acts, ActsAt}

-- ---- what is written
abbrev pub common_of : Settings → List ℕ → Common
common_of s peer = record { protocol = s.protocol; group = s.group; sender = s.id; receiver = peer }

abbrev pub our_message : Common → Body → Message
our_message c b = message_from c c.receiver b

-- records that were put from octet 28 up to n are a packet, its head before them; with none nothing is written
abbrev pub WritesSome : (List CsaRecord → Body) → Common → ℕ → ℕ → List ℕ → List ℕ → ℕ → Type 0
WritesSome body c count n before after r =
    (rs : List CsaRecord) (out : List ℕ) → count ≡ length rs → n ≤ length out → Put (records_octets [] rs) 28 out before n
    → Wrote (pick (is_empty rs) [] (packet_of (our_message c (body rs)))) out after r

-- a CA is written and kept
pub record SendsCa (k : ℕ) (p before after out out' : List ℕ) (r : ℕ) : Type 0 where
  pub memory : memory_of after ≡ kept_put k p (memory_of before)
  pub wrote : Wrote p out out' r

-- a CSUS is written, and its requests move to the end
pub record SendsCsus (k : ℕ) (p before after out out' : List ℕ) (r : ℕ) : Type 0 where
  pub memory : memory_of after ≡ requests_put k (rotated (requests_of (memory_of before) k)) (memory_of before)
  pub wrote : Wrote p out out' r

-- ---- a CA
abbrev pub head_at : List ℕ → CaHead
head_at p = record { number = numbers.ca_number (field4 p 8); flags = flags_at p 18 }

-- a CA of this head and these records
abbrev pub ca_packet_by : CaHead → List CsaRecord → List ℕ → CaPacket
ca_packet_by head rs sender = ca_packet head.number head.flags rs sender

-- the packet with this head, as a CA
abbrev pub ca_packet_at : List ℕ → Head → CaPacket
ca_packet_at p h = ca_packet_by (head_at p) (records_of p h.records) (message_of p h).sender

abbrev pub is_master : Role → Bool
is_master Master = true
is_master Slave = false

-- the rules by which a CA with rows is answered
abbrev pub answers : links.CaRule → Bool
answers links.refuse_ca = false
answers links.become_slave = true
answers links.become_master = true
answers links.repeat = false
answers links.slave_on = true
answers links.master_on = true
answers links.master_done = false
answers links.ignore = false
answers links.restart = false

-- the slot with some summaries taken in and another link
abbrev pub taking_in : Link → List Row → List CsaRecord → rules.Slot → rules.Slot
taking_in l rows rs x = with_wanted (all_taken_in rows rs (wanted_of x)) (with_link l x)

abbrev pub TakesCa : links.CaRule → ℕ → ℕ → rules.Settings → CaPacket → Slot → List ℕ → List ℕ → List ℕ → List ℕ → Acted → Type 0
TakesCa u k now s c x before after out out' r =
    let y = ca_slot u s now (rows_in before) c (slot_with x k before) in
    Acts k y (cleared_if (enters x.link.alignment y.link.alignment) k (rows_in before))
    (octets_of (ca_sent_by u s (rows_in before) c (slot_with x k before))) before after out out' r

-- ---- updates
abbrev pub TakesRequest : (ℕ → Bool) → ℕ → rules.Settings → List CsaRecord → List Slot → List Slot → List ℕ → List ℕ → List ℕ → List ℕ → ℕ → Type 0
TakesRequest live k s rs slots slots' before after out out' n =
    let y = slot_now slots k before in
    ActsAt k (completed (with_requests (updated_by live k rs (rows_in before) y.requests).requests y.missed y))
    (updated_by live k rs (rows_in before) []).rows
    (octets_of (unless_empty s y csu_reply (map summary_of (updated_by live k rs (rows_in before) []).replies))) slots slots' before after out out' n

abbrev pub TakesCsus : ℕ → rules.Settings → List CsaRecord → List Slot → List ℕ → List ℕ → List ℕ → List ℕ → ℕ → Type 0
TakesCsus k s rs t before after out out' n =
    let y = slot_now t k before in
    ActsAt k (slots.with_kept [] y) (all_answers_wait k rs (rows_in before))
    (octets_of (unless_empty s y csu_request (all_solicited (rows_in before) rs))) t t before after out out' n

-- ---- a poll
abbrev pub due_kind : Due → poll.Due
due_kind Hello = poll.a_hello
due_kind FirstCa = poll.first_ca
due_kind KeptCa = poll.kept_ca
due_kind Csus = poll.a_csus
due_kind (Update p) = poll.an_update

-- of what a poll answers: nothing is due, or one of them
abbrev pub due_as : Option Due → poll.Due
due_as None = poll.nothing_due
due_as (Some d) = due_kind d

-- the rows of an update request are the next that wait
abbrev pub GoodPicks : Due → ℕ → Slot → List ℕ → Type 0
GoodPicks Hello k x memory = Unit {0}
GoodPicks FirstCa k x memory = Unit {0}
GoodPicks KeptCa k x memory = Unit {0}
GoodPicks Csus k x memory = Unit {0}
GoodPicks (Update p) k x memory = Picked x.cursor (next_waiting (rows_in memory) k x.cursor) p

-- the same where nothing may be due
abbrev pub GoodPlan : Option Due → ℕ → Slot → List ℕ → Type 0
GoodPlan None k x memory = Unit {0}
GoodPlan (Some d) k x memory = GoodPicks d k x memory

pub record Plans (d : poll.Due) (k : ℕ) (x : Slot) (memory : List ℕ) (r : Option Due) : Type 0 where
  pub which : due_as r ≡ d
  pub rows : GoodPlan r k x memory

-- what is due is written, with what follows for slot k's part of the memory
pub record WritesDue (d : poll.Due) (k : ℕ) (s : rules.Settings) (x : Slot) (before after out out' : List ℕ) (r : ℕ) : Type 0 where
  pub memory : (now : ℕ) → memory_of after
      ≡ kept_put k (due_slot d s now (rows_in before) k (slot_with x k before)).kept
      (requests_put k (due_slot d s now (rows_in before) k (slot_with x k before)).requests (memory_of before))
  pub wrote : Wrote (octets_of (due_sent d s (rows_in before) k (slot_with x k before))) out out' r

-- an update request goes on behind its rows
abbrev pub GoesOn : Due → Slot → List Row → ℕ → Type 0
GoesOn Hello x rows k = Unit {0}
GoesOn FirstCa x rows k = Unit {0}
GoesOn KeptCa x rows k = Unit {0}
GoesOn Csus x rows k = Unit {0}
GoesOn (Update p) x rows k = p.next ≡ behind x.cursor (next_waiting rows k x.cursor)

-- the slot after it
abbrev pub SlotDue : Due → ℕ → Slot → Slot → Type 0
SlotDue d now x r =
    (s : rules.Settings) (rows : List Row) (k : ℕ) (qs : List Request) (kept : List ℕ) → GoesOn d x rows k
    → slot_of r (due_slot (due_kind d) s now rows k (slot_of x qs kept)).requests (due_slot (due_kind d) s now rows k (slot_of x qs kept)).kept
    ≡ due_slot (due_kind d) s now rows k (slot_of x qs kept)

pub record PutsDue (d : Due) (now k : ℕ) (before after : List Slot) : Type 0 where
  pub slot : SlotDue d now (slot_in before k) (slot_in after k)
  pub others : OthersStay k before after

abbrev pub PollsAt : ℕ → ℕ → rules.Settings → List Slot → List Slot → List ℕ → List ℕ → List ℕ → List ℕ → ℕ → Type 0
PollsAt k now s slots slots' before after out out' n =
    let x = slot_now slots k before in
    let y = poll_slot s now (rows_in before) k x in
    ActsAt k y (cleared_if (enters x.link.alignment y.link.alignment) k (rows_in before))
    (octets_of (poll_sent s now (rows_in before) k x)) slots slots' before after out out' n
