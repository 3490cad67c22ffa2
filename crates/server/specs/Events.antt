-- What the functions below the events leave and answer.
-- Assumes nothing.
use denote.Struct.Props.{props}
use Rattle.std.specs.Prelude.{ℕ, ◌+◌, ◌*◌, ◌≤◌, ◌≡◌, Bool, true, false, not, ◌&&◌, ◌||◌, List, [], ◌∷◌, Some, eqb}
use Rattle.std.proofs.Math.ListN as lists
use Rattle.laws.specs.Choice.{pick}
use Rattle.protocol.specs.declared.Kind.{Kind}
use Rattle.protocol.specs.declared.Kind.TheVariants.{Ca, CsuRequest, CsuReply, Csus, Hello}
use Rattle.protocol.specs.Answers.{refuse, first_code}
use Rattle.protocol.specs.Messages.{Message}
use Rattle.protocol.specs.Reading.{Reading}
use Rattle.rules.specs.Server as rules
use Rattle.rules.specs.Server.{Row, is_free, holds}
use Rattle.rules.specs.Links.{enters}
use Rattle.rules.specs.Rows.{entry_row, cleared_if, swept_if}
use Rattle.rules.specs.Sent.{octets_of}
use Rattle.rules.specs.Packets.{slot_on, rows_on, sent_on}
use Rattle.rules.specs.Poll.{poll_sent}
use Rattle.rules.specs.Refusals.{is_hello, reading_code, is_hello_type, own_key_good, own_entry}
use Rattle.rules.specs.Events as events
use Rattle.rules.specs.Events.{live_in, up_slot, read_slot, read_rows, read_changes, read_sent, acted}
use Rattle.memory.specs.Memory.{rows_in}
use Rattle.memory.specs.Search.{first_from}
use Rattle.wire.specs.declared.read.Head.{Head}
use Rattle.wire.specs.Views.{message_of}
use Rattle.records.specs.Walks.{Walks, Walks-prop}
use Rattle.slots.specs.declared.state.Server.{Server}
use Rattle.slots.specs.Codes.{code_number, written_of}
use Rattle.slots.specs.State.{settings_of}
use Rattle.table.specs.Slots.{slot_in, OthersStay}
use Rattle.writer.specs.Write.{Wrote}
use Rattle.actions.specs.Parts.{slot_now, Leaves, ActsAt}
use Rattle.server.specs.declared.answers.Answer.{Answer}
use Rattle.server.specs.State.{slots_of, server_of}
use Rattle.slots.specs.declared.state.Slot.{Slot}

-- ---- changes of ours
-- the code of a change of an entry that must be held, before its row is looked at
abbrev pub own_code : rules.Settings → List ℕ → List Row → ℕ
own_code s key rows = first_code (refuse (not (own_key_good key)) 17 ∷ refuse (is_free (entry_row (own_entry s key) rows)) 18 ∷ [])

-- row i is the first that holds our entry with this key
abbrev pub IsOwn : rules.Settings → List ℕ → List ℕ → ℕ → Type 0
IsOwn s key memory i = first_from (holds (own_entry s key)) 0 (rows_in memory) ≡ Some i

-- ---- a packet
-- what is known of a packet that was read: its records or receivers are in reach, and each record fits a row
pub record Reaches (p : List ℕ) (h : Head) : Type 0 where
  pub reach : h.records.at + h.records.left * 65535 ≤ 1048576
  pub walks : is_hello (message_of p h).body ≡ false → Walks p h.records

-- it has at most one proof, as a field of a struct asks
pub Reaches-prop : (p : List ℕ) (h : Head) → IsProp (Reaches p h)
Reaches-prop p h = hlevel (props, Walks-prop)

abbrev pub is_ca_kind : Kind → Bool
is_ca_kind Ca = true
is_ca_kind CsuRequest = false
is_ca_kind CsuReply = false
is_ca_kind Csus = false
is_ca_kind Hello = false

-- a message is taken in slot k
abbrev pub ActsOn : Message → ℕ → ℕ → rules.Settings → List Slot → List Slot → List ℕ → List ℕ → List ℕ → List ℕ → ℕ → Type 0
ActsOn m k now s slots slots' before after out out' n =
    let live = live_in (slots_of slots before) in
    let x = slot_now slots k before in
    let y = slot_on m.body s live k now (rows_in before) m x in
    ActsAt k y (cleared_if (enters x.link.alignment y.link.alignment) k (rows_on m.body live k (rows_in before)))
    (octets_of (sent_on m.body s live k (rows_in before) m x)) slots slots' before after out out' n

-- a packet in slot k, once codes 1 to 4 were tried, by what is read of it: whether it counts, and the server and the octets if it does
abbrev pub counts_as : Reading → List ℕ → Server → List Slot → ℕ → List ℕ → Bool
counts_as m p s slots k memory =
    let c = reading_code (settings_of s.settings) (slot_now slots k memory) m in
    eqb c 0 || (eqb c 10 && is_hello_type p)

abbrev pub read_server : Reading → ℕ → ℕ → Server → List Slot → List ℕ → rules.Server
read_server m k now s slots memory =
    let live = live_in (slots_of slots memory) in
    let y = read_slot m (settings_of s.settings) live k now (rows_in memory) (slot_now slots k memory) in
    record {
      settings = settings_of s.settings;
      time = now;
      slots = lists.set (slots_of slots memory) k y;
      rows =
          swept_if (read_changes m || enters (slot_now slots k memory).link.alignment y.link.alignment)
          (cleared_if (enters (slot_now slots k memory).link.alignment y.link.alignment) k (read_rows m live k (rows_in memory)));
    }

abbrev pub read_octets : Reading → ℕ → Server → List Slot → List ℕ → List ℕ
read_octets m k s slots memory =
    octets_of (read_sent m (settings_of s.settings) (live_in (slots_of slots memory)) k (rows_in memory) (slot_now slots k memory))

pub record DoesRead (m : Reading) (p : List ℕ) (k now : ℕ) (s : Server) (slots slots' : List Slot) (before after out out' : List ℕ) (r : Answer) : Type 0 where
  pub code : code_number r.outcome ≡ reading_code (settings_of s.settings) (slot_now slots k before) m
  pub server : server_of r.server slots' after ≡ pick (counts_as m p s slots k before) (read_server m k now s slots before) (server_of s slots before)
  pub wrote : Wrote (pick (counts_as m p s slots k before) (read_octets m k s slots before) []) out out' (written_of r.outcome)
  pub same : counts_as m p s slots k before ≡ false → (r.server ≡ s) × ((slots' ≡ slots) × (after ≡ before))

-- ---- a poll
pub record PollsTaken (k now : ℕ) (s : Server) (slots slots' : List Slot) (before after out out' : List ℕ) (r : Answer) : Type 0 where
  pub server : (room : ℕ) → server_of r.server slots' after ≡ acted (server_of s slots before) (events.poll k now room)
  pub outcome : code_number r.outcome ≡ 0
  pub wrote : Wrote (octets_of (poll_sent (settings_of s.settings) now (rows_in before) k (slot_now slots k before))) out out' (written_of r.outcome)

-- ---- other events of a slot
abbrev pub Ups : ℕ → List Slot → List Slot → List ℕ → List ℕ → Type 0
Ups k slots slots' before after =
    let x = slot_now slots k before in
    let y = up_slot x in
    Leaves k y (cleared_if (enters x.link.alignment y.link.alignment) k (rows_in before)) before after (slot_in slots' k)
    × OthersStay k slots slots'
