-- What the server and its memory mean, and the contract of an event.
-- Assumes nothing.
use Rattle.std.specs.Prelude.{ℕ, ◌≡◌, Bool, true, false, ◌||◌, List, length, Result, Ok, Err}
use Rattle.std.proofs.Math.ListN as lists
use Rattle.laws.specs.Lists.{table}
use Rattle.laws.specs.Tables.{on}
use Rattle.laws.specs.Puts.{written}
use Rattle.protocol.specs.declared.Alignment.{Alignment}
use Rattle.rules.specs.Server as rules
use Rattle.rules.specs.Server.{slots_most, settings_code}
use Rattle.rules.specs.Links.{enters}
use Rattle.rules.specs.Rows.{swept_if}
use Rattle.rules.specs.Events.{Event, code_of, counts, step, written_at}
use Rattle.rules.specs.Typed.{TypedSettings, TypedEvent}
use Rattle.memory.specs.Memory.{rows_in}
use Rattle.slots.specs.declared.state.Settings.{Settings}
use Rattle.slots.specs.declared.state.Slot.{Slot}
use Rattle.slots.specs.declared.state.Server.{Server}
use Rattle.slots.specs.declared.answers.Failure.{Failure}
use Rattle.slots.specs.Codes.{code_number, written_of}
use Rattle.slots.specs.State.{settings_of}
use Rattle.table.specs.Slots.{slot_in, OthersStay}
use Rattle.actions.specs.Parts.{slot_with}
use Rattle.server.specs.declared.answers.Answer.{Answer}

-- the slots of the table, each with its part of the memory
unfoldable pub slots_of : List Slot → List ℕ → List rules.Slot
slots_of slots memory = table (λ k. slot_with (slot_in slots k) k memory) slots_most 0

-- the server of the rules that a server, the table of its slots and its memory are
abbrev pub server_of : Server → List Slot → List ℕ → rules.Server
server_of s slots memory = record {
  settings = settings_of s.settings;
  time = s.time;
  slots = slots_of slots memory;
  rows = rows_in memory;
}

-- the answer to an event: where it is refused, the server that came
abbrev pub answer_of : Server → Result (Server × ℕ) Failure → Answer
answer_of s (Ok x) = record { server = x.0; outcome = Ok x.1 }
answer_of s (Err f) = record { server = s; outcome = Err f }

-- ---- what an event does: the code, the server, its slots and its memory are those of the step, and a refusal leaves all of them as they
-- came, but for the malformed Hello. After an event that counts each octet of the memory is the program's choice, and every choice has its
-- meaning in common: `server_of`.
pub record Steps (e : Event) (s : Server) (slots slots' : List Slot) (before after : List ℕ) (r : Answer) : Type 0 where
  pub code : code_number r.outcome ≡ code_of (server_of s slots before) e
  pub server : server_of r.server slots' after ≡ step (server_of s slots before) e
  pub size : written_of r.outcome ≡ length (written_at (server_of s slots before) e)
  pub same : counts e (code_of (server_of s slots before) e) ≡ false → (r.server ≡ s) × ((slots' ≡ slots) × (after ≡ before))

-- with an out buffer: what is written is at its start, the octets after it stay
pub record StepsOut (e : Event) (s : Server) (slots slots' : List Slot) (before after out out' : List ℕ) (r : Answer) : Type 0 where
  pub steps : Steps e s slots slots' before after r
  pub octets : out' ≡ written (written_at (server_of s slots before) e) out

-- ---- the contract of an event function: what it does, at arguments that are octets and times of 32 bits
pub record Does (e : Event) (s : Server) (slots slots' : List Slot) (before after : List ℕ) (r : Answer) : Type 0 where
  pub steps : Steps e s slots slots' before after r
  pub typed : TypedEvent e

pub record DoesOut (e : Event) (s : Server) (slots slots' : List Slot) (before after out out' : List ℕ) (r : Answer) : Type 0 where
  pub steps : StepsOut e s slots slots' before after out out' r
  pub typed : TypedEvent e

-- settings taken, or refused with the slots and the memory as they came; the server that is answered then is the program's choice
pub record Starts (s : Settings) (slots slots' : List Slot) (before after : List ℕ) (r : Answer) : Type 0 where
  pub code : code_number r.outcome ≡ settings_code (settings_of s)
  pub server : settings_code (settings_of s) ≡ 0 → server_of r.server slots' after ≡ rules.fresh (settings_of s)
  pub size : written_of r.outcome ≡ 0
  pub same : (settings_code (settings_of s) ≡ 0 → ⊥) → (slots' ≡ slots) × (after ≡ before)
  pub typed : TypedSettings (settings_of s)

-- ---- below the events
abbrev pub marked_if : Bool → ℕ → (ℕ → Bool) → ℕ → Bool
marked_if true k m = on k true m
marked_if false k m = m

-- the end of an event in slot k
abbrev pub ended : Bool → ℕ → ℕ → rules.Slot → rules.Server → rules.Server
ended sweep k now x s = record { settings = s.settings; time = now; slots = lists.set s.slots k x; rows = swept_if sweep s.rows }

-- rows may have been changed, or slot k, left as x, has had its waiting list emptied
abbrev pub sweeps_at : Bool → List Slot → ℕ → Slot → Bool
sweeps_at changes slots k x = changes || enters (slot_in slots k).link.alignment x.link.alignment

-- the end of an event that put slot k into the table and no other, of a server whose slot k was in the state `from`
abbrev pub Closes : Bool → Alignment → Server → List Slot → ℕ → ℕ → List ℕ → List ℕ → Server → Type 0
Closes changes from s slots k now before after r =
    (old : List Slot) → (slot_in old k).link.alignment ≡ from → OthersStay k old slots
    → server_of r slots after ≡ ended (sweeps_at changes old k (slot_in slots k)) k now (slot_with (slot_in slots k) k before) (server_of s old before)
