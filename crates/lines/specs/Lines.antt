-- What a record of the replay program does, and what a whole slice of them does.
-- Assumes nothing.
use Rattle.std.specs.Prelude.{◌≡◌, ℕ, zero, suc, ◌/◌, Bool, true, false, not, List, [], ◌∷◌, ◌++◌, length, take, drop}
use Rattle.laws.specs.Choice.{pick}
use Rattle.laws.specs.Puts.{written}
use Rattle.rules.specs.Server as rules
use Rattle.rules.specs.Server.{rows_used, fresh}
use Rattle.rules.specs.Events.{Event, code_of, counts, Item, item_of, run, items}
use Rattle.rules.specs.Replay.{replay_record, settings_in, RecordKind, an_event, other, record_kind, line_of, server_after, starts_good}
use Rattle.rules.specs.History.{history}
use Rattle.rules.specs.Demand3.{Demand3}
use Rattle.memory.specs.Memory.{rows_in}
use Rattle.slots.specs.declared.state.Settings.{Settings}
use Rattle.slots.specs.declared.state.Server.{Server}
use Rattle.slots.specs.Codes.{code_number, written_of}
use Rattle.slots.specs.State.{settings_of}
use Rattle.server.specs.declared.answers.Answer.{Answer}
use Rattle.server.specs.State.{server_of}
use Rattle.server.specs.Hosts.{Hosted}
use Rattle.slots.specs.declared.state.Slot.{Slot}

-- settings that are refused
abbrev pub no_settings : Settings
no_settings = record { id = 0 ∷ 0 ∷ 0 ∷ 0 ∷ []; protocol = 0; group = 0; interval = 0; factor = 0 }

-- the first record: a server if it is a whole record of accepted settings; else the slots and the memory are as they came, and the server
-- that is answered is the program's choice
pub record Begins (input : List ℕ) (slots slots' : List Slot) (before after : List ℕ) (r : Answer) : Type 0 where
  pub code : code_number r.outcome ≡ pick (starts_good input) 0 17
  pub server : starts_good input ≡ true → server_of r.server slots' after ≡ fresh (settings_in input)
  pub size : written_of r.outcome ≡ 0
  pub same : starts_good input ≡ false → (slots' ≡ slots) × (after ≡ before)
  -- what a host did that started so
  pub host : starts_good input ≡ true → (c : Settings) × (settings_of c ≡ settings_in input) × Hosted c r.server slots' after []

-- whether a record adds nothing: it is no event, or a refused one, the malformed Hello apart
abbrev pub adds_nothing : RecordKind → rules.Server → Bool
adds_nothing (an_event e) s = not (counts e (code_of s e))
adds_nothing other s = true

-- the item that a record adds to what a host saw
abbrev pub items_of : RecordKind → rules.Server → List Item
items_of (an_event e) s = item_of s e ∷ []
items_of other s = []

-- a later one: the server, the numbers of its line, and the octets written; where it adds nothing, server, slots and memory are as they came
pub record Takes (kind : RecordKind) (s : Server) (slots slots' : List Slot) (before after out out' : List ℕ) (r : Answer) : Type 0 where
  pub server : server_of r.server slots' after ≡ server_after kind (server_of s slots before)
  pub line : (n : ℕ) → n ∷ code_number r.outcome ∷ (written_of r.outcome) ∷ rows_used (rows_in after) ∷ [] ≡ (line_of kind n (server_of s slots before)).numbers
  pub octets : (n : ℕ) → out' ≡ written (line_of kind n (server_of s slots before)).octets out
  pub same : adds_nothing kind (server_of s slots before) ≡ true → (r.server ≡ s) × ((slots' ≡ slots) × (after ≡ before))
  -- a host that takes it so has done one call more
  pub host : (c : Settings) (is : List Item) → Hosted c s slots before is → Hosted c r.server slots' after (is ++ items_of kind (server_of s slots before))

-- ---- a whole slice
abbrev pub with_event : RecordKind → List Event → List Event
with_event (an_event e) es = e ∷ es
with_event other es = es

-- the events of n records; what is no event adds none
unfoldable pub events_from : ℕ → List ℕ → List Event
events_from zero input = []
events_from (suc n) input = with_event (record_kind (take replay_record input)) (events_from n (drop replay_record input))

-- those of the whole records behind the first
unfoldable pub events_in : List ℕ → List Event
events_in input = events_from (length (drop replay_record input) / replay_record) (drop replay_record input)

-- the records behind the first: the server, slots and memory of their events, and a host that takes them so called these
pub record RunsFrom (s : Server) (slots slots' : List Slot) (before after input : List ℕ) (r : Server) : Type 0 where
  pub server : server_of r slots' after ≡ run (server_of s slots before) (events_in input)
  pub host : (c : Settings) (is : List Item) → Hosted c s slots before is → Hosted c r slots' after (is ++ items (server_of s slots before) (events_in input))

-- the server, slots and memory that a slice leaves are those of its list of events, a host that runs it called these, and so demand 3 holds;
-- where the first record is refused, the server that is answered is the program's choice
pub record Runs (input : List ℕ) (slots slots' : List Slot) (before after : List ℕ) (r : Answer) : Type 0 where
  pub code : code_number r.outcome ≡ pick (starts_good input) 0 17
  pub server : starts_good input ≡ true → server_of r.server slots' after ≡ run (fresh (settings_in input)) (events_in input)
  pub host : starts_good input ≡ true
      → (c : Settings) × (settings_of c ≡ settings_in input) × Hosted c r.server slots' after (items (fresh (settings_in input)) (events_in input))
  pub demand : starts_good input ≡ true
      → Demand3 (settings_in input) (server_of r.server slots' after) (history (settings_in input) (items (fresh (settings_in input)) (events_in input)))
  pub size : written_of r.outcome ≡ 0
  pub same : starts_good input ≡ false → (slots' ≡ slots) × (after ≡ before)
