-- The replay program, chunk by chunk of its input: what the first record and a chunk behind it leave, and their text.
-- Assumes nothing.
use Rattle.std.specs.Prelude.{◌≡◌, ℕ, zero, suc, ◌+◌, ◌*◌, ◌/◌, ◌%◌, ◌≤◌, Bool, not, ◌&&◌, List, [], ◌∷◌, ◌++◌, length, take, drop, nat_le}
use Rattle.laws.specs.Choice.{pick}
use Rattle.laws.specs.Lists.{is_empty}
use Rattle.rules.specs.Server as rules
use Rattle.rules.specs.Server.{fresh}
use Rattle.rules.specs.Events.{Item, run, items}
use Rattle.rules.specs.Replay.{replay_record, settings_in, RecordKind, record_kind, Line, a_line, cut, line_of, server_after, starts_good}
use Rattle.slots.specs.declared.state.Settings.{Settings}
use Rattle.slots.specs.declared.state.Server.{Server}
use Rattle.server.specs.State.{server_of}
use Rattle.server.specs.Hosts.{Hosted}
use Rattle.lines.specs.declared.chunk.Opened.{Opened}
use Rattle.lines.specs.declared.chunk.Stepped.{Stepped}
use Rattle.lines.specs.declared.chunk.Chunk.{Chunk}
use Rattle.lines.specs.Text.{numbers_most, Prints}
use Rattle.lines.specs.Lines.{Begins, items_of, events_from}
use Rattle.slots.specs.declared.state.Slot.{Slot}

-- ---- the lines of a chunk
-- whole records that are taken at once
abbrev pub chunk_records : ℕ
chunk_records = 224

-- those of an input
abbrev pub records_in : List ℕ → ℕ
records_in input = pick (nat_le (length input / replay_record) chunk_records) (length input / replay_record) chunk_records

-- n lines from event number k on, and behind them `cut`, where the input ends with this chunk and something is left of it
unfoldable pub lines_in : Bool → ℕ → ℕ → rules.Server → List ℕ → List Line
lines_in ends zero k s input = pick (ends && not (is_empty input)) (cut ∷ []) []
lines_in ends (suc n) k s input =
    line_of (record_kind (take replay_record input)) k s ∷ lines_in ends n (suc k) (server_after (record_kind (take
    replay_record input)) s) (drop replay_record input)

-- the chunk is the input's last, and all its whole records are taken
abbrev pub ends_with : Bool → List ℕ → Bool
ends_with last input = last && nat_le (length input / replay_record) chunk_records

-- ---- contracts
-- 'Empty input, a first record that isn't accepted settings .. prints `cut` and ends'
abbrev pub first_line : List ℕ → Line
first_line input = pick (starts_good input) (a_line 0 0 [] (fresh (settings_in input))) cut

pub record Opens (input : List ℕ) (slots slots' : List Slot) (before after text text' : List ℕ) (r : Opened) : Type 0 where
  pub begins : Begins input slots slots' before after r.answer
  pub prints : Prints 0 (λ _. first_line input ∷ []) 0 text text' r.text

-- one record and its line
pub record Lined (kind : RecordKind) (number : ℕ) (s : Server) (slots slots' : List Slot) (before after : List ℕ) (at : ℕ) (text text' : List ℕ) (r : Stepped) : Type 0 where
  pub server : server_of r.server slots' after ≡ server_after kind (server_of s slots before)
  pub host : (c : Settings) (is : List Item) → Hosted c s slots before is → Hosted c r.server slots' after (is ++ items_of kind (server_of s slots before))
  pub prints : Prints number (λ k. line_of kind k (server_of s slots before) ∷ []) at text text' r.text
  pub most : r.text ≤ at + 84

-- a chunk: the server, slots and memory of its events, whatever a host did before it; what was taken of it, the next event number, the lines
pub record Chunks (input : List ℕ) (last : Bool) (number : ℕ) (s : Server) (slots slots' : List Slot) (before after text text' : List ℕ) (r : Chunk) : Type 0 where
  pub server : server_of r.server slots' after ≡ run (server_of s slots before) (events_from (records_in input) input)
  pub host : (c : Settings) (is : List Item) → Hosted c s slots before is
      → Hosted c r.server slots' after (is ++ items (server_of s slots before) (events_from (records_in input) input))
  pub next : (k : ℕ) → number ≡ k % numbers_most → r.number ≡ (k + records_in input) % numbers_most
  pub rest : r.taken ≡ replay_record * records_in input
  pub prints : Prints number (λ k. lines_in (ends_with last input) (records_in input) k (server_of s slots before) input) 0 text text' r.text
