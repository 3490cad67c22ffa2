-- The server: what it holds between events (document 01, 'Sizes', 'Answers to an event').
-- Assumes nothing.
use Rattle.std.specs.Prelude.{ℕ, Bool, true, false, not, ◌&&◌, ◌||◌, List, [], eqb, length, get_or, replicate}
use Rattle.laws.specs.Choice.{pick}
use Rattle.laws.specs.Tables.{same, count}
use Rattle.protocol.specs.declared.CsaNumber.{CsaNumber}
use Rattle.protocol.specs.declared.Link.{Link}
use Rattle.protocol.specs.declared.Timers.{Timers}
use Rattle.std.specs.Prelude.{None}
use Rattle.protocol.specs.declared.Role.TheVariants.{Master}
use Rattle.protocol.specs.declared.HelloState.TheVariants.{Down}
use Rattle.protocol.specs.declared.Alignment.TheVariants.{Down as alignmentDown}
use Rattle.protocol.specs.Sizes.{id_length}
use Rattle.protocol.specs.Numbers.{ca_number}

-- 8 peer slots, 64 cache rows, 64 request entries a slot
abbrev pub slots_most : ℕ
slots_most = 8

abbrev pub rows_most : ℕ
rows_most = 64

abbrev pub requests_most : ℕ
requests_most = 64

-- 'own ID, the two group numbers, our HelloInterval and DeadFactor'
pub record Settings : Type 0 where
  pub id : List ℕ
  pub protocol : ℕ
  pub group : ℕ
  pub interval : ℕ
  pub factor : ℕ

-- '0 refused, 17'; and an ID that is none
abbrev pub settings_code : Settings → ℕ
settings_code s = pick (not (eqb (length s.id) id_length) || (eqb s.interval 0 || eqb s.factor 0)) 17 0

-- an entry: 'key with originator'
pub record Entry : Type 0 where
  pub key : List ℕ
  pub originator : List ℕ

abbrev pub same_entry : Entry → Entry → Bool
same_entry e f = same e.key f.key && same e.originator f.originator

-- what is held of an entry
pub record Value : Type 0 where
  pub number : CsaNumber
  pub payload : List ℕ
  pub remaining : ℕ

-- a cache row: free, or used by an entry with its value and the slots that it waits for
pub data Row : Type 0 where
  free : Row
  used : Entry → Value → (ℕ → Bool) → Row

-- an entry that a slot's peer has and we want
pub record Request : Type 0 where
  pub entry : Entry
  pub number : CsaNumber

-- A peer slot. `listed` is the row that the next CA answer goes on from, `cursor` the row that the next update request does, `updates` how many
-- update requests were written at polls since the slot last entered Negotiate, up to 65535 (document 02, L1).
pub record Slot : Type 0 where
  pub used : Bool
  pub peer : List ℕ
  pub link : Link
  pub timers : Timers
  pub kept : List ℕ
  pub listed : ℕ
  pub cursor : ℕ
  pub requests : List Request
  pub missed : ℕ
  pub updates : ℕ

pub record Server : Type 0 where
  pub settings : Settings
  pub time : ℕ
  pub slots : List Slot
  pub rows : List Row

-- ---- a fresh server: 'its settings taken, with no peers and no rows'
abbrev pub fresh_link : Link
fresh_link = record {
  hello = Down;
  heard = 0;
  interval = 0;
  factor = 0;
  alignment = alignmentDown;
  role = Master;
  number = ca_number 0;
  last = record { number = ca_number 0; flags = record { master = false; initial = false; more = false } };
  more = false;
}

abbrev pub no_timers : Timers
no_timers = record { hello = None; ca = None; csus = None; update = None }

abbrev pub fresh_slot : Slot
fresh_slot = record {
  used = false;
  peer = replicate id_length 0;
  link = fresh_link;
  timers = no_timers;
  kept = [];
  listed = 0;
  cursor = 0;
  requests = [];
  missed = 0;
  updates = 0;
}

abbrev pub fresh : Settings → Server
fresh s = record { settings = s; time = 0; slots = replicate slots_most fresh_slot; rows = replicate rows_most free }

abbrev pub slot_at : Server → ℕ → Slot
slot_at s k = get_or s.slots k fresh_slot

abbrev pub row_at : List Row → ℕ → Row
row_at rows i = get_or rows i free

-- ---- tests of a row
abbrev pub is_free : Row → Bool
is_free free = true
is_free (used e v m) = false

abbrev pub is_used : Row → Bool
is_used r = not (is_free r)

abbrev pub holds : Entry → Row → Bool
holds e free = false
holds e (used f v m) = same_entry f e

abbrev pub waits_for : ℕ → Row → Bool
waits_for k free = false
waits_for k (used e v m) = m k

-- how many rows are in use
abbrev pub rows_used : List Row → ℕ
rows_used rows = count is_used rows
