-- The invariant of every server that a list of events leaves, and the relation between a server and its history.
-- Assumes nothing.
use Prim.Native.Nat.{ℕ, ◌≤◌, ◌<◌}
use mathlib.Core.Path.{◌≡◌}
use mathlib.Core.Bool.{Bool, true, false, not}
use mathlib.Core.List.{List, map}
use lib.ListN.{length}
use mir.Syntax.{w32}
use mir.Val.{SFits}
use Rattle.laws.specs.Lists.{is_empty}
use Rattle.laws.specs.Tables.{without, Perm}
use Rattle.protocol.specs.declared.Alignment.{Alignment}
use Rattle.protocol.specs.declared.Alignment.TheVariants.{Down, Negotiate, Summarize, Update, Aligned}
use Rattle.protocol.specs.declared.Link.{Link}
use Rattle.protocol.specs.Sizes.{id_length, key_most, payload_most}
use Rattle.rules.specs.Server.{slots_most, rows_most, Settings, Entry, Value, Row, free, used, is_free, waits_for, row_at, Slot, slot_at, Server}
use Rattle.rules.specs.Links.{with_alignment}
use Rattle.rules.specs.Rows.{to_free}
use Rattle.rules.specs.Events.{live_in}
use Rattle.rules.specs.SlotHistory.{SlotHistory}
use Rattle.rules.specs.History.{Known, History}
use Rattle.rules.specs.Demand3.{row_of, Once, cut_off}

-- a row waits for live slots only
abbrev pub Alive : (ℕ → Bool) → Row → Type 0
Alive live r = (k : ℕ) → waits_for k r ≡ true → live k ≡ true

-- the lengths and numbers that 'Sizes' allows
pub record SizedEntry (e : Entry) : Type 0 where
  pub some_key : 0 < length e.key
  pub key_fits : length e.key ≤ key_most
  pub originator : length e.originator ≡ id_length

pub record SizedValue (v : Value) : Type 0 where
  pub number_fits : SFits w32 v.number.0
  pub payload_fits : length v.payload ≤ payload_most

abbrev pub Sized : Row → Type 0
Sized free = Unit {0}
Sized (used e v m) = SizedEntry e × SizedValue v

-- what the rows of a server keep, with the slots that are live
pub record RowsInv (live : ℕ → Bool) (rows : List Row) : Type 0 where
  pub size : length rows ≡ rows_most
  pub once : Once rows
  pub alive : (i : ℕ) → Alive live (row_at rows i)
  pub sized : (i : ℕ) → Sized (row_at rows i)

-- a peer has an ID; a slot without one has never been in a link
pub record Peered (x : Slot) : Type 0 where
  pub id : x.used ≡ true → length x.peer ≡ id_length
  pub none : x.used ≡ false → x.link.alignment ≡ Down

pub record Inv (s : Server) : Type 0 where
  pub slots : length s.slots ≡ slots_most
  pub own : length s.settings.id ≡ id_length
  pub peers : (k : ℕ) → Peered (slot_at s k)
  pub rows : RowsInv (live_in s.slots) s.rows
  -- no row is purged and waits for nobody
  pub freed : (i : ℕ) → to_free (row_at s.rows i) ≡ false

-- the history does not tell Aligned from Update
abbrev pub past_as : Alignment → Alignment
past_as Down = Down
past_as Negotiate = Negotiate
past_as (Summarize r) = Summarize r
past_as Update = Update
past_as Aligned = Update

abbrev pub past_link : Link → Link
past_link l = with_alignment (past_as l.alignment) l

-- a slot as the history sees it
abbrev pub seen_of : Slot → SlotHistory
seen_of x = record { link = past_link x.link; kept = not (is_empty x.kept); sent = x.timers.ca }

-- the used rows are the history's entries
abbrev pub Sim : List Row → List Known → Type 0
Sim rows es = Perm (without is_free rows) (map row_of es)

pub record Rel (c : Settings) (s : Server) (h : History) : Type 0 where
  pub settings : s.settings ≡ c
  pub slots : map seen_of s.slots ≡ h.slots
  pub rows : Sim s.rows h.entries
  pub updates : (k : ℕ) → (slot_at s k).updates ≡ cut_off (h.updates k)
