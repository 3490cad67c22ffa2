-- What the functions over the records of a packet ask and leave.
-- Assumes nothing.
use denote.Struct.Props.{props}
use Rattle.std.specs.Coded.{×_prop, Unit-prop}
use Rattle.std.specs.Prelude.{ℕ, ◌+◌, ◌*◌, ◌≤◌, ◌≡◌, Bool, List, [], ◌∷◌}
use Rattle.laws.specs.Lists.{All}
use Rattle.laws.specs.Choice.{pick}
use Rattle.laws.specs.Tables.{change}
use Rattle.protocol.specs.Numbers.{newer}
use Rattle.protocol.specs.Messages.{CsaRecord}
use Rattle.rules.specs.Server.{holds}
use Rattle.rules.specs.Requests.{entry_of, Wanted, all_taken_in}
use Rattle.rules.specs.Updates as rules
use Rattle.rules.specs.Updates.{hops_most, record_of, null_record, solicited, answer_waits, update_rule, rows_by, requests_by, Updated, all_updated}
use Rattle.memory.specs.Memory.{row_entry, value_at, rows_in, memory_of, with_rows, requests_put, requests_of}
use Rattle.memory.specs.Search.{FitsRow}
use Rattle.memory.specs.Lists.{wanted_now}
use Rattle.memory.specs.Entries.{rows_as}
use Rattle.wire.specs.declared.record.Cursor.{Cursor}
use Rattle.wire.specs.Views.{records_of}
use Rattle.records.specs.declared.put.Placed.{Placed}
use Rattle.records.specs.declared.standing.UpdateRule.{UpdateRule}
use Rattle.records.specs.declared.standing.UpdateRule.TheVariants.{Null, PurgeAbsent, Full, Stored, Equal, Older}
use Rattle.records.specs.Places.{Puts, Adds, reply_of}

-- a record that a row has room for
abbrev pub Fits : CsaRecord → Type 0
Fits r = FitsRow r.key r.originator r.payload

-- the records before a cursor: few, in reach, and each fits a row
pub record Walks (p : List ℕ) (c : Cursor) : Type 0 where
  pub few : c.left ≤ 4
  pub reach : c.at + c.left * 65535 ≤ 1048576
  pub fits : All Fits (records_of p c)

-- each has at most one proof, as a field of a struct asks
fits-prop : (rs : List CsaRecord) → IsProp (All Fits rs)
fits-prop [] = Unit-prop
fits-prop (r ∷ rs) = ×_prop (hlevel props) (fits-prop rs)

pub Walks-prop : (p : List ℕ) (c : Cursor) → IsProp (Walks p c)
Walks-prop p c = hlevel (props, fits-prop)

-- ---- summaries
abbrev pub wanted_by : ℕ → List CsaRecord → ℕ → List ℕ → Wanted
wanted_by k rs missed s = all_taken_in (rows_in s) rs (wanted_now k missed s)

-- slot k's list after some summaries, of the memory and of the missed that is answered
pub record TakesAll (k : ℕ) (rs : List CsaRecord) (missed : ℕ) (before after : List ℕ) (r : ℕ) : Type 0 where
  pub list : memory_of after ≡ requests_put k (wanted_by k rs missed before).requests (memory_of before)
  pub count : r ≡ (wanted_by k rs missed before).missed

abbrev pub TakesOne : ℕ → CsaRecord → ℕ → List ℕ → List ℕ → ℕ → Type 0
TakesOne k v missed before after r = TakesAll k (v ∷ []) missed before after r

-- ---- solicits
-- the answer to a record by row i: as it is held, unless a greater number is asked for
abbrev pub answer_by : CsaRecord → List ℕ → ℕ → CsaRecord
answer_by r s i =
    let v = value_at s i in
    pick (newer r.number v.number) (null_record r) (record_of hops_most (row_entry s i) v)

-- the answer to a record from slot k is put, and what was sent waits for the slot
pub record Solicits (k : ℕ) (v : CsaRecord) (before after : List ℕ) (at : ℕ) (out out' : List ℕ) (n : ℕ) : Type 0 where
  pub answer : Puts 64 (solicited (rows_in before) v ∷ []) at out out' n
  pub waits : memory_of after ≡ rows_as (change (holds (entry_of v)) (answer_waits k v.number)) before

-- ---- update records
-- the rule of each case
abbrev pub update_rule_of : UpdateRule → rules.UpdateRule
update_rule_of Null = rules.null
update_rule_of PurgeAbsent = rules.purge_absent
update_rule_of Full = rules.full
update_rule_of Stored = rules.stored
update_rule_of Equal = rules.equal
update_rule_of Older = rules.older

-- the rows, slot k's requests and the acknowledged records
abbrev pub updated_now : ℕ → List CsaRecord → List ℕ → Updated
updated_now k replies s = record { rows = rows_in s; requests = requests_of (memory_of s) k; replies = replies }

-- the memory after an update record from slot k, and the rule that it took
pub record UpdatesOne (live : ℕ → Bool) (k : ℕ) (v : CsaRecord) (before after : List ℕ) (u : rules.UpdateRule) : Type 0 where
  pub rule : u ≡ update_rule v (rows_in before)
  pub memory : memory_of after ≡ with_rows (rows_by u live k v (rows_in before))
      (requests_put k (requests_by u v (requests_of (memory_of before) k)) (memory_of before))

-- the memory after it, and its summary put if it is acknowledged
pub record Updates (live : ℕ → Bool) (k : ℕ) (v : CsaRecord) (before after out out' : List ℕ) (to x : Placed) : Type 0 where
  pub memory : memory_of after ≡ with_rows (rows_by (update_rule v (rows_in before)) live k v (rows_in before))
      (requests_put k (requests_by (update_rule v (rows_in before)) v (requests_of (memory_of before) k)) (memory_of before))
  pub reply : Adds 32 (reply_of (update_rule v (rows_in before)) v) to out out' x

-- the memory after some update records from slot k
abbrev pub UpdatesAll : (ℕ → Bool) → ℕ → List CsaRecord → List ℕ → List ℕ → Type 0
UpdatesAll live k rs before after =
    memory_of after ≡ with_rows (all_updated live k rs (updated_now k [] before)).rows
    (requests_put k (all_updated live k rs (updated_now k [] before)).requests (memory_of before))
