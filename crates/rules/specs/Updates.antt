-- Document 01, 'Updates': changes of ours, the records of a CSU Request, of a CSU Reply and of a CSUS.
-- Assumes nothing.
use Rattle.std.specs.Prelude.{ℕ, ◌-◌, Bool, true, false, List, [], ◌∷◌, ◌++◌, map, ltb}
use Rattle.laws.specs.Choice.{pick}
use Rattle.laws.specs.Tables.{on, has, change}
use Rattle.protocol.specs.declared.CsaNumber.{CsaNumber}
use Rattle.std.specs.Prelude.{Option}
use Rattle.std.specs.Prelude.{Some, None}
use Rattle.protocol.specs.Numbers.{newer, next_csa, first_number, purged}
use Rattle.protocol.specs.Messages.{CsaRecord}
use Rattle.rules.specs.Server.{Entry, Value, Row, free, used, is_free, holds, Request}
use Rattle.rules.specs.Rows.{entry_row, is_purged, unmarked, spread, filled}
use Rattle.rules.specs.Requests.{entry_of, acknowledged, dropped}

-- 'remaining hops 16'
abbrev pub hops_most : ℕ
hops_most = 16

abbrev pub value : CsaNumber → List ℕ → ℕ → Value
value n p r = record { number = n; payload = p; remaining = r }

-- ---- changes of ours: they wait for every live slot
abbrev pub stepped : CsaNumber → Option CsaNumber → CsaNumber
stepped n (Some m) = m
stepped n None = n

-- 'each change adds one and sets 16 again'
abbrev pub changed_row : (ℕ → Bool) → List ℕ → Row → Row
changed_row live payload free = free
changed_row live payload (used e v m) = used e (value (stepped v.number (next_csa v.number)) payload hops_most) live

-- 'Our new entry has number -2147483647'
abbrev pub new_row : (ℕ → Bool) → Entry → List ℕ → Row
new_row live e payload = used e (value first_number payload hops_most) live

abbrev pub set_rows : (ℕ → Bool) → Entry → List ℕ → List Row → List Row
set_rows live e payload rows =
    pick (has (holds e) rows) (change (holds e) (changed_row live payload) rows) (filled (new_row live e payload) rows)

-- 'Withdraw .. stores an empty payload and keeps the row'
abbrev pub withdraw_rows : (ℕ → Bool) → Entry → List Row → List Row
withdraw_rows live e rows = change (holds e) (changed_row live []) rows

-- 'Purge .. stores 2147483647 and empty, remaining 16'
abbrev pub purged_row : (ℕ → Bool) → Row → Row
purged_row live free = free
purged_row live (used e v m) = used e (value purged [] hops_most) live

abbrev pub purge_rows : (ℕ → Bool) → Entry → List Row → List Row
purge_rows live e rows = change (holds e) (purged_row live) rows

-- ---- the records of a CSU Request
-- the rule that a record takes
pub data UpdateRule : Type 0 where
  null : UpdateRule
  purge_absent : UpdateRule
  full : UpdateRule
  stored : UpdateRule
  equal : UpdateRule
  older : UpdateRule

-- of a record that is not null, by the row of its entry. `room`: there is a free row
abbrev pub rule_at : CsaNumber → Bool → Row → UpdateRule
rule_at n room free = pick (is_purged n) purge_absent (pick room stored full)
rule_at n room (used e v m) = pick (newer n v.number) stored (pick (newer v.number n) older equal)

abbrev pub update_rule : CsaRecord → List Row → UpdateRule
update_rule r rows = pick r.null null (rule_at r.number (has is_free rows) (entry_row (entry_of r) rows))

-- 'Storing sets remaining to hop count minus one'
abbrev pub value_of : CsaRecord → Value
value_of r = value r.number r.payload (r.hops - 1)

abbrev pub row_for : (ℕ → Bool) → ℕ → CsaRecord → Row
row_for live k r = used (entry_of r) (value_of r) (spread live k (r.hops - 1))

abbrev pub renewed : (ℕ → Bool) → ℕ → CsaRecord → Row → Row
renewed live k r free = free
renewed live k r (used e v m) = used e (value_of r) (spread live k (r.hops - 1))

-- 'an older record from this slot, with remaining 1 or more' is a put
abbrev pub waits_again : ℕ → Row → Row
waits_again k free = free
waits_again k (used e v m) = used e v (pick (ltb 0 v.remaining) (on k true m) m)

-- what a record from slot k does to the rows
abbrev pub rows_by : UpdateRule → (ℕ → Bool) → ℕ → CsaRecord → List Row → List Row
rows_by null live k r rows = rows
rows_by purge_absent live k r rows = rows
rows_by full live k r rows = rows
rows_by stored live k r rows =
    pick (has (holds (entry_of r)) rows) (change (holds (entry_of r)) (renewed live k r) rows) (filled (row_for live k r) rows)
-- 'an equal .. record from it' is a take
rows_by equal live k r rows = change (holds (entry_of r)) (unmarked k) rows
rows_by older live k r rows = change (holds (entry_of r)) (waits_again k) rows

-- what it does to the slot's requests: 'drop its request', or acknowledging
abbrev pub requests_by : UpdateRule → CsaRecord → List Request → List Request
requests_by null r qs = dropped (entry_of r) qs
requests_by purge_absent r qs = acknowledged (entry_of r) r.number qs
requests_by full r qs = qs
requests_by stored r qs = acknowledged (entry_of r) r.number qs
requests_by equal r qs = acknowledged (entry_of r) r.number qs
requests_by older r qs = acknowledged (entry_of r) r.number qs

-- whether the CSU Reply lists it
abbrev pub is_acknowledged : UpdateRule → Bool
is_acknowledged null = true
is_acknowledged purge_absent = true
is_acknowledged full = false
is_acknowledged stored = true
is_acknowledged equal = true
is_acknowledged older = true

-- the rows, the slot's requests, and the acknowledged records in order
pub record Updated : Type 0 where
  pub rows : List Row
  pub requests : List Request
  pub replies : List CsaRecord

abbrev pub by_rule : UpdateRule → (ℕ → Bool) → ℕ → CsaRecord → Updated → Updated
by_rule u live k r x = record {
  rows = rows_by u live k r x.rows;
  requests = requests_by u r x.requests;
  replies = pick (is_acknowledged u) (x.replies ++ (r ∷ [])) x.replies;
}

-- 'Each CSA of a CSU Request (update request) from p, in order'
abbrev pub all_updated : (ℕ → Bool) → ℕ → List CsaRecord → Updated → Updated
all_updated live k [] x = x
all_updated live k (r ∷ rs) x = all_updated live k rs (by_rule (update_rule r x.rows) live k r x)

-- each record in order changes the row of its entry, by its number
abbrev pub each_row : (CsaNumber → Row → Row) → List CsaRecord → List Row → List Row
each_row f [] rows = rows
each_row f (r ∷ rs) rows = each_row f rs (change (holds (entry_of r)) (f r.number) rows)

-- ---- the records of a CSU Reply: 'a reply from it with the held number' is a take
abbrev pub replied : ℕ → CsaNumber → Row → Row
replied k n free = free
replied k n (used e v m) = pick (newer n v.number) (used e v m) (pick (newer v.number n) (used e v m) (used e v (on k false m)))

abbrev pub all_replied : ℕ → List CsaRecord → List Row → List Row
all_replied k rs rows = each_row (replied k) rs rows

-- ---- the records of a CSUS: 'a record for each in order, hop count 16; absent or held with a smaller number: N set, the asked
-- number, hop count 1'
abbrev pub record_of : ℕ → Entry → Value → CsaRecord
record_of hops e v = record {
  hops = hops;
  null = false;
  number = v.number;
  key = e.key;
  originator = e.originator;
  payload = v.payload;
}

abbrev pub null_record : CsaRecord → CsaRecord
null_record r = record { hops = 1; null = true; number = r.number; key = r.key; originator = r.originator; payload = [] }

abbrev pub solicited_of : CsaRecord → Row → CsaRecord
solicited_of r free = null_record r
solicited_of r (used e v m) = pick (newer r.number v.number) (null_record r) (record_of hops_most e v)

abbrev pub solicited : List Row → CsaRecord → CsaRecord
solicited rows r = solicited_of r (entry_row (entry_of r) rows)

abbrev pub all_solicited : List Row → List CsaRecord → List CsaRecord
all_solicited rows rs = map (solicited rows) rs

-- document 02, L2: 'Every record with N clear sent for a CSUS becomes a put for that slot, if its remaining hops are 1 or more'
abbrev pub answer_waits : ℕ → CsaNumber → Row → Row
answer_waits k n free = free
answer_waits k n (used e v m) = used e v (pick (newer n v.number) m (pick (ltb 0 v.remaining) (on k true m) m))

abbrev pub all_answers_wait : ℕ → List CsaRecord → List Row → List Row
all_answers_wait k rs rows = each_row (answer_waits k) rs rows
