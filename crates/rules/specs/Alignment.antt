-- Document 01, 'Alignment': what a CA does to its slot, and the answer to it.
-- Assumes nothing.
use Rattle.std.specs.Prelude.{ℕ, Bool, true, false, not, List, []}
use Rattle.laws.specs.Lists.{is_empty}
use Rattle.protocol.specs.declared.CaNumber.{CaNumber}
use Rattle.protocol.specs.declared.CaFlags.{CaFlags}
use Rattle.protocol.specs.Numbers.{next_ca}
use Rattle.protocol.specs.Messages.{CsaRecord, summary_of, Body, ca}
use Rattle.protocol.specs.Layouts.{packet_of}
use Rattle.rules.specs.Server.{Settings, Entry, Value, Row, Slot}
use Rattle.rules.specs.Links.{CaIn, CaRule, refuse_ca, become_slave, become_master, repeat, slave_on, master_on, master_done, ignore, restart, ca_rule, ca_move}
use Rattle.rules.specs.Rows.{next_used, behind, used_from, rows_of}
use Rattle.rules.specs.Requests.{Wanted, all_taken_in}
use Rattle.rules.specs.Updates.{record_of}
use Rattle.rules.specs.Slots.{to_peer, moved, completed, with_kept, with_listed, with_requests, ca_sent}
use Rattle.rules.specs.Sent.{Sent, nothing, new_packet, again}

-- a CA as it came
pub record CaPacket : Type 0 where
  pub seen : CaIn
  pub records : List CsaRecord

abbrev pub ca_packet : CaNumber → CaFlags → List CsaRecord → List ℕ → CaPacket
ca_packet n f rs sender = record {
  seen = record { head = record { number = n; flags = f }; sender = sender; empty = is_empty rs };
  records = rs;
}

-- the rule that a CA takes in a slot of the server with this ID
abbrev pub rule_for : List ℕ → CaPacket → Slot → CaRule
rule_for id c x = ca_rule id c.seen (not (is_empty x.kept)) x.link

-- ---- the answer
abbrev pub summary_record : Entry → Value → CsaRecord
summary_record e v = summary_of (record_of 1 e v)

-- 'from row 0 on entering Summarize'
abbrev pub answer_from : CaRule → Slot → ℕ
answer_from refuse_ca x = 0
answer_from become_slave x = 0
answer_from become_master x = 0
answer_from repeat x = x.listed
answer_from slave_on x = x.listed
answer_from master_on x = x.listed
answer_from master_done x = x.listed
answer_from ignore x = x.listed
answer_from restart x = x.listed

-- the row that the answer after this one goes on from
abbrev pub answer_to : List Row → ℕ → ℕ
answer_to rows from = behind from (next_used rows from)

-- 'O set when a used row follows'
abbrev pub answer_more : CaRule → List Row → Slot → Bool
answer_more u rows x = used_from rows (answer_to rows (answer_from u x))

-- 'M set by the master, I clear'
abbrev pub ca_flags : Bool → Bool → CaFlags
ca_flags master more = record { master = master; initial = false; more = more }

abbrev pub answer_body : Bool → CaNumber → CaRule → List Row → Slot → Body
answer_body master n u rows x =
    ca n (ca_flags master (answer_more u rows x)) (rows_of summary_record rows (next_used rows (answer_from u x)))

-- the CA that is written
abbrev pub ca_sent_by : CaRule → Settings → List Row → CaPacket → Slot → Sent
ca_sent_by refuse_ca s rows c x = nothing
ca_sent_by become_slave s rows c x = new_packet (to_peer s x (answer_body false c.seen.head.number become_slave rows x))
ca_sent_by become_master s rows c x = new_packet (to_peer s x (answer_body true (next_ca x.link.number) become_master rows x))
ca_sent_by repeat s rows c x = again x.kept
ca_sent_by slave_on s rows c x = new_packet (to_peer s x (answer_body false c.seen.head.number slave_on rows x))
ca_sent_by master_on s rows c x = new_packet (to_peer s x (answer_body true (next_ca x.link.number) master_on rows x))
ca_sent_by master_done s rows c x = nothing
ca_sent_by ignore s rows c x = nothing
ca_sent_by restart s rows c x = nothing

-- ---- the slot
abbrev pub wanted_of : Slot → Wanted
wanted_of x = record { requests = x.requests; missed = x.missed }

abbrev pub with_wanted : Wanted → Slot → Slot
with_wanted w x = with_requests w.requests w.missed x

-- its summaries taken in, its link moved
abbrev pub taking : CaRule → List Row → CaPacket → Slot → Slot
taking u rows c x =
    with_wanted (all_taken_in rows c.records (wanted_of x)) (moved (ca_move u c.seen (answer_more u rows x) x.link) x)

-- 'The last CA sent is kept octet for octet'
abbrev pub keeping : Sent → ℕ → ℕ → Slot → Slot
keeping nothing now to x = x
keeping (new_packet m) now to x = ca_sent now (with_kept (packet_of m) (with_listed to x))
keeping (again p) now to x = ca_sent now x

abbrev pub answering : CaRule → Settings → ℕ → List Row → CaPacket → Slot → Slot
answering u s now rows c x =
    keeping (ca_sent_by u s rows c x) now (answer_to rows (answer_from u x)) (taking u rows c x)

abbrev pub ca_slot : CaRule → Settings → ℕ → List Row → CaPacket → Slot → Slot
ca_slot refuse_ca s now rows c x = x
ca_slot become_slave s now rows c x = completed (answering become_slave s now rows c x)
ca_slot become_master s now rows c x = completed (answering become_master s now rows c x)
ca_slot repeat s now rows c x = ca_sent now x
ca_slot slave_on s now rows c x = completed (answering slave_on s now rows c x)
ca_slot master_on s now rows c x = completed (answering master_on s now rows c x)
-- 'The master drops its kept CA on entering Update'
ca_slot master_done s now rows c x = completed (with_kept [] (taking master_done rows c x))
ca_slot ignore s now rows c x = x
ca_slot restart s now rows c x = moved (ca_move restart c.seen false x.link) x
