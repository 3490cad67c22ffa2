-- A packet taken in a slot: what it does to the slot and the rows, and what is written (document 01, 'Hello', 'Alignment', 'Updates').
-- Assumes nothing.
use Rattle.std.specs.Prelude.{ℕ, Bool, List, [], ◌∷◌, map}
use Rattle.laws.specs.Choice.{pick}
use Rattle.laws.specs.Lists.{is_empty}
use Rattle.laws.specs.Tables.{has, same}
use Rattle.protocol.specs.Messages.{CsaRecord, summary_of, Message, Body, ca, csu_request, csu_reply, csus, hello}
use Rattle.rules.specs.Server.{Settings, Row, Request, Slot}
use Rattle.rules.specs.Links.{hello_move, malformed_move}
use Rattle.rules.specs.Updates.{Updated, all_updated, all_replied, all_solicited, all_answers_wait}
use Rattle.rules.specs.Slots.{to_peer, moved, with_kept, with_requests, completed}
use Rattle.rules.specs.Sent.{Sent, nothing, new_packet}
use Rattle.rules.specs.Alignment.{ca_packet, rule_for, ca_sent_by, ca_slot}

-- 'if any receiver is us'
abbrev pub names_us : List ℕ → List ℕ → List (List ℕ) → Bool
names_us id receiver ids = has (same id) (receiver ∷ ids)

-- the records of a CSU Request, over the rows and requests as they are
abbrev pub updated_by : (ℕ → Bool) → ℕ → List CsaRecord → List Row → List Request → Updated
updated_by live k rs rows qs = all_updated live k rs (record { rows = rows; requests = qs; replies = [] })

-- a packet with some records, 'with none, nothing is written'
abbrev pub unless_empty : Settings → Slot → (List CsaRecord → Body) → List CsaRecord → Sent
unless_empty s x b rs = pick (is_empty rs) nothing (new_packet (to_peer s x (b rs)))

-- ---- the slot
abbrev pub slot_on : Body → Settings → (ℕ → Bool) → ℕ → ℕ → List Row → Message → Slot → Slot
slot_on (hello i f ids) s live k now rows m x = moved (hello_move now i f (names_us s.id m.receiver ids) x.link) x
slot_on (ca n f rs) s live k now rows m x =
    ca_slot (rule_for s.id (ca_packet n f rs m.sender) x) s now rows (ca_packet n f rs m.sender) x
slot_on (csu_request rs) s live k now rows m x =
    completed (with_requests (updated_by live k rs rows x.requests).requests x.missed x)
slot_on (csu_reply rs) s live k now rows m x = x
-- 'the slave at a CSUS' drops its kept CA
slot_on (csus rs) s live k now rows m x = with_kept [] x

-- 'A Hello refused with 10 .. moves its machine to Waiting, with what follows from that'
abbrev pub slot_malformed : Slot → Slot
slot_malformed x = moved (malformed_move x.link) x

-- ---- the rows
abbrev pub rows_on : Body → (ℕ → Bool) → ℕ → List Row → List Row
rows_on (hello i f ids) live k rows = rows
rows_on (ca n f rs) live k rows = rows
rows_on (csu_request rs) live k rows = (updated_by live k rs rows []).rows
rows_on (csu_reply rs) live k rows = all_replied k rs rows
rows_on (csus rs) live k rows = all_answers_wait k rs rows

-- ---- what is written
abbrev pub sent_on : Body → Settings → (ℕ → Bool) → ℕ → List Row → Message → Slot → Sent
sent_on (hello i f ids) s live k rows m x = nothing
sent_on (ca n f rs) s live k rows m x =
    ca_sent_by (rule_for s.id (ca_packet n f rs m.sender) x) s rows (ca_packet n f rs m.sender) x
-- 'The CSU Reply lists the acknowledged records in order, N clear'
sent_on (csu_request rs) s live k rows m x = unless_empty s x csu_reply (map summary_of (updated_by live k rs rows []).replies)
sent_on (csu_reply rs) s live k rows m x = nothing
-- 'A CSUS is answered with a CSU Request'
sent_on (csus rs) s live k rows m x = unless_empty s x csu_request (all_solicited rows rs)
