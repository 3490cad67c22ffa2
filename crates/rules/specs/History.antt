-- The history of demand 3 (document 01, 'Updates'): it 'starts with the settings and nothing else, and is fed only each event's arguments,
-- code and octets written'. No server is in sight.
-- Assumes nothing.
use Rattle.std.specs.Prelude.{ℕ, suc, ◌-◌, Bool, true, false, not, ◌&&◌, ◌||◌, List, [], ◌∷◌, map, eqb, ltb, length, replicate}
use Rattle.laws.specs.Choice.{pick}
use Rattle.laws.specs.Tables.{on, has, update, without}
use Rattle.protocol.specs.declared.Alignment.{Alignment}
use Rattle.protocol.specs.declared.Alignment.TheVariants.{Down, Negotiate, Summarize, Update, Aligned}
use Rattle.protocol.specs.Sizes.{id_length}
use Rattle.protocol.specs.Numbers.{newer, next_csa, first_number, purged}
use Rattle.protocol.specs.Messages.{CsaRecord, Body, ca, csu_request, csu_reply, csus, hello}
use Rattle.protocol.specs.Reading.{Reading, refused, malformed, message, read_packet}
use Rattle.rules.specs.Server.{slots_most, rows_most, Settings, Entry, same_entry, Value}
use Rattle.rules.specs.Links.{enters}
use Rattle.rules.specs.Rows.{is_purged, any_slot}
use Rattle.rules.specs.Requests.{entry_of}
use Rattle.rules.specs.Updates.{hops_most, value, stepped, value_of}
use Rattle.rules.specs.Refusals.{own_entry}
use Rattle.rules.specs.Events.{Event, add_peer, link_up, link_down, packet, poll, set, withdraw, purge, counts, Place, in_slot, nowhere, place_of, Item}
use Rattle.rules.specs.SlotHistory.{SlotHistory, unused_slot, is_request_type, slot_histories_after, state_at, live_states}

-- ---- what is known of an entry that has a row
-- 'our changes and the taken update records for it, null records apart, since it got the row', in order
pub data Arrivals : Type 0 where
  first : Value → Arrivals
  then : Arrivals → Value → Arrivals

-- 'it holds what came first with the largest number'
abbrev pub held : Arrivals → Value
held (first v) = v
held (then vs v) = pick (newer v.number (held vs).number) v (held vs)

pub data Act : Type 0 where
  put : Act
  take : Act

-- 'An entry waits for a slot when its last put there has no take after it'; the acts at a slot stand latest first
abbrev pub waiting : List Act → Bool
waiting [] = false
waiting (put ∷ more) = true
waiting (take ∷ more) = false

pub record Known : Type 0 where
  pub entry : Entry
  pub arrivals : Arrivals
  pub acts : ℕ → List Act

abbrev pub known : Entry → Arrivals → (ℕ → List Act) → Known
known e vs acts = record { entry = e; arrivals = vs; acts = acts }

abbrev pub now_held : Known → Value
now_held x = held x.arrivals

abbrev pub waits_at : (ℕ → List Act) → ℕ → Bool
waits_at acts k = waiting (acts k)

-- the slots as they moved, the entries that have rows, and the update requests written at polls of each slot since it last entered Negotiate
-- (document 02, L1)
pub record History : Type 0 where
  pub slots : List SlotHistory
  pub entries : List Known
  pub updates : ℕ → ℕ

-- ---- puts and takes
abbrev pub act : ℕ → Act → (ℕ → List Act) → ℕ → List Act
act k a acts = on k (a ∷ acts k) acts

abbrev pub no_acts : ℕ → List Act
no_acts j = []

-- 'a change of ours' is a put at each slot in Summarize, Update or Aligned
abbrev pub own_acts : (ℕ → Bool) → (ℕ → List Act) → ℕ → List Act
own_acts live acts j = pick (live j) (put ∷ acts j) (acts j)

-- a change 'stored from another slot .. with remaining 1 or more' is a put; 'an equal or newer record from it', and 'any change stored
-- with remaining 0', is a take
abbrev pub stored_acts : (ℕ → Bool) → ℕ → ℕ → (ℕ → List Act) → ℕ → List Act
stored_acts live k remaining acts j =
    pick (ltb 0 remaining && (live j && not (eqb j k))) (put ∷ acts j)
    (pick (not (ltb 0 remaining) || eqb j k) (take ∷ acts j) (acts j))

-- ---- tests of an entry
abbrev pub is_of : Entry → Known → Bool
is_of e x = same_entry x.entry e

-- it is the entry e, and waits for slot k
abbrev pub entry_waits : ℕ → Entry → Known → Bool
entry_waits k e x = same_entry x.entry e && waits_at x.acts k

-- purged, and waits for nobody
abbrev pub is_done : Known → Bool
is_done x = is_purged (now_held x).number && not (any_slot (waits_at x.acts))

-- ---- the records of a CSU Request
-- an entry gets a row while fewer than 64 are held
abbrev pub admit : Known → List Known → List Known
admit x es = pick (ltb (length es) rows_most) (x ∷ es) es

abbrev pub opened : (ℕ → Bool) → ℕ → CsaRecord → Known
opened live k r = known (entry_of r) (first (value_of r)) (stored_acts live k (r.hops - 1) no_acts)

-- a newer record is stored; 'an older record from this slot, with remaining 1 or more' is a put; an equal one a take
abbrev pub arrived : (ℕ → Bool) → ℕ → CsaRecord → Known → Known
arrived live k r x =
    known x.entry (then x.arrivals (value_of r))
    (pick (newer r.number (now_held x).number) (stored_acts live k (r.hops - 1) x.acts)
    (pick (newer (now_held x).number r.number) (pick (ltb 0 (now_held x).remaining) (act k put x.acts) x.acts)
    (act k take x.acts)))

-- 'A null record (N set) is neither held, put nor take'; a purge of an absent entry gets no row
abbrev pub noted : (ℕ → Bool) → ℕ → CsaRecord → List Known → List Known
noted live k r es =
    pick r.null es
    (pick (has (is_of (entry_of r)) es) (update (is_of (entry_of r)) (arrived live k r) es)
    (pick (is_purged r.number) es (admit (opened live k r) es)))

abbrev pub all_noted : (ℕ → Bool) → ℕ → List CsaRecord → List Known → List Known
all_noted live k [] es = es
all_noted live k (r ∷ rs) es = all_noted live k rs (noted live k r es)

-- each record in order acts on its entry
abbrev pub each_known : (CsaRecord → Known → Known) → List CsaRecord → List Known → List Known
each_known f [] es = es
each_known f (r ∷ rs) es = each_known f rs (update (is_of (entry_of r)) (f r) es)

-- ---- the records of a CSU Reply: 'a reply from it with the held number' is a take
abbrev pub answered : ℕ → CsaRecord → Known → Known
answered k r x =
    known x.entry x.arrivals
    (pick (newer r.number (now_held x).number) x.acts
    (pick (newer (now_held x).number r.number) x.acts (act k take x.acts)))

abbrev pub all_answered : ℕ → List CsaRecord → List Known → List Known
all_answered k rs es = each_known (answered k) rs es

-- ---- the records of a CSUS: what is held is sent unless it is older than what was asked for, and that is a put if 'its remaining hops are
-- 1 or more' (document 02, L2)
abbrev pub sent_for : ℕ → CsaRecord → Known → Known
sent_for k r x =
    known x.entry x.arrivals
    (pick (newer r.number (now_held x).number) x.acts
    (pick (ltb 0 (now_held x).remaining) (act k put x.acts) x.acts))

abbrev pub all_sent_for : ℕ → List CsaRecord → List Known → List Known
all_sent_for k rs es = each_known (sent_for k) rs es

-- ---- changes of ours
abbrev pub changed : (ℕ → Bool) → List ℕ → Known → Known
changed live payload x =
    known x.entry (then x.arrivals (value (stepped (now_held x).number (next_csa (now_held x).number)) payload hops_most))
    (own_acts live x.acts)

abbrev pub created : (ℕ → Bool) → Entry → List ℕ → Known
created live e payload = known e (first (value first_number payload hops_most)) (own_acts live no_acts)

abbrev pub purging : (ℕ → Bool) → Known → Known
purging live x = known x.entry (then x.arrivals (value purged [] hops_most)) (own_acts live x.acts)

-- ---- 'entering Down or Negotiate' is a take of every entry
abbrev pub left : ℕ → Known → Known
left k x = known x.entry x.arrivals (act k take x.acts)

abbrev pub left_if : Bool → ℕ → List Known → List Known
left_if true k es = map (left k) es
left_if false k es = es

-- ---- the entries
abbrev pub body_entries : Body → (ℕ → Bool) → ℕ → List Known → List Known
body_entries (hello i f ids) live k es = es
body_entries (ca n f rs) live k es = es
body_entries (csu_request rs) live k es = all_noted live k rs es
body_entries (csu_reply rs) live k es = all_answered k rs es
body_entries (csus rs) live k es = all_sent_for k rs es

abbrev pub read_entries : Reading → (ℕ → Bool) → ℕ → List Known → List Known
read_entries (refused c) live k es = es
read_entries (malformed at) live k es = es
read_entries (message m) live k es = body_entries m.body live k es

abbrev pub entries_changed : Event → Settings → (ℕ → Bool) → List Known → List Known
entries_changed (add_peer k id) s live es = es
entries_changed (link_up k now) s live es = es
entries_changed (link_down k now) s live es = es
entries_changed (packet k now p room) s live es = read_entries (read_packet id_length p) live k es
entries_changed (poll k now room) s live es = es
entries_changed (set key payload) s live es =
    pick (has (is_of (own_entry s key)) es) (update (is_of (own_entry s key)) (changed live payload) es)
    (admit (created live (own_entry s key) payload) es)
entries_changed (withdraw key) s live es = update (is_of (own_entry s key)) (changed live []) es
entries_changed (purge key) s live es = update (is_of (own_entry s key)) (purging live) es

abbrev pub entries_left : Place → List SlotHistory → List SlotHistory → List Known → List Known
entries_left (in_slot k) before after es = left_if (enters (state_at before k) (state_at after k)) k es
entries_left nowhere before after es = es

-- ---- 'how many requests written at polls the slot's history holds since it last entered Negotiate' (document 02, L1)
abbrev pub is_negotiate : Alignment → Bool
is_negotiate Down = false
is_negotiate Negotiate = true
is_negotiate (Summarize r) = false
is_negotiate Update = false
is_negotiate Aligned = false

abbrev pub since_in : Alignment → Alignment → ℕ → ℕ
since_in before after n = pick (enters before after && is_negotiate after) 0 n

abbrev pub updates_since : ℕ → List SlotHistory → List SlotHistory → (ℕ → ℕ) → ℕ
updates_since k before after n = since_in (state_at before k) (state_at after k) (n k)

-- a slot that gets a peer has none
abbrev pub updates_after : Event → List ℕ → List SlotHistory → List SlotHistory → (ℕ → ℕ) → ℕ → ℕ
updates_after (add_peer k id) written before after n = on k 0 n
updates_after (link_up k now) written before after n = on k (updates_since k before after n) n
updates_after (link_down k now) written before after n = on k (updates_since k before after n) n
updates_after (packet k now p room) written before after n = on k (updates_since k before after n) n
updates_after (poll k now room) written before after n =
    on k (pick (is_request_type written) (suc (updates_since k before after n)) (updates_since k before after n)) n
updates_after (set key payload) written before after n = n
updates_after (withdraw key) written before after n = n
updates_after (purge key) written before after n = n

-- ---- one more item: 'Refused events add nothing, the malformed Hello apart'
abbrev pub slots_at : Settings → History → Item → List SlotHistory
slots_at s h i = slot_histories_after (place_of i.event) i.event s i.written h.slots

-- the entries at the event's end, before purged ones that wait for nobody lose their rows
abbrev pub entries_at : Settings → History → Item → List Known
entries_at s h i = entries_left (place_of i.event) h.slots (slots_at s h i) (entries_changed i.event s (live_states h.slots) h.entries)

abbrev pub note_item : Settings → History → Item → History
note_item s h i = record {
  slots = slots_at s h i;
  entries = without is_done (entries_at s h i);
  updates = updates_after i.event i.written h.slots (slots_at s h i) h.updates;
}

abbrev pub add_if : Bool → Settings → History → Item → History
add_if true s h i = note_item s h i
add_if false s h i = h

unfoldable pub add : Settings → History → Item → History
add s h i = add_if (counts i.event i.code) s h i

abbrev pub history_from : Settings → History → List Item → History
history_from s h [] = h
history_from s h (i ∷ is) = history_from s (add s h i) is

abbrev pub no_history : History
no_history = record { slots = replicate slots_most unused_slot; entries = []; updates = λ _. 0 }

abbrev pub history : Settings → List Item → History
history s is = history_from s no_history is
