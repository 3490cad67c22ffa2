-- Demand 3 of the order: what is claimed of every list of events from a fresh server.
-- Assumes nothing.
use Rattle.std.specs.Prelude.{ℕ, ◌≤◌, ◌≡◌, Bool, true, false, ◌&&◌, ◌||◌, List, [], ◌∷◌, map, eqb, ltb, ℤ, pos, ◌≤ℤ◌}
use Rattle.laws.specs.Choice.{pick}
use Rattle.laws.specs.Lists.{All}
use Rattle.laws.specs.Tables.{has, without, count, Perm, In}
use Rattle.protocol.specs.Sizes.{id_length}
use Rattle.protocol.specs.Fields.{field2}
use Rattle.protocol.specs.Messages.{CsaRecord}
use Rattle.protocol.specs.Reading.{records_at}
use Rattle.rules.specs.Server.{Settings, Entry, same_entry, Row, free, used, is_free, holds, Server, slot_at, row_at}
use Rattle.rules.specs.Server as server
use Rattle.rules.specs.Rows.{to_free}
use Rattle.rules.specs.Requests.{entry_of}
use Rattle.rules.specs.Updates.{record_of}
use Rattle.rules.specs.Events.{Event, add_peer, link_up, link_down, packet, poll, set, withdraw, purge, counts, step, Item, item_of, run, items}
use Rattle.rules.specs.SlotHistory.{is_request_type}
use Rattle.rules.specs.History.{Known, now_held, waits_at, is_of, entry_waits, is_done, History, entries_at, add}

-- the row of an entry: as it is held, and waiting where it waits
abbrev pub row_of : Known → Row
row_of x = used x.entry (now_held x) (waits_at x.acts)

-- 'none of them twice'
abbrev pub Once : List Row → Type 0
Once rows = (e : Entry) (i j : ℕ) → holds e (row_at rows i) ≡ true → holds e (row_at rows j) ≡ true → i ≡ j

-- ---- 'Until its purge frees the row, an entry's number never falls'
-- the entry has a row in the history, and after each of the items
abbrev pub HasRowThrough : Settings → Entry → History → List Item → Type 0
HasRowThrough s e h [] = has (is_of e) h.entries ≡ true
HasRowThrough s e h (i ∷ is) = (has (is_of e) h.entries ≡ true) × HasRowThrough s e (add s h i) is

-- a free row has no number
abbrev pub row_number : Row → ℤ
row_number free = pos 0
row_number (used e v m) = v.number.0

-- the entry is in this row, with a number no smaller than that of the row before
pub record InRow (e : Entry) (before after : Row) : Type 0 where
  pub there : holds e after ≡ true
  pub not_less : row_number before ≤ℤ row_number after

-- at the end of an item that counts, the entry is purged and waits for nobody
abbrev pub freed_at : Settings → Entry → History → Item → Bool
freed_at s e h i = counts i.event i.code && has (λ x. is_of e x && is_done x) (entries_at s h i)

abbrev pub freed_in : Settings → Entry → History → List Item → Bool
freed_in s e h [] = false
freed_in s e h (i ∷ is) = freed_at s e h i || freed_in s e (add s h i) is

-- the row holds the entry, and it waits for slot k
abbrev pub row_waits : ℕ → Entry → Row → Bool
row_waits k e r = holds e r && server.waits_for k r

-- ---- update requests written at polls
-- an event is a poll of slot k
abbrev pub is_poll_of : ℕ → Event → Bool
is_poll_of k (add_peer j id) = false
is_poll_of k (link_up j now) = false
is_poll_of k (link_down j now) = false
is_poll_of k (packet j now p room) = false
is_poll_of k (poll j now room) = eqb j k
is_poll_of k (set key payload) = false
is_poll_of k (withdraw key) = false
is_poll_of k (purge key) = false

-- the records of a CSU Request, of type 2
abbrev pub request_records : List ℕ → List CsaRecord
request_records p = pick (is_request_type p) (records_at id_length p (field2 p 18) 28) []

-- an update request written at a poll of slot k
abbrev pub is_update_to : ℕ → Item → Bool
is_update_to k i = is_poll_of k i.event && is_request_type i.written

-- it has a record of the entry
abbrev pub is_update_of : ℕ → Entry → Item → Bool
is_update_of k e i = is_update_to k i && has (λ r. same_entry (entry_of r) e) (request_records i.written)

-- 'a waiting entry as it is then held', hop count what remains
pub record HeldAndWaiting (k : ℕ) (es : List Known) (r : CsaRecord) : Type 0 where
  pub who : Known
  pub listed : In who es
  pub held : r ≡ record_of (now_held who).remaining who.entry (now_held who)
  pub waits : waits_at who.acts k ≡ true

-- the entry waits for slot k in the history, and after each of the items
abbrev pub WaitsThrough : Settings → ℕ → Entry → History → List Item → Type 0
WaitsThrough s k e h [] = has (entry_waits k e) h.entries ≡ true
WaitsThrough s k e h (i ∷ is) = (has (entry_waits k e) h.entries ≡ true) × WaitsThrough s k e (add s h i) is

-- a number 'up to 65535'
abbrev pub cut_off : ℕ → ℕ
cut_off n = pick (ltb n 65535) n 65535

-- ---- the claims, of a server and the history of the events that led to it
pub record Demand3 (c : Settings) (s : Server) (h : History) : Type 0 where
  -- 'After the list the server holds exactly the entries of the history', each with number, payload and remaining hops as held
  pub entries : Perm (without is_free s.rows) (map row_of h.entries)
  -- 'none of them twice'
  pub once : Once s.rows
  -- 'Until its purge frees the row, an entry's number never falls': while it has a row, it is in the same one, with a number no smaller
  pub never_falls : (e : Entry) (i : ℕ) (es : List Event) → holds e (row_at s.rows i) ≡ true → HasRowThrough c e h (items s es)
      → InRow e (row_at s.rows i) (row_at (run s es).rows i)
  -- and it loses that row only at an event's end where it is purged and waits for nobody
  pub keeps_row : (e : Entry) (i : ℕ) (es : List Event) → holds e (row_at s.rows i) ≡ true → freed_in c e h (items s es) ≡ false
      → holds e (row_at (run s es).rows i) ≡ true
  -- 'A purged row that waits for nobody at the end of an event is freed'
  pub freed : (i : ℕ) → to_free (row_at s.rows i) ≡ false
  -- 'An entry waits to be sent to a peer exactly when the history's puts and takes say so'
  pub waits : (k : ℕ) (e : Entry) → has (row_waits k e) s.rows ≡ has (entry_waits k e) h.entries
  -- 'Each record of an update request written at a poll is a waiting entry as it is then held'
  pub sent : (k now room : ℕ) → All (HeldAndWaiting k h.entries) (request_records (item_of s (poll k now room)).written)
  -- 'An entry that waits for a peer all through any 16 such requests to it, one after another, is in one of them'
  pub fair : (k : ℕ) (e : Entry) (es : List Event) → WaitsThrough c k e h (items s es) → 16 ≤ count (is_update_to k) (items s es)
      → has (is_update_of k e) (items s es) ≡ true
  -- document 02, L1: 'how many requests written at polls the slot's history holds since it last entered Negotiate, up to 65535'
  pub updates : (k : ℕ) → (slot_at s k).updates ≡ cut_off (h.updates k)
  -- 'Whatever a packet in one peer's slot holds, it changes nothing that the server keeps for any other slot but what waits there'
  pub others : (k now : ℕ) (p : List ℕ) (room j : ℕ) → (j ≡ k → ⊥) → slot_at (step s (packet k now p room)) j ≡ slot_at s j
