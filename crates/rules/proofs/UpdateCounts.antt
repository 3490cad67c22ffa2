-- The update requests that a slot counts are those of the history, up to 65535 (document 02, L1).
-- Into Negotiate the count is emptied and every other move leaves it, a poll that writes an update request adds one; the history does so too, and
-- each of these steps may as well be done before a number is cut off as after.
-- Assumes nothing.
use Prim.Native.Nat.{ℕ, suc, ◌≤◌, ◌<◌}
use mathlib.Core.Path.{◌≡◌, refl, sym, ap, ◌∙◌}
use mathlib.Core.Bool.{Bool, true, false, ◌&&◌}
use mathlib.Core.Logic.{⊎_elim}
use mathlib.Core.List.{List, [], map}
use native.Mathlib.Decide.{ℕ_discrete}
use native.Mathlib.Omega.{arith}
use lib.Dec.{ltb}
use lib.Seq.{get_or-set_same, get_or-set_other}
use lib.ListN.{get_or, take}
use lib.ListN as lists
use borrow.Author.Tests.{eqb-true, ltb-true, ltb-false, le-ltb}
use Rattle.laws.specs.Choice.{pick}
use Rattle.laws.specs.Tables.{on}
use Rattle.laws.proofs.Bools.{pick_of}
use Rattle.laws.proofs.Cells.{set_here, within}
use Rattle.laws.proofs.Tables.{on_here, on_other}
use Rattle.protocol.specs.declared.Alignment.{Alignment}
use Rattle.protocol.specs.declared.Alignment.TheVariants.{Down, Negotiate, Summarize, Update, Aligned}
use Rattle.protocol.specs.declared.Link.{Link}
use Rattle.std.specs.Prelude.{None}
use Rattle.protocol.specs.Sizes.{id_length}
use Rattle.protocol.specs.Numbers.{one_more}
use Rattle.protocol.specs.Messages.{Message, Body, ca, csu_request, csu_reply, csus, hello}
use Rattle.protocol.specs.Reading.{Reading, refused, malformed, message, read_packet}
use Rattle.rules.specs.Server.{Settings, Row, Slot, fresh_slot, Server, slot_at}
use Rattle.rules.specs.Links.{is_down, is_past, enters, up_move, down_move, hello_move, malformed_move, check_move, CaRule, refuse_ca, become_slave}
use Rattle.rules.specs.Links.{become_master, repeat, slave_on, master_on, master_done, ignore, restart, ca_move}
use Rattle.rules.specs.Rows.{next_waiting, rows_of}
use Rattle.rules.specs.Slots.{moved, emptied, with_link, with_kept, with_requests, hello_sent, passed, completed, updates_in}
use Rattle.rules.specs.Sent.{octets_of}
use Rattle.rules.specs.Alignment.{CaPacket, ca_packet, rule_for, ca_slot, taking, answering, answer_more}
use Rattle.rules.specs.Packets.{slot_on, names_us, updated_by}
use Rattle.rules.specs.Poll.{Due, nothing_due, a_hello, first_ca, kept_ca, a_csus, an_update, ca_interval, first_flags, request_record, held_record, due_slot}
use Rattle.rules.specs.Poll.{due_of, due_sent, kept_dropped, checked, poll_slot, poll_sent}
use Rattle.rules.specs.Events.{Event, add_peer, link_up, link_down, packet, poll, set, withdraw, purge, counts, code_of, place_of, live_in, read_slot}
use Rattle.rules.specs.Events.{peer_slot, slot_after, slots_after, sent_by, acted, written_at}
use Rattle.rules.specs.SlotHistory.{SlotHistory, is_request_type, state_at}
use Rattle.rules.specs.History.{History, is_negotiate, since_in, updates_after}
use Rattle.rules.specs.Demand3.{cut_off}
use Rattle.rules.proofs.Relation.{past_as, seen_of}
use Rattle.rules.proofs.RequestBack.{is_request, not_hello, not_ca, not_csus}
use Rattle.rules.proofs.PastLaws.{enters_past, enters_same, moved_link, completed_link, state_at_lem}
use Rattle.rules.proofs.CodeTold.{link_in_use, poll_in_use, packet_in_use}
use Rattle.rules.proofs.Kept.{KeepsCa, KeptCa, no_request_lem, kept_checked}
use Rattle.rules.proofs.SlotSim.{wrote_as}
use Rattle.rules.proofs.Others.{slots_acted}

-- ---- numbers cut off
one_cut : (n : ℕ) → one_more (cut_off n) ≡ cut_off (suc n)
one_cut n = by (ltb n 65535) refl where
  last : n < 65535 → (b : Bool) → ltb (suc n) 65535 ≡ b → suc n ≡ pick b (suc n) 65535
  last g true e = refl
  last g false e = let h : 65535 ≤ suc n = ltb-false (suc n) 65535 e in omega arith

  by : (b : Bool) → ltb n 65535 ≡ b → one_more (cut_off n) ≡ cut_off (suc n)
  by true e = rw e (rw e (last (ltb-true n 65535 e) (ltb (suc n) 65535) refl))
  by false e = let h : 65535 ≤ n = ltb-false n 65535 e in rw (e, le-ltb (suc n) 65535 (omega arith)) refl

since_cut : (a b : Alignment) (n : ℕ) → since_in a b (cut_off n) ≡ cut_off (since_in a b n)
since_cut a b n = by (enters a b && is_negotiate b) where
  by : (e : Bool) → pick e 0 (cut_off n) ≡ cut_off (pick e 0 n)
  by true = refl
  by false = refl

-- ---- the count does not tell Aligned from Update
negotiate_past : (a : Alignment) → is_negotiate (past_as a) ≡ is_negotiate a
negotiate_past Down = refl
negotiate_past Negotiate = refl
negotiate_past (Summarize r) = refl
negotiate_past Update = refl
negotiate_past Aligned = refl

since_past : (a b : Alignment) (n : ℕ) → since_in (past_as a) (past_as b) n ≡ since_in a b n
since_past a b n = λ i. pick (enters_past a b i && negotiate_past b i) 0 n

-- ---- a slot that moves
abbrev Counts : Slot → Slot → Type 0
Counts x y = y.updates ≡ since_in (past_as x.link.alignment) (past_as y.link.alignment) x.updates

counts_still : (x : Slot) → Counts x x
counts_still x = rw (enters_same (past_as x.link.alignment)) refl

updates_as : (a : Alignment) (n : ℕ) → updates_in a n ≡ pick (is_negotiate a) 0 n
updates_as Down n = refl
updates_as Negotiate n = refl
updates_as (Summarize r) n = refl
updates_as Update n = refl
updates_as Aligned n = refl

moved_updates : (l : Link) (x : Slot) → (moved l x).updates ≡ since_in x.link.alignment l.alignment x.updates
moved_updates l x = by (enters x.link.alignment l.alignment) where
  by : (b : Bool) → (pick b (emptied (with_link l x)) (with_link l x)).updates ≡ pick (b && is_negotiate l.alignment) 0 x.updates
  by true = updates_as l.alignment x.updates
  by false = refl

counts_moved : (l : Link) (x : Slot) → Counts x (moved l x)
counts_moved l x =
    moved_updates l x ∙ sym (since_past x.link.alignment l.alignment x.updates)
    ∙ ap (λ (m : Link). since_in (past_as x.link.alignment) (past_as m.alignment) x.updates) (sym (moved_link l x))

counts_as_lem : (l : Link) (x y : Slot) → y.link ≡ (moved l x).link → y.updates ≡ (moved l x).updates → Counts x y
counts_as_lem l x y a b =
    b ∙ counts_moved l x ∙ ap (λ (m : Link). since_in (past_as x.link.alignment) (past_as m.alignment) x.updates) (sym a)

counts_completed : (x y : Slot) → Counts x y → Counts x (completed y)
counts_completed x y g = g ∙ ap (λ (m : Link). since_in (past_as x.link.alignment) m.alignment x.updates) (sym (completed_link y))

-- ---- a packet
module _ (s : Settings) (now : ℕ) (rows : List Row) (c : CaPacket) (x : Slot) where
  abbrev link_by_lem : CaRule → Link
  link_by_lem u = ca_move u c.seen (answer_more u rows x) x.link

  counts_answer : (u : CaRule) → (answering u s now rows c x).link ≡ (moved (link_by_lem u) x).link
      → (answering u s now rows c x).updates ≡ (moved (link_by_lem u) x).updates → Counts x (completed (answering u s now rows c x))
  counts_answer u a b = counts_completed x (answering u s now rows c x) (counts_as_lem (link_by_lem u) x (answering u s now rows c x) a b)

  counts_ca : (u : CaRule) → Counts x (ca_slot u s now rows c x)
  counts_ca refuse_ca = counts_still x
  counts_ca become_slave = counts_answer become_slave refl refl
  counts_ca become_master = counts_answer become_master refl refl
  counts_ca repeat = counts_still x
  counts_ca slave_on = counts_answer slave_on refl refl
  counts_ca master_on = counts_answer master_on refl refl
  counts_ca master_done =
      let y = with_kept [] (taking master_done rows c x) in
      counts_completed x y (counts_as_lem (link_by_lem master_done) x y refl refl)
  counts_ca ignore = counts_still x
  counts_ca restart = counts_moved (ca_move restart c.seen false x.link) x

module _ (s : Settings) (live : ℕ → Bool) (k now : ℕ) (rows : List Row) (x : Slot) where
  counts_body : (m : Message) (b : Body) → Counts x (slot_on b s live k now rows m x)
  counts_body m (hello i f ids) = counts_moved (hello_move now i f (names_us s.id m.receiver ids) x.link) x
  counts_body m (ca n f rs) = counts_ca s now rows (ca_packet n f rs m.sender) x (rule_for s.id (ca_packet n f rs m.sender) x)
  counts_body m (csu_request rs) =
      counts_completed x (with_requests (updated_by live k rs rows x.requests).requests x.missed x) (counts_still x)
  counts_body m (csu_reply rs) = counts_still x
  counts_body m (csus rs) = counts_still x

  counts_read : (r : Reading) → Counts x (read_slot r s live k now rows x)
  counts_read (refused c) = counts_still x
  counts_read (malformed at) = counts_moved (malformed_move x.link) x
  counts_read (message m) = counts_body m m.body

-- ---- a poll
counts_checked : (now : ℕ) (x : Slot) → Counts x (kept_dropped now (checked now x))
counts_checked now x =
    let y = checked now x in
    let g = counts_moved (check_move now x.link) x in
    pick_of (Counts x) (is_past y.link.alignment && passed ca_interval y.timers.ca now) (with_kept [] y) y g g

abbrev pub is_update : Due → Bool
is_update nothing_due = false
is_update a_hello = false
is_update first_ca = false
is_update kept_ca = false
is_update a_csus = false
is_update an_update = true

-- one more where w is an update request
abbrev plus : List ℕ → ℕ → ℕ
plus w n = pick (is_request_type w) (one_more n) n

module _ (s : Settings) (now : ℕ) (rows : List Row) (k : ℕ) where
  -- what is due is a CSU Request exactly where it is an update request
  pub due_type : (y : Slot) → KeepsCa y → (d : Due) → is_request_type (octets_of (due_sent d s rows k y)) ≡ is_update d
  due_type y p nothing_due = refl
  due_type y p a_hello = not_hello s y
  due_type y p first_ca = not_ca s y y.link.number first_flags []
  due_type y p kept_ca = no_request_lem y.link.alignment y.kept p
  due_type y p a_csus = not_csus s y (map request_record (take 4 y.requests))
  due_type y p an_update = is_request s y (rows_of held_record rows (next_waiting rows k y.cursor))

  due_updates : (y : Slot) (d : Due) → (due_slot d s now rows k y).updates ≡ pick (is_update d) (one_more y.updates) y.updates
  due_updates y nothing_due = refl
  due_updates y a_hello = refl
  due_updates y first_ca = refl
  due_updates y kept_ca = refl
  due_updates y a_csus = refl
  due_updates y an_update = refl

  counts_due : (y : Slot) → KeepsCa y → (d : Due) → (due_slot d s now rows k y).updates ≡ plus (octets_of (due_sent d s rows k y)) y.updates
  counts_due y p d = due_updates y d ∙ ap (λ (b : Bool). pick b (one_more y.updates) y.updates) (sym (due_type y p d))

  pub due_link : (y : Slot) (d : Due) → (due_slot d s now rows k y).link ≡ y.link
  due_link y nothing_due = refl
  due_link y a_hello = refl
  due_link y first_ca = refl
  due_link y kept_ca = refl
  due_link y a_csus = refl
  due_link y an_update = refl

  counts_poll : (x : Slot) → KeepsCa x → (poll_slot s now rows k x).updates
      ≡ plus (octets_of (poll_sent s now rows k x))
      (since_in (past_as x.link.alignment) (past_as (poll_slot s now rows k x).link.alignment) x.updates)
  counts_poll x p =
      let y = kept_dropped now (checked now x) in
      let d = due_of s now rows k y in
      counts_due y (kept_checked now x p) d
      ∙ ap (plus (octets_of (due_sent d s rows k y)))
      (counts_checked now x ∙ ap (λ (l : Link). since_in (past_as x.link.alignment) (past_as l.alignment) x.updates) (sym (due_link y d)))

-- ---- the slots
-- a slot in use is there to be set
pub used_here : (y : Slot) (l : List Slot) (k : ℕ) → (get_or l k fresh_slot).used ≡ true → get_or (lists.set l k y) k fresh_slot ≡ y
used_here y l k h = get_or-set_same l k y fresh_slot (within fresh_slot (λ (x : Slot). x.used) refl l k h)

module _ (s : Server) (n : ℕ → ℕ) (same : (k : ℕ) → (slot_at s k).updates ≡ cut_off (n k)) where
  set_counts : (k m : ℕ) (y : Slot) → (get_or (lists.set s.slots k y) k fresh_slot).updates ≡ cut_off m
      → (j : ℕ) → (get_or (lists.set s.slots k y) j fresh_slot).updates ≡ cut_off (on k m n j)
  set_counts k m y h j = by (ℕ_discrete j k) where
    by : Dec (j ≡ k) → (get_or (lists.set s.slots k y) j fresh_slot).updates ≡ cut_off (on k m n j)
    by (yes z) = rw z (h ∙ ap cut_off (sym (on_here k m n)))
    by (no z) =
        ap (λ (x : Slot). x.updates) (get_or-set_other s.slots k j y fresh_slot z) ∙ same j ∙ ap cut_off (sym (on_other k m n j z))

  -- the history's number for slot k, once y is there
  abbrev since : ℕ → Slot → ℕ
  since k y = since_in (state_at (map seen_of s.slots) k) (state_at (map seen_of (lists.set s.slots k y)) k) (n k)

  since_seen : (k : ℕ) (y : Slot) → (slot_at s k).used ≡ true
      → since_in (past_as (slot_at s k).link.alignment) (past_as y.link.alignment) (slot_at s k).updates ≡ cut_off (since k y)
  since_seen k y u =
      let a = past_as (slot_at s k).link.alignment in
      let b = past_as y.link.alignment in
      let there : state_at (map seen_of (lists.set s.slots k y)) k ≡ b =
      state_at_lem (lists.set s.slots k y) k ∙ ap (λ (x : Slot). past_as x.link.alignment) (used_here y s.slots k u) in
      ap (since_in a b) (same k) ∙ since_cut a b (n k) ∙ (λ i. cut_off (since_in (sym (state_at_lem s.slots k) i) (sym there i) (n k)))

  quiet_counts : (k : ℕ) (y : Slot) → (slot_at s k).used ≡ true → Counts (slot_at s k) y
      → (get_or (lists.set s.slots k y) k fresh_slot).updates ≡ cut_off (since k y)
  quiet_counts k y u g = ap (λ (x : Slot). x.updates) (used_here y s.slots k u) ∙ g ∙ since_seen k y u

  plus_cut : (w : List ℕ) (m : ℕ) → plus w (cut_off m) ≡ cut_off (pick (is_request_type w) (suc m) m)
  plus_cut w m = by (is_request_type w) where
    by : (b : Bool) → pick b (one_more (cut_off m)) (cut_off m) ≡ cut_off (pick b (suc m) m)
    by true = one_cut m
    by false = refl

  counted : KeptCa s → (e : Event) → counts e (code_of s e) ≡ true → (j : ℕ) → (get_or (slots_after (place_of e) e s) j fresh_slot).updates
      ≡ cut_off (updates_after e (octets_of (sent_by s e)) (map seen_of s.slots) (map seen_of (slots_after (place_of e) e s)) n j)
  unfolding code_of
  counted kept (add_peer k id) h j =
      set_counts k 0 (peer_slot id)
      (⊎_elim (λ e. ap (λ (x : Slot). x.updates) e) (λ e. ap (λ (x : Slot). x.updates) e) (set_here fresh_slot (peer_slot id) s.slots k)) j
  counted kept (link_up k now) h j =
      let x = slot_at s k in
      let y = slot_after (link_up k now) s.settings (live_in s.slots) s.rows x in
      let g = pick_of (Counts x) (is_down x.link.hello) (hello_sent None (moved (up_move x.link) x)) x (counts_moved (up_move x.link) x)
      (counts_still x) in
      set_counts k (since k y) y (quiet_counts k y (link_in_use s k now (eqb-true _ 0 h)) g) j
  counted kept (link_down k now) h j =
      let x = slot_at s k in
      let y = moved (down_move x.link) x in
      set_counts k (since k y) y (quiet_counts k y (link_in_use s k now (eqb-true _ 0 h)) (counts_moved (down_move x.link) x)) j
  counted kept (packet k now p room) h j =
      let y = read_slot (read_packet id_length p) s.settings (live_in s.slots) k now s.rows (slot_at s k) in
      set_counts k (since k y) y
      (quiet_counts k y (packet_in_use s k now p room h)
      (counts_read s.settings (live_in s.slots) k now s.rows (slot_at s k) (read_packet id_length p))) j
  counted kept (poll k now room) h j =
      let x = slot_at s k in
      let y = poll_slot s.settings now s.rows k x in
      let w = octets_of (poll_sent s.settings now s.rows k x) in
      let u = poll_in_use s k now room (eqb-true _ 0 h) in
      set_counts k (pick (is_request_type w) (suc (since k y)) (since k y)) y
      (ap (λ (z : Slot). z.updates) (used_here y s.slots k u) ∙ counts_poll s.settings now s.rows k x (kept k)
      ∙ ap (plus w) (since_seen k y u) ∙ plus_cut w (since k y)) j
  counted kept (set key payload) h j = same j
  counted kept (withdraw key) h j = same j
  counted kept (purge key) h j = same j

pub updates_act : (s : Server) (h : History) (e : Event) → KeptCa s → counts e (code_of s e) ≡ true → (after : List SlotHistory)
    → map seen_of s.slots ≡ h.slots → map seen_of (slots_after (place_of e) e s) ≡ after
    → ((k : ℕ) → (slot_at s k).updates ≡ cut_off (h.updates k))
    → (k : ℕ) → (slot_at (acted s e) k).updates ≡ cut_off (updates_after e (written_at s e) h.slots after h.updates k)
updates_act s h e kept t after before-is after_is same k =
    ap (λ l. (get_or l k fresh_slot).updates) (slots_acted s e) ∙ counted s h.updates same kept e t k
    ∙ (λ i. cut_off (updates_after e (sym (wrote_as s e t) i) (before-is i) (after_is i) h.updates k))
