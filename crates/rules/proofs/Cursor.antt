-- What changes the cursor of a slot that is live after an event: an update request written at a poll, and nothing else.
-- Assumes nothing.
use Prim.Native.Nat.{ℕ, ◌%◌}
use mathlib.Core.Path.{◌≡◌, refl, sym, ap, subst, ◌∙◌}
use mathlib.Core.Bool.{Bool, true, false, ◌&&◌, and-false, false≢true}
use mathlib.Core.Logic.{⊎_elim}
use mathlib.Core.List.{List, [], map}
use native.Mathlib.Decide.{ℕ_discrete}
use lib.Dec.{eqb}
use lib.Seq.{get_or-set_other}
use lib.ListN.{length, get_or, take}
use lib.ListN as lists
use borrow.Author.Tests.{eq-eqb, ne_eqb}
use Rattle.laws.specs.Choice.{pick}
use Rattle.laws.specs.Lists.{is_empty}
use Rattle.laws.proofs.Bools.{pick_of}
use Rattle.laws.proofs.Cells.{set_here}
use Rattle.protocol.specs.declared.Alignment.{Alignment}
use Rattle.protocol.specs.declared.Alignment.TheVariants.{Down, Negotiate, Summarize, Update, Aligned}
use Rattle.protocol.specs.declared.Link.{Link}
use Rattle.std.specs.Prelude.{None}
use Rattle.protocol.specs.Sizes.{id_length}
use Rattle.protocol.specs.Messages.{Message, Body, ca, csu_request, csu_reply, csus, hello}
use Rattle.protocol.specs.Reading.{Reading, refused, malformed, message, read_packet}
use Rattle.rules.specs.Server.{rows_most, Settings, Row, Slot, fresh_slot, Server, slot_at}
use Rattle.rules.specs.Links.{is_down, is_live, is_past, enters, up_move, down_move, hello_move, malformed_move, check_move, CaRule, refuse_ca, become_slave}
use Rattle.rules.specs.Links.{become_master, repeat, slave_on, master_on, master_done, ignore, restart, ca_move}
use Rattle.rules.specs.Rows.{next_waiting, behind, rows_of}
use Rattle.rules.specs.Slots.{moved, emptied, with_link, with_kept, hello_sent, passed, aligned_if, completed}
use Rattle.rules.specs.Sent.{octets_of}
use Rattle.rules.specs.Alignment.{CaPacket, ca_packet, rule_for, ca_slot, taking, answering, answer_more}
use Rattle.rules.specs.Packets.{slot_on, names_us}
use Rattle.rules.specs.Poll.{Due, nothing_due, a_hello, first_ca, kept_ca, a_csus, an_update, ca_interval, first_flags, request_record, held_record, due_slot}
use Rattle.rules.specs.Poll.{due_of, kept_dropped, checked, poll_slot}
use Rattle.rules.specs.Poll as polls
use Rattle.rules.specs.Refusals.{poll_code}
use Rattle.rules.specs.Events.{Event, add_peer, link_up, link_down, packet, poll, set, withdraw, purge, counts, code_of, live_in, read_slot, slot_after}
use Rattle.rules.specs.Events.{acted, server_if, sent_if, step, written_at}
use Rattle.rules.specs.SlotHistory.{is_request_type}
use Rattle.rules.specs.Demand3.{is_poll_of, request_records}
use Rattle.rules.proofs.Relation.{Inv}
use Rattle.rules.proofs.RequestBack.{not_hello, not_ca, not_csus}
use Rattle.rules.proofs.PastLaws.{not_entered}
use Rattle.rules.proofs.Kept.{KeepsCa, KeptCa, no_request_lem, kept_checked}
use Rattle.rules.proofs.Sent.{update_back, peer_length}

-- the cursor c of slot k becomes c': it stood and no update request was written to k, or the next waiting rows were and it is behind them
pub data CursorStep (rows : List Row) (k c c' : ℕ) (polled : Bool) (written : List ℕ) : Type 0 where
  stood : c' ≡ c → (polled && is_request_type written) ≡ false → CursorStep rows k c c' polled written
  sends : polled ≡ true → request_records written ≡ rows_of held_record rows (next_waiting rows k c) → c' ≡ behind c (next_waiting rows k c) % rows_most
      → CursorStep rows k c c' polled written

-- the slot is live
abbrev Live : Slot → Type 0
Live x = is_live x.link.alignment ≡ true

moved_by : (l : Link) (x : Slot) (b : Bool) → enters x.link.alignment l.alignment ≡ b → Live (pick b (emptied (with_link l x)) (with_link l x))
    → (pick b (emptied (with_link l x)) (with_link l x)).cursor ≡ x.cursor
moved_by l x true e h = absurd (false≢true (sym (not_entered x.link.alignment l.alignment h) ∙ e))
moved_by l x false e h = refl

cursor_moved : (l : Link) (x : Slot) → Live (moved l x) → (moved l x).cursor ≡ x.cursor
cursor_moved l x h = moved_by l x (enters x.link.alignment l.alignment) refl h

live_before : (b : Bool) (a : Alignment) → is_live (aligned_if b a) ≡ true → is_live a ≡ true
live_before b Down h = h
live_before b Negotiate h = h
live_before b (Summarize r) h = h
live_before b Update h = refl
live_before b Aligned h = h

cursor_completed : (l : Link) (x y : Slot) → y.link ≡ (moved l x).link → y.cursor ≡ (moved l x).cursor → Live (completed y) → (completed y).cursor ≡ x.cursor
cursor_completed l x y a b h =
    b ∙ cursor_moved l x (ap (λ (z : Link). is_live z.alignment) (sym a) ∙ live_before (is_empty y.requests) y.link.alignment h)

-- ---- a packet
module _ (s : Settings) (now : ℕ) (rows : List Row) (c : CaPacket) (x : Slot) where
  abbrev link_by : CaRule → Link
  link_by u = ca_move u c.seen (answer_more u rows x) x.link

  cursor_ca : (u : CaRule) → Live (ca_slot u s now rows c x) → (ca_slot u s now rows c x).cursor ≡ x.cursor
  cursor_ca refuse_ca h = refl
  cursor_ca become_slave h = cursor_completed (link_by become_slave) x (answering become_slave s now rows c x) refl refl h
  cursor_ca become_master h = cursor_completed (link_by become_master) x (answering become_master s now rows c x) refl refl h
  cursor_ca repeat h = refl
  cursor_ca slave_on h = cursor_completed (link_by slave_on) x (answering slave_on s now rows c x) refl refl h
  cursor_ca master_on h = cursor_completed (link_by master_on) x (answering master_on s now rows c x) refl refl h
  cursor_ca master_done h = cursor_completed (link_by master_done) x (with_kept [] (taking master_done rows c x)) refl refl h
  cursor_ca ignore h = refl
  cursor_ca restart h = cursor_moved (ca_move restart c.seen false x.link) x h

cursor_body : (b : Body) (s : Settings) (live : ℕ → Bool) (k now : ℕ) (rows : List Row) (m : Message) (x : Slot) → Live (slot_on b s live k now rows m x)
    → (slot_on b s live k now rows m x).cursor ≡ x.cursor
cursor_body (hello i f ids) s live k now rows m x h = cursor_moved (hello_move now i f (names_us s.id m.receiver ids) x.link) x h
cursor_body (ca n f rs) s live k now rows m x h =
    cursor_ca s now rows (ca_packet n f rs m.sender) x (rule_for s.id (ca_packet n f rs m.sender) x) h
cursor_body (csu_request rs) s live k now rows m x h = refl
cursor_body (csu_reply rs) s live k now rows m x h = refl
cursor_body (csus rs) s live k now rows m x h = refl

cursor_read : (r : Reading) (s : Settings) (live : ℕ → Bool) (k now : ℕ) (rows : List Row) (x : Slot) → Live (read_slot r s live k now rows x)
    → (read_slot r s live k now rows x).cursor ≡ x.cursor
cursor_read (refused c) s live k now rows x h = refl
cursor_read (malformed at) s live k now rows x h = cursor_moved (malformed_move x.link) x h
cursor_read (message m) s live k now rows x h = cursor_body m.body s live k now rows m x h

-- ---- a poll
cursor_checked : (now : ℕ) (x : Slot) → Live (kept_dropped now (checked now x)) → (kept_dropped now (checked now x)).cursor ≡ x.cursor
cursor_checked now x =
    let y = checked now x in
    let g = cursor_moved (check_move now x.link) x in
    pick_of (λ (z : Slot). Live z → z.cursor ≡ x.cursor) (is_past y.link.alignment && passed ca_interval y.timers.ca now) (with_kept [] y) y g g

cursor_due : (s : Server) → Inv s → (now k : ℕ) (y : Slot) → KeepsCa y → length y.peer ≡ id_length → (c : ℕ) → (Live y → y.cursor ≡ c) → (d : Due)
    → Live (due_slot d s.settings now s.rows k y)
    → CursorStep s.rows k c (due_slot d s.settings now s.rows k y).cursor true (octets_of (polls.due_sent d s.settings s.rows k y))
cursor_due s v now k y p l c g nothing_due h = stood (g h) refl
cursor_due s v now k y p l c g a_hello h = stood (g h) (not_hello s.settings y)
cursor_due s v now k y p l c g first_ca h = stood (g h) (not_ca s.settings y y.link.number first_flags [])
cursor_due s v now k y p l c g kept_ca h = stood (g h) (no_request_lem y.link.alignment y.kept p)
cursor_due s v now k y p l c g a_csus h = stood (g h) (not_csus s.settings y (map request_record (take 4 y.requests)))
cursor_due s v now k y p l c g an_update h = rw (sym (g h)) (sends refl (update_back s v k y l) refl)

cursor_poll : (s : Server) → Inv s → KeptCa s → (k now room : ℕ) → eqb (poll_code s k now room) 0 ≡ true
    → Live (poll_slot s.settings now s.rows k (slot_at s k))
    → CursorStep s.rows k (slot_at s k).cursor (poll_slot s.settings now s.rows k (slot_at s k)).cursor true
    (octets_of (polls.poll_sent s.settings now s.rows k (slot_at s k)))
cursor_poll s v a k now room e h =
    let x = slot_at s k in
    let y = kept_dropped now (checked now x) in
    cursor_due s v now k y (kept_checked now x (a k)) (peer_length s v k now room e) x.cursor (cursor_checked now x)
    (due_of s.settings now s.rows k y) h

-- ---- the slots
here : (y : Slot) (l : List Slot) (k : ℕ) → Live (get_or (lists.set l k y) k fresh_slot) → get_or (lists.set l k y) k fresh_slot ≡ y
here y l k h = ⊎_elim (λ e. e) (λ e. absurd (false≢true (rw e at h))) (set_here fresh_slot y l k)

there : (y : Slot) (l : List Slot) (j k : ℕ) → (j ≡ k → ⊥) → get_or (lists.set l j y) k fresh_slot ≡ get_or l k fresh_slot
there y l j k n = get_or-set_other l j k y fresh_slot (λ z. n (sym z))

quiet_here : (l : List Slot) (k : ℕ) (y : Slot) → (Live y → y.cursor ≡ (get_or l k fresh_slot).cursor) → Live (get_or (lists.set l k y) k fresh_slot)
    → (get_or (lists.set l k y) k fresh_slot).cursor ≡ (get_or l k fresh_slot).cursor
quiet_here l k y g h = let e = here y l k h in ap (λ (q : Slot). q.cursor) e ∙ g (rw e at h)

quiet_at : (l : List Slot) (j k : ℕ) (y : Slot) → (Live y → y.cursor ≡ (get_or l j fresh_slot).cursor) → Dec (j ≡ k) → Live (get_or (lists.set l j y) k fresh_slot)
    → (get_or (lists.set l j y) k fresh_slot).cursor ≡ (get_or l k fresh_slot).cursor
quiet_at l j k y g (yes z) h = rw z (quiet_here l k y (rw z at g) (rw z at h))
quiet_at l j k y g (no z) h = ap (λ (q : Slot). q.cursor) (there y l j k z)

step_here : (rows : List Row) (l : List Slot) (k : ℕ) (y : Slot) (c : ℕ) (polled : Bool) (w : List ℕ) → (Live y → CursorStep rows k c y.cursor polled w)
    → Live (get_or (lists.set l k y) k fresh_slot) → CursorStep rows k c (get_or (lists.set l k y) k fresh_slot).cursor polled w
step_here rows l k y c polled w g h = let e = here y l k h in rw e (g (rw e at h))

-- ---- an event
module _ (s : Server) (v : Inv s) (a : KeptCa s) (k : ℕ) where
  abbrev Steps : Event → Bool → Type 0
  Steps e b =
      live_in (server_if b s e).slots k ≡ true
      → CursorStep s.rows k (slot_at s k).cursor (slot_at (server_if b s e) k).cursor (is_poll_of k e) (octets_of (sent_if b s e))

  poll_here : (now room : ℕ) → eqb (poll_code s k now room) 0 ≡ true → Steps (poll k now room) true
  unfolding acted
  poll_here now room e h =
      rw (eq-eqb k k refl)
      (step_here s.rows s.slots k (poll_slot s.settings now s.rows k (slot_at s k)) (slot_at s k).cursor true
      (octets_of (polls.poll_sent s.settings now s.rows k (slot_at s k))) (cursor_poll s v a k now room e) h)

  poll_at : (j now room : ℕ) → Dec (j ≡ k) → eqb (poll_code s j now room) 0 ≡ true → Steps (poll j now room) true
  unfolding acted
  poll_at j now room (yes z) =
      subst (λ (i : ℕ). eqb (poll_code s i now room) 0 ≡ true → Steps (poll i now room) true) (sym z) (poll_here now room)
  poll_at j now room (no z) = λ e h.
      stood (ap (λ (q : Slot). q.cursor) (there (poll_slot s.settings now s.rows j (slot_at s j)) s.slots j k z)) (rw (ne_eqb j k z))

  quiet_event : (e : Event) (j : ℕ) → (Live (slot_after e s.settings (live_in s.slots) s.rows (slot_at s j))
      → (slot_after e s.settings (live_in s.slots) s.rows (slot_at s j)).cursor ≡ (slot_at s j).cursor)
      → is_live (get_or (lists.set s.slots j (slot_after e s.settings (live_in s.slots) s.rows (slot_at s j))) k fresh_slot).link.alignment ≡ true
      → (get_or (lists.set s.slots j (slot_after e s.settings (live_in s.slots) s.rows (slot_at s j))) k fresh_slot).cursor ≡ (slot_at s k).cursor
  quiet_event e j g h = quiet_at s.slots j k (slot_after e s.settings (live_in s.slots) s.rows (slot_at s j)) g (ℕ_discrete j k) h

  steps : (e : Event) (b : Bool) → counts e (code_of s e) ≡ b → Steps e b
  unfolding acted code_of
  steps e false q h = stood refl (and-false (is_poll_of k e))
  steps (add_peer j id) true q h = stood (quiet_event (add_peer j id) j (λ w. absurd (false≢true w)) h) refl
  steps (link_up j now) true q h =
      let x = slot_at s j in
      let y = hello_sent None (moved (up_move x.link) x) in
      stood (quiet_event (link_up j now) j
      (pick_of (λ (z : Slot). Live z → z.cursor ≡ x.cursor) (is_down x.link.hello) y x (cursor_moved (up_move x.link) x) (λ _. refl)) h) refl
  steps (link_down j now) true q h = stood (quiet_event (link_down j now) j (cursor_moved (down_move (slot_at s j).link) (slot_at s j)) h) refl
  steps (packet j now p room) true q h =
      stood (quiet_event (packet j now p room) j
      (cursor_read (read_packet id_length p) s.settings (live_in s.slots) j now s.rows (slot_at s j)) h) refl
  steps (poll j now room) true q h = poll_at j now room (ℕ_discrete j k) q h
  steps (set key payload) true q h = stood refl refl
  steps (withdraw key) true q h = stood refl refl
  steps (purge key) true q h = stood refl refl

  pub cursor_step : (e : Event) → live_in (step s e).slots k ≡ true
      → CursorStep s.rows k (slot_at s k).cursor (slot_at (step s e) k).cursor (is_poll_of k e) (written_at s e)
  unfolding step written_at
  cursor_step e h = steps e (counts e (code_of s e)) refl h
