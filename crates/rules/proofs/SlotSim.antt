-- The slots of the server move as those of the history do, with their kept CAs.
-- Assumes nothing.
use Prim.Native.Nat.{ℕ}
use mathlib.Core.Path.{◌≡◌, refl, sym, ap, ◌∙◌}
use mathlib.Core.Bool.{Bool, true, false, not, ◌&&◌, ◌||◌}
use mathlib.Core.List.{List, [], map}
use lib.ListN as lists
use Rattle.laws.specs.Choice.{pick}
use Rattle.laws.specs.Lists.{is_empty}
use Rattle.laws.specs.Tables.{has}
use Rattle.laws.proofs.Lists.{map_set}
use Rattle.laws.proofs.Bools.{pick_of}
use Rattle.protocol.specs.declared.Role.TheVariants.{Master, Slave}
use Rattle.protocol.specs.declared.Alignment.{Alignment}
use Rattle.protocol.specs.declared.Alignment.TheVariants.{Down, Negotiate, Summarize, Update, Aligned}
use Rattle.protocol.specs.declared.Link.{Link}
use Rattle.std.specs.Prelude.{Option}
use Rattle.std.specs.Prelude.{None, Some}
use Rattle.protocol.specs.Sizes.{id_length}
use Rattle.protocol.specs.Messages.{summary_of, Message, Body, ca, csu_request, csu_reply, csus, hello}
use Rattle.protocol.specs.Layouts.{layout, packet_of}
use Rattle.protocol.specs.Reading.{Reading, refused, malformed, message, read_packet}
use Rattle.rules.specs.Server.{Settings, Row, waits_for, Slot, Server, slot_at}
use Rattle.rules.specs.Links.{is_past, is_down, enters, up_move, down_move, hello_move, malformed_move, check_move}
use Rattle.rules.specs.Slots.{with_kept, with_requests, hello_sent, moved, passed}
use Rattle.rules.specs.Sent.{octets_of}
use Rattle.rules.specs.Updates.{all_solicited}
use Rattle.rules.specs.Alignment.{ca_packet}
use Rattle.rules.specs.Packets.{names_us, updated_by, slot_on, sent_on}
use Rattle.rules.specs.Poll.{Due, nothing_due, a_hello, first_ca, kept_ca, a_csus, an_update, ca_interval, due_in, due_of, due_slot, kept_dropped, checked, poll_slot}
use Rattle.rules.specs.Poll as polls
use Rattle.rules.specs.Events.{Event, add_peer, link_up, link_down, packet, poll, set, withdraw, purge, code_of, counts, Place, in_slot, nowhere}
use Rattle.rules.specs.Events.{place_of, live_in, read_slot, slot_after, slots_after, read_sent, sent_by, sent_if, written_at}
use Rattle.rules.specs.SlotHistory.{SlotHistory, body_link, read_link, is_csus, reads_csus, drops_at, quiet, is_ca, event_after, slot_history_after}
use Rattle.rules.specs.SlotHistory.{slot_histories_after}
use Rattle.rules.specs.History.{History}
use Rattle.rules.proofs.Relation.{past_as, past_link, seen_of}
use Rattle.rules.proofs.PastLaws.{past_past, enters_past, enters_same, up_past, check_past, hello_past, completed_link, seen_at}
use Rattle.rules.proofs.Kept.{is_summarize, KeepsCa, KeptCa, kept_checked}
use Rattle.rules.proofs.SeenSlots.{seen, moved_seen, reply_no_ca, request_no_ca, quiet_seen, still, master_same, up_stays, check_stays}
use Rattle.rules.proofs.SeenSlots.{hello_stays, ca_step}

-- ---- a packet
module _ (s : Settings) (live : ℕ → Bool) (k now : ℕ) (p : List ℕ) (room : ℕ) (rows : List Row) (x : Slot) (g : KeepsCa x) where
  abbrev at_packet : Event
  at_packet = packet k now p room

  -- the history's slot, where the packet is read as r and w is written
  abbrev by_reading : Reading → List ℕ → SlotHistory
  by_reading r w =
      let m = read_link r s now (not (is_empty x.kept)) w (past_link x.link) in
      pick (is_ca w) (seen m true (Some now)) (quiet at_packet m (seen_of x))

  none_dropped : (r : Reading) → read_packet id_length p ≡ r → reads_csus r ≡ false → (a : Alignment) (t : Option ℕ) → drops_at at_packet a t ≡ false
  none_dropped r q n a t = ap reads_csus q ∙ n

  csus_seen : reads_csus (read_packet id_length p) ≡ true → seen_of (with_kept [] x) ≡ quiet at_packet (past_link x.link) (seen_of x)
  csus_seen n =
      let a : Alignment = past_as x.link.alignment in
      rw (enters_same a, master_same a, n)

  body_seen : (m : Message) → read_packet id_length p ≡ message m → (b : Body) → m.body ≡ b
      → seen_of (slot_on b s live k now rows m x)
      ≡ (let l = body_link b s now m (not (is_empty x.kept)) (octets_of (sent_on b s live k rows m x)) (past_link x.link) in
      pick (is_ca (octets_of (sent_on b s live k rows m x))) (seen l true (Some now)) (quiet at_packet l (seen_of x)))
  body_seen m q (hello i f ids) e =
      let named : Bool = names_us s.id m.receiver ids in
      quiet_seen at_packet (hello_move now i f named x.link) (hello_move now i f named (past_link x.link)) x (hello_past now i f named x.link)
      (hello_stays now i f named (past_link x.link)) (none_dropped (message m) q (ap is_csus e))
  body_seen m q (ca n f rs) e =
      ca_step s now rows (ca_packet n f rs m.sender) x g at_packet refl (none_dropped (message m) q (ap is_csus e))
  body_seen m q (csu_request rs) e =
      let y : Slot = with_requests (updated_by live k rs rows x.requests).requests x.missed x in
      rw (reply_no_ca s x (map summary_of (updated_by live k rs rows []).replies))
      ((λ i. seen (completed_link y i) (not (is_empty x.kept)) x.timers.ca)
      ∙ still at_packet (seen_of x) (none_dropped (message m) q (ap is_csus e)))
  body_seen m q (csu_reply rs) e = still at_packet (seen_of x) (none_dropped (message m) q (ap is_csus e))
  body_seen m q (csus rs) e = rw (request_no_ca s x (all_solicited rows rs)) (csus_seen (ap reads_csus q ∙ ap is_csus e))

  read_seen : (r : Reading) → read_packet id_length p ≡ r → seen_of (read_slot r s live k now rows x) ≡ by_reading r (octets_of (read_sent r s live k rows x))
  read_seen (refused c) q = still at_packet (seen_of x) (none_dropped (refused c) q refl)
  read_seen (malformed at) q =
      quiet_seen at_packet (malformed_move x.link) (malformed_move (past_link x.link)) x refl refl (none_dropped (malformed at) q refl)
  read_seen (message m) q = body_seen m q m.body refl

  pub packet_seen : seen_of (read_slot (read_packet id_length p) s live k now rows x)
      ≡ event_after at_packet s (octets_of (read_sent (read_packet id_length p) s live k rows x)) (seen_of x)
  packet_seen = read_seen (read_packet id_length p) refl

-- ---- a poll
-- the states that a kept CA is due in
abbrev Dues : Due → Alignment → Type 0
Dues nothing_due a = Unit {0}
Dues a_hello a = Unit {0}
Dues first_ca a = Unit {0}
Dues kept_ca a = is_summarize a ≡ true
Dues a_csus a = Unit {0}
Dues an_update a = Unit {0}

module _ (s : Settings) (now : ℕ) (rows : List Row) (k : ℕ) where
  update_dues : (x : Slot) (a : Alignment) → Dues (polls.update_due now rows k x) a
  update_dues x a = pick_of (λ d. Dues d a) (passed polls.update_interval x.timers.update now && has (waits_for k) rows) an_update nothing_due tt tt

  dues_in : (x : Slot) (a : Alignment) → Dues (due_in now rows k x a) a
  dues_in x Down = tt
  dues_in x Negotiate = pick_of (λ d. Dues d Negotiate) (passed ca_interval x.timers.ca now) first_ca nothing_due tt tt
  dues_in x (Summarize Master) = pick_of (λ d. Dues d (Summarize Master)) (passed ca_interval x.timers.ca now) kept_ca nothing_due refl tt
  dues_in x (Summarize Slave) = tt
  dues_in x Update =
      pick_of (λ d. Dues d Update) (polls.csus_due now x) a_csus (polls.update_due now rows k x) tt (update_dues x Update)
  dues_in x Aligned = update_dues x Aligned

  dues : (x : Slot) → Dues (due_of s now rows k x) x.link.alignment
  dues x =
      pick_of (λ d. Dues d x.link.alignment) (passed s.interval x.timers.hello now) a_hello (due_in now rows k x x.link.alignment) tt
      (dues_in x x.link.alignment)

  -- the slot that a poll looks at
  drops_by : (a d kept : Bool) → pick d false (pick a false kept) ≡ pick (a || (false || d)) false kept
  drops_by true true kept = refl
  drops_by true false kept = refl
  drops_by false d kept = refl

  dropped_seen : (y : Slot) → seen_of (kept_dropped now y)
      ≡ seen (past_link y.link) (pick (is_past (past_as y.link.alignment) && passed ca_interval y.timers.ca now) false (not (is_empty y.kept)))
      y.timers.ca
  dropped_seen y = rw (past_past y.link.alignment) (by (is_past y.link.alignment && passed ca_interval y.timers.ca now)) where
    by : (b : Bool) → seen_of (pick b (with_kept [] y) y) ≡ seen (past_link y.link) (pick b false (not (is_empty y.kept))) y.timers.ca
    by true = refl
    by false = refl

  module _ (room : ℕ) (x : Slot) where
    abbrev l : Link
    l = check_move now x.link

    abbrev m : Link
    m = check_move now (past_link x.link)

    abbrev kept : Bool
    kept = not (is_empty x.kept)

    abbrev entered : Bool
    entered = enters (past_as x.link.alignment) m.alignment

    abbrev sent : Option ℕ
    sent = pick entered None x.timers.ca

    abbrev old : Bool
    old = is_past m.alignment && passed ca_interval sent now

    abbrev after : SlotHistory → SlotHistory
    after z = seen z.link (pick (is_past z.link.alignment && passed ca_interval z.sent now) false z.kept) z.sent

    same_link : past_link l ≡ m
    same_link = check_past now x.link

    same_entered : enters x.link.alignment l.alignment ≡ entered
    same_entered = sym (enters_past x.link.alignment l.alignment) ∙ ap (λ (n : Link). enters (past_as x.link.alignment) n.alignment) same_link

    looked_seen : seen_of (kept_dropped now (checked now x)) ≡ quiet (poll k now room) m (seen_of x)
    looked_seen =
        dropped_seen (moved l x)
        ∙ ap after (moved_seen l x ∙ (λ i. seen (same_link i) (pick (same_entered i) false kept) (pick (same_entered i) None x.timers.ca)))
        ∙ ap (λ (b : Bool). seen m b sent)
        (drops_by entered old kept ∙ ap (λ (b : Bool). pick (entered || (b || old)) false kept) (sym (check_stays now (past_link x.link))))

    -- what is due
    due_seen : (y : Slot) → seen_of y ≡ quiet (poll k now room) m (seen_of x) → KeepsCa y → (d : Due) → Dues d y.link.alignment
        → seen_of (due_slot d s now rows k y)
        ≡ (let w = octets_of (polls.due_sent d s rows k y) in pick (is_ca w) (seen m true (Some now)) (quiet (poll k now room) m (seen_of x)))
    unfolding packet_of layout
    due_seen y h g nothing_due u = h
    due_seen y h g a_hello u = h
    due_seen y h g first_ca u = λ i. seen (h i).link true (Some now)
    due_seen y h g kept_ca u =
        let some = g.some u in
        rw (g.is_ca_lem some) (λ i. seen (h i).link (not (some i)) (Some now))
    due_seen y h g a_csus u = h
    due_seen y h g an_update u = h

    pub poll_seen : KeepsCa x → seen_of (poll_slot s now rows k x) ≡ event_after (poll k now room) s (octets_of (polls.poll_sent s now rows k x)) (seen_of x)
    poll_seen g =
        let y = kept_dropped now (checked now x) in
        due_seen y looked_seen (kept_checked now x g) (due_of s now rows k y) (dues y)

-- ---- a link event
up_seen : (k now : ℕ) (s : Settings) (x : Slot) (b : Bool) → is_down x.link.hello ≡ b
    → seen_of (pick b (hello_sent None (moved (up_move x.link) x)) x) ≡ event_after (link_up k now) s [] (seen_of x)
up_seen k now s x true e =
    quiet_seen (link_up k now) (up_move x.link) (up_move (past_link x.link)) x (up_past x.link) (up_stays (past_link x.link)) (λ a t. refl)
up_seen k now s x false e =
    still (link_up k now) (seen_of x) (λ a t. refl) ∙ ap (λ (l : Link). quiet (link_up k now) l (seen_of x)) (rw e)

-- ---- each event
-- what an event that counts writes
pub wrote_as : (s : Server) (e : Event) → counts e (code_of s e) ≡ true → written_at s e ≡ octets_of (sent_by s e)
unfolding written_at
wrote_as s e h = ap (λ b. octets_of (sent_if b s e)) h

event_seen : (s : Server) → KeptCa s → (e : Event) (k : ℕ) → place_of e ≡ in_slot k
    → seen_of (slot_after e s.settings (live_in s.slots) s.rows (slot_at s k))
    ≡ slot_history_after e s.settings (octets_of (sent_by s e)) (seen_of (slot_at s k))
event_seen s h (add_peer j id) k at = refl
event_seen s h (link_up j now) k at = let x : Slot = slot_at s k in up_seen j now s.settings x (is_down x.link.hello) refl
event_seen s h (link_down j now) k at =
    quiet_seen (link_down j now) (down_move (slot_at s k).link) (down_move (past_link (slot_at s k).link)) (slot_at s k) refl refl (λ a t. refl)
event_seen s h (packet j now p room) k at =
    let here : k ≡ j = cc in
    let r : Reading = read_packet id_length p in
    packet_seen s.settings (live_in s.slots) j now p room s.rows (slot_at s k) (h k)
    ∙ ap (λ i. event_after (packet j now p room) s.settings (octets_of (read_sent r s.settings (live_in s.slots) j s.rows (slot_at s i)))
    (seen_of (slot_at s k))) here
event_seen s h (poll j now room) k at =
    let here : k ≡ j = cc in
    poll_seen s.settings now s.rows j room (slot_at s k) (h k)
    ∙ ap (λ i. event_after (poll j now room) s.settings (octets_of (polls.poll_sent s.settings now s.rows j (slot_at s i))) (seen_of (slot_at s k))) here
event_seen s h (set key payload) k at = refl
event_seen s h (withdraw key) k at = refl
event_seen s h (purge key) k at = refl

-- ---- all slots
module _ (s : Server) (c : Settings) (e : Event) (kept : KeptCa s) (same : s.settings ≡ c) (h : counts e (code_of s e) ≡ true) where
  seen_step : (k : ℕ) → place_of e ≡ in_slot k
      → seen_of (slot_after e s.settings (live_in s.slots) s.rows (slot_at s k)) ≡ slot_history_after e c (written_at s e) (seen_of (slot_at s k))
  seen_step k at =
      event_seen s kept e k at ∙ (λ i. slot_history_after e (same i) (sym (wrote_as s e h) i) (seen_of (slot_at s k)))

  place_seen : (p : Place) → place_of e ≡ p → map seen_of (slots_after p e s) ≡ slot_histories_after p e c (written_at s e) (map seen_of s.slots)
  place_seen (in_slot k) at =
      map_set seen_of s.slots k (slot_after e s.settings (live_in s.slots) s.rows (slot_at s k))
      ∙ ap (lists.set (map seen_of s.slots) k)
      (seen_step k at ∙ ap (slot_history_after e c (written_at s e)) (sym (seen_at s.slots k)))
  place_seen nowhere at = refl

  pub slots_act : (x : History) → map seen_of s.slots ≡ x.slots
      → map seen_of (slots_after (place_of e) e s) ≡ slot_histories_after (place_of e) e c (written_at s e) x.slots
  slots_act x slots = place_seen (place_of e) refl ∙ ap (slot_histories_after (place_of e) e c (written_at s e)) slots
