-- What is written to a peer is meant for it, and its slot stays as `Typed` says.
-- Assumes nothing.
use Prim.Native.Nat.{ℕ, ◌%◌, ◌<◌}
use mathlib.Core.Path.{◌≡◌, refl, sym, subst}
use mathlib.Core.Bool.{Bool, true, false, ◌&&◌}
use mathlib.Core.List.{List, [], map}
use mathlib.Core.Logic.{◌⊎◌, inl, inr}
use native.Mathlib.Omega.{arith}
use lib.ListN.{take}
use Rattle.laws.specs.Lists.{All, is_empty}
use Rattle.protocol.specs.declared.CaNumber.{CaNumber}
use Rattle.protocol.specs.declared.Kind.TheVariants.{Ca, CsuRequest}
use Rattle.std.specs.Prelude.{Some}
use Rattle.protocol.specs.Sizes.{id_length, records_most}
use Rattle.protocol.specs.Numbers.{next_ca, one_more}
use Rattle.protocol.specs.Messages.{CsaRecord, summary_of, Body, ca, csu_request, csu_reply, csus, hello, Message}
use Rattle.protocol.specs.Layouts.{packet_of}
use Rattle.protocol.specs.WellFormed.{Id, GoodRecord, GoodRecords, GoodBody, GoodReceiver, WellFormed}
use Rattle.rules.specs.Server.{rows_most, Settings, Row, Request, Slot}
use Rattle.rules.specs.Links as links
use Rattle.rules.specs.Links.{check_move, hears_peer, hello_move, is_past, CaRule, ca_move}
use Rattle.rules.specs.Rows.{behind, rows_of, next_waiting}
use Rattle.rules.specs.Requests.{all_taken_in, rotated}
use Rattle.rules.specs.Updates.{all_solicited}
use Rattle.rules.specs.Slots.{passed, to_peer, with_kept, with_listed, with_cursor, with_requests, moved, completed, ca_sent, update_sent}
use Rattle.rules.specs.Sent.{Sent, nothing, new_packet, again}
use Rattle.rules.specs.Alignment.{CaPacket, ca_packet, rule_for, answer_from, answer_to, answer_more, answer_body, ca_sent_by, wanted_of, taking, keeping}
use Rattle.rules.specs.Alignment.{answering, ca_slot}
use Rattle.rules.specs.Packets.{names_us, updated_by, slot_on, rows_on, sent_on}
use Rattle.rules.specs.Poll.{ca_interval, request_record, held_record, Due, nothing_due, a_hello, first_ca, kept_ca, a_csus, an_update, due_of, hello_of}
use Rattle.rules.specs.Poll.{first_flags, first_ca_of, due_sent, due_slot, kept_dropped, checked, poll_slot, poll_sent}
use Rattle.rules.specs.Refusals.{is_hello}
use Rattle.laws.proofs.Bools.{pick_of}
use Rattle.rules.proofs.Typed.{GoodSettings, Ours, KeptFor}
use Rattle.rules.proofs.TypedRows.{TypedRows, replied_all, answers_all}
use Rattle.rules.proofs.TypedRecords.{GoodRequests, GoodUpdated, all_updated_lem, all_taken_in_lem, rotated_good, replies_good, all_solicited_lem}
use Rattle.rules.proofs.TypedRecords.{summaries_good, waiting_good, requests_good}
use Rattle.rules.proofs.TypedSlots.{SlotFor, hello_good, check_good, ca_good, timers_kept, kept_kept, listed_kept, cursor_kept, requests_kept}
use Rattle.rules.proofs.TypedSlots.{updates_kept, moved_kept, completed_kept}

-- from us to a peer, in our group; a Hello may name nobody
pub record Meant (s : Settings) (peer : List ℕ) (m : Message) : Type 0 where
  pub good : WellFormed id_length m
  pub protocol : m.protocol ≡ s.protocol
  pub group : m.group ≡ s.group
  pub sender : m.sender ≡ s.id
  pub receiver : (m.receiver ≡ peer) ⊎ ((is_hello m.body ≡ true) × (m.receiver ≡ []))

pub meant : {s : Settings} {peer : List ℕ} {m : Message} → Ours s peer m → Meant s peer m
meant o = record { good = o.good; protocol = o.protocol; group = o.group; sender = o.sender; receiver = inl o.receiver }

-- a CA: nothing, a packet of ours, or a kept one
abbrev GoodCa : Settings → List ℕ → Sent → Type 0
GoodCa s peer nothing = Unit {0}
GoodCa s peer (new_packet m) = Ours s peer m
GoodCa s peer (again p) = KeptFor s peer p

abbrev pub GoodSent : Settings → List ℕ → Sent → Type 0
GoodSent s peer nothing = Unit {0}
GoodSent s peer (new_packet m) = Meant s peer m
GoodSent s peer (again p) = KeptFor s peer p

any_sent : (s : Settings) (peer : List ℕ) (o : Sent) → GoodCa s peer o → GoodSent s peer o
any_sent s peer nothing g = g
any_sent s peer (new_packet m) g = meant g
any_sent s peer (again p) g = g

module _ (s : Settings) (peer : List ℕ) (ts : GoodSettings s) (i : Id id_length peer) where
  id_of : (x : Slot) → SlotFor s peer x → Id id_length x.peer
  id_of x g = subst (Id id_length) (sym g.peer_is) i

  ours : (x : Slot) (b : Body) → SlotFor s peer x → GoodReceiver id_length b x.peer → GoodBody id_length b → Ours s peer (to_peer s x b)
  ours x b g r h = record {
    good = record { protocol_fits = ts.protocol_fits; group_fits = ts.group_fits; sender = ts.id; receiver = r; body = h };
    protocol = refl;
    group = refl;
    sender = refl;
    receiver = g.peer_is;
  }

  -- ---- CAs
  module _ (rows : List Row) (tr : TypedRows rows) where
    answer : (master : Bool) (n : CaNumber) (u : CaRule) (x : Slot) → n.0 < 4294967296 → SlotFor s peer x
        → Ours s peer (to_peer s x (answer_body master n u rows x))
    answer master n u x h g = ours x (answer_body master n u rows x) g (id_of x g) (h, summaries_good rows (answer_from u x) tr)

    ca_sent_lem : (u : CaRule) (c : CaPacket) (x : Slot) → c.seen.head.number.0 < 4294967296 → SlotFor s peer x → GoodCa s peer (ca_sent_by u s rows c x)
    ca_sent_lem links.refuse_ca c x h g = tt
    ca_sent_lem links.become_slave c x h g = answer false c.seen.head.number links.become_slave x h g
    ca_sent_lem links.become_master c x h g = answer true (next_ca x.link.number) links.become_master x (omega arith) g
    ca_sent_lem links.repeat c x h g = g.kept
    ca_sent_lem links.slave_on c x h g = answer false c.seen.head.number links.slave_on x h g
    ca_sent_lem links.master_on c x h g = answer true (next_ca x.link.number) links.master_on x (omega arith) g
    ca_sent_lem links.master_done c x h g = tt
    ca_sent_lem links.ignore c x h g = tt
    ca_sent_lem links.restart c x h g = tt

    ca_timer : (now : ℕ) (x : Slot) → SlotFor s peer x → SlotFor s peer (ca_sent now x)
    ca_timer now x g =
        timers_kept s peer (record { hello = x.timers.hello; ca = Some now; csus = x.timers.csus; update = x.timers.update }) x g

    keeping_kept : (o : Sent) (now to : ℕ) (x : Slot) → GoodCa s peer o → SlotFor s peer x → SlotFor s peer (keeping o now to x)
    keeping_kept nothing now to x h g = g
    keeping_kept (new_packet m) now to x h g =
        ca_timer now (with_kept (packet_of m) (with_listed to x))
        (kept_kept s peer (packet_of m) (with_listed to x) (inr (m, (refl, h))) (listed_kept s peer to x g))
    keeping_kept (again p) now to x h g = ca_timer now x g

    module _ (now : ℕ) (c : CaPacket) (x : Slot) (h : c.seen.head.number.0 < 4294967296) (rs : All (GoodRecord id_length Ca) c.records)
        (g : SlotFor s peer x) where
      taking_kept : (u : CaRule) → SlotFor s peer (taking u rows c x)
      taking_kept u =
          let l = ca_move u c.seen (answer_more u rows x) x.link in
          requests_kept s peer (all_taken_in rows c.records (wanted_of x)).requests (all_taken_in rows c.records (wanted_of x)).missed (moved l x)
          (all_taken_in_lem Ca rows c.records (wanted_of x) rs g.requests)
          (moved_kept s peer l x (ca_good u c.seen (answer_more u rows x) x.link h g.link) g)

      answering_kept : (u : CaRule) → SlotFor s peer (completed (answering u s now rows c x))
      answering_kept u =
          completed_kept s peer (answering u s now rows c x)
          (keeping_kept (ca_sent_by u s rows c x) now (answer_to rows (answer_from u x)) (taking u rows c x) (ca_sent_lem u c x h g) (taking_kept u))

      ca_slot_lem : (u : CaRule) → SlotFor s peer (ca_slot u s now rows c x)
      ca_slot_lem links.refuse_ca = g
      ca_slot_lem links.become_slave = answering_kept links.become_slave
      ca_slot_lem links.become_master = answering_kept links.become_master
      ca_slot_lem links.repeat = ca_timer now x g
      ca_slot_lem links.slave_on = answering_kept links.slave_on
      ca_slot_lem links.master_on = answering_kept links.master_on
      ca_slot_lem links.master_done =
          completed_kept s peer (with_kept [] (taking links.master_done rows c x))
          (kept_kept s peer [] (taking links.master_done rows c x) (inl refl) (taking_kept links.master_done))
      ca_slot_lem links.ignore = g
      ca_slot_lem links.restart =
          moved_kept s peer (ca_move links.restart c.seen false x.link) x (ca_good links.restart c.seen false x.link h g.link) g

    -- ---- a packet that was read
    updated : (live : ℕ → Bool) (k : ℕ) (rs : List CsaRecord) (qs : List Request) → GoodRecords id_length CsuRequest rs → GoodRequests qs
        → GoodUpdated records_most (updated_by live k rs rows qs)
    updated live k rs qs h q =
        let f = h.few in
        all_updated_lem live k rs 0 records_most (record { rows = rows; requests = qs; replies = [] }) (omega arith) h.each
        (record { rows = tr; requests = q; replies = tt; few = omega arith })

    pub slot_on_lem : (b : Body) (live : ℕ → Bool) (k now : ℕ) (m : Message) (x : Slot) → GoodBody id_length b → SlotFor s peer x
        → SlotFor s peer (slot_on b s live k now rows m x)
    slot_on_lem (ca n f rs) live k now m x h g =
        ca_slot_lem now (ca_packet n f rs m.sender) x h.0 h.1.each g (rule_for s.id (ca_packet n f rs m.sender) x)
    slot_on_lem (csu_request rs) live k now m x h g =
        let qs = (updated_by live k rs rows x.requests).requests in
        completed_kept s peer (with_requests qs x.missed x)
        (requests_kept s peer qs x.missed x (updated live k rs x.requests h g.requests).requests g)
    slot_on_lem (csu_reply rs) live k now m x h g = g
    slot_on_lem (csus rs) live k now m x h g = kept_kept s peer [] x (inl refl) g
    slot_on_lem (hello t f ids) live k now m x h g =
        let l = hello_move now t f (names_us s.id m.receiver ids) x.link in
        moved_kept s peer l x (hello_good now t f (names_us s.id m.receiver ids) x.link g.link) g

    pub rows_on_lem : (b : Body) (live : ℕ → Bool) (k : ℕ) → GoodBody id_length b → TypedRows (rows_on b live k rows)
    rows_on_lem (ca n f rs) live k h = tr
    rows_on_lem (csu_request rs) live k h = (updated live k rs [] h tt).rows
    rows_on_lem (csu_reply rs) live k h = replied_all k rs rows tr
    rows_on_lem (csus rs) live k h = answers_all k rs rows tr
    rows_on_lem (hello t f ids) live k h = tr

    pub sent_on_lem : (b : Body) (live : ℕ → Bool) (k : ℕ) (m : Message) (x : Slot) → GoodBody id_length b → SlotFor s peer x
        → GoodSent s peer (sent_on b s live k rows m x)
    sent_on_lem (ca n f rs) live k m x h g =
        let c = ca_packet n f rs m.sender in
        any_sent s peer (ca_sent_by (rule_for s.id c x) s rows c x) (ca_sent_lem (rule_for s.id c x) c x h.0 g)
    sent_on_lem (csu_request rs) live k m x h g =
        let u = updated live k rs [] h tt in
        let l = map summary_of (updated_by live k rs rows []).replies in
        pick_of (GoodSent s peer) (is_empty l) nothing (new_packet (to_peer s x (csu_reply l))) tt
        (meant (ours x (csu_reply l) g (id_of x g) (replies_good (updated_by live k rs rows []).replies u.replies u.few)))
    sent_on_lem (csu_reply rs) live k m x h g = tt
    sent_on_lem (csus rs) live k m x h g =
        let l = all_solicited rows rs in
        pick_of (GoodSent s peer) (is_empty l) nothing (new_packet (to_peer s x (csu_request l))) tt
        (meant (ours x (csu_request l) g (id_of x g) (all_solicited_lem rows rs tr h)))
    sent_on_lem (hello t f ids) live k m x h g = tt

    -- ---- a poll
    pub checked_kept : (now : ℕ) (x : Slot) → SlotFor s peer x → SlotFor s peer (kept_dropped now (checked now x))
    checked_kept now x g =
        let y : Slot = checked now x in
        let h : SlotFor s peer y = moved_kept s peer (check_move now x.link) x (check_good now x.link g.link) g in
        pick_of (SlotFor s peer) (is_past y.link.alignment && passed ca_interval y.timers.ca now) (with_kept [] y) y
        (kept_kept s peer [] y (inl refl) h) h

    first_ca_lem : (x : Slot) → SlotFor s peer x → Ours s peer (first_ca_of s x)
    first_ca_lem x g = ours x (ca x.link.number first_flags []) g (id_of x g) (g.link.number, record { few = omega arith; each = tt })

    our_hello : (x : Slot) → SlotFor s peer x → Meant s peer (hello_of s x)
    our_hello x g = record {
      good = record {
        protocol_fits = ts.protocol_fits;
        group_fits = ts.group_fits;
        sender = ts.id;
        receiver = pick_of (λ r. Id id_length r ⊎ (r ≡ [])) (hears_peer x.link.hello) x.peer [] (inl (id_of x g)) (inr refl);
        body = record {
          some_interval = ts.some_interval;
          interval_fits = ts.interval_fits;
          some_factor = ts.some_factor;
          factor_fits = ts.factor_fits;
          few = omega arith;
          each = tt;
        };
      };
      protocol = refl;
      group = refl;
      sender = refl;
      receiver = pick_of (λ r. (r ≡ peer) ⊎ ((true ≡ true) × (r ≡ []))) (hears_peer x.link.hello) x.peer [] (inl g.peer_is) (inr (refl, refl));
    }

    due_sent_lem : (d : Due) (k : ℕ) (x : Slot) → SlotFor s peer x → GoodSent s peer (due_sent d s rows k x)
    due_sent_lem nothing_due k x g = tt
    due_sent_lem a_hello k x g = our_hello x g
    due_sent_lem first_ca k x g = meant (first_ca_lem x g)
    due_sent_lem kept_ca k x g = g.kept
    due_sent_lem a_csus k x g = meant (ours x (csus (map request_record (take 4 x.requests))) g (id_of x g) (requests_good x.requests g.requests))
    due_sent_lem an_update k x g =
        meant (ours x (csu_request (rows_of held_record rows (next_waiting rows k x.cursor))) g (id_of x g) (waiting_good rows k x.cursor tr))

    due_slot_lem : (d : Due) (now k : ℕ) (x : Slot) → SlotFor s peer x → SlotFor s peer (due_slot d s now rows k x)
    due_slot_lem nothing_due now k x g = g
    due_slot_lem a_hello now k x g =
        timers_kept s peer (record { hello = Some now; ca = x.timers.ca; csus = x.timers.csus; update = x.timers.update }) x g
    due_slot_lem first_ca now k x g =
        ca_timer now (with_kept (packet_of (first_ca_of s x)) x) (kept_kept s peer (packet_of (first_ca_of s x)) x (inr (first_ca_of s x, (refl, first_ca_lem x g))) g)
    due_slot_lem kept_ca now k x g = ca_timer now x g
    due_slot_lem a_csus now k x g =
        timers_kept s peer (record { hello = x.timers.hello; ca = x.timers.ca; csus = Some now; update = x.timers.update })
        (with_requests (rotated x.requests) x.missed x)
        (requests_kept s peer (rotated x.requests) x.missed x (rotated_good x.requests g.requests) g)
    due_slot_lem an_update now k x g =
        let n : ℕ = behind x.cursor (next_waiting rows k x.cursor) % rows_most in
        updates_kept s peer (one_more x.updates) (update_sent now (with_cursor n x))
        (timers_kept s peer (record { hello = x.timers.hello; ca = x.timers.ca; csus = x.timers.csus; update = Some now }) (with_cursor n x)
        (cursor_kept s peer n x g))

    pub poll_sent_lem : (now k : ℕ) (x : Slot) → SlotFor s peer x → GoodSent s peer (poll_sent s now rows k x)
    poll_sent_lem now k x g =
        let y : Slot = kept_dropped now (checked now x) in
        due_sent_lem (due_of s now rows k y) k y (checked_kept now x g)

    pub poll_slot_lem : (now k : ℕ) (x : Slot) → SlotFor s peer x → SlotFor s peer (poll_slot s now rows k x)
    poll_slot_lem now k x g =
        let y : Slot = kept_dropped now (checked now x) in
        due_slot_lem (due_of s now rows k y) now k y (checked_kept now x g)
