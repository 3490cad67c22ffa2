-- What a slot keeps is a CA, or nothing; and in Summarize it keeps one.
-- Assumes nothing.
use Prim.Native.Nat.{ℕ}
use mathlib.Core.Path.{◌≡◌, refl, sym, ap, ◌∙◌}
use mathlib.Core.Bool.{Bool, true, false, ◌&&◌, false≢true}
use mathlib.Core.List.{List, [], ◌∷◌}
use lib.ListN.{get_or}
use borrow.Author.Tests.{eqb-true, not-false}
use Rattle.laws.specs.Lists.{is_empty}
use Rattle.laws.proofs.Cells.{each_set, all_alike}
use Rattle.laws.proofs.Bools.{pick_of, and_true}
use Rattle.laws.proofs.Each.{picked}
use Rattle.protocol.specs.declared.CaNumber.{CaNumber}
use Rattle.protocol.specs.declared.CaFlags.{CaFlags}
use Rattle.protocol.specs.declared.Alignment.{Alignment}
use Rattle.protocol.specs.declared.Alignment.TheVariants.{Down, Negotiate, Summarize, Update, Aligned}
use Rattle.std.specs.Prelude.{None}
use Rattle.protocol.specs.declared.Link.{Link}
use Rattle.protocol.specs.Sizes.{id_length}
use Rattle.protocol.specs.Fields.{octet}
use Rattle.protocol.specs.Messages.{CsaRecord, Message, Body, ca, csu_request, csu_reply, csus, hello}
use Rattle.protocol.specs.Layouts.{layout, packet_of}
use Rattle.protocol.specs.Reading.{Reading, refused, malformed, message, read_packet}
use Rattle.rules.specs.Server.{Settings, Row, Slot, fresh_slot, Server, slots_most, slot_at, fresh}
use Rattle.rules.specs.Links.{is_down, is_bidirectional, hears_peer, is_past, enters, recorded, negotiating, with_hello, to_other, up_move, down_move, is_live}
use Rattle.rules.specs.Links.{hello_move, malformed_move, check_move, CaRule, refuse_ca, become_slave, become_master, repeat, slave_on, master_on}
use Rattle.rules.specs.Links.{master_done, ignore, restart, ca_move}
use Rattle.protocol.specs.declared.HelloState.TheVariants.{Waiting, Bidirectional}
use Rattle.protocol.specs.Hello.{stale}
use Rattle.rules.specs.Slots.{moved, emptied, with_link, with_kept, hello_sent, passed, aligned_if, to_peer}
use Rattle.rules.specs.Alignment.{CaPacket, ca_packet, rule_for, ca_slot, taking, answer_more}
use Rattle.rules.specs.Packets.{slot_on, names_us}
use Rattle.rules.specs.Poll.{Due, nothing_due, a_hello, first_ca, kept_ca, a_csus, an_update, first_flags, due_slot, due_of, ca_interval, kept_dropped, checked}
use Rattle.rules.specs.Refusals.{unusable}
use Rattle.rules.specs.Events.{Event, add_peer, link_up, link_down, packet, poll, set, withdraw, purge, counts, code_of, Place, in_slot, nowhere}
use Rattle.rules.specs.Events.{place_of, live_in, read_slot, slot_after, slots_after, acted, server_if, step, run}
use Rattle.rules.specs.SlotHistory.{is_ca, is_request_type}
use Rattle.rules.proofs.CodeTold.{message_told}
use Rattle.rules.proofs.PastLaws.{moved_link, not_entered}

abbrev pub is_summarize : Alignment → Bool
is_summarize Down = false
is_summarize Negotiate = false
is_summarize (Summarize r) = true
is_summarize Update = false
is_summarize Aligned = false

-- what a slot in this state keeps
pub record Keeps (a : Alignment) (kept : List ℕ) : Type 0 where
  pub is_ca_lem : is_empty kept ≡ false → is_ca kept ≡ true
  pub some : is_summarize a ≡ true → is_empty kept ≡ false

abbrev pub KeepsCa : Slot → Type 0
KeepsCa x = Keeps x.link.alignment x.kept

abbrev pub KeptCa : Server → Type 0
KeptCa s = (k : ℕ) → KeepsCa (slot_at s k)

none_kept : (a : Alignment) → is_summarize a ≡ false → Keeps a []
none_kept a h = record { is_ca_lem = λ e. absurd (false≢true (sym e)); some = λ e. absurd (false≢true (sym h ∙ e)) }

-- a CA of ours
pub ca_is_ca : (s : Settings) (x : Slot) (n : CaNumber) (f : CaFlags) (rs : List CsaRecord) → is_ca (packet_of (to_peer s x (ca n f rs))) ≡ true
unfolding packet_of layout
ca_is_ca s x n f rs = refl

pub some_written : (m : Message) → is_empty (packet_of m) ≡ false
unfolding packet_of layout
some_written m = refl

one_kept : (a : Alignment) (s : Settings) (x : Slot) (n : CaNumber) (f : CaFlags) (rs : List CsaRecord) → Keeps a (packet_of (to_peer s x (ca n f rs)))
one_kept a s x n f rs = record { is_ca_lem = λ e. ca_is_ca s x n f rs; some = λ e. some_written (to_peer s x (ca n f rs)) }

-- it is no CSU Request
pub no_request_lem : (a : Alignment) (p : List ℕ) → Keeps a p → is_request_type p ≡ false
no_request_lem a [] k = refl
no_request_lem a (x ∷ xs) k = rw (eqb-true (octet (x ∷ xs) 1) 1 (k.is_ca_lem refl))

pub kept_fresh : (c : Settings) → KeptCa (fresh c)
kept_fresh c k = rw (all_alike fresh_slot slots_most k) (none_kept Down refl)

-- ---- a slot that moves: no move but that of a CA leads to Summarize
abbrev Onward : Alignment → Alignment → Type 0
Onward a b = is_summarize b ≡ true → is_summarize a ≡ true

summarize_live : (a : Alignment) → is_summarize a ≡ true → is_live a ≡ true
summarize_live Down h = absurd (false≢true h)
summarize_live Negotiate h = absurd (false≢true h)
summarize_live (Summarize r) h = refl
summarize_live Update h = absurd (false≢true h)
summarize_live Aligned h = absurd (false≢true h)

onward : (a b : Alignment) (p : List ℕ) → Onward a b → Keeps a p → Keeps b p
onward a b p f k = record { is_ca_lem = k.is_ca_lem; some = λ h. k.some (f h) }

kept_moved : (l : Link) (x : Slot) → Onward x.link.alignment l.alignment → KeepsCa x → KeepsCa (moved l x)
kept_moved l x f k =
    picked KeepsCa (enters x.link.alignment l.alignment) (emptied (with_link l x)) (with_link l x)
    (λ e. record {
      is_ca_lem = λ h. absurd (false≢true (sym h));
      some = λ h. absurd (false≢true (sym (not_entered x.link.alignment l.alignment (summarize_live l.alignment h)) ∙ e));
    })
    (λ e. onward x.link.alignment l.alignment x.kept f k)

abbrev From : Link → Link → Type 0
From l m = Onward l.alignment m.alignment

never : (a : Alignment) → Onward a Down
never a h = absurd (false≢true h)

up_from : (l : Link) → From l (up_move l)
up_from l = pick_of (From l) (is_down l.hello) (to_other Waiting l) l (never l.alignment) (λ h. h)

check_from : (now : ℕ) (l : Link) → From l (check_move now l)
check_from now l = pick_of (From l) (hears_peer l.hello && stale l.interval l.factor l.heard now) (to_other Waiting l) l (never l.alignment)
    (λ h. h)

hello_from : (now i f : ℕ) (named : Bool) (l : Link) → From l (hello_move now i f named l)
hello_from now i f true l =
    pick_of (From l) (is_bidirectional l.hello) (recorded now i f l) (negotiating (with_hello Bidirectional (recorded now i f l)))
    (λ h. h) (λ h. absurd (false≢true h))
hello_from now i f false l = never l.alignment

-- ---- a packet
module _ (s : Settings) (now : ℕ) (rows : List Row) (c : CaPacket) (x : Slot) (k : KeepsCa x) where
  done_state : (b : Bool) (a : Alignment) → a ≡ Update → is_summarize (aligned_if b a) ≡ false
  done_state b a e = rw e (pick_of (λ (z : Alignment). is_summarize z ≡ false) b Aligned Update refl refl)

  kept_ca_lem : (u : CaRule) → KeepsCa (ca_slot u s now rows c x)
  kept_ca_lem refuse_ca = k
  kept_ca_lem become_slave = one_kept _ s x _ _ _
  kept_ca_lem become_master = one_kept _ s x _ _ _
  kept_ca_lem repeat = k
  kept_ca_lem slave_on = one_kept _ s x _ _ _
  kept_ca_lem master_on = one_kept _ s x _ _ _
  kept_ca_lem master_done =
      let l = ca_move master_done c.seen (answer_more master_done rows x) x.link in
      let y : Slot = taking master_done rows c x in
      none_kept _ (done_state (is_empty y.requests) y.link.alignment (ap (λ (m : Link). m.alignment) (moved_link l x)))
  kept_ca_lem ignore = k
  kept_ca_lem restart = kept_moved (ca_move restart c.seen false x.link) x (λ h. absurd (false≢true h)) k

aligned_from : (b : Bool) (a : Alignment) → Onward a (aligned_if b a)
aligned_from b Down h = h
aligned_from b Negotiate h = h
aligned_from b (Summarize r) h = h
aligned_from true Update h = h
aligned_from false Update h = h
aligned_from b Aligned h = h

past_not : (a : Alignment) → is_past a ≡ true → is_summarize a ≡ false
past_not Down h = refl
past_not Negotiate h = refl
past_not (Summarize r) h = absurd (false≢true h)
past_not Update h = refl
past_not Aligned h = refl

kept_body : (b : Body) (s : Settings) (live : ℕ → Bool) (k now : ℕ) (rows : List Row) (m : Message) (x : Slot) → unusable s m x b ≡ false → KeepsCa x
    → KeepsCa (slot_on b s live k now rows m x)
kept_body (hello i f ids) s live k now rows m x u p =
    let named : Bool = names_us s.id m.receiver ids in
    kept_moved (hello_move now i f named x.link) x (hello_from now i f named x.link) p
kept_body (ca n f rs) s live k now rows m x u p =
    kept_ca_lem s now rows (ca_packet n f rs m.sender) x p (rule_for s.id (ca_packet n f rs m.sender) x)
kept_body (csu_request rs) s live k now rows m x u p = onward x.link.alignment _ x.kept (aligned_from _ x.link.alignment) p
kept_body (csu_reply rs) s live k now rows m x u p = p
kept_body (csus rs) s live k now rows m x u p =
    none_kept x.link.alignment (past_not x.link.alignment (not-false (is_past x.link.alignment) u))

kept_read : (r : Reading) (s : Settings) (live : ℕ → Bool) (k now : ℕ) (rows : List Row) (x : Slot)
    → ((m : Message) → r ≡ message m → unusable s m x m.body ≡ false) → KeepsCa x → KeepsCa (read_slot r s live k now rows x)
kept_read (refused c) s live k now rows x u p = p
kept_read (malformed at) s live k now rows x u p = kept_moved (malformed_move x.link) x (never x.link.alignment) p
kept_read (message m) s live k now rows x u p = kept_body m.body s live k now rows m x (u m refl) p

-- ---- a poll
kept_by : (d : Due) (s : Settings) (now : ℕ) (rows : List Row) (k : ℕ) (y : Slot) → KeepsCa y → KeepsCa (due_slot d s now rows k y)
kept_by nothing_due s now rows k y p = p
kept_by a_hello s now rows k y p = p
kept_by first_ca s now rows k y p = one_kept y.link.alignment s y y.link.number first_flags []
kept_by kept_ca s now rows k y p = p
kept_by a_csus s now rows k y p = p
kept_by an_update s now rows k y p = p

-- the slot that a poll looks at
pub kept_checked : (now : ℕ) (x : Slot) → KeepsCa x → KeepsCa (kept_dropped now (checked now x))
kept_checked now x p =
    let c = checked now x in
    let past : Bool = is_past c.link.alignment in
    let old : Bool = passed ca_interval c.timers.ca now in
    picked KeepsCa (past && old) (with_kept [] c) c
    (λ e. none_kept c.link.alignment (past_not c.link.alignment (and_true past old e).0))
    (λ e. kept_moved (check_move now x.link) x (check_from now x.link) p)

-- ---- an event
module _ (s : Server) (h : KeptCa s) where
  kept_after : (e : Event) (j : ℕ) → place_of e ≡ in_slot j → counts e (code_of s e) ≡ true
      → KeepsCa (slot_after e s.settings (live_in s.slots) s.rows (slot_at s j))
  kept_after (add_peer k id) j at c = none_kept Down refl
  kept_after (link_up k now) j at c =
      let x : Slot = slot_at s j in
      pick_of KeepsCa (is_down x.link.hello) (hello_sent None (moved (up_move x.link) x)) x
      (kept_moved (up_move x.link) x (up_from x.link) (h j)) (h j)
  kept_after (link_down k now) j at c = kept_moved (down_move (slot_at s j).link) (slot_at s j) (never (slot_at s j).link.alignment) (h j)
  kept_after (packet k now p room) j at c =
      let here : k ≡ j = cc in
      kept_read (read_packet id_length p) s.settings (live_in s.slots) k now s.rows (slot_at s j)
      (λ m e. rw (← here) (message_told s k now p room m e c)) (h j)
  kept_after (poll k now room) j at c =
      let y = kept_dropped now (checked now (slot_at s j)) in
      kept_by (due_of s.settings now s.rows k y) s.settings now s.rows k y (kept_checked now (slot_at s j) (h j))
  kept_after (set key payload) j at c = h j
  kept_after (withdraw key) j at c = h j
  kept_after (purge key) j at c = h j

  kept_place_lem : (e : Event) → counts e (code_of s e) ≡ true → (w : Place) → place_of e ≡ w → (j : ℕ) → KeepsCa (get_or (slots_after w e s) j fresh_slot)
  kept_place_lem e c (in_slot k) at j =
      each_set KeepsCa fresh_slot (slot_after e s.settings (live_in s.slots) s.rows (slot_at s k)) (kept_after e k at c) s.slots k h j
  kept_place_lem e c nowhere at j = h j

  kept_if : (e : Event) (b : Bool) → counts e (code_of s e) ≡ b → KeptCa (server_if b s e)
  unfolding acted
  kept_if e true c k = kept_place_lem e c (place_of e) refl k
  kept_if e false c k = h k

pub kept_step : (s : Server) (e : Event) → KeptCa s → KeptCa (step s e)
unfolding step
kept_step s e h = kept_if s h e (counts e (code_of s e)) refl

pub kept_run : (s : Server) (es : List Event) → KeptCa s → KeptCa (run s es)
kept_run s [] k = k
kept_run s (e ∷ es) k = kept_run (step s e) es (kept_step s e k)
