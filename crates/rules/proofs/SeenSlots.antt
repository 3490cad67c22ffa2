-- A slot as the history sees it, and what a CA does to it there and in the server.
-- Assumes nothing.
use Prim.Native.Nat.{ℕ, ◌+◌, ◌*◌, ◌/◌, ◌%◌}
use mathlib.Core.Path.{◌≡◌, refl, sym, ap, ◌∙◌}
use mathlib.Core.Bool.{Bool, true, false, not, ◌&&◌, ◌||◌, false≢true}
use mathlib.Core.List.{List, []}
use mathlib.Core.Logic.{◌⊎◌, inl, inr}
use lib.Dec.{eqb, leb}
use Rattle.laws.specs.Choice.{pick}
use Rattle.laws.specs.Lists.{is_empty}
use Rattle.laws.proofs.Bools.{pick_of}
use Rattle.protocol.specs.declared.CaNumber.{CaNumber}
use Rattle.protocol.specs.declared.CaFlags.{CaFlags}
use Rattle.protocol.specs.declared.Role.{Role}
use Rattle.protocol.specs.declared.Role.TheVariants.{Master, Slave}
use Rattle.protocol.specs.declared.HelloState.TheVariants.{Waiting, Bidirectional}
use Rattle.protocol.specs.declared.Alignment.{Alignment}
use Rattle.protocol.specs.declared.Alignment.TheVariants.{Down, Negotiate, Summarize, Update, Aligned}
use Rattle.protocol.specs.declared.Link.{Link}
use Rattle.std.specs.Prelude.{Option}
use Rattle.std.specs.Prelude.{None, Some}
use Rattle.protocol.specs.Numbers.{next_ca}
use Rattle.protocol.specs.Hello.{stale}
use Rattle.protocol.specs.Messages.{CsaRecord, Message, ca, csu_request, csu_reply}
use Rattle.protocol.specs.Layouts.{bit, mandatory, layout, packet_of}
use Rattle.laws.specs.Tables.{greater}
use Rattle.rules.specs.Server.{Settings, Row, Slot}
use Rattle.rules.specs.Links.{is_down, is_bidirectional, hears_peer, enters, recorded, with_hello, to_other, negotiating, up_move, hello_move, check_move}
use Rattle.rules.specs.Links.{CaIn, same_head, from_slave, CaRule, refuse_ca, become_slave, become_master, repeat, slave_on, master_on, master_done, ignore}
use Rattle.rules.specs.Links.{restart, past_rule, rule_in, ca_move}
use Rattle.rules.specs.Slots.{to_peer, with_kept, with_link, emptied, moved, completed}
use Rattle.rules.specs.Sent.{Sent, nothing, new_packet as sentPacket, octets_of}
use Rattle.rules.specs.Alignment.{CaPacket, rule_for, answer_more, answering, taking, ca_sent_by, ca_slot}
use Rattle.rules.specs.Packets.{unless_empty}
use Rattle.rules.specs.Events.{Event}
use Rattle.rules.specs.SlotHistory.{SlotHistory, more_in, ca_link, master_enters, drops_at, quiet, is_ca, time_of}
use Rattle.rules.proofs.Relation.{past_as, past_link, seen_of}
use Rattle.rules.proofs.PastLaws.{enters_past, enters_same, rule_past, ca_past, moved_link, completed_link}
use Rattle.rules.proofs.Kept.{is_summarize, KeepsCa, ca_is_ca, some_written}

-- ---- a packet of ours, as the history sees it
more_bit : (m i o : Bool) → leb 32 ((bit m * 32768 + bit i * 16384 + bit o * 8192 + 0) / 256 % 64) ≡ o
more_bit true true true = refl
more_bit true true false = refl
more_bit true false true = refl
more_bit true false false = refl
more_bit false true true = refl
more_bit false true false = refl
more_bit false false true = refl
more_bit false false false = refl

more_back : (s : Settings) (x : Slot) (n : CaNumber) (f : CaFlags) (rs : List CsaRecord) → more_in (packet_of (to_peer s x (ca n f rs))) ≡ f.more
unfolding packet_of layout mandatory
more_back s x n f rs = more_bit f.master f.initial f.more

-- what is no CA
pub reply_no_ca : (s : Settings) (x : Slot) (rs : List CsaRecord) → is_ca (octets_of (unless_empty s x csu_reply rs)) ≡ false
unfolding packet_of layout
reply_no_ca s x rs = pick_of (λ (o : Sent). is_ca (octets_of o) ≡ false) (is_empty rs) nothing (sentPacket (to_peer s x (csu_reply rs))) refl refl

pub request_no_ca : (s : Settings) (x : Slot) (rs : List CsaRecord) → is_ca (octets_of (unless_empty s x csu_request rs)) ≡ false
unfolding packet_of layout
request_no_ca s x rs = pick_of (λ (o : Sent). is_ca (octets_of o) ≡ false) (is_empty rs) nothing (sentPacket (to_peer s x (csu_request rs))) refl refl

-- ---- a slot that is seen
abbrev pub seen : Link → Bool → Option ℕ → SlotHistory
seen l kept sent = record { link = l; kept = kept; sent = sent }

-- a slot whose link moved
pub moved_seen : (l : Link) (x : Slot) → seen_of (moved l x)
    ≡ seen (past_link l) (pick (enters x.link.alignment l.alignment) false (not (is_empty x.kept)))
    (pick (enters x.link.alignment l.alignment) None x.timers.ca)
moved_seen l x = by (enters x.link.alignment l.alignment) where
  by : (b : Bool) → seen_of (pick b (emptied (with_link l x)) (with_link l x))
      ≡ seen (past_link l) (pick b false (not (is_empty x.kept))) (pick b None x.timers.ca)
  by true = refl
  by false = refl

-- no move but that of a CA leads a master into Update
pub master_same : (a : Alignment) → master_enters a a ≡ false
master_same Down = refl
master_same Negotiate = refl
master_same (Summarize r) = refl
master_same Update = refl
master_same Aligned = refl

abbrev pub Stays : Link → Link → Type 0
Stays l m = master_enters l.alignment m.alignment ≡ false

pub up_stays : (l : Link) → Stays l (up_move l)
up_stays l = pick_of (Stays l) (is_down l.hello) (to_other Waiting l) l refl (master_same l.alignment)

pub check_stays : (now : ℕ) (l : Link) → Stays l (check_move now l)
check_stays now l =
    pick_of (Stays l) (hears_peer l.hello && stale l.interval l.factor l.heard now) (to_other Waiting l) l refl (master_same l.alignment)

pub hello_stays : (now i f : ℕ) (named : Bool) (l : Link) → Stays l (hello_move now i f named l)
hello_stays now i f true l =
    pick_of (Stays l) (is_bidirectional l.hello) (recorded now i f l) (negotiating (with_hello Bidirectional (recorded now i f l)))
    (master_same l.alignment) refl
hello_stays now i f false l = refl

-- the history of a slot whose link moved, with no CA written and none dropped but by the move
quiet_by : (a b c : Bool) (kept : Bool) → b ≡ false → c ≡ false → pick (a || (b || c)) false kept ≡ pick a false kept
quiet_by true b c kept p q = refl
quiet_by false b c kept p q = rw (p, q)

pub quiet_seen : (e : Event) (l : Link) (m : Link) (x : Slot) → past_link l ≡ m → Stays (past_link x.link) m
    → ((a : Alignment) (t : Option ℕ) → drops_at e a t ≡ false)
    → seen_of (moved l x) ≡ quiet e m (seen_of x)
quiet_seen e l m x f g d =
    moved_seen l x
    ∙ (λ i. seen (f i) (pick (same i) false (not (is_empty x.kept))) (pick (same i) None x.timers.ca))
    ∙ ap (λ (b : Bool). seen m b (pick (enters (past_as x.link.alignment) m.alignment) None x.timers.ca))
    (sym (quiet_by (enters (past_as x.link.alignment) m.alignment) _ _ (not (is_empty x.kept)) g (d m.alignment _)))
  where
    same : enters x.link.alignment l.alignment ≡ enters (past_as x.link.alignment) m.alignment
    same = sym (enters_past x.link.alignment l.alignment) ∙ ap (λ (n : Link). enters (past_as x.link.alignment) n.alignment) f

-- a slot that stays, with none dropped
pub still : (e : Event) (y : SlotHistory) → ((a : Alignment) (t : Option ℕ) → drops_at e a t ≡ false) → y ≡ quiet e y.link y
still e y d =
    let a : Alignment = y.link.alignment in
    let f : enters a a ≡ false = enters_same a in
    let t : Option ℕ = pick (enters a a) None y.sent in
    let g : t ≡ y.sent = rw f in
    let h : pick (enters a a || (master_enters a a || drops_at e a t)) false y.kept ≡ y.kept = rw (f, master_same a, d a y.sent) in
    λ i. seen y.link (sym h i) (sym g i)

-- ---- the states that a rule of a CA is taken in
abbrev Comes : CaRule → Bool → Alignment → Type 0
Comes refuse_ca kept a = Unit {0}
Comes become_slave kept a = Unit {0}
Comes become_master kept a = Unit {0}
Comes repeat kept a = (is_summarize a ≡ true) ⊎ (kept ≡ true)
Comes slave_on kept a = Unit {0}
Comes master_on kept a = Unit {0}
Comes master_done kept a = a ≡ Summarize Master
Comes ignore kept a = Unit {0}
Comes restart kept a = Unit {0}

past_comes : (c : CaIn) (kept : Bool) (l : Link) (a : Alignment) (r : Role) → Comes (past_rule c kept l r) kept a
past_comes c true l a Slave = pick_of (λ u. Comes u true a) (same_head c.head l.last) repeat restart (inr refl) tt
past_comes c false l a Slave = tt
past_comes c kept l a Master = pick_of (λ u. Comes u kept a) (from_slave c.head l.number) ignore restart tt tt

module _ (id : List ℕ) (c : CaIn) (kept : Bool) (l : Link) where
  negotiated : (p q : Bool) → Comes (pick p become_slave (pick q become_master refuse_ca)) kept Negotiate
  negotiated true q = tt
  negotiated false true = tt
  negotiated false false = tt

  slaved : (p q : Bool) → Comes (pick p repeat (pick q slave_on restart)) kept (Summarize Slave)
  slaved true q = inl refl
  slaved false true = tt
  slaved false false = tt

  mastered : (p q r : Bool) → Comes (pick p (pick q master_on master_done) (pick r ignore restart)) kept (Summarize Master)
  mastered true true r = tt
  mastered true false r = refl
  mastered false q true = tt
  mastered false q false = tt

  comes : (a : Alignment) → Comes (rule_in id c kept l a) kept a
  comes Down = tt
  comes Negotiate =
      negotiated ((c.head.flags.master && (c.head.flags.initial && c.head.flags.more)) && (c.empty && greater c.sender id))
      (greater id c.sender && from_slave c.head l.number)
  comes (Summarize Slave) =
      slaved (same_head c.head l.last)
      (c.head.flags.master && (not c.head.flags.initial && eqb c.head.number.0 (next_ca l.number).0))
  comes (Summarize Master) =
      mastered (from_slave c.head l.number) (c.head.flags.more || l.more)
      (from_slave (record { number = next_ca c.head.number; flags = c.head.flags }) l.number)
  comes Update = past_comes c kept l Update l.role
  comes Aligned = past_comes c kept l Aligned l.role

-- ---- a CA moves a slot as the history says
module _ (s : Settings) (now : ℕ) (rows : List Row) (c : CaPacket) (x : Slot) (k : KeepsCa x) (e : Event) (at : time_of e ≡ now)
    (d : (a : Alignment) (t : Option ℕ) → drops_at e a t ≡ false) where
  abbrev wrote : CaRule → List ℕ
  wrote u = octets_of (ca_sent_by u s rows c x)

  -- the history's slot by the rule u
  abbrev by_rule_lem : CaRule → SlotHistory
  by_rule_lem u =
      let m = ca_move u c.seen (more_in (wrote u)) (past_link x.link) in
      pick (is_ca (wrote u)) (seen m true (Some (time_of e))) (quiet e m (seen_of x))

  -- its link, where it is moved with the O bit `more` of our answer
  by_more : (u : CaRule) (y : Slot) (more : Bool) → y.link ≡ (moved (ca_move u c.seen (answer_more u rows x) x.link) x).link → more ≡ answer_more u rows x
      → past_link y.link ≡ ca_move u c.seen more (past_link x.link)
  by_more u y more h q =
      ap past_link (h ∙ moved_link (ca_move u c.seen (answer_more u rows x) x.link) x)
      ∙ ca_past u c.seen (answer_more u rows x) x.link
      ∙ ap (λ m. ca_move u c.seen m (past_link x.link)) (sym q)

  -- after a CA was written and is kept
  kept_so : (u : CaRule) (y : Slot) → past_link y.link ≡ ca_move u c.seen (more_in (wrote u)) (past_link x.link) → is_empty y.kept ≡ false
      → y.timers.ca ≡ Some now
      → is_ca (wrote u) ≡ true → seen_of y ≡ by_rule_lem u
  kept_so u y h f t i = rw (i, at) (λ j. seen (h j) (not (f j)) (t j))

  -- an answer shows its O bit
  answer_so : (u : CaRule) (m : Message) → wrote u ≡ packet_of m → (answering u s now rows c x).link ≡ (taking u rows c x).link
      → (answering u s now rows c x).kept ≡ packet_of m
      → (answering u s now rows c x).timers.ca ≡ Some now → more_in (wrote u) ≡ answer_more u rows x → is_ca (wrote u) ≡ true
      → seen_of (completed (answering u s now rows c x)) ≡ by_rule_lem u
  answer_so u m w h f t q i =
      kept_so u (completed (answering u s now rows c x))
      (completed_link (answering u s now rows c x) ∙ by_more u (answering u s now rows c x) (more_in (wrote u)) h q)
      (ap is_empty f ∙ some_written m) t i

  again : (is_summarize x.link.alignment ≡ true) ⊎ (not (is_empty x.kept) ≡ true) → is_empty x.kept ≡ false
  again (inl h) = k.some h
  again (inr h) = by (is_empty x.kept) h where
    by : (b : Bool) → not b ≡ true → b ≡ false
    by true q = absurd (false≢true q)
    by false q = refl

  ca_seen : (u : CaRule) → Comes u (not (is_empty x.kept)) x.link.alignment → seen_of (ca_slot u s now rows c x) ≡ by_rule_lem u
  ca_seen refuse_ca f = still e (seen_of x) d
  ca_seen become_slave f = answer_so become_slave _ refl refl refl refl (more_back s x _ _ _) (ca_is_ca s x _ _ _)
  ca_seen become_master f = answer_so become_master _ refl refl refl refl (more_back s x _ _ _) (ca_is_ca s x _ _ _)
  ca_seen repeat f =
      let some = again f in
      kept_so repeat (ca_slot repeat s now rows c x) refl some refl (k.is_ca_lem some)
  ca_seen slave_on f = answer_so slave_on _ refl refl refl refl (more_back s x _ _ _) (ca_is_ca s x _ _ _)
  ca_seen master_on f = answer_so master_on _ refl refl refl refl (more_back s x _ _ _) (ca_is_ca s x _ _ _)
  ca_seen master_done f =
      let y : Slot = taking master_done rows c x in
      let h = completed_link (with_kept [] y) ∙ by_more master_done y (answer_more master_done rows x) refl refl in
      let g : master_enters (past_as x.link.alignment) Update ≡ true = rw f in
      rw g (λ i. seen (h i) false x.timers.ca)
  ca_seen ignore f = still e (seen_of x) d
  ca_seen restart f = quiet_seen e (negotiating x.link) (negotiating (past_link x.link)) x refl refl d

  -- the history's rule is the server's
  pub ca_step : seen_of (ca_slot (rule_for s.id c x) s now rows c x)
      ≡ (let m = ca_link s.id c.seen (not (is_empty x.kept)) (wrote (rule_for s.id c x)) (past_link x.link) in
      pick (is_ca (wrote (rule_for s.id c x))) (seen m true (Some (time_of e))) (quiet e m (seen_of x)))
  ca_step =
      let u : CaRule = rule_for s.id c x in
      ca_seen u (comes s.id c.seen (not (is_empty x.kept)) x.link x.link.alignment)
      ∙ ap (λ v. let m = ca_move v c.seen (more_in (wrote u)) (past_link x.link) in
      pick (is_ca (wrote u)) (seen m true (Some (time_of e))) (quiet e m (seen_of x)))
      (sym (rule_past s.id c.seen (not (is_empty x.kept)) x.link))
