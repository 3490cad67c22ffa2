-- A CA taken, by its rule: the summaries taken in, the answer, and what is left where there is none.
-- Assumes nothing.
use Prim.Native.Nat.{ℕ, ◌<◌}
use mathlib.Core.Path.{◌≡◌, refl, sym, ap, ◌∙◌, subst}
use mathlib.Core.Bool.{Bool, true, false, ◌||◌, false≢true}
use mathlib.Core.Logic.{◌⊎◌, inl, inr}
use mathlib.Core.List.{List, []}
use Rattle.laws.specs.Choice.{pick}
use Rattle.laws.specs.Lists.{is_empty}
use Rattle.protocol.specs.declared.CaFlags.{CaFlags}
use Rattle.protocol.specs.declared.Role.{Role}
use Rattle.protocol.specs.declared.Role.TheVariants.{Slave}
use Rattle.protocol.specs.declared.Alignment.{Alignment}
use Rattle.protocol.specs.declared.Alignment.TheVariants.{Down, Negotiate, Summarize, Update, Aligned}
use Rattle.protocol.specs.declared.Link.{Link}
use Rattle.protocol.specs.Messages.{CsaRecord, Message, ca}
use Rattle.protocol.specs.Layouts.{packet_of}
use Rattle.rules.specs.Server as rules
use Rattle.rules.specs.Server.{Row, Request}
use Rattle.rules.specs.Links.{CaIn, CaRule, refuse_ca, become_slave, become_master, repeat, slave_on, master_on, master_done, ignore, restart, is_live, enters}
use Rattle.rules.specs.Links.{negotiating, ca_move}
use Rattle.rules.specs.Rows.{next_used, used_from, rows_of, cleared_if}
use Rattle.rules.specs.Requests.{Wanted, all_taken_in}
use Rattle.rules.specs.Slots.{to_peer, with_link, with_kept, with_listed, with_requests, ca_sent, emptied, moved, aligned_if, completed}
use Rattle.rules.specs.Sent.{new_packet, octets_of}
use Rattle.rules.specs.Alignment.{CaPacket, summary_record, answer_from, answer_to, answer_more, ca_flags, ca_sent_by, wanted_of, with_wanted, taking, keeping}
use Rattle.rules.specs.Alignment.{answering, ca_slot}
use Rattle.rules.proofs.PastLaws.{enters_same, moved_link}
use Rattle.memory.specs.declared.next.Picks.{Picks}
use Rattle.memory.specs.Memory.{rows_in, kept_in, Memory, memory_of, requests_of, kept_of, kept_put}
use Rattle.memory.specs.Marks.{picks_of, Picked}
use Rattle.records.specs.Walks.{TakesAll}
use Rattle.writer.specs.declared.write.Common.{Common}
use Rattle.slots.specs.declared.alignment.CaRule as code
use Rattle.slots.specs.declared.alignment.CaRule.TheVariants as codes
use Rattle.slots.specs.declared.state.Settings.{Settings}
use Rattle.slots.specs.declared.state.Slot.{Slot}
use Rattle.slots.specs.State.{settings_of, slot_of, rule_of}
use Rattle.actions.specs.declared.parts.Acted.{Acted}
use Rattle.writer.specs.Write.{Wrote}
use Rattle.actions.specs.Parts.{slot_with, Leaves, Moves, Acts}
use Rattle.actions.specs.Steps.{common_of, our_message, SendsCa, is_master, answers, taking_in, TakesCa}
use Rattle.actions.proofs.PartLaws.{kept_eight, kept_put_lem, left_rows, left_slot, leaves_as, leaves_then, leaves_requests, leaves_kept, leaves_same}
use Rattle.actions.proofs.PartLaws.{wrote_none, acts_then}
use Rattle.actions.proofs.AlignmentLaws.{kept_of_lem}

-- ---- summaries taken in
pub took_in : (k : ℕ) (rs : List CsaRecord) (l : Link) (x y r : Slot) (before after : List ℕ) (missed : ℕ) → TakesAll k rs x.missed before after missed
    → ((qs : List Request) (kept : List ℕ) → slot_of y qs kept ≡ with_link l (slot_of x qs kept))
    → ((qs ps : List Request) (kept : List ℕ) → slot_of r qs kept ≡ with_requests qs missed (slot_of y ps kept))
    → Leaves k (taking_in l (rows_in before) rs (slot_with x k before)) (rows_in before) before after r
took_in k rs l x y r before after missed t f g =
    let X : rules.Slot = slot_with x k before in
    let w : Wanted = all_taken_in (rows_in before) rs (wanted_of X) in
    leaves_requests k (taking_in l (rows_in before) rs X) before after r w.requests t.list
    (g w.requests X.requests X.kept ∙ ap (with_requests w.requests missed) (f X.requests X.kept)
    ∙ ap (λ (n : ℕ). with_requests w.requests n (with_link l X)) t.count)

-- ---- the answer is sent
-- the CA that a slot's link says
abbrev message_by : rules.Settings → rules.Slot → List Row → List ℕ → Message
message_by s x rows l =
    to_peer s x (ca x.link.number (ca_flags (is_master x.link.role) x.link.more) (rows_of summary_record rows l))

abbrev sent_slot : rules.Settings → ℕ → rules.Slot → List Row → List ℕ → ℕ → rules.Slot
sent_slot s now x rows l to = completed (keeping (new_packet (message_by s x rows l)) now to x)

module _ (k : ℕ) (q : List ℕ) (before after : List ℕ) (h : k < 8) (m : memory_of after ≡ kept_put k q (memory_of before)) where
  kept_requests : requests_of (memory_of after) k ≡ requests_of (memory_of before) k
  kept_requests = ap (λ (x : Memory). requests_of x k) m

  kept_now : kept_of (memory_of after) k ≡ q
  kept_now = ap (λ (x : Memory). kept_of x k) m ∙ kept_put_lem (memory_of before) k q (kept_eight before) h

  kept_slot : (x : Slot) → slot_with x k after ≡ slot_of x (requests_of (memory_of before) k) q
  kept_slot x = λ i. slot_of x (kept_requests i) (kept_now i)

module _ (k time : ℕ) (s : Settings) (x : Slot) (p : Picks) (before after out out' : List ℕ) where
  pub answer_sent : (c : Common) (f : CaFlags) (a b : Slot) (r : Acted) → k < 8 → c ≡ common_of s x.peer
      → f ≡ ca_flags (is_master x.link.role) x.link.more
      → SendsCa k (packet_of (our_message c (ca x.link.number f (rows_of summary_record (rows_in before) (picks_of p))))) before after out out' r.written
      → ((qs : List Request) (kept : List ℕ) → slot_of a qs kept ≡ with_listed p.next (slot_of x qs kept))
      → ((qs : List Request) (kept : List ℕ) → slot_of b qs kept ≡ ca_sent time (slot_of a qs kept))
      → slot_with r.slot k after ≡ completed (slot_with b k after)
      → Acts k (sent_slot (settings_of s) time (slot_with x k before) (rows_in before) (picks_of p) p.next) (rows_in before)
      (packet_of (message_by (settings_of s) (slot_with x k before) (rows_in before) (picks_of p))) before after out out' r
  answer_sent c f a b r h ec ef sent ea eb er =
      let M : Message = message_by (settings_of s) (slot_with x k before) (rows_in before) (picks_of p) in
      let Q : List Request = requests_of (memory_of before) k in
      let S : SendsCa k (packet_of M) before after out out' r.written =
      subst (λ (q : List ℕ). SendsCa k q before after out out' r.written)
      (λ i. packet_of (our_message (ec i) (ca x.link.number (ef i) (rows_of summary_record (rows_in before) (picks_of p))))) sent in
      record {
        left =
            leaves_kept k (sent_slot (settings_of s) time (slot_with x k before) (rows_in before) (picks_of p) p.next) before after r.slot (packet_of M)
            S.memory
            (sym (kept_slot k (packet_of M) before after h S.memory r.slot) ∙ er
            ∙ ap completed (kept_slot k (packet_of M) before after h S.memory b ∙ eb Q (packet_of M) ∙ ap (ca_sent time) (ea Q (packet_of M))));
        wrote = S.wrote;
      }

-- ---- moves that enter neither Down nor Negotiate
in_summarize : (a : Alignment) (r : Role) → enters a (Summarize r) ≡ false
in_summarize Down r = refl
in_summarize Negotiate r = refl
in_summarize (Summarize q) r = refl
in_summarize Update r = refl
in_summarize Aligned r = refl

in_update : (a : Alignment) → enters a Update ≡ false
in_update Down = refl
in_update Negotiate = refl
in_update (Summarize q) = refl
in_update Update = refl
in_update Aligned = refl

in_aligned : (a : Alignment) → enters a Aligned ≡ false
in_aligned Down = refl
in_aligned Negotiate = refl
in_aligned (Summarize q) = refl
in_aligned Update = refl
in_aligned Aligned = refl

enters_live : (a b : Alignment) → is_live b ≡ true → enters a b ≡ false
enters_live a Down h = absurd (false≢true h)
enters_live a Negotiate h = absurd (false≢true h)
enters_live a (Summarize r) h = in_summarize a r
enters_live a Update h = in_update a
enters_live a Aligned h = in_aligned a

moved_live : (l : Link) (x : rules.Slot) → is_live l.alignment ≡ true → moved l x ≡ with_link l x
moved_live l x h =
    ap (λ (b : Bool). pick b (emptied (with_link l x)) (with_link l x)) (enters_live x.link.alignment l.alignment h)

live_if : (none : Bool) (a : Alignment) → is_live a ≡ true → is_live (aligned_if none a) ≡ true
live_if none Down h = h
live_if none Negotiate h = h
live_if none (Summarize r) h = refl
live_if true Update h = refl
live_if false Update h = refl
live_if none Aligned h = refl

live_pick : (b : Bool) (r : Role) → is_live (pick b (Summarize r) Update) ≡ true
live_pick true r = refl
live_pick false r = refl

-- by a rule with an answer, and where the master is done
live_move : (u : CaRule) (c : CaIn) (more : Bool) (l : Link) → answers u ≡ true → is_live (ca_move u c more l).alignment ≡ true
live_move refuse_ca c more l h = absurd (false≢true h)
live_move become_slave c more l h = refl
live_move become_master c more l h = refl
live_move repeat c more l h = absurd (false≢true h)
live_move slave_on c more l h = live_pick (c.head.flags.more || more) Slave
live_move master_on c more l h = refl
live_move master_done c more l h = absurd (false≢true h)
live_move ignore c more l h = absurd (false≢true h)
live_move restart c more l h = absurd (false≢true h)

-- ---- the slot of the rules
module _ (rows : List Row) (c : CaPacket) (x : rules.Slot) where
  abbrev link_by : CaRule → Link
  link_by u = ca_move u c.seen (answer_more u rows x) x.link

  -- with its summaries taken in and its link moved
  abbrev slot_by : CaRule → rules.Slot
  slot_by u = taking_in (link_by u) rows c.records x

  slot_taken : (u : CaRule) → is_live (link_by u).alignment ≡ true → slot_by u ≡ taking u rows c x
  slot_taken u h = ap (with_wanted (all_taken_in rows c.records (wanted_of x))) (sym (moved_live (link_by u) x h))

  done_slot : completed (with_kept [] (slot_by master_done)) ≡ completed (with_kept [] (taking master_done rows c x))
  done_slot = ap (λ (y : rules.Slot). completed (with_kept [] y)) (slot_taken master_done refl)

  done_live : is_live (completed (with_kept [] (taking master_done rows c x))).link.alignment ≡ true
  done_live =
      subst (λ (y : rules.Slot). is_live y.link.alignment ≡ true) done_slot
      (live_if (is_empty (slot_by master_done).requests) Update refl)

  module _ (s : rules.Settings) (now : ℕ) where
    abbrev end_by : CaRule → rules.Slot
    end_by u = sent_slot s now (slot_by u) rows (next_used rows (answer_from u x)) (answer_to rows (answer_from u x))

    kept_taken : (u : CaRule) → is_live (link_by u).alignment ≡ true
        → completed (keeping (ca_sent_by u s rows c x) now (answer_to rows (answer_from u x)) (slot_by u)) ≡ completed (answering u s now rows c x)
    kept_taken u h =
        ap (λ (y : rules.Slot). completed (keeping (ca_sent_by u s rows c x) now (answer_to rows (answer_from u x)) y)) (slot_taken u h)

    answer_slot : (u : CaRule) → answers u ≡ true → end_by u ≡ ca_slot u s now rows c x
    answer_slot refuse_ca h = absurd (false≢true h)
    answer_slot become_slave h = kept_taken become_slave refl
    answer_slot become_master h = kept_taken become_master refl
    answer_slot repeat h = absurd (false≢true h)
    answer_slot slave_on h = kept_taken slave_on (live_move slave_on c.seen (answer_more slave_on rows x) x.link refl)
    answer_slot master_on h = kept_taken master_on refl
    answer_slot master_done h = absurd (false≢true h)
    answer_slot ignore h = absurd (false≢true h)
    answer_slot restart h = absurd (false≢true h)

    answer_octets : (u : CaRule) → answers u ≡ true
        → packet_of (message_by s (slot_by u) rows (next_used rows (answer_from u x))) ≡ octets_of (ca_sent_by u s rows c x)
    answer_octets refuse_ca h = absurd (false≢true h)
    answer_octets become_slave h = refl
    answer_octets become_master h = refl
    answer_octets repeat h = absurd (false≢true h)
    answer_octets slave_on h = refl
    answer_octets master_on h = refl
    answer_octets master_done h = absurd (false≢true h)
    answer_octets ignore h = absurd (false≢true h)
    answer_octets restart h = absurd (false≢true h)

    answer_live : (u : CaRule) → answers u ≡ true → is_live (ca_slot u s now rows c x).link.alignment ≡ true
    answer_live u h =
        subst (λ (y : rules.Slot). is_live y.link.alignment ≡ true) (answer_slot u h)
        (live_if (is_empty (slot_by u).requests) (link_by u).alignment (live_move u c.seen (answer_more u rows x) x.link h))

acts_as : {k : ℕ} {slot slot' : rules.Slot} {rows rows' : List Row} {p p' before after out out' : List ℕ} {r : Acted} → slot ≡ slot' → rows ≡ rows' → p ≡ p'
    → Acts k slot rows p before after out out' r → Acts k slot' rows' p' before after out out' r
acts_as {slot' = slot'} {rows' = rows'} {out = out} {out' = out'} {r = r} e f g t = record {
  left = leaves_as t.left slot' rows' e f;
  wrote = subst (λ (q : List ℕ). Wrote q out out' r.written) g t.wrote;
}

-- ---- the answer whole
module _ (u : CaRule) (h : answers u ≡ true) (k time : ℕ) (s : rules.Settings) (c : CaPacket) (x : Slot) (before : List ℕ) where
  pub answer_acts : (y : Slot) (l : Link) (picks : Picks) (from : ℕ) (mid after out out' : List ℕ) (r : Acted) → k < 8
      → from ≡ answer_from u (slot_with x k before) → Picked from (next_used (rows_in before) from) picks
      → l ≡ ca_move u c.seen (used_from (rows_in before) picks.next) x.link
      → Leaves k (taking_in l (rows_in before) c.records (slot_with x k before)) (rows_in before) before mid y
      → Acts k (sent_slot s time (slot_with y k mid) (rows_in mid) (picks_of picks) picks.next) (rows_in mid)
      (packet_of (message_by s (slot_with y k mid) (rows_in mid) (picks_of picks))) mid after out out' r
      → Acts k (ca_slot u s time (rows_in before) c (slot_with x k before)) (rows_in before)
      (octets_of (ca_sent_by u s (rows_in before) c (slot_with x k before))) before after out out' r
  answer_acts y l picks from mid after out out' r lt ef ep el left sent =
      let X : rules.Slot = slot_with x k before in
      let rows : List Row = rows_in before in
      let es : picks_of picks ≡ next_used rows (answer_from u X) = ep.chosen ∙ ap (next_used rows) ef in
      let en : picks.next ≡ answer_to rows (answer_from u X) = ep.onward ∙ ap (answer_to rows) ef in
      let ey : slot_with y k mid ≡ slot_by rows c X u =
      left_slot left lt ∙ ap (λ (z : Link). taking_in z rows c.records X) (el ∙ ap (λ (n : ℕ). ca_move u c.seen (used_from rows n) x.link) en) in
      let er : rows_in mid ≡ rows = left_rows left in
      acts_then left
      (acts_as ((λ i. sent_slot s time (ey i) (er i) (es i) (en i)) ∙ answer_slot rows c X s time u h) er
      ((λ i. packet_of (message_by s (ey i) (er i) (es i))) ∙ answer_octets rows c X s time u h) sent)

-- ---- the master is done
pub done_leaves : (k : ℕ) (c : CaPacket) (x y r : Slot) (l : Link) (before mid after : List ℕ) → k < 8
    → l ≡ ca_move master_done c.seen x.link.more x.link
    → Leaves k (taking_in l (rows_in before) c.records (slot_with x k before)) (rows_in before) before mid y
    → memory_of after ≡ kept_put k [] (memory_of mid) → slot_with r k after ≡ completed (slot_with y k after)
    → Leaves k (completed (with_kept [] (taking master_done (rows_in before) c (slot_with x k before)))) (rows_in before) before after r
done_leaves k c x y r l before mid after lt el left m er =
    let X : rules.Slot = slot_with x k before in
    let rows : List Row = rows_in before in
    let ey : slot_with y k mid ≡ slot_by rows c X master_done =
    left_slot left lt ∙ ap (λ (z : Link). taking_in z rows c.records X) el in
    let E : rules.Slot = completed (with_kept [] (taking master_done rows c X)) in
    let ends : slot_of r (requests_of (memory_of mid) k) [] ≡ E =
    sym (kept_slot k [] mid after lt m r) ∙ er ∙ ap completed (kept_slot k [] mid after lt m y)
    ∙ ap (λ (z : rules.Slot). completed (with_kept [] z)) ey ∙ done_slot rows c X in
    leaves_then left (leaves_as (leaves_kept k E mid after r [] m ends) E rows refl (left_rows left))

-- ---- a CA taken, by its rule
pub answers_of : (rule : code.CaRule) → (rule ≡ codes.BecomeSlave) ⊎ ((rule ≡ codes.BecomeMaster) ⊎ ((rule ≡ codes.SlaveOn) ⊎ (rule ≡ codes.MasterOn)))
    → answers (rule_of rule) ≡ true
answers_of rule (inl e) = ap (λ (r : code.CaRule). answers (rule_of r)) e
answers_of rule (inr (inl e)) = ap (λ (r : code.CaRule). answers (rule_of r)) e
answers_of rule (inr (inr (inl e))) = ap (λ (r : code.CaRule). answers (rule_of r)) e
answers_of rule (inr (inr (inr e))) = ap (λ (r : code.CaRule). answers (rule_of r)) e

module _ (k time : ℕ) (s : rules.Settings) (c : CaPacket) (x : Slot) (before : List ℕ) where
  abbrev slot_after : CaRule → rules.Slot
  slot_after u = ca_slot u s time (rows_in before) c (slot_with x k before)

  -- no row loses a mark
  takes_calm : (u : CaRule) (after out out' : List ℕ) (r : Acted) → enters x.link.alignment (slot_after u).link.alignment ≡ false
      → Acts k (slot_after u) (rows_in before) (octets_of (ca_sent_by u s (rows_in before) c (slot_with x k before))) before after out out' r
      → TakesCa u k time s c x before after out out' r
  takes_calm u after out out' r e t = acts_as refl (ap (λ (b : Bool). cleared_if b k (rows_in before)) (sym e)) refl t

  pub takes_answer : (u : CaRule) (after out out' : List ℕ) (r : Acted) → answers u ≡ true
      → Acts k (slot_after u) (rows_in before) (octets_of (ca_sent_by u s (rows_in before) c (slot_with x k before))) before after out out' r
      → TakesCa u k time s c x before after out out' r
  takes_answer u after out out' r h t =
      takes_calm u after out out' r
      (enters_live x.link.alignment (slot_after u).link.alignment (answer_live (rows_in before) c (slot_with x k before) s time u h)) t

  silent_acts : (slot : rules.Slot) (rows : List Row) (y : Slot) (after out : List ℕ) (r : Acted) → r ≡ record { slot = y; written = 0 }
      → Leaves k slot rows before after y → Acts k slot rows [] before after out out r
  silent_acts slot rows y after out r e l =
      subst (λ (q : Acted). Acts k slot rows [] before after out out q) (sym e) (record { left = l; wrote = wrote_none out })

  -- the slot stays as it is, and nothing is written
  takes_quiet : (u v : CaRule) (out : List ℕ) (r : Acted) → u ≡ v → slot_after v ≡ slot_with x k before
      → octets_of (ca_sent_by v s (rows_in before) c (slot_with x k before)) ≡ [] → r ≡ record { slot = x; written = 0 }
      → TakesCa u k time s c x before before out out r
  takes_quiet u v out r e f g h =
      let X : rules.Slot = slot_with x k before in
      subst (λ (w : CaRule). TakesCa w k time s c x before before out out r) (sym e)
      (takes_calm v before out out r
      (ap (λ (y : rules.Slot). enters x.link.alignment y.link.alignment) f ∙ enters_same x.link.alignment)
      (acts_as (sym f) refl (sym g) (silent_acts X (rows_in before) x before out r h (leaves_same k X before x refl))))

  pub takes_silent : (rule : code.CaRule) (out : List ℕ) (r : Acted) → (rule ≡ codes.Refuse) ⊎ (rule ≡ codes.Ignore) → r ≡ record { slot = x; written = 0 }
      → TakesCa (rule_of rule) k time s c x before before out out r
  takes_silent rule out r (inl e) h = takes_quiet (rule_of rule) refuse_ca out r (ap rule_of e) refl refl h
  takes_silent rule out r (inr e) h = takes_quiet (rule_of rule) ignore out r (ap rule_of e) refl refl h

  pub takes_repeat : (u : CaRule) (out out' : List ℕ) (r : Acted) → u ≡ repeat → k < 8
      → (slot_with r.slot k before ≡ ca_sent time (slot_with x k before)) × Wrote (kept_in before k) out out' r.written
      → TakesCa u k time s c x before before out out' r
  takes_repeat u out out' r e lt h =
      subst (λ (v : CaRule). TakesCa v k time s c x before before out out' r) (sym e)
      (takes_calm repeat before out out' r (enters_same x.link.alignment)
      (record {
        left = leaves_same k (ca_sent time (slot_with x k before)) before r.slot h.0;
        wrote = subst (λ (q : List ℕ). Wrote q out out' r.written) (sym (kept_of_lem before k lt)) h.1;
      }))

  pub takes_done : (u : CaRule) (y : Slot) (after out : List ℕ) (r : Acted) → u ≡ master_done → r ≡ record { slot = y; written = 0 }
      → Leaves k (completed (with_kept [] (taking master_done (rows_in before) c (slot_with x k before)))) (rows_in before) before after y
      → TakesCa u k time s c x before after out out r
  takes_done u y after out r e h l =
      subst (λ (v : CaRule). TakesCa v k time s c x before after out out r) (sym e)
      (takes_calm master_done after out out r
      (enters_live x.link.alignment (slot_after master_done).link.alignment (done_live (rows_in before) c (slot_with x k before)))
      (silent_acts (slot_after master_done) (rows_in before) y after out r h l))

  pub takes_restart : (u : CaRule) (l : Link) (y : Slot) (after out : List ℕ) (r : Acted) → u ≡ restart → l ≡ negotiating x.link
      → Moves k l x before after y → r ≡ record { slot = y; written = 0 } → TakesCa u k time s c x before after out out r
  takes_restart u l y after out r e el m h =
      let n : Link = negotiating x.link in
      let M : Moves k n x before after y = subst (λ (z : Link). Moves k z x before after y) el m in
      subst (λ (v : CaRule). TakesCa v k time s c x before after out out r) (sym e)
      (silent_acts (slot_after restart) (cleared_if (enters x.link.alignment (slot_after restart).link.alignment) k (rows_in before)) y after out r h
      (leaves_as M (slot_after restart) (cleared_if (enters x.link.alignment (slot_after restart).link.alignment) k (rows_in before)) refl
      (ap (λ (z : Link). cleared_if (enters x.link.alignment z.alignment) k (rows_in before))
      (sym (moved_link n (slot_with x k before))))))
