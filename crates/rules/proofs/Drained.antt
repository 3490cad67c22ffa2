-- Document 02, L1: the queue drain, of every server that a list of events leaves and every slot. n requests, each answered in full before the next, leave
-- `w - 4 * n` of w waiting entries waiting; so the list is empty after w/4 of them, rounded up, and no sooner. And such a request is written at
-- every poll of a slot in Aligned, a second after the last, while an entry waits and no Hello is due.
-- Assumes nothing.
use Prim.Native.Nat.{ℕ, suc, ◌+◌, ◌-◌, ◌*◌, ◌/◌, ◌<◌}
use mathlib.Core.Path.{◌≡◌, refl, ap, ◌∙◌}
use mathlib.Core.Bool.{Bool, true, ◌&&◌}
use mathlib.Core.List.{List, [], ◌∷◌}
use native.Mathlib.Omega.{arith}
use lib.ListN.{length}
use borrow.Author.Tests.{eq-eqb}
use Rattle.laws.specs.Choice.{pick}
use Rattle.laws.specs.Lists.{All}
use Rattle.laws.specs.Tables.{count}
use Rattle.laws.proofs.Bools.{pick_of}
use Rattle.laws.proofs.Tables.{count_has}
use Rattle.protocol.specs.declared.Link.{Link}
use Rattle.rules.specs.Server.{Settings, settings_code, Row, waits_for, Slot, slot_at, Server, fresh}
use Rattle.rules.specs.Links.{is_past}
use Rattle.rules.specs.Rows.{next_waiting, rows_of}
use Rattle.rules.specs.Updates.{all_replied}
use Rattle.rules.specs.Slots.{with_link, with_kept, emptied, moved, passed}
use Rattle.rules.specs.Poll.{ca_interval, held_record, an_update, due_of, kept_dropped, checked}
use Rattle.rules.specs.Events.{Event, poll, step, written_at, item_of, run}
use Rattle.rules.specs.Demand3.{is_update_to}
use Rattle.rules.specs.Drain.{waiting_for, NamedIn, Round, poll_event, reply_event, Answers, round_events, Drains, RequestDue}
use Rattle.rules.proofs.Relation.{Inv}
use Rattle.rules.proofs.RequestBack.{is_request}
use Rattle.rules.proofs.PastLaws.{enters_same}
use Rattle.rules.proofs.Kept.{KeptCa, kept_fresh, kept_step, kept_run}
use Rattle.rules.proofs.Invariant.{inv_fresh, inv_step, inv_run}
use Rattle.rules.proofs.Drain.{reply_count}
use Rattle.rules.proofs.Rounds.{asked_rows, asked_records, reply_few, answer_rows, in_slots, swept_count}

-- ---- one request and its reply
drain_one : (s : Server) → Inv s → KeptCa s → (k : ℕ) (r : Round) → Answers k s r
    → waiting_for k (step (step s (poll_event k r)) (reply_event k r)) ≡ waiting_for k s - 4
drain_one s v kept k r a =
    let t = step s (poll_event k r) in
    let w = inv_step s (poll_event k r) v in
    let same = asked_rows s v kept k r.poll_time r.poll_room a.writes in
    let asked = asked_records s v kept k r.poll_time r.poll_room a.writes in
    let rs = a.answers in
    let named : All (NamedIn rs) (rows_of held_record t.rows (next_waiting t.rows k (slot_at s k).cursor)) =
    rw (same, ← asked) a.full in
    let few = reply_few r.octets a.reply rs a.reads a.is_reply in
    ap (count (waits_for k)) (answer_rows t w k r.reply_time r.octets r.reply_room a.taken a.reply a.reads rs a.is_reply)
    ∙ swept_count k (in_slots t w k r.reply_time r.octets r.reply_room a.taken a.reply a.reads rs a.is_reply) (all_replied k rs t.rows)
    ∙ reply_count _ k t.rows w.rows rs (slot_at s k).cursor few named
    ∙ ap (λ (rows : List Row). count (waits_for k) rows - 4) same

one_more_lem : (w n : ℕ) → w - 4 - 4 * n ≡ w - 4 * suc n
one_more_lem w n = omega arith

drains : (k : ℕ) (rs : List Round) (s : Server) → Inv s → KeptCa s → Drains k s rs
    → waiting_for k (run s (round_events k rs)) ≡ waiting_for k s - 4 * length rs
drains k [] s v kept d = omega arith
drains k (r ∷ rs) s v kept d =
    let t = step s (poll_event k r) in
    drains k rs (step t (reply_event k r)) (inv_step t (reply_event k r) (inv_step s (poll_event k r) v))
    (kept_step t (reply_event k r) (kept_step s (poll_event k r) kept)) d.1
    ∙ ap (λ (n : ℕ). n - 4 * length rs) (drain_one s v kept k r d.0) ∙ one_more_lem (waiting_for k s) (length rs)

-- ---- every server that a list of events leaves
module _ (c : Settings) (accepted : settings_code c ≡ 0) (es : List Event) (k : ℕ) (rs : List Round) where
  abbrev s : Server
  s = run (fresh c) es

  pub drain : Drains k s rs → waiting_for k (run s (round_events k rs)) ≡ waiting_for k s - 4 * length rs
  drain d = drains k rs s (inv_run (fresh c) es (inv_fresh c accepted)) (kept_run (fresh c) es (kept_fresh c)) d

  all_gone : (w n : ℕ) → n ≡ (w + 3) / 4 → w - 4 * n ≡ 0
  all_gone w n e = omega arith

  some_left : (w n : ℕ) → n < (w + 3) / 4 → 0 < w - 4 * n
  some_left w n l = omega arith

  -- 'the list is empty after w/4 requests, rounded up'
  pub empty_after : Drains k s rs → length rs ≡ (waiting_for k s + 3) / 4 → waiting_for k (run s (round_events k rs)) ≡ 0
  empty_after d e = drain d ∙ all_gone (waiting_for k s) (length rs) e

  -- 'and no sooner'
  pub no_sooner : Drains k s rs → length rs < (waiting_for k s + 3) / 4 → 0 < waiting_for k (run s (round_events k rs))
  no_sooner d l = rw (drain d) (some_left (waiting_for k s) (length rs) l)

-- ---- such a request is written
module _ (s : Server) (k now room : ℕ) (a : RequestDue k now room s) where
  abbrev x : Slot
  x = slot_at s k

  pub looked : checked now x ≡ x
  looked =
      ap (λ (l : Link). moved l x) a.heard
      ∙ ap (λ (b : Bool). pick b (emptied (with_link x.link x)) (with_link x.link x)) (enters_same x.link.alignment)

  due_by : (y : Slot) → y.link ≡ x.link → y.timers ≡ x.timers → due_of s.settings now s.rows k y ≡ an_update
  due_by y l t = rw (t, a.no_hello) (rw (l, a.aligned) (rw (a.apart, count_has (waits_for k) s.rows a.waits) refl))

  pub due : due_of s.settings now s.rows k (kept_dropped now (checked now x)) ≡ an_update
  due =
      rw looked
      (pick_of (λ (y : Slot). due_of s.settings now s.rows k y ≡ an_update) (is_past x.link.alignment && passed ca_interval x.timers.ca now)
      (with_kept [] x) x (due_by (with_kept [] x) refl refl) (due_by x refl refl))

  pub request_written : is_update_to k (item_of s (poll k now room)) ≡ true
  unfolding written_at
  request_written =
      rw (eq-eqb k k refl, a.taken, due)
      (is_request s.settings (kept_dropped now (checked now x))
      (rows_of held_record s.rows (next_waiting s.rows k (kept_dropped now (checked now x)).cursor)))
