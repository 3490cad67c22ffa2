-- The two events of a round: a poll that writes an update request leaves the rows, and what it writes are the next rows that wait; the reply that is
-- taken does to the rows what its records do, and what is freed at its end waits for nobody.
-- Assumes nothing.
use Prim.Native.Nat.{ℕ, zero, suc, ◌+◌, ◌≤◌, ◌<◌}
use mathlib.Core.Path.{◌≡◌, refl, sym, ap, ◌∙◌}
use mathlib.Core.Bool.{Bool, true, false, not, ◌||◌, false≢true}
use mathlib.Core.List.{List}
use native.Mathlib.Decide.{ℕ_discrete}
use native.Mathlib.Omega.{arith}
use lib.ListN.{length}
use borrow.Author.Tests.{eqb-true, not-true}
use Rattle.laws.specs.Choice.{pick}
use Rattle.laws.specs.Tables.{count}
use Rattle.laws.proofs.Bools.{and_true, or_false, pick_of}
use Rattle.laws.proofs.Cells.{within}
use Rattle.laws.proofs.Tallies.{count_map}
use Rattle.protocol.specs.declared.Role.TheVariants.{Master, Slave}
use Rattle.protocol.specs.declared.Kind.{Kind}
use Rattle.protocol.specs.declared.Kind.TheVariants.{Ca, CsuRequest, CsuReply, Csus, Hello}
use Rattle.protocol.specs.declared.Alignment.{Alignment}
use Rattle.protocol.specs.declared.Alignment.TheVariants.{Down, Negotiate, Summarize, Update, Aligned}
use Rattle.protocol.specs.declared.Link.{Link}
use Rattle.protocol.specs.Sizes.{id_length}
use Rattle.protocol.specs.Fields.{octet}
use Rattle.protocol.specs.Checks.{count_at, elements_at}
use Rattle.protocol.specs.Messages.{CsaRecord, Message, csu_reply}
use Rattle.protocol.specs.Reading.{kind_of, records_at, message_at, message, read_packet}
use Rattle.protocol.proofs.Codes.{read_as}
use Rattle.protocol.proofs.Told.{Told, told}
use Rattle.protocol.proofs.Exact.{records_length}
use Rattle.rules.specs.Server.{slots_most, Settings, Row, free, used, waits_for, Slot, fresh_slot, Server, slot_at}
use Rattle.rules.specs.Links.{is_live, is_past, enters}
use Rattle.rules.specs.Rows.{is_purged, any_slot, to_free, swept_row, swept, cleared_if, next_waiting, rows_of}
use Rattle.rules.specs.Updates.{all_replied}
use Rattle.rules.specs.Slots.{passed}
use Rattle.rules.specs.Sent.{octets_of}
use Rattle.rules.specs.Poll.{Due, nothing_due, a_hello, first_ca, kept_ca, ca_interval}
use Rattle.rules.specs.Poll.{held_record, due_in, due_of, kept_dropped, checked, poll_slot}
use Rattle.rules.specs.Events.{Event, packet, poll, code_of, counts, alignment_at, live_in, read_slot, read_rows, acted, server_if, step, sent_if}
use Rattle.rules.specs.Events.{written_at, item_of}
use Rattle.rules.specs.SlotHistory.{is_request_type}
use Rattle.rules.specs.Demand3.{request_records, is_poll_of, is_update_to}
use Rattle.rules.proofs.Relation.{Inv}
use Rattle.rules.proofs.PastLaws.{enters_same, not_entered}
use Rattle.rules.proofs.CodeTold.{poll_in_use, packet_in_use, past_live}
use Rattle.rules.proofs.Kept.{KeptCa, kept_checked}
use Rattle.rules.proofs.UpdateCounts.{is_update, due_type, due_link, used_here}
use Rattle.rules.proofs.Ends.{acted_rows, swept_same}
use Rattle.rules.proofs.Cursor.{CursorStep, stood, sends, cursor_step}

-- ---- an update request is due past Summarize only
module _ (s : Settings) (now : ℕ) (rows : List Row) (k : ℕ) (y : Slot) where
  abbrev Past : Alignment → Due → Type 0
  Past a d = is_update d ≡ true → is_past a ≡ true

  never : (a : Alignment) → false ≡ true → is_past a ≡ true
  never a h = absurd (false≢true h)

  past_in : (a : Alignment) → Past a (due_in now rows k y a)
  past_in Down = λ h. h
  past_in Negotiate = pick_of (Past Negotiate) (passed ca_interval y.timers.ca now) first_ca nothing_due (λ h. h) (λ h. h)
  past_in (Summarize Master) = pick_of (Past (Summarize Master)) (passed ca_interval y.timers.ca now) kept_ca nothing_due (λ h. h) (λ h. h)
  past_in (Summarize Slave) = λ h. h
  past_in Update = λ _. refl
  past_in Aligned = λ _. refl

  past_due : Past y.link.alignment (due_of s now rows k y)
  past_due =
      pick_of (Past y.link.alignment) (passed s.interval y.timers.hello now) a_hello (due_in now rows k y y.link.alignment)
      (never y.link.alignment) (past_in y.link.alignment)

-- ---- an event that counts
pub step_acted : (s : Server) (e : Event) → counts e (code_of s e) ≡ true → step s e ≡ acted s e
unfolding step
step_acted s e c = ap (λ (b : Bool). server_if b s e) c

-- ---- the poll
module _ (s : Server) (v : Inv s) (kept : KeptCa s) (k now room : ℕ) (h : is_update_to k (item_of s (poll k now room)) ≡ true) where
  abbrev asked : Event
  asked = poll k now room

  written_type : is_request_type (written_at s asked) ≡ true
  written_type = (and_true (is_poll_of k asked) (is_request_type (written_at s asked)) h).1

  written_by : (b : Bool) → is_request_type (octets_of (sent_if b s asked)) ≡ true → (b ≡ true) × (is_request_type (octets_of (sent_if true s asked)) ≡ true)
  written_by true q = (refl, q)
  written_by false q = absurd (false≢true q)

  both : (counts asked (code_of s asked) ≡ true) × (is_request_type (octets_of (sent_if true s asked)) ≡ true)
  both = written_by (counts asked (code_of s asked)) (unfold written_at in written_type)

  pub asked_counts : counts asked (code_of s asked) ≡ true
  asked_counts = both.0

  abbrev x : Slot
  x = slot_at s k

  abbrev y : Slot
  y = kept_dropped now (checked now x)

  asked_past : is_past (poll_slot s.settings now s.rows k x).link.alignment ≡ true
  asked_past =
      let d = due_of s.settings now s.rows k y in
      ap (λ (l : Link). is_past l.alignment) (due_link s.settings now s.rows k y d)
      ∙ past_due s.settings now s.rows k y (sym (due_type s.settings now s.rows k y (kept_checked now x (kept k)) d) ∙ both.1)

  in_use : (slot_at s k).used ≡ true
  in_use = poll_in_use s k now room (eqb-true _ 0 (unfold code_of in asked_counts))

  alignment_after : alignment_at (acted s asked).slots k ≡ (poll_slot s.settings now s.rows k x).link.alignment
  unfolding acted
  alignment_after = ap (λ (z : Slot). z.link.alignment) (used_here (poll_slot s.settings now s.rows k x) s.slots k in_use)

  is_live_lem : is_live (alignment_at (acted s asked).slots k) ≡ true
  is_live_lem = past_live (alignment_at (acted s asked).slots k) (ap (λ (a : Alignment). not (is_past a)) alignment_after ∙ ap not asked_past)

  stays_in : enters (alignment_at s.slots k) (alignment_at (acted s asked).slots k) ≡ false
  stays_in = not_entered (alignment_at s.slots k) (alignment_at (acted s asked).slots k) is_live_lem

  cleared_none : (acted s asked).rows ≡ swept (cleared_if (enters (alignment_at s.slots k) (alignment_at (acted s asked).slots k)) k s.rows)
  cleared_none = acted_rows s asked v asked_counts ∙ (unfold acted in refl)

  pub asked_rows : (step s asked).rows ≡ s.rows
  asked_rows =
      ap (λ (t : Server). t.rows) (step_acted s asked asked_counts) ∙ cleared_none
      ∙ ap (λ (b : Bool). swept (cleared_if b k s.rows)) stays_in ∙ swept_same s.rows v.freed

  live_after : live_in (step s asked).slots k ≡ true
  live_after = ap (λ (t : Server). live_in t.slots k) (step_acted s asked asked_counts) ∙ is_live_lem

  records_by : (c' : ℕ) → CursorStep s.rows k (slot_at s k).cursor c' (is_poll_of k asked) (written_at s asked)
      → request_records (written_at s asked) ≡ rows_of held_record s.rows (next_waiting s.rows k (slot_at s k).cursor)
  records_by c' (stood z u) = absurd (false≢true (sym u ∙ h))
  records_by c' (sends o b z) = b

  pub asked_records : request_records (written_at s asked) ≡ rows_of held_record s.rows (next_waiting s.rows k (slot_at s k).cursor)
  asked_records = records_by (slot_at (step s asked) k).cursor (cursor_step s v kept k asked live_after)

-- ---- a reply has at most four records
reply_body : (k : Kind) (p : List ℕ) → Told id_length k p → (rs : List CsaRecord) → (message_at id_length k p).body ≡ csu_reply rs → length rs ≤ 4
unfolding message_at
reply_body Ca p t rs q = let z : ◌≡◌ {A = ℕ} 0 1 = cc in absurd (omega arith)
reply_body CsuRequest p t rs q = let z : ◌≡◌ {A = ℕ} 0 1 = cc in absurd (omega arith)
reply_body CsuReply p t rs q =
    let e : records_at id_length p (count_at CsuReply p) (elements_at id_length CsuReply p) ≡ rs = cc in
    rw (← e) (rw (← (records_length id_length p (count_at CsuReply p) (elements_at id_length CsuReply p))) t.common.few)
reply_body Csus p t rs q = let z : ◌≡◌ {A = ℕ} 0 1 = cc in absurd (omega arith)
reply_body Hello p t rs q = let z : ◌≡◌ {A = ℕ} 0 1 = cc in absurd (omega arith)

pub reply_few : (p : List ℕ) (m : Message) (rs : List CsaRecord) → read_packet id_length p ≡ message m → m.body ≡ csu_reply rs → length rs ≤ 4
reply_few p m rs e q =
    let f = read_as id_length p m e in
    reply_body (kind_of (octet p 1)) p (told id_length (kind_of (octet p 1)) p f.1) rs (ap (λ (n : Message). n.body) f.2 ∙ q)

-- ---- the reply
module _ (s : Server) (v : Inv s) (k now : ℕ) (p : List ℕ) (room : ℕ) (taken : code_of s (packet k now p room) ≡ 0)
    (m : Message) (reads : read_packet id_length p ≡ message m) (rs : List CsaRecord) (is_reply : m.body ≡ csu_reply rs) where
  abbrev answer : Event
  answer = packet k now p room

  answer_counts : counts answer (code_of s answer) ≡ true
  answer_counts = rw taken refl

  same_slot : read_slot (read_packet id_length p) s.settings (live_in s.slots) k now s.rows (slot_at s k) ≡ slot_at s k
  same_slot = rw (reads, is_reply) refl

  replied_rows : read_rows (read_packet id_length p) (live_in s.slots) k s.rows ≡ all_replied k rs s.rows
  replied_rows = rw (reads, is_reply) refl

  answer_in_use : (slot_at s k).used ≡ true
  answer_in_use = packet_in_use s k now p room answer_counts

  same_alignment : alignment_at (acted s answer).slots k ≡ alignment_at s.slots k
  unfolding acted
  same_alignment =
      ap (λ (z : Slot). z.link.alignment)
      (used_here (read_slot (read_packet id_length p) s.settings (live_in s.slots) k now s.rows (slot_at s k)) s.slots k answer_in_use ∙ same_slot)

  not_cleared : (acted s answer).rows
      ≡ swept (cleared_if (enters (alignment_at s.slots k) (alignment_at (acted s answer).slots k)) k
      (read_rows (read_packet id_length p) (live_in s.slots) k s.rows))
  not_cleared = acted_rows s answer v answer_counts ∙ (unfold acted in refl)

  pub answer_rows : (step s answer).rows ≡ swept (all_replied k rs s.rows)
  answer_rows =
      ap (λ (t : Server). t.rows) (step_acted s answer answer_counts) ∙ not_cleared
      ∙ (λ i. swept (cleared_if (enters (alignment_at s.slots k) (same_alignment i)) k (replied_rows i)))
      ∙ ap (λ (b : Bool). swept (cleared_if b k (all_replied k rs s.rows))) (enters_same (alignment_at s.slots k))

  pub in_slots : k < slots_most
  in_slots = rw (← v.slots) (within fresh_slot (λ (z : Slot). z.used) refl s.slots k answer_in_use)

-- ---- what the sweep frees waits for no slot
abbrev some_of : (ℕ → Bool) → ℕ → ℕ → Bool
some_of m zero j = m j
some_of m (suc n) j = m j || some_of m n (suc j)

none_of : (m : ℕ → Bool) (n j : ℕ) → some_of m n j ≡ false → (i : ℕ) → j ≤ i → i ≤ j + n → m i ≡ false
none_of m zero j h i a b = let z : i ≡ j = omega arith in rw z h
none_of m (suc n) j h i a b =
    let f = or_false (m j) (some_of m n (suc j)) h in
    by f.0 (λ c. none_of m n (suc j) f.1 i c (omega arith)) (ℕ_discrete i j)
  where
    by : m j ≡ false → (suc j ≤ i → m i ≡ false) → Dec (i ≡ j) → m i ≡ false
    by g rest (yes z) = rw z g
    by g rest (no z) = rest (omega arith)

any_none : (m : ℕ → Bool) → any_slot m ≡ false → (k : ℕ) → k < slots_most → m k ≡ false
any_none m h k l = none_of m 7 0 h k (omega arith) (omega arith)

module _ (k : ℕ) (small : k < slots_most) where
  swept_by : (r : Row) (b : Bool) → to_free r ≡ b → waits_for k (pick b free r) ≡ waits_for k r
  swept_by free true e = refl
  swept_by (used x w m) true e = sym (any_none m (not-true (any_slot m) (and_true (is_purged w.number) (not (any_slot m)) e).1) k small)
  swept_by r false e = refl

  pub swept_count : (rows : List Row) → count (waits_for k) (swept rows) ≡ count (waits_for k) rows
  swept_count rows = count_map (waits_for k) swept_row (λ r. swept_by r (to_free r) refl) rows
