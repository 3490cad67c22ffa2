-- Demand 3, `sent`: each record of an update request written at a poll is a waiting entry as it is then held.
-- Assumes nothing.
use Prim.Native.Nat.{ℕ, ◌%◌}
use mathlib.Core.Path.{◌≡◌, refl, ap, ◌∙◌}
use mathlib.Core.Bool.{Bool, true, false, ◌&&◌, false≢true}
use mathlib.Core.List.{List, [], ◌∷◌, map}
use lib.Dec.{eqb}
use lib.ListN.{length, take}
use Rattle.laws.specs.Lists.{All}
use Rattle.laws.specs.Tables.{without, In}
use borrow.Author.Tests.{eqb-true}
use Rattle.laws.proofs.Perms.{perm_in}
use Rattle.laws.proofs.Tables.{in_map}
use Rattle.laws.proofs.Cells.{in_without}
use Rattle.laws.proofs.Bools.{pick_of}
use Rattle.protocol.specs.Sizes.{id_length}
use Rattle.protocol.specs.Messages.{CsaRecord}
use Rattle.protocol.specs.Layouts.{packet_of}
use Rattle.rules.specs.Server.{rows_most, Settings, Row, free, used, is_free, waits_for, Slot, Server, slot_at, row_at}
use Rattle.rules.specs.Links.{is_past, enters, check_move}
use Rattle.rules.specs.Rows.{next_waiting, used1, rows_of}
use Rattle.rules.specs.Slots.{passed, emptied, with_link, with_kept}
use Rattle.rules.specs.Sent.{octets_of}
use Rattle.rules.specs.Poll.{Due, nothing_due, a_hello, first_ca, kept_ca, a_csus, an_update, ca_interval, first_flags, hello_of, first_ca_of, csus_of}
use Rattle.rules.specs.Poll.{request_record, held_record, update_of, due_of, due_sent, kept_dropped, checked}
use Rattle.rules.specs.Refusals.{poll_code}
use Rattle.rules.specs.Events.{poll, code_of, sent_if, written_at, item_of}
use Rattle.rules.specs.History.{Known, waits_at, History}
use Rattle.rules.specs.SlotHistory.{is_request_type}
use Rattle.rules.specs.Demand3.{row_of, request_records, HeldAndWaiting}
use Rattle.rules.proofs.Relation.{Sized, Inv, Sim, Rel}
use Rattle.rules.proofs.NextLaws.{next_passes}
use Rattle.rules.proofs.RequestBack.{Readable, request_back, not_hello, not_ca, not_csus}
use Rattle.rules.proofs.Kept.{KeepsCa, KeptCa, no_request_lem, kept_checked}
use Rattle.rules.proofs.CodeTold.{poll_in_use}

-- ---- the rows that wait are entries of the history
module _ (k : ℕ) (rows : List Row) (es : List Known) (m : Sim rows es) where
  held_by : (r : Row) → (is_free r ≡ false → In r (without is_free rows)) → waits_for k r ≡ true → (rs : List CsaRecord) → All (HeldAndWaiting k es) rs
      → All (HeldAndWaiting k es) (used1 held_record r rs)
  held_by free i t rs h = absurd (false≢true t)
  held_by (used e v w) i t rs h =
      let f = in_map row_of (used e v w) es (perm_in m (i refl)) in
      let z = f.2 in
      let q : waits_at f.0.acts ≡ w = cc in
      (record { who = f.0; listed = f.1; held = cc; waits = ap (λ (g : ℕ → Bool). g k) q ∙ t }, h)

  held_all : (js : List ℕ) → All (λ j. waits_for k (row_at rows (j % rows_most)) ≡ true) js → All (HeldAndWaiting k es) (rows_of held_record rows js)
  held_all [] h = tt
  held_all (j ∷ js) h =
      held_by (row_at rows (j % rows_most)) (in_without is_free free refl rows (j % rows_most)) h.0 (rows_of held_record rows js) (held_all js h.1)

  held_rows : (c : ℕ) → All (HeldAndWaiting k es) (rows_of held_record rows (next_waiting rows k c))
  held_rows c = held_all (next_waiting rows k c) (next_passes (λ j. waits_for k (row_at rows (j % rows_most))) 64 4 c)

-- ---- what is written is read back
plain_one : (r : Row) (rs : List CsaRecord) → Sized r → All Readable rs → All Readable (used1 held_record r rs)
plain_one free rs z h = h
plain_one (used e v m) rs z h = (record { originator_size = z.0.originator; number_fits = z.1.number_fits }, h)

plain_all : (rows : List Row) → ((i : ℕ) → Sized (row_at rows i)) → (js : List ℕ) → All Readable (rows_of held_record rows js)
plain_all rows z [] = tt
plain_all rows z (j ∷ js) = plain_one (row_at rows (j % rows_most)) (rows_of held_record rows js) (z (j % rows_most)) (plain_all rows z js)

pub update_back : (s : Server) → Inv s → (k : ℕ) (y : Slot) → length y.peer ≡ id_length
    → request_records (packet_of (update_of s.settings s.rows k y)) ≡ rows_of held_record s.rows (next_waiting s.rows k y.cursor)
update_back s v k y p =
    let js = next_waiting s.rows k y.cursor in
    request_back s.settings y (rows_of held_record s.rows js) v.own p (plain_all s.rows v.rows.sized js)

-- ---- the slot that a poll looks at has the peer of the slot
pub peer_checked : (now : ℕ) (x : Slot) → (kept_dropped now (checked now x)).peer ≡ x.peer
peer_checked now x =
    let l = check_move now x.link in
    let c = checked now x in
    let here : Slot → Type 0 = λ z. z.peer ≡ x.peer in
    let h : here c = pick_of here (enters x.link.alignment l.alignment) (emptied (with_link l x)) (with_link l x) refl refl in
    pick_of here (is_past c.link.alignment && passed ca_interval c.timers.ca now) (with_kept [] c) c h h

pub peer_length : (s : Server) → Inv s → (k now room : ℕ) → eqb (poll_code s k now room) 0 ≡ true
    → length (kept_dropped now (checked now (slot_at s k))).peer ≡ id_length
peer_length s v k now room e = ap length (peer_checked now (slot_at s k)) ∙ (v.peers k).id (poll_in_use s k now room (eqb-true (poll_code s k now room) 0 e))

-- ---- what a poll writes
no_records : (P : CsaRecord → Type 0) (p : List ℕ) → is_request_type p ≡ false → All P (request_records p)
no_records P p h = rw h tt

sent_due : (s : Server) (es : List Known) → Inv s → Sim s.rows es → (k : ℕ) (y : Slot) → KeepsCa y → length y.peer ≡ id_length → (d : Due)
    → All (HeldAndWaiting k es) (request_records (octets_of (due_sent d s.settings s.rows k y)))
sent_due s es v m k y p l nothing_due = tt
sent_due s es v m k y p l a_hello = no_records (HeldAndWaiting k es) (packet_of (hello_of s.settings y)) (not_hello s.settings y)
sent_due s es v m k y p l first_ca = no_records (HeldAndWaiting k es) (packet_of (first_ca_of s.settings y))
    (not_ca s.settings y y.link.number first_flags [])
sent_due s es v m k y p l kept_ca = no_records (HeldAndWaiting k es) y.kept (no_request_lem y.link.alignment y.kept p)
sent_due s es v m k y p l a_csus = no_records (HeldAndWaiting k es) (packet_of (csus_of s.settings y))
    (not_csus s.settings y (map request_record (take 4 y.requests)))
sent_due s es v m k y p l an_update = rw (update_back s v k y l) (held_rows k s.rows es m y.cursor)

sent_by_lem : (s : Server) (es : List Known) → Inv s → Sim s.rows es → KeptCa s → (k now room : ℕ) (b : Bool) → eqb (poll_code s k now room) 0 ≡ b
    → All (HeldAndWaiting k es) (request_records (octets_of (sent_if b s (poll k now room))))
sent_by_lem s es v m a k now room true e =
    let y = kept_dropped now (checked now (slot_at s k)) in
    sent_due s es v m k y (kept_checked now (slot_at s k) (a k)) (peer_length s v k now room e) (due_of s.settings now s.rows k y)
sent_by_lem s es v m a k now room false e = tt

pub sent : (s : Server) (h : History) (c : Settings) → Inv s → Rel c s h → KeptCa s → (k now room : ℕ)
    → All (HeldAndWaiting k h.entries) (request_records (item_of s (poll k now room)).written)
unfolding written_at code_of
sent s h c v r a k now room = sent_by_lem s h.entries v r.rows a k now room (eqb (poll_code s k now room) 0) refl
