-- Demand 3, `fair`: an entry that waits for a peer all through 16 update requests to it is in one of them.
-- Assumes nothing.
use Prim.Native.Nat.{ℕ, suc, ◌+◌, ◌*◌, ◌%◌, ◌≤◌, ◌<◌}
use mathlib.Core.Path.{◌≡◌, refl, sym, ap, ◌∙◌}
use mathlib.Core.Bool.{Bool, true, false, ◌&&◌, ◌||◌, false≢true}
use mathlib.Core.Logic.{◌⊎◌, inl, inr}
use mathlib.Core.List.{List, [], ◌∷◌}
use native.Mathlib.Omega.{arith}
use lib.Dec.{eqb}
use borrow.Author.Tests.{eqb-true}
use Rattle.laws.specs.Choice.{pick}
use Rattle.laws.specs.Tables.{has, count}
use Rattle.laws.proofs.Bools.{or_false, or_right, is_true, pick_of}
use Rattle.laws.proofs.Cells.{has_at, within}
use Rattle.protocol.specs.Sizes.{id_length}
use Rattle.protocol.specs.Fields.{field2}
use Rattle.protocol.specs.Messages.{CsaRecord}
use Rattle.protocol.specs.Reading.{records_at}
use Rattle.rules.specs.Server.{rows_most, Settings, Entry, same_entry, Row, free, used, holds, waits_for, Server, slot_at, row_at}
use Rattle.rules.specs.Rows.{next_waiting, behind, used1, rows_of}
use Rattle.rules.specs.Requests.{entry_of}
use Rattle.rules.specs.Poll.{held_record}
use Rattle.rules.specs.Events.{Event, step, written_at, Item, item_of, items, live_in}
use Rattle.rules.specs.History as history
use Rattle.rules.specs.History.{History, add}
use Rattle.rules.specs.SlotHistory.{is_request_type}
use Rattle.rules.specs.Demand3.{is_poll_of, request_records, is_update_to, is_update_of, WaitsThrough}
use Rattle.rules.proofs.Relation.{Inv, Rel}
use Rattle.rules.proofs.Invariant.{inv_step}
use Rattle.rules.proofs.RelStep.{rel_step}
use Rattle.rules.proofs.Waits.{waiting_row}
use Rattle.rules.proofs.NextLaws.{far, far_row, reached_or_nearer}
use Rattle.rules.proofs.Kept.{KeptCa, kept_step}
use Rattle.rules.proofs.Cursor.{CursorStep, stood, sends, cursor_step}
use Rattle.rules.proofs.Stays.{stays}

abbrev is_e : Entry → CsaRecord → Bool
is_e e r = same_entry (entry_of r) e

-- ---- a row that is chosen is written
module _ (rows : List Row) (e : Entry) (x : ℕ) (t : holds e (row_at rows (x % rows_most)) ≡ true) where
  one_more_lem : (r : Row) (rs : List CsaRecord) → has (is_e e) rs ≡ true → has (is_e e) (used1 held_record r rs) ≡ true
  one_more_lem free rs h = h
  one_more_lem (used f v m) rs h = or_right (same_entry f e) (has (is_e e) rs) h

  this_one : (r : Row) (rs : List CsaRecord) → holds e r ≡ true → has (is_e e) (used1 held_record r rs) ≡ true
  this_one free rs h = absurd (false≢true h)
  this_one (used f v m) rs h = rw h

  written_by : (j : ℕ) (js : List ℕ) → (has (λ y. eqb y x) js ≡ true → has (is_e e) (rows_of held_record rows js) ≡ true) → (b : Bool) → eqb j x ≡ b
      → (b || has (λ y. eqb y x) js) ≡ true → has (is_e e) (rows_of held_record rows (j ∷ js)) ≡ true
  written_by j js ih true q h = this_one (row_at rows (j % rows_most)) (rows_of held_record rows js) (rw (eqb-true j x q) t)
  written_by j js ih false q h = one_more_lem (row_at rows (j % rows_most)) (rows_of held_record rows js) (ih h)

  written_so : (js : List ℕ) → has (λ y. eqb y x) js ≡ true → has (is_e e) (rows_of held_record rows js) ≡ true
  written_so [] h = absurd (false≢true h)
  written_so (j ∷ js) h = written_by j js (written_so js) (eqb j x) refl h

-- a request with a record of the entry is an update of it
update_by : (p : CsaRecord → Bool) (rs : List CsaRecord) (b : Bool) → has p (pick b rs []) ≡ true → (b && has p (pick b rs [])) ≡ true
update_by p rs true h = h
update_by p rs false h = h

update_of_lem : (p : CsaRecord → Bool) (polled : Bool) (w : List ℕ) → polled ≡ true → has p (request_records w) ≡ true
    → ((polled && is_request_type w) && has p (request_records w)) ≡ true
update_of_lem p polled w e h = rw e (update_by p (records_at id_length w (field2 w 18) 28) (is_request_type w) h)

-- ---- one event brings the cursor no further away, and an update request that leaves the entry out brings it nearer
far_same : (c d i : ℕ) → c ≡ d → 0 + far c i ≤ far d i
far_same c d i z = rw z (omega arith)

near : (rows : List Row) (k i : ℕ) (e : Entry) → i < 64 → holds e (row_at rows i) ≡ true → waits_for k (row_at rows i) ≡ true
    → (c c' : ℕ) (polled : Bool) (w : List ℕ) → CursorStep rows k c c' polled w → ((polled && is_request_type w) && has (is_e e) (request_records w)) ≡ false
    → pick (polled && is_request_type w) 4 0 + far c' i ≤ far c i
near rows k i e q p t c c' polled w (stood z u) n = rw u (far_same c' c i z)
near rows k i e q p t c c' polled w (sends o b z) n = by (reached_or_nearer rows k c i q t) where
  by : (has (λ y. eqb y (c + far c i)) (next_waiting rows k c) ≡ true) ⊎ (4 + far (behind c (next_waiting rows k c) % rows_most) i ≤ far c i)
      → pick (polled && is_request_type w) 4 0 + far c' i ≤ far c i
  by (inl h) =
      absurd (false≢true (sym n
      ∙ update_of_lem (is_e e) polled w o (ap (has (is_e e)) b ∙ written_so rows e (c + far c i) (rw (far_row c i q) p) (next_waiting rows k c) h)))
  by (inr h) =
      let q : 4 + far c' i ≤ far c i = rw z h in
      pick_of (λ (n : ℕ). n + far c' i ≤ far c i) (polled && is_request_type w) 4 0 q (omega arith)

-- ---- while it is left out, the update requests are few
through_now : (c : Settings) (k : ℕ) (e : Entry) (h : History) (is : List Item) → WaitsThrough c k e h is → has (history.entry_waits k e) h.entries ≡ true
through_now c k e h [] t = t
through_now c k e h (x ∷ is) t = t.0

count_by : (n f g : ℕ) (b : Bool) → n * 4 ≤ f → pick b 4 0 + f ≤ g → pick b (suc n) n * 4 ≤ g
count_by n f g true a h = omega arith
count_by n f g false a h = omega arith

few : (c : Settings) (k i : ℕ) (e : Entry) → i < 64 → (s : Server) (h : History) (es : List Event) → Inv s → Rel c s h → KeptCa s
    → holds e (row_at s.rows i) ≡ true → WaitsThrough c k e h (items s es) → has (is_update_of k e) (items s es) ≡ false
    → count (is_update_to k) (items s es) * 4 ≤ far (slot_at s k).cursor i
few c k i e q s h [] v r a p t n = omega arith
few c k i e q s h (y ∷ es) v r a p t n =
    let s' = step s y in
    let h' = add c h (item_of s y) in
    let v' = inv_step s y v in
    let r' = rel_step c s h y v a r in
    let m = or_false (is_update_of k e (item_of s y)) (has (is_update_of k e) (items s' es)) n in
    let x = waiting_row s.rows h.entries r.rows k e t.0 in
    let z : x.0 ≡ i = v.rows.once e x.0 i x.1 p in
    let x' = waiting_row s'.rows h'.entries r'.rows k e (through_now c k e h' (items s' es) t.1) in
    let live : live_in s'.slots k ≡ true = v'.rows.alive x'.0 k x'.2 in
    let p' = stays s v y i e p (has_at free (holds e) refl s'.rows x'.0 x'.1) in
    count_by (count (is_update_to k) (items s' es)) (far (slot_at s' k).cursor i) (far (slot_at s k).cursor i) (is_update_to k (item_of s y))
    (few c k i e q s' h' es v' r' (kept_step s y a) p' t.1 m.1)
    (near s.rows k i e q p (rw (← z) x.2) (slot_at s k).cursor (slot_at s' k).cursor (is_poll_of k y) (written_at s y)
    (cursor_step s v a k y live) m.0)

too_many : (n c i : ℕ) → 16 ≤ n → n * 4 ≤ far c i → ⊥
too_many n c i a b = omega arith

pub fair : (c : Settings) (s : Server) (h : History) → Inv s → Rel c s h → KeptCa s → (k : ℕ) (e : Entry) (es : List Event)
    → WaitsThrough c k e h (items s es) → 16 ≤ count (is_update_to k) (items s es) → has (is_update_of k e) (items s es) ≡ true
fair c s h v r a k e es t many =
    let x = waiting_row s.rows h.entries r.rows k e (through_now c k e h (items s es) t) in
    let lt : x.0 < 64 = rw (← v.rows.size) (within free (holds e) refl s.rows x.0 x.1) in
    is_true (has (is_update_of k e) (items s es)) (λ n. too_many (count (is_update_to k) (items s es)) (slot_at s k).cursor x.0 many
    (few c k x.0 e lt s h es v r a x.1 t n))
