-- The rows after each record of a CSU Request, CSU Reply or CSUS, and after each change of ours.
-- Assumes nothing.
use Prim.Native.Nat.{ℕ, ◌+◌, ◌-◌, ◌≤◌}
use mathlib.Core.Path.{◌≡◌, refl, ap, ◌∙◌}
use mathlib.Core.Bool.{Bool, true, false}
use mathlib.Core.List.{List, [], ◌∷◌}
use native.Mathlib.Omega.{arith}
use lib.ListN.{length}
use Rattle.laws.specs.Choice.{pick}
use Rattle.laws.specs.Lists.{All}
use Rattle.laws.specs.Tables.{has, change}
use Rattle.laws.proofs.Integers.{to_z_any}
use Rattle.protocol.specs.declared.Kind.{Kind}
use Rattle.protocol.specs.declared.Kind.TheVariants.{Ca, CsuRequest, CsuReply, Csus, Hello}
use Rattle.protocol.specs.Checks.{Fine}
use Rattle.protocol.specs.Sizes.{id_length, payload_most}
use Rattle.protocol.specs.Fields.{octet, field4}
use Rattle.protocol.specs.declared.CsaNumber.{CsaNumber}
use Rattle.protocol.specs.Numbers.{newer}
use Rattle.protocol.specs.Messages.{CsaRecord, Message, csu_request}
use Rattle.protocol.specs.Checks.{count_at, elements_at, elements_check}
use Rattle.protocol.specs.Reading.{kind_of, record_at, records_at, body_at, message_at, message, read_packet}
use Rattle.protocol.proofs.Told.{RecordTold, told, each_record}
use Rattle.protocol.proofs.Codes.{read_as}
use Rattle.protocol.proofs.RecordExact.{key_length, originator_length, payload_length_lem}
use Rattle.rules.specs.Server.{Entry, Value, Row, free, used, is_free, is_used, holds, row_at}
use Rattle.rules.specs.Rows.{entry_row, is_purged, unmarked, filled}
use Rattle.rules.specs.Requests.{entry_of}
use Rattle.rules.specs.Updates.{changed_row, new_row, set_rows, withdraw_rows, purged_row, purge_rows, null as noRecord, purge_absent, full, stored, equal}
use Rattle.rules.specs.Updates.{older, rule_at, update_rule, value_of, renewed, waits_again, rows_by, Updated, by_rule, all_updated, each_row}
use Rattle.rules.specs.Updates.{replied, all_replied, answer_waits, all_answers_wait}
use Rattle.rules.proofs.Relation.{SizedEntry, SizedValue, RowsInv}
use Rattle.rules.proofs.Entries.{row_there}
use Rattle.rules.proofs.RowGrows.{Older, Good, spread_live, good_unmarked, good_waits_again, good_replied, good_answer_waits, good_renewed, good_changed}
use Rattle.rules.proofs.RowGrows.{good_purged, Grows, grows_refl, grows_trans, grows_change, grows_filled, of_entry}

abbrev pub SizedRecord : CsaRecord → Type 0
SizedRecord r = SizedEntry (entry_of r) × SizedValue (value_of r)

-- ---- a record of a CSU Request
module _ (live : ℕ → Bool) (k : ℕ) (r : CsaRecord) (rows : List Row) (l : live k ≡ true) (z : SizedRecord r) (v : RowsInv live rows) where
  grows_renewed : Older r.number (entry_row (entry_of r) rows) → Grows live rows (change (holds (entry_of r)) (renewed live k r) rows)
  grows_renewed o =
      grows_change live rows v (holds (entry_of r)) (renewed live k r)
      (λ i q. good_renewed live k r z.1 (row_at rows i) (of_entry live rows v (Older r.number) (entry_of r) o i q))

  -- the entry has no row; purged: it is; room: there is a free row
  absent_by : (purged room : Bool) → has (holds (entry_of r)) rows ≡ false
      → Grows live rows (rows_by (pick purged purge_absent (pick room stored full)) live k r rows)
  absent_by true room e = grows_refl live rows v
  absent_by false true e = rw e (grows_filled live rows v (entry_of r) (value_of r) _ e (spread_live live k (r.hops - 1)) z)
  absent_by false false e = grows_refl live rows v

  -- it has one; by how the numbers compare
  held_by : (f : Entry) (w : Value) (m : ℕ → Bool) → entry_row (entry_of r) rows ≡ used f w m → has (holds (entry_of r)) rows ≡ true → (b g : Bool)
      → newer r.number w.number ≡ b
      → Grows live rows (rows_by (pick b stored (pick g older equal)) live k r rows)
  held_by f w m q e true g h = rw e (grows_renewed (rw q h))
  held_by f w m q e false true h = grows_change live rows v (holds (entry_of r)) (waits_again k) (λ i _. good_waits_again live k l (row_at rows i))
  held_by f w m q e false false h = grows_change live rows v (holds (entry_of r)) (unmarked k) (λ i _. good_unmarked live k (row_at rows i))

  by_row : (null : Bool) (x : Row) → entry_row (entry_of r) rows ≡ x
      → Grows live rows (rows_by (pick null noRecord (rule_at r.number (has is_free rows) x)) live k r rows)
  by_row true x q = grows_refl live rows v
  by_row false free q = absent_by (is_purged r.number) (has is_free rows) (row_there (entry_of r) rows ∙ ap is_used q)
  by_row false (used f w m) q =
      held_by f w m q (row_there (entry_of r) rows ∙ ap is_used q) (newer r.number w.number) (newer w.number r.number) refl

  pub grows_by : Grows live rows (rows_by (update_rule r rows) live k r rows)
  grows_by = by_row r.null (entry_row (entry_of r) rows) refl

pub rows_by_lem : (live : ℕ → Bool) (k : ℕ) (r : CsaRecord) (rows : List Row) → live k ≡ true → SizedRecord r → RowsInv live rows
    → RowsInv live (rows_by (update_rule r rows) live k r rows)
rows_by_lem live k r rows l z v = (grows_by live k r rows l z v).inv

pub grows_updated : (live : ℕ → Bool) (k : ℕ) → live k ≡ true → (rs : List CsaRecord) → All SizedRecord rs → (x : Updated) → RowsInv live x.rows
    → Grows live x.rows (all_updated live k rs x).rows
grows_updated live k l [] z x v = grows_refl live x.rows v
grows_updated live k l (r ∷ rs) z x v =
    let y : Updated = by_rule (update_rule r x.rows) live k r x in
    let g : Grows live x.rows y.rows = grows_by live k r x.rows l z.0 v in
    grows_trans x.rows y.rows (all_updated live k rs y).rows g (grows_updated live k l rs z.1 y g.inv)

-- ---- the records of a CSU Reply or a CSUS: each changes the row of its entry well
module _ (live : ℕ → Bool) (f : CsaNumber → Row → Row) (good : (n : CsaNumber) (x : Row) → Good live x (f n x)) where
  grows_one : (r : CsaRecord) (rows : List Row) → RowsInv live rows → Grows live rows (change (holds (entry_of r)) (f r.number) rows)
  grows_one r rows v = grows_change live rows v (holds (entry_of r)) (f r.number) (λ i _. good r.number (row_at rows i))

  pub rows_one : (r : CsaRecord) (rows : List Row) → RowsInv live rows → RowsInv live (change (holds (entry_of r)) (f r.number) rows)
  rows_one r rows v = (grows_one r rows v).inv

  grows_each : (rs : List CsaRecord) (rows : List Row) → RowsInv live rows → Grows live rows (each_row f rs rows)
  grows_each [] rows v = grows_refl live rows v
  grows_each (r ∷ rs) rows v =
      let y : List Row = change (holds (entry_of r)) (f r.number) rows in
      let g : Grows live rows y = grows_one r rows v in
      grows_trans rows y (each_row f rs y) g (grows_each rs y g.inv)

pub rows_replied : (live : ℕ → Bool) (k : ℕ) (r : CsaRecord) (rows : List Row) → RowsInv live rows
    → RowsInv live (change (holds (entry_of r)) (replied k r.number) rows)
rows_replied live k = rows_one live (replied k) (good_replied live k)

pub grows_all_replied : (live : ℕ → Bool) (k : ℕ) (rs : List CsaRecord) (rows : List Row) → RowsInv live rows → Grows live rows (all_replied k rs rows)
grows_all_replied live k rs rows v = grows_each live (replied k) (good_replied live k) rs rows v

pub grows_answers : (live : ℕ → Bool) (k : ℕ) → live k ≡ true → (rs : List CsaRecord) (rows : List Row) → RowsInv live rows
    → Grows live rows (all_answers_wait k rs rows)
grows_answers live k l rs rows v = grows_each live (answer_waits k) (good_answer_waits live k l) rs rows v

-- ---- changes of ours
module _ (live : ℕ → Bool) (e : Entry) (rows : List Row) (v : RowsInv live rows) where
  changed_to : (payload : List ℕ) → length payload ≤ payload_most → Grows live rows (change (holds e) (changed_row live payload) rows)
  changed_to payload z = grows_change live rows v (holds e) (changed_row live payload) (λ i _. good_changed live payload z (row_at rows i) (v.sized i))

  set_by : (payload : List ℕ) → length payload ≤ payload_most → SizedEntry e → (b : Bool) → has (holds e) rows ≡ b
      → Grows live rows (pick b (change (holds e) (changed_row live payload) rows) (filled (new_row live e payload) rows))
  set_by payload z s true q = changed_to payload z
  set_by payload z s false q =
      grows_filled live rows v e _ live q (λ j h. h) (s, record { number_fits = record { sfits = omega arith }; payload_fits = z })

  pub grows_set : (payload : List ℕ) → length payload ≤ payload_most → SizedEntry e → Grows live rows (set_rows live e payload rows)
  grows_set payload z s = set_by payload z s (has (holds e) rows) refl

  pub grows_withdraw : Grows live rows (withdraw_rows live e rows)
  grows_withdraw = changed_to [] (omega arith)

  pub grows_purge : Grows live rows (purge_rows live e rows)
  grows_purge = grows_change live rows v (holds e) (purged_row live) (λ i _. good_purged live (row_at rows i) (v.sized i))

-- ---- the records that a packet was read to have
sized_at : (k : Kind) (p : List ℕ) (r : ℕ) → RecordTold id_length k p r → SizedRecord (record_at id_length p r)
unfolding record_at
sized_at k p r t =
    let key = key_length id_length k p r t in
    let pay = payload_length_lem id_length k p r t in (
      record { some_key = rw key t.some_key; key_fits = rw key t.key_fits; originator = originator_length id_length k p r t },
      record { number_fits = to_z_any (field4 p (r + 8)); payload_fits = rw pay t.payload_fits },
    )

body_sized : (k : Kind) (p : List ℕ) (n at : ℕ) (rs : List CsaRecord) → elements_check id_length k p n at ≡ Fine → body_at id_length k p n at ≡ csu_request rs
    → All SizedRecord rs
body_sized Ca p n at rs h e = let z : ◌≡◌ {A = ℕ} 0 1 = cc in absurd (omega arith)
body_sized CsuRequest p n at rs h e = let q : records_at id_length p n at ≡ rs =
    cc in rw q at (each_record id_length CsuRequest p SizedRecord (sized_at CsuRequest p) refl n at h)
body_sized CsuReply p n at rs h e = let z : ◌≡◌ {A = ℕ} 0 1 = cc in absurd (omega arith)
body_sized Csus p n at rs h e = let z : ◌≡◌ {A = ℕ} 0 1 = cc in absurd (omega arith)
body_sized Hello p n at rs h e = let z : ◌≡◌ {A = ℕ} 0 1 = cc in absurd (omega arith)

pub read_sized : (p : List ℕ) (m : Message) (rs : List CsaRecord) → read_packet id_length p ≡ message m → m.body ≡ csu_request rs → All SizedRecord rs
unfolding message_at
read_sized p m rs e b =
    let k : Kind = kind_of (octet p 1) in
    let f = read_as id_length p m e in
    body_sized k p (count_at k p) (elements_at id_length k p) rs (told id_length k p f.1).elements (ap (λ (x : Message). x.body) f.2 ∙ b)
