-- Each row stays as `Typed` says, whatever an event does to it.
-- Assumes nothing.
use Prim.Native.Nat.{ℕ, zero, suc, ◌+◌, ◌-◌, ◌≤◌, ◌<◌}
use mathlib.Core.Path.{◌≡◌, refl, sym, ap, ◌∙◌, subst}
use mathlib.Core.Bool.{Bool, true, false, not, ◌&&◌, false≢true}
use mathlib.Core.List.{List, [], ◌∷◌}
use mathlib.Core.Logic.{⊎_elim}
use native.Mathlib.Omega.{arith}
use lib.Dec.{eqb, ltb}
use lib.ListN.{length}
use lib.IntN.{ℤ, pos, negsuc, ◌+ℤ◌}
use lib.Signed.{le_z}
use borrow.Author.Tests.{ltb-true, leb-false, lt-ltb}
use Rattle.laws.specs.Choice.{pick}
use Rattle.laws.specs.Lists.{All}
use Rattle.laws.specs.Tables.{on, has, find, change}
use Rattle.protocol.specs.declared.CsaNumber.{CsaNumber}
use Rattle.protocol.specs.declared.Kind.TheVariants.{CsuRequest}
use Rattle.std.specs.Prelude.{Some, None}
use Rattle.protocol.specs.Sizes.{id_length, payload_most}
use Rattle.protocol.specs.Numbers.{csa_number, purged, spent, newer, next_csa}
use Rattle.protocol.specs.Messages.{CsaRecord}
use Rattle.protocol.specs.WellFormed.{Octets, GoodRecord}
use Rattle.rules.specs.Server.{Entry, Value, Row, free, used, is_free, holds}
use Rattle.rules.specs.Rows.{entry_row, unmarked, spread, filled, to_free, swept_row, swept, swept_if, cleared_if}
use Rattle.rules.specs.Requests.{entry_of}
use Rattle.rules.specs.Updates.{hops_most, value, stepped, changed_row, new_row, set_rows, withdraw_rows, purged_row, purge_rows, UpdateRule, null}
use Rattle.rules.specs.Updates.{purge_absent, full, stored, equal, older, value_of, row_for, renewed, waits_again, rows_by, each_row, replied}
use Rattle.rules.specs.Updates.{all_replied, answer_waits, all_answers_wait}
use Rattle.rules.specs.Refusals.{row_spent}
use Rattle.laws.proofs.Each.{all_map, all_change}
use Rattle.laws.proofs.Bools.{pick_of}
use Rattle.rules.proofs.SolicitLaws.{told_waits}
use Rattle.rules.proofs.Typed.{GoodEntry, GoodNumber, GoodRow, TypedRow}

-- ---- CSA numbers
-- a number that is not negative is not the reserved one
positive : (a : ℕ) → a < 2147483648 → GoodNumber (csa_number (pos a))
positive a h = record { fits = record { sfits = omega arith }; not_reserved = λ e. let f = ap (λ n. n.0) e in let z : ◌≡◌ {A = ℕ} 0 1 = cc in omega arith }

negative : (a : ℕ) → a < 2147483647 → GoodNumber (csa_number (negsuc a))
negative a h = record {
  fits = record { sfits = omega arith };
  not_reserved = λ e. let f = ap (λ n. n.0) e in let z : a ≡ 2147483647 = cc in omega arith;
}

above_reserved : (a : ℕ) → GoodNumber (csa_number (negsuc a)) → a < 2147483647
above_reserved a g =
    let f = g.fits.sfits in
    let n : a ≡ 2147483647 → ⊥ = λ e. g.not_reserved (ap (λ i. csa_number (negsuc i)) e) in
    omega arith

step_up : (b : ℕ) → negsuc (suc b) +ℤ pos 1 ≡ negsuc b
step_up b = rw (lt-ltb 1 (suc (suc b)) (omega arith)) (ap negsuc (omega arith))

next_good : (z : ℤ) → GoodNumber (csa_number z) → le_z (pos 2147483646) z ≡ false → GoodNumber (csa_number (z +ℤ pos 1))
next_good (pos a) g e = positive (a + 1) (omega (arith, leb-false 2147483646 a e))
next_good (negsuc zero) g e = positive 0 (omega arith)
next_good (negsuc (suc b)) g e = rw (step_up b) (negative b (omega (arith, above_reserved (suc b) g)))

next_not_purged : (z : ℤ) → le_z (pos 2147483646) z ≡ false → csa_number (z +ℤ pos 1) ≡ purged → ⊥
next_not_purged (pos a) e h =
    let f = ap (λ n. n.0) h in
    let i : a + 1 ≡ 2147483647 = cc in
    omega (arith, leb-false 2147483646 a e)
next_not_purged (negsuc zero) e h = let f = ap (λ n. n.0) h in let z : ◌≡◌ {A = ℕ} 0 2147483647 = cc in omega arith
next_not_purged (negsuc (suc b)) e h =
    let f : negsuc b ≡ pos 2147483647 = sym (step_up b) ∙ ap (λ n. n.0) h in
    let z : ◌≡◌ {A = ℕ} 0 1 = cc in
    omega arith

stepped_good : (n : CsaNumber) → GoodNumber n → GoodNumber (stepped n (next_csa n))
stepped_good n g = by (spent n) refl where
  by : (b : Bool) → spent n ≡ b → GoodNumber (stepped n (pick b None (Some (csa_number (n.0 +ℤ pos 1)))))
  by true e = g
  by false e = next_good n.0 g e

stepped_not_purged : (n : CsaNumber) → spent n ≡ false → stepped n (next_csa n) ≡ purged → ⊥
stepped_not_purged n e h = next_not_purged n.0 e (subst (λ (b : Bool). stepped n (pick b None (Some (csa_number (n.0 +ℤ pos 1)))) ≡ purged) e h)

-- ---- a row
on_false : (k : ℕ) (m : ℕ → Bool) (j : ℕ) → on k false m j ≡ true → m j ≡ true
on_false k m j = by (eqb j k) where
  by : (b : Bool) → pick b false (m j) ≡ true → m j ≡ true
  by true e = absurd (false≢true e)
  by false e = e

unmarked_good : (k : ℕ) (e : Entry) (v : Value) (m : ℕ → Bool) → GoodRow e v m → GoodRow e v (on k false m)
unmarked_good k e v m g = record { entry = g.entry; value = g.value; hops_left = λ j h. g.hops_left j (on_false k m j h) }

unmarked_typed : (k : ℕ) (r : Row) → TypedRow r → TypedRow (unmarked k r)
unmarked_typed k free g = tt
unmarked_typed k (used e v m) g = unmarked_good k e v m g

swept_typed : (r : Row) → TypedRow r → TypedRow (swept_row r)
swept_typed r g = pick_of TypedRow (to_free r) free r tt g

-- a change of ours
changed_good : (live : ℕ → Bool) (payload : List ℕ) (e : Entry) (v : Value) (m : ℕ → Bool) → length payload ≤ payload_most → Octets payload
    → (stepped v.number (next_csa v.number) ≡ purged → payload ≡ []) → GoodRow e v m
    → GoodRow e (value (stepped v.number (next_csa v.number)) payload hops_most) live
changed_good live payload e v m l o p g = record {
  entry = g.entry;
  value = record {
    number = stepped_good v.number g.value.number;
    payload_fits = l;
    payload_octets = o;
    purged_empty = p;
    remaining_fits = omega arith;
  };
  hops_left = λ k h. omega arith;
}

withdrawn_typed : (live : ℕ → Bool) (r : Row) → TypedRow r → TypedRow (changed_row live [] r)
withdrawn_typed live free g = tt
withdrawn_typed live (used e v m) g = changed_good live [] e v m (omega arith) (λ at. omega arith) (λ h. refl) g

-- the row that a set changes is not spent
set_typed : (live : ℕ → Bool) (payload : List ℕ) → length payload ≤ payload_most → Octets payload → (r : Row) → row_spent r ≡ false → TypedRow r
    → TypedRow (changed_row live payload r)
set_typed live payload l o free n g = tt
set_typed live payload l o (used e v m) n g = changed_good live payload e v m l o (λ p. absurd (stepped_not_purged v.number n p)) g

purged_typed : (live : ℕ → Bool) (r : Row) → TypedRow r → TypedRow (purged_row live r)
purged_typed live free g = tt
purged_typed live (used e v m) g = record {
  entry = g.entry;
  value = record {
    number = positive 2147483647 (omega arith);
    payload_fits = omega arith;
    payload_octets = λ at. omega arith;
    purged_empty = λ h. refl;
    remaining_fits = omega arith;
  };
  hops_left = λ k h. omega arith;
}

-- our new entry
new_typed : (live : ℕ → Bool) (e : Entry) (payload : List ℕ) → GoodEntry e → length payload ≤ payload_most → Octets payload → TypedRow (new_row live e payload)
new_typed live e payload g l o = record {
  entry = g;
  value = record {
    number = negative 2147483646 (omega arith);
    payload_fits = l;
    payload_octets = o;
    purged_empty = λ h. let f = ap (λ n. n.0) h in let z : ◌≡◌ {A = ℕ} 0 1 = cc in absurd (omega arith);
    remaining_fits = omega arith;
  };
  hops_left = λ k h. omega arith;
}

-- ---- a record that is stored
abbrev pub Update : CsaRecord → Type 0
Update r = GoodRecord id_length CsuRequest r

pub entry_good : (r : CsaRecord) → Update r → GoodEntry (entry_of r)
entry_good r g = record { some_key = g.some_key; key_fits = g.key_fits; key_octets = g.key_octets; originator = g.originator }

stored_good : (live : ℕ → Bool) (k : ℕ) (r : CsaRecord) (e : Entry) → Update r → GoodEntry e → GoodRow e (value_of r) (spread live k (r.hops - 1))
stored_good live k r e g h = record {
  entry = h;
  value = record {
    number = record { fits = g.number_fits; not_reserved = g.not_reserved };
    payload_fits = g.payload_fits;
    payload_octets = g.payload_octets;
    purged_empty = g.purged_empty;
    remaining_fits = let f = g.hops_fit in omega arith;
  };
  hops_left = λ j m. some_left (r.hops - 1) (live j && not (eqb j k)) m;
} where
  some_left : (n : ℕ) (b : Bool) → (ltb 0 n && b) ≡ true → 0 < n
  some_left n b m = by (ltb 0 n) refl m where
    by : (a : Bool) → ltb 0 n ≡ a → (a && b) ≡ true → 0 < n
    by true e q = ltb-true 0 n e
    by false e q = absurd (false≢true q)

renewed_typed : (live : ℕ → Bool) (k : ℕ) (c : CsaRecord) → Update c → (r : Row) → TypedRow r → TypedRow (renewed live k c r)
renewed_typed live k c u free g = tt
renewed_typed live k c u (used e v m) g = stored_good live k c e u g.entry

waits_again_typed : (k : ℕ) (r : Row) → TypedRow r → TypedRow (waits_again k r)
waits_again_typed k free g = tt
waits_again_typed k (used e v m) g = record { entry = g.entry; value = g.value; hops_left = by (ltb 0 v.remaining) refl } where
  by : (b : Bool) → ltb 0 v.remaining ≡ b → (j : ℕ) → pick b (on k true m) m j ≡ true → 0 < v.remaining
  by true e j h = ltb-true 0 v.remaining e
  by false e j h = g.hops_left j h

replied_typed : (k : ℕ) (n : CsaNumber) (r : Row) → TypedRow r → TypedRow (replied k n r)
replied_typed k n free g = tt
replied_typed k n (used e v m) g =
    pick_of TypedRow (newer n v.number) (used e v m) (pick (newer v.number n) (used e v m) (used e v (on k false m))) g
    (pick_of TypedRow (newer v.number n) (used e v m) (used e v (on k false m)) g (unmarked_good k e v m g))

answer_waits_typed : (k : ℕ) (n : CsaNumber) (r : Row) → TypedRow r → TypedRow (answer_waits k n r)
answer_waits_typed k n free g = tt
answer_waits_typed k n (used e v m) g = record {
  entry = g.entry;
  value = g.value;
  hops_left = λ j h. ⊎_elim (g.hops_left j) (λ w. ltb-true 0 v.remaining w.1) (told_waits k j n (used e v m) h);
}

-- ---- all rows
abbrev pub TypedRows : List Row → Type 0
TypedRows rows = All TypedRow rows

changing : (p : Row → Bool) (f : Row → Row) → ((r : Row) → TypedRow r → TypedRow (f r)) → (rows : List Row) → TypedRows rows → TypedRows (change p f rows)
changing p f h rows g = all_change TypedRow p f free rows (h (find p free rows)) g

filling : (r : Row) → TypedRow r → (rows : List Row) → TypedRows rows → TypedRows (filled r rows)
filling r t rows g = changing is_free (λ x. r) (λ x h. t) rows g

pub swept_all : (rows : List Row) → TypedRows rows → TypedRows (swept rows)
swept_all rows g = all_map TypedRow TypedRow swept_row swept_typed rows g

pub swept_if_lem : (b : Bool) (rows : List Row) → TypedRows rows → TypedRows (swept_if b rows)
swept_if_lem true rows g = swept_all rows g
swept_if_lem false rows g = g

pub cleared_all : (b : Bool) (k : ℕ) (rows : List Row) → TypedRows rows → TypedRows (cleared_if b k rows)
cleared_all true k rows g = all_map TypedRow TypedRow (unmarked k) (unmarked_typed k) rows g
cleared_all false k rows g = g

pub set_all : (live : ℕ → Bool) (e : Entry) (payload : List ℕ) (rows : List Row) → GoodEntry e → length payload ≤ payload_most → Octets payload
    → row_spent (entry_row e rows) ≡ false → TypedRows rows → TypedRows (set_rows live e payload rows)
set_all live e payload rows ge l o n g =
    pick_of TypedRows (has (holds e) rows) (change (holds e) (changed_row live payload) rows) (filled (new_row live e payload) rows)
    (all_change TypedRow (holds e) (changed_row live payload) free rows (set_typed live payload l o (entry_row e rows) n) g)
    (filling (new_row live e payload) (new_typed live e payload ge l o) rows g)

pub withdraw_all : (live : ℕ → Bool) (e : Entry) (rows : List Row) → TypedRows rows → TypedRows (withdraw_rows live e rows)
withdraw_all live e rows g = changing (holds e) (changed_row live []) (withdrawn_typed live) rows g

pub purge_all : (live : ℕ → Bool) (e : Entry) (rows : List Row) → TypedRows rows → TypedRows (purge_rows live e rows)
purge_all live e rows g = changing (holds e) (purged_row live) (purged_typed live) rows g

pub rows_by_lem : (u : UpdateRule) (live : ℕ → Bool) (k : ℕ) (r : CsaRecord) (rows : List Row) → Update r → TypedRows rows → TypedRows (rows_by u live k r rows)
rows_by_lem null live k r rows u g = g
rows_by_lem purge_absent live k r rows u g = g
rows_by_lem full live k r rows u g = g
rows_by_lem stored live k r rows u g =
    pick_of TypedRows (has (holds (entry_of r)) rows) (change (holds (entry_of r)) (renewed live k r) rows) (filled (row_for live k r) rows)
    (changing (holds (entry_of r)) (renewed live k r) (renewed_typed live k r u) rows g)
    (filling (row_for live k r) (stored_good live k r (entry_of r) u (entry_good r u)) rows g)
rows_by_lem equal live k r rows u g = changing (holds (entry_of r)) (unmarked k) (unmarked_typed k) rows g
rows_by_lem older live k r rows u g = changing (holds (entry_of r)) (waits_again k) (waits_again_typed k) rows g

each_typed : (f : CsaNumber → Row → Row) → ((n : CsaNumber) (r : Row) → TypedRow r → TypedRow (f n r)) → (rs : List CsaRecord) (rows : List Row)
    → TypedRows rows → TypedRows (each_row f rs rows)
each_typed f h [] rows g = g
each_typed f h (r ∷ rs) rows g =
    each_typed f h rs (change (holds (entry_of r)) (f r.number) rows) (changing (holds (entry_of r)) (f r.number) (h r.number) rows g)

pub replied_all : (k : ℕ) (rs : List CsaRecord) (rows : List Row) → TypedRows rows → TypedRows (all_replied k rs rows)
replied_all k = each_typed (replied k) (replied_typed k)

pub answers_all : (k : ℕ) (rs : List CsaRecord) (rows : List Row) → TypedRows rows → TypedRows (all_answers_wait k rs rows)
answers_all k = each_typed (answer_waits k) (answer_waits_typed k)
