-- What a full reply to an update request does to the rows: the rows that the request named wait no longer, and no others change, so four fewer wait.
-- A reply of at most four records takes at most four marks; the request's rows are the first four that wait, going round, and each loses its
-- mark, since the reply has a record of its entry with its number.
-- Assumes nothing.
use Prim.Native.Nat.{ℕ, zero, suc, ◌+◌, ◌-◌, ◌%◌, ◌≤◌}
use mathlib.Core.Path.{◌≡◌, refl, sym, ap, ◌∙◌}
use mathlib.Core.Bool.{Bool, true, false, false≢true}
use mathlib.Core.List.{List, [], ◌∷◌}
use native.Mathlib.Omega.{arith}
use lib.ListN.{length, get_or-map}
use Rattle.laws.specs.Choice.{pick}
use Rattle.laws.specs.Lists.{All}
use Rattle.laws.specs.Tables.{on, change, count, In, here, there}
use Rattle.laws.proofs.Bools.{pick_of, is_false}
use Rattle.laws.proofs.Integers.{not_less_same}
use Rattle.laws.proofs.Cells.{each_change, change_update}
use Rattle.laws.proofs.Tallies.{tally, tally_same, tally_fewer, tally_round, count_tally, count_change}
use Rattle.laws.proofs.Tables.{on_here}
use Rattle.protocol.specs.declared.CsaNumber.{CsaNumber}
use Rattle.protocol.specs.Numbers.{newer}
use Rattle.protocol.specs.Messages.{CsaRecord}
use Rattle.rules.specs.Server.{rows_most, Entry, same_entry, Value, Row, free, used, holds, waits_for, row_at}
use Rattle.rules.specs.Rows.{next, next_waiting, used1, rows_of}
use Rattle.rules.specs.Requests.{entry_of}
use Rattle.rules.specs.Updates.{replied, all_replied}
use Rattle.rules.specs.Poll.{held_record}
use Rattle.rules.specs.Drain.{NamedIn}
use Rattle.rules.proofs.Relation.{RowsInv}
use Rattle.rules.proofs.RowsKeep.{rows_replied, grows_all_replied}

no_newer : (n : CsaNumber) → newer n n ≡ false
no_newer n = not_less_same n.0

-- ---- a reply's record only takes marks of slot k
module _ (k : ℕ) where
  abbrev Only : Row → Row → Type 0
  Only x y = waits_for k y ≡ true → waits_for k x ≡ true

  only_takes : (n : CsaNumber) (r : Row) → Only r (replied k n r)
  only_takes n free = λ h. h
  only_takes n (used e v m) =
      pick_of (Only (used e v m)) (newer n v.number) (used e v m) (pick (newer v.number n) (used e v m) (used e v (on k false m))) (λ h. h)
      (pick_of (Only (used e v m)) (newer v.number n) (used e v m) (used e v (on k false m)) (λ h. h)
      (λ h. absurd (false≢true (sym (on_here k false m) ∙ h))))

  replied_takes : (rs : List CsaRecord) (rows : List Row) (i : ℕ) → Only (row_at rows i) (row_at (all_replied k rs rows) i)
  replied_takes [] rows i h = h
  replied_takes (r ∷ rs) rows i h =
      let y = change (holds (entry_of r)) (replied k r.number) rows in
      each_change free (holds (entry_of r)) (replied k r.number) Only (λ _ t. t) rows (λ j _. only_takes r.number (row_at rows j)) i
      (replied_takes rs y i h)

  -- one mark a record
  replied_count : (rs : List CsaRecord) (rows : List Row) → count (waits_for k) rows ≤ length rs + count (waits_for k) (all_replied k rs rows)
  replied_count [] rows = omega arith
  replied_count (r ∷ rs) rows =
      let a = count_change (waits_for k) (holds (entry_of r)) (replied k r.number) rows in
      let b = replied_count rs (change (holds (entry_of r)) (replied k r.number) rows) in
      omega arith

  keeps_value : (n : CsaNumber) (e : Entry) (v : Value) (m : ℕ → Bool) → (l : ℕ → Bool) × (replied k n (used e v m) ≡ used e v l)
  keeps_value n e v m =
      pick_of (λ (x : Row). (l : ℕ → Bool) × (x ≡ used e v l)) (newer n v.number) (used e v m)
      (pick (newer v.number n) (used e v m) (used e v (on k false m))) (m, refl)
      (pick_of (λ (x : Row). (l : ℕ → Bool) × (x ≡ used e v l)) (newer v.number n) (used e v m) (used e v (on k false m)) (m, refl) (on k false m, refl))

  -- ---- the row of an entry that the reply names with its number waits no longer
  module _ (live : ℕ → Bool) (i : ℕ) (e : Entry) (v : Value) where
    row_after : (r : CsaRecord) (rows : List Row) → RowsInv live rows → (m : ℕ → Bool) → row_at rows i ≡ used e v m
        → row_at (change (holds (entry_of r)) (replied k r.number) rows) i
        ≡ pick (same_entry e (entry_of r)) (replied k r.number (used e v m)) (used e v m)
    row_after r rows z m h =
        ap (λ (l : List Row). row_at l i)
        (change_update free (holds (entry_of r)) (replied k r.number) rows (λ a b. z.once (entry_of r) a b))
        ∙ get_or-map (λ x. pick (holds (entry_of r) x) (replied k r.number x) x) rows i free
        ∙ ap (λ x. pick (holds (entry_of r) x) (replied k r.number x) x) h

    taken : (r : CsaRecord) (m : ℕ → Bool) → same_entry e (entry_of r) ≡ true → r.number ≡ v.number
        → pick (same_entry e (entry_of r)) (replied k r.number (used e v m)) (used e v m) ≡ used e v (on k false m)
    taken r m same number = rw (same, number, no_newer v.number) refl

    still_used : (r : CsaRecord) (m : ℕ → Bool) (b : Bool) → (l : ℕ → Bool) × (pick b (replied k r.number (used e v m)) (used e v m) ≡ used e v l)
    still_used r m true = keeps_value r.number e v m
    still_used r m false = (m, refl)

    clears : (rs : List CsaRecord) (rows : List Row) → RowsInv live rows → (m : ℕ → Bool) → row_at rows i ≡ used e v m → (q : CsaRecord) → In q rs
        → same_entry e (entry_of q) ≡ true → q.number ≡ v.number → waits_for k (row_at (all_replied k rs rows) i) ≡ false
    clears [] rows z m h q i same number = elim i [ ]
    clears (r ∷ rs) rows z m h q here same number =
        let y = change (holds (entry_of r)) (replied k r.number) rows in
        let now : row_at y i ≡ used e v (on k false m) = row_after r rows z m h ∙ taken r m same number in
        is_false (waits_for k (row_at (all_replied k rs y) i))
        (λ t. false≢true (sym (on_here k false m) ∙ sym (ap (waits_for k) now) ∙ replied_takes rs y i t))
    clears (r ∷ rs) rows z m h q (there n) same number =
        let y = change (holds (entry_of r)) (replied k r.number) rows in
        let f = still_used r m (same_entry e (entry_of r)) in
        clears rs y (rows_replied live k r rows z) f.0 (row_after r rows z m h ∙ f.1) q n same number

-- ---- going round from the cursor, all rows are counted
module _ (live : ℕ → Bool) (k : ℕ) where
  places : (rows : List Row) → RowsInv live rows → (c : ℕ)
      → tally (λ i. waits_for k (row_at rows (i % rows_most))) rows_most c ≡ count (waits_for k) rows
  places rows z c =
      tally_round (λ i. waits_for k (row_at rows (i % rows_most))) rows_most (λ i. ap (λ (j : ℕ). waits_for k (row_at rows j)) (omega arith)) c
      ∙ tally_same (λ i. waits_for k (row_at rows (i % rows_most))) (λ i. waits_for k (row_at rows i)) rows_most 0
      (λ i a b. ap (λ (j : ℕ). waits_for k (row_at rows j)) (omega arith))
      ∙ ap (λ (n : ℕ). tally (λ i. waits_for k (row_at rows i)) n 0) (sym z.size)
      ∙ sym (count_tally (waits_for k) free rows)

-- ---- the rows of the request
module _ (live : ℕ → Bool) (k : ℕ) (rows : List Row) (z : RowsInv live rows) (rs : List CsaRecord) where
  abbrev before : ℕ → Bool
  before i = waits_for k (row_at rows (i % rows_most))

  abbrev after : ℕ → Bool
  after i = waits_for k (row_at (all_replied k rs rows) (i % rows_most))

  named_by : (i : ℕ) (x : Row) → row_at rows i ≡ x → waits_for k x ≡ true → (more : List CsaRecord) → All (NamedIn rs) (used1 held_record x more)
      → (waits_for k (row_at (all_replied k rs rows) i) ≡ false) × All (NamedIn rs) more
  named_by i free h t more a = absurd (false≢true t)
  named_by i (used e v m) h t more a =
      (clears k live i e v rs rows z m h a.0.answer a.0.listed a.0.entry a.0.number, a.1)

  least_by : (n a b : ℕ) (q : Bool) → q ≡ false → b ≤ a - n → pick q (suc b) b ≤ suc a - suc n
  least_by n a b q e h = rw e (omega arith)

  most_by : (left n j : ℕ) → (All (NamedIn rs) (rows_of held_record rows (next before left n (suc j))) → tally after left (suc j) ≤ tally before left (suc j) - n)
      → (All (NamedIn rs) (rows_of held_record rows (next before left (suc n) (suc j))) → tally after left (suc j) ≤ tally before left (suc j) - suc n)
      → (b : Bool) → before j ≡ b → All (NamedIn rs) (rows_of held_record rows (pick b (j ∷ next before left n (suc j)) (next before left (suc n) (suc j))))
      → pick (after j) (suc (tally after left (suc j))) (tally after left (suc j))
      ≤ pick b (suc (tally before left (suc j))) (tally before left (suc j)) - suc n
  most_by left n j this next_one true e a =
      let f = named_by (j % rows_most) (row_at rows (j % rows_most)) refl e (rows_of held_record rows (next before left n (suc j))) a in
      least_by n (tally before left (suc j)) (tally after left (suc j)) (after j) f.0 (this f.1)
  most_by left n j this next_one false e a =
      rw (is_false (after j) (λ t. false≢true (sym e ∙ replied_takes k rs rows (j % rows_most) t))) (next_one a)

  most : (left n j : ℕ) → All (NamedIn rs) (rows_of held_record rows (next before left n j)) → tally after left j ≤ tally before left j - n
  unfolding next tally
  most zero n j a = omega arith
  most (suc left) zero j a = let h = tally_fewer before after (λ i. replied_takes k rs rows (i % rows_most)) (suc left) j in omega arith
  most (suc left) (suc n) j a = most_by left n j (most left n (suc j)) (most left (suc n) (suc j)) (before j) refl a

  between : (a b n : ℕ) → a ≤ n + b → n ≤ 4 → b ≤ a - 4 → b ≡ a - 4
  between a b n h few m = omega arith

  pub reply_count : (c : ℕ) → length rs ≤ 4 → All (NamedIn rs) (rows_of held_record rows (next_waiting rows k c))
      → count (waits_for k) (all_replied k rs rows) ≡ count (waits_for k) rows - 4
  reply_count c few a =
      let m = most rows_most 4 c a in
      let b = places live k rows z c in
      let d = places live k (all_replied k rs rows) (grows_all_replied live k rs rows z).inv c in
      between (count (waits_for k) rows) (count (waits_for k) (all_replied k rs rows)) (length rs) (replied_count k rs rows) few (rw b at (rw d at m))
