-- What a change of rows keeps: how many there are, one for an entry, marks of live slots only, sizes; and no number falls.
-- Assumes nothing.
use Prim.Native.Nat.{ℕ, ◌-◌, ◌≤◌}
use mathlib.Core.Path.{◌≡◌, refl, sym, ◌∙◌}
use mathlib.Core.Bool.{Bool, true, false, not, ◌&&◌, false≢true}
use mathlib.Core.List.{List, map}
use mathlib.Core.Logic.{⊎_elim}
use native.Mathlib.Decide.{ℕ_discrete}
use native.Mathlib.Omega.{arith}
use lib.Dec.{eqb, ltb}
use lib.Signed.{◌≤ℤ◌, ≤ℤ_refl}
use lib.ListN.{length, length-map, get_or-map}
use borrow.Author.Tests.{eqb-true}
use Rattle.laws.specs.Choice.{pick}
use Rattle.laws.specs.Tables.{on, has, change}
use Rattle.laws.proofs.Bools.{and_true, pick_of}
use Rattle.laws.proofs.Cells.{has_false, Changed, nowhere, at_cell, changed, length_change, each_change, one_found}
use Rattle.laws.proofs.Integers.{le_of_lt, ≤ℤ_trans, le_greatest}
use Rattle.protocol.specs.declared.CsaNumber.{CsaNumber}
use Rattle.protocol.specs.Sizes.{payload_most}
use Rattle.protocol.specs.Numbers.{newer}
use Rattle.protocol.specs.Messages.{CsaRecord}
use Rattle.rules.specs.Server.{Entry, same_entry, Value, Row, free, used, is_free, holds, row_at}
use Rattle.rules.specs.Rows.{entry_row, unmarked, spread, filled}
use Rattle.rules.specs.Updates.{changed_row, purged_row, value_of, renewed, waits_again, replied, answer_waits}
use Rattle.rules.proofs.Relation.{Alive, SizedValue, Sized, RowsInv}
use Rattle.rules.proofs.CsaOrder.{stepped_good}
use Rattle.rules.proofs.Entries.{entry_true}
use Rattle.rules.proofs.SolicitLaws.{told_waits}

-- the row's number is smaller
abbrev pub Older : CsaNumber → Row → Type 0
Older n free = Unit {0}
Older n (used e v m) = newer n v.number ≡ true

-- ---- one row before and after
-- the entry is still there, and its number has not fallen
abbrev pub Keep : Row → Row → Type 0
Keep free r = Unit {0}
Keep (used e v m) free = ⊥
Keep (used e v m) (used f w n) = (e ≡ f) × (v.number.0 ≤ℤ w.number.0)

pub keep_refl : (r : Row) → Keep r r
keep_refl free = tt
keep_refl (used e v m) = (refl, ≤ℤ_refl v.number.0)

keep_trans : (a b c : Row) → Keep a b → Keep b c → Keep a c
keep_trans free b c p q = tt
keep_trans (used e v m) free c p q = absurd p
keep_trans (used e v m) (used f w n) free p q = absurd q
keep_trans (used e v m) (used f w n) (used g u o) p q = (p.0 ∙ q.0, ≤ℤ_trans p.1 q.1)

keep_free : (x y : Row) → is_free x ≡ true → Keep x y
keep_free free y h = tt
keep_free (used e v m) y h = absurd (false≢true h)

-- a change of a row that leaves its entry in it
pub record Good (live : ℕ → Bool) (a b : Row) : Type 0 where
  pub keep : Keep a b
  pub same : (e : Entry) → holds e b ≡ holds e a
  pub alive : Alive live a → Alive live b
  pub sized : Sized a → Sized b

module _ (live : ℕ → Bool) where
  good_refl : (r : Row) → Good live r r
  good_refl r = record { keep = keep_refl r; same = λ e. refl; alive = λ h. h; sized = λ h. h }

  -- ---- marks
  off_by : (m : ℕ → Bool) (j : ℕ) (b : Bool) → pick b false (m j) ≡ true → m j ≡ true
  off_by m j true e = absurd (false≢true e)
  off_by m j false e = e

  on_by : (k : ℕ) (m : ℕ → Bool) → live k ≡ true → (j : ℕ) (b : Bool) → eqb j k ≡ b → (m j ≡ true → live j ≡ true) → pick b true (m j) ≡ true → live j ≡ true
  on_by k m l j true q h e = rw (eqb-true j k q) l
  on_by k m l j false q h e = h e

  pub spread_live : (k r j : ℕ) → spread live k r j ≡ true → live j ≡ true
  spread_live k r j e = (and_true (live j) (not (eqb j k)) (and_true (ltb 0 r) (live j && not (eqb j k)) e).1).0

  good_off : (k : ℕ) (e : Entry) (v : Value) (m : ℕ → Bool) → Good live (used e v m) (used e v (on k false m))
  good_off k e v m = record { keep = keep_refl (used e v m); same = λ f. refl; alive = λ h j q. h j (off_by m j (eqb j k) q); sized = λ h. h }

  pub good_unmarked : (k : ℕ) (x : Row) → Good live x (unmarked k x)
  good_unmarked k free = good_refl free
  good_unmarked k (used e v m) = good_off k e v m

  pub good_waits_again : (k : ℕ) → live k ≡ true → (x : Row) → Good live x (waits_again k x)
  good_waits_again k l free = good_refl free
  good_waits_again k l (used e v m) = pick_of (λ (n : ℕ → Bool). Good live (used e v m) (used e v n)) (ltb 0 v.remaining) (on k true m) m
      (record { keep = keep_refl (used e v m); same = λ f. refl; alive = λ h j q. on_by k m l j (eqb j k) refl (h j) q; sized = λ h. h })
      (good_refl (used e v m))

  pub good_replied : (k : ℕ) (n : CsaNumber) (x : Row) → Good live x (replied k n x)
  good_replied k n free = good_refl free
  good_replied k n (used e v m) =
      let x : Row = used e v m in
      pick_of (Good live x) (newer n v.number) x _ (good_refl x)
      (pick_of (Good live x) (newer v.number n) x (used e v (on k false m)) (good_refl x) (good_off k e v m))

  pub good_answer_waits : (k : ℕ) → live k ≡ true → (n : CsaNumber) (x : Row) → Good live x (answer_waits k n x)
  good_answer_waits k l n free = good_refl free
  good_answer_waits k l n (used e v m) = record {
    keep = keep_refl (used e v m);
    same = λ f. refl;
    alive = λ h j q. ⊎_elim (h j) (λ w. rw (eqb-true j k w.0) l) (told_waits k j n (used e v m) q);
    sized = λ h. h;
  }

  -- ---- values
  pub good_renewed : (k : ℕ) (r : CsaRecord) → SizedValue (value_of r) → (x : Row) → Older r.number x → Good live x (renewed live k r x)
  good_renewed k r z free h = good_refl free
  good_renewed k r z (used e v m) h =
      record {
        keep = (refl, le_of_lt v.number.0 r.number.0 h);
        same = λ f. refl;
        alive = λ _ j q. spread_live k (r.hops - 1) j q;
        sized = λ s. (s.0, z);
      }

  pub good_changed : (payload : List ℕ) → length payload ≤ payload_most → (x : Row) → Sized x → Good live x (changed_row live payload x)
  good_changed payload z free s = good_refl free
  good_changed payload z (used e v m) s =
      let g = stepped_good v.number s.1.number_fits in
      record {
        keep = (refl, g.1);
        same = λ f. refl;
        alive = λ _ j q. q;
        sized = λ _. (s.0, record { number_fits = g.0; payload_fits = z });
      }

  pub good_purged : (x : Row) → Sized x → Good live x (purged_row live x)
  good_purged free s = good_refl free
  good_purged (used e v m) s =
      record {
        keep = (refl, le_greatest v.number.0 s.1.number_fits);
        same = λ f. refl;
        alive = λ _ j q. q;
        sized = λ _. (s.0, record { number_fits = record { sfits = omega arith }; payload_fits = omega arith });
      }

-- ---- the rows after a change, and each row before and after
pub record Grows (live : ℕ → Bool) (a b : List Row) : Type 0 where
  pub inv : RowsInv live b
  pub keep : (i : ℕ) → Keep (row_at a i) (row_at b i)

pub grows_trans : {l m : ℕ → Bool} (a b c : List Row) → Grows l a b → Grows m b c → Grows m a c
grows_trans a b c p q = record { inv = q.inv; keep = λ i. keep_trans (row_at a i) (row_at b i) (row_at c i) (p.keep i) (q.keep i) }

module _ (live : ℕ → Bool) where
  pub grows_refl : (a : List Row) → RowsInv live a → Grows live a a
  grows_refl a v = record { inv = v; keep = λ i. keep_refl (row_at a i) }

  module _ (a : List Row) (v : RowsInv live a) where
    -- each row changed well
    grows_each : (b : List Row) → length b ≡ length a → ((i : ℕ) → Good live (row_at a i) (row_at b i)) → Grows live a b
    grows_each b len g =
        record {
          inv = record {
            size = len ∙ v.size;
            once = λ e i j p q. v.once e i j (sym ((g i).same e) ∙ p) (sym ((g j).same e) ∙ q);
            alive = λ i. (g i).alive (v.alive i);
            sized = λ i. (g i).sized (v.sized i);
          };
          keep = λ i. (g i).keep;
        }

    pub grows_change : (p : Row → Bool) (f : Row → Row) → ((i : ℕ) → p (row_at a i) ≡ true → Good live (row_at a i) (f (row_at a i))) → Grows live a (change p f a)
    grows_change p f g = grows_each (change p f a) (length_change free p f a) (each_change free p f (Good live) (good_refl live) a g)

    -- a free row is taken by an entry that had none
    module _ (e : Entry) (w : Value) (m : ℕ → Bool) (absent : has (holds e) a ≡ false) (ok : Alive live (used e w m)) (fits : Sized (used e w m)) where
      clash : (i : ℕ) (f : Entry) → same_entry e f ≡ true → holds f (row_at a i) ≡ true → ⊥
      clash i f q h = false≢true (sym (has_false free (holds e) refl a absent i) ∙ rw (sym (entry_true e f q)) at h)

      grows_at : (b : List Row) → length b ≡ length a → Changed free is_free (λ _. used e w m) a b → Grows live a b
      grows_at b len (nowhere h) = grows_each b len (λ i. rw (h i) (good_refl live (row_at a i)))
      grows_at b len (at_cell k q z h) =
          record {
            inv = record {
              size = len ∙ v.size;
              once = λ f i j p r. once_by f i j p r (ℕ_discrete i k) (ℕ_discrete j k);
              alive = λ i. alive_by i (ℕ_discrete i k);
              sized = λ i. sized_by i (ℕ_discrete i k);
            };
            keep = λ i. keep_by i (ℕ_discrete i k);
          } where
            keep_by : (i : ℕ) → Dec (i ≡ k) → Keep (row_at a i) (row_at b i)
            keep_by i (yes y) = keep_free (row_at a i) (row_at b i) (rw y q)
            keep_by i (no n) = rw (h i n) (keep_refl (row_at a i))

            alive_by : (i : ℕ) → Dec (i ≡ k) → Alive live (row_at b i)
            alive_by i (yes y) = rw (y, z) ok
            alive_by i (no n) = rw (h i n) (v.alive i)

            sized_by : (i : ℕ) → Dec (i ≡ k) → Sized (row_at b i)
            sized_by i (yes y) = rw (y, z) fits
            sized_by i (no n) = rw (h i n) (v.sized i)

            once_by : (f : Entry) (i j : ℕ) → holds f (row_at b i) ≡ true → holds f (row_at b j) ≡ true → Dec (i ≡ k) → Dec (j ≡ k) → i ≡ j
            once_by f i j p r (yes y) (yes u) = y ∙ sym u
            once_by f i j p r (yes y) (no n) = absurd (clash j f (rw (y, z) at p) (rw (h j n) at r))
            once_by f i j p r (no n) (yes u) = absurd (clash i f (rw (u, z) at r) (rw (h i n) at p))
            once_by f i j p r (no n) (no u) = v.once f i j (rw (h i n) at p) (rw (h j u) at r)

      pub grows_filled : Grows live a (filled (used e w m) a)
      grows_filled = grows_at (filled (used e w m) a) (length_change free is_free (λ _. used e w m) a) (changed free is_free (λ _. used e w m) a)

    -- what holds of an entry's row holds of the row that holds the entry
    pub of_entry : (P : Row → Type 0) (e : Entry) → P (entry_row e a) → (i : ℕ) → holds e (row_at a i) ≡ true → P (row_at a i)
    of_entry P e h i q = rw (one_found free (holds e) a (v.once e) i q) at h

    pub grows_unmarked : (k : ℕ) → Grows live a (map (unmarked k) a)
    grows_unmarked k = grows_each (map (unmarked k) a) (length-map a (unmarked k))
        (λ i. rw (get_or-map (unmarked k) a i free) (good_unmarked live k (row_at a i)))
