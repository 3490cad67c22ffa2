-- Marks by their octets: what is read of them, and what an octet of marks put in place leaves.
-- Assumes nothing.
use Rattle.std.proofs.Common.{◌≡◌, ℕ, ◌+◌, ◌<◌, ◌≤◌, Bool, true, false, ◌||◌, eqb, List, ◌∷◌, length, drop, set, ℤ, pos, negsuc, sym, refl, ap, ◌∙◌, subst, add-one, arith, drop_of_length-le, drop-cons, get_or-set_other, get_or-set_same, le-ltb, lt-ltb}
use mathlib.Core.Bool.{false≢true}
use borrow.Author.Tests.{ltb-false}
use lib.Signed.{lt_z}
use Rattle.std.specs.Ordering.{int_eq}
use Rattle.std.proofs.lemmas.Bool.Decides.{Decides-int_eq}
use Rattle.laws.proofs.Integers.{not_less_same}
use lib.Bits.{bit_or}
use lib.Seq.{set-get_or}
use Rattle.laws.specs.Choice.{pick}
use Rattle.laws.specs.Tables.{on, has}
use Rattle.protocol.specs.declared.CsaNumber.{CsaNumber}
use Rattle.protocol.specs.Fields.{octet}
use Rattle.protocol.specs.Numbers.{newer}
use Rattle.rules.specs.Server.{rows_most, Row, free, waits_for, row_at}
use Rattle.rules.specs.Rows.{unmarked}
use Rattle.rules.specs.Updates.{waits_again, replied, answer_waits}
use Rattle.memory.specs.Layout.{row_size, memory_size, row_place, length_place, mark_place, top_place, tag_place}
use Rattle.memory.specs.Memory.{is_marked, value_at, row_in, rows_in, memory_of, with_rows}
use Rattle.memory.specs.Marks.{with_marks, marked, changed_at, AnyMarks}
use Rattle.memory.proofs.Bits.{marked_or, none_at}
use Rattle.memory.proofs.RowPlaces.{rows_length, row_get, used_row, octet_free, octet_used, row_case}
use Rattle.memory.proofs.Frame.{set_before, row_but_marks, only_marks, only_row}

-- ---- a row by its octets
module _ (s : List ℕ) (i : ℕ) (h : i < rows_most) where
  at_case : (P : Row → Type 0) → P free → P (used_row s i) → P (row_at (rows_in s) i)
  at_case P a b = subst P (sym (row_get s i h)) (row_case s i P a b)

  pub waits_none : (k : ℕ) → octet s (length_place i) ≡ 0 → false ≡ waits_for k (row_at (rows_in s) i)
  waits_none k z = sym (ap (waits_for k) (row_get s i h ∙ octet_free s i z))

  pub waits_marked : (k : ℕ) → (octet s (length_place i) ≡ 0 → ⊥) → is_marked (octet s (mark_place i)) k ≡ waits_for k (row_at (rows_in s) i)
  waits_marked k n = sym (ap (waits_for k) (row_get s i h ∙ octet_used s i n))

-- ---- the slots that some row waits for
module _ (s : List ℕ) where
  waits_by : (i k : ℕ) (b : Bool) → eqb (octet s (length_place i)) 0 ≡ b → waits_for k (pick b free (used_row s i)) ≡ is_marked (pick b 0 (octet s (mark_place i))) k
  waits_by i k true e = sym (none_at k)
  waits_by i k false e = refl

  row_waits_lem : (i k : ℕ) → waits_for k (row_in s i) ≡ is_marked (pick (eqb (octet s (length_place i)) 0) 0 (octet s (mark_place i))) k
  unfolding row_in
  row_waits_lem i k = waits_by i k (eqb (octet s (length_place i)) 0) refl

  -- of the rows before i
  pub record MarksTo (i all : ℕ) : Type 0 where
    pub within : i ≤ rows_most
    pub marks : (k : ℕ) → has (waits_for k) (rows_in s) ≡ (is_marked all k || has (waits_for k) (drop i (rows_in s)))

  or_assoc : (a b c : Bool) → (a || (b || c)) ≡ ((a || b) || c)
  or_assoc true b c = refl
  or_assoc false b c = refl

  pub marks_more : (i all x all' : ℕ) → i < rows_most → MarksTo i all → x ≡ pick (eqb (octet s (length_place i)) 0) 0 (octet s (mark_place i)) → all'
      ≡ bit_or all x → MarksTo (i + 1) all'
  marks_more i all x all' h m e f =
      let n : length (rows_in s) ≡ rows_most = rows_length s in
      record {
        within = omega arith;
        marks = λ k.
            let p : Row → Bool = waits_for k in
            let w : p (row_at (rows_in s) i) ≡ is_marked x k = ap p (row_get s i h) ∙ row_waits_lem i k ∙ ap (λ y. is_marked y k) (sym e) in
            let d : drop i (rows_in s) ≡ row_at (rows_in s) i ∷ drop (i + 1) (rows_in s) = rw add-one (drop-cons (rows_in s) i free (omega arith)) in
            m.marks k ∙ ap (λ l. is_marked all k || has p l) d
            ∙ or_assoc (is_marked all k) (p (row_at (rows_in s) i)) (has p (drop (i + 1) (rows_in s)))
            ∙ ap (λ b. (is_marked all k || b) || has p (drop (i + 1) (rows_in s))) w
            ∙ ap (λ b. b || has p (drop (i + 1) (rows_in s))) (sym (ap (λ y. is_marked y k) f ∙ marked_or k all x));
      }

  or_none : (a : Bool) → (a || false) ≡ a
  or_none true = refl
  or_none false = refl

  pub marks_all : (i all : ℕ) → rows_most ≤ i → MarksTo i all → AnyMarks (rows_in s) all
  marks_all i all h m =
      let n : length (rows_in s) ≡ rows_most = rows_length s in
      λ k. sym (m.marks k ∙ ap (λ l. is_marked all k || has (waits_for k) l) (drop_of_length-le (rows_in s) {i = i} (omega arith)) ∙ or_none (is_marked all k))

-- ---- an octet of marks put in place
pub as_changed : (f : Row → Row) (s t : List ℕ) (i : ℕ) → i < rows_most → memory_of t ≡ with_rows (set (rows_in s) i (f (row_in s i))) (memory_of s) → memory_of t
    ≡ changed_at f i s
as_changed f s t i h e = e ∙ ap (λ (r : Row). with_rows (set (rows_in s) i (f r)) (memory_of s)) (sym (row_get s i h))

pub marks_put : (s : List ℕ) (i b : ℕ) → i < rows_most → length s ≡ memory_size → memory_of (set s (mark_place i) b) ≡ changed_at (with_marks (is_marked b)) i s
marks_put s i b h size =
    as_changed (with_marks (is_marked b)) s (set s (mark_place i) b) i h
    (only_row i s (set s (mark_place i) b) h (only_marks i s b) ∙ ap (λ r. with_rows (set (rows_in s) i r) (memory_of s)) this)
  where
    this : row_in (set s (mark_place i) b) i ≡ with_marks (is_marked b) (row_in s i)
    this = row_but_marks i s (set s (mark_place i) b) b
        (set_before s (mark_place i) b (row_place i) (row_place i + row_size) (omega arith))
        (get_or-set_other s (mark_place i) (length_place i) b 0 (λ q. omega arith))
        (get_or-set_same s (mark_place i) b 0 (omega arith))
        (get_or-set_other s (mark_place i) (top_place i) b 0 (λ q. omega arith))
        (get_or-set_other s (mark_place i) (tag_place i) b 0 (λ q. omega arith))

-- ---- row i changed, by another function
pub changed_as : (f g : Row → Row) (s : List ℕ) (i : ℕ) → f (row_at (rows_in s) i) ≡ g (row_at (rows_in s) i) → changed_at f i s ≡ changed_at g i s
changed_as f g s i e = ap (λ (r : Row). with_rows (set (rows_in s) i r) (memory_of s)) e

-- by none
pub changed_not : (f : Row → Row) (s : List ℕ) (i : ℕ) → f (row_at (rows_in s) i) ≡ row_at (rows_in s) i → memory_of s ≡ changed_at f i s
unfolding memory_of
changed_not f s i e = ap (λ (rows : List Row). with_rows rows (memory_of s)) (sym (ap (set (rows_in s) i) e ∙ set-get_or (rows_in s) i free))

-- two numbers of which none is less are one
apart : (a b : ℤ) → lt_z a b ≡ false → lt_z b a ≡ false → a ≡ b
apart (pos a) (pos b) f g = let x = ltb-false a b f in let y = ltb-false b a g in let z : a ≡ b = omega arith in ap pos z
apart (pos a) (negsuc b) f g = absurd (false≢true (sym g))
apart (negsuc a) (pos b) f g = absurd (false≢true (sym f))
apart (negsuc a) (negsuc b) f g = let x = ltb-false b a f in let y = ltb-false a b g in let z : a ≡ b = omega arith in ap negsuc z

module _ (s : List ℕ) (i : ℕ) (h : i < rows_most) where
  -- the marks put are those that were, but for slot k
  pub marks_on : (k b r : ℕ) (v : Bool) → b ≡ octet s (mark_place i) → is_marked r ≡ on k v (is_marked b)
      → with_marks (is_marked r) (row_at (rows_in s) i) ≡ with_marks (on k v (is_marked (octet s (mark_place i)))) (row_at (rows_in s) i)
  marks_on k b r v e f = ap (λ (m : ℕ → Bool). with_marks m (row_at (rows_in s) i)) (f ∙ ap (λ (x : ℕ). on k v (is_marked x)) e)

  pub row_marked : (k : ℕ) → with_marks (on k true (is_marked (octet s (mark_place i)))) (row_at (rows_in s) i) ≡ marked k (row_at (rows_in s) i)
  row_marked k = at_case s i h (λ r. with_marks (on k true (is_marked (octet s (mark_place i)))) r ≡ marked k r) refl refl

  pub row_unmarked : (k : ℕ) → with_marks (on k false (is_marked (octet s (mark_place i)))) (row_at (rows_in s) i) ≡ unmarked k (row_at (rows_in s) i)
  row_unmarked k = at_case s i h (λ r. with_marks (on k false (is_marked (octet s (mark_place i)))) r ≡ unmarked k r) refl refl

  -- it waits again, if hops remain
  pub again_not : (k : ℕ) → (value_at s i).remaining ≡ 0 → waits_again k (row_at (rows_in s) i) ≡ row_at (rows_in s) i
  again_not k z = at_case s i h (λ r. waits_again k r ≡ r) refl (rw (le-ltb 0 (value_at s i).remaining (omega arith)))

  pub again_so : (k : ℕ) → ((value_at s i).remaining ≡ 0 → ⊥) → marked k (row_at (rows_in s) i) ≡ waits_again k (row_at (rows_in s) i)
  again_so k n = at_case s i h (λ r. marked k r ≡ waits_again k r) refl (rw (lt-ltb 0 (value_at s i).remaining (omega arith)))

  -- a reply takes the mark, if its number is the one held
  module _ (k : ℕ) (number held : CsaNumber) (e : held ≡ (value_at s i).number) where
    replied_newer : newer number held ≡ true → replied k number (row_at (rows_in s) i) ≡ row_at (rows_in s) i
    replied_newer t = at_case s i h (λ r. replied k number r ≡ r) refl (rw (ap (newer number) (sym e) ∙ t))

    replied_older : newer number held ≡ false → newer held number ≡ true → replied k number (row_at (rows_in s) i) ≡ row_at (rows_in s) i
    replied_older f t = at_case s i h (λ r. replied k number r
        ≡ r) refl (rw (ap (newer number) (sym e) ∙ f, ap (λ (x : CsaNumber). newer x number) (sym e) ∙ t))

    pub replied_same : int_eq number.0 held.0 ≡ true → unmarked k (row_at (rows_in s) i) ≡ replied k number (row_at (rows_in s) i)
    replied_same t =
        let z : number.0 ≡ held.0 = (Decides-int_eq number.0 held.0).0 t in
        let n : (x y : ℤ) → x ≡ y → lt_z x y ≡ false = λ x y q. ap (lt_z x) (sym q) ∙ not_less_same x in
        at_case s i h (λ r. unmarked k r ≡ replied k number r) refl
        (rw (ap (newer number) (sym e) ∙ n held.0 number.0 (sym z), ap (λ (x : CsaNumber). newer x number) (sym e) ∙ n number.0 held.0 z))

    other_by : (a b : Bool) → newer number held ≡ a → newer held number ≡ b → int_eq number.0 held.0 ≡ false → replied k number (row_at (rows_in s) i)
        ≡ row_at (rows_in s) i
    other_by true b f g t = replied_newer f
    other_by false true f g t = replied_older f g
    other_by false false f g t = absurd (false≢true (sym t ∙ (Decides-int_eq number.0 held.0).1 (apart number.0 held.0 g f)))

    pub replied_other : int_eq number.0 held.0 ≡ false → replied k number (row_at (rows_in s) i) ≡ row_at (rows_in s) i
    replied_other = other_by (newer number held) (newer held number) refl refl

    -- the answer to a record waits, unless a greater number is asked for
    pub answer_newer : newer number held ≡ true → answer_waits k number (row_at (rows_in s) i) ≡ row_at (rows_in s) i
    answer_newer t = at_case s i h (λ r. answer_waits k number r ≡ r) refl (rw (ap (newer number) (sym e) ∙ t))

    pub answer_held : newer number held ≡ false → waits_again k (row_at (rows_in s) i) ≡ answer_waits k number (row_at (rows_in s) i)
    answer_held f = at_case s i h (λ r. waits_again k r ≡ answer_waits k number r) refl (rw (ap (newer number) (sym e) ∙ f))
