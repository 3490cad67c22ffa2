-- What the searches and the count answer.
-- Assumes nothing.
use Rattle.std.proofs.Common.{◌≡◌, ℕ, zero, suc, ◌+◌, ◌-◌, drop_of_length-le, ◌<◌, ◌≤◌, Bool, true, false, not, eqb, List, length, drop, sym, refl, ap, ◌∙◌, arith}
use Rattle.std.specs.Int.{from_bool}
use Rattle.std.specs.List.{sum_by}
use Rattle.std.proofs.lemmas.List.Sums.{sum_by-drop_more}
use Rattle.laws.specs.Lists.{part}
use Rattle.laws.proofs.Lists.{part_length}
use Rattle.memory.proofs.Rooms.{octet_part}
use Rattle.laws.specs.Choice.{pick}
use Rattle.laws.specs.Tables.{count}
use Rattle.protocol.specs.Fields.{octet}
use Rattle.rules.specs.Server.{rows_most, Row, is_free, is_used, holds, row_at, rows_used}
use Rattle.std.specs.Prelude.{Option, Some, None}
use Rattle.protocol.specs.declared.Index.{Index}
use Rattle.memory.specs.Layout.{lengths_at, tags_at, memory_size, length_place}
use Rattle.memory.specs.Memory.{entry_named, tag_of, row_in, rows_in}
use Rattle.memory.specs.Search.{FirstOctet, FirstIndex, place_found, first_from}
use Rattle.memory.proofs.SearchLaws.{first_hit, first_miss, first_none, passed_by, count_step, count_none}
use Rattle.memory.proofs.RowPlaces.{rows_length, row_get, is_used_lem, octet_free, octet_used, other_tag}

-- ---- a search row by row
module _ (p : Row → Bool) (s : List ℕ) (from : ℕ) where
  -- what is left of it from i on
  abbrev pub From : ℕ → Type 0
  From i = first_from p from (drop from (rows_in s)) ≡ first_from p i (drop i (rows_in s))

  pub from_hit : (i : ℕ) → i < rows_most → From i → p (row_in s i) ≡ true → Some i ≡ first_from p from (drop from (rows_in s))
  from_hit i h f t =
      let n : length (rows_in s) ≡ rows_most = rows_length s in
      sym (f ∙ first_hit p (rows_in s) i (omega arith) (ap p (row_get s i h) ∙ t))

  pub from_miss : (i : ℕ) → i < rows_most → From i → p (row_in s i) ≡ false → From (i + 1)
  from_miss i h f t =
      let n : length (rows_in s) ≡ rows_most = rows_length s in
      f ∙ first_miss p (rows_in s) i (omega arith) (ap p (row_get s i h) ∙ t)

  pub from_end : (i : ℕ) → rows_most ≤ i → From i → None ≡ first_from p from (drop from (rows_in s))
  from_end i h f =
      let n : length (rows_in s) ≡ rows_most = rows_length s in
      sym (f ∙ first_none p (rows_in s) i (omega arith))

-- ---- by the first octet of a section
-- rows before c do not pass, so a search may start there
passed : (p : Row → Bool) (s : List ℕ) (c : ℕ) → ((j : ℕ) → j < c → j < rows_most → p (row_in s j) ≡ false) → first_from p 0 (rows_in s)
    ≡ first_from p c (drop c (rows_in s))
passed p s c h =
    let n : length (rows_in s) ≡ rows_most = rows_length s in
    passed_by p (rows_in s) c (λ j g l. ap p (row_get s j (omega arith)) ∙ h j g (omega arith))

module _ (s : List ℕ) (c : ℕ) where
  pub by_tag : (name : List ℕ) (r : Option ℕ) → length s ≡ memory_size → 4 < length name → FirstOctet s tags_at (tag_of name) c
      → r ≡ first_from (holds (entry_named name)) c (drop c (rows_in s)) → r ≡ first_from (holds (entry_named name)) 0 (rows_in s)
  by_tag name r size h f e =
      e ∙ sym (passed (holds (entry_named name)) s c (λ j g l. other_tag s j size l name h (λ z. let q = f.none_before j l z in omega arith)))

-- no row has the tag
pub by_no_tag : (s name : List ℕ) → length s ≡ memory_size → 4 < length name → FirstIndex s tags_at (tag_of name) None
    → None ≡ first_from (holds (entry_named name)) 0 (rows_in s)
by_no_tag s name size h f =
    let n : length (rows_in s) ≡ rows_most = rows_length s in
    sym (passed (holds (entry_named name)) s 64 (λ j g l. other_tag s j size l name h (f j l))
    ∙ first_none (holds (entry_named name)) (rows_in s) 64 (omega arith))

module _ (s : List ℕ) (c : ℕ) where
  used_not : (j : ℕ) → (octet s (length_place j) ≡ 0 → ⊥) → is_free (row_in s j) ≡ false
  used_not j n = ap is_free (octet_used s j n)

  module _ (f : FirstOctet s lengths_at 0 c) where
    none_free : first_from is_free 0 (rows_in s) ≡ first_from is_free c (drop c (rows_in s))
    none_free = passed is_free s c (λ j g l. used_not j (λ z. let q = f.none_before j l z in omega arith))

    free_hit : c < rows_most → Some c ≡ first_from is_free 0 (rows_in s)
    free_hit h =
        let n : length (rows_in s) ≡ rows_most = rows_length s in
        sym (none_free ∙ first_hit is_free (rows_in s) c (omega arith) (ap is_free (row_get s c h ∙ octet_free s c (f.there h))))

    free_miss : rows_most ≤ c → None ≡ first_from is_free 0 (rows_in s)
    free_miss h =
        let n : length (rows_in s) ≡ rows_most = rows_length s in
        sym (none_free ∙ first_none is_free (rows_in s) c (omega arith))

pub free_place : (s : List ℕ) (o : Option (Index 64)) → FirstIndex s lengths_at 0 o → place_found o ≡ first_from is_free 0 (rows_in s)
free_place s (Some i) f = free_hit s i.at f i.below
free_place s None f = free_miss s 64 (record { there = λ h. absurd (omega arith); none_before = λ j h e. absurd (f j h e) }) (omega arith)

-- ---- the count
one_of : (b : Bool) → from_bool b ≡ pick b 1 0
one_of true = refl
one_of false = refl

one_most : (b : Bool) → pick b 1 0 ≤ 1
one_most true = omega arith
one_most false = omega arith

-- by the key lengths
module _ (s : List ℕ) (size : length s ≡ memory_size) where
  abbrev one_if : ℕ → ℕ
  one_if x = from_bool (not (eqb x 0))

  counted_from : (n i : ℕ) → n ≡ 64 - i → (sum_by one_if (drop i (part s lengths_at 64)) ≡ count is_used (drop i (rows_in s)))
      × (count is_used (drop i (rows_in s)) ≤ n)
  counted_from zero i e =
      let l : length (part s lengths_at 64) ≡ 64 = part_length s lengths_at 64 (omega arith) in
      let k : length (rows_in s) ≡ rows_most = rows_length s in
      let z : count is_used (drop i (rows_in s)) ≡ 0 = count_none is_used (rows_in s) i (omega arith) in
      (ap (sum_by one_if) (drop_of_length-le (part s lengths_at 64) {i = i} (omega arith)) ∙ sym z, omega arith)
  counted_from (suc n) i e =
      let l : length (part s lengths_at 64) ≡ 64 = part_length s lengths_at 64 (omega arith) in
      let k : length (rows_in s) ≡ rows_most = rows_length s in
      let h : i < 64 = omega arith in
      let rest = counted_from n (i + 1) (omega arith) in
      let b : Bool = is_used (row_at (rows_in s) i) in
      let v : one_if (octet (part s lengths_at 64) i) ≡ pick b 1 0 = ap one_if (octet_part s lengths_at 64 i h)
      ∙ one_of (not (eqb (octet s (length_place i)) 0)) ∙ ap (λ t. pick t 1 0) (sym (is_used_lem s i) ∙ ap is_used (sym (row_get s i h))) in
      let m : pick b 1 0 ≤ 1 = one_most b in
      let q = sum_by-drop_more one_if (part s lengths_at 64) i 0 (omega arith) in
      let r : count is_used (drop i (rows_in s)) ≡ pick b 1 0 + count is_used (drop (i + 1) (rows_in s)) = count_step is_used (rows_in s) i (omega arith) in
      let u = rest.0 in
      let w = rest.1 in
      (omega arith, omega arith)

  pub counted : sum_by one_if (part s lengths_at 64) ≡ rows_used (rows_in s)
  counted = (counted_from 64 0 refl).0

  pub counted_few : sum_by one_if (part s lengths_at 64) < 256
  counted_few = let c = counted_from 64 0 refl in let e = c.0 in let f = c.1 in omega arith
