-- The next rows by a loop: what is chosen so far, and what is left to look at.
-- Assumes nothing.
use Rattle.std.proofs.Common.{◌≡◌, ℕ, zero, suc, ◌+◌, ◌-◌, ◌%◌, ◌<◌, ◌≤◌, Bool, true, false, not, ◌||◌, eqb, ◌⊎◌, List, [], ◌∷◌, ◌++◌, length, get_or, take, drop, set, drop_of_length-le, drop-cons, sym, refl, ap, ◌∙◌, subst, inl, inr, append_assoc, append-nil, le_of_suc-le-suc, not-suc-le-zero, add-one, arith, length-set, get_or-set_same, take-suc-set}
use Rattle.std.specs.List.{list_any}
use Rattle.laws.specs.Lists.{is_empty, part}
use Rattle.laws.proofs.Lists.{part_length}
use Rattle.protocol.specs.Fields.{octet}
use Rattle.memory.specs.Layout.{lengths_at, memory_size}
use Rattle.memory.specs.Memory.{rows_in}
use Rattle.memory.proofs.RowPlaces.{row_get, is_used_lem}
use Rattle.memory.proofs.Rooms.{octet_part}
use Rattle.laws.specs.Tables.{has}
use Rattle.laws.proofs.Cells.{has_false}
use Rattle.rules.specs.Server.{rows_most, Row, free, is_used, waits_for, row_at}
use Rattle.rules.specs.Rows.{next, behind, used_from, next_waiting}
use Rattle.memory.specs.Marks.{Picked}

next_none : (p : ℕ → Bool) (left at : ℕ) → next p left 0 at ≡ []
unfolding next
next_none p zero at = refl
next_none p (suc left) at = refl

module _ (p : ℕ → Bool) (left at : ℕ) where
  next_hit : (n : ℕ) → p at ≡ true → next p (suc left) (suc n) at ≡ at ∷ next p left n (suc at)
  unfolding next
  next_hit n e = rw e

  next_miss : (n : ℕ) → p at ≡ false → next p (suc left) n at ≡ next p left n (suc at)
  unfolding next
  next_miss zero e = sym (next_none p left (suc at))
  next_miss (suc n) e = rw e

-- ---- all is what was chosen, and of `left` places from `at` on the most that are wanted still
module _ (p : ℕ → Bool) (most : ℕ) (all rows : List ℕ) (count : ℕ) where
  abbrev pub Going : ℕ → ℕ → Type 0
  Going left at = all ≡ take count rows ++ next p left (most - count) at

  pub go_end : (left at : ℕ) → left ≡ 0 → Going left at → take count rows ≡ all
  unfolding next
  go_end left at e g = sym (g ∙ ap (λ (n : ℕ). take count rows ++ next p n (most - count) at) e ∙ append-nil (take count rows))

  pub go_full : (left at : ℕ) → count ≡ most → Going left at → take count rows ≡ all
  go_full left at e g =
      let z : most - count ≡ 0 = omega arith in
      sym (g ∙ ap (λ (n : ℕ). take count rows ++ next p left n at) z ∙ ap (λ (l : List ℕ). take count rows ++ l) (next_none p left at)
      ∙ append-nil (take count rows))

  go_miss : (left at : ℕ) → p at ≡ false → Going (suc left) at → Going left (suc at)
  go_miss left at m g = g ∙ ap (λ (l : List ℕ). take count rows ++ l) (next_miss p left at (most - count) m)

  go_hit : (left at : ℕ) → count < most → length rows ≡ most → p at ≡ true → Going (suc left) at
      → all ≡ take (suc count) (set rows count at) ++ next p left (most - suc count) (suc at)
  go_hit left at q r m g =
      let f : most - count ≡ suc (most - suc count) = omega arith in
      let rest : List ℕ = next p left (most - suc count) (suc at) in
      g ∙ ap (λ (n : ℕ). take count rows ++ next p (suc left) n at) f
      ∙ ap (λ (l : List ℕ). take count rows ++ l) (next_hit p left at (most - suc count) m)
      ∙ sym (append_assoc (take count rows) (at ∷ []) rest)
      ∙ ap (λ (l : List ℕ). l ++ rest) (sym (take-suc-set rows count at (omega arith)))

-- ---- behind the last of them
behind_last : (j n : ℕ) (l : List ℕ) → n < length l → behind j (take (suc n) l) ≡ suc (get_or l n 0)
behind_last j n [] h = absurd (not-suc-le-zero h)
behind_last j zero (x ∷ l) h = refl
behind_last j (suc n) (x ∷ l) h = behind_last (suc x) n l (le_of_suc-le-suc h)

behind_set : (j n x : ℕ) (l : List ℕ) → n < length l → behind j (take (suc n) (set l n x)) ≡ suc x
behind_set j n x l h = behind_last j n (set l n x) (rw (length-set l n x) h) ∙ ap suc (get_or-set_same l n x 0 h)

-- what a turn of the loop leaves: `onward` is the place behind the last chosen
pub record Gone (p : ℕ → Bool) (most from : ℕ) (all rows : List ℕ) (count onward left at : ℕ) : Type 0 where
  pub few : count ≤ most
  pub full : length rows ≡ most
  pub going : Going p most all rows count left at
  pub last : onward ≡ behind from (take count rows)

-- a turn: the row at hand is chosen, or passed over
abbrev pub Turned : Bool → List ℕ → List ℕ → ℕ → ℕ → ℕ → ℕ → ℕ → Type 0
Turned b rows rows' count count' onward onward' at =
    ((b ≡ true) × ((rows' ≡ set rows count at) × ((count' ≡ count + 1) × (onward' ≡ at + 1)))) ⊎
    ((b ≡ false) × ((rows' ≡ rows) × ((count' ≡ count) × (onward' ≡ onward))))

module _ (p : ℕ → Bool) (most from : ℕ) (all rows rows' : List ℕ) (count count' onward onward' left at : ℕ) (n : count ≡ most → ⊥)
    (g : Gone p most from all rows count onward (suc left) at) where
  go_by : Turned (p at) rows rows' count count' onward onward' at → Gone p most from all rows' count' onward' left (suc at)
  go_by (inl (m, (a, (b, d)))) =
      let few : count ≤ most = g.few in
      let e : count' ≡ suc count = b ∙ add-one count in
      let long : count < length rows = rw g.full (omega arith) in
      record {
        few = omega arith;
        full = ap length a ∙ length-set rows count at ∙ g.full;
        going = go_hit p most all rows count left at (omega arith) g.full m g.going
            ∙ (λ z. take (sym e z) (sym a z) ++ next p left (most - sym e z) (suc at));
        last = d ∙ add-one at ∙ sym (behind_set from count at rows long) ∙ (λ z. behind from (take (sym e z) (sym a z)));
      }
  go_by (inr (m, (a, (b, d)))) =
      let few : count ≤ most = g.few in
      record {
        few = omega arith;
        full = ap length a ∙ g.full;
        going = go_miss p most all rows count left at m g.going ∙ (λ z. take (sym b z) (sym a z) ++ next p left (most - sym b z) (suc at));
        last = d ∙ g.last ∙ (λ z. behind from (take (sym b z) (sym a z)));
      }

-- the same, as the code counts
pub go_on : (p : ℕ → Bool) (most from : ℕ) (all rows rows' : List ℕ) (count count' onward onward' left left' at : ℕ) → (count ≡ most → ⊥) → left ≡ suc left'
    → Gone p most from all rows count onward left at → Turned (p at) rows rows' count count' onward onward' at
    → Gone p most from all rows' count' onward' left' (at + 1)
go_on p most from all rows rows' count count' onward onward' left left' at n l g t =
    subst (λ (x : ℕ). Gone p most from all rows' count' onward' left' x) (sym (add-one at))
    (go_by p most from all rows rows' count count' onward onward' left' at n (subst (λ (x : ℕ). Gone p most from all rows count onward x at) l g) t)

-- four chosen, and none left to look at
module _ (p : ℕ → Bool) (from : ℕ) (all rows : List ℕ) (count onward left at : ℕ) where
  pub picked_full : (m : count ≤ 4) → count ≡ 4 → Gone p 4 from all rows count onward left at → Picked from all (record { count = count; rows = rows; next = onward; most = m })
  picked_full m e g =
      let h = go_full p 4 all rows count left at e g.going in
      record { chosen = h; onward = g.last ∙ ap (behind from) h; full = g.full }

  pub picked_end : (m : count ≤ 4) → left ≡ 0 → Gone p 4 from all rows count onward left at → Picked from all (record { count = count; rows = rows; next = onward; most = m })
  picked_end m e g =
      let h = go_end p 4 all rows count left at e g.going in
      record { chosen = h; onward = g.last ∙ ap (behind from) h; full = g.full }

-- ---- whether there is one: told by the key lengths
module _ (s : List ℕ) (size : length s ≡ memory_size) where
  abbrev lengths : List ℕ
  lengths = part s lengths_at 64

  abbrev some : List ℕ → Bool
  some = list_any (λ x. not (eqb x 0))

  abbrev used_at : ℕ → Bool
  used_at i = is_used (row_at (rows_in s) i)

  used_octet : (i : ℕ) → i < 64 → used_at i ≡ not (eqb (octet lengths i) 0)
  used_octet i h = ap is_used (row_get s i h) ∙ is_used_lem s i ∙ ap (λ x. not (eqb x 0)) (sym (octet_part s lengths_at 64 i h))

  some_by : (n i : ℕ) (b : Bool) → used_at i ≡ b → some (drop (suc i) lengths) ≡ not (is_empty (next used_at n 1 (suc i)))
      → (used_at i || some (drop (suc i) lengths)) ≡ not (is_empty (next used_at (suc n) 1 i))
  some_by n i true m ih = ap (λ t. t || some (drop (suc i) lengths)) m ∙ sym (ap (λ (l : List ℕ). not (is_empty l)) (next_hit used_at n i 0 m))
  some_by n i false m ih =
      ap (λ t. t || some (drop (suc i) lengths)) m ∙ ih ∙ sym (ap (λ (l : List ℕ). not (is_empty l)) (next_miss used_at n i 1 m))

  some_used : (n i : ℕ) → n ≡ 64 - i → some (drop i lengths) ≡ not (is_empty (next used_at n 1 i))
  unfolding next
  some_used zero i e =
      let l : length lengths ≡ 64 = part_length s lengths_at 64 (omega arith) in
      ap some (drop_of_length-le lengths {i = i} (omega arith))
  some_used (suc n) i e =
      let l : length lengths ≡ 64 = part_length s lengths_at 64 (omega arith) in
      ap some (drop-cons lengths i 0 (omega arith)) ∙ ap (λ t. t || some (drop (suc i) lengths)) (sym (used_octet i (omega arith)))
      ∙ some_by n i (used_at i) refl (some_used n (suc i) (omega arith))

  pub used_after : (from : ℕ) → some (drop from lengths) ≡ used_from (rows_in s) from
  used_after from = some_used (64 - from) from refl

-- ---- no row waits
next_empty : (p : ℕ → Bool) → ((j : ℕ) → p j ≡ false) → (left n at : ℕ) → next p left n at ≡ []
unfolding next
next_empty p h zero n at = refl
next_empty p h (suc left) n at = next_miss p left at n (h at) ∙ next_empty p h left n (suc at)

pub picked_none : (rows : List Row) (k from : ℕ) (cells : List ℕ) → (m : 0 ≤ 4) → length cells ≡ 4 → has (waits_for k) rows ≡ false
    → Picked from (next_waiting rows k from) (record { count = 0; rows = cells; next = from; most = m })
picked_none rows k from cells m n h =
    let e : next_waiting rows k from ≡ [] = next_empty (λ i. waits_for k (row_at rows (i % rows_most)))
    (λ j. has_false free (waits_for k) refl rows h (j % rows_most)) rows_most 4 from in
    record { chosen = sym e; onward = sym (ap (behind from) e); full = n }
