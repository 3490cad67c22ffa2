-- Going round: a row that waits and is not among the picks of `next_waiting` is four rows nearer to the cursor that `cursor_after` gives, so that
-- no row is left out of sixteen in a row.
-- Assumes nothing.
use Rattle.std.proofs.Common.{◌≡◌, ℕ, suc, ◌+◌, ◌*◌, ◌%◌, ◌<◌, ◌≤◌, Bool, true, false, ◌||◌, eqb, ◌⊎◌, List, [], ◌∷◌, length, sym, refl, ap, ◌∙◌, subst, inl, inr, arith, eq-eqb, eqb-true}
use mathlib.Core.Bool.{false≢true}
use Rattle.laws.specs.Tables.{has}
use Rattle.rules.specs.Server.{rows_most, waits_for, row_at}
use Rattle.rules.specs.Rows.{next_waiting, behind}
use Rattle.laws.proofs.Bools.{or_right}
use Rattle.rules.proofs.NextLaws.{far, far_row, reached_or_nearer}
use Rattle.memory.specs.Memory.{rows_in}
use Rattle.memory.specs.declared.next.Picks.{Picks}
use Rattle.memory.specs.Marks.{picks_of, Picked, is_picked}

-- the place that `reached_or_nearer` speaks of is row i
more_by : (a b x y : Bool) → (a ≡ true → x ≡ true) → (b ≡ true → y ≡ true) → (a || b) ≡ true → (x || y) ≡ true
more_by true b x y f g h = rw (f refl)
more_by false b x y f g h = or_right x y (g h)

has_more : (p q : ℕ → Bool) → ((y : ℕ) → p y ≡ true → q y ≡ true) → (l : List ℕ) → has p l ≡ true → has q l ≡ true
has_more p q f [] h = absurd (false≢true h)
has_more p q f (y ∷ l) h = more_by (p y) (has p l) (q y) (has q l) (f y) (has_more p q f l) h

module _ (s : List ℕ) (k c i : ℕ) (q : i < rows_most) (t : waits_for k (row_at (rows_in s) i) ≡ true) where
  nearer_by : (l : List ℕ) → is_picked i l ≡ false → (has (λ y. eqb y (c + far c i)) l ≡ true) ⊎ (4 + far (behind c l % rows_most) i ≤ far c i)
      → 4 + far (behind c l % rows_most) i ≤ far c i
  nearer_by l n (inl h) =
      let f : (y : ℕ) → eqb y (c + far c i) ≡ true → eqb (y % rows_most) i ≡ true =
      λ y e. eq-eqb (y % rows_most) i (ap (λ (x : ℕ). x % rows_most) (eqb-true y (c + far c i) e) ∙ far_row c i q) in
      absurd (false≢true (sym n ∙ has_more (λ y. eqb y (c + far c i)) (λ y. eqb (y % rows_most) i) f l h))
  nearer_by l n (inr h) = h

  -- a call from row c on
  pub nearer : (p : Picks) → Picked c (next_waiting (rows_in s) k c) p → is_picked i (picks_of p) ≡ false → 4 + far (behind c (picks_of p) % rows_most) i ≤ far c i
  nearer p e n = nearer_by (picks_of p) n (subst (λ l. (has (λ y. eqb y (c + far c i)) l ≡ true) ⊎ (4 + far (behind c l % rows_most) i ≤ far c i))
      (sym e.chosen) (reached_or_nearer (rows_in s) k c i q t))

-- ---- calls in a row, each from the cursor after the one before, and each on a memory in which row i waits: all leave row i out
pub record Call : Type 0 where
  pub memory : List ℕ
  pub picks : Picks

abbrev pub LeftOut : ℕ → ℕ → ℕ → List Call → Type 0
LeftOut k i c [] = Unit {0}
LeftOut k i c (x ∷ xs) =
    ((waits_for k (row_at (rows_in x.memory) i) ≡ true) × (Picked c (next_waiting (rows_in x.memory) k c) x.picks ×
    (is_picked i (picks_of x.picks) ≡ false)))
    × LeftOut k i (behind c (picks_of x.picks) % rows_most) xs

one_more_lem : (n f g : ℕ) → n * 4 ≤ f → 4 + f ≤ g → suc n * 4 ≤ g
one_more_lem n f g a b = omega arith

calls_few : (k i c : ℕ) → i < rows_most → (xs : List Call) → LeftOut k i c xs → length xs * 4 ≤ far c i
calls_few k i c q [] h = omega arith
calls_few k i c q (x ∷ xs) h =
    one_more_lem (length xs) (far (behind c (picks_of x.picks) % rows_most) i) (far c i)
    (calls_few k i (behind c (picks_of x.picks) % rows_most) q xs h.1)
    (nearer x.memory k c i q h.0.0 x.picks h.0.1.0 h.0.1.1)

sixteen : (n c i : ℕ) → n * 4 ≤ far c i → n < 16
sixteen n c i h = omega arith

pub left_out_few : (k i c : ℕ) → i < rows_most → (xs : List Call) → LeftOut k i c xs → length xs < 16
left_out_few k i c q xs h = sixteen (length xs) c i (calls_few k i c q xs h)
