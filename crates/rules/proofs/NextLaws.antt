-- The next waiting rows, going round: a row that waits is among them, or they bring the cursor four rows nearer.
-- Assumes nothing.
use Prim.Native.Nat.{ℕ, zero, suc, ◌+◌, ◌-◌, ◌%◌, ◌≤◌, ◌<◌}
use mathlib.Core.Path.{◌≡◌, refl, sym, ◌∙◌}
use mathlib.Core.Bool.{Bool, true, false, false≢true}
use mathlib.Core.Logic.{◌⊎◌, inl, inr}
use mathlib.Core.List.{List, [], ◌∷◌}
use native.Mathlib.Omega.{arith}
use native.Mathlib.Decide.{ℕ_discrete}
use lib.Dec.{eqb}
use borrow.Author.Tests.{eq-eqb}
use Rattle.laws.specs.Choice.{pick}
use Rattle.laws.specs.Lists.{All}
use Rattle.laws.specs.Tables.{has}
use Rattle.laws.proofs.Bools.{or_right}
use Rattle.rules.specs.Server.{rows_most, Row, waits_for, row_at}
use Rattle.rules.specs.Rows.{next, behind, next_waiting}

-- ---- each of them passes the test
next_by : (p : ℕ → Bool) (j : ℕ) (l r : List ℕ) → All (λ i. p i ≡ true) l → All (λ i. p i ≡ true) r → (b : Bool) → p j ≡ b
    → All (λ i. p i ≡ true) (pick b (j ∷ l) r)
next_by p j l r a c true e = (e, a)
next_by p j l r a c false e = c

pub next_passes : (p : ℕ → Bool) (left n j : ℕ) → All (λ i. p i ≡ true) (next p left n j)
unfolding next
next_passes p zero n j = tt
next_passes p (suc left) zero j = tt
next_passes p (suc left) (suc n) j =
    next_by p j (next p left n (suc j)) (next p left (suc n) (suc j)) (next_passes p left n (suc j)) (next_passes p left (suc n) (suc j)) (p j) refl

-- ---- a place x that passes is among the first n from j on, or they all lie before it
data Seen (l : List ℕ) (n j x : ℕ) : Type 0 where
  among : has (λ y. eqb y x) l ≡ true → Seen l n j x
  past : j + n ≤ behind j l → behind j l ≤ x → Seen l n j x

behind_any : (c d : ℕ) (l : List ℕ) → (behind d l ≡ d → ⊥) → behind c l ≡ behind d l
behind_any c d [] h = absurd (h refl)
behind_any c d (j ∷ l) h = refl

module _ (p : ℕ → Bool) (x : ℕ) (t : p x ≡ true) where
  seen_first : (n j : ℕ) (l : List ℕ) → j ≤ x → (suc j ≤ x → Seen l n (suc j) x) → Dec (j ≡ x) → Seen (j ∷ l) (suc n) j x
  seen_first n j l a ih (yes z) = among (rw (eq-eqb j x z))
  seen_first n j l a ih (no z) = by (ih (omega arith)) where
    by : Seen l n (suc j) x → Seen (j ∷ l) (suc n) j x
    by (among h) = among (or_right (eqb j x) (has (λ y. eqb y x) l) h)
    by (past u w) = past (omega arith) w

  seen_later : (n j : ℕ) (l : List ℕ) → Seen l (suc n) (suc j) x → Seen l (suc n) j x
  seen_later n j l (among h) = among h
  seen_later n j l (past u w) =
      let z : behind j l ≡ behind (suc j) l = behind_any j (suc j) l (λ q. omega arith) in
      past (omega arith) (omega arith)

  seen_by : (left n j : ℕ) → j ≤ x → (suc j ≤ x → Seen (next p left n (suc j)) n (suc j) x) → (suc j ≤ x → Seen (next p left (suc n) (suc j)) (suc n) (suc j) x)
      → (b : Bool) → p j ≡ b → Seen (pick b (j ∷ next p left n (suc j)) (next p left (suc n) (suc j))) (suc n) j x
  seen_by left n j a ih₁ ih₂ true e = seen_first n j (next p left n (suc j)) a ih₁ (ℕ_discrete j x)
  seen_by left n j a ih₁ ih₂ false e =
      let n≢ : j ≡ x → ⊥ = λ z. false≢true (sym e ∙ rw z t) in
      seen_later n j (next p left (suc n) (suc j)) (ih₂ (omega arith))

  seen_next : (left n j : ℕ) → j ≤ x → x < j + left → Seen (next p left n j) n j x
  unfolding next
  seen_next zero n j a b = absurd (omega arith)
  seen_next (suc left) zero j a b = past (omega arith) a
  seen_next (suc left) (suc n) j a b =
      seen_by left n j a (λ c. seen_next left n (suc j) c (omega arith)) (λ c. seen_next left (suc n) (suc j) c (omega arith)) (p j) refl

-- ---- how far row i is from the cursor c, going round
abbrev pub far : ℕ → ℕ → ℕ
far c i = (i + (64 - c % 64)) % 64

far_less : (c i : ℕ) → c + far c i < c + 64
far_less c i = omega arith

pub far_row : (c i : ℕ) → i < 64 → (c + far c i) % 64 ≡ i
far_row c i q = omega arith

nearer_by : (d i t : ℕ) → d < 64 → i < 64 → 4 ≤ t → t ≤ (i + (64 - d)) % 64 → 4 + (i + (64 - (d + t) % 64)) % 64 ≤ (i + (64 - d)) % 64
nearer_by d i t p q a b = omega arith

round : (c l : ℕ) → c ≤ l → l % 64 % 64 ≡ (c % 64 + (l - c)) % 64
round c l h = omega arith

nearer : (c i l : ℕ) → i < 64 → c + 4 ≤ l → l ≤ c + far c i → 4 + far (l % 64) i ≤ far c i
nearer c i l q a b = rw (round c l (omega arith)) (nearer_by (c % 64) i (l - c) (omega arith) q (omega arith) (omega arith))

module _ (rows : List Row) (k c i : ℕ) (q : i < 64) (t : waits_for k (row_at rows i) ≡ true) where
  abbrev l : List ℕ
  l = next_waiting rows k c

  reached_or_nearer_by : Seen l 4 c (c + far c i) → (has (λ y. eqb y (c + far c i)) l ≡ true) ⊎ (4 + far (behind c l % rows_most) i ≤ far c i)
  reached_or_nearer_by (among h) = inl h
  reached_or_nearer_by (past a b) = inr (nearer c i (behind c l) q a b)

  pub reached_or_nearer : (has (λ y. eqb y (c + far c i)) l ≡ true) ⊎ (4 + far (behind c l % rows_most) i ≤ far c i)
  reached_or_nearer = reached_or_nearer_by (seen_next (λ j. waits_for k (row_at rows (j % rows_most))) (c + far c i) (rw (far_row c i q) t) 64 4 c
      (omega arith) (far_less c i))
