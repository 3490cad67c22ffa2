-- Marks as bits of a number: one set, one cleared, those of two numbers together.
-- Assumes nothing.
use Rattle.std.proofs.Common.{◌≡◌, ℕ, zero, suc, ◌-◌, ◌^◌, ◌<◌, ◌≤◌, min, max, Bool, true, false, not, ◌&&◌, ◌||◌, eqb, sym, refl, ap, ◌∙◌, arith, lt-ltb, eq-eqb, ne_eqb}
use mathlib.Core.Bool.{false≢true}
use mathlib.Core.Path.{fun_ext}
use native.Mathlib.Decide.{ℕ_discrete, dec_le}
use native.Mathlib.Nat.{zero-div}
use lib.Bits.{bit_and, bit_or}
use Rattle.std.specs.Int.{w8, bit_at}
use Rattle.std.proofs.lemmas.Nat.{pow_below}
use Rattle.std.proofs.lemmas.Nat.Bits.{bit_at-lt, bit_at_or, bit_at_and, bit_at_not, bit_at-pow_same, bit_at-pow_other, bit_at_above}
use Rattle.laws.specs.Choice.{pick}
use Rattle.laws.specs.Tables.{on}
use Rattle.rules.specs.Rows.{spread}
use Rattle.memory.specs.Memory.{is_marked}

-- ---- c is b but for bit k
differ : (b c k : ℕ) (v : Bool) → eqb (bit_at c k) 1 ≡ v → ((j : ℕ) → (j ≡ k → ⊥) → bit_at c j ≡ bit_at b j) → is_marked c ≡ on k v (is_marked b)
differ b c k v here others = fun_ext (λ j. by j (ℕ_discrete j k)) where
  by : (j : ℕ) → Dec (j ≡ k) → is_marked c j ≡ on k v (is_marked b) j
  by j (yes e) = ap (λ (i : ℕ). eqb (bit_at c i) 1) e ∙ here ∙ sym (ap (λ (t : Bool). pick t v (is_marked b j)) (eq-eqb j k e))
  by j (no n) = ap (λ (x : ℕ). eqb x 1) (others j n) ∙ sym (ap (λ (t : Bool). pick t v (is_marked b j)) (ne_eqb j k n))

-- set
pub bit_set : (k b : ℕ) → is_marked (bit_or b (2 ^ k)) ≡ on k true (is_marked b)
bit_set k b =
    let here : bit_at (bit_or b (2 ^ k)) k ≡ 1 = omega (arith, bit_at_or b (2 ^ k) k, bit_at-pow_same k, bit_at-lt b k) in
    differ b (bit_or b (2 ^ k)) k true (ap (λ (x : ℕ). eqb x 1) here)
    (λ j n. omega (arith, bit_at_or b (2 ^ k) j, bit_at-pow_other k j n))

-- cleared
pub bit_clear : (k b : ℕ) → k < 8 → b < 256 → is_marked (bit_and b (255 - 2 ^ k)) ≡ on k false (is_marked b)
bit_clear k b h low =
    let room : 2 ^ k < 2 ^ 8 = pow_below k 8 h in
    let and : (j : ℕ) → bit_at (bit_and b (255 - 2 ^ k)) j ≡ min (bit_at b j) (bit_at (255 - 2 ^ k) j) = bit_at_and b (255 - 2 ^ k) in
    let here : bit_at (bit_and b (255 - 2 ^ k)) k ≡ 0 = omega (arith, and k, bit_at_not w8 (2 ^ k) k room h, bit_at-pow_same k) in
    differ b (bit_and b (255 - 2 ^ k)) k false (ap (λ (x : ℕ). eqb x 1) here) (λ j n. by room (and j) n (dec_le 8 j))
  where
    by : {j : ℕ} → 2 ^ k < 2 ^ 8 → bit_at (bit_and b (255 - 2 ^ k)) j ≡ min (bit_at b j) (bit_at (255 - 2 ^ k) j) → (j ≡ k → ⊥) → Dec (8 ≤ j)
        → bit_at (bit_and b (255 - 2 ^ k)) j ≡ bit_at b j
    by {j} room e n (yes g) = omega (arith, e, bit_at_above b 8 j low g)
    by {j} room e n (no g) = omega (arith, e, bit_at_not w8 (2 ^ k) j room (omega (arith, g)), bit_at-pow_other k j n, bit_at-lt b j)

-- a number with bit k is no less than the bit
pub bit_le : (k b : ℕ) → is_marked b k ≡ true → 2 ^ k ≤ b
bit_le k b h = by (dec_le (2 ^ k) b) where
  by : Dec (2 ^ k ≤ b) → 2 ^ k ≤ b
  by (yes g) = g
  by (no g) =
      let z : bit_at b k ≡ 0 = bit_at_above b k k (omega (arith, g)) (omega arith) in
      absurd (false≢true (sym (ap (λ (x : ℕ). eqb x 1) z) ∙ h))

-- ---- the bits of two numbers together
either : (x y : ℕ) → x < 2 → y < 2 → eqb (max x y) 1 ≡ (eqb x 1 || eqb y 1)
either zero zero h g = refl
either zero (suc zero) h g = refl
either (suc zero) zero h g = refl
either (suc zero) (suc zero) h g = refl
either (suc (suc x)) y h g = absurd (omega arith)
either x (suc (suc y)) h g = absurd (omega arith)

pub marked_or : (k a b : ℕ) → is_marked (bit_or a b) k ≡ (is_marked a k || is_marked b k)
marked_or k a b = ap (λ (x : ℕ). eqb x 1) (bit_at_or a b k) ∙ either (bit_at a k) (bit_at b k) (bit_at-lt a k) (bit_at-lt b k)

-- ---- no bit, and the bits of a spread
pub none_at : (j : ℕ) → is_marked 0 j ≡ false
none_at j = rw (zero-div (2 ^ j))

pub spread_none : (live : ℕ → Bool) (k remaining : ℕ) → remaining ≡ 0 → is_marked 0 ≡ spread live k remaining
spread_none live k remaining e = rw e (fun_ext none_at)

and_not : (x t : Bool) → pick t false x ≡ (x && not t)
and_not true true = refl
and_not true false = refl
and_not false true = refl
and_not false false = refl

spread_at : (live : ℕ → Bool) (k remaining j : ℕ) → 0 < remaining → on k false live j ≡ spread live k remaining j
spread_at live k remaining j h = rw (lt-ltb 0 remaining h) (and_not (live j) (eqb j k))

pub spread_some : (live : ℕ → Bool) (k remaining : ℕ) → 0 < remaining → on k false live ≡ spread live k remaining
spread_some live k remaining h = fun_ext (λ j. spread_at live k remaining j h)
