-- Laws of integers: their order, the next one, and those of 32 bits.
-- Assumes nothing.
use Prim.Native.Nat.{ℕ, zero, suc, ◌-◌, ◌≤◌, ◌<◌}
use mathlib.Core.Path.{◌≡◌, refl, sym}
use mathlib.Core.Bool.{Bool, true, false, false≢true}
use native.Mathlib.Omega.{arith}
use lib.IntN.{ℤ, pos, negsuc, suc_ℤ}
use lib.Signed.{lt_z, le_z, ◌≤ℤ◌}
use lib.Dec.{T, ltb, leb→le, le→leb}
use borrow.Author.Tests.{ltb-true, ltb-false, leb-false, lt-ltb, le-ltb}
use mir.Syntax.{w32}
use mir.Val.{SFits, to_z, sel}

-- ---- the order
pub le_of_lt : (a b : ℤ) → lt_z a b ≡ true → a ≤ℤ b
le_of_lt (pos a) (pos b) e = record { le = le→leb a b (omega (arith, ltb-true a b e)) }
le_of_lt (pos a) (negsuc b) e = absurd (false≢true e)
le_of_lt (negsuc a) (pos b) e = record { le = tt }
le_of_lt (negsuc a) (negsuc b) e = record { le = le→leb b a (omega (arith, ltb-true b a e)) }

le_trans : (a b c : ℤ) → T (le_z a b) → T (le_z b c) → T (le_z a c)
le_trans (pos a) (pos b) (pos c) h k = le→leb a c (omega (arith, leb→le a b h, leb→le b c k))
le_trans (pos a) (pos b) (negsuc c) h k = k
le_trans (pos a) (negsuc b) c h k = absurd h
le_trans (negsuc a) (pos b) (pos c) h k = tt
le_trans (negsuc a) (pos b) (negsuc c) h k = absurd k
le_trans (negsuc a) (negsuc b) (pos c) h k = tt
le_trans (negsuc a) (negsuc b) (negsuc c) h k = le→leb c a (omega (arith, leb→le b a h, leb→le c b k))

pub ≤ℤ_trans : {a b c : ℤ} → a ≤ℤ b → b ≤ℤ c → a ≤ℤ c
≤ℤ_trans {a} {b} {c} h k = record { le = le_trans a b c h.le k.le }

pub not_le : (a b : ℤ) → le_z a b ≡ false → lt_z b a ≡ true
not_le (pos a) (pos b) e = lt-ltb b a (leb-false a b e)
not_le (pos a) (negsuc b) e = refl
not_le (negsuc a) (pos b) e = absurd (false≢true (sym e))
not_le (negsuc a) (negsuc b) e = lt-ltb a b (leb-false b a e)

pub not_less_same : (a : ℤ) → lt_z a a ≡ false
not_less_same (pos a) = le-ltb a a (omega arith)
not_less_same (negsuc a) = le-ltb a a (omega arith)

-- ---- the next one
pub lt_suc : (n : ℤ) → lt_z n (suc_ℤ n) ≡ true
lt_suc (pos n) = lt-ltb n (suc n) (omega arith)
lt_suc (negsuc zero) = refl
lt_suc (negsuc (suc n)) = lt-ltb n (suc n) (omega arith)

pub le_suc : (n : ℤ) → n ≤ℤ suc_ℤ n
le_suc n = le_of_lt n (suc_ℤ n) (lt_suc n)

-- ---- 32 bits
-- 2147483647 is the greatest
pub le_greatest : (n : ℤ) → SFits w32 n → n ≤ℤ pos 2147483647
le_greatest (pos n) h = record { le = le→leb n 2147483647 (let s : n < 2147483648 = h.sfits in omega arith) }
le_greatest (negsuc n) h = record { le = tt }

to_z_by : (n : ℕ) (b : Bool) → ltb n 2147483648 ≡ b → SFits w32 (sel b (pos n) (negsuc (4294967296 - suc n)))
to_z_by n true e = record { sfits = ltb-true n 2147483648 e }
to_z_by n false e = record { sfits = let h : 2147483648 ≤ n = ltb-false n 2147483648 e in omega arith }

-- any number read as signed, even one of more than 32 bits
pub to_z_any : (n : ℕ) → SFits w32 (to_z w32 n)
to_z_any n = to_z_by n (ltb n 2147483648) refl

-- a number below 2147483646 has a next one
pub suc_fits : (n : ℤ) → SFits w32 n → le_z (pos 2147483646) n ≡ false → SFits w32 (suc_ℤ n)
suc_fits (pos n) h e = record { sfits = let s : n < 2147483646 = leb-false 2147483646 n e in omega arith }
suc_fits (negsuc zero) h e = record { sfits = omega arith }
suc_fits (negsuc (suc n)) h e = record { sfits = let s : suc n < 2147483648 = h.sfits in omega arith }
