-- How many of some places in a row pass a test: a list's count by its places, and a table whose places come again after the last.
-- Assumes nothing.
use Prim.Native.Nat.{ℕ, zero, suc, ◌+◌, ◌≤◌, ◌<◌}
use mathlib.Core.Path.{◌≡◌, refl, sym, ap, ◌∙◌}
use mathlib.Core.Bool.{Bool, true, false, false≢true}
use mathlib.Core.List.{List, [], ◌∷◌, map}
use native.Mathlib.Omega.{arith}
use lib.ListN.{length, get_or}
use Rattle.laws.specs.Choice.{pick}
use Rattle.laws.specs.Tables.{change, count}
use Rattle.laws.proofs.Bools.{pick_of}

-- of `left` places from j on
unfoldable pub tally : (ℕ → Bool) → ℕ → ℕ → ℕ
tally p zero j = 0
tally p (suc left) j = pick (p j) (suc (tally p left (suc j))) (tally p left (suc j))

pub tally_same : (p q : ℕ → Bool) (left j : ℕ) → ((i : ℕ) → j ≤ i → i < j + left → p i ≡ q i) → tally p left j ≡ tally q left j
unfolding tally
tally_same p q zero j h = refl
tally_same p q (suc left) j h =
    rw (h j (omega arith) (omega arith), tally_same p q left (suc j) (λ i a b. h i (omega arith) (omega arith))) refl

fewer_by : (a b : ℕ) (p q : Bool) → (q ≡ true → p ≡ true) → b ≤ a → pick q (suc b) b ≤ pick p (suc a) a
fewer_by a b true true h l = omega arith
fewer_by a b true false h l = omega arith
fewer_by a b false true h l = absurd (false≢true (h refl))
fewer_by a b false false h l = l

pub tally_fewer : (p q : ℕ → Bool) → ((i : ℕ) → q i ≡ true → p i ≡ true) → (left j : ℕ) → tally q left j ≤ tally p left j
unfolding tally
tally_fewer p q h zero j = omega arith
tally_fewer p q h (suc left) j = fewer_by (tally p left (suc j)) (tally q left (suc j)) (p j) (q j) (h j) (tally_fewer p q h left (suc j))

-- ---- one place more at the end
last_by : (a b c : ℕ) (p : Bool) → a ≡ b + c → pick p (suc a) a ≡ pick p (suc b) b + c
last_by a b c true h = omega arith
last_by a b c false h = h

one_by : (p : Bool) → pick p 1 0 ≡ 0 + pick p 1 0
one_by true = refl
one_by false = refl

tally_last : (p : ℕ → Bool) (left j : ℕ) → tally p (suc left) j ≡ tally p left j + pick (p (j + left)) 1 0
unfolding tally
tally_last p zero j = ap (λ (i : ℕ). pick (p i) 1 0) (omega arith) ∙ one_by (p (j + 0))
tally_last p (suc left) j =
    last_by (tally p (suc left) (suc j)) (tally p left (suc j)) (pick (p (suc j + left)) 1 0) (p j) (tally_last p left (suc j))
    ∙ ap (λ (i : ℕ). pick (p j) (suc (tally p left (suc j))) (tally p left (suc j)) + pick (p i) 1 0) (omega arith)

-- ---- places that come again after n
round_by : (a b : ℕ) (p : Bool) → pick p (suc a) a ≡ b + pick p 1 0 → a ≡ b
round_by a b true h = omega arith
round_by a b false h = omega arith

module _ (p : ℕ → Bool) (n : ℕ) (again : (i : ℕ) → p (i + n) ≡ p i) where
  round_one : (j : ℕ) → tally p n (suc j) ≡ tally p n j
  unfolding tally
  round_one j = round_by (tally p n (suc j)) (tally p n j) (p j) (tally_last p n j ∙ ap (λ (b : Bool). tally p n j + pick b 1 0) (again j))

  pub tally_round : (j : ℕ) → tally p n j ≡ tally p n 0
  tally_round zero = refl
  tally_round (suc j) = round_one j ∙ tally_round j

-- ---- a list
shifted : (p q : ℕ → Bool) (left j : ℕ) → ((i : ℕ) → p (suc i) ≡ q i) → tally p left (suc j) ≡ tally q left j
unfolding tally
shifted p q zero j h = refl
shifted p q (suc left) j h = rw (h j, shifted p q left (suc j) h) refl

module _ {A : Type 0} (q : A → Bool) where
  pub count_tally : (d : A) (l : List A) → count q l ≡ tally (λ i. q (get_or l i d)) (length l) 0
  unfolding tally
  count_tally d [] = refl
  count_tally d (x ∷ l) =
      ap (λ (n : ℕ). pick (q x) (suc n) n)
      (count_tally d l ∙ sym (shifted (λ i. q (get_or (x ∷ l) i d)) (λ i. q (get_or l i d)) (length l) 0 (λ i. refl)))

  this_less : (a b : Bool) (n : ℕ) → pick a (suc n) n ≤ suc (pick b (suc n) n)
  this_less true true n = omega arith
  this_less true false n = omega arith
  this_less false true n = omega arith
  this_less false false n = omega arith

  one_less : (a : Bool) (m n : ℕ) → m ≤ suc n → pick a (suc m) m ≤ suc (pick a (suc n) n)
  one_less true m n h = omega arith
  one_less false m n h = h

  -- a change of one cell takes away no more than one
  pub count_change : (p : A → Bool) (f : A → A) (l : List A) → count q l ≤ suc (count q (change p f l))
  count_change p f [] = omega arith
  count_change p f (x ∷ l) =
      pick_of (λ (m : List A). count q (x ∷ l) ≤ suc (count q m)) (p x) (f x ∷ l) (x ∷ change p f l) (this_less (q x) (q (f x)) (count q l))
      (one_less (q x) (count q l) (count q (change p f l)) (count_change p f l))

  pub count_map : (f : A → A) → ((x : A) → q (f x) ≡ q x) → (l : List A) → count q (map f l) ≡ count q l
  count_map f h [] = refl
  count_map f h (x ∷ l) = rw (h x, count_map f h l) refl
