-- Lines as text.
-- Assumes nothing.
use Rattle.std.proofs.Common.{◌≡◌, ℕ, ◌+◌, ◌-◌, ◌/◌, ◌%◌, ◌^◌, ◌<◌, ◌≤◌, Bool, true, false, cond, leb, List, [], ◌∷◌, ◌++◌, length, take, drop, set, sym}
use Rattle.std.proofs.Common.{refl, ap, ◌∙◌, add-one, arith, lt-ltb, leb-false, leb-true}
use native.Mathlib.Nat.{pow-le-pow_right}
use lib.Seq.{set_split}
use Rattle.laws.specs.Puts.{put_at, Put}
use Rattle.laws.proofs.Puts.{then_put, four_puts, put_length}
use Rattle.io.specs.Digits.{hex_digit_ascii, last_digits, IsDigitCount}
use Rattle.lines.specs.Text.{PutsNumber, PutsNumbers}

-- a store is a put of one octet
put_one : (l : List ℕ) (at x : ℕ) → at < length l → Put (x ∷ []) at l (set l at x) (at + 1)
unfolding put_at
put_one l at x h = record { next = refl; octets = set_split l at x h ∙ ap (λ (n : ℕ). take at l ++ (x ∷ drop n l)) (sym (add-one at)) }

-- a u64 has no more than 20 digits
few_if : (n k : ℕ) (b : Bool) → leb k 20 ≡ b → n < 18446744073709551616 → IsDigitCount 10 1 n k → k ≤ 20
few_if n k true e h f = leb-true k 20 e
few_if n k false e h f =
    let g : 20 < k = leb-false k 20 e in
    let big : 10 ^ 20 ≤ 10 ^ (k - 1) = pow-le-pow_right {n = 10} (omega arith) {i = 20} {j = k - 1} (omega arith) in
    let least : 10 ^ (k - 1) ≤ n = f.2 (omega arith) in
    absurd (omega arith)

pub few_digits : (n k : ℕ) → n < 18446744073709551616 → IsDigitCount 10 1 n k → k ≤ 20
few_digits n k = few_if n k (leb k 20) refl

-- the digits put, and the octet behind them
pub number_put : (n behind at k : ℕ) (v before mid : List ℕ) (end : ℕ) → at + 21 ≤ length before → length v ≤ 20 →
    IsDigitCount 10 1 n k → v ≡ last_digits 10 k n
    → Put v at before mid end → (PutsNumber n behind at before (set mid end behind) (end + 1)) × (end + 1 ≤ at + 21)
number_put n behind at k v before mid end room few f e p =
    let m : length mid ≡ length before = ap length p.octets ∙ put_length before at v (omega arith) in
    let g : end ≡ at + length v = p.next in (
      record {
        octets = v ++ (behind ∷ []);
        means = record { places = k; fewest = f; text = ap (λ (l : List ℕ). l ++ (behind ∷ [])) e };
        put = then_put before at v (behind ∷ []) (omega arith) p (put_one mid end behind (omega arith));
      },
      omega arith,
    )

-- ---- short numbers, digit by digit
at_digit : (x d : ℕ) → d < 10 → x ≡ 48 + d → x ≡ hex_digit_ascii d
at_digit x d h e = e ∙ sym (ap (λ (b : Bool). cond b (48 + d) (87 + d)) (lt-ltb d 10 h))

-- n has `places` digits and t is their text
pub record Short (n behind places : ℕ) (t : List ℕ) : Type 0 where
  pub least : (1 < places) → 10 ^ (places - 1) ≤ n
  pub below : n < 10 ^ places
  pub some : 1 ≤ places
  pub few : length t ≤ 21
  pub text : t ≡ last_digits 10 places n ++ (behind ∷ [])

pub short_put : (n behind at places : ℕ) (t before after : List ℕ) (r : ℕ) → Short n behind places t → Put t at before after r
    → (PutsNumber n behind at before after r) × (r ≤ at + 21)
short_put n behind at places t before after r s p = (
  record { octets = t; means = record { places = places; fewest = (s.some, s.below, s.least); text = s.text }; put = p },
  omega (arith, p.next, s.few),
)

module _ (n behind : ℕ) where
  pub one_digit : (a : ℕ) → n < 10 → a ≡ 48 + n → Short n behind 1 (a ∷ behind ∷ [])
  one_digit a h e = record {
    least = λ z. absurd (omega arith);
    below = h;
    some = omega arith;
    few = omega arith;
    text = λ i. at_digit a (n % 10) (omega arith) (omega arith) i ∷ behind ∷ [];
  }

  pub two_digits : (a b : ℕ) → 10 ≤ n → n < 100 → a ≡ 48 + n / 10 → b ≡ 48 + n % 10 → Short n behind 2 (a ∷ b ∷ behind ∷ [])
  two_digits a b g h e f = record {
    least = λ z. g;
    below = h;
    some = omega arith;
    few = omega arith;
    text = λ i. at_digit a (n / 10 % 10) (omega arith) (omega arith) i ∷ at_digit b (n % 10) (omega arith) f i ∷ behind ∷ [];
  }

  pub three_digits : (a b c : ℕ) → 100 ≤ n → n < 1000 → a ≡ 48 + n / 100 → b ≡ 48 + n / 10 % 10 → c ≡ 48 + n % 10 → Short n behind 3 (a ∷ b ∷ c ∷ behind ∷ [])
  three_digits a b c g h e f k = record {
    least = λ z. g;
    below = h;
    some = omega arith;
    few = omega arith;
    text = λ i. at_digit a (n / 10 / 10 % 10) (omega arith) (omega arith) i ∷ at_digit b (n / 10 % 10) (omega arith) f i ∷ at_digit c (n % 10) (omega arith)
        k i ∷ behind ∷ [];
  }

  pub four_digits : (a b c d : ℕ) → 1000 ≤ n → n < 10000 → a ≡ 48 + n / 1000 → b ≡ 48 + n / 100 % 10 → c ≡ 48 + n / 10 % 10 → d ≡ 48 + n % 10
      → Short n behind 4 (a ∷ b ∷ c ∷ d ∷ behind ∷ [])
  four_digits a b c d g h e f k l = record {
    least = λ z. g;
    below = h;
    some = omega arith;
    few = omega arith;
    text = λ i. at_digit a (n / 10 / 10 / 10 % 10) (omega arith) (omega arith) i ∷ at_digit b (n / 10 / 10 % 10) (omega arith) (omega arith) i
        ∷ at_digit c (n / 10 % 10) (omega arith) k i ∷ at_digit d (n % 10) (omega arith) l i ∷ behind ∷ [];
  }

  pub five_digits : (a b c d x : ℕ) → 10000 ≤ n → n < 100000 → a ≡ 48 + n / 10000 → b ≡ 48 + n / 1000 % 10 → c ≡ 48 + n / 100 % 10 → d ≡ 48 + n / 10 % 10
      → x ≡ 48 + n % 10
      → Short n behind 5 (a ∷ b ∷ c ∷ d ∷ x ∷ behind ∷ [])
  five_digits a b c d x g h e f k l m = record {
    least = λ z. g;
    below = h;
    some = omega arith;
    few = omega arith;
    text = λ i. at_digit a (n / 10 / 10 / 10 / 10 % 10) (omega arith) (omega arith) i ∷ at_digit b (n / 10 / 10 / 10 % 10) (omega arith) (omega arith) i
        ∷ at_digit c (n / 10 / 10 % 10) (omega arith) (omega arith) i ∷ at_digit d (n / 10 % 10) (omega arith) l i ∷ at_digit x (n % 10) (omega arith) m i ∷
        behind ∷ [];
  }

-- four numbers put, each behind the one before
module _ {a b c d at : ℕ} {t₀ t₁ t₂ t₃ t₄ : List ℕ} {i j k n : ℕ} where
  pub line_put : at + 84 ≤ length t₀ → i ≤ at + 21 → j ≤ i + 21 → k ≤ j + 21 → n ≤ k + 21
      → PutsNumber a 32 at t₀ t₁ i → PutsNumber b 32 i t₁ t₂ j → PutsNumber c 32 j t₂ t₃ k → PutsNumber d 10 k t₃ t₄ n
      → (PutsNumbers (a ∷ b ∷ c ∷ d ∷ []) at t₀ t₄ n) × (n ≤ at + 84)
  line_put room hi hj hk hn p q r s =
      let gi : i ≡ at + length p.octets = p.put.next in
      let gj : j ≡ i + length q.octets = q.put.next in
      let gk : k ≡ j + length r.octets = r.put.next in (
        record {
          octets = p.octets ++ (q.octets ++ (r.octets ++ s.octets));
          means = (
            p.octets,
            q.octets ++ (r.octets ++ s.octets),
            p.means,
            (q.octets, r.octets ++ s.octets, q.means, (r.octets, s.octets, r.means, s.means, refl), refl),
            refl,
          );
          put = four_puts t₀ at p.octets q.octets r.octets s.octets (omega arith) p.put q.put r.put s.put;
        },
        omega arith,
      )
