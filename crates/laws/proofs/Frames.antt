-- Laws of a list by its octets: what a put leaves inside and outside its place, and when two parts are the same.
-- Assumes nothing.
use Prim.Native.Nat.{ℕ, ◌+◌, ◌-◌, ◌≤◌, ◌<◌}
use mathlib.Core.Path.{◌≡◌, sym, ap, ◌∙◌}
use mathlib.Core.List.{List, append_assoc, ◌++◌}
use mathlib.Core.Logic.{◌⊎◌, inl, inr}
use native.Mathlib.Omega.{arith}
use lib.ListN.{length, take, drop, get_or, length-append, length-take, length-drop, get_or-append}
use lib.Seq.{length-take-le, get_or-append-add, get_or-take, get_or-drop, ext_get_or}
use Rattle.laws.specs.Lists.{part}
use Rattle.laws.specs.Puts.{put_at}

module _ (s v : List ℕ) (at : ℕ) (room : at + length v ≤ length s) where
  -- octets outside the place of a put
  pub put_other : (j : ℕ) → (j < at) ⊎ (at + length v ≤ j) → get_or (put_at s at v) j 0 ≡ get_or s j 0
  unfolding put_at
  put_other j (inl h) =
      let t : length (take at s) ≡ at = length-take-le at s (omega arith) in
      get_or-append (take at s) (v ++ drop (at + length v) s) 0 j (omega arith) ∙ get_or-take at s j 0 h
  put_other j (inr h) =
      let n : ℕ = at + length v in
      let t : length (take at s) ≡ at = length-take-le at s (omega arith) in
      let front : List ℕ = take at s ++ v in
      let e : length front ≡ n = length-append (take at s) v ∙ ap (λ (k : ℕ). k + length v) t in
      let f : j ≡ length front + (j - n) = omega arith in
      let g : n + (j - n) ≡ j = omega arith in
      ap (λ (l : List ℕ). get_or l j 0) (sym (append_assoc (take at s) v (drop n s)))
      ∙ ap (λ (k : ℕ). get_or (front ++ drop n s) k 0) f
      ∙ get_or-append-add front (drop n s) (j - n) 0
      ∙ get_or-drop n s (j - n) 0
      ∙ ap (λ (k : ℕ). get_or s k 0) g

  -- octets inside it
  pub put_inside : (i : ℕ) → i < length v → get_or (put_at s at v) (at + i) 0 ≡ get_or v i 0
  unfolding put_at
  put_inside i h =
      let rest : List ℕ = v ++ drop (at + length v) s in
      let t : length (take at s) ≡ at = length-take-le at s (omega arith) in
      ap (λ (k : ℕ). get_or (take at s ++ rest) (k + i) 0) (sym t)
      ∙ get_or-append-add (take at s) rest i 0
      ∙ get_or-append v (drop (at + length v) s) 0 i h

-- parts of the same octets
pub part_octets : (s t : List ℕ) (at n : ℕ) → length s ≡ length t → ((j : ℕ) → at ≤ j → j < at + n → get_or s j 0 ≡ get_or t j 0) → part s at n ≡ part t at n
part_octets s t at n e h = ext_get_or 0 (part s at n) (part t at n) lengths octets
  where
    lengths : length (part s at n) ≡ length (part t at n)
    lengths = simp (length-take, length-drop, e)

    octets : (i : ℕ) → i < length (part s at n) → get_or (part s at n) i 0 ≡ get_or (part t at n) i 0
    octets i g =
        let m = length-take n (drop at s) in
        let b : i < n = omega arith in
        get_or-take n (drop at s) i 0 b ∙ get_or-drop at s i 0
        ∙ h (at + i) (omega arith) (omega arith)
        ∙ sym (get_or-take n (drop at t) i 0 b ∙ get_or-drop at t i 0)
