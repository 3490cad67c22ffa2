-- A kept CA: what stands there after it was put, and what the whole memory means then.
-- Assumes nothing.
use Rattle.std.proofs.Common.{◌≡◌, ℕ, ◌+◌, ◌<◌, ◌≤◌, min, List, [], length, take, drop, sym, refl, ap, ◌∙◌, arith, length-drop, length-take, take-take}
use Rattle.laws.specs.Lists.{part}
use Rattle.laws.specs.Puts.{put_at, written, Put}
use Rattle.laws.proofs.Lists.{take_short}
use Rattle.laws.proofs.Puts.{put_length, put_zero}
use Rattle.protocol.specs.Fields.{field2, put2}
use Rattle.memory.specs.Layout.{memory_size, kept_size, kept_place}
use Rattle.memory.specs.Memory.{kept_in, memory_of, kept_put}
use Rattle.memory.proofs.Frame.{put_before, put_behind, same_trans, field2_same, kept_changed}
use Rattle.memory.proofs.Rooms.{part_put, size_put}

-- ---- reading
module _ (s : List ℕ) (k at : ℕ) (place : at ≡ kept_place k) where
  pub kept_read : (n : ℕ) (p v : List ℕ) → n ≡ field2 s at → p ≡ part s (at + 2) 284 → v ≡ take n p → v ≡ kept_in s k
  unfolding kept_in
  kept_read n p v e f g = g ∙ (λ j. take (e j) (f j)) ∙ ap (λ (z : ℕ). take (field2 s z) (part s (z + 2) 284)) place

  pub kept_length : (n : ℕ) → at + 286 ≤ length s → n ≡ min (field2 s at) 284 → (n ≡ length (kept_in s k)) × (n ≤ 284)
  unfolding kept_in
  kept_length n fits e =
      let room : length (part s (at + 2) 284) ≡ 284 = simp (length-take, length-drop) (omega arith) in
      let f : length (take (field2 s at) (part s (at + 2) 284)) ≡ min (field2 s at) 284 =
      length-take (field2 s at) (part s (at + 2) 284) ∙ ap (min (field2 s at)) room in
      (e ∙ sym f ∙ ap (λ (z : ℕ). length (take (field2 s z) (part s (z + 2) 284))) place, omega arith)

pub kept_short : (s : List ℕ) (k : ℕ) → length (kept_in s k) ≤ 284
unfolding kept_in
kept_short s k =
    let p : List ℕ = part s (kept_place k + 2) 284 in
    omega (arith, take_short (field2 s (kept_place k)) p, take_short 284 (drop (kept_place k + 2) s))

-- ---- writing
module _ (s : List ℕ) (k : ℕ) (slot : k < 8) (size : length s ≡ memory_size) where
  forgotten : memory_of (put_at s (kept_place k) (put2 0 [])) ≡ kept_put k [] (memory_of s)
  unfolding kept_in
  forgotten =
      let at : ℕ = kept_place k in
      let w : List ℕ = put2 0 [] in
      let t : List ℕ = put_at s at w in
      let fits : at + 2 ≤ length s = omega arith in
      kept_changed s t k slot (put_before s w at fits 0 at (omega arith)) (put_behind s w at fits (at + kept_size) memory_size (omega arith))
      ∙ ap (λ (n : ℕ). kept_put k (take n (part t (at + 2) 284)) (memory_of s)) (size_put s at 0 fits)

  module _ (v : List ℕ) (short : length v ≤ 284) where
    stored : memory_of (put_at (put_at s (kept_place k) (put2 (length v) [])) (kept_place k + 2) v) ≡ kept_put k v (memory_of s)
    unfolding kept_in
    stored =
        let at : ℕ = kept_place k in
        let n : ℕ = length v in
        let w : List ℕ = put2 n [] in
        let t : List ℕ = put_at s at w in
        let u : List ℕ = put_at t (at + 2) v in
        let small : at + 2 ≤ length s = omega arith in
        let T : length t ≡ length s = put_length s at w small in
        let fits : at + 2 + length v ≤ length t = omega arith in
        let held : take (field2 u at) (part u (at + 2) 284) ≡ v =
        ap (λ (m : ℕ). take m (part u (at + 2) 284))
        (field2_same at (at + 2) u t (put_before t v (at + 2) fits at (at + 2) (omega arith)) at (omega arith) (omega arith) ∙ size_put s at n small)
        ∙ take-take n 284 (drop (at + 2) u) short ∙ part_put t v (at + 2) n (omega arith) refl in
        kept_changed s u k slot (same_trans (put_before t v (at + 2) fits 0 at (omega arith)) (put_before s w at small 0 at (omega arith)))
        (same_trans (put_behind t v (at + 2) fits (at + kept_size) memory_size (omega arith)) (put_behind s w at small (at + kept_size) memory_size (omega arith)))
        ∙ ap (λ (z : List ℕ). kept_put k z (memory_of s)) held

module _ (s : List ℕ) (k at : ℕ) (place : at ≡ kept_place k) (slot : k < 8) (size : length s ≡ memory_size) where
  pub kept_none : (t : List ℕ) → t ≡ put_at s at (put2 0 []) → memory_of t ≡ kept_put k [] (memory_of s)
  kept_none t e = ap memory_of (e ∙ ap (λ (z : ℕ). put_at s z (put2 0 [])) place) ∙ forgotten s k slot size

  pub kept_put_lem : (v t u : List ℕ) → length v ≤ 284 → t ≡ put_at s at (put2 (length v) []) → u ≡ put_at t (at + 2) v → memory_of u ≡ kept_put k v (memory_of s)
  kept_put_lem v t u short e f =
      ap memory_of (f ∙ ap (λ (z : List ℕ). put_at z (at + 2) v) e ∙ ap (λ (z : ℕ). put_at (put_at s z (put2 (length v) [])) (z + 2) v) place)
      ∙ stored s k slot size v short

-- ---- giving
pub kept_copied : (out after p q : List ℕ) (n : ℕ) → p ≡ q → Put p 0 out after n → (n ≡ length q) × (after ≡ written q out)
kept_copied out after p q n e h =
    let a : n ≡ length p = let b : n ≡ 0 + length p = h.next in omega arith in
    (a ∙ ap length e, h.octets ∙ put_zero out p ∙ ap (λ (z : List ℕ). written z out) e)
