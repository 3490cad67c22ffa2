-- Octets from a position on, split behind a field: what is read there, put before the rest.
-- Assumes nothing.
use Prim.Native.Nat.{ℕ, ◌+◌, ◌*◌, ◌/◌, ◌%◌, ◌≤◌, ◌<◌}
use mathlib.Core.Path.{◌≡◌, refl, sym, ap, ◌∙◌}
use mathlib.Core.List.{List, ◌∷◌}
use native.Mathlib.Omega.{arith}
use lib.ListN.{length, drop}
use lib.Seq.{get_or-drop}
use mir.Syntax.{w32}
use mir.Val.{Fits}
use Rattle.laws.specs.Lists.{part}
use Rattle.laws.proofs.Cells.{each_take}
use Rattle.laws.proofs.Lists.{peel1}
use Rattle.protocol.specs.Fields.{octet, field2, field4, put2, put4}
use Rattle.protocol.specs.WellFormed.{Octets}

-- ---- numbers and their octets
pub put2_of : (a b : ℕ) (rest : List ℕ) → b < 256 → put2 (a * 256 + b) rest ≡ a ∷ b ∷ rest
put2_of a b rest h =
    let x : (a * 256 + b) / 256 ≡ a = omega arith in
    let y : (a * 256 + b) % 256 ≡ b = omega arith in
    λ i. x i ∷ y i ∷ rest

pub put4_of : (a b c d : ℕ) (rest : List ℕ) → b < 256 → c < 256 → d < 256
    → put4 (((a * 256 + b) * 256 + c) * 256 + d) rest ≡ a ∷ b ∷ c ∷ d ∷ rest
put4_of a b c d rest hb hc hd =
    let n : ℕ = ((a * 256 + b) * 256 + c) * 256 + d in
    let x : n / 16777216 ≡ a = omega arith in
    let y : n / 65536 % 256 ≡ b = omega arith in
    let z : n / 256 % 256 ≡ c = omega arith in
    let t : n % 256 ≡ d = omega arith in
    λ i. x i ∷ y i ∷ z i ∷ t i ∷ rest

-- ---- fields
module _ (p : List ℕ) (o : Octets p) where
  pub field2_fits : (at : ℕ) → field2 p at < 65536
  field2_fits at = let a = o at in let b = o (at + 1) in omega arith

  pub field4_fits : (at : ℕ) → field4 p at < 4294967296
  field4_fits at = let a = o at in let b = o (at + 1) in let c = o (at + 2) in let d = o (at + 3) in omega arith

  pub bits_fit : (at : ℕ) → Fits w32 (field4 p at)
  bits_fit at = record { fits = field4_fits at }

  pub peel2 : (at next : ℕ) → next ≡ at + 2 → next ≤ length p → drop at p ≡ put2 (field2 p at) (drop next p)
  peel2 at next e h =
      peel1 p at (at + 1) refl (omega arith) ∙ ap (λ (l : List ℕ). octet p at ∷ l) (peel1 p (at + 1) next (omega arith) h)
      ∙ sym (put2_of (octet p at) (octet p (at + 1)) (drop next p) (o (at + 1)))

  pub peel4 : (at next : ℕ) → next ≡ at + 4 → next ≤ length p → drop at p ≡ put4 (field4 p at) (drop next p)
  peel4 at next e h =
      peel1 p at (at + 1) refl (omega arith)
      ∙ ap (λ (l : List ℕ). octet p at ∷ l)
      (peel1 p (at + 1) (at + 2) (omega arith) (omega arith)
      ∙ ap (λ (l : List ℕ). octet p (at + 1) ∷ l)
      (peel1 p (at + 2) (at + 3) (omega arith) (omega arith)
      ∙ ap (λ (l : List ℕ). octet p (at + 2) ∷ l) (peel1 p (at + 3) next (omega arith) h)))
      ∙ sym (put4_of (octet p at) (octet p (at + 1)) (octet p (at + 2)) (octet p (at + 3)) (drop next p) (o (at + 1)) (o (at + 2)) (o (at + 3)))

  -- the octets of a part are octets
  pub part_octets : (at n : ℕ) → Octets (part p at n)
  part_octets at n = each_take (λ (x : ℕ). x < 256) 0 (omega arith) n (drop at p) (λ i. rw (get_or-drop at p i 0) (o (at + i)))
