-- A walk over the additional receivers of a Hello.
-- Assumes nothing.
use Prim.Native.Nat.{ℕ, ◌+◌, ◌-◌, ◌*◌, ◌≤◌, ◌<◌}
use mathlib.Core.Path.{◌≡◌, sym, ap, ◌∙◌}
use mathlib.Core.Bool.{Bool, true, false, ◌||◌}
use mathlib.Core.List.{List}
use native.Mathlib.Omega.{arith}
use Rattle.laws.specs.Lists.{part}
use Rattle.laws.specs.Tables.{has, same}
use Rattle.protocol.specs.Sizes.{id_length}
use Rattle.protocol.specs.Reading.{receivers_at}
use Rattle.rules.specs.Packets.{names_us}
use Rattle.wire.proofs.Records.{no_receivers, next_receiver}

-- ---- the receivers from the one with index i on, of `left` at `at`
module _ (id p : List ℕ) (left at : ℕ) where
  abbrev pub rest : ℕ → Bool
  rest i = has (same id) (receivers_at id_length p (left - i) (at + 5 * i))

  pub rest_all : has (same id) (receivers_at id_length p left at) ≡ rest 0
  rest_all =
      let e : left ≡ left - 0 = omega arith in
      let f : at ≡ at + 5 * 0 = omega arith in
      λ z. has (same id) (receivers_at id_length p (e z) (f z))

  pub rest_none : (i : ℕ) → left ≤ i → rest i ≡ false
  rest_none i h = ap (has (same id)) (no_receivers p (left - i) (at + 5 * i) (omega arith))

  pub rest_is : (i : ℕ) (q : List ℕ) (b : Bool) → i < left → q ≡ part p (at + 5 * i + 1) id_length → b ≡ same id q → rest i ≡ b || rest (i + 1)
  rest_is i q b h f g =
      let e : left - i - 1 ≡ left - (i + 1) = omega arith in
      let n : at + 5 * i + 5 ≡ at + 5 * (i + 1) = omega arith in
      ap (has (same id)) (next_receiver p (left - i) (at + 5 * i) (omega arith))
      ∙ (λ z. sym (g ∙ ap (same id) f) z || has (same id) (receivers_at id_length p (e z) (n z)))

-- ---- all receivers
module _ (id q receiver : List ℕ) (ids : List (List ℕ)) (b : Bool) (e : q ≡ receiver) (f : b ≡ same id q) where
  names : b || has (same id) ids ≡ names_us id receiver ids
  names = ap (λ (t : Bool). t || has (same id) ids) (f ∙ ap (same id) e)

  pub names_first : b ≡ true → true ≡ names_us id receiver ids
  names_first h = ap (λ (t : Bool). t || has (same id) ids) (sym h) ∙ names

  pub names_other : b ≡ false → has (same id) ids ≡ names_us id receiver ids
  names_other h = ap (λ (t : Bool). t || has (same id) ids) (sym h) ∙ names
