-- Checksums worked out by hand, evaluated: whether the sum is good, and whether the field is right (02, L4).
-- Assumes nothing.
use Prim.Native.Nat.{ℕ}
use mathlib.Core.Path.{◌≡◌, refl}
use mathlib.Core.Bool.{Bool, true, false}
use mathlib.Core.List.{List, [], ◌∷◌, map}
use Rattle.protocol.specs.Checksum.{total, good_sum, right_field}
use Rattle.protocol.proofs.Worked.{octets_of}

record Summed : Type 0 where
  octets : List ℕ
  good : Bool

abbrev summed : Bool → ℕ → ℕ → Summed
summed good n x = record { octets = octets_of n x []; good = good }

sums : List Summed
sums =
    -- the Hello of document 01's listing, and with a field that is one more
    summed true 32 0x0105_0020_f0c2_0000_000a_0003_00000000_0002_0007_00000000_0400_0000_0a000002
    ∷ summed false 32 0x0105_0020_f0c3_0000_000a_0003_00000000_0002_0007_00000000_0400_0000_0a000002
    -- the same in group 0xf0c9: the other octets sum to 0xffff, and 0 and 0xffff are right, 1 and 0xfffe are not
    ∷ summed true 32 0x0105_0020_0000_0000_000a_0003_00000000_0002_f0c9_00000000_0400_0000_0a000002
    ∷ summed true 32 0x0105_0020_ffff_0000_000a_0003_00000000_0002_f0c9_00000000_0400_0000_0a000002
    ∷ summed false 32 0x0105_0020_0001_0000_000a_0003_00000000_0002_f0c9_00000000_0400_0000_0a000002
    ∷ summed false 32 0x0105_0020_fffe_0000_000a_0003_00000000_0002_f0c9_00000000_0400_0000_0a000002
    -- all other octets 0: only 0xffff is right
    ∷ summed false 8 0
    ∷ summed true 8 0x0000_0000_ffff_0000
    ∷ summed false 9 0
    ∷ summed true 9 0x0000_0000_ffff_0000_00
    -- an odd last octet is the high one of a word
    ∷ summed true 9 0x0000_0000_00ff_0000_ff
    ∷ summed false 9 0x0000_0000_ff00_0000_ff
    ∷ summed true 11 0x0000_0000_0000_0000_00ff_ff
    -- fewer octets than the field's: those that are missing read as 0
    ∷ summed false 0 0
    ∷ summed true 2 0xffff
    ∷ summed true 5 0x0000_00ff_ff
    ∷ []

good_cases : map (λ c. good_sum c.octets) sums ≡ map (λ c. c.good) sums
unfolding sums octets_of total
good_cases = refl

right_cases : map (λ c. right_field c.octets) sums ≡ map (λ c. c.good) sums
unfolding sums octets_of total
right_cases = refl
