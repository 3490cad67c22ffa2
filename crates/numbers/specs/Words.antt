-- The words in which the code sums a packet: four octets each, the low octet first (RFC 1071, 'Byte Order Independence' and 'Parallel Summation').
-- Assumes nothing.
use Rattle.std.specs.Prelude.{ℕ, ◌+◌, ◌*◌, List, [], ◌∷◌}

-- four octets as a number, the low one first
abbrev pub low_first : ℕ → ℕ → ℕ → ℕ → ℕ
low_first a b c d = ((d * 256 + c) * 256 + b) * 256 + a

-- the sum of the words; octets that are missing behind the last one count 0
unfoldable pub low_total : List ℕ → ℕ
low_total [] = 0
low_total (a ∷ []) = low_first a 0 0 0
low_total (a ∷ b ∷ []) = low_first a b 0 0
low_total (a ∷ b ∷ c ∷ []) = low_first a b c 0
low_total (a ∷ b ∷ c ∷ d ∷ p) = low_first a b c d + low_total p
