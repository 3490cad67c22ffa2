-- Document 01, 'Packet layouts': fields are big-endian. An octet beyond the end reads as 0.
-- Assumes nothing.
use Rattle.std.specs.Prelude.{ℕ, ◌+◌, ◌*◌, ◌/◌, ◌%◌, List, ◌∷◌, get_or}

-- ---- reading
abbrev pub octet : List ℕ → ℕ → ℕ
octet p at = get_or p at 0

-- the field of two octets at a position
abbrev pub field2 : List ℕ → ℕ → ℕ
field2 p at = octet p at * 256 + octet p (at + 1)

-- the field of four octets at a position
abbrev pub field4 : List ℕ → ℕ → ℕ
field4 p at = ((octet p at * 256 + octet p (at + 1)) * 256 + octet p (at + 2)) * 256 + octet p (at + 3)

-- ---- writing
-- a field of two octets before the octets that follow
abbrev pub put2 : ℕ → List ℕ → List ℕ
put2 x rest = x / 256 ∷ x % 256 ∷ rest

-- a field of four octets before the octets that follow
abbrev pub put4 : ℕ → List ℕ → List ℕ
put4 x rest = x / 16777216 ∷ x / 65536 % 256 ∷ x / 256 % 256 ∷ x % 256 ∷ rest
