-- Document 01, 'Packet layouts': 'the checksum is the IP checksum of the packet, an odd last octet padded with zero; a packet is
-- good when its 16-bit ones' complement sum is 0xFFFF' (RFC 1071).
-- Assumes nothing.
use Rattle.std.specs.Prelude.{ℕ, ◌+◌, ◌*◌, ◌-◌, ◌/◌, ◌%◌, Bool, true, false, not, ◌&&◌, ◌||◌, List, [], ◌∷◌, set, eqb}
use Rattle.protocol.specs.Fields.{field2}

-- an octet by its place in its 16-bit word: the first is the high one
abbrev pub weigh : Bool → ℕ → ℕ
weigh true x = x * 256
weigh false x = x

-- the sum of the 16-bit words; the octet that is missing behind an odd last one counts 0
unfoldable pub total : Bool → List ℕ → ℕ
total high [] = 0
total high (x ∷ xs) = weigh high x + total (not high) xs

-- the carries over 16 bits added at the low end
abbrev pub fold : ℕ → ℕ
fold s = s / 65536 + s % 65536

-- the ones' complement sum of up to 65536 words, for which two folds are enough (`sum_fits`)
abbrev pub ones_sum : List ℕ → ℕ
ones_sum p = fold (fold (total true p))

-- the checksum of a packet whose checksum field is 0
abbrev pub checksum_of : List ℕ → ℕ
checksum_of p = 65535 - ones_sum p

abbrev pub good_sum : List ℕ → Bool
good_sum p = eqb (ones_sum p) 65535

-- ---- the checksum field
-- a packet with this number in it
abbrev pub with_field : ℕ → List ℕ → List ℕ
with_field x p = set (set p 4 (x / 256)) 5 (x % 256)

-- 02, L4: 'the field holds the checksum computed with the field 0, or that is 0 and the field 0xFFFF'
abbrev pub right_field : List ℕ → Bool
right_field p =
    eqb (field2 p 4) (checksum_of (with_field 0 p))
    || (eqb (checksum_of (with_field 0 p)) 0 && eqb (field2 p 4) 65535)
