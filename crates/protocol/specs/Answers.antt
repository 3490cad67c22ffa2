-- Document 01, 'Answers to an event': the codes that the fixed part of a packet is refused with, in the table's order.
-- Assumes nothing.
use Rattle.std.specs.Prelude.{ℕ, Bool, not, ◌&&◌, List, [], ◌∷◌, length, eqb, leb}
use Rattle.laws.specs.Choice.{pick}
use Rattle.protocol.specs.Sizes.{fixed_size, packet_most}
use Rattle.protocol.specs.Fields.{octet, field2}
use Rattle.protocol.specs.Checksum.{good_sum}

pub record Refusal : Type 0 where
  pub when : Bool
  pub code : ℕ

abbrev pub refuse : Bool → ℕ → Refusal
refuse b c = record { when = b; code = c }

-- the code of the first refusal whose case it is, 0 if there is none
abbrev pub first_code : List Refusal → ℕ
first_code [] = 0
first_code (r ∷ rs) = pick r.when r.code (first_code rs)

-- 5: 'length under 8 or over 284, or not the packet size'
abbrev pub length_good : ℕ → List ℕ → Bool
length_good w p = (leb fixed_size (length p) && leb (length p) (packet_most w)) && eqb (field2 p 2) (length p)

-- 6: 'version not 1'
abbrev pub version_good : List ℕ → Bool
version_good p = eqb (octet p 0) 1

-- 7: 'type not 1 to 5'
abbrev pub type_good : List ℕ → Bool
type_good p = leb 1 (octet p 1) && leb (octet p 1) 5

-- 9: 'start of extensions not 0'
abbrev pub no_extensions : List ℕ → Bool
no_extensions p = eqb (field2 p 6) 0

-- 8 is the checksum's
abbrev pub fixed_refusals : ℕ → List ℕ → List Refusal
fixed_refusals w p =
    refuse (not (length_good w p)) 5
    ∷ refuse (not (version_good p)) 6
    ∷ refuse (not (type_good p)) 7
    ∷ refuse (not (good_sum p)) 8
    ∷ refuse (not (no_extensions p)) 9
    ∷ []

unfoldable pub fixed_code : ℕ → List ℕ → ℕ
fixed_code w p = first_code (fixed_refusals w p)
