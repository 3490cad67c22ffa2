-- Document 01, 'Packet layouts' and 'Updates': CA numbers and CSA numbers, and counts.
-- Assumes nothing.
use Rattle.std.specs.Prelude.{ℕ, suc, ◌+◌, ◌%◌, Bool, ltb, ℤ, pos, negsuc, ◌+ℤ◌}
use Rattle.std.specs.Int.Signed.{lt_z, le_z}
use Rattle.std.specs.Int.{w32}
use Rattle.std.proofs.Common.{to_z, of_z}
use Rattle.laws.specs.Choice.{pick}
use Rattle.protocol.specs.declared.CaNumber.{CaNumber}
use Rattle.protocol.specs.declared.CsaNumber.{CsaNumber}
use Rattle.std.specs.Prelude.{Option}
use Rattle.std.specs.Prelude.{Some, None}

abbrev pub ca_number : ℕ → CaNumber
ca_number n = record { 0 = n }

abbrev pub csa_number : ℤ → CsaNumber
csa_number n = record { 0 = n }

-- 'one after 4294967295 comes 0'
abbrev pub next_ca : CaNumber → CaNumber
next_ca n = ca_number ((n.0 + 1) % 4294967296)

-- a CSA number of 32 bits, in two's complement, and its bits
abbrev pub csa_of : ℕ → CsaNumber
csa_of bits = csa_number (to_z w32 bits)

abbrev pub bits_of : CsaNumber → ℕ
bits_of n = of_z w32 n.0

-- -2147483648, 'is reserved'
abbrev pub reserved : CsaNumber
reserved = csa_number (negsuc 2147483647)

-- -2147483647, the number of 'our new entry'
abbrev pub first_number : CsaNumber
first_number = csa_number (negsuc 2147483646)

-- 2147483647, the number of a purged entry
abbrev pub purged : CsaNumber
purged = csa_number (pos 2147483647)

-- a is newer than b: 'its number is greater as a signed number'
abbrev pub newer : CsaNumber → CsaNumber → Bool
newer a b = lt_z b.0 a.0

-- one more, of a count that 'stops at 65535'
abbrev pub one_more : ℕ → ℕ
one_more n = pick (ltb n 65535) (suc n) n

-- 'number spent': '2147483646 or more'
abbrev pub spent : CsaNumber → Bool
spent n = le_z (pos 2147483646) n.0

-- 'each change adds one', unless the number is spent
abbrev pub next_csa : CsaNumber → Option CsaNumber
next_csa n = pick (spent n) None (Some (csa_number (n.0 +ℤ pos 1)))
