-- Packets worked out by hand, evaluated: each type written and read back, and fields that are ignored when read.
-- Assumes nothing.
use Prim.Native.Nat.{ℕ, zero, suc, ◌/◌, ◌%◌}
use mathlib.Core.Path.{◌≡◌, refl}
use mathlib.Core.Bool.{Bool, true, false}
use mathlib.Core.List.{List, [], ◌∷◌, map}
use lib.IntN.{ℤ, pos, negsuc}
use Rattle.protocol.specs.Numbers as numbers
use Rattle.protocol.specs.Messages.{CsaRecord, Body, ca, csu_request, csu_reply, csus, hello, Message}
use Rattle.protocol.specs.Layouts.{layout, packet_of, mandatory, record_octets, records_octets, receivers_octets}
use Rattle.protocol.specs.Checksum.{total}
use Rattle.protocol.specs.Checks.{head_check, element_check, elements_check, mandatory_check}
use Rattle.protocol.specs.Answers.{fixed_code}
use Rattle.protocol.specs.Reading.{record_at, records_at, receivers_at, message_at, message, read_packet}

-- the last n octets of a number, most significant first, before the octets that follow
unfoldable pub octets_of : ℕ → ℕ → List ℕ → List ℕ
octets_of zero x rest = rest
octets_of (suc n) x rest = octets_of n (x / 256) (x % 256 ∷ rest)

-- the ID 10.0.0.n
abbrev server : ℕ → List ℕ
server n = 10 ∷ 0 ∷ 0 ∷ n ∷ []

-- from 10.0.0.1 to 10.0.0.2
abbrev sent : Body → Message
sent b = record { protocol = 2; group = 7; sender = server 1; receiver = server 2; body = b }

-- a record of 10.0.0.n with this hop count, N, number, key and payload
abbrev entry : ℕ → ℕ → Bool → ℤ → List ℕ → List ℕ → CsaRecord
entry n hops null x key payload =
    record { hops = hops; null = null; number = numbers.csa_number x; key = key; originator = server n; payload = payload }

abbrev summary : ℕ → ℤ → List ℕ → CsaRecord
summary n x key = entry n 1 false x key []

-- a packet of n octets, and the message that it is
record Worked : Type 0 where
  octets : List ℕ
  meaning : Message

abbrev worked : ℕ → ℕ → Message → Worked
worked n x m = record { octets = octets_of n x []; meaning = m }

good : List Worked
good =
    -- the Hello of document 01's listing: its checksum is 0xF0C2
    worked
    32
    0x0105_0020_f0c2_0000_000a_0003_00000000_0002_0007_00000000_0400_0000_0a000002
    (record { protocol = 2; group = 7; sender = server 2; receiver = []; body = hello 10 3 [] })
    -- a Hello with two additional receivers
    ∷ worked
    46
    0x0105_002e_d5a7_0000_ffff_0001_00000000_0002_0007_00000000_0404_0002_0a000001_0a000002_04_0a000003_04_0a000004
    (sent (hello 65535 1 (server 3 ∷ server 4 ∷ [])))
    -- a CA with M and O set, and the numbers -2147483647 and 2147483647
    ∷ worked
    81
    0x0101_0051_139f_0000_ffffffff_0002_0007_0000_a000_0404_0002_0a000001_0a000002_0001_0011_01_04_0000_80000001_41_0a000001_0001_0020_10_04_0000_7fffffff_0102030405060708090a0b0c0d0e0f10_0a000003
    (sent
    (ca (numbers.ca_number 4294967295) (record { master = true; initial = false; more = true })
    (summary 1 (negsuc 2147483646) (65 ∷ [])
    ∷ summary 3 (pos 2147483647) (octets_of 16 0x0102030405060708090a0b0c0d0e0f10 [])
    ∷ [])))
    -- a CSU Request: a record with a payload, a null record, and one of a purged entry
    ∷ worked
    83
    0x0102_0053_94f7_0000_0002_0007_00000000_0404_0003_0a000001_0a000002_0010_0014_01_04_0000_00000000_41_0a000001_78797a_0001_0012_02_04_8000_ffffffff_4243_0a000002_ffff_0011_01_04_0000_7fffffff_44_0a000001
    (sent
    (csu_request
    (entry 1 16 false (pos 0) (65 ∷ []) (120 ∷ 121 ∷ 122 ∷ [])
    ∷ entry 2 1 true (negsuc 0) (66 ∷ 67 ∷ []) []
    ∷ entry 1 65535 false (pos 2147483647) (68 ∷ []) []
    ∷ [])))
    -- a CSU Reply for the number -5
    ∷ worked
    45
    0x0103_002d_a3a2_0000_0002_0007_00000000_0404_0001_0a000001_0a000002_0001_0011_01_04_0000_fffffffb_41_0a000001
    (sent (csu_reply (summary 1 (negsuc 4) (65 ∷ []) ∷ [])))
    -- a CSUS for -1 and, with hop count 2, for 256
    ∷ worked
    63
    0x0104_003f_463b_0000_0002_0007_00000000_0404_0002_0a000001_0a000002_0001_0011_01_04_0000_ffffffff_41_0a000001_0002_0012_02_04_0000_00000100_4243_0a000002
    (sent (csus (summary 1 (negsuc 0) (65 ∷ []) ∷ entry 2 2 false (pos 256) (66 ∷ 67 ∷ []) [] ∷ [])))
    ∷ []

-- unused fields, Family ID and undefined flags that are not 0
ignoring : List Worked
ignoring =
    worked
    36
    0x0105_0024_d362_0000_000a_0003_abcd_1234_0002_0007_5555_ffff_0404_0000_0a000001_0a000002
    (sent (hello 10 3 []))
    ∷ worked
    49
    0x0101_0031_e394_0000_00000001_0002_0007_0001_3fff_0404_0001_0a000001_0a000002_0001_0011_01_04_7fff_00000007_41_0a000001
    (sent (ca (numbers.ca_number 1) (record { master = false; initial = false; more = true }) (summary 1 (pos 7) (65 ∷ []) ∷ [])))
    ∷ worked
    45
    0x0102_002d_a396_0000_0002_0007_0000_8000_0404_0001_0a000001_0a000002_0001_0011_01_04_8001_00000007_41_0a000001
    (sent (csu_request (entry 1 1 true (pos 7) (65 ∷ []) [] ∷ [])))
    ∷ []

written : map (λ w. packet_of w.meaning) good ≡ map (λ w. w.octets) good
unfolding good octets_of packet_of layout mandatory record_octets records_octets receivers_octets total
written = refl

abbrev reads : List Worked → Type 0
reads ws = map (λ w. read_packet 4 w.octets) ws ≡ map (λ w. message w.meaning) ws

read : reads good
unfolding good octets_of read_packet fixed_code total mandatory_check head_check elements_check element_check message_at receivers_at records_at record_at
read = refl

ignored : reads ignoring
unfolding ignoring octets_of read_packet fixed_code total mandatory_check head_check elements_check element_check message_at receivers_at records_at record_at
ignored = refl
