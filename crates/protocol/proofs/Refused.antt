-- Packets that are refused, worked out by hand, with the code of each and, for code 10, the position (change request L6); evaluated.
-- Assumes nothing.
use Prim.Native.Nat.{ℕ, ◌+◌}
use mathlib.Core.Path.{◌≡◌, refl}
use mathlib.Core.List.{List, [], ◌∷◌, map}
use lib.ListN.{replicate}
use Rattle.protocol.specs.Checksum.{total}
use Rattle.protocol.specs.Checks.{head_check, element_check, elements_check, mandatory_check}
use Rattle.protocol.specs.Answers.{fixed_code}
use Rattle.protocol.specs.Reading.{Reading, refused, malformed, read_packet}
use Rattle.protocol.proofs.Worked.{octets_of}

-- a packet and what it is read as
record Bad : Type 0 where
  octets : List ℕ
  answer : Reading

abbrev code : ℕ → List ℕ → Bad
code c p = record { octets = p; answer = refused c }

abbrev breaks : ℕ → List ℕ → Bad
breaks at p = record { octets = p; answer = malformed at }

-- the Hello of document 01's listing with these 12 octets at its start, up to DeadFactor; n octets more behind it
abbrev hello_with : ℕ → ℕ → ℕ → List ℕ
hello_with start n more =
    octets_of 12 start (octets_of 20 0x00000000_0002_0007_00000000_0400_0000_0a000002 (octets_of n more []))

-- a packet from 10.0.0.1 to 10.0.0.2 with this version and type, checksum and number of records, and n octets of records
abbrev packet : ℕ → ℕ → ℕ → ℕ → ℕ → List ℕ
packet type checksum count n records =
    octets_of 2 type
    (octets_of 2 (28 + n)
    (octets_of 2 checksum
    (octets_of 12 0x0000_0002_0007_00000000_0404
    (octets_of 2 count (octets_of 8 0x0a000001_0a000002 (octets_of n records []))))))

-- codes 5 to 9
fixed_part : List Bad
fixed_part =
    code 5 []
    ∷ code 5 (octets_of 7 0x0101_0007_fef7_00 [])
    ∷ code 5 (octets_of 4 0x0102_011d (replicate 281 0))
    -- a packet size that is one too large
    ∷ code 5 (hello_with 0x0105_0021_f0c1_0000_000a_0003 0 0)
    ∷ code 6 (hello_with 0x0205_0020_efc2_0000_000a_0003 0 0)
    ∷ code 7 (hello_with 0x0106_0020_f0c1_0000_000a_0003 0 0)
    ∷ code 7 (hello_with 0x0100_0020_f0c7_0000_000a_0003 0 0)
    ∷ code 8 (hello_with 0x0105_0020_f0c3_0000_000a_0003 0 0)
    ∷ code 9 (hello_with 0x0105_0020_f0a2_0020_000a_0003 0 0)
    ∷ []

-- code 10 before the records, and in the receivers of a Hello
head : List Bad
head =
    -- HelloInterval 0, DeadFactor 0, an octet left over
    breaks 8 (hello_with 0x0105_0020_f0cc_0000_0000_0003 0 0)
    ∷ breaks 10 (hello_with 0x0105_0020_f0c5_0000_000a_0000 0 0)
    ∷ breaks 32 (hello_with 0x0105_0021_f0c1_0000_000a_0003 1 0)
    -- nine additional receivers; one of three octets; one that is cut; one that is missing
    ∷ breaks 26 (octets_of 32 0x0105_0020_f0b9_0000_000a_0003_00000000_0002_0007_00000000_0400_0009_0a000002 [])
    ∷ breaks 32 (octets_of 36 0x0105_0024_edb3_0000_000a_0003_00000000_0002_0007_00000000_0400_0001_0a000002_03_0a0000 [])
    ∷ breaks 33 (octets_of 36 0x0105_0024_ecb3_0000_000a_0003_00000000_0002_0007_00000000_0400_0001_0a000002_04_0a0000 [])
    ∷ breaks 32 (octets_of 32 0x0105_0020_f0c1_0000_000a_0003_00000000_0002_0007_00000000_0400_0001_0a000002 [])
    -- a CA without its number, and with three octets of it
    ∷ breaks 8 (octets_of 8 0x0101_0008_fef6_0000 [])
    ∷ breaks 8 (octets_of 11 0x0101_000b_fef3_0000_000000 [])
    -- a CSU Request that ends in its number of records, and in its sender ID
    ∷ breaks 18 (octets_of 19 0x0102_0013_fadd_0000_0002_0007_00000000_0404_00 [])
    ∷ breaks 20 (octets_of 22 0x0102_0016_f0da_0000_0002_0007_00000000_0404_0000_0a00 [])
    -- sender length 5, receiver length 0, five records
    ∷ breaks 16 (octets_of 28 0x0102_001c_e5d1_0000_0002_0007_00000000_0504_0000_0a000001_0a000002 [])
    ∷ breaks 17 (octets_of 24 0x0102_0018_f0db_0000_0002_0007_00000000_0400_0000_0a000001 [])
    ∷ breaks 18 (packet 0x0102 0xe6cc 5 0 0)
    ∷ []

-- code 10 in a record
records : List Bad
records =
    -- hop count 0
    breaks 28 (packet 0x0102 0xa3a0 1 17 0x0000_0011_01_04_0000_00000000_41_0a000001)
    -- a record beyond the end
    ∷ breaks 30 (packet 0x0102 0xa39e 1 17 0x0001_0012_01_04_0000_00000000_41_0a000001)
    -- a record length too short, and one after which nothing is left for the key length
    ∷ breaks 32 (packet 0x0102 0xa3a0 1 17 0x0001_0010_01_04_0000_00000000_41_0a000001)
    ∷ breaks 32 (packet 0x0102 0xe6c7 1 4 0x0001_0004)
    -- keys of 0 and 17 octets
    ∷ breaks 32 (packet 0x0102 0xdcaa 1 16 0x0001_0010_00_04_0000_00000000_0a000001)
    ∷ breaks 32 (packet 0x0102 0x8975 1 33 0x0001_0021_11_04_0000_00000000_4141414141414141414141414141414141_0a000001)
    -- a payload in a CSU Reply
    ∷ breaks 32 (packet 0x0103 0xa324 1 18 0x0001_0012_01_04_0000_00000000_41_0a000001_78)
    -- originator length 3
    ∷ breaks 33 (packet 0x0102 0x2ca0 1 17 0x0001_0011_01_03_0000_00000000_41_0a0000_78)
    -- N in a CSU Reply
    ∷ breaks 34 (packet 0x0103 0x239e 1 17 0x0001_0011_01_04_8000_00000000_41_0a000001)
    -- the reserved number
    ∷ breaks 36 (packet 0x0102 0x239f 1 17 0x0001_0011_01_04_0000_80000000_41_0a000001)
    -- a payload with number 2147483647, with N, and of 33 octets
    ∷ breaks 45 (packet 0x0102 0x2326 1 18 0x0001_0012_01_04_0000_7fffffff_41_0a000001_78)
    ∷ breaks 45 (packet 0x0102 0x2325 1 18 0x0001_0012_01_04_8000_00000000_41_0a000001_78)
    ∷ breaks 45 (packet 0x0102 0x1b5e 1 50 0x0001_0032_01_04_0000_00000000_41_0a000001_787878787878787878787878787878787878787878787878787878787878787878)
    -- an octet left over, a second record that is missing, and one in a CSUS with hop count 0
    ∷ breaks 45 (packet 0x0102 0xa39e 1 18 0x0001_0011_01_04_0000_00000000_41_0a000001_00)
    ∷ breaks 45 (packet 0x0102 0xa39e 2 17 0x0001_0011_01_04_0000_00000000_41_0a000001)
    ∷ breaks 45 (packet 0x0104 0x8447 2 34 0x0001_0011_01_04_0000_00000000_41_0a000001_0000_0011_01_04_0000_00000000_42_0a000001)
    ∷ []

abbrev answered : List Bad → Type 0
answered bs = map (λ b. read_packet 4 b.octets) bs ≡ map (λ b. b.answer) bs

fixed_part_lem : answered fixed_part
unfolding fixed_part octets_of read_packet fixed_code total
fixed_part_lem = refl

in_the_head : answered head
unfolding head octets_of read_packet fixed_code total mandatory_check head_check elements_check element_check
in_the_head = refl

in_a_record : answered records
unfolding records octets_of read_packet fixed_code total mandatory_check head_check elements_check element_check
in_a_record = refl
