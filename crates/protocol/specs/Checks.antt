-- Document 01, 'Malformed', with the positions of change request L6: 'the first field that breaks a rule, fields read in packet order,
-- and for octets left over the first of them'.
-- Assumes nothing.
use Rattle.std.specs.Prelude.{ℕ, zero, suc, ◌+◌, ◌-◌, Bool, true, false, not, ◌&&◌, ◌||◌, List, [], ◌∷◌, ◌++◌, length, eqb, leb, ltb}
use Rattle.protocol.specs.declared.Kind.{Kind}
use Rattle.protocol.specs.declared.Kind.TheVariants.{Ca, CsuRequest, CsuReply, Csus, Hello}
use Rattle.std.specs.Prelude.{Result, Ok, Err}
use Rattle.protocol.specs.Sizes.{key_most, payload_most, records_most, receivers_most, fixed_size, common_size, record_size}
use Rattle.protocol.specs.Fields.{octet, field2, field4}

-- whether fields obey the rules, or the position of the first that does not
abbrev pub Checked : Type 0
Checked = Result (Unit {0}) ℕ

abbrev pub Fine : Checked
Fine = Ok tt

abbrev pub Breaks : ℕ → Checked
Breaks at = Err at

-- a rule on what stands at a position
abbrev pub rule : Bool → ℕ → Checked
rule true at = Fine
rule false at = Breaks at

-- a field of n octets: inside the packet, and its own rule
abbrev pub field : List ℕ → ℕ → ℕ → Bool → Checked
field p at n good = rule (leb (at + n) (length p) && good) at

abbrev pub and_then : Checked → Checked → Checked
and_then (Ok _) d = d
and_then (Err at) d = Breaks at

-- the first of some checks that breaks
abbrev pub first_break : List Checked → Checked
first_break [] = Fine
first_break (c ∷ cs) = and_then c (first_break cs)

abbrev pub is_request_kind : Kind → Bool
is_request_kind Ca = false
is_request_kind CsuRequest = true
is_request_kind CsuReply = false
is_request_kind Csus = false
is_request_kind Hello = false

abbrev pub is_hello_kind : Kind → Bool
is_hello_kind Ca = false
is_hello_kind CsuRequest = false
is_hello_kind CsuReply = false
is_hello_kind Csus = false
is_hello_kind Hello = true

-- ---- the head: what stands before the common part, and the common part
-- where the common part starts
abbrev pub common_at : Kind → ℕ
common_at Ca = 12
common_at CsuRequest = fixed_size
common_at CsuReply = fixed_size
common_at Csus = fixed_size
common_at Hello = 16

-- the CA sequence number; or HelloInterval, DeadFactor, unused and Family ID
abbrev pub before_checks : Kind → List ℕ → List Checked
before_checks Ca p = field p 8 4 true ∷ []
before_checks CsuRequest p = []
before_checks CsuReply p = []
before_checks Csus p = []
before_checks Hello p =
    field p 8 2 (ltb 0 (field2 p 8)) ∷ field p 10 2 (ltb 0 (field2 p 10)) ∷ field p 12 2 true ∷ field p 14 2 true ∷ []

-- 'Receiver length 0 is right in Hello only'
abbrev pub receiver_length_good : ℕ → Kind → ℕ → Bool
receiver_length_good w k n = eqb n w || (is_hello_kind k && eqb n 0)

-- 'at most 4 records in a packet (in a Hello 8 additional receivers)'
abbrev pub count_most : Kind → ℕ
count_most Ca = records_most
count_most CsuRequest = records_most
count_most CsuReply = records_most
count_most Csus = records_most
count_most Hello = receivers_most

-- Protocol ID, Server Group ID, unused, flags
abbrev pub plain_checks : List ℕ → ℕ → List Checked
plain_checks p c = field p c 2 true ∷ field p (c + 2) 2 true ∷ field p (c + 4) 2 true ∷ field p (c + 6) 2 true ∷ []

-- sender length, receiver length, number of records
abbrev pub length_checks : ℕ → Kind → List ℕ → ℕ → List Checked
length_checks w k p c =
    field p (c + 8) 1 (eqb (octet p (c + 8)) w)
    ∷ field p (c + 9) 1 (receiver_length_good w k (octet p (c + 9)))
    ∷ field p (c + 10) 2 (leb (field2 p (c + 10)) (count_most k))
    ∷ []

-- sender ID, receiver ID
abbrev pub id_checks : ℕ → List ℕ → ℕ → List Checked
id_checks w p c = field p (c + common_size) w true ∷ field p (c + common_size + w) (octet p (c + 9)) true ∷ []

-- the common part at c
abbrev pub common_checks : ℕ → Kind → List ℕ → ℕ → List Checked
common_checks w k p c = plain_checks p c ++ (length_checks w k p c ++ id_checks w p c)

unfoldable pub head_check : ℕ → Kind → List ℕ → Checked
head_check w k p = first_break (before_checks k p ++ common_checks w k p (common_at k))

-- ---- records and receivers
-- the N bit of the record at r
abbrev pub null_at : List ℕ → ℕ → Bool
null_at p r = leb 128 (octet p (r + 6))

-- the length of what stands before the payload of the record at r
abbrev pub summary_size : ℕ → List ℕ → ℕ → ℕ
summary_size w p r = record_size + octet p (r + 4) + w

-- the length of the payload of the record at r
abbrev pub payload_size : ℕ → List ℕ → ℕ → ℕ
payload_size w p r = field2 p (r + 2) - summary_size w p r

-- 'keys of 1 to 16'; a record length covers key and originator, and in a summary no more
abbrev pub key_length_good : Kind → ℕ → ℕ → ℕ → Bool
key_length_good k key size len = (ltb 0 key && leb key key_most) && (eqb len size || (is_request_kind k && leb size len))

-- 0x80000000, the bits of the reserved number, and 0x7FFFFFFF, those of 2147483647
abbrev pub reserved_bits : ℕ
reserved_bits = 2147483648

abbrev pub purged_bits : ℕ
purged_bits = 2147483647

-- 'payloads of 0 to 32'; 'N or number 2147483647 with a payload'
abbrev pub payload_good : Bool → ℕ → ℕ → Bool
payload_good null bits n = leb n payload_most && (eqb n 0 || (not null && not (eqb bits purged_bits)))

-- hop count, record length, key length, originator length
abbrev pub record_length_checks : ℕ → Kind → List ℕ → ℕ → List Checked
record_length_checks w k p r =
    field p r 2 (ltb 0 (field2 p r))
    ∷ field p (r + 2) 2 (leb (r + field2 p (r + 2)) (length p))
    ∷ field p (r + 4) 1 (key_length_good k (octet p (r + 4)) (summary_size w p r) (field2 p (r + 2)))
    ∷ field p (r + 5) 1 (eqb (octet p (r + 5)) w)
    ∷ []

-- N, CSA sequence number, key, originator, payload
abbrev pub record_content_checks : ℕ → Kind → List ℕ → ℕ → List Checked
record_content_checks w k p r =
    field p (r + 6) 2 (is_request_kind k || not (null_at p r))
    ∷ field p (r + 8) 4 (not (eqb (field4 p (r + 8)) reserved_bits))
    ∷ field p (r + record_size) (octet p (r + 4)) true
    ∷ field p (r + record_size + octet p (r + 4)) w true
    ∷ field p (r + summary_size w p r) (payload_size w p r) (payload_good (null_at p r) (field4 p (r + 8)) (payload_size w p r))
    ∷ []

-- the record at r
abbrev pub record_checks : ℕ → Kind → List ℕ → ℕ → List Checked
record_checks w k p r = record_length_checks w k p r ++ record_content_checks w k p r

-- a receiver: one length octet and an ID
abbrev pub receiver_checks : ℕ → List ℕ → ℕ → List Checked
receiver_checks w p at = field p at 1 (eqb (octet p at) w) ∷ field p (at + 1) w true ∷ []

-- the record, or in a Hello the receiver, at a position, and its size
unfoldable pub element_check : ℕ → Kind → List ℕ → ℕ → Checked
element_check w Ca p at = first_break (record_checks w Ca p at)
element_check w CsuRequest p at = first_break (record_checks w CsuRequest p at)
element_check w CsuReply p at = first_break (record_checks w CsuReply p at)
element_check w Csus p at = first_break (record_checks w Csus p at)
element_check w Hello p at = first_break (receiver_checks w p at)

abbrev pub element_size : ℕ → Kind → List ℕ → ℕ → ℕ
element_size w Ca p at = field2 p (at + 2)
element_size w CsuRequest p at = field2 p (at + 2)
element_size w CsuReply p at = field2 p (at + 2)
element_size w Csus p at = field2 p (at + 2)
element_size w Hello p at = 1 + w

-- n of them from a position on, and no octets left over
unfoldable pub elements_check : ℕ → Kind → List ℕ → ℕ → ℕ → Checked
elements_check w k p zero at = rule (eqb at (length p)) at
elements_check w k p (suc n) at = and_then (element_check w k p at) (elements_check w k p n (at + element_size w k p at))

-- ---- all behind the fixed part
-- how many records or receivers there are, and where they start
abbrev pub count_at : Kind → List ℕ → ℕ
count_at k p = field2 p (common_at k + 10)

abbrev pub elements_at : ℕ → Kind → List ℕ → ℕ
elements_at w k p = common_at k + common_size + w + octet p (common_at k + 9)

-- behind a head that is fine
abbrev pub after_head : Checked → ℕ → Kind → List ℕ → Checked
after_head (Ok _) w k p = elements_check w k p (count_at k p) (elements_at w k p)
after_head (Err at) w k p = Breaks at

unfoldable pub mandatory_check : ℕ → Kind → List ℕ → Checked
mandatory_check w k p = after_head (head_check w k p) w k p
