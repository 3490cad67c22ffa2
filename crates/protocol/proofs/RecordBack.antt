-- A record that is written is read back, whatever its bits beside N.
-- Assumes nothing.
use Prim.Native.Nat.{ℕ, zero, suc, ◌+◌, ◌*◌, ◌/◌, ◌≤◌, ◌<◌}
use mathlib.Core.Path.{◌≡◌, refl, sym, ap, ◌∙◌}
use mathlib.Core.Bool.{Bool, true, false, not, ◌&&◌, ◌||◌, or-true}
use mathlib.Core.List.{List, [], ◌++◌, append_assoc}
use native.Mathlib.Omega.{arith}
use lib.ListN.{length, drop}
use lib.Dec.{eqb, leb, ltb}
use mir.Syntax.{w32}
use mir.Val.{SFits}
use mir.ValLaws.{to_z-of_z}
use borrow.Author.Tests.{lt-ltb, le-leb, eq-eqb, ne_eqb}
use Rattle.laws.specs.Lists.{part}
use Rattle.laws.proofs.Lists.{octet_in_lem, drop_in, room_in, part_in, behind, room_behind}
use Rattle.protocol.specs.declared.Kind.{Kind}
use Rattle.protocol.specs.declared.CsaNumber.{CsaNumber}
use Rattle.protocol.specs.Checks.{Fine}
use Rattle.protocol.specs.Sizes.{key_most, payload_most, record_size}
use Rattle.protocol.specs.Fields.{octet, field2, field4}
use Rattle.protocol.specs.Numbers.{csa_number, csa_of, bits_of}
use Rattle.protocol.specs.Messages.{CsaRecord}
use Rattle.protocol.specs.Layouts.{bit, record_head, record_octets}
use Rattle.protocol.specs.Checks.{is_request_kind, null_at, summary_size, payload_size, reserved_bits, purged_bits, payload_good, record_checks, first_break}
use Rattle.protocol.specs.Reading.{record_at}
use Rattle.protocol.specs.WellFormed.{GoodRecord}
use Rattle.protocol.proofs.Places.{two_in, four_in, bit_back, done, ◌also◌, all_fine, field_fine}

-- ---- CSA numbers
number_back : (n : CsaNumber) → SFits w32 n.0 → csa_of (bits_of n) ≡ n
number_back n f = ap csa_number (to_z-of_z w32 n.0 f)

number_of : (n : CsaNumber) (bits : ℕ) → SFits w32 n.0 → bits_of n ≡ bits → n ≡ csa_of bits
number_of n bits f e = sym (number_back n f) ∙ ap csa_of e

-- ---- tests, over plain Bools
key_good : (asks : Bool) (key size len : ℕ) → 0 < key → key ≤ key_most → size ≤ len → (asks ≡ false → len ≡ size)
    → ((ltb 0 key && leb key key_most) && (eqb len size || (asks && leb size len))) ≡ true
key_good true key size len some most h only = rw (lt-ltb 0 key some, le-leb key key_most most, le-leb size len h, or-true (eqb len size))
key_good false key size len some most h only = rw (lt-ltb 0 key some, le-leb key key_most most, eq-eqb len size (only refl))

null_good : (asks null : Bool) → (asks ≡ false → null ≡ false) → (asks || not null) ≡ true
null_good true null h = refl
null_good false null h = rw (h refl)

payload_good_lem : (null : Bool) (bits n : ℕ) → n ≤ payload_most → (null ≡ true → n ≡ 0) → (bits ≡ purged_bits → n ≡ 0)
    → payload_good null bits n ≡ true
payload_good_lem null bits zero h f g = refl
payload_good_lem true bits (suc n) h f g = let z = f refl in absurd (omega arith)
payload_good_lem false bits (suc n) h f g =
    rw (le-leb (suc n) payload_most h, ne_eqb bits purged_bits (λ e. let z = g e in omega arith), or-true (eqb (suc n) 0))

-- ---- what a record at a position shows
pub record Shown (w : ℕ) (p : List ℕ) (at : ℕ) (r : CsaRecord) (rest : List ℕ) : Type 0 where
  pub hops_at : field2 p at ≡ r.hops
  pub size_at : field2 p (at + 2) ≡ record_size + length r.key + length r.originator + length r.payload
  pub key_size : octet p (at + 4) ≡ length r.key
  pub originator_size : octet p (at + 5) ≡ length r.originator
  pub null_at_lem : null_at p at ≡ r.null
  pub bits_at : field4 p (at + 8) ≡ bits_of r.number
  pub key_at : part p (at + record_size) (octet p (at + 4)) ≡ r.key
  pub originator_at : part p (at + record_size + octet p (at + 4)) w ≡ r.originator
  pub payload_at : part p (at + summary_size w p at) (payload_size w p at) ≡ r.payload
  pub room : at + field2 p (at + 2) ≤ length p
  pub rest_at : drop (at + field2 p (at + 2)) p ≡ rest

module _ (w : ℕ) (p : List ℕ) (at beside : ℕ) (r : CsaRecord) (rest : List ℕ)
    (e : drop at p ≡ record_octets beside r ++ rest) (inside : at ≤ length p) (small : beside < 32768) (width : length r.originator ≡ w) where
  tail : List ℕ
  tail = r.key ++ (r.originator ++ (r.payload ++ rest))

  cells : drop at p ≡ record_head beside r ++ tail
  unfolding record_octets tail
  cells = e ∙ simp append_assoc

  pub shown : Shown w p at r rest
  unfolding tail
  shown =
      let l : List ℕ = record_head beside r ++ tail in
      -- where key, originator and payload start
      let a : ℕ = at + record_size in
      let b : ℕ = a + length r.key in
      let c : ℕ = b + length r.originator in
      let size : field2 p (at + 2) ≡ record_size + length r.key + length r.originator + length r.payload =
      two_in p at l cells (at + 2) 2 refl _ refl refl in
      let key-long : octet p (at + 4) ≡ length r.key = octet_in_lem p at l cells (at + 4) 4 refl in
      let top : octet p (at + 6) ≡ (bit r.null * 32768 + beside) / 256 = octet_in_lem p at l cells (at + 6) 6 refl in
      let from_key : drop a p ≡ r.key ++ (r.originator ++ (r.payload ++ rest)) = drop_in p at l cells a 12 refl in
      let from-originator : drop b p ≡ r.originator ++ (r.payload ++ rest) = behind p a r.key _ from_key b refl in
      let from-payload : drop c p ≡ r.payload ++ rest = behind p b r.originator _ from-originator c refl in
      let i : a ≤ length p = room_in p at l cells a 12 refl (omega arith) inside in
      let j : b ≤ length p = room_behind p a r.key _ from_key i in
      let k : c ≤ length p = room_behind p b r.originator _ from-originator j in
      let n : c + length r.payload ≤ length p = room_behind p c r.payload rest from-payload k in
      record {
        hops_at = two_in p at l cells at 0 (omega arith) _ refl refl;
        size_at = size;
        key_size = key-long;
        originator_size = octet_in_lem p at l cells (at + 5) 5 refl;
        null_at_lem = bit_back r.null 128 (octet p (at + 6)) (omega arith) (omega arith);
        bits_at = four_in p at l cells (at + 8) 8 refl _ refl refl refl refl;
        key_at = part_in p a r.key _ from_key a (octet p (at + 4)) refl key-long;
        originator_at = part_in p b r.originator _ from-originator (a + octet p (at + 4)) w (omega arith) (sym width);
        payload_at = part_in p c r.payload rest from-payload (at + summary_size w p at) (payload_size w p at) (omega arith) (omega arith);
        room = omega arith;
        rest_at = behind p c r.payload rest from-payload (at + field2 p (at + 2)) (omega arith);
      }

-- ---- so it is read back, and is fine
pub record_read : (w : ℕ) (p : List ℕ) (at : ℕ) (r : CsaRecord) (rest : List ℕ) → Shown w p at r rest → SFits w32 r.number.0 → record_at w p at ≡ r
unfolding record_at
record_read w p at r rest s fits = λ i. record {
  hops = s.hops_at i;
  null = s.null_at_lem i;
  number = (ap csa_of s.bits_at ∙ number_back r.number fits) i;
  key = s.key_at i;
  originator = s.originator_at i;
  payload = s.payload_at i;
}

module _ (w : ℕ) (k : Kind) (p : List ℕ) (at : ℕ) (r : CsaRecord) (rest : List ℕ) (s : Shown w p at r rest) (good : GoodRecord w k r) where
  -- of a record with no payload none is read
  empty : r.payload ≡ [] → payload_size w p at ≡ 0
  empty e = let len = good.originator.size in let none : length r.payload ≡ 0 = ap length e in omega arith

  number_good : (bits : ℕ) → field4 p (at + 8) ≡ bits → r.number ≡ csa_of bits
  number_good bits e = number_of r.number bits good.number_fits (sym s.bits_at ∙ e)

  pub record_fine : first_break (record_checks w k p at) ≡ Fine
  record_fine =
      let len : length r.originator ≡ w = good.originator.size in
      let none : is_request_kind k ≡ false → field2 p (at + 2) ≡ summary_size w p at =
      λ h. let z : length r.payload ≡ 0 = ap length (good.summary_empty h) in omega arith in
      all_fine (
      field_fine p at 2 _ (omega arith) (lt-ltb 0 (field2 p at) (omega arith))
      also field_fine p (at + 2) 2 _ (omega arith) (le-leb (at + field2 p (at + 2)) (length p) s.room)
      also field_fine p (at + 4) 1 _ (omega arith)
      (key_good (is_request_kind k) (octet p (at + 4)) (summary_size w p at) (field2 p (at + 2)) (omega arith) (omega arith) (omega arith) none)
      also field_fine p (at + 5) 1 _ (omega arith) (eq-eqb (octet p (at + 5)) w (s.originator_size ∙ len))
      also field_fine p (at + 6) 2 _ (omega arith) (null_good (is_request_kind k) (null_at p at) (λ h. s.null_at_lem ∙ good.summary_plain h))
      also field_fine p (at + 8) 4 _ (omega arith)
      (ap not (ne_eqb (field4 p (at + 8)) reserved_bits (λ e. good.not_reserved (number_good reserved_bits e))))
      also field_fine p (at + record_size) (octet p (at + 4)) true (omega arith) refl
      also field_fine p (at + record_size + octet p (at + 4)) w true (omega arith) refl
      also field_fine p (at + summary_size w p at) (payload_size w p at) _ (omega arith)
      (payload_good_lem (null_at p at) (field4 p (at + 8)) (payload_size w p at) (omega arith) (λ e. empty (good.null_empty (sym s.null_at_lem ∙ e)))
      (λ e. empty (good.purged_empty (number_good purged_bits e))))
      also done)
