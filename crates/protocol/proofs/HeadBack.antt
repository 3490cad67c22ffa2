-- The common part, and what stands before it, are read back.
-- Assumes nothing.
use Prim.Native.Nat.{ℕ, ◌+◌, ◌*◌, ◌/◌, ◌%◌, ◌≤◌, ◌<◌}
use mathlib.Core.Path.{◌≡◌, refl, sym, ap, ◌∙◌}
use mathlib.Core.Bool.{true, false, or-true}
use mathlib.Core.List.{List, ◌++◌}
use mathlib.Core.Logic.{inl, inr}
use native.Mathlib.Omega.{arith}
use lib.ListN.{length, drop}
use lib.Dec.{eqb}
use borrow.Author.Tests.{eq-eqb, le-leb, lt-ltb}
use Rattle.laws.specs.Lists.{part}
use Rattle.laws.proofs.Lists.{octet_in_lem, drop_in, room_in, part_in, behind, room_behind}
use Rattle.protocol.specs.declared.Kind.{Kind}
use Rattle.protocol.specs.declared.Kind.TheVariants.{Ca, CsuRequest, CsuReply, Csus, Hello}
use Rattle.protocol.specs.declared.CaFlags.{CaFlags}
use Rattle.protocol.specs.Checks.{Fine}
use Rattle.protocol.specs.Sizes.{common_size}
use Rattle.protocol.specs.Fields.{octet, field2}
use Rattle.protocol.specs.Numbers as numbers
use Rattle.protocol.specs.Messages.{CsaRecord, Body, ca, csu_request, csu_reply, csus, hello, Message, kind_of_body}
use Rattle.protocol.specs.Layouts.{Ignored, bit, flags_of, count_of, records_octets, before_common, common_head, elements}
use Rattle.protocol.specs.Checks.{is_hello_kind, common_at, before_checks, receiver_length_good, count_most, common_checks, elements_check}
use Rattle.protocol.specs.Reading.{flags_at, body_at}
use Rattle.protocol.specs.WellFormed.{GoodRecords, GoodBody, GoodReceiver}
use Rattle.protocol.proofs.Places.{two_in, four_in, bit_back, bit_le, Fines, done, ◌also◌, field_fine}
use Rattle.protocol.proofs.ElementsBack.{SmallBeside, RecordsBack, records_back, receivers_back}

-- ---- the common part, at c
pub record Common (w : ℕ) (p : List ℕ) (c flags : ℕ) (m : Message) (rest : List ℕ) : Type 0 where
  pub protocol_at : field2 p c ≡ m.protocol
  pub group_at : field2 p (c + 2) ≡ m.group
  pub flags_at_lem : octet p (c + 6) ≡ (flags_of m.body + flags) / 256
  pub sender_size : octet p (c + 8) ≡ length m.sender
  pub receiver_size : octet p (c + 9) ≡ length m.receiver
  pub count_at_lem : field2 p (c + 10) ≡ count_of m.body
  pub sender_at : part p (c + common_size) w ≡ m.sender
  pub receiver_at : part p (c + common_size + w) (octet p (c + 9)) ≡ m.receiver
  pub room : c + common_size + w + octet p (c + 9) ≤ length p
  pub rest_at : drop (c + common_size + w + octet p (c + 9)) p ≡ rest

module _ (w : ℕ) (p : List ℕ) (c : ℕ) (g : Ignored) (m : Message) (rest : List ℕ)
    (e : drop c p ≡ common_head g m ++ (m.sender ++ (m.receiver ++ rest))) (inside : c ≤ length p) (width : length m.sender ≡ w) where
  pub common : Common w p c g.flags m rest
  common =
      let l : List ℕ = common_head g m ++ (m.sender ++ (m.receiver ++ rest)) in
      let n : octet p (c + 9) ≡ length m.receiver = octet_in_lem p c l e (c + 9) 9 refl in
      let s : drop (c + common_size) p ≡ m.sender ++ (m.receiver ++ rest) = drop_in p c l e (c + common_size) 12 refl in
      let t : drop (c + common_size + w) p ≡ m.receiver ++ rest = behind p (c + common_size) m.sender _ s (c + common_size + w) (omega arith) in
      let i : c + common_size ≤ length p = room_in p c l e (c + common_size) 12 refl (omega arith) inside in
      let j : c + common_size + length m.sender ≤ length p = room_behind p (c + common_size) m.sender _ s i in
      let k : c + common_size + w + length m.receiver ≤ length p = room_behind p (c + common_size + w) m.receiver rest t (omega arith) in
      record {
        protocol_at = two_in p c l e c 0 (omega arith) _ refl refl;
        group_at = two_in p c l e (c + 2) 2 refl _ refl refl;
        flags_at_lem = octet_in_lem p c l e (c + 6) 6 refl;
        sender_size = octet_in_lem p c l e (c + 8) 8 refl;
        receiver_size = n;
        count_at_lem = two_in p c l e (c + 10) 10 refl _ refl refl;
        sender_at = part_in p (c + common_size) m.sender _ s (c + common_size) w refl (sym width);
        receiver_at = part_in p (c + common_size + w) m.receiver rest t (c + common_size + w) (octet p (c + 9)) refl n;
        room = omega arith;
        rest_at = behind p (c + common_size + w) m.receiver rest t (c + common_size + w + octet p (c + 9)) (omega arith);
      }

pub common_fines : (w : ℕ) (k : Kind) (p : List ℕ) (c flags : ℕ) (m : Message) (rest : List ℕ) → Common w p c flags m rest → length m.sender ≡ w
    → receiver_length_good w k (octet p (c + 9)) ≡ true → count_of m.body ≤ count_most k → Fines (common_checks w k p c)
common_fines w k p c flags m rest s width good few =
    field_fine p c 2 true (omega arith) refl
    also field_fine p (c + 2) 2 true (omega arith) refl
    also field_fine p (c + 4) 2 true (omega arith) refl
    also field_fine p (c + 6) 2 true (omega arith) refl
    also field_fine p (c + 8) 1 _ (omega arith) (eq-eqb (octet p (c + 8)) w (s.sender_size ∙ width))
    also field_fine p (c + 9) 1 _ (omega arith) good
    also field_fine p (c + 10) 2 _ (omega arith) (le-leb (field2 p (c + 10)) (count_most k) (omega arith))
    also field_fine p (c + 12) w true (omega arith) refl
    also field_fine p (c + 12 + w) (octet p (c + 9)) true s.room refl
    also done

width_good : (w : ℕ) (k : Kind) (n : ℕ) → n ≡ w → receiver_length_good w k n ≡ true
width_good w k n e = rw (eq-eqb n w e)

none_good : (w n : ℕ) → n ≡ 0 → receiver_length_good w Hello n ≡ true
none_good w n e = rw (eq-eqb n 0 e) (or-true (eqb n w))

pub receiver_good : (w n : ℕ) (b : Body) (id : List ℕ) → GoodReceiver w b id → n ≡ length id → receiver_length_good w (kind_of_body b) n ≡ true
receiver_good w n (ca x f rs) id h e = width_good w Ca n (e ∙ h.size)
receiver_good w n (csu_request rs) id h e = width_good w CsuRequest n (e ∙ h.size)
receiver_good w n (csu_reply rs) id h e = width_good w CsuReply n (e ∙ h.size)
receiver_good w n (csus rs) id h e = width_good w Csus n (e ∙ h.size)
receiver_good w n (hello i f ids) id (inl h) e = width_good w Hello n (e ∙ h.size)
receiver_good w n (hello i f ids) id (inr h) e = none_good w n (e ∙ ap length h)

-- ---- the flags of a CA
flags_back : (p : List ℕ) (at flags : ℕ) (f : CaFlags) → flags < 8192
    → octet p at ≡ (bit f.master * 32768 + bit f.initial * 16384 + bit f.more * 8192 + flags) / 256 → flags_at p at ≡ f
flags_back p at flags f h e =
    let a = bit_le f.master in
    let b = bit_le f.initial in
    let c = bit_le f.more in
    λ i. record {
      master = bit_back f.master 128 (octet p at) (omega arith) (omega arith) i;
      initial = bit_back f.initial 64 (octet p at % 128) (omega arith) (omega arith) i;
      more = bit_back f.more 32 (octet p at % 64) (omega arith) (omega arith) i;
    }

-- ---- what the kinds have of their own
-- the flags that may stand beside those of the kind
abbrev pub flags_room : Body → ℕ
flags_room (ca n f rs) = 8192
flags_room (csu_request rs) = 65536
flags_room (csu_reply rs) = 65536
flags_room (csus rs) = 65536
flags_room (hello i f ids) = 65536

pub record BodyBack (w : ℕ) (p : List ℕ) (b : Body) (at : ℕ) : Type 0 where
  pub before : Fines (before_checks (kind_of_body b) p)
  pub few : count_of b ≤ count_most (kind_of_body b)
  pub fine : elements_check w (kind_of_body b) p (count_of b) at ≡ Fine
  pub read : body_at w (kind_of_body b) p (count_of b) at ≡ b

module _ (w : ℕ) (p : List ℕ) (g : Ignored) (at : ℕ) (tail : List ℕ)
    (inside : at ≤ length p) (eight : 8 ≤ length p) (small : SmallBeside g.beside) where
  records : (k : Kind) (rs : List CsaRecord) → is_hello_kind k ≡ false → drop at p ≡ records_octets g.beside rs → GoodRecords w k rs
      → RecordsBack w k p at rs
  records k rs h e good = records_back w k p h rs g.beside at e inside small good.each

  pub body_back : (b : Body) → drop 8 p ≡ before_common g b ++ tail → drop at p ≡ elements g b
      → octet p (common_at (kind_of_body b) + 6) ≡ (flags_of b + g.flags) / 256 → g.flags < flags_room b → GoodBody w b → BodyBack w p b at
  body_back (ca n f rs) d e o room good =
      let s = records Ca rs refl e good.1 in
      let i : 12 ≤ length p = room_in p 8 _ d 12 4 refl (omega arith) eight in
      record {
        before = field_fine p 8 4 true i refl also done;
        few = good.1.few;
        fine = s.fine;
        read = λ j. ca (numbers.ca_number (four_in p 8 _ d 8 0 refl n.0 refl refl refl refl j)) (flags_back p 18 g.flags f room o j) (s.read j);
      }
  body_back (csu_request rs) d e o room good =
      let s = records CsuRequest rs refl e good in record { before = done; few = good.few; fine = s.fine; read = ap csu_request s.read }
  body_back (csu_reply rs) d e o room good =
      let s = records CsuReply rs refl e good in record { before = done; few = good.few; fine = s.fine; read = ap csu_reply s.read }
  body_back (csus rs) d e o room good =
      let s = records Csus rs refl e good in record { before = done; few = good.few; fine = s.fine; read = ap csus s.read }
  body_back (hello i f ids) d e o room good =
      let s = receivers_back w p ids at e inside good.each in
      let a : field2 p 8 ≡ i = two_in p 8 _ d 8 0 refl i refl refl in
      let b : field2 p 10 ≡ f = two_in p 8 _ d 10 2 refl f refl refl in
      let c : 16 ≤ length p = room_in p 8 _ d 16 8 refl (omega arith) eight in
      record {
        before = field_fine p 8 2 _ (omega arith) (lt-ltb 0 (field2 p 8) (omega arith))
            also field_fine p 10 2 _ (omega arith) (lt-ltb 0 (field2 p 10) (omega arith))
            also field_fine p 12 2 true (omega arith) refl
            also field_fine p 14 2 true (omega arith) refl
            also done;
        few = good.few;
        fine = s.fine;
        read = λ j. hello (a j) (b j) (s.read j);
      }
