-- What is written is read back, whatever stands in the ignored fields, if the checksum is good.
-- Assumes nothing.
use Prim.Native.Nat.{ℕ, ◌+◌, ◌≤◌, ◌<◌}
use mathlib.Core.Path.{◌≡◌, refl, ap, ◌∙◌}
use mathlib.Core.Bool.{Bool, true, not, ◌&&◌}
use mathlib.Core.List.{List, [], ◌∷◌, ◌++◌}
use native.Mathlib.Omega.{arith}
use lib.ListN.{length, drop}
use lib.Dec.{leb}
use borrow.Author.Tests.{eq-eqb, le-leb}
use Rattle.laws.proofs.Lists.{behind, room_behind}
use Rattle.laws.proofs.Bools.{both_true}
use Rattle.protocol.specs.declared.Kind.{Kind}
use Rattle.protocol.specs.declared.Kind.TheVariants.{Ca, CsuRequest, CsuReply, Csus, Hello}
use Rattle.protocol.specs.Checks.{Fine}
use Rattle.protocol.specs.Sizes.{packet_most}
use Rattle.protocol.specs.Fields.{octet, field2}
use Rattle.protocol.specs.Checksum.{good_sum}
use Rattle.protocol.specs.Messages.{Body, ca, csu_request, csu_reply, csus, hello, Message, kind_of_body}
use Rattle.protocol.specs.Layouts.{Ignored, zeros, type_of, before_common, common_head, elements, mandatory, layout}
use Rattle.protocol.specs.Checks.{common_at, head_check, elements_check, elements_at, mandatory_check}
use Rattle.protocol.specs.Answers.{refuse, first_code, length_good, version_good, type_good, no_extensions, fixed_code}
use Rattle.protocol.specs.Reading.{kind_of, body_at, message_at, read_packet, message, by_code, by_check}
use Rattle.protocol.specs.WellFormed.{WellFormed}
use Rattle.protocol.proofs.Places.{all_fine, fines_append}
use Rattle.protocol.proofs.ElementsBack.{SmallBeside}
use Rattle.protocol.proofs.HeadBack.{Common, common, common_fines, receiver_good, flags_room, BodyBack, body_back}
use Rattle.protocol.proofs.Lengths.{layout_size, layout_length}

-- the ignored fields are as large as their room in a packet
pub record IgnoredFit (g : Ignored) (m : Message) : Type 0 where
  pub unused_fits : g.unused < 65536
  pub flags_fit : g.flags < flags_room m.body
  pub hello_unused_fits : g.hello_unused < 65536
  pub family_fits : g.family < 65536
  pub beside_fits : SmallBeside g.beside

pub zeros_fit : (m : Message) → IgnoredFit zeros m
zeros_fit m = record {
  unused_fits = omega arith;
  flags_fit = some_room m.body;
  hello_unused_fits = omega arith;
  family_fits = omega arith;
  beside_fits = λ i. omega arith;
} where
  some_room : (b : Body) → 0 < flags_room b
  some_room (ca n f rs) = omega arith
  some_room (csu_request rs) = omega arith
  some_room (csu_reply rs) = omega arith
  some_room (csus rs) = omega arith
  some_room (hello i f ids) = omega arith

-- ---- the fixed part
kind_back : (k : Kind) → kind_of (type_of k) ≡ k
kind_back Ca = refl
kind_back CsuRequest = refl
kind_back CsuReply = refl
kind_back Csus = refl
kind_back Hello = refl

type_good_lem : (k : Kind) → (leb 1 (type_of k) && leb (type_of k) 5) ≡ true
type_good_lem Ca = refl
type_good_lem CsuRequest = refl
type_good_lem CsuReply = refl
type_good_lem Csus = refl
type_good_lem Hello = refl

no_code : (a b c d e : Bool) → a ≡ true → b ≡ true → c ≡ true → d ≡ true → e ≡ true
    → first_code (refuse (not a) 5 ∷ refuse (not b) 6 ∷ refuse (not c) 7 ∷ refuse (not d) 8 ∷ refuse (not e) 9 ∷ []) ≡ 0
no_code a b c d e p q r s t = rw (p, q, r, s, t)

code_back : (w : ℕ) (g : Ignored) (sum : ℕ) (m : Message) → w ≤ 20 → WellFormed w m → good_sum (layout g sum m) ≡ true → fixed_code w (layout g sum m) ≡ 0
unfolding fixed_code
code_back w g sum m h good sums =
    let p : List ℕ = layout g sum m in
    let size : length p ≡ 8 + length (mandatory g m) = layout_size g sum m in
    let stated : field2 p 2 ≡ 8 + length (mandatory g m) = unfold layout in omega arith in
    no_code (length_good w p) (version_good p) (type_good p) (good_sum p) (no_extensions p)
    (both_true (both_true (le-leb 8 (length p) (omega arith)) (le-leb (length p) (packet_most w) (layout_length w g sum m h good)))
    (eq-eqb (field2 p 2) (length p) (omega arith)))
    (unfold layout in refl) (unfold layout in type_good_lem (kind_of_body m.body)) sums (unfold layout in refl)

-- ---- all behind it
before_size : (g : Ignored) (b : Body) → common_at (kind_of_body b) ≡ 8 + length (before_common g b)
before_size g (ca n f rs) = refl
before_size g (csu_request rs) = refl
before_size g (csu_reply rs) = refl
before_size g (csus rs) = refl
before_size g (hello i f ids) = refl

record MandatoryBack (w : ℕ) (k : Kind) (p : List ℕ) (m : Message) : Type 0 where
  fine : mandatory_check w k p ≡ Fine
  read : message_at w k p ≡ m

mandatory_back : (w : ℕ) (p : List ℕ) (g : Ignored) (m : Message) → drop 8 p ≡ mandatory g m → 8 ≤ length p → WellFormed w m → IgnoredFit g m
    → MandatoryBack w (kind_of_body m.body) p m
unfolding mandatory head_check mandatory_check message_at
mandatory_back w p g m e eight good fit =
    let k : Kind = kind_of_body m.body in
    let tail : List ℕ = common_head g m ++ (m.sender ++ (m.receiver ++ elements g m.body)) in
    let c : ℕ = common_at k in
    let n : c ≡ 8 + length (before_common g m.body) = before_size g m.body in
    let d : drop c p ≡ tail = behind p 8 (before_common g m.body) tail e c n in
    let i : 8 + length (before_common g m.body) ≤ length p = room_behind p 8 (before_common g m.body) tail e eight in
    let s : Common w p c g.flags m (elements g m.body) = common w p c g m (elements g m.body) d (omega arith) good.sender.size in
    let b : BodyBack w p m.body (elements_at w k p) =
    body_back w p g (elements_at w k p) tail s.room eight fit.beside_fits m.body e s.rest_at s.flags_at_lem fit.flags_fit good.body in
    let head : head_check w k p ≡ Fine =
    all_fine (fines_append b.before (common_fines w k p c g.flags m (elements g m.body) s good.sender.size
    (receiver_good w (octet p (c + 9)) m.body m.receiver good.receiver s.receiver_size) b.few)) in
    record {
      fine = rw head (ap (λ (x : ℕ). elements_check w k p x (elements_at w k p)) s.count_at_lem ∙ b.fine);
      read = λ j. record {
        protocol = s.protocol_at j;
        group = s.group_at j;
        sender = s.sender_at j;
        receiver = s.receiver_at j;
        body = (ap (λ (x : ℕ). body_at w k p x (elements_at w k p)) s.count_at_lem ∙ b.read) j;
      };
    }

by_parts : (w : ℕ) (k : Kind) (p : List ℕ) (m : Message) → fixed_code w p ≡ 0 → kind_of (octet p 1) ≡ k → MandatoryBack w k p m → read_packet w p ≡ message m
unfolding read_packet
by_parts w k p m e f b = (λ i. by_code (e i) w (f i) p) ∙ ap (λ c. by_check c w k p) b.fine ∙ ap message b.read

pub layout_back : (w : ℕ) (g : Ignored) (sum : ℕ) (m : Message) → w ≤ 20 → WellFormed w m → IgnoredFit g m → good_sum (layout g sum m) ≡ true
    → read_packet w (layout g sum m) ≡ message m
layout_back w g sum m h good fit sums =
    let k : Kind = kind_of_body m.body in
    let size = layout_size g sum m in
    by_parts w k (layout g sum m) m (code_back w g sum m h good sums) (unfold layout in kind_back k)
    (mandatory_back w (layout g sum m) g m (unfold layout in refl) (omega arith) good fit)
