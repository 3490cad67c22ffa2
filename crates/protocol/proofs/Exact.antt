-- A packet is read as a message only if it has that message's layout, what is ignored apart.
-- Assumes nothing.
use Prim.Native.Nat.{ℕ, zero, suc, ◌+◌, ◌-◌, ◌*◌, ◌%◌, ◌≤◌, ◌<◌}
use mathlib.Core.Path.{◌≡◌, refl, sym, ap, ◌∙◌}
use mathlib.Core.Bool.{Bool, true, false, ◌&&◌}
use mathlib.Core.List.{List, ◌∷◌, ◌++◌}
use native.Mathlib.Omega.{arith}
use lib.ListN.{length, drop, length-drop}
use lib.Dec.{eqb, leb}
use borrow.Author.Tests.{leb-true, leb-false, eqb-true, eqb-false}
use Rattle.laws.specs.Choice.{pick}
use Rattle.laws.specs.Lists.{part}
use Rattle.laws.proofs.Lists.{peel1, peel_part, part_length}
use Rattle.laws.proofs.Bools.{and_true}
use Rattle.protocol.specs.declared.Kind.{Kind}
use Rattle.protocol.specs.declared.Kind.TheVariants.{Ca, CsuRequest, CsuReply, Csus, Hello}
use Rattle.protocol.specs.Checks.{Fine}
use Rattle.protocol.specs.Sizes.{fixed_size, packet_most, common_size}
use Rattle.protocol.specs.Fields.{octet, field2, field4, put2, put4}
use Rattle.protocol.specs.Checksum.{good_sum}
use Rattle.protocol.specs.Messages.{Message, kind_of_body}
use Rattle.protocol.specs.Layouts.{type_of, bit, mandatory, fixed_part, layout}
use Rattle.protocol.specs.Checks.{count_at, elements_at, mandatory_check}
use Rattle.protocol.specs.Answers.{length_good, type_good}
use Rattle.protocol.specs.Reading.{kind_of, records_at, receivers_at, message_at, message, read_packet}
use Rattle.protocol.specs.WellFormed.{Octets}
use Rattle.protocol.specs.Unread.{ignored_of}
use Rattle.protocol.proofs.Codes.{FixedGood, read_as}
use Rattle.protocol.proofs.Peel.{peel2, peel4}
use Rattle.protocol.proofs.Told.{HeadTold, Told, told}
use Rattle.protocol.proofs.RecordExact.{records_exact, receivers_exact}

-- ---- the common part
abbrev common_form : ℕ → ℕ → ℕ → ℕ → ℕ → ℕ → ℕ → List ℕ → List ℕ → List ℕ → List ℕ
common_form protocol group unused flags a b count sender receiver rest =
    put2 protocol (put2 group (put2 unused (put2 flags (a ∷ b ∷ put2 count (sender ++ (receiver ++ rest))))))

module _ (w : ℕ) (k : Kind) (p : List ℕ) (c : ℕ) (t : HeadTold w k p c) where
  abbrev sender : List ℕ
  sender = part p (c + common_size) w

  abbrev receiver : List ℕ
  receiver = part p (c + common_size + w) (octet p (c + 9))

  pub sender_length : length sender ≡ w
  sender_length = let e = t.ends in part_length p (c + common_size) w (omega arith)

  pub receiver_length_lem : length receiver ≡ octet p (c + 9)
  receiver_length_lem = part_length p (c + common_size + w) (octet p (c + 9)) t.ends

  common_exact : Octets p → (flags count : ℕ) (es : List ℕ) → field2 p (c + 6) ≡ flags → field2 p (c + 10) ≡ count
      → drop (c + common_size + w + octet p (c + 9)) p ≡ es
      → drop c p ≡ common_form (field2 p c) (field2 p (c + 2)) (field2 p (c + 4)) flags (length sender) (length receiver) count sender receiver es
  common_exact o flags count es f n e =
      let g = t.ends in
      let a : octet p (c + 8) ≡ length sender = t.sender ∙ sym sender_length in
      let b : octet p (c + 9) ≡ length receiver = sym receiver_length_lem in
      peel2 p o c (c + 2) refl (omega arith)
      ∙ ap (put2 (field2 p c)) (peel2 p o (c + 2) (c + 4) (omega arith) (omega arith)
      ∙ ap (put2 (field2 p (c + 2))) (peel2 p o (c + 4) (c + 6) (omega arith) (omega arith)
      ∙ ap (put2 (field2 p (c + 4))) (peel2 p o (c + 6) (c + 8) (omega arith) (omega arith)
      ∙ ap (put2 (field2 p (c + 6))) (peel1 p (c + 8) (c + 9) (omega arith) (omega arith)
      ∙ ap (λ (l : List ℕ). octet p (c + 8) ∷ l) (peel1 p (c + 9) (c + 10) (omega arith) (omega arith)
      ∙ ap (λ (l : List ℕ). octet p (c + 9) ∷ l) (peel2 p o (c + 10) (c + common_size) (omega arith) (omega arith)
      ∙ ap (put2 (field2 p (c + 10))) (peel_part p (c + common_size) w (c + common_size + w) refl
      ∙ ap (λ (l : List ℕ). sender ++ l) (peel_part p (c + common_size + w) (octet p (c + 9)) (c + common_size + w + octet p (c + 9)) refl))))))))
      ∙ (λ i. common_form (field2 p c) (field2 p (c + 2)) (field2 p (c + 4)) (f i) (a i) (b i) (n i) sender receiver (e i))

-- the M, I and O bits, and the 13 beside them
top : (n x y : ℕ) (t : Bool) → leb n x ≡ t → x < n + n → (n ≤ x → x ≡ n + y) → (x < n → x ≡ y) → bit t * n + y ≡ x
top n x y true e h f g = let q = f (leb-true n x e) in omega arith
top n x y false e h f g = let q = g (leb-false n x e) in omega arith

low_bits : (a b : ℕ) → b < 256 → (a * 256 + b) % 8192 ≡ a % 32 * 256 + b
low_bits a b h = omega arith

join_bits : (a b x y z m i s low : ℕ) → m * 128 + x ≡ a → i * 64 + y ≡ x → s * 32 + z ≡ y → low ≡ z * 256 + b
    → a * 256 + b ≡ m * 32768 + i * 16384 + s * 8192 + low
join_bits a b x y z m i s low e f g h = omega arith

flag_bits : (a b : ℕ) → a < 256 → b < 256
    → a * 256 + b ≡ bit (leb 128 a) * 32768 + bit (leb 64 (a % 128)) * 16384 + bit (leb 32 (a % 64)) * 8192 + (a * 256 + b) % 8192
flag_bits a b h g = join_bits a b (a % 128) (a % 64) (a % 32) (bit (leb 128 a)) (bit (leb 64 (a % 128))) (bit (leb 32 (a % 64))) ((a * 256 + b) % 8192)
    (top 128 a (a % 128) (leb 128 a) refl (omega arith) (λ f. omega arith) (λ f. omega arith))
    (top 64 (a % 128) (a % 64) (leb 64 (a % 128)) refl (omega arith) (λ f. omega arith) (λ f. omega arith))
    (top 32 (a % 64) (a % 32) (leb 32 (a % 64)) refl (omega arith) (λ f. omega arith) (λ f. omega arith))
    (low_bits a b g)

pub records_length : (w : ℕ) (p : List ℕ) (n at : ℕ) → n ≡ length (records_at w p n at)
unfolding records_at
records_length w p zero at = refl
records_length w p (suc n) at = ap suc (records_length w p n (at + field2 p (at + 2)))

pub receivers_length : (w : ℕ) (p : List ℕ) (n at : ℕ) → n ≡ length (receivers_at w p n at)
unfolding receivers_at
receivers_length w p zero at = refl
receivers_length w p (suc n) at = ap suc (receivers_length w p n (at + (1 + w)))

no_flags : (x : ℕ) → x ≡ 0 + x
no_flags x = omega arith

-- ---- all behind the fixed part
pub mandatory_exact : (w : ℕ) (k : Kind) (p : List ℕ) → Octets p → Told w k p → drop 8 p ≡ mandatory (ignored_of w k p) (message_at w k p)
unfolding mandatory ignored_of message_at
mandatory_exact w Ca p o t =
    let e = t.common.ends in
    peel4 p o 8 12 refl (omega arith)
    ∙ ap (put4 (field4 p 8)) (common_exact w Ca p 12 t.common o _ _ _
    (flag_bits (octet p 18) (octet p 19) (o 18) (o 19))
    (records_length w p (count_at Ca p) (elements_at w Ca p))
    (records_exact w p o Ca refl (count_at Ca p) (elements_at w Ca p) t.elements))
mandatory_exact w CsuRequest p o t = common_exact w CsuRequest p 8 t.common o _ _ _
    (no_flags (field2 p 14))
    (records_length w p (count_at CsuRequest p) (elements_at w CsuRequest p))
    (records_exact w p o CsuRequest refl (count_at CsuRequest p) (elements_at w CsuRequest p) t.elements)
mandatory_exact w CsuReply p o t = common_exact w CsuReply p 8 t.common o _ _ _
    (no_flags (field2 p 14))
    (records_length w p (count_at CsuReply p) (elements_at w CsuReply p))
    (records_exact w p o CsuReply refl (count_at CsuReply p) (elements_at w CsuReply p) t.elements)
mandatory_exact w Csus p o t = common_exact w Csus p 8 t.common o _ _ _
    (no_flags (field2 p 14))
    (records_length w p (count_at Csus p) (elements_at w Csus p))
    (records_exact w p o Csus refl (count_at Csus p) (elements_at w Csus p) t.elements)
mandatory_exact w Hello p o t =
    let e = t.common.ends in
    peel2 p o 8 10 refl (omega arith)
    ∙ ap (put2 (field2 p 8)) (peel2 p o 10 12 refl (omega arith)
    ∙ ap (put2 (field2 p 10)) (peel2 p o 12 14 refl (omega arith)
    ∙ ap (put2 (field2 p 12)) (peel2 p o 14 16 refl (omega arith)
    ∙ ap (put2 (field2 p 14)) (common_exact w Hello p 16 t.common o _ _ _
    (no_flags (field2 p 22))
    (receivers_length w p (count_at Hello p) (elements_at w Hello p))
    (receivers_exact w p o (count_at Hello p) (elements_at w Hello p) t.elements)))))

-- ---- the fixed part
type_of_lem : (t : ℕ) (a b c d : Bool) → eqb t 1 ≡ a → eqb t 2 ≡ b → eqb t 3 ≡ c → eqb t 4 ≡ d → 1 ≤ t → t ≤ 5
    → t ≡ type_of (pick a Ca (pick b CsuRequest (pick c CsuReply (pick d Csus Hello))))
type_of_lem t true b c d ea eb ec ed l u = eqb-true t 1 ea
type_of_lem t false true c d ea eb ec ed l u = eqb-true t 2 eb
type_of_lem t false false true d ea eb ec ed l u = eqb-true t 3 ec
type_of_lem t false false false true ea eb ec ed l u = eqb-true t 4 ed
type_of_lem t false false false false ea eb ec ed l u =
    let a = eqb-false t 1 ea in let b = eqb-false t 2 eb in let c = eqb-false t 3 ec in let d = eqb-false t 4 ed in omega arith

pub type_back : (p : List ℕ) → type_good p ≡ true → octet p 1 ≡ type_of (kind_of (octet p 1))
type_back p h =
    let t : ℕ = octet p 1 in
    let f = and_true (leb 1 t) (leb t 5) h in
    type_of_lem t (eqb t 1) (eqb t 2) (eqb t 3) (eqb t 4) refl refl refl refl (leb-true 1 t f.0) (leb-true t 5 f.1)

-- the length is at least 8, and is the packet size
pub length_told : (w : ℕ) (p : List ℕ) → length_good w p ≡ true → (8 ≤ length p) × (length p ≤ packet_most w) × (field2 p 2 ≡ length p)
length_told w p h =
    let n : ℕ = length p in
    let f = and_true (leb fixed_size n && leb n (packet_most w)) (eqb (field2 p 2) n) h in
    let g = and_true (leb fixed_size n) (leb n (packet_most w)) f.0 in
    (leb-true fixed_size n g.0, leb-true n (packet_most w) g.1, eqb-true (field2 p 2) n f.1)

fixed_exact : (w : ℕ) (k : Kind) (p : List ℕ) → Octets p → FixedGood w p → octet p 1 ≡ type_of k → (rest : List ℕ) → drop 8 p ≡ rest
    → p ≡ fixed_part k (fixed_size + length rest) (field2 p 4) ++ rest
fixed_exact w k p o f e rest d =
    let n = length_told w p f.0 in
    let l : length (drop 8 p) ≡ length p - 8 = length-drop 8 p in
    let q : length (drop 8 p) ≡ length rest = ap length d in
    let size : field2 p 2 ≡ fixed_size + length rest = omega (arith, n.0, n.2) in
    let one : octet p 0 ≡ 1 = eqb-true (octet p 0) 1 f.1 in
    let none : field2 p 6 ≡ 0 = eqb-true (field2 p 6) 0 f.4 in
    peel1 p 0 1 refl (omega (arith, n.0))
    ∙ ap (λ (l : List ℕ). octet p 0 ∷ l) (peel1 p 1 2 refl (omega (arith, n.0))
    ∙ ap (λ (l : List ℕ). octet p 1 ∷ l) (peel2 p o 2 4 refl (omega (arith, n.0))
    ∙ ap (put2 (field2 p 2)) (peel2 p o 4 6 refl (omega (arith, n.0))
    ∙ ap (put2 (field2 p 4)) (peel2 p o 6 8 refl (omega (arith, n.0))))))
    ∙ (λ i. one i ∷ e i ∷ put2 (size i) (put2 (field2 p 4) (put2 (none i) (d i))))

kind_back : (w : ℕ) (k : Kind) (p : List ℕ) → k ≡ kind_of_body (message_at w k p).body
unfolding message_at
kind_back w Ca p = refl
kind_back w CsuRequest p = refl
kind_back w CsuReply p = refl
kind_back w Csus p = refl
kind_back w Hello p = refl

layout_exact : (w : ℕ) (k : Kind) (p : List ℕ) → Octets p → FixedGood w p → octet p 1 ≡ type_of k → mandatory_check w k p ≡ Fine
    → p ≡ layout (ignored_of w k p) (field2 p 4) (message_at w k p)
unfolding layout
layout_exact w k p o f e h =
    let m : List ℕ = mandatory (ignored_of w k p) (message_at w k p) in
    fixed_exact w k p o f e m (mandatory_exact w k p o (told w k p h))
    ∙ ap (λ (j : Kind). fixed_part j (fixed_size + length m) (field2 p 4) ++ m) (kind_back w k p)

-- ---- a packet
module _ (w : ℕ) (p : List ℕ) (m : Message) where
  pub exact : Octets p → read_packet w p ≡ message m → layout (ignored_of w (kind_of (octet p 1)) p) (field2 p 4) m ≡ p
  exact o e =
      let f = read_as w p m e in
      let k : Kind = kind_of (octet p 1) in
      sym (layout_exact w k p o f.0 (type_back p f.0.2) f.1 ∙ ap (layout (ignored_of w k p) (field2 p 4)) f.2)

  pub exact_sum : read_packet w p ≡ message m → good_sum p ≡ true
  exact_sum e = (read_as w p m e).0.3

-- one reading
pub one_message : (w : ℕ) (p : List ℕ) (m n : Message) → read_packet w p ≡ message m → read_packet w p ≡ message n → m ≡ n
one_message w p m n e f = cc

-- packets that are read as one message, and have the same checksum field and the same in what is ignored, are the same
pub one_packet : (w : ℕ) (p q : List ℕ) (m : Message) → Octets p → Octets q → read_packet w p ≡ message m → read_packet w q ≡ message m
    → ignored_of w (kind_of (octet p 1)) p ≡ ignored_of w (kind_of (octet q 1)) q → field2 p 4 ≡ field2 q 4 → p ≡ q
one_packet w p q m o u e f g c = sym (exact w p m o e) ∙ (λ i. layout (g i) (c i) m) ∙ exact w q m u f
