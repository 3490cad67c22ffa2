-- The head of a packet put before the records that stand already in the slice, and records put one behind the other.
-- Assumes nothing.
use Prim.Native.Nat.{ℕ, ◌+◌, ◌-◌, ◌*◌, ◌/◌, ◌%◌, ◌≤◌, ◌<◌}
use mathlib.Core.Path.{◌≡◌, refl, sym, ap, ◌∙◌, subst}
use mathlib.Core.Bool.{Bool, true, false}
use mathlib.Core.List.{List, [], ◌∷◌, ◌++◌, append-nil, append_assoc}
use native.Mathlib.Nat.{add-zero, le_of_eq}
use native.Mathlib.Omega.{arith}
use lib.ListN.{length, take, drop, get_or, length-append, length-drop, take-append-drop}
use lib.Seq.{take_all, take_at, length-take-le}
use Rattle.std.specs.Int.{to_be_bytes, w16, w32}
use Rattle.laws.specs.Puts.{put_at, written, Put}
use Rattle.laws.proofs.Puts.{put_none, then_put, three_puts, put_before, put_zero, take_written, written_again, set_written}
use Rattle.protocol.specs.declared.Kind.{Kind}
use Rattle.protocol.specs.declared.Kind.TheVariants.{Ca, Hello}
use Rattle.protocol.specs.declared.CaNumber.{CaNumber}
use Rattle.protocol.specs.declared.CsaNumber.{CsaNumber}
use Rattle.protocol.specs.declared.CaFlags.{CaFlags}
use Rattle.protocol.specs.Sizes.{fixed_size}
use Rattle.protocol.specs.Fields.{put2, put4}
use Rattle.protocol.specs.Numbers.{bits_of}
use Rattle.protocol.specs.Checksum.{checksum_of, with_field}
use Rattle.protocol.specs.Messages.{CsaRecord, Body, ca, csu_request, csu_reply, csus, hello, Message, kind_of_body}
use Rattle.protocol.specs.Layouts.{bit, zeros, flags_field, flags_of, count_of, record_octets, records_octets, receivers_octets}
use Rattle.protocol.specs.Layouts.{before_common, common_head, elements, mandatory, fixed_part, layout, packet_of}
use Rattle.writer.specs.declared.write.Common.{Common}
use Rattle.writer.specs.declared.write.Csu.{Csu}
use Rattle.writer.specs.declared.write.Csu.TheVariants.{Request, Reply, Solicit}
use Rattle.writer.specs.Write.{csu_body, csu_kind, named_record, message_from, hello_message, Wrote, FinishesWith, hello_fields, receiver_length}
use Rattle.writer.specs.Write.{common_fields, common_part, record_fields, summed, sealed, Behind}

-- ---- the common part by its octets
pub ids : (s r : List ℕ) → length s ≡ 4 → length r ≡ 4
    → get_or s 0 0 ∷ get_or s 1 0 ∷ get_or s 2 0 ∷ get_or s 3 0 ∷ get_or r 0 0 ∷ get_or r 1 0 ∷ get_or r 2 0 ∷ get_or r 3 0 ∷ [] ≡ s ++ r
ids s r d e = four s _ d ∙ ap (λ (l : List ℕ). s ++ l) (four r [] e ∙ append-nil r) where
  four : (l m : List ℕ) → length l ≡ 4 → get_or l 0 0 ∷ get_or l 1 0 ∷ get_or l 2 0 ∷ get_or l 3 0 ∷ m ≡ l ++ m
  four (a ∷ b ∷ c ∷ d ∷ []) m h = refl
  four [] m h = absurd (omega arith)
  four (a ∷ []) m h = absurd (omega arith)
  four (a ∷ b ∷ []) m h = absurd (omega arith)
  four (a ∷ b ∷ c ∷ []) m h = absurd (omega arith)
  four (a ∷ b ∷ c ∷ d ∷ e ∷ l) m h = absurd (omega arith)

-- a field of four octets, the high one first
pub number_octets : {x : ℕ} {b : List ℕ} → x < 4294967296 → b ≡ to_be_bytes w32 x → b ≡ put4 x []
number_octets {x} h e =
    let high : x / 16777216 % 256 ≡ x / 16777216 = omega arith in
    e ∙ (λ i. high i ∷ x / 65536 % 256 ∷ x / 256 % 256 ∷ x % 256 ∷ [])

-- a field of two octets, the high one first
pub field : {x : ℕ} {b r s : List ℕ} → x < 65536 → b ≡ to_be_bytes w16 x → r ≡ s → get_or b 0 0 ∷ get_or b 1 0 ∷ r ≡ put2 x s
field {x} {s = s} h e f =
    let high : x / 256 % 256 ≡ x / 256 = omega arith in
    (λ i. get_or (e i) 0 0 ∷ get_or (e i) 1 0 ∷ f i) ∙ (λ i. high i ∷ x % 256 ∷ s)

module _ (c : Common) (widths : (length c.sender ≡ 4) × (length c.receiver ≡ 4)) where
  -- with the receiver
  pub common_whole : (flags count : ℕ) {m : List ℕ} → m ≡ common_fields c.protocol c.group flags 4 count ++ (c.sender ++ c.receiver)
      → m ≡ common_part c flags 4 count
  unfolding common_part
  common_whole flags count e =
      e ∙ ap (λ (z : List ℕ). common_fields c.protocol c.group flags 4 count ++ (c.sender ++ z)) (sym (take_all 4 c.receiver (le_of_eq widths.1)))

  -- with the receiver, or without
  pub common_part_lem : (named : Bool) {len : ℕ} {m : List ℕ} → len ≡ receiver_length named
      → m ≡ common_fields c.protocol c.group 0 len 0 ++ (c.sender ++ c.receiver) → take (16 + len) m ≡ common_part c 0 len 0
  unfolding common_part
  common_part_lem named {len} {m} l e =
      ap (λ (z : List ℕ). take (16 + len) z) e
      ∙ subst (λ (x : ℕ). take (16 + x) (F x ++ (c.sender ++ c.receiver)) ≡ F x ++ (c.sender ++ take x c.receiver)) (sym l) (by_name named) where
        F : ℕ → List ℕ
        F x = common_fields c.protocol c.group 0 x 0

        whole : length (c.sender ++ c.receiver) ≤ 8
        whole = simp length-append (omega (arith, widths.0, widths.1))

        by_name : (b : Bool) → take (16 + receiver_length b) (F (receiver_length b) ++ (c.sender ++ c.receiver))
            ≡ F (receiver_length b) ++ (c.sender ++ take (receiver_length b) c.receiver)
        by_name true =
            ap (λ (z : List ℕ). F 4 ++ z) (take_all 8 (c.sender ++ c.receiver) whole
            ∙ ap (λ (z : List ℕ). c.sender ++ z) (sym (take_all 4 c.receiver (le_of_eq widths.1))))
        by_name false = ap (λ (z : List ℕ). F 0 ++ z) (take_at c.sender c.receiver 4 widths.0 ∙ sym (append-nil c.sender))

-- ---- the checksum and the head put
pub seal_part : (out : List ℕ) (n : ℕ) → 8 ≤ n → n ≤ length out
    → with_field (checksum_of (take n out)) out ≡ written (summed (take n out)) out
unfolding summed
seal_part out n h g = set_written out n 4 5 (checksum_of (take n out) / 256) (checksum_of (take n out) % 256) (omega arith) (omega arith) g

-- a head of three parts before what stands behind it
pub headed : (k : Kind) (g m : List ℕ) (n : ℕ) {before f a b mid after : List ℕ} {i j l : ℕ} → fixed_size + length g + length m ≤ length before
    → f ≡ fixed_part k n 0 → Put f 0 before a i → Put g i a b j → Put m j b mid l → after ≡ written (summed (take n mid)) mid
    → Behind k (g ++ m) (fixed_size + length g + length m) n before after
unfolding summed sealed
headed k g m n {before} {f} {mid = mid} {after = after} room e p q r w = λ b out enough t.
    let o : List ℕ = g ++ m in
    let h : List ℕ = f ++ o in
    let B : List ℕ = o ++ b in
    let H : List ℕ = fixed_part k (fixed_size + length B) 0 in
    let fixed : length f ≡ fixed_size = ap length e in
    let wide : length o ≡ length g + length m = length-append g m in
    let long : length h ≡ fixed_size + length g + length m = length-append f o ∙ omega arith in
    let head = three_puts before 0 f g m (omega arith) p q r in
    let end : n ≡ fixed_size + length g + length m + length b = t.next in
    let size : n ≡ fixed_size + length B = simp length-append (omega arith) in
    let same : h ++ b ≡ H ++ B =
    ap (λ (z : List ℕ). z ++ b) (λ i. e i ++ o) ∙ ap (λ (x : ℕ). (fixed_part k x 0 ++ o) ++ b) size ∙ append_assoc H o b in
    let whole : mid ≡ written (H ++ B) out =
    head.octets ∙ ap (λ (z : List ℕ). put_at z 0 h) t.octets ∙ put_before out (fixed_size + length g + length m) h b long (omega arith)
    ∙ put_zero out (h ++ b) ∙ ap (λ (z : List ℕ). written z out) same in
    let first : take n mid ≡ H ++ B = ap (take n) whole ∙ take_written (H ++ B) out n (size ∙ sym (length-append H B)) in
    record {
      size = size ∙ sym (length-append H B);
      octets = w ∙ (λ i. written (summed (first i)) (whole i)) ∙ written_again (sealed k B) (H ++ B) out refl;
    }

-- ---- the packet of a message
laid : (m : Message) → length m.sender ≡ 4 → mandatory zeros m
    ≡ (before_common zeros m.body
    ++ (common_fields m.protocol m.group (flags_of m.body) (length m.receiver) (count_of m.body) ++ (m.sender ++ m.receiver)))
    ++ elements zeros m.body
unfolding mandatory
laid m l =
    let head : common_head zeros m ≡ common_fields m.protocol m.group (flags_of m.body) (length m.receiver) (count_of m.body) =
    λ i. put2 m.protocol (put2 m.group (put2 0 (put2 (add-zero (flags_of m.body) i) (l i ∷ length m.receiver ∷ put2 (count_of m.body) [])))) in
    ap (λ (z : List ℕ). before_common zeros m.body ++ (z ++ (m.sender ++ (m.receiver ++ elements zeros m.body)))) head ∙ simp append_assoc

module _ (c : Common) (widths : (length c.sender ≡ 4) × (length c.receiver ≡ 4)) where
  packet_of_lem : (receiver : List ℕ) (len : ℕ) (b : Body) → receiver ≡ take len c.receiver → length receiver ≡ len
      → packet_of (message_from c receiver b)
      ≡ sealed (kind_of_body b) ((before_common zeros b ++ common_part c (flags_of b) len (count_of b)) ++ elements zeros b)
  unfolding packet_of layout sealed common_part
  packet_of_lem receiver len b r e =
      ap (sealed (kind_of_body b)) (laid (message_from c receiver b) widths.0
      ∙ (λ i. (before_common zeros b ++ (common_fields c.protocol c.group (flags_of b) (e i) (count_of b) ++ (c.sender ++ r i))) ++ elements zeros b))

  named_packet : (b : Body) → packet_of (message_from c c.receiver b)
      ≡ sealed (kind_of_body b) ((before_common zeros b ++ common_part c (flags_of b) 4 (count_of b)) ++ elements zeros b)
  named_packet b = packet_of_lem c.receiver 4 b (sym (take_all 4 c.receiver (le_of_eq widths.1))) widths.1

  -- the head put is the one that the message has
  pub behind : (o : List ℕ) (flags count at : ℕ) {k kind : Kind} {g m : List ℕ} {f n : ℕ} {before after : List ℕ} → k ≡ kind → g ≡ o → f ≡ flags
      → m ≡ common_fields c.protocol c.group f 4 count ++ (c.sender ++ c.receiver) → fixed_size + length o + 20 ≡ at
      → Behind k (g ++ m) (fixed_size + length g + length m) n before after → Behind kind (o ++ common_part c flags 4 count) at n before after
  behind o flags count at {k} {kind} {g} {m} {f} {n} {before} {after} ek eo ef em ea w =
      let parts : g ++ m ≡ o ++ common_part c flags 4 count =
      λ i. eo i ++ (common_whole c widths f count em ∙ ap (λ (x : ℕ). common_part c x 4 count) ef) i in
      let whole : length (c.sender ++ c.receiver) ≡ 8 = length-append c.sender c.receiver ∙ omega (arith, widths.0, widths.1) in
      let long : fixed_size + length g + length m ≡ at = omega (arith, ap length eo, ap length em, whole) in
      subst (λ (x : Kind). Behind x (o ++ common_part c flags 4 count) at n before after) ek
      (subst (λ (x : ℕ). Behind k (o ++ common_part c flags 4 count) x n before after) long
      (subst (λ (z : List ℕ). Behind k z (fixed_size + length g + length m) n before after) parts w))

  module _ {count n : ℕ} {before after : List ℕ} where
    finishes : (body : List CsaRecord → Body) (k : Kind) (o : List ℕ) (at : ℕ)
        → ((rs : List CsaRecord) → count ≡ length rs → packet_of (message_from c c.receiver (body rs)) ≡ sealed k (o ++ records_octets [] rs))
        → Behind k o at n before after → FinishesWith body c at count n before after
    finishes body k o at e f = λ rs out l room p.
        subst (λ (z : List ℕ). Wrote z out after n) (sym (e rs l)) (f (records_octets [] rs) out room p)

    pub finishes_csu : (t : Csu) → Behind (csu_kind t) (common_part c 0 4 count) 28 n before after → FinishesWith (csu_body t) c 28 count n before after
    finishes_csu t =
        finishes (csu_body t) (csu_kind t) (common_part c 0 4 count) 28
        (λ rs e. packet t rs ∙ ap (λ (x : ℕ). sealed (csu_kind t) (common_part c 0 4 x ++ records_octets [] rs)) (sym e)) where
          packet : (t : Csu) (rs : List CsaRecord) → packet_of (message_from c c.receiver (csu_body t rs))
              ≡ sealed (csu_kind t) (common_part c 0 4 (length rs) ++ records_octets [] rs)
          packet Request rs = named_packet (csu_request rs)
          packet Reply rs = named_packet (csu_reply rs)
          packet Solicit rs = named_packet (csus rs)

    pub finishes_ca : (number : CaNumber) (flags : CaFlags) → Behind Ca (put4 number.0 [] ++ common_part c (flags_field flags) 4 count) 32 n before after
        → FinishesWith (ca number flags) c 32 count n before after
    finishes_ca number flags =
        finishes (ca number flags) Ca (put4 number.0 [] ++ common_part c (flags_field flags) 4 count) 32
        (λ rs e. named_packet (ca number flags rs)
        ∙ ap (λ (x : ℕ). sealed Ca ((put4 number.0 [] ++ common_part c (flags_field flags) 4 x) ++ records_octets [] rs)) (sym e))

  -- ---- a Hello
  hello_packet_lem : (interval factor : ℕ) (named : Bool)
      → packet_of (hello_message c interval factor named) ≡ sealed Hello ((hello_fields interval factor ++ common_part c 0 (receiver_length named) 0) ++ [])
  unfolding receivers_octets
  hello_packet_lem interval factor true = named_packet (hello interval factor [])
  hello_packet_lem interval factor false = packet_of_lem [] 0 (hello interval factor []) refl refl

  pub hello_wrote : (interval factor : ℕ) (named : Bool) {len n : ℕ} {out after g m : List ℕ} → 36 ≤ length out
      → len ≡ receiver_length named → len ≤ 4 → n ≡ 32 + len
      → g ≡ hello_fields interval factor → m ≡ common_part c 0 len 0 → length m ≡ 16 + len
      → Behind Hello (g ++ m) (fixed_size + length g + length m) n out after
      → Wrote (packet_of (hello_message c interval factor named)) out after n
  hello_wrote interval factor named {len} {n} {out} {after} {g} {m} room l few e f h long w =
      let a : length g ≡ 8 = ap length f in
      let size : fixed_size + length g + length m ≡ n = omega arith in
      subst (λ (z : List ℕ). Wrote z out after n)
      ((λ i. sealed Hello ((f i ++ h i) ++ []))
      ∙ sym (hello_packet_lem interval factor named ∙ ap (λ (x : ℕ). sealed Hello ((hello_fields interval factor ++ common_part c 0 x 0) ++ [])) (sym l)))
      (w [] out (omega arith) (subst (λ (x : ℕ). Put [] x out out n) (sym size) (put_none out n)))

-- ---- records put one behind the other
records_end : (rs : List CsaRecord) (r : CsaRecord) → records_octets [] (rs ++ (r ∷ [])) ≡ records_octets [] rs ++ record_octets 0 r
unfolding records_octets
records_end [] r = append-nil (record_octets 0 r)
records_end (x ∷ rs) r =
    ap (λ (z : List ℕ). record_octets 0 x ++ z) (records_end rs r) ∙ sym (append_assoc (record_octets 0 x) (records_octets [] rs) (record_octets 0 r))

pub no_records : (at : ℕ) (out : List ℕ) → Put (records_octets [] []) at out out at
unfolding records_octets
no_records at out = put_none out at

pub one_record_more : (rs : List CsaRecord) (r : CsaRecord) {at m n : ℕ} {out mid after : List ℕ} → m ≤ length out → Put (records_octets [] rs) at out mid m
    → Put (record_octets 0 r) m mid after n → Put (records_octets [] (rs ++ (r ∷ []))) at out after n
one_record_more rs r {at = at} {n = n} {out = out} {after = after} room p q =
    let x = p.next in
    subst (λ (z : List ℕ). Put z at out after n) (sym (records_end rs r)) (then_put out at (records_octets [] rs) (record_octets 0 r) (omega arith) p q)

-- ---- a record put of its parts
module _ (hops : ℕ) (null : Bool) (number : CsaNumber) (name payload : List ℕ) (long : 4 ≤ length name) where
  abbrev r : CsaRecord
  r = named_record hops null number name payload

  named_octets : {key len bits : ℕ} → key ≡ length name - 4 → len ≡ length payload → bits ≡ bits_of number
      → record_fields hops key len (bit null * 32768) bits ++ (name ++ payload) ≡ record_octets 0 r
  unfolding record_octets
  named_octets {key} {len} {bits} ek el eb =
      let k : ℕ = length name - 4 in
      let a : key ≡ length (take k name) = ek ∙ sym (length-take-le k name (omega arith)) in
      let b : 4 ≡ length (drop k name) = sym (length-drop k name ∙ omega arith) in
      let size : 16 + key + len ≡ 12 + length (take k name) + length (drop k name) + length payload = omega arith in
      let flags : bit null * 32768 ≡ bit null * 32768 + 0 = sym (add-zero (bit null * 32768)) in
      let parts : name ++ payload ≡ take k name ++ (drop k name ++ payload) =
      ap (λ (z : List ℕ). z ++ payload) (sym (take-append-drop k name)) ∙ append_assoc (take k name) (drop k name) payload in
      λ i. put2 hops (put2 (size i) (a i ∷ b i ∷ put2 (flags i) (put4 (eb i) []))) ++ parts i

  module _ (few : length name ≤ 20) (at : ℕ) (out : List ℕ) (room : at + 64 ≤ length out) {key len bits i j : ℕ} {h a b : List ℕ} where
    pub named_put : {n : ℕ} {after : List ℕ} → key ≡ length name - 4 → len ≡ length payload → bits ≡ bits_of number
        → h ≡ record_fields hops key len (bit null * 32768) bits → Put h at out a i → Put name i a b j → Put payload j b after n
        → Put (record_octets 0 r) at out after n × (n ≡ at + 12 + length name + length payload)
    named_put {n} {after} ek el eb e p q s =
        let L : length h ≡ 12 = ap length e in (
          subst (λ (z : List ℕ). Put z at out after n) (ap (λ (z : List ℕ). z ++ (name ++ payload)) e ∙ named_octets ek el eb)
              (three_puts out at h name payload (omega arith) p q s),
          omega (arith, p.next, q.next, s.next),
        )

-- no payload
pub put_empty : (payload out : List ℕ) (at : ℕ) → length payload ≡ 0 → Put payload at out out at
put_empty [] out at e = put_none out at
put_empty (x ∷ xs) out at e = absurd (omega arith)
