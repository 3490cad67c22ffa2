-- Each element of a packet is an octet.
-- Assumes nothing.
use Prim.Native.Nat.{ℕ, zero, suc, ◌+◌, ◌*◌, ◌/◌, ◌%◌, ◌≤◌, ◌<◌}
use mathlib.Core.Path.{◌≡◌}
use mathlib.Core.List.{List, [], ◌∷◌, ◌++◌}
use mathlib.Core.Logic.{inl, inr}
use native.Mathlib.Omega.{arith}
use lib.ListN.{length, get_or, drop}
use mir.Syntax.{w32}
use mir.Val.{SFits}
use mir.ValLaws.{of_z_fits}
use Rattle.laws.specs.Lists.{All}
use Rattle.protocol.specs.declared.Kind.{Kind}
use Rattle.protocol.specs.declared.Kind.TheVariants.{Ca, CsuRequest, CsuReply, Csus, Hello}
use Rattle.protocol.specs.declared.CsaNumber.{CsaNumber}
use Rattle.protocol.specs.Sizes.{record_size, packet_most}
use Rattle.protocol.specs.Fields.{put2, put4}
use Rattle.protocol.specs.Numbers.{bits_of}
use Rattle.protocol.specs.Messages.{CsaRecord, Body, ca, csu_request, csu_reply, csus, hello, Message, kind_of_body}
use Rattle.protocol.specs.Layouts.{Ignored, type_of, bit, flags_of, count_of, record_octets, records_octets, receivers_octets, before_common, common_head}
use Rattle.protocol.specs.Layouts.{elements, mandatory, layout}
use Rattle.protocol.specs.WellFormed.{Octets, Id, GoodRecord, GoodBody, GoodReceiver, WellFormed}
use Rattle.protocol.proofs.Places.{bit_le}
use Rattle.protocol.proofs.ElementsBack.{SmallBeside, small_next}
use Rattle.protocol.proofs.HeadBack.{flags_room}
use Rattle.protocol.proofs.Lengths.{layout_size, layout_length, receiver_length_lem}
use Rattle.protocol.proofs.ReadBack.{IgnoredFit}

-- ---- octets by recursion
pub data Small : List ℕ → Type 0 where
  none : Small []
  one : {l : List ℕ} (x : ℕ) → x < 256 → Small l → Small (x ∷ l)

pub octets_small : (l : List ℕ) → Octets l → Small l
octets_small [] o = none
octets_small (x ∷ l) o = one x (o 0) (octets_small l (λ i. o (suc i)))

pub small_octets : {l : List ℕ} → Small l → Octets l
small_octets none i = omega arith
small_octets (one x h s) zero = h
small_octets (one x h s) (suc i) = small_octets s i

append_small : {l k : List ℕ} → Small l → Small k → Small (l ++ k)
append_small none t = t
append_small (one x h s) t = one x h (append_small s t)

put2_small : {l : List ℕ} (x : ℕ) → x < 65536 → Small l → Small (put2 x l)
put2_small x h s = one (x / 256) (omega arith) (one (x % 256) (omega arith) s)

put4_small : {l : List ℕ} (x : ℕ) → x < 4294967296 → Small l → Small (put4 x l)
put4_small x h s =
    one (x / 16777216) (omega arith) (one (x / 65536 % 256) (omega arith) (one (x / 256 % 256) (omega arith) (one (x % 256) (omega arith) s)))

-- ---- records and receivers
bits_small : (n : CsaNumber) → SFits w32 n.0 → bits_of n < 4294967296
bits_small n f = (of_z_fits w32 n.0 f).fits

module _ (w : ℕ) (narrow : w ≤ 20) where
  record_small : (k : Kind) (beside : ℕ) (r : CsaRecord) → beside < 32768 → GoodRecord w k r → Small (record_octets beside r)
  unfolding record_octets
  record_small k beside r h good =
      let o : length r.originator ≡ w = good.originator.size in
      let n = bit_le r.null in
      put2_small r.hops good.hops_fit
      (put2_small (record_size + length r.key + length r.originator + length r.payload) (omega arith)
      (one (length r.key) (omega arith) (one (length r.originator) (omega arith)
      (put2_small (bit r.null * 32768 + beside) (omega arith)
      (put4_small (bits_of r.number) (bits_small r.number good.number_fits)
      (append_small (octets_small r.key good.key_octets)
      (append_small (octets_small r.originator good.originator.octets) (octets_small r.payload good.payload_octets))))))))

  records_small : (k : Kind) (rs : List CsaRecord) (beside : List ℕ) → SmallBeside beside → All (GoodRecord w k) rs → Small (records_octets beside rs)
  unfolding records_octets
  records_small k [] beside h good = none
  records_small k (r ∷ rs) beside h good =
      append_small (record_small k (get_or beside 0 0) r (h 0) good.0)
      (records_small k rs (drop 1 beside) (small_next beside h) good.1)

  receivers_small : (ids : List (List ℕ)) → All (Id w) ids → Small (receivers_octets ids)
  unfolding receivers_octets
  receivers_small [] good = none
  receivers_small (id ∷ ids) good =
      let n : length id ≡ w = good.0.size in
      one (length id) (omega arith) (append_small (octets_small id good.0.octets) (receivers_small ids good.1))

  -- ---- by kind
  elements_small : (g : Ignored) (b : Body) → SmallBeside g.beside → GoodBody w b → Small (elements g b)
  elements_small g (ca n f rs) h good = records_small Ca rs g.beside h good.1.each
  elements_small g (csu_request rs) h good = records_small CsuRequest rs g.beside h good.each
  elements_small g (csu_reply rs) h good = records_small CsuReply rs g.beside h good.each
  elements_small g (csus rs) h good = records_small Csus rs g.beside h good.each
  elements_small g (hello i f ids) h good = receivers_small ids good.each

  before_small : (g : Ignored) (m : Message) (b : Body) → IgnoredFit g m → GoodBody w b → Small (before_common g b)
  before_small g m (ca n f rs) fit good = put4_small n.0 good.0 none
  before_small g m (csu_request rs) fit good = none
  before_small g m (csu_reply rs) fit good = none
  before_small g m (csus rs) fit good = none
  before_small g m (hello i f ids) fit good =
      put2_small i good.interval_fits
      (put2_small f good.factor_fits
      (put2_small g.hello_unused fit.hello_unused_fits (put2_small g.family fit.family_fits none)))

  receiver_small : (b : Body) (id : List ℕ) → GoodReceiver w b id → Small id
  receiver_small (ca n f rs) id h = octets_small id h.octets
  receiver_small (csu_request rs) id h = octets_small id h.octets
  receiver_small (csu_reply rs) id h = octets_small id h.octets
  receiver_small (csus rs) id h = octets_small id h.octets
  receiver_small (hello i f ids) id (inl h) = octets_small id h.octets
  receiver_small (hello i f ids) id (inr h) = rw h none

  flags_small : (b : Body) (flags : ℕ) → flags < flags_room b → flags_of b + flags < 65536
  flags_small (ca n f rs) flags h =
      let x = bit_le f.master in
      let y = bit_le f.initial in
      let z = bit_le f.more in
      omega arith
  flags_small (csu_request rs) flags h = omega arith
  flags_small (csu_reply rs) flags h = omega arith
  flags_small (csus rs) flags h = omega arith
  flags_small (hello i f ids) flags h = omega arith

  count_small : (b : Body) → GoodBody w b → count_of b < 65536
  count_small (ca n f rs) good = let h = good.1.few in omega arith
  count_small (csu_request rs) good = omega arith
  count_small (csu_reply rs) good = omega arith
  count_small (csus rs) good = omega arith
  count_small (hello i f ids) good = omega arith

  -- ---- the whole
  module _ (g : Ignored) (sum : ℕ) (m : Message) (good : WellFormed w m) (fit : IgnoredFit g m) (sums : sum < 65536) where
    common_small : Small (common_head g m)
    common_small =
        let s : length m.sender ≡ w = good.sender.size in
        let r : length m.receiver ≤ w = receiver_length_lem w m.body m.receiver good.receiver in
        put2_small m.protocol good.protocol_fits
        (put2_small m.group good.group_fits
        (put2_small g.unused fit.unused_fits
        (put2_small (flags_of m.body + g.flags) (flags_small m.body g.flags fit.flags_fit)
        (one (length m.sender) (omega arith) (one (length m.receiver) (omega arith)
        (put2_small (count_of m.body) (count_small m.body good.body) none))))))

    mandatory_small : Small (mandatory g m)
    unfolding mandatory
    mandatory_small =
        append_small (before_small g m m.body fit good.body)
        (append_small common_small
        (append_small (octets_small m.sender good.sender.octets)
        (append_small (receiver_small m.body m.receiver good.receiver) (elements_small g m.body fit.beside_fits good.body))))

    pub layout_small : Small (layout g sum m)
    unfolding layout
    layout_small =
        let n : length (layout g sum m) ≡ 8 + length (mandatory g m) = layout_size g sum m in
        let h : length (layout g sum m) ≤ packet_most w = layout_length w g sum m narrow good in
        one 1 (omega arith) (one (type_of (kind_of_body m.body)) (type_small (kind_of_body m.body))
        (put2_small (8 + length (mandatory g m)) (omega arith) (put2_small sum sums (put2_small 0 (omega arith) mandatory_small)))) where
          type_small : (k : Kind) → type_of k < 256
          type_small Ca = omega arith
          type_small CsuRequest = omega arith
          type_small CsuReply = omega arith
          type_small Csus = omega arith
          type_small Hello = omega arith
