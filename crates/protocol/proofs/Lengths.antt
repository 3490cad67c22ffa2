-- How long a packet is.
-- Assumes nothing.
use Prim.Native.Nat.{ℕ, ◌+◌, ◌*◌, ◌≤◌}
use mathlib.Core.Path.{◌≡◌, refl, ap}
use mathlib.Core.Bool.{Bool, true, false}
use mathlib.Core.List.{List, [], ◌∷◌}
use mathlib.Core.Logic.{inl, inr}
use native.Mathlib.Omega.{arith}
use native.Mathlib.Nat.{suc-mul, mul-le-mul_right}
use lib.ListN.{length, get_or, drop, length-append}
use Rattle.laws.specs.Lists.{All}
use Rattle.protocol.specs.declared.Kind.{Kind}
use Rattle.protocol.specs.declared.Kind.TheVariants.{Ca, CsuRequest, CsuReply, Csus}
use Rattle.protocol.specs.Sizes.{key_most, payload_most, record_size, packet_most, fixed_size}
use Rattle.protocol.specs.Messages.{CsaRecord, Body, ca, csu_request, csu_reply, csus, hello, Message}
use Rattle.protocol.specs.Layouts.{Ignored, record_octets, records_octets, receivers_octets, before_common, elements, mandatory, layout}
use Rattle.protocol.specs.Checks.{is_request_kind}
use Rattle.protocol.specs.WellFormed.{Id, GoodRecord, GoodRecords, GoodBody, GoodReceiver, WellFormed}

-- the longest payload in a packet, by whether it is a CSU Request
abbrev payload_room : Bool → ℕ
payload_room true = payload_most
payload_room false = 0

payload_fits : (asks : Bool) (n : ℕ) → n ≤ payload_most → (asks ≡ false → n ≡ 0) → n ≤ payload_room asks
payload_fits true n h g = h
payload_fits false n h g = let z = g refl in omega arith

abbrev record_most : ℕ → Kind → ℕ
record_most w k = record_size + key_most + w + payload_room (is_request_kind k)

record_length : (w : ℕ) (k : Kind) (beside : ℕ) (r : CsaRecord) → GoodRecord w k r → length (record_octets beside r) ≤ record_most w k
unfolding record_octets
record_length w k beside r good =
    let n : length r.originator ≡ w = good.originator.size in
    let h : length r.payload ≤ payload_room (is_request_kind k) =
    payload_fits (is_request_kind k) (length r.payload) good.payload_fits (λ e. ap length (good.summary_empty e)) in
    simp length-append (omega arith)

records_length : (w : ℕ) (k : Kind) (rs : List CsaRecord) (beside : List ℕ) → All (GoodRecord w k) rs
    → length (records_octets beside rs) ≤ length rs * record_most w k
unfolding records_octets
records_length w k [] beside good = omega arith
records_length w k (r ∷ rs) beside good =
    let h = record_length w k (get_or beside 0 0) r good.0 in
    let i = records_length w k rs (drop 1 beside) good.1 in
    simp length-append (omega (arith, suc-mul (length rs) (record_most w k)))

receivers_length : (w : ℕ) (ids : List (List ℕ)) → All (Id w) ids → length (receivers_octets ids) ≤ length ids * (1 + w)
unfolding receivers_octets
receivers_length w [] good = omega arith
receivers_length w (id ∷ ids) good =
    let h : length id ≡ w = good.0.size in
    let i = receivers_length w ids good.1 in
    simp length-append (omega (arith, suc-mul (length ids) (1 + w)))

-- four records, or eight receivers
some_records : (w : ℕ) (k : Kind) (rs : List CsaRecord) (beside : List ℕ) → GoodRecords w k rs → length (records_octets beside rs) ≤ 4 * record_most w k
some_records w k rs beside good =
    omega (arith, records_length w k rs beside good.each, mul-le-mul_right (record_most w k) good.few)

body_length : (w : ℕ) (g : Ignored) (b : Body) → w ≤ 20 → GoodBody w b → length (before_common g b) + length (elements g b) ≤ 240 + 4 * w
body_length w g (ca n f rs) h good = omega (arith, some_records w Ca rs g.beside good.1)
body_length w g (csu_request rs) h good = omega (arith, some_records w CsuRequest rs g.beside good)
body_length w g (csu_reply rs) h good = omega (arith, some_records w CsuReply rs g.beside good)
body_length w g (csus rs) h good = omega (arith, some_records w Csus rs g.beside good)
body_length w g (hello i f ids) h good = omega (arith, receivers_length w ids good.each, mul-le-mul_right (1 + w) good.few)

pub receiver_length_lem : (w : ℕ) (b : Body) (id : List ℕ) → GoodReceiver w b id → length id ≤ w
receiver_length_lem w (ca n f rs) id h = let e = h.size in omega arith
receiver_length_lem w (csu_request rs) id h = let e = h.size in omega arith
receiver_length_lem w (csu_reply rs) id h = let e = h.size in omega arith
receiver_length_lem w (csus rs) id h = let e = h.size in omega arith
receiver_length_lem w (hello i f ids) id (inl h) = let e = h.size in omega arith
receiver_length_lem w (hello i f ids) id (inr h) = let e : length id ≡ 0 = ap length h in omega arith

pub layout_size : (g : Ignored) (sum : ℕ) (m : Message) → length (layout g sum m) ≡ fixed_size + length (mandatory g m)
unfolding layout
layout_size g sum m = omega arith

pub layout_length : (w : ℕ) (g : Ignored) (sum : ℕ) (m : Message) → w ≤ 20 → WellFormed w m → length (layout g sum m) ≤ packet_most w
unfolding layout mandatory
layout_length w g sum m h good =
    let s : length m.sender ≡ w = good.sender.size in
    let r : length m.receiver ≤ w = receiver_length_lem w m.body m.receiver good.receiver in
    let b = body_length w g m.body h good.body in
    simp length-append (omega arith)
