-- The records of a CSU Request that is written are read back by position; no other packet that is written is one.
-- Assumes nothing.
use Prim.Native.Nat.{ℕ, ◌+◌, ◌≤◌}
use mathlib.Core.Path.{◌≡◌, refl, sym, ap, ◌∙◌}
use mathlib.Core.Bool.{true, false}
use mathlib.Core.List.{List, [], ◌∷◌, ◌++◌}
use native.Mathlib.Omega.{arith}
use lib.ListN.{length, drop}
use mir.Syntax.{w32}
use mir.Val.{SFits}
use Rattle.laws.specs.Lists.{All}
use Rattle.protocol.specs.declared.CaNumber.{CaNumber}
use Rattle.protocol.specs.declared.CaFlags.{CaFlags}
use Rattle.protocol.specs.Sizes.{id_length}
use Rattle.protocol.specs.Fields.{octet, field2}
use Rattle.protocol.specs.Messages.{CsaRecord, Message, ca, csu_request, csu_reply, csus}
use Rattle.protocol.specs.Layouts.{zeros, count_of, common_head, records_octets, mandatory, layout, packet_of}
use Rattle.protocol.specs.Checksum.{checksum_of}
use Rattle.protocol.specs.Reading.{records_at}
use Rattle.protocol.proofs.RecordBack.{Shown, shown, record_read}
use Rattle.protocol.proofs.HeadBack.{Common, common}
use Rattle.protocol.proofs.Lengths.{layout_size}
use Rattle.rules.specs.Server.{Settings, Slot}
use Rattle.rules.specs.Slots.{to_peer}
use Rattle.rules.specs.Poll.{hello_of}
use Rattle.rules.specs.SlotHistory.{is_request_type}
use Rattle.rules.specs.Demand3.{request_records}

-- what a record needs to be read back by position
pub record Readable (r : CsaRecord) : Type 0 where
  pub originator_size : length r.originator ≡ id_length
  pub number_fits : SFits w32 r.number.0

records_back : (p : List ℕ) (rs : List CsaRecord) (at : ℕ) → drop at p ≡ records_octets [] rs → at ≤ length p → All Readable rs
    → records_at id_length p (length rs) at ≡ rs
unfolding records_octets records_at
records_back p [] at e h good = refl
records_back p (r ∷ rs) at e h good =
    let s : Shown id_length p at r (records_octets [] rs) = shown id_length p at 0 r _ e h (omega arith) good.0.originator_size in
    λ i. record_read id_length p at r _ s good.0.number_fits i ∷ records_back p rs (at + field2 p (at + 2)) s.rest_at s.room good.1 i

pub is_request : (c : Settings) (x : Slot) (rs : List CsaRecord) → is_request_type (packet_of (to_peer c x (csu_request rs))) ≡ true
unfolding packet_of layout
is_request c x rs = refl

-- from the common part on
module _ (p : List ℕ) (m : Message) (rs : List CsaRecord) (own : length m.sender ≡ id_length) (peer : length m.receiver ≡ id_length) where
  counted_back : drop 8 p ≡ common_head zeros m ++ (m.sender ++ (m.receiver ++ records_octets [] rs)) → 8 ≤ length p → count_of m.body ≡ length rs
      → All Readable rs → records_at id_length p (field2 p 18) 28 ≡ rs
  counted_back e eight n good =
      let s : Common id_length p 8 0 m (records_octets [] rs) = common id_length p 8 zeros m (records_octets [] rs) e eight own in
      let at : 24 + octet p 17 ≡ 28 = ap (λ (k : ℕ). 24 + k) (s.receiver_size ∙ peer) in
      let room : 28 ≤ length p = rw at at s.room in
      ap (λ (k : ℕ). records_at id_length p k 28) (s.count_at_lem ∙ n)
      ∙ records_back p rs 28 (ap (λ (k : ℕ). drop k p) (sym at) ∙ s.rest_at) room good

-- the packet, whatever its checksum field
layout_records : (sum protocol group : ℕ) (sender receiver : List ℕ) (rs : List CsaRecord) → length sender ≡ id_length → length receiver ≡ id_length
    → All Readable rs
    → let p = layout zeros sum (record { protocol = protocol; group = group; sender = sender; receiver = receiver; body = csu_request rs }) in
    records_at id_length p (field2 p 18) 28 ≡ rs
layout_records sum protocol group sender receiver rs own peer good =
    let m : Message = record { protocol = protocol; group = group; sender = sender; receiver = receiver; body = csu_request rs } in
    let size = layout_size zeros sum m in
    counted_back (layout zeros sum m) m rs own peer (unfold layout mandatory in refl) (omega arith) refl good

pub request_back : (c : Settings) (x : Slot) (rs : List CsaRecord) → length c.id ≡ id_length → length x.peer ≡ id_length → All Readable rs
    → request_records (packet_of (to_peer c x (csu_request rs))) ≡ rs
request_back c x rs own peer good =
    rw (is_request c x rs) (unfold packet_of in layout_records (checksum_of (layout zeros 0 (to_peer c x (csu_request rs)))) c.protocol c.group c.id
    x.peer rs own peer good)

pub not_hello : (c : Settings) (x : Slot) → is_request_type (packet_of (hello_of c x)) ≡ false
unfolding packet_of layout
not_hello c x = refl

pub not_ca : (c : Settings) (x : Slot) (n : CaNumber) (f : CaFlags) (rs : List CsaRecord) → is_request_type (packet_of (to_peer c x (ca n f rs))) ≡ false
unfolding packet_of layout
not_ca c x n f rs = refl

pub not_csus : (c : Settings) (x : Slot) (rs : List CsaRecord) → is_request_type (packet_of (to_peer c x (csus rs))) ≡ false
unfolding packet_of layout
not_csus c x rs = refl

pub not_reply : (c : Settings) (x : Slot) (rs : List CsaRecord) → is_request_type (packet_of (to_peer c x (csu_reply rs))) ≡ false
unfolding packet_of layout
not_reply c x rs = refl

pub not_none : is_request_type [] ≡ false
not_none = refl
