-- What is written for a message is a packet, its checksum is good, and it is read back.
-- Assumes nothing.
use Prim.Native.Nat.{ℕ, ◌≤◌, ◌<◌}
use mathlib.Core.Path.{◌≡◌, refl, sym, ap, ◌∙◌}
use mathlib.Core.Bool.{true}
use mathlib.Core.Logic.{inl}
use native.Mathlib.Omega.{arith}
use lib.ListN.{length}
use Rattle.protocol.specs.Sizes.{fixed_size, packet_most}
use Rattle.protocol.specs.Fields.{field2}
use Rattle.protocol.specs.Checksum.{checksum_of, good_sum, with_field, right_field}
use Rattle.protocol.specs.Messages.{Message}
use Rattle.protocol.specs.Layouts.{Ignored, zeros, layout, packet_of}
use Rattle.protocol.specs.Reading.{read_packet, message}
use Rattle.protocol.specs.WellFormed.{Octets, WellFormed}
use Rattle.protocol.proofs.Lengths.{layout_size, layout_length}
use Rattle.protocol.proofs.ReadBack.{IgnoredFit, zeros_fit, layout_back}
use Rattle.protocol.proofs.PacketOctets.{small_octets, layout_small}
use Rattle.protocol.proofs.SumField.{right_by, right_good}

-- ---- the checksum field
field_of : (g : Ignored) (sum : ℕ) (m : Message) → field2 (layout g sum m) 4 ≡ sum
unfolding layout
field_of g sum m = omega arith

field_put : (g : Ignored) (x sum : ℕ) (m : Message) → with_field x (layout g sum m) ≡ layout g x m
unfolding layout
field_put g x sum m = refl

-- what we write there is the checksum computed with the field 0 (02, L4)
pub written_field : (m : Message) → field2 (packet_of m) 4 ≡ checksum_of (with_field 0 (packet_of m))
unfolding packet_of
written_field m =
    let sum : ℕ = checksum_of (layout zeros 0 m) in
    field_of zeros sum m ∙ ap checksum_of (sym (field_put zeros 0 sum m))

-- ---- a right sender's packets, whatever stands in the ignored fields
module _ (w : ℕ) (g : Ignored) (sum : ℕ) (m : Message) (narrow : w ≤ 20) (good : WellFormed w m) (fit : IgnoredFit g m) (sums : sum < 65536) where
  right_sum : right_field (layout g sum m) ≡ true → good_sum (layout g sum m) ≡ true
  right_sum r =
      let short = layout_length w g sum m narrow good in
      right_good (layout g sum m) (small_octets (layout_small w narrow g sum m good fit sums)) (omega arith) r

  pub right_back : right_field (layout g sum m) ≡ true → read_packet w (layout g sum m) ≡ message m
  right_back r = layout_back w g sum m narrow good fit (right_sum r)

-- ---- ours
module _ (w : ℕ) (m : Message) (narrow : w ≤ 20) (good : WellFormed w m) where
  right : right_field (packet_of m) ≡ true
  right = right_by (packet_of m) (inl (written_field m))

  pub sum_back : good_sum (packet_of m) ≡ true
  unfolding packet_of
  sum_back = right_sum w zeros (checksum_of (layout zeros 0 m)) m narrow good (zeros_fit m) (omega arith) right

  pub read_back : read_packet w (packet_of m) ≡ message m
  unfolding packet_of
  read_back = right_back w zeros (checksum_of (layout zeros 0 m)) m narrow good (zeros_fit m) (omega arith) right

  pub packet_octets : Octets (packet_of m)
  unfolding packet_of
  packet_octets = small_octets (layout_small w narrow zeros (checksum_of (layout zeros 0 m)) m good (zeros_fit m) (omega arith))

  pub packet_length : length (packet_of m) ≤ packet_most w
  unfolding packet_of
  packet_length = layout_length w zeros (checksum_of (layout zeros 0 m)) m narrow good

-- whatever the message
pub packet_least : (m : Message) → fixed_size ≤ length (packet_of m)
unfolding packet_of
packet_least m = omega (arith, layout_size zeros (checksum_of (layout zeros 0 m)) m)
