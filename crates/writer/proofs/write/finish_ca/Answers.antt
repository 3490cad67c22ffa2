-- The CA number and the common part are a head of 32 octets with the fixed part, so what stands behind it is a packet; it is the message's.
use Rattle.std.proofs.Common.{rules, ◌≡◌, ◌<◌, [], length, refl}
use Rattle.protocol.specs.Fields.{put4}
use Rattle.protocol.specs.Layouts.{flags_field}
use Rattle.writer.proofs.Heads.{number_octets, behind, finishes_ca}
use Rattle.writer.proofs.write.finish_ca.Goals as goal

pub returns : goal.returns
returns c =
    let a = c.args in
    let widths : (length a.c.sender ≡ 4) × (length a.c.receiver ≡ 4) = search rules in
    let fits : a.number.0 < 4294967296 = search rules in
    let number = number_octets fits c.to_be_bytes.ensures in
    let octets =
    behind a.c widths (put4 a.number.0 []) (flags_field a.flags) a.count 32 refl number c.flags_of.ensures c.common_part-common.ensures refl c.put_head.ensures in
    record { finishes_with = finishes_ca a.c widths a.number a.flags octets; octets = octets }
