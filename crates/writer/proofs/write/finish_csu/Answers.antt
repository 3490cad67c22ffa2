-- The common part is a head of 28 octets with the fixed part, so what stands behind it is a packet; it is the message's.
use Rattle.std.proofs.Common.{rules, ◌≡◌, [], length, refl}
use Rattle.writer.proofs.Heads.{behind, finishes_csu}
use Rattle.writer.proofs.write.finish_csu.Goals as goal

pub returns : goal.returns
returns c =
    let a = c.args in
    let widths : (length a.c.sender ≡ 4) × (length a.c.receiver ≡ 4) = search rules in
    let octets = behind a.c widths [] 0 a.count 28 c.into.ensures refl refl c.common_part.ensures refl c.put_head.ensures in
    record { finishes_with = finishes_csu a.c widths a.t octets; octets = octets }
