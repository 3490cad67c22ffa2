-- The fields and the common part, up to the receiver or with it, are the whole packet: the head is put before nothing.
use Rattle.std.proofs.Common.{rules, arith, ◌≡◌, ℕ, ◌+◌, ◌-◌, length, take, ap, ◌∙◌}
use lib.Seq.{length-take-le}
use Rattle.writer.proofs.Heads.{common_part_lem, hello_wrote}
use Rattle.writer.proofs.write.write_hello.Goals as goal

pub returns : goal.returns
returns c =
    let a = c.args in
    let l = c.receiver_len-len in
    let m = c.common_part-common in
    let widths : (length a.c.sender ≡ 4) × (length a.c.receiver ≡ 4) = search rules in
    let common : length m.result ≡ 20 = search rules in
    let n : c.from-n.result ≡ l.result = search rules in
    let size : 32 + c.from-n.result - 16 ≡ 16 + l.result = omega arith in
    let taken : length c.first.result.now ≡ 16 + l.result =
    ap length c.first.ensures ∙ length-take-le (32 + c.from-n.result - 16) m.result (omega (arith, l.ensures.1, common)) ∙ size in
    hello_wrote a.c widths a.interval a.factor a.named c.requires l.ensures.0 l.ensures.1 (omega arith) c.hello_fields.ensures
    (c.first.ensures ∙ ap (λ (x : ℕ). take x m.result) size ∙ common_part_lem a.c widths a.named l.ensures.0 m.ensures)
    taken c.put_head.ensures
