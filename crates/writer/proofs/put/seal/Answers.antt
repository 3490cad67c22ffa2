-- The two octets stored are the checksum in its place among the first n octets; those behind them stay.
use Rattle.std.proofs.Common.{ℕ, List, [], get_or, set, refl, ap, ◌∙◌, arith}
use Rattle.protocol.specs.Checksum.{with_field}
use Rattle.writer.proofs.Heads.{field, seal_part}
use Rattle.writer.proofs.put.seal.Goals as goal

pub returns : goal.returns
returns c =
    let out = c.args.out.now in
    ap (λ (b : List ℕ). set (set out 4 (get_or b 0 0)) 5 (get_or b 1 0)) (field {r = []} c.checksum.type_inv c.to_be_bytes.ensures refl)
    ∙ ap (λ (x : ℕ). with_field x out) c.checksum.ensures ∙ seal_part out c.args.n (omega arith) (omega arith)
