-- Each field is its two octets, the high one first; the IDs are their four.
use Rattle.std.proofs.Common.{rules, ◌≡◌, ◌<◌, List, ◌∷◌, ℕ, length, ap}
use Rattle.writer.proofs.Heads.{field, ids}
use Rattle.writer.proofs.put.common_part.Goals as goal

pub returns : goal.returns
returns c =
    let a = c.args in
    let widths : (length a.c.sender ≡ 4) × (length a.c.receiver ≡ 4) = search rules in
    let fit : (a.c.protocol < 65536) × (a.c.group < 65536) = search rules in
    field fit.0 c.to_be_bytes.ensures (field fit.1 c.to_be_bytes-2.ensures
    (ap (λ (z : List ℕ). 0 ∷ 0 ∷ z) (field c.ranges.flags.fits c.to_be_bytes-3.ensures
    (ap (λ (z : List ℕ). 4 ∷ a.len ∷ z) (field c.ranges.count.fits c.to_be_bytes-4.ensures (ids a.c.sender a.c.receiver widths.0 widths.1))))))
