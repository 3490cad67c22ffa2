-- Key and originator, read as one part.
use Rattle.std.proofs.Common.{ℕ, ◌+◌, ap, ◌∙◌, refl}
use Rattle.laws.specs.Lists.{part}
use Rattle.laws.proofs.Lists.{part_split}
use Rattle.protocol.specs.Fields.{octet}
use Rattle.protocol.specs.Reading.{record_at}
use Rattle.wire.proofs.record.name.Goals as goal

pub returns : goal.returns
unfolding record_at
returns c =
    let p = c.args.p.now in
    let at = c.args.r + 12 in
    let key = octet p (c.args.r + 4) in
    c.part_of.ensures ∙ ap (λ (n : ℕ). part p at (n + 4)) c.octet.ensures ∙ part_split p at key 4 (at + key) refl
