use Rattle.std.proofs.Common.{sym, ◌∙◌}
use Rattle.laws.proofs.Lists.{take_rest}
use Rattle.octets.proofs.Read.{field4_of_three}
use Rattle.octets.proofs.field4.Goals as goal

pub returns-in-Some-len3 : goal.returns-in-Some-len3
returns-in-Some-len3 c =
    let s = c.in-Some-len3 in
    let p = c.args.p.now in
    let rest = sym (s.ensures.lookup.0.2 ∙ take_rest p c.args.at) in
    field4_of_three p s.field-0.now c.args.at c.from_be_bytes-in-Some-len3.result rest s.len_below
    c.from_be_bytes-in-Some-len3.ensures
