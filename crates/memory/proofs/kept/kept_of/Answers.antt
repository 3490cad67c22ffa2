use Rattle.memory.proofs.KeptLaws.{kept_read}
use Rattle.memory.proofs.kept.kept_of.Goals as goal

pub returns : goal.returns
returns c =
    let a = c.args in
    let at = c.place-at in
    kept_read a.memory.now a.k.at at.result at.ensures.0 c.field2-n.result c.part_of.result.now c.first.result.now c.field2-n.ensures
    c.part_of.ensures c.first.ensures
