use Rattle.memory.proofs.KeptLaws.{kept_put_lem}
use Rattle.memory.proofs.kept.keep.Goals as goal

pub returns : goal.returns
returns c =
    let a = c.args in
    let at = c.place-at in
    kept_put_lem a.memory.now a.k.at at.result at.ensures.0 c.args.k.below (search) a.src.now c.put_size.new.memory c.put.new.out
    c.requires c.put_size.ensures c.put.ensures.octets
