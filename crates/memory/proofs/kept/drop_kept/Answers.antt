use Rattle.memory.proofs.KeptLaws.{kept_none}
use Rattle.memory.proofs.kept.drop_kept.Goals as goal

pub returns : goal.returns
returns c =
    let a = c.args in
    let at = c.place in
    kept_none a.memory.now a.k.at at.result at.ensures.0 c.args.k.below (search) c.put_size.new.memory c.put_size.ensures
