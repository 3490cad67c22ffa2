use Rattle.std.proofs.Common.{arith}
use Rattle.memory.proofs.KeptLaws.{kept_length}
use Rattle.memory.proofs.kept.kept_len.Goals as goal

pub returns : goal.returns
returns c =
    let a = c.args in
    let at = c.place in
    kept_length a.memory.now a.k.at at.result at.ensures.0 c.size_at.result (omega arith) c.size_at.ensures
