use Rattle.std.proofs.Common.{length, ap, arith}
use Rattle.memory.specs.Memory.{kept_in}
use Rattle.memory.proofs.KeptLaws.{kept_short, kept_copied}
use Rattle.memory.proofs.kept.copy_kept.Goals as goal

pub put-requires : goal.put-requires
put-requires c =
    let a = c.args in
    omega (arith, ap length c.kept_of.ensures, kept_short a.memory.now a.k.at)

pub returns : goal.returns
returns c =
    let a = c.args in
    kept_copied a.out.now c.put.new.out c.kept_of.result.now (kept_in a.memory.now a.k.at) c.put.result c.kept_of.ensures c.put.ensures
