-- The head of three parts, then its checksum.
use Rattle.std.proofs.Common.{arith}
use Rattle.writer.proofs.Heads.{headed}
use Rattle.writer.proofs.put.put_head.Goals as goal

pub returns : goal.returns
returns c =
    let a = c.args in
    headed a.k a.before.now a.common.now a.n (omega arith) c.fixed_part.ensures c.put-fixed.ensures c.put-at.ensures c.put.ensures c.seal.ensures
