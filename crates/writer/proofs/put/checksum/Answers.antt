-- The folded sum is a field of two octets.
use Rattle.std.proofs.Common.{arith}
use Rattle.protocol.proofs.Folds.{sum_fits}
use Rattle.writer.proofs.put.checksum.Goals as goal

pub overflow_sub-result : goal.overflow_sub-result
overflow_sub-result c = omega (arith, c.ones_sum.ensures, sum_fits c.args.p.now (λ i. (c.type_inv.p i).fits) c.requires)
