use Rattle.std.proofs.Common.{arith}
use Rattle.host.proofs.HostLaws.{few_used}
use Rattle.host.proofs.run_in.Goals as goal

pub overflow_cast-result : goal.overflow_cast-result
overflow_cast-result c = record { fits = omega (arith, few_used c.run-a.new.memory c.rows_used.ensures) }
