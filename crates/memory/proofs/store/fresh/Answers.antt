use Rattle.std.proofs.Common.{length}
use Rattle.memory.proofs.RowSweep.{zeros_filled}
use Rattle.memory.proofs.store.fresh.Goals as goal

pub returns : goal.returns
returns c = zeros_filled (length c.args.memory.now) c.fill.new.self (c.fill.ensures.after (λ y e. e))
