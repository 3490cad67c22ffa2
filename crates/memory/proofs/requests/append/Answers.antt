use Rattle.memory.proofs.RequestSteps.{then_sized}
use Rattle.std.proofs.Common.{◌+◌}
use Rattle.memory.proofs.requests.append.Goals as goal

pub returns : goal.returns
returns c = then_sized c.put_request.ensures c.set_count.new.memory (c.args.n.at + 1) c.set_count.ensures
