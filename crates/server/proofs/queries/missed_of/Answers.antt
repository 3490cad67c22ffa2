use Rattle.std.proofs.Common.{ap}
use Rattle.rules.specs.Server as rules
use Rattle.server.proofs.queries.missed_of.Goals as goal

pub returns : goal.returns
returns c s m = ap (λ (x : rules.Slot). x.missed) (c.slot_of.ensures s m)
