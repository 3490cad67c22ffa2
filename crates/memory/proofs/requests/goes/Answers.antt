-- A request of another entry stays; one of this goes where no number is given, or its number is no greater.
use Rattle.std.proofs.Common.{sym, ◌∙◌}
use Rattle.memory.specs.Memory.{entry_named}
use Rattle.memory.proofs.RequestSteps.{goes_by, goes_not}
use Rattle.memory.proofs.requests.goes.Goals as goal

pub returns-then-not-asks : goal.returns-then-not-asks
returns-then-not-asks c =
    let a = c.args in
    sym (goes_not a.up_to (entry_named a.e.name.octets.now) _ (sym c.asks.ensures ∙ c.if-not-asks.true))

pub returns-in-Some : goal.returns-in-Some
returns-in-Some c =
    let a = c.args in
    goes_by a.memory.now a.memory.now a.k.at a.i.at (entry_named a.e.name.octets.now) c.in-Some.most c.number_at.result c.newer.result
    a.i.below c.number_at.ensures a.up_to c.asks.result c.asks.ensures c.if-not-asks.false c.in-Some.is c.newer.ensures
