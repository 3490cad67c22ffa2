-- A greater number is put in the entry's room; any other leaves the memory.
use Rattle.memory.specs.Memory.{entry_named}
use Rattle.memory.proofs.RequestSteps.{raise_done, raise_not}
use Rattle.memory.proofs.requests.raise.Goals as goal

pub returns-then-newer : goal.returns-then-newer
returns-then-newer c =
    let a = c.args in
    raise_done a.memory.now c.put_request.new.memory a.k.at a.i.at (entry_named a.e.name.octets.now) a.number
    c.number_at.result c.newer.result c.args.i.below c.number_at.ensures c.newer.ensures
    c.if-newer.true c.requires c.put_request.ensures

pub returns-else-newer : goal.returns-else-newer
returns-else-newer c =
    let a = c.args in
    raise_not a.memory.now a.memory.now a.k.at a.i.at (entry_named a.e.name.octets.now) a.number c.number_at.result
    c.newer.result c.args.i.below c.number_at.ensures c.args.k.below c.newer.ensures c.if-newer.false
