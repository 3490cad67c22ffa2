-- The request that was found is raised; else one is appended where there is room.
use Rattle.std.proofs.Common.{sym, ap, ◌∙◌}
use Rattle.memory.proofs.RequestSteps.{join_asks, join_found, join_new, join_full}
use Rattle.memory.specs.Memory.{entry_named}
use Rattle.memory.specs.Search.{place_found}
use Rattle.memory.proofs.requests.join.Goals as goal

pub raise-requires : goal.raise-requires
raise-requires c =
    let a = c.args in
    let n = c.count-n in
    join_asks a.memory.now a.k.at a.k.below (entry_named a.name.octets.now) a.number a.missed n.result n.ensures.0 c.in-Some.i.at
    (sym (ap place_found c.in-Some.is) ∙ c.find.ensures)

pub returns-in-Some : goal.returns-in-Some
returns-in-Some c =
    let a = c.args in
    let n = c.count-n in
    join_found a.memory.now a.k.at a.k.below (entry_named a.name.octets.now) a.number a.missed n.result n.ensures.0 c.in-Some.i.at
    (sym (ap place_found c.in-Some.is) ∙ c.find.ensures) c.raise.new.memory c.raise.ensures

pub returns-then-n-lt-REQUESTS : goal.returns-then-n-lt-REQUESTS
returns-then-n-lt-REQUESTS c =
    let a = c.args in
    let n = c.count-n in
    join_new a.memory.now a.k.at a.k.below (entry_named a.name.octets.now) a.number a.missed n.result n.ensures.0 c.append.new.memory
    (sym (ap place_found c.in_default.is) ∙ c.find.ensures) c.if-n-lt-REQUESTS.true c.append.ensures

pub returns : goal.returns
returns c =
    let a = c.args in
    let n = c.count-n in
    join_full a.memory.now a.k.at a.k.below (entry_named a.name.octets.now) a.number a.missed n.result n.ensures.0 c.one_more.result
    (sym (ap place_found c.in_default.is) ∙ c.find.ensures) c.if-n-lt-REQUESTS.false c.one_more.ensures
