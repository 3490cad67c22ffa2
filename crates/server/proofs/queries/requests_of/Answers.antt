-- A slot above the last has no requests.
use Rattle.std.proofs.Common.{rules, ◌≡◌}
use Rattle.server.proofs.CodeLaws.{above}
use Rattle.server.proofs.QueryLaws.{requests_below, requests_above}
use Rattle.server.proofs.queries.requests_of.Goals as goal

pub returns-in-Some : goal.returns-in-Some
returns-in-Some c s slots =
    let a = c.args in
    let k = c.in-Some.k in
    let q : k.at ≡ a.slot = search rules in
    requests_below s slots a.memory.now k a.slot q c.count.result c.count.ensures.0

pub returns-in-None : goal.returns-in-None
returns-in-None c s slots = requests_above s slots c.args.memory.now c.args.slot (above c.new.result c.new.ensures.some c.in-None.is)
