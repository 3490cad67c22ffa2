use Rattle.std.proofs.Common.{sym, ◌∙◌}
use Rattle.memory.specs.Memory.{entry_named}
use Rattle.memory.proofs.TakenIn.{taken_none, taken_joins}
use Rattle.memory.proofs.summaries.take_in.Goals as goal

pub returns-then-is_up_to_date : goal.returns-then-is_up_to_date
returns-then-is_up_to_date c =
    let a = c.args in
    taken_none a.memory.now a.k.at (entry_named a.name.octets.now) a.number a.missed (sym c.is_up_to_date.ensures ∙ c.if-is_up_to_date.true)

pub returns : goal.returns
returns c =
    let a = c.args in
    let j = c.join in
    taken_joins a.memory.now a.k.at (entry_named a.name.octets.now) a.number a.missed j.new.memory j.result
    (sym c.is_up_to_date.ensures ∙ c.if-is_up_to_date.false) j.ensures
