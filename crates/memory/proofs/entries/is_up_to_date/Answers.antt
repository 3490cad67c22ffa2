-- By the row found: its number against the one given; without a row, not up to date.
use Rattle.std.proofs.Common.{rules}
use Rattle.memory.specs.Memory.{entry_named}
use Rattle.memory.proofs.EntryLaws.{up_by}
use Rattle.memory.proofs.entries.is_up_to_date.Goals as goal

pub returns : goal.returns
returns c =
    let a = c.args in
    up_by (entry_named a.name.octets.now) a.memory.now a.number c.is_some_and.result c.find.result c.find.ensures (search rules)
