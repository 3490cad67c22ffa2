-- The row that was found gets the value; where none was, a new one is inserted.
use Rattle.std.proofs.Common.{sym, ap, ◌∙◌}
use Rattle.memory.proofs.EntryLaws.{entry_held, entry_new}
use Rattle.memory.specs.Search.{place_found, revalued}
use Rattle.memory.specs.Memory.{entry_named, is_marked}
use Rattle.rules.specs.Updates.{value}
use Rattle.rules.specs.Server.{used}
use Rattle.memory.proofs.entries.put_entry.Goals as goal

pub returns-in-Some : goal.returns-in-Some
returns-in-Some c =
    let a = c.args in
    let v = value a.v.number a.v.payload.octets.now a.v.remaining in
    entry_held (entry_named a.name.octets.now) a.memory.now c.in-Some.i.at (sym c.requires ∙ ap place_found c.in-Some.is) (revalued v (is_marked a.v.marks))
    c.put_value.new.memory (used (entry_named a.name.octets.now) v (is_marked a.v.marks)) c.put_value.ensures.memory_after

pub returns-in-None : goal.returns-in-None
returns-in-None c =
    let a = c.args in
    let v = value a.v.number a.v.payload.octets.now a.v.remaining in
    entry_new (entry_named a.name.octets.now) a.memory.now (sym c.requires ∙ ap place_found c.in-None.is) (revalued v (is_marked a.v.marks))
    c.insert.new.memory (used (entry_named a.name.octets.now) v (is_marked a.v.marks)) c.insert.ensures.rows
