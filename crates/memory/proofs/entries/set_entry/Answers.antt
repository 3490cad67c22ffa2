-- The row that was found gets the next number; where none was, a new one is inserted.
use Rattle.std.proofs.Common.{sym, ap, ◌∙◌}
use Rattle.memory.proofs.EntryLaws.{entry_held, entry_new}
use Rattle.memory.specs.Memory.{entry_named, is_marked}
use Rattle.memory.specs.Search.{place_found}
use Rattle.rules.specs.Updates.{changed_row, new_row}
use Rattle.memory.proofs.entries.set_entry.Goals as goal

pub returns-in-Some : goal.returns-in-Some
returns-in-Some c =
    let a = c.args in
    entry_held (entry_named a.name.octets.now) a.memory.now c.in-Some.i.at (sym c.requires ∙ ap place_found c.in-Some.is) (changed_row (is_marked a.live) a.payload.octets.now)
    c.change_row.new.memory (new_row (is_marked a.live) (entry_named a.name.octets.now) a.payload.octets.now) c.change_row.ensures

pub returns-in-None : goal.returns-in-None
returns-in-None c =
    let a = c.args in
    entry_new (entry_named a.name.octets.now) a.memory.now (sym c.requires ∙ ap place_found c.in-None.is)
    (changed_row (is_marked a.live) a.payload.octets.now) c.insert.new.memory
    (new_row (is_marked a.live) (entry_named a.name.octets.now) a.payload.octets.now) c.insert.ensures.rows
