-- The row that was found changes; where none was, no octet does.
use Rattle.std.proofs.Common.{[]}
use Rattle.memory.proofs.EntryLaws.{found_changed, found_absent}
use Rattle.memory.specs.Memory.{is_marked}
use Rattle.rules.specs.Updates.{changed_row}
use Rattle.memory.proofs.entries.withdraw_entry.Goals as goal

pub returns-in-Some-clause-memory_after : goal.returns-in-Some-clause-memory_after
returns-in-Some-clause-memory_after c =
    let a = c.args in
    let m = c.change_row in
    (found_changed a.found a.memory.now (changed_row (is_marked a.live) []) c.in-Some.i m.new.memory c.in-Some.is m.ensures).0

pub returns-in_default-clause-memory_after : goal.returns-in_default-clause-memory_after
returns-in_default-clause-memory_after c =
    let a = c.args in
    (found_absent a.found a.memory.now (changed_row (is_marked a.live) []) c.in_default.is).0
