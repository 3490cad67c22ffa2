-- By the row found; with none, nothing changes.
use Rattle.memory.proofs.EntryLaws.{found_marked, found_absent}
use Rattle.rules.specs.Rows.{unmarked}
use Rattle.memory.proofs.entries.equal_record.Goals as goal

pub returns-in-Some-clause-memory_after : goal.returns-in-Some-clause-memory_after
returns-in-Some-clause-memory_after c =
    let a = c.args in
    let m = c.clear_mark in
    (found_marked a.found a.memory.now (unmarked a.k.at) c.in-Some.i m.new.memory c.in-Some.is m.ensures).0

pub returns-in_default-clause-memory_after : goal.returns-in_default-clause-memory_after
returns-in_default-clause-memory_after c =
    let a = c.args in
    (found_absent a.found a.memory.now (unmarked a.k.at) c.in_default.is).0
