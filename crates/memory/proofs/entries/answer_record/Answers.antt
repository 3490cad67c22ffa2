-- By the row found; with none, nothing changes.
use Rattle.memory.proofs.EntryLaws.{found_marked, found_absent}
use Rattle.rules.specs.Updates.{answer_waits}
use Rattle.memory.proofs.entries.answer_record.Goals as goal

pub returns-in-Some-clause-memory_after : goal.returns-in-Some-clause-memory_after
returns-in-Some-clause-memory_after c =
    let a = c.args in
    let m = c.answer_mark in
    (found_marked a.found a.memory.now (answer_waits a.k.at a.number) c.in-Some.i m.new.memory c.in-Some.is m.ensures.memory_after).0

pub returns-in_default-clause-memory_after : goal.returns-in_default-clause-memory_after
returns-in_default-clause-memory_after c =
    let a = c.args in
    (found_absent a.found a.memory.now (answer_waits a.k.at a.number) c.in_default.is).0
