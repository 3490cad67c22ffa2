-- The row of the entry, where it is found, is marked by its number.
use Rattle.memory.specs.Memory.{entry_named}
use Rattle.rules.specs.Updates.{replied}
use Rattle.memory.proofs.EntryLaws.{found_marked, found_absent, entry_by}
use Rattle.memory.proofs.entries.reply_record.Goals as goal

pub returns-in-Some : goal.returns-in-Some
returns-in-Some c =
    let a = c.args in
    let f = c.find in
    let m = c.reply_mark in
    let r = entry_by f.result a.memory.now (replied a.k.at a.number) (entry_named a.name.octets.now) m.new.memory f.ensures
    (found_marked f.result a.memory.now (replied a.k.at a.number) c.in-Some.i m.new.memory c.in-Some.is m.ensures.memory_after) in
    record { memory_after = r.0; kept = r.1 }

pub returns-in_default-clause-memory_after : goal.returns-in_default-clause-memory_after
returns-in_default-clause-memory_after c =
    let a = c.args in
    let f = c.find in
    (entry_by f.result a.memory.now (replied a.k.at a.number) (entry_named a.name.octets.now) a.memory.now f.ensures
    (found_absent f.result a.memory.now (replied a.k.at a.number) c.in_default.is)).0
