-- Each rule leaves the rows that its definition says; three leave them as they are.
use Rattle.records.proofs.UpdateLaws.{rows_left, rows_equal, rows_older}
use Rattle.records.specs.Views.{record_shown}
use Rattle.memory.specs.Memory.{is_marked}
use Rattle.rules.specs.Requests.{entry_of}
use Rattle.records.proofs.updates.rows_by.Goals as goal

pub returns-in-Null : goal.returns-in-Null
returns-in-Null c =
    let a = c.args in rows_left a.rule (is_marked a.live) a.k.at (record_shown a.v) a.memory.now c.in-Null.is

pub returns-in-Equal : goal.returns-in-Equal
returns-in-Equal c =
    let a = c.args in
    let v = record_shown a.v in
    let s = c.equal_record in
    rows_equal a.rule (is_marked a.live) a.k.at v a.memory.now s.new.memory c.in-Equal.is
    (s.ensures.memory_after (entry_of v) c.requires)

pub returns-in-Older : goal.returns-in-Older
returns-in-Older c =
    let a = c.args in
    let v = record_shown a.v in
    let s = c.older_record in
    rows_older a.rule (is_marked a.live) a.k.at v a.memory.now s.new.memory c.in-Older.is
    (s.ensures.memory_after (entry_of v) c.requires)
