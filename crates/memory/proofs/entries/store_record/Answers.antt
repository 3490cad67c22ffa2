use Rattle.memory.proofs.EntryLaws.{stored_as}
use Rattle.memory.specs.Memory.{entry_named, is_marked}
use Rattle.memory.proofs.entries.store_record.Goals as goal

pub returns : goal.returns
returns c =
    let a = c.args in
    stored_as a.memory.now c.put_entry.new.memory (entry_named a.name.octets.now) a.number a.payload.octets.now a.hops
    c.saturating_sub-remaining.result c.spread_of-marks.result a.k.at (is_marked a.live) c.saturating_sub-remaining.ensures
    c.spread_of-marks.ensures c.put_entry.ensures
