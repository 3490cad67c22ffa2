-- The cursor and the time are put, then the count, one more than it was.
use Rattle.std.proofs.Common.{ℕ, ◌%◌, ap, ◌∙◌}
use Rattle.protocol.specs.Numbers.{one_more}
use Rattle.rules.specs.Slots.{with_cursor, with_updates, update_sent, update_counted}
use Rattle.slots.specs.State.{slot_of}
use Rattle.table.specs.Slots.{slot_in}
use Rattle.table.proofs.TableLaws.{changes_then, changes_as}
use Rattle.actions.proofs.poll.put_update.Goals as goal

pub returns : goal.returns
returns c =
    let a = c.args in
    let sent = c.put_update_sent.new.t in
    let counted = c.put_updates.new.t in
    changes_then a.k.at (λ x. update_sent a.time (with_cursor (a.picks.next % 64) x)) update_counted a.slots.now sent counted
    (changes_then a.k.at (with_cursor (a.picks.next % 64)) (update_sent a.time) a.slots.now c.put_cursor.new.t sent
    c.put_cursor.ensures c.put_update_sent.ensures)
    (changes_as a.k.at (with_updates c.one_more.result) update_counted sent counted
    (λ qs kept. ap (λ (m : ℕ). with_updates m (slot_of (slot_in sent a.k.at) qs kept))
    (c.one_more.ensures ∙ ap one_more c.updates_at.ensures))
    c.put_updates.ensures)
