-- A stale link moves to Waiting; else the move is the link as it is.
use Rattle.actions.proofs.MoveLaws.{not_moved}
use Rattle.actions.proofs.PollLaws.{check_still}
use Rattle.rules.specs.Links.{check_move}
use Rattle.table.specs.Slots.{slot_in}
use Rattle.actions.proofs.moves.check.Goals as goal

pub returns-else-is_stale : goal.returns-else-is_stale
returns-else-is_stale c =
    let a = c.args in
    let l = (slot_in a.slots.now a.k.at).link in
    not_moved a.k.at a.slots.now a.memory.now (check_move a.time l) (check_still a.time l c.is_stale.result c.is_stale.ensures c.if-is_stale.false)
