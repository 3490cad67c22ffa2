-- Rows and requests first, the reply's head behind its records, then the alignment's word.
use Rattle.std.proofs.Common.{ap, ◌∙◌}
use Rattle.actions.proofs.UpdateLaws.{request_taken}
use Rattle.actions.specs.Steps.{common_of}
use Rattle.memory.specs.Memory.{is_marked}
use Rattle.records.specs.Views.{records_left}
use Rattle.actions.proofs.updates.take_request.Goals as goal

pub returns : goal.returns
returns c =
    let a = c.args in
    let u = c.update_all-to in
    let w = c.write_csu-n in
    let m = c.common in
    let d = c.put_completed in
    request_taken (is_marked a.live) a.k.at (records_left a.records) a.memory.now u.new.memory u.ensures.updates_all a.s a.slots.now
    d.new.slots m.result u.result a.out.now u.new.out w.new.out w.result c.args.k.below c.requires
    (m.ensures ∙ ap (common_of a.s) c.peer_at-peer.ensures) u.ensures.replies w.ensures d.ensures
