-- Past the last slot it is as a fresh one.
use Rattle.std.proofs.Common.{rules, ◌≡◌}
use Rattle.server.proofs.CodeLaws.{above}
use Rattle.server.proofs.QueryLaws.{shows_slot, shows_fresh}
use Rattle.server.proofs.queries.slot_of.Goals as goal

pub returns-in-Some : goal.returns-in-Some
returns-in-Some c s m =
    let a = c.args in
    let k = c.in-Some.k in
    let q : k.at ≡ a.slot = search rules in
    shows_slot s a.slots.now m k a.slot q c.slot_at.result c.slot_at.ensures

pub returns-in-None : goal.returns-in-None
returns-in-None c s m =
    shows_fresh s c.args.slots.now m c.args.slot c.fresh_slot.result (above c.new.result c.new.ensures.some c.in-None.is) c.fresh_slot.ensures
