-- Past the last row or slot nothing waits.
use Rattle.std.proofs.Common.{rules, ◌≡◌, arith}
use Rattle.memory.specs.Layout.{mark_place}
use Rattle.server.proofs.CodeLaws.{above}
use Rattle.server.proofs.QueryLaws.{waits_row, waits_slot}
use Rattle.server.proofs.queries.waits.Goals as goal

pub returns-in_default : goal.returns-in_default
returns-in_default c = waits_row c.args.memory.now c.args.row c.args.slot (above c.new.result c.new.ensures.some c.in_default.is)

pub returns-in_default-new : goal.returns-in_default-new
returns-in_default-new c =
    let a = c.args in
    let i = c.in-Some.i in
    let q : i.at ≡ a.row = search rules in
    waits_slot a.memory.now a.row a.slot (omega (arith, i.below, q)) (above c.new-2.result c.new-2.ensures.some c.in_default-new.is)
    (c.fits-memory (mark_place a.row))
