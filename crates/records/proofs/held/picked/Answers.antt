use Rattle.std.proofs.Common.{ℕ, ◌≤◌, List, length, subst, ap, arith}
use lib.ListN.{length-take}
use Rattle.memory.specs.Memory.{rows_in}
use Rattle.rules.specs.Rows.{rows_of}
use Rattle.records.specs.Places.{Places, shape_of, most_of}
use Rattle.records.proofs.HeldLaws.{holding_none, holding_all, holding_room, holding_more}
use Rattle.records.proofs.held.picked.Goals as goal

pub loop-place-init : goal.loop-place-init
loop-place-init c = let a = c.args in holding_none a.memory.now c.places-place-items.result.now a.shape a.at a.out.now c.none-to.result c.none-to.ensures

pub put_used-to-requires : goal.put_used-to-requires
put_used-to-requires c =
    let a = c.args in
    let l = c.loop-place in
    let p = c.places-place-items in
    let four : length p.result.now ≤ 4 = omega (arith, ap length p.ensures, length-take a.p.count a.p.rows) in
    holding_room a.memory.now p.result.now a.shape a.at a.out.now l.out l.to l.place-index l.invariant four
    c.loop-place-test.true c.requires

pub loop-place-preserved : goal.loop-place-preserved
loop-place-preserved c =
    let a = c.args in
    let l = c.loop-place in
    let p = c.places-place-items in
    let q = c.put_used-to in
    let four : length p.result.now ≤ 4 = omega (arith, ap length p.ensures, length-take a.p.count a.p.rows) in
    holding_more a.memory.now p.result.now a.shape a.at a.out.now l.out l.to l.place-index l.invariant four
    c.loop-place-test.true c.requires q.new.out q.result q.auto.out q.ensures

pub returns : goal.returns
returns c =
    let a = c.args in
    let l = c.loop-place in
    let p = c.places-place-items in
    let four : length p.result.now ≤ 4 = omega (arith, ap length p.ensures, length-take a.p.count a.p.rows) in
    subst (λ (js : List ℕ). Places (most_of a.shape) (rows_of (shape_of a.shape) (rows_in a.memory.now) js) a.at a.out.now l.out l.to)
    p.ensures
    (holding_all a.memory.now p.result.now a.shape a.at a.out.now l.out l.to l.place-index l.invariant four c.loop-place-test.false)
