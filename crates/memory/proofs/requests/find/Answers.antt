use Rattle.std.proofs.Common.{ap, ◌∙◌, subst}
use Rattle.memory.specs.Search.{place_found, FirstIndex}
use Rattle.memory.proofs.RequestSteps.{find_from, find_none, find_hit, find_miss, find_end}
use Rattle.memory.proofs.requests.find.Goals as goal

pub returns-in_err-from : goal.returns-in_err-from
returns-in_err-from c =
    let a = c.args in
    let p = c.requires in
    ap place_found c.from_residual.ensures ∙ find_none a.memory.now a.k.at a.n a.e.name.octets.now p.k_bound a.e.tag c.tag_place.result a.k.below (search)
    a.e.name.fits.0 a.e.tagged p.in_bounds c.tag_place.ensures.0
    (subst (FirstIndex a.memory.now c.tag_place.result a.e.tag) c.in_err-from.was c.first_index.ensures)

pub loop-i-init : goal.loop-i-init
loop-i-init c =
    let a = c.args in
    let p = c.requires in
    find_from a.memory.now a.k.at a.n c.in_ok-from.from.at a.e.name.octets.now p.k_bound a.e.tag c.tag_place.result a.k.below (search)
    a.e.name.fits.0 a.e.tagged p.in_bounds c.tag_place.ensures.0
    (subst (FirstIndex a.memory.now c.tag_place.result a.e.tag) c.in_ok-from.was c.first_index.ensures)

pub loop-i-preserved : goal.loop-i-preserved
loop-i-preserved c =
    let a = c.args in
    let l = c.loop-i in
    find_miss a.memory.now a.k.at a.n l.i a.e.name.octets.now c.requires.k_bound c.asks.result l.invariant c.loop-i-test.true
    c.asks.ensures c.if-asks.false

pub returns-then-asks : goal.returns-then-asks
returns-then-asks c =
    let a = c.args in
    let l = c.loop-i in
    find_hit a.memory.now a.k.at a.n l.i a.e.name.octets.now c.requires.k_bound c.asks.result l.invariant c.loop-i-test.true
    c.asks.ensures c.if-asks.true

pub returns : goal.returns
returns c =
    let a = c.args in
    let l = c.loop-i in
    find_end a.memory.now a.k.at a.n l.i a.e.name.octets.now c.requires.k_bound l.invariant c.loop-i-test.false
