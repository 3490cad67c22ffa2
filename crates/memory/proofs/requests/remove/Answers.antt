use Rattle.std.proofs.Common.{sym, ap, ◌∙◌, arith}
use Rattle.rules.specs.Requests.{asks}
use Rattle.memory.specs.Lists.{goes, no_request}
use Rattle.memory.specs.Memory.{entry_named, requests_in}
use Rattle.memory.specs.Search.{place_found}
use Rattle.memory.proofs.RequestLists.{placed}
use Rattle.memory.proofs.RequestRemovals.{removing_none, removing_more, remove_end, remove_nothing, remove_absent}
use Rattle.memory.proofs.requests.remove.Goals as goal

pub loop-i-init : goal.loop-i-init
loop-i-init c =
    let a = c.args in
    let e = entry_named a.name.octets.now in
    let i = c.in-Some.first in
    let f = placed (asks e) no_request (requests_in a.memory.now a.k.at) i.at (sym (ap place_found c.in-Some.is) ∙ c.find.ensures) in
    removing_none a.k.at a.up_to e i.at a.memory.now a.k.below (omega (arith, f.below)) f.before

pub loop-i-preserved : goal.loop-i-preserved
loop-i-preserved c =
    let a = c.args in
    let l = c.loop-i in
    let q = c.remove_one-w in
    removing_more a.k.at (goes a.up_to (entry_named a.name.octets.now)) l.i l.w q.result
    a.memory.now l.memory q.new.memory (omega (arith, c.count-n.ensures, c.loop-i-test.true)) l.invariant q.ensures

pub returns-then-w-n : goal.returns-then-w-n
returns-then-w-n c =
    let a = c.args in
    let l = c.loop-i in
    let n = c.count-n in
    let e = entry_named a.name.octets.now in
    let f = placed (asks e) no_request (requests_in a.memory.now a.k.at) c.in-Some.first.at (sym (ap place_found c.in-Some.is) ∙ c.find.ensures) in
    let r = remove_end a.k.at (goes a.up_to e) n.result l.i l.w a.memory.now l.memory a.k.below
    n.ensures.0 n.ensures.1 (omega (arith, f.below, n.ensures.0, l.auto.i-end, c.loop-i-test.false)) l.invariant c.set_count.new.memory
    c.if-w-n.true c.set_count.ensures in
    record { memory_after = r.0; kept = r.1 }

pub returns-else-w-n : goal.returns-else-w-n
returns-else-w-n c =
    let a = c.args in
    let l = c.loop-i in
    let n = c.count-n in
    let e = entry_named a.name.octets.now in
    let f = placed (asks e) no_request (requests_in a.memory.now a.k.at) c.in-Some.first.at (sym (ap place_found c.in-Some.is) ∙ c.find.ensures) in
    let r = remove_nothing a.k.at (goes a.up_to e) n.result l.i l.w a.memory.now l.memory a.k.below
    n.ensures.0 n.ensures.1 (omega (arith, f.below, n.ensures.0, l.auto.i-end, c.loop-i-test.false)) l.invariant c.if-w-n.false in
    record { memory_after = r.0; kept = r.1 }

pub returns-in_default-clause-memory_after : goal.returns-in_default-clause-memory_after
returns-in_default-clause-memory_after c =
    let a = c.args in
    remove_absent a.k.at a.up_to (entry_named a.name.octets.now) c.count-n.result a.memory.now a.k.below c.count-n.ensures.0 c.count-n.ensures.1
    (sym (ap place_found c.in_default.is) ∙ c.find.ensures)
