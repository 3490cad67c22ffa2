use Rattle.records.proofs.AskedLaws.{asking_none, asking_all, asking_room, asking_more}
use Rattle.records.proofs.asked.first_requests.Goals as goal

pub loop-i-init : goal.loop-i-init
loop-i-init c = let a = c.args in asking_none a.memory.now a.k.at c.min-count.result a.out.now

pub put_request-next-requires : goal.put_request-next-requires
put_request-next-requires c =
    let a = c.args in
    let l = c.loop-i in
    let m = c.min-count in
    let n = c.count in
    asking_room a.memory.now a.k.at m.result a.out.now n.result n.ensures.0 m.ensures l.out l.next l.i l.invariant
    c.loop-i-test.true c.requires

pub loop-i-preserved : goal.loop-i-preserved
loop-i-preserved c =
    let a = c.args in
    let l = c.loop-i in
    let m = c.min-count in
    let n = c.count in
    let q = c.put_request-next in
    asking_more a.memory.now a.k.at m.result a.out.now n.result n.ensures.0 m.ensures l.out l.next l.i l.invariant
    c.loop-i-test.true c.requires q.new.out q.result q.auto.out q.ensures

pub returns : goal.returns
returns c =
    let a = c.args in
    let l = c.loop-i in
    let m = c.min-count in
    let n = c.count in
    asking_all a.memory.now a.k.at m.result a.out.now n.result n.ensures.0 m.ensures l.out l.next l.i l.invariant _
    c.loop-i-test.false
