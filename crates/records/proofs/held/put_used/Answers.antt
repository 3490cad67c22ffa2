use Rattle.records.proofs.HeldLaws.{row_put_lem, row_passed}
use Rattle.records.proofs.held.put_used.Goals as goal

pub returns-then-is_used : goal.returns-then-is_used
returns-then-is_used c =
    let a = c.args in
    let q = c.put_as-next in
    row_put_lem a.shape a.memory.now a.i.at a.to a.out.now c.is_used.result c.is_used.ensures q.new.out q.result _
    c.if-is_used.true q.ensures

pub returns : goal.returns
returns c =
    let a = c.args in
    row_passed a.shape a.memory.now a.i.at a.to a.out.now c.is_used.result c.is_used.ensures c.if-is_used.false
