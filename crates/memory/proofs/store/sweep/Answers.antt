use Rattle.std.proofs.Common.{arith}
use Rattle.rules.specs.Rows.{swept_row}
use Rattle.memory.proofs.MarkLaws.{as_changed}
use Rattle.memory.proofs.RowLoops.{changed_more, changed_all}
use Rattle.memory.proofs.RowSweep.{swept_first}
use Rattle.memory.proofs.store.sweep.Goals as goal

pub loop-at-init : goal.loop-at-init
loop-at-init c =
    swept_first c.args.memory.now c.in-Some.first.at (λ j a b. c.in-Some.ensures j a)

pub loop-at-preserved : goal.loop-at-preserved
loop-at-preserved c =
    let a = c.args.memory.now in
    let l = c.loop-at in
    let q = c.sweep_row in
    let h = c.loop-at-test.true in
    changed_more swept_row a l.memory l.at l.invariant q.new.memory h (as_changed swept_row l.memory q.new.memory l.at h q.ensures)

pub returns-after-loop-at : goal.returns-after-loop-at
returns-after-loop-at c =
    changed_all swept_row c.args.memory.now c.loop-at.memory c.loop-at.at c.loop-at.invariant c.loop-at-test.false

pub returns-in_default : goal.returns-in_default
returns-in_default c =
    let s = c.args.memory.now in
    changed_all swept_row s s 64 (swept_first s 64 (λ j a b. c.in_default.ensures j a)) (omega arith)
