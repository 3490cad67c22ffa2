use Rattle.memory.proofs.RowLoops.{changed_none, changed_more, changed_all}
use Rattle.rules.specs.Rows.{unmarked}
use Rattle.memory.proofs.marks.clear_slot.Goals as goal

pub loop-at-init : goal.loop-at-init
loop-at-init c = changed_none (unmarked c.args.k.at) c.args.memory.now

pub loop-at-preserved : goal.loop-at-preserved
loop-at-preserved c =
    let l = c.loop-at in
    changed_more (unmarked c.args.k.at) c.args.memory.now l.memory l.at l.invariant c.clear_mark.new.memory c.loop-at-test.true
    c.clear_mark.ensures

pub returns : goal.returns
returns c =
    let l = c.loop-at in
    changed_all (unmarked c.args.k.at) c.args.memory.now l.memory l.at l.invariant c.loop-at-test.false
