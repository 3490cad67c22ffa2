use lib.Bits.{bit_or}
use Rattle.std.proofs.Common.{refl}
use Rattle.memory.proofs.MarkLaws.{marks_more, marks_all}
use Rattle.memory.proofs.marks.any_marks.Goals as goal

pub loop-i-preserved : goal.loop-i-preserved
loop-i-preserved c =
    let l = c.loop-i in
    marks_more c.args.memory.now l.i l.all c.if_used-all.result (bit_or l.all c.if_used-all.result) c.loop-i-test.true
    l.invariant c.if_used-all.ensures refl

pub returns : goal.returns
returns c = marks_all c.args.memory.now c.loop-i.i c.loop-i.all c.loop-i-test.false c.loop-i.invariant
