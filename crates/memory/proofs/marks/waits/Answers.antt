use Rattle.std.proofs.Common.{eq-eqb, ap, ◌∙◌, not}
use Rattle.memory.proofs.MarkLaws.{waits_none, waits_marked}
use Rattle.memory.proofs.marks.waits.Goals as goal

pub returns-then-memory-i-ne0 : goal.returns-then-memory-i-ne0
returns-then-memory-i-ne0 c = c.is_marked.ensures ∙ waits_marked c.args.memory.now c.args.i.at c.args.i.below c.args.k.at c.if-memory-i-ne0.true

pub returns-else-memory-i-ne0 : goal.returns-else-memory-i-ne0
returns-else-memory-i-ne0 c =
    let a = c.args in
    ap not (eq-eqb _ 0 c.if-memory-i-ne0.false) ∙ waits_none a.memory.now a.i.at a.i.below a.k.at c.if-memory-i-ne0.false
