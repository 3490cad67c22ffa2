use Rattle.memory.proofs.MarkLaws.{marks_put}
use Rattle.memory.proofs.marks.put_marks.Goals as goal

pub returns : goal.returns
returns c = let a = c.args in marks_put a.memory.now a.i.at a.marks c.args.i.below (search)
