-- So far the octet has the marks of the rows before i.
use Rattle.memory.proofs.MarkLaws.{MarksTo}
use Rattle.memory.proofs.marks.any_marks.Given as goal

abbrev pub invariant-loop-i : goal.invariant-loop-i
invariant-loop-i l = MarksTo l.memory l.i l.all
