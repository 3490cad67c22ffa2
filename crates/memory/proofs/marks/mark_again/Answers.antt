-- With no hops left nothing changes, which is what the rule says of such a row; else the mark is set.
use Rattle.std.proofs.Common.{◌≡◌, sym, ◌∙◌}
use Rattle.memory.specs.Memory.{value_at}
use Rattle.rules.specs.Updates.{waits_again}
use Rattle.memory.specs.Marks.{marked}
use Rattle.memory.proofs.MarkLaws.{changed_as, changed_not, again_not, again_so}
use Rattle.memory.proofs.marks.mark_again.Goals as goal

pub returns-then-remaining_of-eq0-clause-memory_after : goal.returns-then-remaining_of-eq0-clause-memory_after
returns-then-remaining_of-eq0-clause-memory_after c =
    let a = c.args in
    let s = a.memory.now in
    changed_not (waits_again a.k.at) s a.i.at (again_not s a.i.at c.args.i.below a.k.at (sym c.remaining_of.ensures ∙ c.if-remaining_of-eq0.true))

pub returns-clause-memory_after : goal.returns-clause-memory_after
returns-clause-memory_after c =
    let a = c.args in
    let s = a.memory.now in
    let some : (value_at s a.i.at).remaining ≡ 0 → ⊥ = λ z. c.if-remaining_of-eq0.false (c.remaining_of.ensures ∙ z) in
    c.set_mark.ensures ∙ changed_as (marked a.k.at) (waits_again a.k.at) s a.i.at (again_so s a.i.at c.args.i.below a.k.at some)
