-- The row's marks with one bit cleared are its marks without the slot.
use Rattle.std.proofs.Common.{false, refl, ◌∙◌}
use Rattle.protocol.specs.Fields.{octet}
use Rattle.memory.specs.Layout.{mark_place}
use Rattle.memory.specs.Memory.{is_marked}
use Rattle.rules.specs.Rows.{unmarked}
use Rattle.memory.specs.Marks.{with_marks}
use Rattle.memory.proofs.MarkLaws.{changed_as, marks_on, row_unmarked}
use Rattle.memory.proofs.marks.clear_mark.Goals as goal

pub returns : goal.returns
returns c =
    let a = c.args in
    let s = a.memory.now in
    let h = c.args.i.below in
    let r = c.without_mark-b.result in
    c.put_marks.ensures ∙ changed_as (with_marks (is_marked r)) (unmarked a.k.at) s a.i.at
    (marks_on s a.i.at h a.k.at (octet s (mark_place a.i.at)) r false refl c.without_mark-b.ensures ∙ row_unmarked s a.i.at h a.k.at)
