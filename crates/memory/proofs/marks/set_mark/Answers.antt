-- The row's marks with one bit set are its marks with the slot.
use Rattle.std.proofs.Common.{true, refl, ◌∙◌}
use Rattle.protocol.specs.Fields.{octet}
use Rattle.memory.specs.Layout.{mark_place}
use Rattle.memory.specs.Memory.{is_marked}
use Rattle.memory.specs.Marks.{with_marks, marked}
use Rattle.memory.proofs.MarkLaws.{changed_as, marks_on, row_marked}
use Rattle.memory.proofs.marks.set_mark.Goals as goal

pub returns : goal.returns
returns c =
    let a = c.args in
    let s = a.memory.now in
    let h = c.args.i.below in
    let r = c.with_mark-b.result in
    c.put_marks.ensures ∙ changed_as (with_marks (is_marked r)) (marked a.k.at) s a.i.at
    (marks_on s a.i.at h a.k.at (octet s (mark_place a.i.at)) r true refl c.with_mark-b.ensures ∙ row_marked s a.i.at h a.k.at)
