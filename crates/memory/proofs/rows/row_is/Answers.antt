-- Another tag, a free row and another name each mean that the row does not hold the entry; else it does.
use Rattle.std.proofs.Common.{sym, ap, ◌∙◌, eqb-true}
use Rattle.laws.specs.Tables.{same}
use Rattle.memory.proofs.RowPlaces.{held_by_name, other_tag, not_held}
use Rattle.memory.proofs.rows.row_is.Goals as goal
use Rattle.memory.proofs.rows.row_is.Goals.{then-memory-i, else-memory-i}

pub returns-then-is_used : goal.returns-then-is_used
returns-then-is_used c =
    let a = c.args in
    c.same.ensures ∙ ap (λ n. same n a.name.now) c.name_of.ensures ∙
    (elim c.if-memory-i.branch [
      | then-memory-i w ↦ held_by_name a.memory.now a.i.at c.told-memory a.i.below a.name.now c.requires.0 (w.if-memory-i.true ∙ c.requires.1)
          (sym w.is_used.ensures ∙ sym w.value-is ∙ c.if-is_used.true)
      | else-memory-i w ↦ absurd (w.if-memory-i.false (eqb-true _ a.t (sym w.value-is ∙ c.if-is_used.true)))
    ])

pub returns-else-is_used : goal.returns-else-is_used
returns-else-is_used c =
    let a = c.args in
    c.if-is_used.false ∙ sym
    (elim c.if-memory-i.branch [
      | then-memory-i w ↦ not_held a.memory.now a.i.at a.name.now (sym w.is_used.ensures ∙ sym w.value-is ∙ c.if-is_used.false)
      | else-memory-i w ↦ other_tag a.memory.now a.i.at c.told-memory a.i.below a.name.now c.requires.0 (λ e. w.if-memory-i.false (e ∙ sym c.requires.1))
    ])
