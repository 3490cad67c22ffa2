use Rattle.std.proofs.Common.{List, ℕ}
use mathlib.Core.Path.{sym, subst, ◌∙◌}
use Rattle.actions.specs.Parts.{Moves}
use Rattle.actions.proofs.MoveLaws.{moves_entered, moves_still}
use Rattle.actions.proofs.parts.move_link.Goals.{then-enters, else-enters}
use Rattle.actions.proofs.parts.move_link.Goals as goal

pub returns : goal.returns
returns c =
    let a = c.args in
    elim c.if-enters.branch [
      | then-enters w ↦ subst (λ (m : List ℕ). Moves a.k.at a.l a.x a.memory.now m c.moved.result) (sym w.memory-is)
          (moves_entered a.k.at a.l a.x a.memory.now w.clear_slot.new.memory c.moved.result w.empty_lists.new.memory
          (sym c.enters.ensures ∙ w.if-enters.true) w.empty_lists.ensures w.clear_slot.ensures c.moved.ensures)
      | else-enters w ↦ subst (λ (m : List ℕ). Moves a.k.at a.l a.x a.memory.now m c.moved.result) (sym w.memory-is)
          (moves_still a.k.at a.l a.x a.memory.now c.moved.result (sym c.enters.ensures ∙ w.if-enters.false) c.moved.ensures)
    ]
