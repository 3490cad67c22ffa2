use Rattle.std.proofs.Common.{not, eqb, drop, ap, ◌∙◌}
use Rattle.std.specs.List.{list_any}
use Rattle.memory.proofs.Picking.{used_after}
use Rattle.memory.proofs.next.used_from.Goals as goal

pub returns : goal.returns
returns c =
    let a = c.args in
    c.some_after.ensures ∙ ap (λ l. list_any (λ x. not (eqb x 0)) (drop a.from l)) c.lengths.ensures ∙ used_after a.memory.now c.told-memory a.from
