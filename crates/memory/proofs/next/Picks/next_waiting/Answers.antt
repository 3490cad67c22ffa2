use Rattle.std.proofs.Common.{◌≡◌, ◌+◌, ◌-◌, ◌%◌, sym, refl, ap, ◌∙◌, subst, arith, rules}
use Rattle.memory.proofs.Picking.{picked_none}
use Rattle.memory.specs.Marks.{Picked}
use Rattle.memory.specs.Memory.{rows_in}
use Rattle.rules.specs.Rows.{next}
use Rattle.rules.specs.Server.{waits_for, row_at}
use Rattle.memory.proofs.next.Picks.next_waiting.Goals as goal

pub returns-then-is_marked : goal.returns-then-is_marked
returns-then-is_marked c =
    let a = c.args in
    let s = rows_in a.memory.now in
    let round : a.from + 64 - a.from ≡ 64 = omega arith in
    subst (λ n. Picked a.from (next (λ j. waits_for a.k.at (row_at s (j % 64))) n 4 a.from) c.passing.result) round
    (c.passing.ensures (λ j. waits_for a.k.at (row_at s (j % 64))) (λ j i b h e q.
    let v : b ≡ waits_for a.k.at (row_at s i.at) = search rules in
    v ∙ ap (λ x. waits_for a.k.at (row_at s x)) e))

pub returns : goal.returns
returns c =
    let a = c.args in
    picked_none (rows_in a.memory.now) a.k.at a.from _ _ refl (sym (c.any_marks.ensures a.k.at) ∙ sym c.is_marked.ensures ∙ c.if-is_marked.false)
