-- The rule is told by the null bit, then by the row that was found or its absence.
use Rattle.std.proofs.Common.{sym, ap, ◌∙◌}
use Rattle.records.proofs.StandingLaws.{rule_held, rule_absent}
use Rattle.memory.specs.Search.{place_found}
use Rattle.records.specs.Walks.{update_rule_of}
use Rattle.records.proofs.standing.update_rule.Goals as goal

pub returns-in-Some : goal.returns-in-Some
returns-in-Some c =
    let x = c.args in
    λ v a n f. rule_held x.memory.now v (sym a ∙ c.if-null.false) (update_rule_of c.held_rule.result) x.number n c.in-Some.i.at
    c.number_of.result (sym f ∙ ap place_found c.in-Some.is) c.number_of.ensures c.held_rule.ensures

pub returns-in-None : goal.returns-in-None
returns-in-None c =
    let x = c.args in
    λ v a n f. rule_absent x.memory.now v (sym a ∙ c.if-null.false) (update_rule_of c.absent_rule.result) x.number n
    (sym f ∙ ap place_found c.in-None.is) c.absent_rule.ensures
