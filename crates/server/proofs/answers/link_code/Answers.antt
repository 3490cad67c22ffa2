-- The refusals in their order: no peer in the slot, an earlier time.
use Rattle.std.proofs.Common.{rules, ◌≡◌, sym, ◌∙◌}
use Rattle.server.proofs.CodeLaws.{code_unused, code_early, code_none}
use Rattle.server.proofs.answers.link_code.Goals as goal

pub returns-then-not-used_at-clause-code : goal.returns-then-not-used_at-clause-code
returns-then-not-used_at-clause-code c = λ m.
    let a = c.args in
    let k = c.in_ok-k.k in
    let q : k.at ≡ a.slot = search rules in
    code_unused a.s a.slots.now k a.slot a.time q m (sym c.used_at.ensures ∙ c.if-not-used_at.true)

pub returns-then-time-s-clause-code : goal.returns-then-time-s-clause-code
returns-then-time-s-clause-code c = λ m.
    let a = c.args in
    let k = c.in_ok-k.k in
    let q : k.at ≡ a.slot = search rules in
    code_early a.s a.slots.now k a.slot a.time q m (sym c.used_at.ensures ∙ c.if-not-used_at.false) c.if-time-s.true

pub returns-clause-code : goal.returns-clause-code
returns-clause-code c = λ m.
    let a = c.args in
    let k = c.in_ok-k.k in
    let q : k.at ≡ a.slot = search rules in
    code_none a.s a.slots.now k a.slot a.time q m (sym c.used_at.ensures ∙ c.if-not-used_at.false) c.if-time-s.false
