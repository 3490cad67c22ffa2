-- The row that was found tells spent and held; where none was, a free row tells.
use Rattle.std.proofs.Common.{sym, ap, ◌∙◌}
use Rattle.memory.specs.Search.{place_found}
use Rattle.protocol.specs.Numbers.{spent}
use Rattle.server.proofs.OwnLaws.{set_none, set_held}
use Rattle.server.proofs.own.set_code.Goals as goal

pub returns-then-is_spent : goal.returns-then-is_spent
returns-then-is_spent c = λ s slots key payload good fits g.
    let i = c.in-Some.i in
    set_held s slots c.args.memory.now key good i.at (sym g ∙ ap place_found c.in-Some.is) payload fits
    (ap spent (sym c.number_of.ensures) ∙ sym c.is_spent.ensures ∙ c.if-is_spent.true)

pub returns-then-not-has_free : goal.returns-then-not-has_free
returns-then-not-has_free c = λ s slots key payload good fits g.
    set_none s slots c.args.memory.now key good (sym g ∙ ap place_found c.in-None.is) payload fits (sym c.has_free.ensures ∙ c.if-not-has_free.true)

pub returns-else-is_spent : goal.returns-else-is_spent
returns-else-is_spent c = λ s slots key payload good fits g.
    let i = c.in-Some.i in
    set_held s slots c.args.memory.now key good i.at (sym g ∙ ap place_found c.in-Some.is) payload fits
    (ap spent (sym c.number_of.ensures) ∙ sym c.is_spent.ensures ∙ c.if-is_spent.false)

pub returns-else-not-has_free : goal.returns-else-not-has_free
returns-else-not-has_free c = λ s slots key payload good fits g.
    set_none s slots c.args.memory.now key good (sym g ∙ ap place_found c.in-None.is) payload fits (sym c.has_free.ensures ∙ c.if-not-has_free.false)
