use Rattle.std.proofs.Common.{sym, ap, ◌∙◌}
use Rattle.rules.specs.Slots.{emptied}
use Rattle.slots.proofs.state.moved.Goals as goal

pub returns-then-enters : goal.returns-then-enters
returns-then-enters c = λ qs kept. rw (sym c.enters.ensures ∙ c.if-enters.true)
    (c.emptied.ensures qs kept ∙ ap emptied (c.with_link-y.ensures qs kept))

pub returns-else-enters : goal.returns-else-enters
returns-else-enters c = λ qs kept. rw (sym c.enters.ensures ∙ c.if-enters.false) (c.with_link-y.ensures qs kept)
