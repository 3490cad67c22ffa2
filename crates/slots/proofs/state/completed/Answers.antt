use Rattle.std.proofs.Common.{◌∙◌}
use Rattle.slots.proofs.state.completed.Goals as goal

pub returns : goal.returns
returns c = λ qs kept e. c.with_link.ensures qs kept ∙ rw (c.completed-alignment.ensures, e)
