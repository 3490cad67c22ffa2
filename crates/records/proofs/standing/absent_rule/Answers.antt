use Rattle.std.proofs.Common.{sym, ◌∙◌}
use Rattle.records.proofs.standing.absent_rule.Goals as goal

pub returns : goal.returns
returns c = rw (sym c.is_purged.ensures ∙ c.if-is_purged.false, sym c.has_free.ensures ∙ c.if-has_free.false)
