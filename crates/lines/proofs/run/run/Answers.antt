use Rattle.std.proofs.Common.{sym, ap, ◌∙◌, not}
use Rattle.lines.proofs.RunLaws.{good, runs}
use Rattle.lines.proofs.run.run.Goals as goal

pub returns : goal.returns
returns c =
    let began = c.begin-first.ensures in
    runs began (sym (good began) ∙ c.is_err.ensures.negation ∙ ap not c.if-is_err.false) c.run_from.ensures c.take.ensures
