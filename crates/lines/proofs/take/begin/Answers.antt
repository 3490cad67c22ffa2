-- A record too short, or of another kind, starts a server with settings that are refused; any other starts one with its own.
use Rattle.std.proofs.Common.{arith}
use Rattle.lines.proofs.LineLaws.{begins, is_settings}
use Rattle.lines.proofs.take.begin.Goals as goal

pub returns : goal.returns
returns c =
    begins _ _ (is_settings c.args.r.now _ (omega arith) c.kind.ensures c.if-kind-ne0.false) c.settings.ensures c.start-2.ensures
