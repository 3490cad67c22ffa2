-- Settings that are taken give the line of record 0; any others the last line, `cut`.
use Rattle.std.proofs.Common.{is_ok, sym, ap, ◌∙◌}
use Rattle.lines.proofs.RunLaws.{good}
use Rattle.lines.proofs.ChunkLaws.{opens_cut}
use Rattle.lines.proofs.chunk.open.Goals as goal

pub returns-in-Err : goal.returns-in-Err
returns-in-Err c =
    let began = c.begin-answer.ensures in
    opens_cut began (sym (good began) ∙ ap is_ok c.in-Err.is) c.put-end.ensures
