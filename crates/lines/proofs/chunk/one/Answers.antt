use Rattle.lines.proofs.ChunkLaws.{lined}
use Rattle.lines.proofs.chunk.one.Goals as goal

pub returns : goal.returns
returns c = lined c.take-a.ensures c.put_answer-text.ensures.puts_numbers c.put_answer-text.ensures.most
