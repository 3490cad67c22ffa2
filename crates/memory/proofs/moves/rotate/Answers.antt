-- The first octets are kept, the others move up, and those kept are put behind them.
use Rattle.std.proofs.Common.{◌∙◌, arith}
use Rattle.memory.proofs.Rotations.{rotated_octets}
use Rattle.memory.proofs.moves.rotate.Goals as goal

pub returns : goal.returns
returns c =
    let a = c.args in
    let p = c.requires in
    rotated_octets a.memory.now a.at a.by a.n _ _ c.first.result.now c.copy_within.new.self c.put.new.out p.0.1 p.1 (omega arith) (omega arith)
    (c.first.ensures ∙ c.first_of-q.ensures.1) c.copy_within.ensures.after c.put.ensures.octets
