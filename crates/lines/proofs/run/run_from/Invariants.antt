-- Each record is taken by the server that the last one left; the invariant is `Went`.
use Rattle.std.proofs.Common.{◌≡◌, ◌/◌, length, drop}
use Rattle.std.specs.Slice.Iter.{chunks_exact_rest, chunks_exact_size}
use Rattle.lines.proofs.RunLaws.{Went}
use Rattle.lines.proofs.run.run_from.Given as goal

abbrev pub invariant-loop-r : goal.invariant-loop-r
invariant-loop-r l =
    (chunks_exact_size l.r-iterator ≡ 292)
    × Went (drop 292 l.input) (length (drop 292 l.input) / 292) l.initial.x l.initial.slots l.initial.memory
    (chunks_exact_rest l.r-iterator) (length (chunks_exact_rest l.r-iterator) / 292) l.x l.slots l.memory
