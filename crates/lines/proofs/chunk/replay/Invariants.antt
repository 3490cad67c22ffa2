-- Each record is taken by the server that the last one left and its line put behind the last one's; `Went` and `Said` are the invariant. The
-- records that are left are those of the iterator, and behind them is what is not taken of the chunk.
use Rattle.std.proofs.Common.{◌≡◌, ◌*◌, ◌/◌, ◌%◌, ◌++◌, List, ℕ, length, drop}
use Rattle.std.specs.Slice.Iter.{chunks_exact_rest, chunks_exact_size}
use Rattle.std.specs.Iterator.Adapters.{enumerate_source, enumerate_count}
use Rattle.server.specs.State.{server_of}
use Rattle.lines.specs.Chunks.{ends_with}
use Rattle.lines.proofs.RunLaws.{Went}
use Rattle.lines.proofs.ChunkLaws.{Said}
use Rattle.lines.proofs.chunk.replay.Given as goal

abbrev pub invariant-loop-i : goal.invariant-loop-i
invariant-loop-i l =
    let i = l.initial in
    let part : List ℕ = chunks_exact_rest (enumerate_source l.i-iterator) in
    let rest : List ℕ = part ++ drop (l.n * 292) l.input in
    (length l.text ≡ 20480) × (chunks_exact_size (enumerate_source l.i-iterator) ≡ 292) × (length part % 292 ≡ 0)
    × Said (ends_with l.last l.input) l.input l.n l.number (server_of i.x i.slots i.memory) i.text (server_of l.x l.slots l.memory)
    rest (length part / 292) (enumerate_count l.i-iterator) l.end l.text
    × Went l.input l.n i.x i.slots i.memory rest (length part / 292) l.x l.slots l.memory
