use Rattle.std.proofs.Common.{ℕ, ◌+◌, ◌*◌, ◌%◌, List, [], ◌++◌, length, drop, ap, ◌∙◌, append_assoc, refl, arith}
use Rattle.std.specs.Slice.Iter.{chunks_exact_rest, chunks_exact_size}
use Rattle.std.specs.Iterator.Adapters.{enumerate_source, enumerate_count}
use Rattle.laws.specs.Choice.{pick}
use Rattle.laws.specs.Puts.{Put}
use Rattle.laws.proofs.Puts.{put_none}
use Rattle.lines.specs.Text.{numbers_most, cut_text}
use Rattle.lines.proofs.RunLaws.{went_none, went_more, record_less, records_whole}
use Rattle.lines.proofs.ChunkLaws.{said_none, said_more, records_few, part_whole, chunks}
use Rattle.lines.proofs.chunk.replay.Goals.{then-ends_short, else-ends_short}
use Rattle.lines.proofs.chunk.replay.Goals as goal

pub loop-i-init : goal.loop-i-init
loop-i-init c =
    let n = c.records_in-n.result in
    let source = ap enumerate_source c.into_iter-i-iterator.ensures.into_iter_gives ∙ c.enumerate-i-items.ensures.source in
    let count = ap enumerate_count c.into_iter-i-iterator.ensures.into_iter_gives ∙ c.enumerate-i-items.ensures.count in
    let few = (records_few (length c.args.input.now) n c.records_in-n.ensures).1 in
    let whole = part_whole c.args.input.now _ n (ap chunks_exact_rest source ∙ c.chunks_exact.ensures.rest) few in (
      c.told-text,
      ap chunks_exact_size source ∙ c.chunks_exact.ensures.size,
      omega (arith, whole.1),
      said_none _ _ _ _ _ _ _ _ _ whole.0 (omega (arith, whole.1)) count,
      went_none _ _ _ _ _ _ _ whole.0 (omega (arith, whole.1)),
    )

pub loop-i-preserved : goal.loop-i-preserved
loop-i-preserved c =
    let w = c.loop-i.invariant in
    let made = c.one-a in
    let n = c.records_in-n.result in
    let step = c.in-Some.ensures.steps in
    let cut = step.0.1.0 in
    let long = step.0.1.1 ∙ w.1 in
    let less = record_less _ _ _ cut long in
    let tail : List ℕ = drop (n * 292) c.args.input.now in
    let rest = ap (λ (v : List ℕ). v ++ tail) cut ∙ append_assoc c.in-Some.r.now (chunks_exact_rest (enumerate_source c.next.new.self)) tail in
    let few = (records_few (length c.args.input.now) n c.records_in-n.ensures).0 in (
      made.auto.text ∙ w.0,
      step.0.0 ∙ w.1,
      records_whole _ _ _ cut long w.2,
      said_more w.3 _ _ _ (omega (arith, few, c.told-text)) rest long less made.ensures
          (ap (λ (j : ℕ). (c.args.number + j) % numbers_most) step.1) step.2,
      went_more w.4 _ _ _ _ _ _ rest long less made.ensures.server made.ensures.host,
    )

pub returns : goal.returns
returns c =
    let l = c.loop-i in
    let w = l.invariant in
    let n = c.records_in-n.result in
    let last = c.in-None.ensures.steps.0.1.0 in
    let few = (records_few (length c.args.input.now) n c.records_in-n.ensures).0 in
    let put : Put (pick c.ends_short.result cut_text []) l.end l.text c.if-ends_short.text c.if-ends_short.end =
    elim c.if-ends_short.branch [
      | then-ends_short b ↦ rw (b.if-ends_short.true, b.text-is, b.end-is) b.put-end.ensures
      | else-ends_short b ↦ rw (b.if-ends_short.false, b.text-is, b.end-is) (put_none l.text l.end)
    ] in
    chunks (chunks_exact_rest (enumerate_source l.i-iterator)) c.records_in-n.ensures w.3 w.4 (omega (arith, last, w.1, w.2))
    (omega (arith, few, c.told-text)) refl c.ends_short.ensures put
