use Rattle.records.proofs.StepLaws.{each_end, each_then}
use Rattle.records.specs.Views.{record_shown, records_left}
use Rattle.rules.specs.Updates.{replied}
use Rattle.records.proofs.replies.reply_all.Goals as goal

pub loop-v-preserved : goal.loop-v-preserved
loop-v-preserved c u h =
    let k = c.args.k.at in
    let l = c.loop-v in
    let q = c.reply_record in
    l.invariant u
    (each_then (replied k) (record_shown c.in-Some.v) l.memory q.new.memory q.ensures.memory_after (records_left l.v-iterator)
    (records_left c.next.new.self) c.in-Some.ensures.steps u h)

pub returns : goal.returns
returns c =
    let l = c.loop-v in
    l.invariant l.memory (each_end (replied c.args.k.at) l.memory (records_left l.v-iterator) c.in-None.ensures.steps.0)
