use Rattle.records.proofs.StepLaws.{takes_end, takes_then}
use Rattle.records.specs.Views.{record_shown, records_left}
use Rattle.records.proofs.summaries.take_all.Goals as goal

pub loop-v-preserved : goal.loop-v-preserved
loop-v-preserved c u r h =
    let k = c.args.k in
    let l = c.loop-v in
    let q = c.take_in-n in
    l.invariant u r
    (takes_then k.at (record_shown c.in-Some.v) l.n l.memory q.new.memory q.result k.below
    (record { list = q.ensures.list; count = q.ensures.count }) (records_left l.v-iterator) (records_left c.next.new.self)
    c.in-Some.ensures.steps u r h)

pub returns : goal.returns
returns c =
    let l = c.loop-v in
    l.invariant l.memory l.n (takes_end c.args.k.at l.memory l.n (records_left l.v-iterator) c.in-None.ensures.steps.0)
