use Rattle.records.proofs.WalkLaws.{few_records}
use Rattle.records.proofs.SolicitedLaws.{soliciting_none, soliciting_all, soliciting_waits, soliciting_room, soliciting_more}
use Rattle.records.specs.Views.{record_shown, records_left}
use Rattle.records.proofs.solicited.solicit_all.Goals as goal

pub loop-v-init : goal.loop-v-init
loop-v-init c =
    let a = c.args in
    rw c.into_iter-v-iterator.ensures.into_iter_gives
    (soliciting_none a.k.at a.memory.now (records_left a.records) a.out.now (few_records a.records))

pub solicit_one-to-requires : goal.solicit_one-to-requires
solicit_one-to-requires c =
    let a = c.args in
    let l = c.loop-v in
    soliciting_room a.k.at a.memory.now (records_left a.records) a.out.now l.memory l.out (records_left l.v-iterator) l.to
    l.invariant (record_shown c.in-Some.v) (records_left c.next.new.self) c.in-Some.ensures.steps c.requires

pub loop-v-preserved : goal.loop-v-preserved
loop-v-preserved c =
    let a = c.args in
    let l = c.loop-v in
    let q = c.solicit_one-to in
    soliciting_more a.k.at a.memory.now (records_left a.records) a.out.now l.memory l.out (records_left l.v-iterator) l.to
    l.invariant (record_shown c.in-Some.v) (records_left c.next.new.self) c.in-Some.ensures.steps c.requires q.new.memory q.new.out
    q.result q.auto.out q.ensures

pub returns-clause-puts : goal.returns-clause-puts
returns-clause-puts c =
    let a = c.args in
    let l = c.loop-v in
    soliciting_all a.k.at a.memory.now (records_left a.records) a.out.now l.memory l.out (records_left l.v-iterator) l.to
    l.invariant c.in-None.ensures.steps.0

pub returns-clause-waits : goal.returns-clause-waits
returns-clause-waits c =
    let a = c.args in
    let l = c.loop-v in
    soliciting_waits a.k.at a.memory.now (records_left a.records) a.out.now l.memory l.out (records_left l.v-iterator) l.to
    l.invariant c.in-None.ensures.steps.0
