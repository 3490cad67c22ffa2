use Rattle.records.proofs.UpdateLaws.{updating_none, updating_end, updating_room, updating_more}
use Rattle.records.proofs.WalkLaws.{few_records}
use Rattle.records.specs.Views.{record_shown, records_left}
use Rattle.memory.specs.Memory.{is_marked}
use Rattle.records.proofs.updates.update_all.Goals as goal

pub loop-v-init : goal.loop-v-init
loop-v-init c =
    let a = c.args in
    rw c.into_iter-v-iterator.ensures.into_iter_gives
    (updating_none (is_marked a.live) a.k.at (records_left a.records) a.memory.now a.out.now (few_records a.records) c.none-to.result c.none-to.ensures)

pub update_one-to-requires : goal.update_one-to-requires
update_one-to-requires c =
    let a = c.args in
    let l = c.loop-v in
    updating_room (is_marked a.live) a.k.at (records_left a.records) a.memory.now a.out.now l.memory l.out
    (records_left l.v-iterator) l.to l.invariant (record_shown c.in-Some.v) (records_left c.next.new.self) c.in-Some.ensures.steps
    c.requires

pub loop-v-preserved : goal.loop-v-preserved
loop-v-preserved c =
    let a = c.args in
    let l = c.loop-v in
    let u = c.update_one-to in
    updating_more (is_marked a.live) a.k.at (records_left a.records) a.memory.now a.out.now l.memory l.out
    (records_left l.v-iterator) l.to l.invariant (record_shown c.in-Some.v) (records_left c.next.new.self) c.in-Some.ensures.steps
    c.requires a.k.below u.new.memory u.new.out u.result u.auto.out u.ensures

pub returns : goal.returns
returns c =
    let a = c.args in
    let l = c.loop-v in
    let e = updating_end (is_marked a.live) a.k.at (records_left a.records) a.memory.now a.out.now l.memory l.out
    (records_left l.v-iterator) l.to l.invariant c.in-None.ensures.steps.0 in
    record { updates_all = e.0; replies = e.1 }
