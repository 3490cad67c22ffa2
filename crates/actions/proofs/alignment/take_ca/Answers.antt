-- Rule by rule: those that answer are `answer`, the others by the law of their case.
use Rattle.actions.proofs.CaLaws.{takes_silent, takes_repeat, takes_done, takes_restart}
use Rattle.actions.specs.Steps.{ca_packet_by}
use Rattle.records.specs.Views.{records_left}
use Rattle.slots.specs.State.{settings_of, rule_of}
use mathlib.Core.Path.{ap}
use Rattle.actions.proofs.alignment.take_ca.Goals as goal

pub returns-in-Refuse : goal.returns-in-Refuse
returns-in-Refuse c sender =
    let a = c.args in
    takes_silent a.k.at a.time (settings_of a.s) (ca_packet_by a.head (records_left a.records) sender) a.x a.memory.now a.rule a.out.now c.silent.result
    c.in-Refuse.is c.silent.ensures

pub returns-in-Repeat : goal.returns-in-Repeat
returns-in-Repeat c sender =
    let a = c.args in
    let r = c.repeat in
    takes_repeat a.k.at a.time (settings_of a.s) (ca_packet_by a.head (records_left a.records) sender) a.x a.memory.now (rule_of a.rule) a.out.now
    r.new.out r.result (ap rule_of c.in-Repeat.is) c.args.k.below r.ensures

pub returns-in-MasterDone : goal.returns-in-MasterDone
returns-in-MasterDone c sender =
    let a = c.args in
    let y = c.done in
    takes_done a.k.at a.time (settings_of a.s) (ca_packet_by a.head (records_left a.records) sender) a.x a.memory.now (rule_of a.rule) y.result y.new.memory
    a.out.now c.silent-in-MasterDone.result (ap rule_of c.in-MasterDone.is) c.silent-in-MasterDone.ensures (y.ensures sender)

pub returns-in-Restart : goal.returns-in-Restart
returns-in-Restart c sender =
    let a = c.args in
    let y = c.move_link in
    takes_restart a.k.at a.time (settings_of a.s) (ca_packet_by a.head (records_left a.records) sender) a.x a.memory.now (rule_of a.rule)
    c.negotiating.result y.result y.new.memory a.out.now c.silent-in-Restart.result (ap rule_of c.in-Restart.is)
    c.negotiating.ensures y.ensures c.silent-in-Restart.ensures
