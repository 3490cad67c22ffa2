-- The rows picked, the link moved, the summaries taken in and the CA sent, one after the other, are the rules' answer.
use Rattle.actions.proofs.CaLaws.{answer_acts}
use Rattle.slots.specs.State.{settings_of, rule_of}
use Rattle.memory.specs.Memory.{memory_of, requests_of, kept_of}
use Rattle.laws.specs.Lists.{is_empty}
use Rattle.records.specs.Views.{records_left}
use Rattle.actions.specs.Steps.{ca_packet_by}
use Rattle.actions.proofs.alignment.answer.Goals as goal

pub returns : goal.returns
returns c sender =
    let a = c.args in
    let rs = records_left a.records in
    let m = memory_of a.memory.now in
    let picks = c.next_used-picks in
    let l = c.link_after-l in
    let y = c.taken_in-y in
    let sent = c.send_answer in
    answer_acts (rule_of a.rule) c.requires.1 a.k.at a.time (settings_of a.s) (ca_packet_by a.head rs sender) a.x a.memory.now
    y.result l.result picks.result c.answer_from.result
    y.new.memory sent.new.memory a.out.now sent.new.out
    sent.result c.args.k.below (c.answer_from.ensures (requests_of m a.k.at) (kept_of m a.k.at))
    picks.ensures (l.ensures sender (is_empty rs)) y.ensures sent.ensures
