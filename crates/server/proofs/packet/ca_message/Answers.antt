-- The rule of the CA decides code 14; taken, the slot is read, moved and put, and the event ends.
use Rattle.std.proofs.Common.{rules, ◌≡◌, Ok, Err, false, refl, sym, ap}
use Rattle.server.proofs.PacketLaws.{message_refused, message_taken}
use Rattle.server.proofs.ReadLaws.{body_is, is_ca_lem, ca_unusable}
use Rattle.actions.specs.Parts.{slot_now}
use Rattle.rules.specs.Events.{body_changes}
use Rattle.slots.specs.declared.state.Slot.{Slot}
use Rattle.slots.specs.State.{settings_of, rule_of}
use Rattle.wire.specs.Views.{message_of}
use Rattle.server.specs.State.{answer_of}
use Rattle.server.proofs.packet.ca_message.Goals as goal

pub returns-in_err-message_code : goal.returns-in_err-message_code
returns-in_err-message_code c =
    let a = c.args in
    let f = c.in_err-message_code.field-0.0 in
    let e : c.from_residual.result ≡ Err f = search rules in
    let x = c.slot_at-x in
    let u = ca_unusable a.p.octets.now a.p.head (settings_of a.s.settings) a.slots.now a.memory.now a.k.at x.result
    c.is_refuse.result (rule_of c.rule_for-rule.result) c.requires.1 x.ensures c.rule_for-rule.ensures
    c.is_refuse.ensures in
    let code = c.message_code.ensures (slot_now a.slots.now a.k.at a.memory.now) (ap (λ (z : Slot). z.peer) (sym x.ensures)) u in
    message_refused a.p.octets.now a.k.at a.time a.s a.slots.now a.memory.now a.k.below (message_of a.p.octets.now a.p.head)
    c.message_code.result code f (answer_of a.s c.from_residual.result) a.out.now (search rules) (ap (answer_of a.s) e)

pub returns : goal.returns
returns c =
    let a = c.args in
    let x = c.slot_at-x in
    let t = c.take_ca-n in
    let d = c.close-server in
    let from = c.alignment_at-from in
    let u = ca_unusable a.p.octets.now a.p.head (settings_of a.s.settings) a.slots.now a.memory.now a.k.at x.result
    c.is_refuse.result (rule_of c.rule_for-rule.result) c.requires.1 x.ensures c.rule_for-rule.ensures
    c.is_refuse.ensures in
    let code = c.message_code.ensures (slot_now a.slots.now a.k.at a.memory.now) (ap (λ (z : Slot). z.peer) (sym x.ensures)) u in
    message_taken a.p.octets.now a.k.at a.time a.s a.slots.now a.memory.now a.k.below (message_of a.p.octets.now a.p.head)
    c.message_code.result code t.new.slots t.new.memory d.new.memory a.out.now t.new.out
    false from.result t.result (answer_of a.s (Ok (d.result, t.result))) (search rules)
    (sym (ap body_changes (body_is a.p.octets.now a.p.head (is_ca_lem a.p.head.kind c.requires.1)))) from.ensures t.ensures d.ensures refl
