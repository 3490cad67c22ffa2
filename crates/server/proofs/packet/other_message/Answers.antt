-- The slot's state decides code 14; taken, the event ends with the slot as `act` left it.
use Rattle.std.proofs.Common.{rules, ◌≡◌, Ok, Err, refl, sym, ap}
use Rattle.server.proofs.PacketLaws.{message_refused, message_taken}
use Rattle.actions.specs.Parts.{slot_now}
use Rattle.slots.specs.State.{settings_of}
use Rattle.wire.specs.Views.{message_of}
use Rattle.server.specs.State.{answer_of}
use Rattle.server.proofs.packet.other_message.Goals as goal

pub returns-in_err-message_code : goal.returns-in_err-message_code
returns-in_err-message_code c =
    let a = c.args in
    let f = c.in_err-message_code.field-0.0 in
    let e : c.from_residual.result ≡ Err f = search rules in
    let x = slot_now a.slots.now a.k.at a.memory.now in
    let code = c.message_code.ensures x (sym c.peer_at-peer.ensures)
    (c.unusable.ensures (settings_of a.s.settings) a.p.octets.now x c.requires.1 (sym c.alignment_at-from.ensures)) in
    message_refused a.p.octets.now a.k.at a.time a.s a.slots.now a.memory.now a.k.below (message_of a.p.octets.now a.p.head)
    c.message_code.result code f (answer_of a.s c.from_residual.result) a.out.now (search rules) (ap (answer_of a.s) e)

pub returns : goal.returns
returns c =
    let a = c.args in
    let x = slot_now a.slots.now a.k.at a.memory.now in
    let t = c.act-n in
    let d = c.close-server in
    let from = c.alignment_at-from in
    let code = c.message_code.ensures x (sym c.peer_at-peer.ensures)
    (c.unusable.ensures (settings_of a.s.settings) a.p.octets.now x c.requires.1 (sym from.ensures)) in
    message_taken a.p.octets.now a.k.at a.time a.s a.slots.now a.memory.now a.k.below (message_of a.p.octets.now a.p.head)
    c.message_code.result code t.new.slots t.new.memory d.new.memory a.out.now t.new.out
    c.changes_rows.result from.result t.result (answer_of a.s (Ok (d.result, t.result))) (search rules)
    (c.changes_rows.ensures a.p.octets.now) from.ensures t.ensures d.ensures refl
