-- Codes 1 to 4 first; then what is read of the packet.
use Rattle.std.proofs.Common.{rules, ◌≡◌, ℕ, length, sym, ap, subst, ◌∙◌}
use Rattle.rules.specs.Events as events
use Rattle.rules.specs.Refusals.{poll_code}
use Rattle.server.proofs.PacketLaws.{packet_refused, packet_read}
use Rattle.server.proofs.DoesLaws.{poll_room}
use Rattle.server.specs.State.{server_of, StepsOut}
use Rattle.slots.specs.Codes.{code_number}
use Rattle.server.proofs.packet.packet.Goals as goal

pub reading-requires : goal.reading-requires
reading-requires c =
    let a = c.args in
    poll_room (server_of a.s a.slots.now a.memory.now) a.slot a.time (length a.out.now) c.poll_code.result
    (c.poll_code.ensures.code a.memory.now) c.in-Ok.is

pub returns-in-Err : goal.returns-in-Err
returns-in-Err c =
    let a = c.args in
    packet_refused a.p.now a.slot a.time a.s a.slots.now a.memory.now a.out.now c.poll_code.result
    c.in-Err.f c.refuse.result (c.poll_code.ensures.code a.memory.now) c.in-Err.is c.refuse.ensures

pub returns-in-Ok : goal.returns-in-Ok
returns-in-Ok c =
    let a = c.args in
    let k = c.in-Ok.k in
    let r = c.reading in
    let q : k.at ≡ a.slot = search rules in
    subst (λ (j : ℕ). StepsOut (events.packet j a.time a.p.now (length a.out.now)) a.s a.slots.now r.new.slots a.memory.now r.new.memory
    a.out.now r.new.out r.result) q
    (packet_read a.p.now k.at a.time a.s a.slots.now a.memory.now a.out.now k.below
    (ap (λ (j : ℕ). poll_code (server_of a.s a.slots.now a.memory.now) j a.time (length a.out.now)) q
    ∙ sym (c.poll_code.ensures.code a.memory.now) ∙ ap code_number c.in-Ok.is) r.new.slots
    r.new.memory r.new.out r.result r.ensures)
