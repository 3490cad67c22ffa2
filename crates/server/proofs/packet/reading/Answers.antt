-- A message, malformed, or refused with 5 to 9: each is what the definition reads.
use Rattle.std.proofs.Common.{rules, Bool, ◌&&◌, arith, sym, ap, ◌∙◌, subst}
use Rattle.actions.specs.Parts.{slot_now}
use Rattle.rules.specs.Refusals.{is_hello_type}
use Rattle.server.proofs.PacketLaws.{read_refused}
use Rattle.server.proofs.ReadLaws.{reaches, not_malformed}
use Rattle.server.specs.Events.{DoesRead}
use Rattle.slots.specs.State.{settings_of}
use Rattle.wire.specs.Views.{reading_of, refused_as}
use Rattle.protocol.specs.Reading as reading
use Rattle.server.proofs.packet.reading.Goals as goal

pub invariant_of-p : goal.invariant_of-p
invariant_of-p c =
    let a = c.args in
    record {
      reaches = reaches a.p.now c.read.result c.in-Ok.head (λ i. omega (arith, c.type_inv.p i)) c.read.ensures c.in-Ok.is;
    }

pub returns-in-Err : goal.returns-in-Err
returns-in-Err c =
    let a = c.args in
    let r = c.in-Err.r in
    let x = slot_now a.slots.now a.k.at a.memory.now in
    let s = settings_of a.s.settings in
    subst (λ (m : reading.Reading). DoesRead m a.p.now a.k.at a.time a.s a.slots.now a.slots.now a.memory.now a.memory.now
    a.out.now a.out.now c.refuse.result) (ap (reading_of a.p.now) (sym c.in-Err.is) ∙ c.read.ensures.means)
    (read_refused (refused_as r) a.p.now a.k.at a.time a.s a.slots.now a.memory.now
    (ap (λ (b : Bool). b && is_hello_type a.p.now) (not_malformed r (search rules) s x)) c.failure_of.result
    c.refuse.result a.out.now (sym (c.failure_of.ensures s x)) c.refuse.ensures)

pub returns-in-Err-Malformed : goal.returns-in-Err-Malformed
returns-in-Err-Malformed c =
    let a = c.args in
    let d = c.malformed in
    let w = c.in-Err-Malformed in
    subst (λ (m : reading.Reading). DoesRead m a.p.now a.k.at a.time a.s a.slots.now d.new.slots a.memory.now
    d.new.memory a.out.now a.out.now d.result)
    (sym (ap refused_as w.field-0-is) ∙ ap (reading_of a.p.now) (sym w.is) ∙ c.read.ensures.means) (d.ensures w.field-0-0 a.out.now)
