-- Any other type is refused and changes nothing; a Hello's slot moves to Waiting and the event ends.
use Rattle.std.proofs.Common.{ℕ, refl, sym, ◌∙◌, ap}
use Rattle.server.proofs.PacketLaws.{read_refused, read_malformed}
use Rattle.slots.specs.declared.answers.Failure.TheVariants as failure
use Rattle.protocol.specs.Reading as reading
use lib.Dec.{eqb}
use borrow.Author.Tests.{ne_eqb}
use Rattle.server.proofs.packet.malformed.Goals as goal

pub returns-then-octet-ne5 : goal.returns-then-octet-ne5
returns-then-octet-ne5 c at out =
    let a = c.args in
    read_refused (reading.malformed at) a.p.now a.k.at a.time a.s a.slots.now a.memory.now
    (ap (λ (n : ℕ). eqb n 5) (sym c.octet.ensures) ∙ ne_eqb c.octet.result 5 c.if-octet-ne5.true) failure.Malformed
    c.refuse.result out refl c.refuse.ensures

pub returns : goal.returns
returns c at out =
    let a = c.args in
    let m = c.move_to in
    let d = c.close-server in
    let from = c.alignment_at-from in
    read_malformed a.p.now a.k.at a.time a.s a.slots.now a.memory.now c.args.k.below at m.new.slots m.new.memory d.new.memory
    out from.result d.result c.refuse-2.result (sym c.octet.ensures ∙ c.if-octet-ne5.false) from.ensures m.ensures d.ensures
    c.refuse-2.ensures
