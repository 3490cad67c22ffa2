-- Kind by kind: what its function writes is what the rules send.
use Rattle.actions.proofs.SendLaws.{writes_hello, writes_kept}
use Rattle.slots.specs.State.{settings_of}
use Rattle.table.specs.Slots.{slot_in}
use Rattle.actions.proofs.poll.write_due.Goals as goal

pub returns-in-Hello : goal.returns-in-Hello
returns-in-Hello c =
    let a = c.args in
    let t = c.send_hello in
    writes_hello a.d a.k.at (settings_of a.s) (slot_in a.slots.now a.k.at) a.memory.now a.out.now t.new.out t.result
    c.in-Hello.is (t.ensures a.memory.now)

pub returns-in-KeptCa : goal.returns-in-KeptCa
returns-in-KeptCa c =
    let a = c.args in
    let t = c.copy_kept in
    writes_kept a.d a.k.at (settings_of a.s) (slot_in a.slots.now a.k.at) a.memory.now a.out.now t.new.out t.result
    c.in-KeptCa.is c.args.k.below t.ensures.0 t.ensures.1
