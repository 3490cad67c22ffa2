use Rattle.actions.proofs.SendLaws.{sends}
use Rattle.slots.specs.State.{settings_of}
use Rattle.actions.proofs.poll.send.Goals as goal

pub returns : goal.returns
returns c =
    let a = c.args in
    let w = c.write_due-n in
    sends a.d a.k.at a.time (settings_of a.s) a.slots.now c.put_due.new.slots a.memory.now w.new.memory a.out.now
    w.new.out w.result c.requires.1 w.ensures c.put_due.ensures
