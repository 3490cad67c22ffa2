-- The slot's poll, then the end of the event.
use Rattle.std.proofs.Common.{Ok, refl}
use Rattle.server.specs.State.{answer_of}
use Rattle.server.proofs.PollLaws.{polls_taken}
use Rattle.server.proofs.poll.poll_taken.Goals as goal

pub returns : goal.returns
returns c =
    let a = c.args in
    let p = c.poll_slot-n in
    let t = c.close-server in
    polls_taken a.s a.slots.now p.new.slots a.k.at a.time a.memory.now t.new.memory a.out.now p.new.out
    (answer_of a.s (Ok (t.result, p.result))) p.new.memory c.alignment_at-from.result p.result a.k.below c.alignment_at-from.ensures p.ensures t.ensures refl
