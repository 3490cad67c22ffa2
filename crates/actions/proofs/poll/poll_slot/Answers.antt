-- Check, dropping and sending follow one another; `polled` has the rest.
use Rattle.std.specs.Prelude.{Some, None}
use Rattle.actions.proofs.DueLaws.{planned_as}
use Rattle.actions.proofs.SendLaws.{sends_none}
use Rattle.actions.proofs.PollLaws.{polled}
use Rattle.slots.specs.State.{settings_of}
use Rattle.actions.proofs.poll.poll_slot.Goals as goal

pub returns-in-None : goal.returns-in-None
returns-in-None c =
    let a = c.args in
    let y = c.check in
    let o = c.drop_old in
    let d = c.due_of in
    polled (settings_of a.s) a.time a.k.at a.slots.now y.new.slots y.new.slots a.memory.now y.new.memory o.new.memory
    o.new.memory a.out.now a.out.now None 0 c.args.k.below y.ensures o.ensures (planned_as c.in-None.is d.ensures)
    (sends_none a.k.at y.new.slots o.new.memory a.out.now)

pub returns-in-Some : goal.returns-in-Some
returns-in-Some c =
    let a = c.args in
    let y = c.check in
    let o = c.drop_old in
    let d = c.due_of in
    let t = c.send in
    polled (settings_of a.s) a.time a.k.at a.slots.now y.new.slots t.new.slots a.memory.now y.new.memory o.new.memory
    t.new.memory a.out.now t.new.out (Some c.in-Some.d) t.result c.args.k.below y.ensures o.ensures (planned_as c.in-Some.is d.ensures) t.ensures
