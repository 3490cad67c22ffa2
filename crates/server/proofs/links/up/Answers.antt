-- From Down, the move and then the time of no Hello; else nothing changes.
use Rattle.std.proofs.Common.{sym, ap, ◌∙◌}
use Rattle.rules.specs.Links.{is_down}
use Rattle.server.proofs.LinkLaws.{up_put, up_still}
use Rattle.server.proofs.links.up.Goals as goal

pub returns-then-is_down : goal.returns-then-is_down
returns-then-is_down c =
    let a = c.args in
    let m = c.move_to in
    let h = c.put_hello_sent in
    up_put a.k.at a.slots.now a.memory.now m.new.slots h.new.t m.new.memory
    (ap is_down (sym c.hello_at.ensures) ∙ sym c.is_down.ensures ∙ c.if-is_down.true) m.ensures h.ensures

pub returns-else-is_down : goal.returns-else-is_down
returns-else-is_down c =
    let a = c.args in
    up_still a.k.at a.slots.now a.memory.now (ap is_down (sym c.hello_at.ensures) ∙ sym c.is_down.ensures ∙ c.if-is_down.false)
