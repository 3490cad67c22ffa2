-- In Bidirectional, named, three words are the whole move; else the slot is read, moved and put.
use Rattle.actions.proofs.MoveLaws.{heard_put}
use Rattle.protocol.specs.declared.HelloState.{HelloState}
use Rattle.rules.specs.Links.{is_bidirectional}
use mathlib.Core.Bool.{◌&&◌}
use mathlib.Core.Path.{sym, ap, ◌∙◌}
use Rattle.actions.proofs.moves.hear.Goals as goal

pub returns-then-stays : goal.returns-then-stays
returns-then-stays c =
    let a = c.args in
    let stays = ap (λ (z : HelloState). is_bidirectional z && a.named) (sym c.hello_at.ensures) ∙ sym c.stays.ensures ∙ c.if-stays.true in
    heard_put a.k.at a.slots.now c.put_heard.new.t a.memory.now a.time a.interval a.factor a.named stays c.put_heard.ensures
