-- Where the alignment is Down already, the Hello word is the whole move; else the slot is read, moved and put.
use Rattle.actions.proofs.MoveLaws.{state_put}
use Rattle.protocol.specs.declared.Alignment.{Alignment}
use Rattle.protocol.specs.declared.Alignment.TheVariants.{Down}
use Rattle.rules.specs.Links.{enters}
use mathlib.Core.Path.{sym, ap, ◌∙◌}
use Rattle.actions.proofs.moves.move_to.Goals as goal

pub returns : goal.returns
returns c =
    let a = c.args in
    let not = ap (λ (z : Alignment). enters z Down) (sym c.alignment_at.ensures) ∙ sym c.enters.ensures ∙ c.if-enters.false in
    state_put a.k.at a.slots.now c.put_hello.new.t a.memory.now a.h not c.put_hello.ensures
