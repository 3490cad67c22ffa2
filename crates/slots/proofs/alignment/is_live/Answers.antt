-- By the states one by one, so that an edit which leaves one out falls at that state.
use Rattle.std.proofs.Common.{rules, ◌≡◌, false, refl}
use Rattle.protocol.specs.declared.Alignment.{Alignment}
use Rattle.protocol.specs.declared.Alignment.TheVariants.{Down, Negotiate, Summarize, Update, Aligned}
use Rattle.rules.specs.Links.{is_live}
use Rattle.slots.proofs.alignment.is_live.Goals as goal
use Rattle.slots.proofs.alignment.is_live.Goals.{In_default}

other : (c : In_default) (a : Alignment) → c.args.a ≡ a → false ≡ is_live a
other c Down e = refl
other c Negotiate e = refl
other c (Summarize r) e = absurd (search rules)
other c Update e = absurd (search rules)
other c Aligned e = absurd (search rules)

pub returns-in_default : goal.returns-in_default
returns-in_default c = other c c.args.a refl
