use Rattle.std.proofs.Common.{arith}
use Rattle.std.proofs.lemmas.List.{get_or_default}
use Rattle.table.specs.Slots.{unused, slot_in}
use Rattle.table.proofs.slot_at.Goals as goal

pub returns : goal.returns
unfolding slot_in
returns c = get_or_default c.args.t.now c.args.k.at _ unused (omega (arith, c.told-t, c.args.k.below))
