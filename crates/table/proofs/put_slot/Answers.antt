use Rattle.std.proofs.Common.{arith}
use Rattle.laws.proofs.Tables.{set_on}
use Rattle.table.specs.Slots.{unused, slot_in}
use Rattle.table.proofs.put_slot.Goals as goal

pub returns : goal.returns
unfolding slot_in
returns c j = set_on c.args.t.now c.args.k.at c.args.x unused j (omega (arith, c.told-t, c.args.k.below))
