-- That the hop count is not 0 first, so that an edit of that test falls at it.
use Rattle.std.proofs.Common.{rules, ◌<◌}
use Rattle.protocol.specs.Fields.{field2}
use Rattle.wire.proofs.fine.record_fine.Goals as goal

pub returns-then-p-r-eq4 : goal.returns-then-p-r-eq4
returns-then-p-r-eq4 c =
    let some : 0 < field2 c.args.p.now c.args.r = search rules in
    search rules
