-- So far the marks of the slots seen are those that are live.
use Rattle.std.proofs.Common.{◌-◌, ◌≡◌, ◌≤◌}
use Rattle.memory.specs.Memory.{is_marked}
use Rattle.server.proofs.LiveLaws.{live_below}
use Rattle.server.proofs.ends.live_of.Given as goal

abbrev pub invariant-loop-k : goal.invariant-loop-k
invariant-loop-k l = (l.k ≤ 8) × (is_marked l.b ≡ live_below l.slots l.k)

abbrev pub decreases-loop-k : goal.decreases-loop-k
decreases-loop-k l = 8 - l.k
