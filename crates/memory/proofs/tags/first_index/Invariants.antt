-- So far best is the first place before i that has the octet.
use Rattle.std.proofs.Common.{◌≡◌, ◌+◌, ◌≤◌}
use Rattle.protocol.specs.Fields.{octet}
use Rattle.memory.proofs.FirstLaws.{FirstTo}
use Rattle.memory.proofs.tags.first_index.Given as goal

abbrev pub invariant-loop-i : goal.invariant-loop-i
invariant-loop-i l = (l.i ≤ 64) × FirstTo (λ j. octet l.memory (l.at + j) ≡ l.t) l.i l.best
