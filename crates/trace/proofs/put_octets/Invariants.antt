-- Two digits an octet.
use Rattle.std.proofs.Common.{◌≡◌, length, ◌+◌, ◌*◌}
use Rattle.trace.proofs.put_octets.Given as goal

abbrev pub invariant-loop-x : goal.invariant-loop-x
invariant-loop-x l = (length l.text ≡ length l.initial.text) × (l.at ≡ l.from + l.x-index * 2)
