-- From the first request for the entry on; so far those of the first i that stay are the first w.
use Rattle.memory.specs.Lists.{goes}
use Rattle.memory.specs.Memory.{entry_named}
use Rattle.memory.proofs.RequestRemovals.{Removing}
use Rattle.memory.proofs.requests.remove.Given as goal

abbrev pub invariant-loop-i : goal.invariant-loop-i
invariant-loop-i l = Removing l.k.at (goes l.up_to (entry_named l.name.octets.now)) l.i l.w l.initial.memory l.memory
