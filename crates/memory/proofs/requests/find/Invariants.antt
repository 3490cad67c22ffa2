-- None before the first tag is for the entry; from there on so far none before i is.
use Rattle.rules.specs.Requests.{asks}
use Rattle.memory.specs.Memory.{entry_named, requests_in}
use Rattle.memory.specs.Lists.{no_request}
use Rattle.memory.proofs.RequestLists.{Passed}
use Rattle.memory.proofs.requests.find.Given as goal

abbrev pub invariant-loop-i : goal.invariant-loop-i
invariant-loop-i l = Passed (asks (entry_named l.e.name.octets.now)) no_request (requests_in l.memory l.k.at) l.i
