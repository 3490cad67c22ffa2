-- No receiver so far is us, so the answer for all is the answer for the rest.
use Rattle.std.proofs.Common.{◌≡◌}
use Rattle.laws.specs.Tables.{has, same}
use Rattle.protocol.specs.Sizes.{id_length}
use Rattle.protocol.specs.Reading.{receivers_at}
use Rattle.actions.proofs.ReceiverLaws.{rest}
use Rattle.actions.proofs.hello.any_receiver.Given as goal

abbrev pub invariant-loop-i : goal.invariant-loop-i
invariant-loop-i l =
    let h = l.fn.h in
    has (same l.id) (receivers_at id_length h.octets.now h.head.records.left h.head.records.at)
    ≡ rest l.id h.octets.now h.head.records.left h.head.records.at l.i
