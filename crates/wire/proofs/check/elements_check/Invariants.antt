-- The loop keeps: the first break from here on is that of the whole.
use Rattle.std.proofs.Common.{◌≡◌, ◌+◌, ◌-◌, ◌≤◌, ◌*◌}
use Rattle.protocol.specs.Sizes.{id_length}
use Rattle.protocol.specs.Checks.{elements_check}
use Rattle.wire.proofs.check.elements_check.Given as goal

abbrev pub invariant-loop-i : goal.invariant-loop-i
invariant-loop-i l =
    (l.at ≤ l.fn.from + 65535 * l.i)
    × (elements_check id_length l.fn.k l.p l.fn.n l.fn.from ≡ elements_check id_length l.k l.p (l.fn.n - l.i) l.at)
