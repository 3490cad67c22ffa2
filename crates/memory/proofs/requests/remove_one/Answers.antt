-- The request goes, stands where it would move to, or is copied there.
use Rattle.std.proofs.Common.{◌≡◌, arith}
use Rattle.memory.specs.Memory.{entry_named}
use Rattle.memory.proofs.RequestRemovals.{remove_gone, remove_same, remove_moves}
use Rattle.memory.specs.Lists.{goes}
use Rattle.memory.proofs.requests.remove_one.Goals as goal
use Rattle.memory.proofs.requests.remove_one.Goals.{then-w-i, else-w-i}

pub returns-then-goes : goal.returns-then-goes
returns-then-goes c =
    let a = c.args in
    remove_gone a.memory.now a.memory.now a.k.at (goes a.up_to (entry_named a.e.name.octets.now)) a.i.at a.w c.goes.result
    c.goes.ensures a.k.below c.if-goes.true

pub returns : goal.returns
returns c =
    let a = c.args in
    let p = goes a.up_to (entry_named a.e.name.octets.now) in
    elim c.if-w-i.branch [
      | then-w-i w ↦ let n : a.w ≡ a.i.at → ⊥ = λ e. absurd (omega (arith, w.if-w-i.true)) in
          rw w.memory-is (remove_moves a.memory.now w.copy_request.new.memory a.k.at p a.i.at a.w c.goes.result c.goes.ensures c.if-goes.false n
          w.copy_request.ensures)
      | else-w-i w ↦ let e : a.w ≡ a.i.at = omega (arith, w.if-w-i.false, c.requires) in
          rw w.memory-is (remove_same a.memory.now a.memory.now a.k.at p a.i.at a.w c.goes.result c.goes.ensures a.k.below c.if-goes.false e)
    ]
