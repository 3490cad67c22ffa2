use Rattle.std.proofs.Common.{ap, ◌∙◌}
use Rattle.protocol.specs.declared.CsaNumber.{CsaNumber}
use Rattle.protocol.specs.Numbers.{next_csa}
use Rattle.rules.specs.Server.{Row}
use Rattle.rules.specs.Updates.{stepped}
use Rattle.memory.specs.Memory.{is_marked}
use Rattle.memory.specs.Search.{with_row}
use Rattle.memory.proofs.EntryLaws.{changed_row_lem}
use Rattle.memory.proofs.entries.change_row.Goals as goal

pub returns : goal.returns
returns c =
    let a = c.args in
    c.put_value.ensures.memory_after ∙ ap (λ (r : Row). with_row a.memory.now a.i.at r)
    (changed_row_lem a.memory.now a.i.at (is_marked a.live) a.payload.octets.now c.step_of-number.result
    (c.step_of-number.ensures ∙ ap (λ (n : CsaNumber). stepped n (next_csa n)) c.number_of-held.ensures))
