-- The rows are swept where the event changed one or the slot entered Down or Negotiate, and the time is set.
use Rattle.std.proofs.Common.{◌≡◌, Bool, true, false, ◌||◌, sym, ap, ◌∙◌}
use Rattle.rules.specs.Links.{enters}
use Rattle.memory.specs.Memory.{memory_of}
use Rattle.memory.proofs.RowInsert.{all_rows}
use Rattle.table.specs.Slots.{slot_in}
use Rattle.server.proofs.ServerLaws.{closed}
use Rattle.server.proofs.ends.close.Goals as goal
use Rattle.server.proofs.ends.close.Goals.{then-changes, then-changes-via-then-changes, then-changes-via-else-changes+then-entered}
use Rattle.server.proofs.ends.close.Goals.{else-changes+else-entered}

pub returns : goal.returns
returns c =
    let a = c.args in
    let here : Bool = enters a.from (slot_in a.slots.now a.k.at).link.alignment in
    let entered : c.enters-entered.result ≡ here = c.enters-entered.ensures ∙ ap (enters a.from) c.alignment_at.ensures in
    elim c.if-changes.branch [
      | then-changes w ↦
          let sweeps : true ≡ (a.changes || here) =
          elim w.then-changes.branch [
            | then-changes-via-then-changes v ↦ sym (ap (λ (b : Bool). b || here) v.if-changes.true)
            | then-changes-via-else-changes+then-entered v ↦
                sym (ap (λ (b : Bool). b || here) v.if-changes.false ∙ sym entered ∙ v.if-entered.true)
          ] in
          closed a.changes true a.from a.s a.slots.now a.memory.now c.if-changes.memory a.k.at a.time a.k.below sweeps
          (ap memory_of w.memory-is ∙ w.sweep.ensures)
      | else-changes+else-entered w ↦
          closed a.changes false a.from a.s a.slots.now a.memory.now c.if-changes.memory a.k.at a.time a.k.below
          (sym (ap (λ (b : Bool). b || here) w.if-changes.false ∙ sym entered ∙ w.if-entered.false))
          (ap memory_of w.memory-is ∙ all_rows a.memory.now)
    ]
