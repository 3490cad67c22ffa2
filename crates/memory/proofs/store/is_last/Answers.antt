-- A top octet, key length or mark tells that the row is kept; else its number decides.
use Rattle.std.proofs.Common.{not, sym, ap, ◌∙◌, eq-eqb, eqb-true}
use mathlib.Core.Bool.{false≢true}
use Rattle.rules.specs.Rows.{is_purged}
use Rattle.memory.specs.Layout.{mark_place}
use Rattle.memory.proofs.RowSweep.{no_marks, kept_unused, kept_waiting, kept_number, purged_free}
use Rattle.memory.proofs.store.is_last.Goals as goal
use Rattle.memory.proofs.store.is_last.Goals.{then-memory-i-eq127, else-memory-i-eq127, then-memory-i-ne0, else-memory-i-ne0}

pub returns-then-not-waits : goal.returns-then-not-waits
returns-then-not-waits c =
    elim c.if-memory-i-ne0.branch [
      | then-memory-i-ne0 w ↦ elim c.if-memory-i-eq127.branch [
        | then-memory-i-eq127 v ↦ purged_free c.args.memory.now c.args.i.at
            (λ z. false≢true (sym (ap not (eq-eqb _ 0 z)) ∙ sym v.value-is ∙ w.if-memory-i-ne0.true))
            (no_marks _ (sym w.value-is ∙ c.if-not-waits.true)) (c.is_purged.ensures ∙ ap is_purged c.number_of.ensures)
        | else-memory-i-eq127 v ↦ absurd (v.if-memory-i-eq127.false (eqb-true _ 127 (sym v.value-is ∙ w.if-memory-i-ne0.true)))
      ]
      | else-memory-i-ne0 w ↦ absurd (false≢true (sym w.if-memory-i-ne0.false ∙ sym w.value-is ∙ c.if-not-waits.true))
    ]

pub returns-else-not-waits : goal.returns-else-not-waits
returns-else-not-waits c =
    let s = c.args.memory.now in
    let i = c.args.i.at in
    c.if-not-waits.false ∙ sym
    (elim c.if-memory-i-ne0.branch [
      | then-memory-i-ne0 w ↦ kept_waiting s i (c.fits-memory (mark_place i))
          (λ z. false≢true (sym c.if-not-waits.false ∙ w.value-is ∙ ap (λ b. not (not b)) (eq-eqb _ 0 z)))
      | else-memory-i-ne0 w ↦ elim c.if-memory-i-eq127.branch [
        | then-memory-i-eq127 v ↦ kept_unused s i (sym v.value-is ∙ w.if-memory-i-ne0.false)
        | else-memory-i-eq127 v ↦ kept_number s i c.fits-memory v.if-memory-i-eq127.false
      ]
    ])
