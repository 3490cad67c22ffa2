-- Without a row the code is that of looking for it; else the row tells whether it is purged.
use Rattle.std.proofs.Common.{rules, ◌≡◌, sym, ap, ◌∙◌}
use Rattle.rules.specs.Rows.{is_purged}
use Rattle.slots.specs.Codes.{failure_number, code_number}
use Rattle.server.proofs.OwnLaws.{purge_refused, purge_goes}
use Rattle.server.proofs.own.purge_row.Goals as goal

pub returns-in_err-i-clause-code : goal.returns-in_err-i-clause-code
returns-in_err-i-clause-code c = λ slots.
    let a = c.args in
    let f = c.in_err-i.field-0.0 in
    let t : code_number c.from_residual.result ≡ failure_number f = search rules in
    t ∙ purge_refused a.s slots a.memory.now a.key.now f c.in_err-i.ensures.code

pub returns-then-is_purged-clause-code : goal.returns-then-is_purged-clause-code
returns-then-is_purged-clause-code c = λ slots.
    let a = c.args in
    let i = c.in_ok-i in
    purge_goes a.s slots a.memory.now a.key.now i.i.at i.ensures.code i.ensures.row
    (ap is_purged (sym c.number_of.ensures) ∙ sym c.is_purged.ensures ∙ c.if-is_purged.true)

pub returns-clause-code : goal.returns-clause-code
returns-clause-code c = λ slots.
    let a = c.args in
    let i = c.in_ok-i in
    purge_goes a.s slots a.memory.now a.key.now i.i.at i.ensures.code i.ensures.row
    (ap is_purged (sym c.number_of.ensures) ∙ sym c.is_purged.ensures ∙ c.if-is_purged.false)
