-- Without a row the code is that of looking for it; else the row tells: an empty payload, or a number that is spent.
use Rattle.std.proofs.Common.{rules, ◌≡◌, sym, ap, ◌∙◌}
use Rattle.protocol.specs.Numbers.{spent}
use Rattle.slots.specs.Codes.{failure_number, code_number}
use Rattle.server.proofs.OwnLaws.{withdraw_refused, withdraw_empty, withdraw_goes}
use Rattle.server.proofs.own.withdraw_row.Goals as goal

pub returns-in_err-i-clause-code : goal.returns-in_err-i-clause-code
returns-in_err-i-clause-code c = λ slots.
    let a = c.args in
    let f = c.in_err-i.field-0.0 in
    let t : code_number c.from_residual.result ≡ failure_number f = search rules in
    t ∙ withdraw_refused a.s slots a.memory.now a.key.now f c.in_err-i.ensures.code

pub returns-then-is_empty-clause-code : goal.returns-then-is_empty-clause-code
returns-then-is_empty-clause-code c = λ slots.
    let a = c.args in
    let i = c.in_ok-i in
    withdraw_empty a.s slots a.memory.now a.key.now i.i.at i.ensures.code i.ensures.row c.payload_of.result.now c.payload_of.ensures.0
    (sym c.is_empty.ensures ∙ c.if-is_empty.true)

pub returns-then-is_spent-clause-code : goal.returns-then-is_spent-clause-code
returns-then-is_spent-clause-code c = λ slots.
    let a = c.args in
    let i = c.in_ok-i in
    withdraw_goes a.s slots a.memory.now a.key.now i.i.at i.ensures.code i.ensures.row c.payload_of.result.now c.payload_of.ensures.0
    (sym c.is_empty.ensures ∙ c.if-is_empty.false) (ap spent (sym c.number_of.ensures) ∙ sym c.is_spent.ensures ∙ c.if-is_spent.true)

pub returns-clause-code : goal.returns-clause-code
returns-clause-code c = λ slots.
    let a = c.args in
    let i = c.in_ok-i in
    withdraw_goes a.s slots a.memory.now a.key.now i.i.at i.ensures.code i.ensures.row c.payload_of.result.now c.payload_of.ensures.0
    (sym c.is_empty.ensures ∙ c.if-is_empty.false) (ap spent (sym c.number_of.ensures) ∙ sym c.is_spent.ensures ∙ c.if-is_spent.false)
