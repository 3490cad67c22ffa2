-- The link's code if there is one; then the room, then the link.
use Rattle.std.proofs.Common.{rules, ◌≡◌, ℕ, Bool, sym, ap, ◌∙◌}
use Rattle.laws.specs.Choice.{pick}
use borrow.Author.Tests.{lt-ltb, le-ltb}
use Rattle.rules.specs.Links.{is_down}
use Rattle.table.specs.Slots.{slot_in}
use Rattle.slots.specs.Codes.{failure_number, code_number}
use Rattle.server.proofs.CodeLaws.{poll_stops, poll_goes}
use Rattle.server.proofs.answers.poll_code.Goals as goal

pub returns-in_err-k-clause-code : goal.returns-in_err-k-clause-code
returns-in_err-k-clause-code c = λ m.
    let a = c.args in
    let f = c.in_err-k.field-0.0 in
    let t : code_number c.from_residual.result ≡ failure_number f = search rules in
    t ∙ poll_stops a.s a.slots.now a.slot a.time a.room m f (c.in_err-k.ensures.code m)

pub returns-then-room-lt284-clause-code : goal.returns-then-room-lt284-clause-code
returns-then-room-lt284-clause-code c = λ m.
    let a = c.args in
    let k = c.in_ok-k.k in
    let q : k.at ≡ a.slot = search rules in
    ap (λ (b : Bool). pick {A = ℕ} b 3 (pick (is_down (slot_in a.slots.now k.at).link.hello) 4 0)) (sym (lt-ltb a.room 284 c.if-room-lt284.true))
    ∙ poll_goes a.s a.slots.now a.slot a.time a.room m k q (c.in_ok-k.ensures.code m)

pub returns-then-is_down-clause-code : goal.returns-then-is_down-clause-code
returns-then-is_down-clause-code c = λ m.
    let a = c.args in
    let k = c.in_ok-k.k in
    let q : k.at ≡ a.slot = search rules in
    ap (λ (b : Bool). pick {A = ℕ} b 4 0) (sym c.if-is_down.true ∙ c.is_down.ensures ∙ ap is_down c.hello_at.ensures)
    ∙ ap (λ (b : Bool). pick {A = ℕ} b 3 (pick (is_down (slot_in a.slots.now k.at).link.hello) 4 0)) (sym (le-ltb a.room 284 c.if-room-lt284.false))
    ∙ poll_goes a.s a.slots.now a.slot a.time a.room m k q (c.in_ok-k.ensures.code m)

pub returns-clause-code : goal.returns-clause-code
returns-clause-code c = λ m.
    let a = c.args in
    let k = c.in_ok-k.k in
    let q : k.at ≡ a.slot = search rules in
    ap (λ (b : Bool). pick {A = ℕ} b 4 0) (sym c.if-is_down.false ∙ c.is_down.ensures ∙ ap is_down c.hello_at.ensures)
    ∙ ap (λ (b : Bool). pick {A = ℕ} b 3 (pick (is_down (slot_in a.slots.now k.at).link.hello) 4 0)) (sym (le-ltb a.room 284 c.if-room-lt284.false))
    ∙ poll_goes a.s a.slots.now a.slot a.time a.room m k q (c.in_ok-k.ensures.code m)
