-- No receiver so far is us, so the answer for all is the answer for the rest.
use Rattle.std.proofs.Common.{◌+◌, Bool}
use mathlib.Core.Path.{sym, ap, ◌∙◌}
use mathlib.Core.Bool.{◌||◌}
use Rattle.actions.proofs.ReceiverLaws.{rest, rest_is, rest_none}
use Rattle.actions.proofs.hello.any_receiver.Goals as goal

pub returns-then-same : goal.returns-then-same
returns-then-same c =
    let a = c.args in
    let r = a.h.head.records in
    let l = c.loop-i in
    sym (l.invariant ∙ rest_is a.id.now a.h.octets.now r.left r.at l.i c.receiver.result.now c.same.result
    c.loop-i-test.true c.receiver.ensures c.same.ensures
    ∙ ap (λ (b : Bool). b || rest a.id.now a.h.octets.now r.left r.at (l.i + 1)) c.if-same.true)

pub loop-i-preserved : goal.loop-i-preserved
loop-i-preserved c =
    let a = c.args in
    let r = a.h.head.records in
    let l = c.loop-i in
    l.invariant ∙ rest_is a.id.now a.h.octets.now r.left r.at l.i c.receiver.result.now c.same.result
    c.loop-i-test.true c.receiver.ensures c.same.ensures
    ∙ ap (λ (b : Bool). b || rest a.id.now a.h.octets.now r.left r.at (l.i + 1)) c.if-same.false

pub returns : goal.returns
returns c =
    let a = c.args in
    let r = a.h.head.records in
    let l = c.loop-i in
    sym (l.invariant ∙ rest_none a.id.now a.h.octets.now r.left r.at l.i c.loop-i-test.false)
