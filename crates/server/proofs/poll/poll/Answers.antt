-- Codes 1 to 4 first; then the slot's poll.
use Rattle.std.proofs.Common.{rules, Ok, Err, refl, ◌≡◌, ℕ, length, sym, ap, subst, ◌∙◌}
use Rattle.rules.specs.Events as events
use Rattle.rules.specs.Refusals.{poll_code}
use Rattle.server.specs.State.{server_of, answer_of, StepsOut}
use Rattle.server.proofs.DoesLaws.{poll_room}
use Rattle.server.proofs.PollLaws.{polls, poll_refused}
use Rattle.server.proofs.poll.poll.Goals as goal

pub poll_taken-requires : goal.poll_taken-requires
poll_taken-requires c =
    let a = c.args in
    poll_room (server_of a.s a.slots.now a.memory.now) a.slot a.time (length a.out.now) (Ok c.in_ok-k.k)
    (c.in_ok-k.ensures.code a.memory.now) refl

pub returns-in_err-k : goal.returns-in_err-k
returns-in_err-k c =
    let a = c.args in
    let f = c.in_err-k.field-0.0 in
    let t : c.from_residual.result ≡ Err f = search rules in
    poll_refused {A = ℕ} a.s a.slots.now a.slot a.time a.memory.now a.out.now (Err f) f (answer_of a.s c.from_residual.result)
    (c.in_err-k.ensures.code a.memory.now) refl (ap (answer_of a.s) t)

pub returns : goal.returns
returns c =
    let a = c.args in
    let k = c.in_ok-k.k in
    let p = c.poll_taken in
    let r = answer_of a.s (Ok p.result) in
    let q : k.at ≡ a.slot = search rules in
    subst (λ (j : ℕ). StepsOut (events.poll j a.time (length a.out.now)) a.s a.slots.now p.new.slots a.memory.now p.new.memory a.out.now p.new.out r) q
    (polls a.s a.slots.now p.new.slots k.at a.time a.memory.now p.new.memory a.out.now p.new.out r (Ok k) k.below
    (c.in_ok-k.ensures.code a.memory.now
    ∙ ap (λ (j : ℕ). poll_code (server_of a.s a.slots.now a.memory.now) j a.time (length a.out.now)) (sym q)) refl p.ensures)
