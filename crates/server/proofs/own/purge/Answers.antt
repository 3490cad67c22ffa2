-- Refused as the row tells; else the row is changed, then swept.
use Rattle.std.proofs.Common.{rules, ◌≡◌, ℕ, Ok, Err, refl, sym, ap}
use Rattle.memory.specs.Memory.{is_marked}
use Rattle.rules.specs.Refusals.{own_entry}
use Rattle.rules.specs.Updates.{purge_rows}
use Rattle.rules.specs.Events as events
use Rattle.rules.specs.Events.{live_in, code_of}
use Rattle.slots.specs.State.{settings_of}
use Rattle.server.specs.State.{slots_of, answer_of}
use Rattle.server.proofs.DoesLaws.{does_refused}
use Rattle.server.proofs.OwnLaws.{swept_after, purge_does}
use Rattle.server.proofs.own.purge.Goals as goal

pub returns-in_err-i : goal.returns-in_err-i
unfolding code_of
returns-in_err-i c =
    let a = c.args in
    let f = c.in_err-i.field-0.0 in
    let t : c.from_residual.result ≡ Err f = search rules in
    does_refused (events.purge a.key.now) a.s a.slots.now a.memory.now (λ _. refl) {A = ℕ} (Err f) f (answer_of a.s c.from_residual.result)
    (c.in_err-i.ensures.code a.slots.now) refl (ap (answer_of a.s) t)

pub returns : goal.returns
returns c =
    let a = c.args in
    let e = own_entry (settings_of a.s.settings) a.key.now in
    let m = c.purge_entry in
    purge_does a.s a.slots.now a.memory.now c.sweep.new.memory a.key.now (Ok c.in_ok-i.i) (answer_of a.s (Ok (a.s, 0))) refl refl
    (c.in_ok-i.ensures.code a.slots.now)
    (swept_after (λ live. purge_rows live e) a.memory.now m.new.memory c.sweep.new.memory (is_marked c.live_of.result)
    (live_in (slots_of a.slots.now a.memory.now)) (c.live_of.ensures a.memory.now) (m.ensures.memory_after e (sym c.in_ok-i.ensures.row)) c.sweep.ensures)
