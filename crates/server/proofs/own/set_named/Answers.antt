-- The entry that the name tells is ours, so the row that was found for it tells the code: it refuses, or the entry is set, and the rows swept.
use Rattle.std.proofs.Common.{rules, ◌≡◌, ℕ, Ok, Err, refl, ap}
use Rattle.rules.specs.Refusals.{own_entry}
use Rattle.rules.specs.Updates.{set_rows}
use Rattle.rules.specs.Events as events
use Rattle.rules.specs.Events.{live_in, code_of}
use Rattle.slots.specs.State.{settings_of}
use Rattle.memory.specs.Memory.{entry_named, is_marked}
use Rattle.memory.specs.Search.{place_found}
use Rattle.server.specs.State.{slots_of, answer_of}
use Rattle.server.proofs.DoesLaws.{does_refused}
use Rattle.server.proofs.OwnLaws.{found_same, swept_after, set_does}
use Rattle.server.proofs.own.set_named.Goals as goal

pub returns-in_err-set_code : goal.returns-in_err-set_code
unfolding code_of
returns-in_err-set_code c = λ key good fits e.
    let a = c.args in
    let f = c.in_err-set_code.field-0.0 in
    let t : c.from_residual.result ≡ Err f = search rules in
    let w = c.find-found in
    let found = found_same (place_found w.result) a.memory.now (entry_named a.name.octets.now) (own_entry (settings_of a.s.settings) key) e w.ensures in
    does_refused (events.set key a.payload.octets.now) a.s a.slots.now a.memory.now (λ _. refl) {A = ℕ} (Err f) f (answer_of a.s c.from_residual.result)
    (c.in_err-set_code.ensures a.s a.slots.now key a.payload.octets.now good fits found) refl (ap (answer_of a.s) t)

pub returns : goal.returns
returns c = λ key good fits e.
    let a = c.args in
    let code = c.set_code in
    let f = c.find-found in
    let m = c.set_entry in
    let found = found_same (place_found f.result) a.memory.now (entry_named a.name.octets.now) (own_entry (settings_of a.s.settings) key) e f.ensures in
    set_does a.s a.slots.now a.memory.now c.sweep.new.memory key code.result (answer_of a.s (Ok (a.s, 0))) (search rules) refl
    a.payload.octets.now (entry_named a.name.octets.now) e (code.ensures a.s a.slots.now key a.payload.octets.now good fits found)
    (swept_after (λ live. set_rows live (entry_named a.name.octets.now) a.payload.octets.now) a.memory.now m.new.memory c.sweep.new.memory
    (is_marked c.live_of.result) (live_in (slots_of a.slots.now a.memory.now)) (c.live_of.ensures a.memory.now) m.ensures c.sweep.ensures)
