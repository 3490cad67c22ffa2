-- Refused as the link's code says; else the slot moves to Down and the event ends.
use Rattle.std.proofs.Common.{rules, Ok, Err, ◌≡◌, ℕ, refl, sym, ap, subst, ◌∙◌}
use Rattle.rules.specs.Events.{link_down, code_of}
use Rattle.rules.specs.Refusals.{link_code}
use Rattle.server.proofs.DoesLaws.{does_refused}
use Rattle.server.specs.State.{server_of, Steps, answer_of}
use Rattle.table.specs.Slots.{slot_in}
use Rattle.server.proofs.LinkLaws.{does_silent, down_leaves}
use Rattle.server.proofs.links.link_down.Goals as goal

pub returns-in_err-k : goal.returns-in_err-k
unfolding code_of
returns-in_err-k c =
    let a = c.args in
    let f = c.in_err-k.field-0.0 in
    let t : c.from_residual.result ≡ Err f = search rules in
    does_refused (link_down a.slot a.time) a.s a.slots.now a.memory.now (λ _. refl) {A = ℕ} (Err f) f (answer_of a.s c.from_residual.result)
    (c.in_err-k.ensures.code a.memory.now) refl (ap (answer_of a.s) t)

pub returns : goal.returns
unfolding code_of
returns c =
    let a = c.args in
    let k = c.in_ok-k.k in
    let u = c.move_to in
    let d = c.close-server in
    let from = c.alignment_at-from in
    let q : k.at ≡ a.slot = search rules in
    subst (λ (j : ℕ). Steps (link_down j a.time) a.s a.slots.now u.new.slots a.memory.now d.new.memory (answer_of a.s (Ok (d.result, 0)))) q
    (does_silent (link_down k.at a.time) a.s a.slots.now u.new.slots k.at a.time a.memory.now u.new.memory d.new.memory
    (Ok k) from.result (answer_of a.s (Ok (d.result, 0))) k.below refl refl refl refl
    (c.in_ok-k.ensures.code a.memory.now ∙ ap (λ (j : ℕ). link_code (server_of a.s a.slots.now a.memory.now) j a.time) (sym q)) refl from.ensures
    u.ensures.others
    (down_leaves k.at (slot_in a.slots.now k.at) a.memory.now u.new.memory (slot_in u.new.slots k.at) u.ensures.moves) d.ensures refl)
