-- The code refuses, or the slot gets its peer.
use Rattle.std.proofs.Common.{rules, Ok, Err, ◌≡◌, ℕ, refl, sym, ap, subst, ◌∙◌}
use Rattle.server.proofs.DoesLaws.{add_taken, does_refused, does_taken}
use Rattle.server.specs.State.{server_of, answer_of, Steps}
use Rattle.rules.specs.Events.{add_peer, code_of}
use Rattle.rules.specs.Refusals.{add_peer_code}
use Rattle.server.proofs.peers.add_peer.Goals as goal

pub add_taken-server-requires : goal.add_taken-server-requires
add_taken-server-requires c =
    let a = c.args in
    add_taken (server_of a.s a.slots.now a.memory.now) a.slot a.id.now (Ok c.in_ok-k.k) (c.in_ok-k.ensures.code a.memory.now) refl

pub returns-in_err-k : goal.returns-in_err-k
unfolding code_of
returns-in_err-k c =
    let a = c.args in
    let f = c.in_err-k.field-0.0 in
    let t : c.from_residual.result ≡ Err f = search rules in
    does_refused (add_peer a.slot a.id.now) a.s a.slots.now a.memory.now (λ _. refl) {A = ℕ} (Err f) f (answer_of a.s c.from_residual.result)
    (c.in_err-k.ensures.code a.memory.now) refl (ap (answer_of a.s) t)

pub returns : goal.returns
unfolding code_of
returns c =
    let a = c.args in
    let k = c.in_ok-k.k in
    let v = c.add_taken-server in
    let r = answer_of a.s (Ok (v.result, 0)) in
    let q : k.at ≡ a.slot = search rules in
    subst (λ (j : ℕ). Steps (add_peer j a.id.now) a.s a.slots.now v.new.slots a.memory.now v.new.memory r) q
    (does_taken (add_peer k.at a.id.now) a.s a.slots.now a.memory.now (Ok k) v.new.slots v.new.memory r
    (c.in_ok-k.ensures.code a.memory.now ∙ ap (λ (j : ℕ). add_peer_code (server_of a.s a.slots.now a.memory.now) j a.id.now) (sym q)) refl
    refl v.ensures refl)
