-- The tests one behind the other, each with its code; the last tells either way.
use Rattle.std.proofs.Common.{rules, ◌≡◌, ℕ, true, false, sym, ap, ◌∙◌}
use Rattle.rules.specs.Refusals.{add_peer_code}
use Rattle.server.specs.State.{server_of}
use Rattle.server.proofs.PeerLaws.{add_size, add_used, add_own, add_tried}
use Rattle.server.proofs.peers.add_code.Goals as goal
use Rattle.server.proofs.peers.add_code.Goals.{then-id-ne4-via-then-id-ne4, then-id-ne4-via-else-id-ne4+then-used_at}
use Rattle.server.proofs.peers.add_code.Goals.{then-same-via-then-same, then-same-via-else-same+then-has_peer}

pub returns-then-id-ne4-clause-code : goal.returns-then-id-ne4-clause-code
returns-then-id-ne4-clause-code c m =
    let a = c.args in
    let k = c.in_ok-k.k in
    let q : k.at ≡ a.slot = search rules in
    let at = ap (λ (j : ℕ). add_peer_code (server_of a.s a.slots.now m) j a.id.now) q in
    elim c.then-id-ne4.branch [
      | then-id-ne4-via-then-id-ne4 w ↦ add_size a.s a.slots.now k.at a.id.now m k.below w.if-id-ne4.true ∙ at
      | then-id-ne4-via-else-id-ne4+then-used_at w ↦
          add_used a.s a.slots.now k.at a.id.now m k.below w.if-id-ne4.false (sym w.used_at.ensures ∙ w.if-used_at.true) ∙ at
    ]

pub returns-then-same-clause-code : goal.returns-then-same-clause-code
returns-then-same-clause-code c m =
    let a = c.args in
    let k = c.in_ok-k.k in
    let q : k.at ≡ a.slot = search rules in
    let at = ap (λ (j : ℕ). add_peer_code (server_of a.s a.slots.now m) j a.id.now) q in
    let used = sym c.used_at.ensures ∙ c.if-used_at.false in
    elim c.then-same.branch [
      | then-same-via-then-same w ↦ add_own a.s a.slots.now k.at a.id.now m k.below c.if-id-ne4.false used (sym c.same.ensures ∙ w.if-same.true) ∙ at
      | then-same-via-else-same+then-has_peer w ↦
          add_tried a.s a.slots.now k.at a.id.now m k.below c.if-id-ne4.false used true (sym c.same.ensures ∙ w.if-same.false)
          (sym w.if-has_peer.true ∙ w.has_peer.ensures m) ∙ at
    ]

pub returns-clause-code : goal.returns-clause-code
returns-clause-code c m =
    let a = c.args in
    let k = c.in_ok-k.k in
    let q : k.at ≡ a.slot = search rules in
    let at = ap (λ (j : ℕ). add_peer_code (server_of a.s a.slots.now m) j a.id.now) q in
    add_tried a.s a.slots.now k.at a.id.now m k.below c.if-id-ne4.false (sym c.used_at.ensures ∙ c.if-used_at.false) false
    (sym c.same.ensures ∙ c.if-same.false) (sym c.if-has_peer.false ∙ c.has_peer.ensures m) ∙ at
