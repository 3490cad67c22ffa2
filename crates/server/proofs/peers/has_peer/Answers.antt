-- The slots from k on tell what all tell, so the first that has the peer answers, and past the last none has it.
use Rattle.std.proofs.Common.{rules, sym, ◌∙◌}
use Rattle.server.proofs.PeerLaws.{peer_here, peer_later, peer_nowhere}
use Rattle.server.proofs.peers.has_peer.Goals as goal

pub returns-then-is_peer : goal.returns-then-is_peer
returns-then-is_peer c =
    peer_here c.args.slots.now c.args.id.now c.loop-k.k c.loop-k-test.true c.loop-k.invariant.1
    (sym c.is_peer.ensures ∙ c.if-is_peer.true)

pub loop-k-preserved : goal.loop-k-preserved
loop-k-preserved c = (
  search rules,
  peer_later c.args.slots.now c.args.id.now c.loop-k.k c.loop-k-test.true c.loop-k.invariant.1
      (sym c.is_peer.ensures ∙ c.if-is_peer.false),
)

pub returns : goal.returns
returns c = peer_nowhere c.args.slots.now c.args.id.now c.loop-k.k c.loop-k-test.false c.loop-k.invariant.1
