-- So far no slot had the peer: those from k on tell what all tell.
use Rattle.std.proofs.Common.{◌-◌, ◌≤◌}
use Rattle.server.proofs.PeerLaws.{RestTells}
use Rattle.server.proofs.peers.has_peer.Given as goal

abbrev pub invariant-loop-k : goal.invariant-loop-k
invariant-loop-k l = (l.k ≤ 8) × RestTells l.slots l.id l.k

abbrev pub decreases-loop-k : goal.decreases-loop-k
decreases-loop-k l = 8 - l.k
