-- What an event writes: nothing, a packet, or a kept CA again.
-- Assumes nothing.
use Rattle.std.specs.Prelude.{ℕ, List, []}
use Rattle.protocol.specs.Messages.{Message}
use Rattle.protocol.specs.Layouts.{packet_of}

pub data Sent : Type 0 where
  nothing : Sent
  new_packet : Message → Sent
  again : List ℕ → Sent

abbrev pub octets_of : Sent → List ℕ
octets_of nothing = []
octets_of (new_packet m) = packet_of m
octets_of (again p) = p
