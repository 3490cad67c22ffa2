-- What the arguments of a program's calls keep: octets are below 256, numbers fit their 16 or 32 bits (document 01, 'Sizes'). The rules
-- themselves speak of any natural numbers.
-- Assumes nothing.
use Rattle.std.specs.Prelude.{◌<◌}
use Rattle.protocol.specs.WellFormed.{Octets}
use Rattle.rules.specs.Server.{Settings}
use Rattle.rules.specs.Events.{Event, add_peer, link_up, link_down, packet, poll, set, withdraw, purge}

pub record TypedSettings (c : Settings) : Type 0 where
  pub id_octets : Octets c.id
  pub protocol_fits : c.protocol < 65536
  pub group_fits : c.group < 65536
  pub interval_fits : c.interval < 65536
  pub factor_fits : c.factor < 65536

-- its lists are octets, its time has 32 bits
abbrev pub TypedEvent : Event → Type 0
TypedEvent (add_peer k id) = Octets id
TypedEvent (link_up k now) = now < 4294967296
TypedEvent (link_down k now) = now < 4294967296
TypedEvent (packet k now p room) = (now < 4294967296) × Octets p
TypedEvent (poll k now room) = now < 4294967296
TypedEvent (set key payload) = Octets key × Octets payload
TypedEvent (withdraw key) = Octets key
TypedEvent (purge key) = Octets key
