-- Demand 2 at an event: 'what we write reads back as what we meant'.
-- Assumes nothing.
use Rattle.std.specs.Prelude.{ℕ, ◌≤◌, ◌≡◌, true, List, [], ◌⊎◌, length}
use Rattle.protocol.specs.Sizes.{id_length, packet_most}
use Rattle.protocol.specs.Messages.{Message}
use Rattle.protocol.specs.Layouts.{packet_of}
use Rattle.protocol.specs.Reading.{message, read_packet}
use Rattle.protocol.specs.WellFormed.{Octets, WellFormed}
use Rattle.rules.specs.Server.{Server, slot_at}
use Rattle.rules.specs.Refusals.{is_hello}
use Rattle.rules.specs.Events.{Event, in_slot, place_of}

-- the octets p, written at the event e, are one packet that is read as what was meant, from us to that slot's peer, in our group
pub record WrotePacket (s : Server) (e : Event) (p : List ℕ) : Type 0 where
  pub slot : ℕ
  pub place : place_of e ≡ in_slot slot
  pub meaning : Message
  pub octets : p ≡ packet_of meaning
  pub good : WellFormed id_length meaning
  pub read : read_packet id_length p ≡ message meaning
  pub least : 8 ≤ length p
  pub size : length p ≤ packet_most id_length
  pub small : Octets p
  pub protocol : meaning.protocol ≡ s.settings.protocol
  pub group : meaning.group ≡ s.settings.group
  pub sender : meaning.sender ≡ s.settings.id
  -- our Hello may have no receiver
  pub receiver : (meaning.receiver ≡ (slot_at s slot).peer) ⊎ ((is_hello meaning.body ≡ true) × (meaning.receiver ≡ []))
