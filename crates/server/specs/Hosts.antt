-- What a host did that uses the server as it should: settings that were taken, then any calls of the event functions, in any order, each
-- given the server, the slots and the memory that the last one left. What is claimed of what it holds then.
-- Assumes nothing.
use Rattle.std.specs.Prelude.{ℕ, ◌≡◌, Bool, true, false, List, [], ◌∷◌, ◌++◌, ◌⊎◌, take}
use Rattle.rules.specs.Events.{Event, add_peer, link_up, link_down, packet, poll, set, withdraw, purge, Item}
use Rattle.rules.specs.History.{history}
use Rattle.rules.specs.Demand3.{Demand3}
use Rattle.rules.specs.Written.{WrotePacket}
use Rattle.slots.specs.declared.state.Settings.{Settings}
use Rattle.slots.specs.declared.state.Server.{Server}
use Rattle.slots.specs.Codes.{code_number, written_of}
use Rattle.slots.specs.State.{settings_of}
use Rattle.server.specs.declared.answers.Answer.{Answer}
use Rattle.server.specs.State.{server_of, Starts, Does, DoesOut}
use Rattle.slots.specs.declared.state.Slot.{Slot}

-- 'Only packet and poll use the out buffer'
abbrev pub uses_out : Event → Bool
uses_out (add_peer k id) = false
uses_out (link_up k now) = false
uses_out (link_down k now) = false
uses_out (packet k now p room) = true
uses_out (poll k now room) = true
uses_out (set key payload) = false
uses_out (withdraw key) = false
uses_out (purge key) = false

-- a call as the host saw it: the event, the code that was answered, and the octets that it finds in out, as many as were reported
abbrev pub seen : Event → Answer → List ℕ → Item
seen e r out = record { event = e; code = code_number r.outcome; written = take (written_of r.outcome) out }

-- a host that called `start` with these settings holds a server, its slots and its memory, and saw these calls since
pub data Hosted (c : Settings) : Server → List Slot → List ℕ → List Item → Type 0 where
  started : {slots slots' : List Slot} {before after : List ℕ} {r : Answer}
      → Starts c slots slots' before after r → code_number r.outcome ≡ 0 → Hosted c r.server slots' after []
  called : {s : Server} {slots slots' : List Slot} {before after : List ℕ} {is : List Item} {e : Event} {r : Answer}
      → Hosted c s slots before is → uses_out e ≡ false → Does e s slots slots' before after r → Hosted c r.server slots' after (is ++ (seen e r [] ∷ []))
  wrote : {s : Server} {slots slots' : List Slot} {before after out out' : List ℕ} {is : List Item} {e : Event} {r : Answer}
      → Hosted c s slots before is → DoesOut e s slots slots' before after out out' r → Hosted c r.server slots' after (is ++ (seen e r out' ∷ []))

-- what holds for it: demand 3, with a history that is fed what the host saw, and whatever the next call finds in out is nothing, or one packet
-- that reads back as what was meant
pub record HostHolds (c : Settings) (s : Server) (slots : List Slot) (memory : List ℕ) (is : List Item) : Type 0 where
  pub demand : Demand3 (settings_of c) (server_of s slots memory) (history (settings_of c) is)
  pub packets : {slots' : List Slot} {after out out' : List ℕ} {e : Event} {r : Answer} → DoesOut e s slots slots' memory after out out' r
      → (take (written_of r.outcome) out' ≡ []) ⊎ WrotePacket (server_of s slots memory) e (take (written_of r.outcome) out')
