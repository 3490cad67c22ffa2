-- Events for cases that are evaluated: the server 10.0.0.2, whose peers in slots 0 and 1 are 10.0.0.1 and 10.0.0.3.
-- Assumes nothing.
use Prim.Native.Nat.{ℕ, zero, suc}
use mathlib.Core.Bool.{Bool, true, false}
use mathlib.Core.List.{List, [], ◌∷◌}
use Rattle.protocol.specs.declared.CaFlags.{CaFlags}
use Rattle.protocol.specs.Numbers.{ca_number}
use Rattle.protocol.specs.Messages.{Body, ca, hello}
use Rattle.protocol.specs.Layouts.{packet_of}
use Rattle.rules.specs.Server.{Settings}
use Rattle.rules.specs.Events.{Event, add_peer, link_up, packet, poll, set}

-- the ID 10.0.0.n
abbrev pub server : ℕ → List ℕ
server n = 10 ∷ 0 ∷ 0 ∷ n ∷ []

abbrev pub settings : Settings
settings = record { id = server 2; protocol = 2; group = 7; interval = 100; factor = 3 }

abbrev pub peer_of : ℕ → List ℕ
peer_of zero = server 1
peer_of (suc k) = server 3

-- a packet of the peer in slot k
abbrev pub says : ℕ → ℕ → Body → Event
says k now b = packet k now (packet_of (record { protocol = 2; group = 7; sender = peer_of k; receiver = server 2; body = b })) 284

abbrev pub polled : ℕ → ℕ → Event
polled k now = poll k now 284

abbrev flags : Bool → Bool → Bool → CaFlags
flags m i o = record { master = m; initial = i; more = o }

-- the slot's peer is heard at second 1
abbrev heard : ℕ → List Event → List Event
heard k es = add_peer k (peer_of k) ∷ link_up k 1 ∷ says k 1 (hello 100 10 []) ∷ polled k 1 ∷ es

-- slot 0 is Aligned, and we are master
abbrev pub begun : List Event
begun =
    heard 0
    (polled 0 2 ∷ says 0 2 (ca (ca_number 1) (flags false false false) []) ∷ says 0 2 (ca (ca_number 2) (flags false false false) []) ∷ [])

-- slot 1 is Aligned, and we are slave
abbrev pub begun_slave : List Event
begun_slave = heard 1 (says 1 1 (ca (ca_number 40) (flags true true true) []) ∷ says 1 1 (ca (ca_number 41) (flags true false false) []) ∷ [])

-- keys of one octet, all with the payload x
abbrev pub sets : ℕ → List ℕ → List Event
sets x [] = []
sets x (k ∷ ks) = set (k ∷ []) (x ∷ []) ∷ sets x ks
