-- What the settings and the server of a program with octets and 16- and 32-bit numbers keep (document 01, 'Sizes').
-- Assumes nothing.
use Prim.Native.Nat.{ℕ, ◌≤◌, ◌<◌}
use mathlib.Core.Path.{◌≡◌}
use mathlib.Core.Bool.{Bool, true}
use mathlib.Core.List.{List, []}
use mathlib.Core.Logic.{◌⊎◌}
use lib.ListN.{length}
use mir.Syntax.{w32}
use mir.Val.{SFits}
use Rattle.laws.specs.Lists.{All}
use Rattle.protocol.specs.declared.CsaNumber.{CsaNumber}
use Rattle.protocol.specs.declared.Link.{Link}
use Rattle.protocol.specs.Sizes.{id_length, key_most, payload_most}
use Rattle.protocol.specs.Numbers.{reserved, purged}
use Rattle.protocol.specs.Messages.{Message}
use Rattle.protocol.specs.Layouts.{packet_of}
use Rattle.protocol.specs.WellFormed.{Octets, Id, WellFormed}
use Rattle.rules.specs.Server.{Settings, Entry, Value, Row, free, used, Request, Slot, Server}

-- settings that are accepted
pub record GoodSettings (c : Settings) : Type 0 where
  pub id : Id id_length c.id
  pub protocol_fits : c.protocol < 65536
  pub group_fits : c.group < 65536
  pub some_interval : 0 < c.interval
  pub interval_fits : c.interval < 65536
  pub some_factor : 0 < c.factor
  pub factor_fits : c.factor < 65536

-- ---- rows
pub record GoodEntry (e : Entry) : Type 0 where
  pub some_key : 0 < length e.key
  pub key_fits : length e.key ≤ key_most
  pub key_octets : Octets e.key
  pub originator : Id id_length e.originator

pub record GoodNumber (n : CsaNumber) : Type 0 where
  pub fits : SFits w32 n.0
  pub not_reserved : n ≡ reserved → ⊥

pub record GoodValue (v : Value) : Type 0 where
  pub number : GoodNumber v.number
  pub payload_fits : length v.payload ≤ payload_most
  pub payload_octets : Octets v.payload
  pub purged_empty : v.number ≡ purged → v.payload ≡ []
  pub remaining_fits : v.remaining < 65536

-- what waits has hops left: its hop count will be what remains
pub record GoodRow (e : Entry) (v : Value) (m : ℕ → Bool) : Type 0 where
  pub entry : GoodEntry e
  pub value : GoodValue v
  pub hops_left : (k : ℕ) → m k ≡ true → 0 < v.remaining

abbrev pub TypedRow : Row → Type 0
TypedRow free = Unit {0}
TypedRow (used e v m) = GoodRow e v m

-- ---- slots
pub record GoodRequest (q : Request) : Type 0 where
  pub entry : GoodEntry q.entry
  pub number : GoodNumber q.number

-- a message from us to a peer, in our group
pub record Ours (s : Settings) (peer : List ℕ) (m : Message) : Type 0 where
  pub good : WellFormed id_length m
  pub protocol : m.protocol ≡ s.protocol
  pub group : m.group ≡ s.group
  pub sender : m.sender ≡ s.id
  pub receiver : m.receiver ≡ peer

-- no octets, or a packet of ours to a peer
abbrev pub KeptFor : Settings → List ℕ → List ℕ → Type 0
KeptFor s peer p = (p ≡ []) ⊎ ((m : Message) × ((p ≡ packet_of m) × Ours s peer m))

pub record GoodLink (l : Link) : Type 0 where
  pub number : l.number.0 < 4294967296
  pub last : l.last.number.0 < 4294967296

pub record TypedSlot (s : Settings) (x : Slot) : Type 0 where
  pub peer : x.used ≡ true → Id id_length x.peer
  pub link : GoodLink x.link
  pub requests : All GoodRequest x.requests
  pub kept : KeptFor s x.peer x.kept

pub record TypedServer (s : Server) : Type 0 where
  pub settings : GoodSettings s.settings
  pub time : s.time < 4294967296
  pub slots : All (TypedSlot s.settings) s.slots
  pub rows : All TypedRow s.rows
