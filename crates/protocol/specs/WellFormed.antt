-- The messages that 'Sizes' and the layouts allow: those that the server may write, and those that reading may give.
-- Assumes nothing.
use Rattle.std.specs.Prelude.{ℕ, ◌≤◌, ◌<◌, ◌≡◌, true, false, List, [], ◌⊎◌, length}
use Rattle.std.specs.Int.{w32}
use Rattle.std.proofs.Common.{SFits}
use Rattle.laws.specs.Lists.{All}
use Rattle.protocol.specs.declared.Kind.{Kind}
use Rattle.protocol.specs.declared.Kind.TheVariants.{Ca, CsuRequest, CsuReply, Csus}
use Rattle.protocol.specs.Sizes.{key_most, payload_most, records_most, receivers_most}
use Rattle.protocol.specs.Fields.{octet}
use Rattle.protocol.specs.Numbers.{reserved, purged}
use Rattle.protocol.specs.Messages.{CsaRecord, Body, ca, csu_request, csu_reply, csus, hello, Message}
use Rattle.protocol.specs.Checks.{is_request_kind}

-- each element is an octet
abbrev pub Octets : List ℕ → Type 0
Octets p = (at : ℕ) → octet p at < 256

-- some octets that are an ID
pub record Id (w : ℕ) (id : List ℕ) : Type 0 where
  pub size : length id ≡ w
  pub octets : Octets id

-- a record of a packet of kind k: a summary where it is no CSU Request
pub record GoodRecord (w : ℕ) (k : Kind) (r : CsaRecord) : Type 0 where
  pub some_hops : 0 < r.hops
  pub hops_fit : r.hops < 65536
  pub some_key : 0 < length r.key
  pub key_fits : length r.key ≤ key_most
  pub key_octets : Octets r.key
  pub originator : Id w r.originator
  pub number_fits : SFits w32 r.number.0
  pub not_reserved : r.number ≡ reserved → ⊥
  pub payload_fits : length r.payload ≤ payload_most
  pub payload_octets : Octets r.payload
  pub null_empty : r.null ≡ true → r.payload ≡ []
  pub purged_empty : r.number ≡ purged → r.payload ≡ []
  pub summary_plain : is_request_kind k ≡ false → r.null ≡ false
  pub summary_empty : is_request_kind k ≡ false → r.payload ≡ []

pub record GoodRecords (w : ℕ) (k : Kind) (rs : List CsaRecord) : Type 0 where
  pub few : length rs ≤ records_most
  pub each : All (GoodRecord w k) rs

pub record GoodHello (w interval factor : ℕ) (ids : List (List ℕ)) : Type 0 where
  pub some_interval : 0 < interval
  pub interval_fits : interval < 65536
  pub some_factor : 0 < factor
  pub factor_fits : factor < 65536
  pub few : length ids ≤ receivers_most
  pub each : All (Id w) ids

abbrev pub GoodBody : ℕ → Body → Type 0
GoodBody w (ca n f rs) = (n.0 < 4294967296) × GoodRecords w Ca rs
GoodBody w (csu_request rs) = GoodRecords w CsuRequest rs
GoodBody w (csu_reply rs) = GoodRecords w CsuReply rs
GoodBody w (csus rs) = GoodRecords w Csus rs
GoodBody w (hello i f ids) = GoodHello w i f ids

-- 'Receiver length 0 is right in Hello only'
abbrev pub GoodReceiver : ℕ → Body → List ℕ → Type 0
GoodReceiver w (ca n f rs) id = Id w id
GoodReceiver w (csu_request rs) id = Id w id
GoodReceiver w (csu_reply rs) id = Id w id
GoodReceiver w (csus rs) id = Id w id
GoodReceiver w (hello i f ids) id = Id w id ⊎ (id ≡ [])

pub record WellFormed (w : ℕ) (m : Message) : Type 0 where
  pub protocol_fits : m.protocol < 65536
  pub group_fits : m.group < 65536
  pub sender : Id w m.sender
  pub receiver : GoodReceiver w m.body m.receiver
  pub body : GoodBody w m.body
