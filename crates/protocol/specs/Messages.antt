-- What a packet means (document 01, 'Packet layouts'; RFC 2334, appendix B): its fields but for those that are ignored when read.
-- Assumes nothing.
use Rattle.std.specs.Prelude.{ℕ, Bool, false, List, []}
use Rattle.protocol.specs.declared.CaNumber.{CaNumber}
use Rattle.protocol.specs.declared.CsaNumber.{CsaNumber}
use Rattle.protocol.specs.declared.CaFlags.{CaFlags}
use Rattle.protocol.specs.declared.Kind.{Kind}
use Rattle.protocol.specs.declared.Kind.TheVariants.{Ca, CsuRequest, CsuReply, Csus, Hello}

-- an update record (CSA); a summary (CSAS) is one with no payload
pub record CsaRecord : Type 0 where
  pub hops : ℕ
  pub null : Bool
  pub number : CsaNumber
  pub key : List ℕ
  pub originator : List ℕ
  pub payload : List ℕ

-- the summary of a record: 'summaries of ours have hop count 1'
abbrev pub summary_of : CsaRecord → CsaRecord
summary_of r = record { hops = 1; null = false; number = r.number; key = r.key; originator = r.originator; payload = [] }

-- what each of the five types carries beside the common part; a Hello interval, DeadFactor and additional receivers
pub data Body : Type 0 where
  ca : CaNumber → CaFlags → List CsaRecord → Body
  csu_request : List CsaRecord → Body
  csu_reply : List CsaRecord → Body
  csus : List CsaRecord → Body
  hello : ℕ → ℕ → List (List ℕ) → Body

pub record Message : Type 0 where
  pub protocol : ℕ
  pub group : ℕ
  pub sender : List ℕ
  pub receiver : List ℕ
  pub body : Body

abbrev pub kind_of_body : Body → Kind
kind_of_body (ca n f rs) = Ca
kind_of_body (csu_request rs) = CsuRequest
kind_of_body (csu_reply rs) = CsuReply
kind_of_body (csus rs) = Csus
kind_of_body (hello i f rs) = Hello
