-- A packet read: the refusal that it gets, or the message that it is.
-- Assumes nothing.
use Rattle.std.specs.Prelude.{ℕ, zero, suc, ◌+◌, ◌%◌, List, [], ◌∷◌, eqb, leb}
use Rattle.laws.specs.Choice.{pick}
use Rattle.laws.specs.Lists.{part}
use Rattle.protocol.specs.declared.Kind.{Kind}
use Rattle.protocol.specs.declared.Kind.TheVariants.{Ca, CsuRequest, CsuReply, Csus, Hello}
use Rattle.std.specs.Prelude.{Ok, Err}
use Rattle.protocol.specs.Checks.{Checked}
use Rattle.protocol.specs.declared.CaFlags.{CaFlags}
use Rattle.protocol.specs.Sizes.{common_size, record_size}
use Rattle.protocol.specs.Fields.{octet, field2, field4}
use Rattle.protocol.specs.Numbers as numbers
use Rattle.protocol.specs.Messages.{CsaRecord, Body, ca, csu_request, csu_reply, csus, hello, Message}
use Rattle.protocol.specs.Checks.{common_at, count_at, elements_at, null_at, summary_size, payload_size, mandatory_check}
use Rattle.protocol.specs.Answers.{fixed_code}

-- the kind of a type octet of 1 to 5
abbrev pub kind_of : ℕ → Kind
kind_of t = pick (eqb t 1) Ca (pick (eqb t 2) CsuRequest (pick (eqb t 3) CsuReply (pick (eqb t 4) Csus Hello)))

-- the record at a position
unfoldable pub record_at : ℕ → List ℕ → ℕ → CsaRecord
record_at w p r = record {
  hops = field2 p r;
  null = null_at p r;
  number = numbers.csa_of (field4 p (r + 8));
  key = part p (r + record_size) (octet p (r + 4));
  originator = part p (r + record_size + octet p (r + 4)) w;
  payload = part p (r + summary_size w p r) (payload_size w p r);
}

-- n records from a position on
unfoldable pub records_at : ℕ → List ℕ → ℕ → ℕ → List CsaRecord
records_at w p zero at = []
records_at w p (suc n) at = record_at w p at ∷ records_at w p n (at + field2 p (at + 2))

-- n receivers from a position on
unfoldable pub receivers_at : ℕ → List ℕ → ℕ → ℕ → List (List ℕ)
receivers_at w p zero at = []
receivers_at w p (suc n) at = part p (at + 1) w ∷ receivers_at w p n (at + (1 + w))

-- the M, I and O bits of the flags at a position
abbrev pub flags_at : List ℕ → ℕ → CaFlags
flags_at p at = record { master = leb 128 (octet p at); initial = leb 64 (octet p at % 128); more = leb 32 (octet p at % 64) }

-- with n records or receivers from a position on
abbrev pub body_at : ℕ → Kind → List ℕ → ℕ → ℕ → Body
body_at w Ca p n at = ca (numbers.ca_number (field4 p 8)) (flags_at p 18) (records_at w p n at)
body_at w CsuRequest p n at = csu_request (records_at w p n at)
body_at w CsuReply p n at = csu_reply (records_at w p n at)
body_at w Csus p n at = csus (records_at w p n at)
body_at w Hello p n at = hello (field2 p 8) (field2 p 10) (receivers_at w p n at)

unfoldable pub message_at : ℕ → Kind → List ℕ → Message
message_at w k p = record {
  protocol = field2 p (common_at k);
  group = field2 p (common_at k + 2);
  sender = part p (common_at k + common_size) w;
  receiver = part p (common_at k + common_size + w) (octet p (common_at k + 9));
  body = body_at w k p (count_at k p) (elements_at w k p);
}

-- codes 5 to 9; code 10 with the position of the first field that breaks a rule; or the message
pub data Reading : Type 0 where
  refused : ℕ → Reading
  malformed : ℕ → Reading
  message : Message → Reading

abbrev pub by_check : Checked → ℕ → Kind → List ℕ → Reading
by_check (Ok _) w k p = message (message_at w k p)
by_check (Err at) w k p = malformed at

abbrev pub by_code : ℕ → ℕ → Kind → List ℕ → Reading
by_code zero w k p = by_check (mandatory_check w k p) w k p
by_code (suc c) w k p = refused (suc c)

unfoldable pub read_packet : ℕ → List ℕ → Reading
read_packet w p = by_code (fixed_code w p) w (kind_of (octet p 1)) p

-- this paper's number for each
abbrev pub refusal_of : Reading → ℕ
refusal_of (refused c) = c
refusal_of (malformed at) = 10
refusal_of (message m) = 0
