-- What the functions leave that put records into a packet to be written.
-- Assumes nothing.
use Rattle.std.specs.Prelude.{ℕ, ◌+◌, ◌*◌, ◌≤◌, ◌≡◌, Bool, List, [], ◌∷◌, length}
use Rattle.laws.specs.Choice.{pick}
use Rattle.laws.specs.Puts.{Put}
use Rattle.protocol.specs.declared.CsaNumber.{CsaNumber}
use Rattle.protocol.specs.Messages.{CsaRecord, summary_of}
use Rattle.protocol.specs.Layouts.{records_octets}
use Rattle.rules.specs.Server.{Entry, Value}
use Rattle.rules.specs.Alignment.{summary_record}
use Rattle.rules.specs.Poll.{held_record}
use Rattle.rules.specs.Updates.{UpdateRule, is_acknowledged}
use Rattle.records.specs.declared.put.Placed.{Placed}
use Rattle.records.specs.declared.held.Shape.{Shape}
use Rattle.records.specs.declared.held.Shape.TheVariants.{Summary, Whole}

-- a record of an entry
abbrev pub entry_record : ℕ → Bool → CsaNumber → Entry → List ℕ → CsaRecord
entry_record hops null number e payload = record {
  hops = hops;
  null = null;
  number = number;
  key = e.key;
  originator = e.originator;
  payload = payload;
}

-- records of at most `most` octets each, put at a place; n is the place behind them
pub record Puts (most : ℕ) (rs : List CsaRecord) (at : ℕ) (before after : List ℕ) (n : ℕ) : Type 0 where
  pub octets : Put (records_octets [] rs) at before after n
  pub near : n ≤ at + length rs * most

-- and how many they are
pub record Places (most : ℕ) (rs : List CsaRecord) (at : ℕ) (before after : List ℕ) (x : Placed) : Type 0 where
  pub count : x.count ≡ length rs
  pub puts : Puts most rs at before after x.next

-- records put behind those before
pub record Adds (most : ℕ) (rs : List CsaRecord) (to : Placed) (before after : List ℕ) (x : Placed) : Type 0 where
  pub count : x.count ≡ to.count + length rs
  pub puts : Puts most rs to.next before after x.next

-- a row as it is put: its summary, or whole
abbrev pub shape_of : Shape → Entry → Value → CsaRecord
shape_of Summary e v = summary_record e v
shape_of Whole e v = held_record e v

abbrev pub most_of : Shape → ℕ
most_of Summary = 32
most_of Whole = 64

-- the summary of a record that is acknowledged
abbrev pub reply_of : UpdateRule → CsaRecord → List CsaRecord
reply_of u v = pick (is_acknowledged u) (summary_of v ∷ []) []
