-- What a host is shown of a row, of a free one an empty entry and an empty value; and of a slot, its state.
-- Assumes nothing.
use Rattle.std.specs.Prelude.{ℕ, zero, suc, [], ◌∷◌, pos}
use Rattle.protocol.specs.declared.HelloState.{HelloState}
use Rattle.protocol.specs.declared.Alignment.{Alignment}
use Rattle.protocol.specs.declared.Role.{Role}
use Rattle.protocol.specs.Numbers.{csa_number}
use Rattle.protocol.specs.Answers.{first_code}
use Rattle.rules.specs.Server.{Entry, Value, Row, free, used, Slot, Server, slot_at}
use Rattle.rules.specs.Refusals.{no_peer}
use Rattle.slots.specs.Codes.{failure_number}
use Rattle.server.specs.declared.queries.SlotState.{SlotState}
use Rattle.slots.specs.declared.answers.Failure.{Failure}
use Rattle.std.specs.Prelude.{Result, Ok, Err}

abbrev pub no_entry : Entry
no_entry = record { key = []; originator = [] }

abbrev pub no_value : Value
no_value = record { number = csa_number (pos 0); payload = []; remaining = 0 }

abbrev pub entry_shown : Row → Entry
entry_shown free = no_entry
entry_shown (used e v m) = e

abbrev pub value_shown : Row → Value
value_shown free = no_value
value_shown (used e v m) = v

-- ---- document 02, L1: 'Report beside the state how many requests written at polls'
pub data Report : Type 0 where
  refused : ℕ → Report
  shown : (hello : HelloState) (alignment : Alignment) (role : Role) (updates missed : ℕ) → Report

abbrev pub slot_report : Slot → Report
slot_report x = shown x.link.hello x.link.alignment x.link.role x.updates x.missed

-- 1 for a slot above 7, or no peer in it; 'Refusals: none new'
abbrev pub report_code : Server → ℕ → ℕ
report_code s k = first_code (no_peer s k ∷ [])

abbrev pub report_by : ℕ → Slot → Report
report_by zero x = slot_report x
report_by (suc c) x = refused (suc c)

abbrev pub report_of : Server → ℕ → Report
report_of s k = report_by (report_code s k) (slot_at s k)

-- what the program answers
abbrev pub reported : Result SlotState Failure → Report
reported (Err f) = refused (failure_number f)
reported (Ok x) = shown x.hello x.alignment x.role x.updates x.missed
