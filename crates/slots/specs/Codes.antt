-- Document 01, 'Answers to an event': the number of each case.
-- Assumes nothing.
use Rattle.std.specs.Prelude.{ℕ, Result, Ok, Err}
use Rattle.slots.specs.declared.answers.Failure.{Failure}
use Rattle.slots.specs.declared.answers.Failure.TheVariants as failure

abbrev pub failure_number : Failure → ℕ
failure_number failure.NoPeer = 1
failure_number failure.TimeBefore = 2
failure_number failure.ShortOut = 3
failure_number failure.LinkDown = 4
failure_number failure.Length = 5
failure_number failure.Version = 6
failure_number failure.Type = 7
failure_number failure.Checksum = 8
failure_number failure.Extensions = 9
failure_number failure.Malformed = 10
failure_number failure.Group = 11
failure_number failure.Receiver = 12
failure_number failure.Sender = 13
failure_number failure.State = 14
failure_number failure.NoFreeRow = 15
failure_number failure.NumberSpent = 16
failure_number failure.Size = 17
failure_number failure.NoEntry = 18

-- 0 for an event that is taken
abbrev pub code_number : {A : Type 0} → Result A Failure → ℕ
code_number (Ok _) = 0
code_number (Err f) = failure_number f

-- how many octets an event wrote: none where it is refused
abbrev pub written_of : Result ℕ Failure → ℕ
written_of (Ok n) = n
written_of (Err _) = 0
