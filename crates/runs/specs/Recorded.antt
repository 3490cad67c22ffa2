-- How a recorded file and its lines are written down: a record by its first octets, the rest of its 292 being 0.
-- Assumes nothing.
use Rattle.std.specs.Prelude.{ℕ, ◌-◌, List, [], ◌∷◌, ◌++◌, replicate}
use Rattle.protocol.proofs.Worked.{octets_of}
use Rattle.rules.specs.Replay.{replay_record, Line}

-- a record whose first n octets are these
abbrev pub record_from : ℕ → ℕ → List ℕ
record_from n x = octets_of n x [] ++ replicate (replay_record - n) 0

abbrev pub file : List (List ℕ) → List ℕ
file [] = []
file (r ∷ rs) = r ++ file rs

-- a line: event number, code, octets written and rows used; the octets are given by their number
abbrev pub expected : ℕ → ℕ → ℕ → ℕ → ℕ → Line
expected n code size rows x = record { numbers = n ∷ code ∷ size ∷ rows ∷ []; octets = octets_of size x [] }
