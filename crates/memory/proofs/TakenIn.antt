-- A summary taken in: nothing changes where the rows have the entry, else it joins.
-- Assumes nothing.
use Rattle.std.proofs.Common.{◌≡◌, ℕ, true, false, List, [], sym, refl, ap, ◌∙◌}
use mathlib.Core.Bool.{false≢true}
use lib.Seq.{set-get_or}
use Rattle.protocol.specs.declared.CsaNumber.{CsaNumber}
use Rattle.rules.specs.Server.{Entry, Request}
use Rattle.rules.specs.Rows.{entry_row}
use Rattle.rules.specs.Requests.{up_to_date}
use Rattle.memory.specs.Memory.{rows_in, Memory, memory_of, requests_put, requests_of}
use Rattle.memory.specs.Lists.{Joins, TakesIn}

-- a list put back where it was
same_list : (m : Memory) (k : ℕ) → requests_put k (requests_of m k) m ≡ m
same_list m k = ap (λ (l : List (List Request)). record { rows = m.rows; requests = l; kept = m.kept }) (set-get_or m.requests k [])

module _ (s : List ℕ) (k : ℕ) (e : Entry) (n : CsaNumber) (missed : ℕ) where
  pub taken_none : up_to_date n (entry_row e (rows_in s)) ≡ true → TakesIn k e n missed s s missed
  taken_none h = record { list = rw h (sym (same_list (memory_of s) k)); count = rw h; kept = λ g. refl; full = λ f g. refl }

  pub taken_joins : (t : List ℕ) (r : ℕ) → up_to_date n (entry_row e (rows_in s)) ≡ false → Joins k e n missed s t r → TakesIn k e n missed s t r
  taken_joins t r h j = record { list = rw h j.list; count = rw h j.count; kept = λ g. absurd (false≢true (sym h ∙ g)); full = j.kept }
