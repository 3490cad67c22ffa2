-- The rule of an update record, by the row of its entry.
-- Assumes nothing.
use Prim.Native.Nat.{ℕ}
use mathlib.Core.Path.{◌≡◌, sym, ap, ◌∙◌}
use mathlib.Core.Bool.{false}
use mathlib.Core.List.{List}
use Rattle.laws.specs.Choice.{pick}
use Rattle.laws.specs.Tables.{has}
use Rattle.protocol.specs.declared.CsaNumber.{CsaNumber}
use Rattle.protocol.specs.Numbers.{newer}
use Rattle.protocol.specs.Messages.{CsaRecord}
use Rattle.rules.specs.Server.{is_free, holds}
use Rattle.rules.specs.Rows.{entry_row, is_purged}
use Rattle.rules.specs.Requests.{entry_of}
use Rattle.rules.specs.Updates.{UpdateRule, null, purge_absent, full, stored, equal, older, rule_at, update_rule}
use Rattle.std.specs.Prelude.{Some, None}
use Rattle.memory.specs.Memory.{value_at, rows_in}
use Rattle.memory.specs.Search.{first_from}
use Rattle.memory.proofs.EntryLaws.{found_entry, none_entry}

module _ (s : List ℕ) (v : CsaRecord) where
  module _ (some : v.null ≡ false) (u : UpdateRule) (number : CsaNumber) (n : number ≡ v.number) where
    ruled : update_rule v (rows_in s) ≡ rule_at number (has is_free (rows_in s)) (entry_row (entry_of v) (rows_in s))
    ruled = λ i. pick (some i) null (rule_at (sym n i) (has is_free (rows_in s)) (entry_row (entry_of v) (rows_in s)))

    pub rule_held : (i : ℕ) (held : CsaNumber) → first_from (holds (entry_of v)) 0 (rows_in s) ≡ Some i → held ≡ (value_at s i).number
        → u ≡ pick (newer number held) stored (pick (newer held number) older equal) → u ≡ update_rule v (rows_in s)
    rule_held i held at h e =
        e ∙ ap (λ (m : CsaNumber). pick (newer number m) stored (pick (newer m number) older equal)) h
        ∙ sym (ruled ∙ ap (rule_at number (has is_free (rows_in s))) (found_entry (entry_of v) s i at))

    pub rule_absent : first_from (holds (entry_of v)) 0 (rows_in s) ≡ None
        → u ≡ pick (is_purged number) purge_absent (pick (has is_free (rows_in s)) stored full) → u ≡ update_rule v (rows_in s)
    rule_absent none e = e ∙ sym (ruled ∙ ap (rule_at number (has is_free (rows_in s))) (none_entry (entry_of v) s none))
