-- Laws of entries: the test of two is their equality, and each change of a row leaves its entry in it.
-- Assumes nothing.
use Prim.Native.Nat.{ℕ}
use mathlib.Core.Path.{◌≡◌, refl, sym, ap}
use mathlib.Core.Bool.{Bool, true, false, false≢true}
use mathlib.Core.List.{List}
use Rattle.laws.specs.Tables.{on, has, same}
use Rattle.laws.proofs.Bools.{and_true, pick_of}
use Rattle.laws.proofs.Cells.{find_has, find_none}
use Rattle.laws.proofs.Tables.{same_refl, same_true}
use Rattle.protocol.specs.declared.CsaNumber.{CsaNumber}
use Rattle.protocol.specs.Numbers.{newer}
use Rattle.protocol.specs.Messages.{CsaRecord}
use Rattle.rules.specs.Server.{Entry, same_entry, Value, Row, free, used, is_free, is_used, holds}
use Rattle.rules.specs.Rows.{entry_row, unmarked}
use Rattle.rules.specs.Updates.{changed_row, purged_row, renewed, waits_again, replied, answer_waits}

pub entry_refl : (e : Entry) → same_entry e e ≡ true
entry_refl e = rw (same_refl e.key) (same_refl e.originator)

pub entry_true : (e f : Entry) → same_entry e f ≡ true → e ≡ f
entry_true e f h =
    let p = and_true (same e.key f.key) (same e.originator f.originator) h in
    let q : e.key ≡ f.key = same_true e.key f.key p.0 in
    let r : e.originator ≡ f.originator = same_true e.originator f.originator p.1 in
    λ i. record { key = q i; originator = r i }

-- a test goes along with the entry
pub entry_along : {A : Type 0} (t : Entry → A) (e f : Entry) → same_entry e f ≡ true → t e ≡ t f
entry_along t e f h = ap t (entry_true e f h)

pub holds_along : (e f : Entry) (r : Row) → same_entry e f ≡ true → holds e r ≡ holds f r
holds_along e f r h = entry_along (λ g. holds g r) e f h

-- ---- an entry has a row, or none
used_holds : (e : Entry) (r : Row) → holds e r ≡ true → is_used r ≡ true
used_holds e free h = absurd (false≢true h)
used_holds e (used f v m) h = refl

there_by : (e : Entry) (rows : List Row) (b : Bool) → has (holds e) rows ≡ b → b ≡ is_used (entry_row e rows)
there_by e rows true h = sym (used_holds e (entry_row e rows) (find_has free (holds e) rows h))
there_by e rows false h = ap is_used (sym (find_none free (holds e) rows h))

pub row_there : (e : Entry) (rows : List Row) → has (holds e) rows ≡ is_used (entry_row e rows)
row_there e rows = there_by e rows (has (holds e) rows) refl

-- ---- two rows that are free, or hold the same entry
pub record Alike (a b : Row) : Type 0 where
  pub frees : is_free b ≡ is_free a
  pub holders : (e : Entry) → holds e b ≡ holds e a

alike_free : Alike free free
alike_free = record { frees = refl; holders = λ e. refl }

alike_used : (e : Entry) (v w : Value) (m n : ℕ → Bool) → Alike (used e v m) (used e w n)
alike_used e v w m n = record { frees = refl; holders = λ f. refl }

pub alike_unmarked : (k : ℕ) (r : Row) → Alike r (unmarked k r)
alike_unmarked k free = alike_free
alike_unmarked k (used e v m) = alike_used e v _ m _

pub alike_waits_again : (k : ℕ) (r : Row) → Alike r (waits_again k r)
alike_waits_again k free = alike_free
alike_waits_again k (used e v m) = alike_used e v _ m _

pub alike_replied : (k : ℕ) (n : CsaNumber) (r : Row) → Alike r (replied k n r)
alike_replied k n free = alike_free
alike_replied k n (used e v m) =
    let r : Row = used e v m in
    let q : Row = used e v (on k false m) in
    pick_of (Alike r) (newer n v.number) r _ (alike_used e v v m m)
    (pick_of (Alike r) (newer v.number n) r q (alike_used e v v m m) (alike_used e v v m (on k false m)))

pub alike_answer_waits : (k : ℕ) (n : CsaNumber) (r : Row) → Alike r (answer_waits k n r)
alike_answer_waits k n free = alike_free
alike_answer_waits k n (used e v m) = alike_used e v _ m _

module _ (live : ℕ → Bool) where
  pub alike_renewed : (k : ℕ) (c : CsaRecord) (r : Row) → Alike r (renewed live k c r)
  alike_renewed k c free = alike_free
  alike_renewed k c (used e v m) = alike_used e v _ m _

  pub alike_changed : (payload : List ℕ) (r : Row) → Alike r (changed_row live payload r)
  alike_changed payload free = alike_free
  alike_changed payload (used e v m) = alike_used e v _ m _

  pub alike_purged : (r : Row) → Alike r (purged_row live r)
  alike_purged free = alike_free
  alike_purged (used e v m) = alike_used e v _ m _
