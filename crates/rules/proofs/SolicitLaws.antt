-- Document 02, L2: the put for a record of a CSUS is told by the record that is sent for it.
-- Assumes nothing.
use Prim.Native.Nat.{ℕ}
use mathlib.Core.Path.{◌≡◌, refl, sym, ◌∙◌}
use mathlib.Core.Bool.{Bool, true, false, not, ◌&&◌, ◌||◌}
use mathlib.Core.List.{[]}
use mathlib.Core.Logic.{◌⊎◌, inl, inr, ⊎_elim}
use lib.Dec.{eqb, ltb}
use Rattle.laws.specs.Choice.{pick}
use Rattle.laws.specs.Tables.{on}
use Rattle.laws.proofs.Bools.{and_true, one_true, pick_ap}
use Rattle.protocol.specs.declared.CsaNumber.{CsaNumber}
use Rattle.protocol.specs.Numbers.{newer}
use Rattle.protocol.specs.Messages.{CsaRecord}
use Rattle.rules.specs.Server.{Entry, Value, Row, free, used, waits_for}
use Rattle.rules.specs.Updates.{hops_most, record_of, null_record, solicited_of, answer_waits}

-- the remaining hops of a row, as held
abbrev pub remaining_of : Row → ℕ
remaining_of free = 0
remaining_of (used e v m) = v.remaining

no_more : (waits here : Bool) → waits ≡ (waits || (here && false))
no_more true here = refl
no_more false true = refl
no_more false false = refl

one_more_lem : (waits here more : Bool) → pick more (pick here true waits) waits ≡ (waits || (here && more))
one_more_lem true true true = refl
one_more_lem true true false = refl
one_more_lem true false true = refl
one_more_lem true false false = refl
one_more_lem false true true = refl
one_more_lem false true false = refl
one_more_lem false false true = refl
one_more_lem false false false = refl

module _ (k j : ℕ) (r : CsaRecord) where
  -- whether a greater number was asked for
  by_newer : (e : Entry) (v : Value) (m : ℕ → Bool) (greater : Bool) → pick greater m (pick (ltb 0 v.remaining) (on k true m) m) j
      ≡ (m j || (eqb j k && (not (pick greater (null_record r) (record_of hops_most e v)).null && ltb 0 v.remaining)))
  by_newer e v m true = no_more (m j) (eqb j k)
  by_newer e v m false =
      pick_ap (λ (f : ℕ → Bool). f j) (ltb 0 v.remaining) (on k true m) m ∙ one_more_lem (m j) (eqb j k) (ltb 0 v.remaining)

  -- 'Every record with N clear sent for a CSUS becomes a put for that slot, if its remaining hops are 1 or more': a slot waits for the row if it
  -- did, or if it is the one that asked, what it is sent has N clear, and hops remain
  pub sent_waits : (x : Row) → waits_for j (answer_waits k r.number x)
      ≡ (waits_for j x || (eqb j k && (not (solicited_of r x).null && ltb 0 (remaining_of x))))
  sent_waits free = no_more false (eqb j k)
  sent_waits (used e v m) = by_newer e v m (newer r.number v.number)

-- ---- what follows of a row, whatever was asked for
abbrev asked : CsaNumber → CsaRecord
asked n = record { hops = 1; null = false; number = n; key = []; originator = []; payload = [] }

module _ (k j : ℕ) (n : CsaNumber) (x : Row) where
  pub still_waits : waits_for j x ≡ true → waits_for j (answer_waits k n x) ≡ true
  still_waits h = sent_waits k j (asked n) x ∙ rw h

  -- it waited, or it is put here, and hops remain
  pub told_waits : waits_for j (answer_waits k n x) ≡ true → (waits_for j x ≡ true) ⊎ ((eqb j k ≡ true) × (ltb 0 (remaining_of x) ≡ true))
  told_waits h =
      let clear = not (solicited_of (asked n) x).null in
      let more = ltb 0 (remaining_of x) in
      ⊎_elim inl (λ w. let u = and_true (eqb j k) (clear && more) w in inr (u.0, (and_true clear more u.1).1))
      (one_true (waits_for j x) (eqb j k && (clear && more)) (sym (sent_waits k j (asked n) x) ∙ h))
