-- The rows used after a slice of records.
-- Assumes nothing.
use Rattle.std.proofs.Common.{◌≡◌, ℕ, suc, ◌≤◌, Bool, true, false, List, [], ◌∷◌, length, is_ok, sym, ap, ◌∙◌, arith}
use Rattle.laws.specs.Choice.{pick}
use Rattle.laws.specs.Tables.{count}
use Rattle.rules.specs.Server as rules
use Rattle.rules.specs.Server.{Row, is_used, rows_used, fresh}
use Rattle.rules.specs.Events.{run}
use Rattle.rules.specs.Replay.{settings_in, starts_good}
use Rattle.memory.specs.Memory.{rows_in}
use Rattle.memory.proofs.RowPlaces.{rows_length}
use Rattle.server.specs.declared.answers.Answer.{Answer}
use Rattle.lines.specs.Lines.{events_in, Runs}
use Rattle.lines.proofs.RunLaws.{taken}
use Rattle.host.specs.Host.{used_after}
use Rattle.slots.specs.declared.state.Slot.{Slot}

-- ---- no more rows are used than there are
one_more_lem : (b : Bool) (n m : ℕ) → n ≤ m → pick b (suc n) n ≤ suc m
one_more_lem true n m h = omega arith
one_more_lem false n m h = omega arith

count_most_lem : (p : Row → Bool) (rows : List Row) → count p rows ≤ length rows
count_most_lem p [] = omega arith
count_most_lem p (r ∷ rows) = one_more_lem (p r) (count p rows) (length rows) (count_most_lem p rows)

pub few_used : {n : ℕ} (s : List ℕ) → n ≡ rows_used (rows_in s) → n ≤ 64
few_used s e =
    let l : length (rows_in s) ≡ 64 = rows_length s in
    let h : rows_used (rows_in s) ≤ length (rows_in s) = count_most_lem is_used (rows_in s) in
    omega arith

-- ---- what is answered
module _ {input : List ℕ} {slots slots' : List Slot} {before after : List ℕ} {a : Answer} (r : Runs input slots slots' before after a) where
  good : is_ok a.outcome ≡ starts_good input
  good = taken (starts_good input) a.outcome r.code

  pub ran : {n : ℕ} → is_ok a.outcome ≡ true → n ≡ rows_used (rows_in after) → n ≡ used_after input
  ran {n} h e =
      let g : starts_good input ≡ true = sym good ∙ h in
      e ∙ ap (λ (s : rules.Server). rows_used s.rows) (r.server g)
      ∙ ap (λ (t : Bool). pick t (rows_used (run (fresh (settings_in input)) (events_in input)).rows) 255) (sym g)

  pub ran_not : is_ok a.outcome ≡ false → 255 ≡ used_after input
  ran_not h =
      ap (λ (t : Bool). pick t (rows_used (run (fresh (settings_in input)) (events_in input)).rows) 255) (sym (sym good ∙ h))
