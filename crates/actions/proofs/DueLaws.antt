-- What is due at a poll: a plan with no rows, an update request while a row waits, and what the Hello check leaves of it.
-- Assumes nothing.
use Prim.Native.Nat.{ℕ, zero, suc, ◌+◌, ◌%◌, ◌≤◌, ◌<◌}
use mathlib.Core.Path.{◌≡◌, refl, sym, ap, subst, ◌∙◌}
use mathlib.Core.Bool.{Bool, true, false, not, ◌&&◌, false≢true}
use mathlib.Core.Logic.{◌⊎◌, inl, inr}
use mathlib.Core.List.{List, [], ◌∷◌}
use native.Mathlib.Omega.{arith}
use lib.Dec.{eqb}
use lib.ListN.{length, take}
use borrow.Author.Tests.{eq-eqb, ne_eqb}
use Rattle.laws.specs.Choice.{pick}
use Rattle.laws.specs.Lists.{is_empty, All}
use Rattle.laws.specs.Tables.{has}
use Rattle.laws.proofs.Bools.{is_false}
use Rattle.laws.proofs.Cells.{has_true, has_at, within}
use Rattle.laws.proofs.TableLaws.{table_length}
use Rattle.protocol.specs.declared.Alignment.{Alignment}
use Rattle.rules.specs.Server as rules
use Rattle.rules.specs.Server.{rows_most, Row, free, waits_for, row_at, Request}
use Rattle.rules.specs.Rows.{behind, next_waiting}
use Rattle.std.specs.Prelude.{Option, Some, None}
use Rattle.rules.specs.Slots.{passed}
use Rattle.rules.specs.Poll as poll
use Rattle.rules.specs.Poll.{due_in}
use Rattle.rules.proofs.NextLaws.{far, reached_or_nearer, next_passes}
use Rattle.memory.specs.declared.next.Picks.{Picks}
use Rattle.memory.specs.Memory.{row_in, rows_in, memory_of, requests_in, requests_of}
use Rattle.memory.specs.Marks.{picks_of, Picked}
use Rattle.memory.proofs.Rooms.{requests_of_lem}
use Rattle.slots.specs.declared.state.Slot.{Slot}
use Rattle.actions.specs.declared.due.Due.{Due}
use Rattle.actions.specs.declared.due.Due.TheVariants.{Update}
use Rattle.actions.specs.Steps.{due_kind, due_as, GoodPicks, GoodPlan, Plans}

-- ---- plans with no rows
module _ (k : ℕ) (x : Slot) (memory : List ℕ) (r : Option Due) where
  pub planned : (e : Option Due) (d : poll.Due) → GoodPlan e k x memory → due_as e ≡ d → r ≡ e → Plans d k x memory r
  planned e d g f h = subst (λ (p : Option Due). Plans d k x memory p) (sym h) (record { which = f; rows = g })

  pub planned_if : (due : Due) → GoodPicks due k x memory → (b : Bool) → r ≡ pick b (Some due) None
      → Plans (pick b (due_kind due) poll.nothing_due) k x memory r
  planned_if due g true h = planned (Some due) (due_kind due) g refl h
  planned_if due g false h = planned None poll.nothing_due tt refl h

pub planned_as : {d : poll.Due} {k : ℕ} {x : Slot} {memory : List ℕ} {r e : Option Due} → r ≡ e → Plans d k x memory r → Plans d k x memory e
planned_as {d} {k} {x} {memory} h p = subst (λ (z : Option Due). Plans d k x memory z) h p

-- ---- 'CSU Request .. while a row waits'
rows_many : (s : List ℕ) → length (rows_in s) ≡ 64
unfolding rows_in
rows_many s = table_length (row_in s) 64 0

module _ (rows : List Row) (k c : ℕ) where
  stays : (i : ℕ) → 4 + far (c % rows_most) i ≤ far c i → ⊥
  stays i h = omega arith

  waits_some : (l : List ℕ) → next_waiting rows k c ≡ l → (is_empty l ≡ false) → has (waits_for k) rows ≡ true
  waits_some [] e n = absurd (false≢true (sym n))
  waits_some (j ∷ l) e n =
      let p : ℕ → Bool = λ i. waits_for k (row_at rows (i % rows_most)) in
      let a : All (λ i. p i ≡ true) (j ∷ l) = subst (λ (m : List ℕ). All (λ i. p i ≡ true) m) e (next_passes p rows_most 4 c) in
      has_at free (waits_for k) refl rows (j % rows_most) a.0

  module _ (size : length rows ≡ 64) (none : next_waiting rows k c ≡ []) where
    no_reached_or_nearer : (i : ℕ) → (l : List ℕ) → l ≡ [] → (has (λ y. eqb y (c + far c i)) l ≡ true) ⊎ (4 + far (behind c l % rows_most) i ≤ far c i) → ⊥
    no_reached_or_nearer i [] e (inl h) = false≢true h
    no_reached_or_nearer i [] e (inr h) = stays i h
    no_reached_or_nearer i (y ∷ l) e h = let z : ◌≡◌ {A = ℕ} 0 1 = cc in omega arith

    no_waiting : has (waits_for k) rows ≡ true → ⊥
    no_waiting t =
        let w = has_true free (waits_for k) rows t in
        let i : ℕ = w.0 in
        let below : i < length rows = within free (waits_for k) refl rows i w.1 in
        no_reached_or_nearer i (next_waiting rows k c) none (reached_or_nearer rows k c i (omega arith) w.1)

    waits_none : has (waits_for k) rows ≡ false
    waits_none = is_false (has (waits_for k) rows) no_waiting

picked_none : (n : ℕ) (l : List ℕ) → n ≡ 0 → take n l ≡ []
picked_none n l e = rw e

picked_some : (n : ℕ) (l : List ℕ) → length l ≡ 4 → (n ≡ 0 → ⊥) → is_empty (take n l) ≡ false
picked_some zero l f h = absurd (h refl)
picked_some (suc n) [] f h = absurd (omega arith)
picked_some (suc n) (x ∷ l) f h = refl

module _ (s : List ℕ) (k : ℕ) (x : Slot) (p : Picks) (h : Picked x.cursor (next_waiting (rows_in s) k x.cursor) p) (passed : Bool) where
  abbrev Due-by : Option Due → Type 0
  Due-by r = Plans (pick (passed && has (waits_for k) (rows_in s)) poll.an_update poll.nothing_due) k x s r

  idle_by : (b : Bool) → b ≡ false → pick (passed && b) poll.an_update poll.nothing_due ≡ poll.nothing_due
  idle_by b e = rw e (by passed) where
    by : (a : Bool) → pick (a && false) poll.an_update poll.nothing_due ≡ poll.nothing_due
    by true = refl
    by false = refl

  pub update_none : p.count ≡ 0 → Due-by None
  update_none z = record {
    which = sym (idle_by (has (waits_for k) (rows_in s)) (waits_none (rows_in s) k x.cursor (rows_many s) (sym h.chosen ∙ picked_none p.count p.rows z)));
    rows = tt;
  }

  pub update_some : passed ≡ true → (p.count ≡ 0 → ⊥) → Due-by (Some (Update p))
  update_some t z =
      let w : has (waits_for k) (rows_in s) ≡ true =
      waits_some (rows_in s) k x.cursor (picks_of p) (sym h.chosen) (picked_some p.count p.rows h.full z) in
      record { which = rw (t, w); rows = h }

pub update_early : (s : List ℕ) (k : ℕ) (x : Slot) (passed : Bool) → passed ≡ false
    → Plans (pick (passed && has (waits_for k) (rows_in s)) poll.an_update poll.nothing_due) k x s None
update_early s k x passed e = record { which = rw e; rows = tt }

-- ---- 'CSUS in Update'
csus_count : (l : List Request) (n : ℕ) → n ≡ length l → not (eqb n 0) ≡ not (is_empty l)
csus_count [] n e = rw (eq-eqb n 0 e)
csus_count (q ∷ l) n e = rw (ne_eqb n 0 (λ z. omega arith))

pub csus_left : (a : Bool) (s : List ℕ) (k n : ℕ) → k < 8 → a ≡ true → n ≡ length (requests_in s k) → not (eqb n 0)
    ≡ (a && not (is_empty (requests_of (memory_of s) k)))
csus_left a s k n h e f = rw (e, requests_of_lem s k h) (csus_count (requests_in s k) n f)

-- ---- by the state
module _ (time k : ℕ) (x : Slot) (memory : List ℕ) (y : rules.Slot) (r : Option Due) where
  abbrev In : Alignment → Type 0
  In a = Plans (due_in time (rows_in memory) k y a) k x memory r

  pub in_state : (a b : Alignment) → a ≡ b → In b → In a
  in_state a b e h = subst In (sym e) h

-- ---- the first that is due
module _ (k : ℕ) (x : Slot) (memory : List ℕ) (r : Option Due) (b : Bool) (d : poll.Due) where
  -- `first` where b holds, else the other
  pub due_first : (due : Due) → GoodPicks due k x memory → b ≡ true → r ≡ Some due → Plans (pick b (due_kind due) d) k x memory r
  due_first due g e h = planned k x memory r (Some due) _ g (rw e) h

  pub due_other : (first : poll.Due) → b ≡ false → Plans d k x memory r → Plans (pick b first d) k x memory r
  due_other first e h = rw e h

-- ---- times that are read from the table
pub passed_at : (n time : ℕ) (l m : Option ℕ) (r : Bool) → r ≡ passed n l time → l ≡ m → r ≡ passed n m time
passed_at n time l m r h e = h ∙ ap (λ (z : Option ℕ). passed n z time) e

pub picked_at : (c d : ℕ) (rows : List Row) (k : ℕ) (p : Picks) → Picked c (next_waiting rows k c) p → c ≡ d → Picked d (next_waiting rows k d) p
picked_at c d rows k p h e = subst (λ (z : ℕ). Picked z (next_waiting rows k z) p) e h
