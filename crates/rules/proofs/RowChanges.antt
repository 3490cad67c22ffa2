-- The records of a CSU Request, of a CSU Reply and of a CSUS, and changes of ours: rows and entries change alike.
-- Assumes nothing.
use Prim.Native.Nat.{ℕ}
use mathlib.Core.Path.{◌≡◌, refl, sym, ap, ◌∙◌}
use mathlib.Core.Bool.{Bool, true, false}
use mathlib.Core.List.{List, [], ◌∷◌}
use Rattle.laws.specs.Choice.{pick}
use Rattle.laws.specs.Lists.{All}
use Rattle.laws.specs.Tables.{has, change, update}
use Rattle.laws.proofs.Tables.{full}
use Rattle.laws.proofs.Cells.{one_found}
use Rattle.protocol.specs.declared.CsaNumber.{CsaNumber}
use Rattle.protocol.specs.Numbers.{newer}
use Rattle.protocol.specs.Messages.{CsaRecord}
use Rattle.rules.specs.Server.{Entry, Row, free, used, is_free, is_used, holds, Request}
use Rattle.rules.specs.Rows.{entry_row, is_purged, unmarked, filled}
use Rattle.rules.specs.Requests.{entry_of}
use Rattle.rules.specs.Updates.{changed_row, set_rows, purged_row, purge_rows, null as noRecord, purge_absent, full as no_row, stored, equal, older}
use Rattle.rules.specs.Updates.{rule_at, update_rule, row_for, renewed, waits_again, rows_by, Updated, by_rule, all_updated, each_row, replied, all_replied}
use Rattle.rules.specs.Updates.{answer_waits, all_answers_wait}
use Rattle.rules.specs.Packets.{updated_by}
use Rattle.rules.specs.Refusals.{row_spent, row_purged}
use Rattle.rules.specs.History.{Known, now_held, is_of, admit, opened, arrived, noted, all_noted, each_known, answered, all_answered, sent_for, all_sent_for}
use Rattle.rules.specs.History.{changed, created, purging}
use Rattle.rules.specs.Demand3.{row_of}
use Rattle.rules.proofs.Relation.{Alive, RowsInv, Sim}
use Rattle.rules.proofs.RowsKeep.{SizedRecord, rows_by_lem, rows_one}
use Rattle.rules.proofs.RowSim.{answered_of, sent_for_of, opened_of, created_of, changed_of, purging_of, merged, arrived_of, sim_holds, sim_change}
use Rattle.rules.proofs.RowSim.{sim_admit, sim_pick}
use Rattle.rules.proofs.Entries.{row_there, Alike, alike_unmarked, alike_waits_again, alike_replied, alike_answer_waits, alike_renewed, alike_changed}
use Rattle.rules.proofs.Entries.{alike_purged}
use Rattle.rules.proofs.RowGrows.{Good, good_replied, good_answer_waits, of_entry}

-- ---- the records of a CSU Request
-- how a number compares with the row's
abbrev Compares : CsaNumber → Bool → Bool → Row → Type 0
Compares n newer? older? free = Unit {0}
Compares n newer? older? (used e v m) = (newer n v.number ≡ newer?) × (newer v.number n ≡ older?)

module _ (live : ℕ → Bool) (k : ℕ) (r : CsaRecord) (rows : List Row) (es : List Known) (v : RowsInv live rows) (s : Sim rows es) where
  -- what is known of a row: its marks, and how the numbers compare if it holds the entry
  abbrev Told : Bool → Bool → Row → Type 0
  Told a b x = Alive live x × (holds (entry_of r) x ≡ true → Compares r.number a b x)

  -- the row that holds the entry is renewed, marked again or unmarked as the numbers compare
  sim_arrived : (f : Row → Row) → ((x : Row) → Alike x (f x)) → (a b : Bool) → ((x : Row) → f x ≡ merged live k r a b x)
      → Compares r.number a b (entry_row (entry_of r) rows)
      → Sim (change (holds (entry_of r)) f rows) (update (is_of (entry_of r)) (arrived live k r) es)
  sim_arrived f keeps a b is c =
      sim_change (entry_of r) (Told a b) f (arrived live k r) keeps of rows es
      (λ i. (v.alive i, λ h. of_entry live rows v (Compares r.number a b) (entry_of r) c i h)) v.once s where
        of : (x : Known) → Told a b (row_of x) → is_of (entry_of r) x ≡ true → f (row_of x) ≡ row_of (arrived live k r x)
        of x t h =
            is (row_of x)
            ∙ ap (λ c. merged live k r c b (row_of x)) (sym (t.1 h).0)
            ∙ ap (λ c. merged live k r (newer r.number (now_held x).number) c (row_of x)) (sym (t.1 h).1)
            ∙ arrived_of live k r x t.0

  sim_opened : Sim (filled (row_for live k r) rows) (admit (opened live k r) es)
  sim_opened = rw (opened_of live k r) (sim_admit (opened live k r) rows es v.size s)

  absent_by : (purged room : Bool) → has (holds (entry_of r)) rows ≡ false → has is_free rows ≡ room
      → Sim (rows_by (pick purged purge_absent (pick room stored no_row)) live k r rows) (pick purged es (admit (opened live k r) es))
  absent_by true room e f = s
  absent_by false true e f = rw e sim_opened
  absent_by false false e f = rw (full is_free (λ _. row_for live k r) rows f) at sim_opened

  held_by : (a b : Bool) → has (holds (entry_of r)) rows ≡ true → Compares r.number a b (entry_row (entry_of r) rows)
      → Sim (rows_by (pick a stored (pick b older equal)) live k r rows) (update (is_of (entry_of r)) (arrived live k r) es)
  held_by true b e c = rw e (sim_arrived (renewed live k r) (alike_renewed live k r) true b (λ x. refl) c)
  held_by false true e c = sim_arrived (waits_again k) (alike_waits_again k) false true (λ x. refl) c
  held_by false false e c = sim_arrived (unmarked k) (alike_unmarked k) false false (λ x. refl) c

  noted_by : (null : Bool) (x : Row) → entry_row (entry_of r) rows ≡ x
      → Sim (rows_by (pick null noRecord (rule_at r.number (has is_free rows) x)) live k r rows)
      (pick null es (pick (is_used x) (update (is_of (entry_of r)) (arrived live k r) es) (pick (is_purged r.number) es (admit (opened live k r) es))))
  noted_by true x q = s
  noted_by false free q = absent_by (is_purged r.number) (has is_free rows) (row_there (entry_of r) rows ∙ ap is_used q) refl
  noted_by false (used f w m) q =
      held_by (newer r.number w.number) (newer w.number r.number) (row_there (entry_of r) rows ∙ ap is_used q) (rw q (refl, refl))

  -- one record
  sim_noted : Sim (rows_by (update_rule r rows) live k r rows) (noted live k r es)
  sim_noted =
      rw (← (sim_holds (entry_of r) rows es s), row_there (entry_of r) rows)
      (noted_by r.null (entry_row (entry_of r) rows) refl)

module _ (live : ℕ → Bool) (k : ℕ) where
  sim_all_noted : live k ≡ true → (rs : List CsaRecord) → All SizedRecord rs → (x : Updated) (es : List Known) → RowsInv live x.rows
      → Sim x.rows es → Sim (all_updated live k rs x).rows (all_noted live k rs es)
  sim_all_noted l [] z x es v s = s
  sim_all_noted l (r ∷ rs) z x es v s =
      sim_all_noted l rs z.1 (by_rule (update_rule r x.rows) live k r x) (noted live k r es) (rows_by_lem live k r x.rows l z.0 v)
      (sim_noted live k r x.rows es v s)

  -- the rows after some records, whatever the requests and replies
  pub updated_rows : (rs : List CsaRecord) (x y : Updated) → x.rows ≡ y.rows → (all_updated live k rs x).rows ≡ (all_updated live k rs y).rows
  updated_rows [] x y h = h
  updated_rows (r ∷ rs) x y h =
      updated_rows rs (by_rule (update_rule r x.rows) live k r x) (by_rule (update_rule r y.rows) live k r y)
      (ap (λ l. rows_by (update_rule r l) live k r l) h)

pub sim_updated : (live : ℕ → Bool) (k : ℕ) → live k ≡ true → (rs : List CsaRecord) → All SizedRecord rs → (rows : List Row) (qs : List Request)
    (es : List Known) → RowsInv live rows → Sim rows es → Sim (updated_by live k rs rows qs).rows (all_noted live k rs es)
sim_updated live k l rs z rows qs es v s = sim_all_noted live k l rs z (record { rows = rows; requests = qs; replies = [] }) es v s

-- ---- the records of a CSU Reply or a CSUS: each changes the row of its entry as the history does the entry
module _ (live : ℕ → Bool) (f : CsaNumber → Row → Row) (g : CsaRecord → Known → Known) (keeps : (n : CsaNumber) (x : Row) → Alike x (f n x))
    (of : (r : CsaRecord) (x : Known) → f r.number (row_of x) ≡ row_of (g r x)) (good : (n : CsaNumber) (x : Row) → Good live x (f n x)) where
  sim_each : (rs : List CsaRecord) (rows : List Row) (es : List Known) → RowsInv live rows → Sim rows es → Sim (each_row f rs rows) (each_known g rs es)
  sim_each [] rows es v s = s
  sim_each (r ∷ rs) rows es v s =
      sim_each rs (change (holds (entry_of r)) (f r.number) rows) (update (is_of (entry_of r)) (g r) es) (rows_one live f good r rows v)
      (sim_change (entry_of r) (λ _. Unit {0}) (f r.number) (g r) (keeps r.number) (λ x _ _. of r x) rows es (λ _. tt) v.once s)

pub sim_answered : (live : ℕ → Bool) (k : ℕ) (rs : List CsaRecord) (rows : List Row) (es : List Known) → RowsInv live rows → Sim rows es
    → Sim (all_replied k rs rows) (all_answered k rs es)
sim_answered live k = sim_each live (replied k) (answered k) (alike_replied k) (answered_of k) (good_replied live k)

pub sim_sent_for : (live : ℕ → Bool) (k : ℕ) → live k ≡ true → (rs : List CsaRecord) (rows : List Row) (es : List Known) → RowsInv live rows
    → Sim rows es → Sim (all_answers_wait k rs rows) (all_sent_for k rs es)
sim_sent_for live k l = sim_each live (answer_waits k) (sent_for k) (alike_answer_waits k) (sent_for_of k) (good_answer_waits live k l)

-- ---- changes of ours
module _ (live : ℕ → Bool) (e : Entry) (rows : List Row) (es : List Known) (v : RowsInv live rows) (s : Sim rows es) where
  -- a change of the row of e, where that row fails a test: the first row that holds e is the only one
  sim_own : (t : Row → Bool) (f : Row → Row) (g : Known → Known) → ((x : Row) → Alike x (f x))
      → ((x : Known) → Alive live (row_of x) → t (row_of x) ≡ false → f (row_of x) ≡ row_of (g x)) → t (entry_row e rows) ≡ false
      → Sim (change (holds e) f rows) (update (is_of e) g es)
  sim_own t f g keeps of n =
      sim_change e (λ x. Alive live x × (holds e x ≡ true → t x ≡ false)) f g keeps (λ x q h. of x q.0 (q.1 h))
      rows es (λ i. (v.alive i, λ h. ap t (sym (one_found free (holds e) rows (v.once e) i h)) ∙ n)) v.once s

  -- a set of an entry that has a row, and a withdrawal
  pub sim_withdraw : (p : List ℕ) → row_spent (entry_row e rows) ≡ false → Sim (change (holds e) (changed_row live p) rows) (update (is_of e) (changed live p) es)
  sim_withdraw p n = sim_own row_spent (changed_row live p) (changed live p) (alike_changed live p) (changed_of live p) n

  pub sim_set : (p : List ℕ) → row_spent (entry_row e rows) ≡ false
      → Sim (set_rows live e p rows) (pick (has (is_of e) es) (update (is_of e) (changed live p) es) (admit (created live e p) es))
  sim_set p n =
      rw (sim_holds e rows es s)
      (sim_pick (has (is_of e) es) _ _ _ _ (sim_withdraw p n)
      (rw (created_of live e p) (sim_admit (created live e p) rows es v.size s)))

  pub sim_purge : row_purged (entry_row e rows) ≡ false → Sim (purge_rows live e rows) (update (is_of e) (purging live) es)
  sim_purge n = sim_own row_purged (purged_row live) (purging live) (alike_purged live) (purging_of live) n
