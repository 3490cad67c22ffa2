-- Demand 3, `never_falls` and `keeps_row`: an entry stays in its row until its purge frees it, and its number does not fall meanwhile.
-- Assumes nothing.
use Prim.Native.Nat.{ℕ}
use mathlib.Core.Path.{◌≡◌, refl, sym, ◌∙◌}
use mathlib.Core.Bool.{Bool, true, false, ◌&&◌, false≢true}
use mathlib.Core.List.{List, [], ◌∷◌}
use lib.Signed.{≤ℤ_refl}
use lib.ListN.{get_or-map}
use Rattle.laws.specs.Tables.{has}
use Rattle.laws.proofs.Bools.{or_false, and_tells}
use Rattle.laws.proofs.Cells.{has_false, has_at}
use Rattle.laws.proofs.Integers.{≤ℤ_trans}
use Rattle.rules.specs.Server.{Settings, Entry, Row, free, used, holds, row_at, Server}
use Rattle.rules.specs.Rows.{to_free, swept_row}
use Rattle.rules.specs.Events.{Event, code_of, counts, acted, server_if, step, Item, item_of, run, items}
use Rattle.rules.specs.History.{is_of, is_done, History, entries_at, add}
use Rattle.rules.specs.Demand3.{HasRowThrough, row_number, InRow, freed_at, freed_in}
use Rattle.rules.proofs.Relation.{Inv, Rel}
use Rattle.rules.proofs.RowSim.{sim_has, sim_holds}
use Rattle.rules.proofs.RelStep.{rel_step}
use Rattle.rules.proofs.Kept.{KeptCa, kept_step}
use Rattle.rules.proofs.Stays.{stays}
use Rattle.rules.proofs.RowGrows.{Keep}
use Rattle.rules.proofs.Ends.{rows_at, acted_rows}
use Rattle.rules.proofs.RowActs.{sim_end}
use Rattle.rules.proofs.SlotSim.{slots_act}
use Rattle.rules.proofs.Invariant.{grows_event, inv_step, falls_not}

-- ---- while it has a row
row_now : (c : Settings) (e : Entry) (h : History) (is : List Item) → HasRowThrough c e h is → has (is_of e) h.entries ≡ true
row_now c e h [] t = t
row_now c e h (i ∷ is) t = t.0

pub never_falls : (c : Settings) (s : Server) (h : History) → Inv s → Rel c s h → KeptCa s → (e : Entry) (i : ℕ) (es : List Event)
    → holds e (row_at s.rows i) ≡ true → HasRowThrough c e h (items s es) → InRow e (row_at s.rows i) (row_at (run s es).rows i)
never_falls c s h v r k e i [] p t = record { there = p; not_less = ≤ℤ_refl (row_number (row_at s.rows i)) }
never_falls c s h v r k e i (x ∷ es) p t =
    let s' = step s x in
    let h' = add c h (item_of s x) in
    let r' = rel_step c s h x v k r in
    let q = stays s v x i e p (sim_holds e s'.rows h'.entries r'.rows ∙ row_now c e h' (items s' es) t.1) in
    let f = never_falls c s' h' (inv_step s x v) r' (kept_step s x k) e i es q t.1 in
    record { there = f.there; not_less = ≤ℤ_trans (falls_not s v x e i p q) f.not_less }

-- ---- until it is freed
-- the sweep leaves a row that holds the entry and is not to be freed
swept_kept : (e : Entry) (r : Row) → holds e r ≡ true → (holds e r && to_free r) ≡ false → holds e (swept_row r) ≡ true
swept_kept e free p n = absurd (false≢true p)
swept_kept e (used f w m) p n =
    let g : to_free (used f w m) ≡ false = and_tells (holds e (used f w m)) (to_free (used f w m)) false p n in
    rw g p

-- the row before the sweep
module _ (c : Settings) (s : Server) (h : History) (v : Inv s) (r : Rel c s h) (k : KeptCa s) (e : Entry) (i : ℕ) (x : Event)
    (p : holds e (row_at s.rows i) ≡ true) where
  kept_row : (a b : Row) → Keep a b → holds e a ≡ true → holds e b ≡ true
  kept_row free b q h = absurd (false≢true h)
  kept_row (used f w m) free q h = absurd q
  kept_row (used f w m) (used g u n) q h = rw (← q.0) h

  kept_acted : counts x (code_of s x) ≡ true → has (λ y. is_of e y && is_done y) (entries_at c h (item_of s x)) ≡ false → holds e (row_at (acted s x).rows i) ≡ true
  kept_acted t n =
      let m = sim_end s h c x v r.settings r.slots r.rows t (slots_act s c x k r.settings t h r.slots) in
      let g : has (λ q. holds e q && to_free q) (rows_at s x) ≡ false = sim_has (λ q. holds e q && to_free q) refl (rows_at s x) (entries_at c h (item_of s x)) m
      ∙ n in
      rw (acted_rows s x v t, get_or-map swept_row (rows_at s x) i free)
      (swept_kept e (row_at (rows_at s x) i) (kept_row (row_at s.rows i) (row_at (rows_at s x) i) ((grows_event s x v t).keep i) p)
      (has_false free (λ q. holds e q && to_free q) refl (rows_at s x) g i))

  kept_by : (b : Bool) → counts x (code_of s x) ≡ b → (b && has (λ y. is_of e y && is_done y) (entries_at c h (item_of s x))) ≡ false
      → holds e (row_at (server_if b s x).rows i) ≡ true
  kept_by true t n = kept_acted t n
  kept_by false t n = p

  kept_one : freed_at c e h (item_of s x) ≡ false → holds e (row_at (step s x).rows i) ≡ true
  unfolding step
  kept_one n = kept_by (counts x (code_of s x)) refl n

pub keeps_row : (c : Settings) (s : Server) (h : History) → Inv s → Rel c s h → KeptCa s → (e : Entry) (i : ℕ) (es : List Event)
    → holds e (row_at s.rows i) ≡ true → freed_in c e h (items s es) ≡ false → holds e (row_at (run s es).rows i) ≡ true
keeps_row c s h v r k e i [] p n = p
keeps_row c s h v r k e i (x ∷ es) p n =
    let f = or_false (freed_at c e h (item_of s x)) (freed_in c e (add c h (item_of s x)) (items (step s x) es)) n in
    keeps_row c (step s x) (add c h (item_of s x)) (inv_step s x v) (rel_step c s h x v k r) (kept_step s x k) e i es
    (kept_one c s h v r k e i x p f.0) f.1

-- ---- both: until the purge frees its row, an entry has it, with a number that does not fall
has_row : (c : Settings) (s : Server) (h : History) → Rel c s h → (e : Entry) (i : ℕ) → holds e (row_at s.rows i) ≡ true → has (is_of e) h.entries ≡ true
has_row c s h r e i p = sym (sim_holds e s.rows h.entries r.rows) ∙ has_at free (holds e) refl s.rows i p

row_through : (c : Settings) (s : Server) (h : History) → Inv s → Rel c s h → KeptCa s → (e : Entry) (i : ℕ) (es : List Event)
    → holds e (row_at s.rows i) ≡ true → freed_in c e h (items s es) ≡ false → HasRowThrough c e h (items s es)
row_through c s h v r k e i [] p n = has_row c s h r e i p
row_through c s h v r k e i (x ∷ es) p n =
    let f = or_false (freed_at c e h (item_of s x)) (freed_in c e (add c h (item_of s x)) (items (step s x) es)) n in (
      has_row c s h r e i p,
      row_through c (step s x) (add c h (item_of s x)) (inv_step s x v) (rel_step c s h x v k r) (kept_step s x k) e i es
          (kept_one c s h v r k e i x p f.0) f.1,
    )

pub until_freed : (c : Settings) (s : Server) (h : History) → Inv s → Rel c s h → KeptCa s → (e : Entry) (i : ℕ) (es : List Event)
    → holds e (row_at s.rows i) ≡ true → freed_in c e h (items s es) ≡ false → InRow e (row_at s.rows i) (row_at (run s es).rows i)
until_freed c s h v r k e i es p n = never_falls c s h v r k e i es p (row_through c s h v r k e i es p n)
