-- The used rows are the history's entries: each change of the rows is that of the entries.
-- Assumes nothing.
use Prim.Native.Nat.{ℕ, ◌-◌}
use mathlib.Core.Path.{◌≡◌, refl, sym, ap, ◌∙◌, fun_ext}
use mathlib.Core.Bool.{Bool, true, false, not, ◌&&◌, ◌||◌, false≢true}
use mathlib.Core.List.{List, [], ◌∷◌, map}
use lib.Dec.{eqb, ltb}
use lib.ListN.{length, length-map}
use Rattle.laws.specs.Choice.{pick}
use Rattle.laws.specs.Lists.{All}
use Rattle.laws.specs.Tables.{on, has, change, update, without, skip, trans}
use Rattle.laws.proofs.Tables.{all_map, map_map, map_map_all, has_map, has_without, without_same, without_more, room, full}
use Rattle.laws.proofs.Perms.{perm_map, perm_all, perm_has, perm_length, perm_without, fill}
use Rattle.laws.proofs.Cells.{all_cells, change_update}
use Rattle.laws.proofs.Bools.{pick_of, pick_ap}
use Rattle.protocol.specs.Numbers.{newer, next_csa, spent, first_number, purged}
use Rattle.protocol.specs.Messages.{CsaRecord}
use Rattle.rules.specs.Server.{rows_most, Entry, Value, Row, free, used, is_free, holds, row_at}
use Rattle.rules.specs.Rows.{is_purged, unmarked, spread, filled, swept_row, swept, cleared_if}
use Rattle.rules.specs.Requests.{entry_of}
use Rattle.rules.specs.Updates.{hops_most, value, stepped, changed_row, new_row, purged_row, value_of, row_for, renewed, waits_again, replied, answer_waits}
use Rattle.rules.specs.History.{Act, put, take, waiting, Known, now_held, waits_at, act, no_acts, own_acts, stored_acts, is_of, is_done, admit, opened}
use Rattle.rules.specs.History.{arrived, answered, sent_for, changed, created, purging, left, left_if}
use Rattle.rules.specs.Demand3.{row_of, Once}
use Rattle.rules.proofs.Relation.{Alive, Sim}
use Rattle.rules.proofs.CsaOrder.{steps_up, purges_up}
use Rattle.rules.proofs.Entries.{Alike, alike_unmarked}

-- ---- the marks are the waits
-- a slot that is not live does not wait
not_live : (l : List Act) → (waiting l ≡ true → false ≡ true) → waiting l ≡ false
not_live [] h = refl
not_live (put ∷ l) h = absurd (false≢true (h refl))
not_live (take ∷ l) h = refl

abbrev Waits : (ℕ → Bool) → (ℕ → List Act) → Type 0
Waits live acts = (j : ℕ) → waiting (acts j) ≡ true → live j ≡ true

none_waits : (live : ℕ → Bool) → Waits live no_acts
none_waits live j e = absurd (false≢true e)

own_by : (b : Bool) (l : List Act) → (waiting l ≡ true → b ≡ true) → waiting (pick b (put ∷ l) l) ≡ b
own_by true l h = refl
own_by false l h = not_live l h

own_waits : (live : ℕ → Bool) (acts : ℕ → List Act) → Waits live acts → waits_at (own_acts live acts) ≡ live
own_waits live acts h = fun_ext (λ j. own_by (live j) (acts j) (h j))

stored_by : (a b c : Bool) (l : List Act) → (waiting l ≡ true → b ≡ true)
    → waiting (pick (a && (b && not c)) (put ∷ l) (pick (not a || c) (take ∷ l) l)) ≡ (a && (b && not c))
stored_by true true true l h = refl
stored_by true true false l h = refl
stored_by true false true l h = refl
stored_by true false false l h = not_live l h
stored_by false b c l h = refl

stored_waits : (live : ℕ → Bool) (k n : ℕ) (acts : ℕ → List Act) → Waits live acts → waits_at (stored_acts live k n acts) ≡ spread live k n
stored_waits live k n acts h = fun_ext (λ j. stored_by (ltb 0 n) (live j) (eqb j k) (acts j) (h j))

put_waits : (k : ℕ) (acts : ℕ → List Act) → waits_at (act k put acts) ≡ on k true (waits_at acts)
put_waits k acts = fun_ext (λ j. pick_ap waiting (eqb j k) (put ∷ acts k) (acts j))

take_waits : (k : ℕ) (acts : ℕ → List Act) → waits_at (act k take acts) ≡ on k false (waits_at acts)
take_waits k acts = fun_ext (λ j. pick_ap waiting (eqb j k) (take ∷ acts k) (acts j))

-- ---- each change of a row is that of its entry
left_of : (k : ℕ) (x : Known) → unmarked k (row_of x) ≡ row_of (left k x)
left_of k x = ap (used x.entry (now_held x)) (sym (take_waits k x.acts))

answered_by : (k : ℕ) (e : Entry) (v : Value) (acts : ℕ → List Act) (a b : Bool)
    → pick a (used e v (waits_at acts)) (pick b (used e v (waits_at acts)) (used e v (on k false (waits_at acts))))
    ≡ used e v (waits_at (pick a acts (pick b acts (act k take acts))))
answered_by k e v acts true b = refl
answered_by k e v acts false true = refl
answered_by k e v acts false false = ap (used e v) (sym (take_waits k acts))

pub answered_of : (k : ℕ) (r : CsaRecord) (x : Known) → replied k r.number (row_of x) ≡ row_of (answered k r x)
answered_of k r x =
    answered_by k x.entry (now_held x) x.acts (newer r.number (now_held x).number) (newer (now_held x).number r.number)

sent_for_by : (k : ℕ) (acts : ℕ → List Act) (a b : Bool) → pick a (waits_at acts) (pick b (on k true (waits_at acts)) (waits_at acts))
    ≡ waits_at (pick a acts (pick b (act k put acts) acts))
sent_for_by k acts true b = refl
sent_for_by k acts false true = sym (put_waits k acts)
sent_for_by k acts false false = refl

pub sent_for_of : (k : ℕ) (r : CsaRecord) (x : Known) → answer_waits k r.number (row_of x) ≡ row_of (sent_for k r x)
sent_for_of k r x =
    ap (used x.entry (now_held x)) (sent_for_by k x.acts (newer r.number (now_held x).number) (ltb 0 (now_held x).remaining))

module _ (live : ℕ → Bool) where
  pub opened_of : (k : ℕ) (r : CsaRecord) → row_for live k r ≡ row_of (opened live k r)
  opened_of k r = ap (used (entry_of r) (value_of r)) (sym (stored_waits live k (r.hops - 1) no_acts (none_waits live)))

  pub created_of : (e : Entry) (p : List ℕ) → new_row live e p ≡ row_of (created live e p)
  created_of e p = ap (used e (value first_number p hops_most)) (sym (own_waits live no_acts (none_waits live)))

  -- a change of ours, with a newer number
  ours_by : (e : Entry) (v w : Value) (acts : ℕ → List Act) → Waits live acts → (a : Bool) → a ≡ true
      → used e w live ≡ used e (pick a w v) (waits_at (own_acts live acts))
  ours_by e v w acts h a n = rw n (ap (used e w) (sym (own_waits live acts h)))

  pub changed_of : (p : List ℕ) (x : Known) → Alive live (row_of x) → spent (now_held x).number ≡ false
      → changed_row live p (row_of x) ≡ row_of (changed live p x)
  changed_of p x h n =
      ours_by x.entry (now_held x) (value (stepped (now_held x).number (next_csa (now_held x).number)) p hops_most) x.acts h
      (newer (stepped (now_held x).number (next_csa (now_held x).number)) (now_held x).number) (steps_up (now_held x).number n)

  pub purging_of : (x : Known) → Alive live (row_of x) → is_purged (now_held x).number ≡ false → purged_row live (row_of x) ≡ row_of (purging live x)
  purging_of x h n =
      ours_by x.entry (now_held x) (value purged [] hops_most) x.acts h (newer purged (now_held x).number)
      (purges_up (now_held x).number n)

  -- a record of a CSU Request: newer, older or equal
  arrived_cases : (k : ℕ) (r : CsaRecord) (e : Entry) (v : Value) (acts : ℕ → List Act) → Waits live acts → (a b c : Bool)
      → pick a (used e (value_of r) (spread live k (r.hops - 1)))
      (pick b (used e v (pick c (on k true (waits_at acts)) (waits_at acts))) (used e v (on k false (waits_at acts))))
      ≡ used e (pick a (value_of r) v)
      (waits_at (pick a (stored_acts live k (r.hops - 1) acts) (pick b (pick c (act k put acts) acts) (act k take acts))))
  arrived_cases k r e v acts h true b c = ap (used e (value_of r)) (sym (stored_waits live k (r.hops - 1) acts h))
  arrived_cases k r e v acts h false true true = ap (used e v) (sym (put_waits k acts))
  arrived_cases k r e v acts h false true false = refl
  arrived_cases k r e v acts h false false c = ap (used e v) (sym (take_waits k acts))

  -- the three changes of a row, by two tests
  abbrev pub merged : ℕ → CsaRecord → Bool → Bool → Row → Row
  merged k r a b x = pick a (renewed live k r x) (pick b (waits_again k x) (unmarked k x))

  pub arrived_of : (k : ℕ) (r : CsaRecord) (x : Known) → Alive live (row_of x)
      → merged k r (newer r.number (now_held x).number) (newer (now_held x).number r.number) (row_of x) ≡ row_of (arrived live k r x)
  arrived_of k r x h =
      arrived_cases k r x.entry (now_held x) x.acts h (newer r.number (now_held x).number) (newer (now_held x).number r.number)
      (ltb 0 (now_held x).remaining)

-- ---- what the relation tells
free_fails : (p : Row → Bool) → p free ≡ false → (x : Row) → is_free x ≡ true → p x ≡ false
free_fails p z free h = z
free_fails p z (used e v m) h = absurd (false≢true h)

-- of a test that a free row does not pass
pub sim_has : (p : Row → Bool) → p free ≡ false → (rows : List Row) (es : List Known) → Sim rows es → has p rows ≡ has (λ x. p (row_of x)) es
sim_has p z rows es s =
    sym (has_without is_free p (free_fails p z) rows) ∙ perm_has p s ∙ has_map row_of (λ x. p (row_of x)) p (λ x. refl) es

-- an entry has a row
pub sim_holds : (e : Entry) (rows : List Row) (es : List Known) → Sim rows es → has (holds e) rows ≡ has (is_of e) es
sim_holds e rows es s = sim_has (holds e) refl rows es s

-- what holds of every row holds of every entry's row
pub sim_all : (Q : Row → Type 0) (rows : List Row) (es : List Known) → ((i : ℕ) → Q (row_at rows i)) → Sim rows es → All (λ x. Q (row_of x)) es
sim_all Q rows es h s = all_map row_of Q es (perm_all Q s (all_cells Q free is_free rows h))

-- a row is free while fewer than 64 entries are held
pub sim_room : (rows : List Row) (es : List Known) → length rows ≡ rows_most → Sim rows es → has is_free rows ≡ ltb (length es) rows_most
sim_room rows es n s = room is_free rows ∙ rw (n, perm_length s, length-map es row_of)

-- ---- what keeps the relation
-- the row of e changes as the entry does
module _ (e : Entry) (Q : Row → Type 0) (f : Row → Row) (g : Known → Known) (keeps : (x : Row) → Alike x (f x))
    (of : (x : Known) → Q (row_of x) → is_of e x ≡ true → f (row_of x) ≡ row_of (g x)) where
  one_of : (x : Known) (b : Bool) → is_of e x ≡ b → Q (row_of x) → pick b (f (row_of x)) (row_of x) ≡ row_of (pick b (g x) x)
  one_of x true h q = of x q h
  one_of x false h q = refl

  pub sim_change : (rows : List Row) (es : List Known) → ((i : ℕ) → Q (row_at rows i)) → Once rows → Sim rows es
      → Sim (change (holds e) f rows) (update (is_of e) g es)
  sim_change rows es q o s =
      rw (
        change_update free (holds e) f rows (o e),
        without_same is_free (λ x. pick (holds e x) (f x) x) (λ x. pick_of (λ (y : Row). is_free y ≡ is_free x) (holds e x) (f x) x (keeps x).frees refl) rows,
        ← (map_map_all row_of (λ x. Q (row_of x)) (λ x. pick (is_of e x) (g x) x) (λ x. pick (holds e x) (f x) x)
            (λ x m. one_of x (is_of e x) refl m) es (sim_all Q rows es q s)),
      ) (perm_map (λ x. pick (holds e x) (f x) x) s)

-- a free row is taken, if there is one, as the entry is admitted
admit_by : (x : Known) (rows : List Row) (es : List Known) → Sim rows es → (b : Bool) → has is_free rows ≡ b
    → Sim (filled (row_of x) rows) (pick b (x ∷ es) es)
admit_by x rows es s true h = trans (fill is_free (row_of x) refl rows h) (skip (row_of x) s)
admit_by x rows es s false h = rw (full is_free (λ _. row_of x) rows h) s

pub sim_admit : (x : Known) (rows : List Row) (es : List Known) → length rows ≡ rows_most → Sim rows es → Sim (filled (row_of x) rows) (admit x es)
sim_admit x rows es n s = admit_by x rows es s (ltb (length es) rows_most) (sim_room rows es n s)

pub sim_pick : (b : Bool) (rows rows' : List Row) (es es' : List Known) → Sim rows es → Sim rows' es' → Sim (pick b rows rows') (pick b es es')
sim_pick true rows rows' es es' s t = s
sim_pick false rows rows' es es' s t = t

-- ---- a slot left, and the end of an event
pub sim_left : (k : ℕ) (rows : List Row) (es : List Known) → Sim rows es → Sim (map (unmarked k) rows) (map (left k) es)
sim_left k rows es s =
    rw (without_same is_free (unmarked k) (λ x. (alike_unmarked k x).frees) rows, ← (map_map row_of (left k) (unmarked k) (left_of k) es))
    (perm_map (unmarked k) s)

pub sim_left_if : (b : Bool) (k : ℕ) (rows : List Row) (es : List Known) → Sim rows es → Sim (cleared_if b k rows) (left_if b k es)
sim_left_if true k rows es s = sim_left k rows es s
sim_left_if false k rows es s = s

swept_free : (x : Row) → is_free x ≡ true → is_free (swept_row x) ≡ true
swept_free free h = refl
swept_free (used e v m) h = absurd (false≢true h)

swept_is : (x : Row) (b : Bool) → is_free x ≡ false → is_free (pick b free x) ≡ b
swept_is x true h = refl
swept_is x false h = h

swept_by : (x : Known) (l : List Row) (m : List Known) (b : Bool) → l ≡ map row_of m
    → pick b l (pick b free (row_of x) ∷ l) ≡ map row_of (pick b m (x ∷ m))
swept_by x l m true h = h
swept_by x l m false h = rw h

swept_of : (es : List Known) → without is_free (swept (map row_of es)) ≡ map row_of (without is_done es)
swept_of [] = refl
swept_of (x ∷ es) =
    rw (swept_is (row_of x) (is_done x) refl)
    (swept_by x (without is_free (swept (map row_of es))) (without is_done es) (is_done x) (swept_of es))

pub sim_swept : (rows : List Row) (es : List Known) → Sim rows es → Sim (swept rows) (without is_done es)
sim_swept rows es s =
    rw (without_more is_free swept_row swept_free rows, ← (swept_of es)) (perm_without is_free (perm_map swept_row s))
