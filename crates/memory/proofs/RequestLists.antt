-- The loops over a request list: the first for an entry, and those that go.
-- Assumes nothing.
use Rattle.std.proofs.Common.{◌≡◌, ℕ, zero, suc, ◌+◌, ◌<◌, ◌≤◌, Bool, true, false, ltb, cond, List, [], ◌∷◌, ◌++◌, length, get_or, take, drop, set, sym, refl, ap, ◌∙◌, append-nil, add-zero, add-one, arith, length-set, get_or-drop, take-suc, drop-drop, take-suc-set, drop-set-lt, le-ltb, lt-ltb}
use Rattle.std.specs.Prelude.{Some, None}
use Rattle.std.specs.List.{position, position_or_len}
use Rattle.std.proofs.lemmas.Grind.{common_steps}
use Rattle.std.proofs.lemmas.List.Sums.{position_or_len_is, fails_before_first}
use Rattle.std.proofs.lemmas.List.Quantifiers.{position-Some}
use borrow.Author.Count.{below_more}
use Rattle.laws.specs.Choice.{pick}
use Rattle.laws.specs.Tables.{has, change, without}

-- ---- the first that passes
module _ {A : Type 0} (p : A → Bool) (d : A) where
  -- none of the first i passes
  abbrev pub Passed : List A → ℕ → Type 0
  Passed l i = (j : ℕ) → j < i → j < length l → p (get_or l j d) ≡ false

  pub passed_more : (l : List A) (i : ℕ) → Passed l i → p (get_or l i d) ≡ false → Passed l (i + 1)
  passed_more l i h e = below_more (λ (j : ℕ). j < length l → p (get_or l j d) ≡ false) i h (λ _. e)

  later : (x : A) (l : List A) (i : ℕ) → Passed (x ∷ l) (suc i) → Passed l i
  later x l i h j g n = h (suc j) (omega arith) (omega arith)

  at_place : (l : List A) (i : ℕ) → position_or_len p l ≡ i → position p l ≡ cond (ltb i (length l)) (Some i) None
  at_place l i e = ap (λ (n : ℕ). cond (ltb n (length l)) (Some n) None) e

  pub place_hit : (l : List A) (i : ℕ) → i < length l → Passed l i → p (get_or l i d) ≡ true → position p l ≡ Some i
  place_hit l i h q e =
      at_place l i (position_or_len_is p l i d (omega arith) (λ k g. q k g (omega arith)) (λ _. e))
      ∙ ap (λ (b : Bool). cond b (Some i) None) (lt-ltb i (length l) h)

  pub place_end : (l : List A) (i : ℕ) → length l ≤ i → Passed l i → position p l ≡ None
  place_end l i h q =
      let n : ℕ = length l in
      at_place l n (position_or_len_is p l n d (omega arith) (λ k g. q k (omega arith) g) (λ g. absurd (omega arith)))
      ∙ ap (λ (b : Bool). cond b (Some n) None) (le-ltb n n (omega arith))

  -- what is known where one passes, at i
  pub record Placed (l : List A) (i : ℕ) : Type 0 where
    pub below : i < length l
    pub passes : p (get_or l i d) ≡ true
    pub there : has p l ≡ true
    pub before : Passed l i
    pub changes : (f : A → A) → change p f l ≡ set l i (f (get_or l i d))

  first_there : (l : List A) (i : ℕ) → i < length l → p (get_or l i d) ≡ true → Passed l i → has p l ≡ true
  first_there [] i h e q = absurd (omega arith)
  first_there (x ∷ l) zero h e q = rw e
  first_there (x ∷ l) (suc i) h e q = rw (q 0 (omega arith) (omega arith)) (first_there l i (omega arith) e (later x l i q))

  first_changes : (f : A → A) (l : List A) (i : ℕ) → i < length l → p (get_or l i d) ≡ true → Passed l i → change p f l ≡ set l i (f (get_or l i d))
  first_changes f [] i h e q = absurd (omega arith)
  first_changes f (x ∷ l) zero h e q = rw e
  first_changes f (x ∷ l) (suc i) h e q =
      rw (q 0 (omega arith) (omega arith)) (ap (λ (z : List A). x ∷ z) (first_changes f l i (omega arith) e (later x l i q)))

  pub placed : (l : List A) (i : ℕ) → Some i ≡ position p l → Placed l i
  placed l i e =
      let f = position-Some p l i d (sym e) in
      let q : Passed l i = λ j g _. f.2 j g in
      record { below = f.0; passes = f.1; there = first_there l i f.0 f.1 q; before = q; changes = λ g. first_changes g l i f.0 f.1 q }

  -- where none passes
  pub none_passes : (l : List A) → None ≡ position p l → (i : ℕ) → Passed l i
  none_passes l e i j g n =
      let h : length l ≤ position_or_len p l = grind (arith, common_steps) in
      fails_before_first p l j d (omega arith)

  all_fail : (l : List A) → ((i : ℕ) → Passed l i) → has p l ≡ false
  all_fail [] h = refl
  all_fail (x ∷ l) h = rw (h 1 0 (omega arith) (omega arith)) (all_fail l (λ i. later x l i (h (suc i))))

  pub nowhere : (l : List A) → None ≡ position p l → has p l ≡ false
  nowhere l e = all_fail l (none_passes l e)

  -- ---- those that go: of the first i of l those that stay are the first w of r, and the others stand as they were
  pub record Removed (l r : List A) (i w : ℕ) : Type 0 where
    pub under : w ≤ i
    pub size : length r ≡ length l
    pub front : take w r ≡ without p (take i l)
    pub back : drop i r ≡ drop i l

  pub all_stay : (l : List A) (i : ℕ) → Passed l i → without p (take i l) ≡ take i l
  all_stay l zero h = refl
  all_stay [] (suc i) h = refl
  all_stay (x ∷ l) (suc i) h = rw (h 0 (omega arith) (omega arith)) (ap (λ (z : List A). x ∷ z) (all_stay l i (later x l i h)))

  pub removed_none : (l : List A) (i : ℕ) → Passed l i → Removed l l i i
  removed_none l i h = record { under = omega arith; size = refl; front = sym (all_stay l i h); back = refl }

  append_by : (y : A) (a b : List A) → without p (a ++ b) ≡ without p a ++ without p b → (c : Bool)
      → pick c (without p (a ++ b)) (y ∷ without p (a ++ b)) ≡ pick c (without p a) (y ∷ without p a) ++ without p b
  append_by y a b ih true = ih
  append_by y a b ih false = ap (λ (z : List A). y ∷ z) ih

  without_append : (a b : List A) → without p (a ++ b) ≡ without p a ++ without p b
  without_append [] b = refl
  without_append (y ∷ a) b = append_by y a b (without_append a b) (p y)

  module _ (l r : List A) (i w : ℕ) (more : i < length l) (so : Removed l r i w) where
    cell_at : (z : List A) → get_or z i d ≡ get_or (drop i z) 0 d
    cell_at z = ap (λ (n : ℕ). get_or z n d) (sym (add-zero i)) ∙ sym (get_or-drop i z 0 d)

    same_cell : get_or r i d ≡ get_or l i d
    same_cell = cell_at r ∙ ap (λ (z : List A). get_or z 0 d) so.back ∙ sym (cell_at l)

    rest : drop (suc i) r ≡ drop (suc i) l
    rest = rw (← (add-one i), ← (drop-drop 1 i r), ← (drop-drop 1 i l), so.back)

    one_more_lem : without p (take (suc i) l) ≡ without p (take i l) ++ without p (get_or r i d ∷ [])
    one_more_lem = ap (without p) (take-suc l i d more) ∙ without_append (take i l) (get_or l i d ∷ [])
        ∙ ap (λ (y : A). without p (take i l) ++ without p (y ∷ [])) (sym same_cell)

    removed_by : (b : Bool) → p (get_or r i d) ≡ b → Removed l (pick b r (set r w (get_or r i d))) (suc i) (pick b w (suc w))
    removed_by true e =
        let under = so.under in
        let gone : without p (get_or r i d ∷ []) ≡ [] = rw e in
        record {
          under = omega arith;
          size = so.size;
          front = so.front ∙ sym (one_more_lem ∙ ap (λ (z : List A). without p (take i l) ++ z) gone ∙ append-nil (without p (take i l)));
          back = rest;
        }
    removed_by false e =
        let under = so.under in
        let size = so.size in
        let stays : without p (get_or r i d ∷ []) ≡ get_or r i d ∷ [] = rw e in
        record {
          under = omega arith;
          size = length-set r w (get_or r i d) ∙ so.size;
          front =
              take-suc-set r w (get_or r i d) (omega arith) ∙ ap (λ (z : List A). z ++ (get_or r i d ∷ [])) so.front
              ∙ sym (one_more_lem ∙ ap (λ (z : List A). without p (take i l) ++ z) stays);
          back = drop-set-lt (suc i) r w (get_or r i d) (omega arith) ∙ rest;
        }

    pub removed_more : Removed l (pick (p (get_or r i d)) r (set r w (get_or r i d))) (suc i) (pick (p (get_or r i d)) w (suc w))
    removed_more = removed_by (p (get_or r i d)) refl
