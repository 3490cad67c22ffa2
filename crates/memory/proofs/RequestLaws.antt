-- Laws of a request list under the rules: one request an entry, in order.
-- Assumes nothing.
use Rattle.std.proofs.Common.{◌≡◌, suc, ◌≤◌, Bool, true, false, ◌||◌, ltb, List, [], ◌∷◌, ◌++◌, map, length, take, drop, sym, refl, ap, ◌∙◌, subst, append_assoc, append-nil, arith, take-append-drop}
use Rattle.laws.specs.Choice.{pick}
use Rattle.laws.specs.Tables.{has, change, without, Perm, none, skip, swap, trans}
use Rattle.laws.proofs.Lists.{map_append}
use Rattle.laws.proofs.Bools.{pick_of, or_false}
use Rattle.laws.proofs.Each.{picked}
use Rattle.laws.proofs.Tables.{same_sym}
use Rattle.laws.proofs.Perms.{perm_refl, perm_has}
use Rattle.protocol.specs.declared.CsaNumber.{CsaNumber}
use Rattle.rules.specs.Server.{Entry, same_entry, Request}
use Rattle.rules.specs.Requests.{asks, raised, join, Wanted, acknowledged, dropped, rotated}

-- ---- one request an entry
abbrev pub OneEach : List Request → Type 0
OneEach [] = Unit {0}
OneEach (q ∷ qs) = (has (asks q.entry) qs ≡ false) × OneEach qs

module _ (p : Request → Bool) where
  pub none_left : (f : Request → Bool) (l : List Request) → has f l ≡ false → has f (without p l) ≡ false
  none_left f [] h = refl
  none_left f (q ∷ l) h =
      let r = or_false (f q) (has f l) h in
      pick_of (λ (z : List Request). has f z ≡ false) (p q) (without p l) (q ∷ without p l) (none_left f l r.1) (rw r.0 (none_left f l r.1))

  one_without : (l : List Request) → OneEach l → OneEach (without p l)
  one_without [] h = tt
  one_without (q ∷ l) h =
      pick_of OneEach (p q) (without p l) (q ∷ without p l) (one_without l h.1)
      (none_left (asks q.entry) l h.0, one_without l h.1)

pub acknowledged_one : (e : Entry) (n : CsaNumber) (l : List Request) → OneEach l → OneEach (acknowledged e n l)
acknowledged_one e n l h = one_without _ l h

pub dropped_one : (e : Entry) (l : List Request) → OneEach l → OneEach (dropped e l)
dropped_one e l h = one_without (asks e) l h

-- a number raised leaves the entry
module _ (e : Entry) (n : CsaNumber) where
  has_raised : (f : Entry) (l : List Request) → has (asks f) (change (asks e) (raised n) l) ≡ has (asks f) l
  has_raised f [] = refl
  has_raised f (q ∷ l) =
      pick_of (λ (z : List Request). has (asks f) z ≡ (asks f q || has (asks f) l)) (asks e q) (raised n q ∷ l) (q ∷ change (asks e) (raised n) l)
      refl (rw (has_raised f l))

  one_raised : (l : List Request) → OneEach l → OneEach (change (asks e) (raised n) l)
  one_raised [] h = tt
  one_raised (q ∷ l) h =
      pick_of OneEach (asks e q) (raised n q ∷ l) (q ∷ change (asks e) (raised n) l) h (has_raised q.entry l ∙ h.0, one_raised l h.1)

same_entry_sym : (e f : Entry) → same_entry e f ≡ same_entry f e
same_entry_sym e f = rw (same_sym e.key f.key, same_sym e.originator f.originator)

-- an entry that the list has not, behind it
module _ (x : Request) where
  has_behind : (f : Request → Bool) (l : List Request) → has f l ≡ false → f x ≡ false → has f (l ++ (x ∷ [])) ≡ false
  has_behind f [] h g = rw g
  has_behind f (q ∷ l) h g = rw (or_false (f q) (has f l) h).0 (has_behind f l (or_false (f q) (has f l) h).1 g)

  one_behind : (l : List Request) → OneEach l → has (asks x.entry) l ≡ false → OneEach (l ++ (x ∷ []))
  one_behind [] h g = (refl, tt)
  one_behind (q ∷ l) h g =
      let r = or_false (asks x.entry q) (has (asks x.entry) l) g in
      (has_behind (asks q.entry) l h.0 (same_entry_sym x.entry q.entry ∙ r.0), one_behind l h.1 r.1)

-- what holds of the list with the number raised, of the list with one more where there is room, and of the list, holds of the list that the entry joined
pub join_list : (P : List Request → Type 0) (e : Entry) (n : CsaNumber) (w : Wanted) → P (change (asks e) (raised n) w.requests)
    → (has (asks e) w.requests ≡ false → ltb (length w.requests) 64 ≡ true → P (w.requests ++ (record { entry = e; number = n } ∷ []))) → P w.requests
    → P (join e n w).requests
join_list P e n w a b c = by (has (asks e) w.requests) refl where
  by : (x : Bool) → has (asks e) w.requests ≡ x → P (join e n w).requests
  by true g = rw g a
  by false g =
      rw g
      (picked (λ (z : Wanted). P z.requests) (ltb (length w.requests) 64)
      (record { requests = w.requests ++ (record { entry = e; number = n } ∷ []); missed = w.missed })
      (record { requests = w.requests; missed = pick (ltb w.missed 65535) (suc w.missed) w.missed }) (b g) (λ _. c))

pub join_one : (e : Entry) (n : CsaNumber) (w : Wanted) → OneEach w.requests → OneEach (join e n w).requests
join_one e n w h = join_list OneEach e n w (one_raised e n w.requests h) (λ g _. one_behind (record { entry = e; number = n }) w.requests h g) h

-- ---- another order
one_perm : {l m : List Request} → Perm l m → OneEach l → OneEach m
one_perm none h = tt
one_perm (skip x p) h = (sym (perm_has (asks x.entry) p) ∙ h.0, one_perm p h.1)
one_perm (swap x y l) h =
    let r = or_false (asks x.entry y) (has (asks x.entry) l) h.0 in
    (rw (same_entry_sym x.entry y.entry, r.0) h.1.0, (r.1, h.1.1))
one_perm (trans p q) h = one_perm q (one_perm p h)

perm_behind : (x : Request) (l : List Request) → Perm (x ∷ l) (l ++ (x ∷ []))
perm_behind x [] = perm_refl (x ∷ [])
perm_behind x (y ∷ l) = trans (swap x y l) (skip y (perm_behind x l))

perm_turned : (a b : List Request) → Perm (a ++ b) (b ++ a)
perm_turned [] b = rw (append-nil b) (perm_refl b)
perm_turned (x ∷ a) b =
    let step : Perm (a ++ (b ++ (x ∷ []))) ((b ++ (x ∷ [])) ++ a) = perm_turned a (b ++ (x ∷ [])) in
    let next : Perm ((a ++ b) ++ (x ∷ [])) (b ++ (x ∷ a)) = rw (append_assoc a b (x ∷ []), ← (append_assoc b (x ∷ []) a)) step in
    trans (perm_behind x (a ++ b)) next

pub rotated_perm : (l : List Request) → Perm l (rotated l)
rotated_perm l = subst (λ (z : List Request). Perm z (rotated l)) (take-append-drop 4 l) (perm_turned (take 4 l) (drop 4 l))

pub rotated_one : (l : List Request) → OneEach l → OneEach (rotated l)
rotated_one l h = one_perm (rotated_perm l) h

-- ---- order: the first list is the second without some of its cells
pub data Within {A : Type 0} : List A → List A → Type 0 where
  end : Within [] []
  keep : {l m : List A} (x : A) → Within l m → Within (x ∷ l) (x ∷ m)
  pass : {l m : List A} (x : A) → Within l m → Within l (x ∷ m)

within_all : {A : Type 0} (l : List A) → Within l l
within_all [] = end
within_all (x ∷ l) = keep x (within_all l)

within_more : {A : Type 0} (l m : List A) → Within l (l ++ m)
within_more [] [] = end
within_more [] (y ∷ m) = pass y (within_more [] m)
within_more (x ∷ l) m = keep x (within_more l m)

within_without : {A : Type 0} (p : A → Bool) (l : List A) → Within (without p l) l
within_without p [] = end
within_without p (x ∷ l) =
    pick_of (λ z. Within z (x ∷ l)) (p x) (without p l) (x ∷ without p l) (pass x (within_without p l)) (keep x (within_without p l))

pub within_short : {A : Type 0} {l m : List A} → Within l m → length l ≤ length m
within_short end = omega arith
within_short (keep x w) = let h = within_short w in omega arith
within_short (pass x w) = let h = within_short w in omega arith

pub acknowledged_order : (e : Entry) (n : CsaNumber) (l : List Request) → Within (acknowledged e n l) l
acknowledged_order e n l = within_without _ l

pub dropped_order : (e : Entry) (l : List Request) → Within (dropped e l) l
dropped_order e l = within_without (asks e) l

-- the entries of a list, in order
abbrev pub entries_of : List Request → List Entry
entries_of l = map (λ (q : Request). q.entry) l

entries_raised : (e : Entry) (n : CsaNumber) (l : List Request) → entries_of (change (asks e) (raised n) l) ≡ entries_of l
entries_raised e n [] = refl
entries_raised e n (q ∷ l) =
    pick_of (λ (z : List Request). entries_of z ≡ q.entry ∷ entries_of l) (asks e q) (raised n q ∷ l) (q ∷ change (asks e) (raised n) l) refl
    (ap (λ (z : List Entry). q.entry ∷ z) (entries_raised e n l))

pub join_order : (e : Entry) (n : CsaNumber) (w : Wanted) → Within (entries_of w.requests) (entries_of (join e n w).requests)
join_order e n w =
    let l : List Request = w.requests in
    join_list (λ (z : List Request). Within (entries_of l) (entries_of z)) e n w (rw (entries_raised e n l) (within_all (entries_of l)))
    (λ g _. rw (map_append (λ (q : Request). q.entry) l (record { entry = e; number = n } ∷ [])) (within_more (entries_of l) (e ∷ [])))
    (within_all (entries_of l))
