-- A request that stays in its list is among the first four at one of any sixteen rotations, whatever joins or goes between them.
-- Assumes nothing.
use Rattle.std.proofs.Common.{◌≡◌, ℕ, suc, ◌+◌, ◌*◌, ◌≤◌, Bool, true, false, ◌&&◌, ◌||◌, List, [], ◌∷◌, ◌++◌, length, take, drop, sym, refl, ap, ◌∙◌, arith, length-append, ltb-true}
use mathlib.Core.Bool.{false≢true}
use Rattle.laws.specs.Choice.{pick}
use Rattle.laws.specs.Tables.{has, change, without, count}
use Rattle.laws.proofs.Bools.{and_true, or_false, is_true, pick_of}
use Rattle.laws.proofs.Cells.{length_change}
use Rattle.laws.proofs.Perms.{perm_length}
use Rattle.protocol.specs.declared.CsaNumber.{CsaNumber}
use Rattle.rules.specs.Server.{requests_most, Entry, Request}
use Rattle.rules.specs.Requests.{asks, raised, join, acknowledged, dropped, rotated}
use Rattle.rules.proofs.Entries.{entry_true}
use Rattle.memory.specs.Lists.{no_request}
use Rattle.memory.proofs.RequestLaws.{OneEach, acknowledged_one, dropped_one, join_one, join_list, rotated_one, rotated_perm, none_left}
use Rattle.memory.proofs.RequestLaws.{within_short, acknowledged_order, dropped_order}

-- ---- what happens to a request list
-- `joins` has the number of those missed so far
pub data ListStep : Type 0 where
  rotates : ListStep
  joins : Entry → CsaNumber → ℕ → ListStep
  acknowledges : Entry → CsaNumber → ListStep
  drops : Entry → ListStep
  empties : ListStep

abbrev pub after : ListStep → List Request → List Request
after rotates l = rotated l
after (joins e n missed) l = (join e n (record { requests = l; missed = missed })).requests
after (acknowledges e n) l = acknowledged e n l
after (drops e) l = dropped e l
after empties l = []

abbrev pub is_rotation : ListStep → Bool
is_rotation rotates = true
is_rotation (joins e n missed) = false
is_rotation (acknowledges e n) = false
is_rotation (drops e) = false
is_rotation empties = false

-- the list has a request for the entry before each step and behind the last
abbrev pub stays : Entry → List ListStep → List Request → Bool
stays e [] l = has (asks e) l
stays e (s ∷ ss) l = has (asks e) l && stays e ss (after s l)

-- at some rotation it is among the first four
abbrev pub is_sent : Entry → List ListStep → List Request → Bool
is_sent e [] l = false
is_sent e (s ∷ ss) l = (is_rotation s && has (asks e) (take 4 l)) || is_sent e ss (after s l)

-- ---- one request an entry, and no more than there is room for, at all times
pub after_one : (s : ListStep) (l : List Request) → OneEach l → OneEach (after s l)
after_one rotates l h = rotated_one l h
after_one (joins e n missed) l h = join_one e n (record { requests = l; missed = missed }) h
after_one (acknowledges e n) l h = acknowledged_one e n l h
after_one (drops e) l h = dropped_one e l h
after_one empties l h = tt

pub after_most : (s : ListStep) (l : List Request) → length l ≤ requests_most → length (after s l) ≤ requests_most
after_most rotates l h = let e = perm_length (rotated_perm l) in omega arith
after_most (joins e n missed) l h =
    let x : Request = record { entry = e; number = n } in
    join_list (λ (z : List Request). length z ≤ requests_most) e n (record { requests = l; missed = missed })
    (let f = length_change no_request (asks e) (raised n) l in omega arith)
    (λ _ g. let f = ltb-true (length l) 64 g in let k = length-append l (x ∷ []) in omega arith)
    h
after_most (acknowledges e n) l h = let f = within_short (acknowledged_order e n l) in omega arith
after_most (drops e) l h = let f = within_short (dropped_order e l) in omega arith
after_most empties l h = omega arith

-- ---- how many stand before the first that passes
module _ {A : Type 0} (p : A → Bool) where
  abbrev index_of : List A → ℕ
  index_of [] = 0
  index_of (x ∷ xs) = pick (p x) 0 (suc (index_of xs))

  nowhere : (l : List A) → length l ≤ index_of l → has p l ≡ false
  nowhere [] h = refl
  nowhere (x ∷ l) h = by (nowhere l) (p x) h where
    by : (length l ≤ index_of l → has p l ≡ false) → (b : Bool) → suc (length l) ≤ pick b 0 (suc (index_of l)) → (b || has p l) ≡ false
    by ih true g = absurd (omega arith)
    by ih false g = ih (omega arith)

  place_front : (l m : List A) → has p l ≡ true → index_of (l ++ m) ≡ index_of l
  place_front [] m h = absurd (false≢true h)
  place_front (x ∷ l) m h = by (place_front l m) (p x) h where
    by : (has p l ≡ true → index_of (l ++ m) ≡ index_of l) → (b : Bool) → (b || has p l) ≡ true
        → pick b 0 (suc (index_of (l ++ m))) ≡ pick b 0 (suc (index_of l))
    by ih true g = refl
    by ih false g = ap suc (ih g)

  place_behind : (l m : List A) → has p l ≡ false → index_of (l ++ m) ≡ length l + index_of m
  place_behind [] m h = omega arith
  place_behind (x ∷ l) m h =
      let r = or_false (p x) (has p l) h in
      let ih : index_of (l ++ m) ≡ length l + index_of m = place_behind l m r.1 in
      rw (r.0, ih) (omega arith)

  has_behind : (l m : List A) → has p l ≡ false → has p (l ++ m) ≡ has p m
  has_behind [] m h = refl
  has_behind (x ∷ l) m h = let r = or_false (p x) (has p l) h in rw r.0 (has_behind l m r.1)

  -- four of the others go to the end
  place_turned : (l : List A) → has p l ≡ true → has p (take 4 l) ≡ false → index_of (drop 4 l ++ take 4 l) + 4 ≡ index_of l
  place_turned [] h g = absurd (false≢true h)
  place_turned (a ∷ []) h g = absurd (false≢true (sym g ∙ h))
  place_turned (a ∷ b ∷ []) h g = absurd (false≢true (sym g ∙ h))
  place_turned (a ∷ b ∷ c ∷ []) h g = absurd (false≢true (sym g ∙ h))
  place_turned (a ∷ b ∷ c ∷ d ∷ m) h g =
      let four : List A = a ∷ b ∷ c ∷ d ∷ [] in
      let far : index_of (four ++ m) ≡ 4 + index_of m = place_behind four m g in
      let near : index_of (m ++ four) ≡ index_of m = place_front m four (sym (has_behind four m g) ∙ h) in
      omega arith

-- ---- a step brings a request that stays no farther from the front, and a rotation that leaves it out brings it four nearer
module _ (e : Entry) where
  place_raised : (f : Entry) (n : CsaNumber) (l : List Request) → index_of (asks e) (change (asks f) (raised n) l) ≡ index_of (asks e) l
  place_raised f n [] = refl
  place_raised f n (q ∷ l) =
      pick_of (λ (z : List Request). index_of (asks e) z ≡ index_of (asks e) (q ∷ l)) (asks f q) (raised n q ∷ l) (q ∷ change (asks f) (raised n) l)
      refl (rw (place_raised f n l))

  -- where one of e is left, the first did not go: there is one only
  place_without : (p : Request → Bool) (l : List Request) → OneEach l → has (asks e) (without p l) ≡ true
      → index_of (asks e) (without p l) ≤ index_of (asks e) l
  place_without p [] one h = omega arith
  place_without p (q ∷ l) one h = by (place_without p l one.1) (p q) (asks e q) refl h where
    by : (has (asks e) (without p l) ≡ true → index_of (asks e) (without p l) ≤ index_of (asks e) l) → (a b : Bool) → asks e q ≡ b
        → has (asks e) (pick a (without p l) (q ∷ without p l)) ≡ true
        → index_of (asks e) (pick a (without p l) (q ∷ without p l)) ≤ pick b 0 (suc (index_of (asks e) l))
    by ih true true g h =
        let none : has (asks e) l ≡ false = ap (λ (f : Entry). has (asks f) l) (sym (entry_true q.entry e g)) ∙ one.0 in
        absurd (false≢true (sym (none_left p (asks e) l none) ∙ h))
    by ih true false g h = let k = ih h in omega arith
    by ih false true g h = rw g (omega arith)
    by ih false false g h = let k = ih (rw g at h) in rw g (omega arith)

  nearer : (s : ListStep) (l : List Request) → OneEach l → has (asks e) l ≡ true → has (asks e) (after s l) ≡ true
      → (is_rotation s && has (asks e) (take 4 l)) ≡ false → index_of (asks e) (after s l) + pick (is_rotation s) 4 0 ≤ index_of (asks e) l
  nearer rotates l one h g out = let k = place_turned (asks e) l h out in omega arith
  nearer (joins f n missed) l one h g out =
      let k : index_of (asks e) (after (joins f n missed) l) ≡ index_of (asks e) l =
      join_list (λ (z : List Request). index_of (asks e) z ≡ index_of (asks e) l) f n (record { requests = l; missed = missed }) (place_raised f n l)
      (λ _ _. place_front (asks e) l (record { entry = f; number = n } ∷ []) h) refl in
      omega arith
  nearer (acknowledges f n) l one h g out = let k = place_without _ l one g in omega arith
  nearer (drops f) l one h g out = let k = place_without (asks f) l one g in omega arith
  nearer empties l one h g out = absurd (false≢true g)

  stays_now : (ss : List ListStep) (l : List Request) → stays e ss l ≡ true → has (asks e) l ≡ true
  stays_now [] l h = h
  stays_now (s ∷ ss) l h = (and_true (has (asks e) l) (stays e ss (after s l)) h).0

  four_each : (b : Bool) (n : ℕ) → pick b (suc n) n * 4 ≡ n * 4 + pick b 4 0
  four_each true n = omega arith
  four_each false n = omega arith

  left_out : (ss : List ListStep) (l : List Request) → OneEach l → stays e ss l ≡ true → is_sent e ss l ≡ false
      → count is_rotation ss * 4 ≤ index_of (asks e) l
  left_out [] l one h f = omega arith
  left_out (s ∷ ss) l one h f =
      let t = and_true (has (asks e) l) (stays e ss (after s l)) h in
      let o = or_false (is_rotation s && has (asks e) (take 4 l)) (is_sent e ss (after s l)) f in
      let step = nearer s l one t.0 (stays_now ss (after s l) t.1) o.0 in
      let rest = left_out ss (after s l) (after_one s l one) t.1 o.1 in
      let n = four_each (is_rotation s) (count is_rotation ss) in
      omega arith

-- a request that stays in its list through steps with sixteen rotations is among the first four at one of them
pub comes_round : (e : Entry) (ss : List ListStep) (l : List Request) → OneEach l → length l ≤ requests_most → stays e ss l ≡ true
    → 16 ≤ count is_rotation ss → is_sent e ss l ≡ true
comes_round e ss l one most h n =
    is_true (is_sent e ss l)
    (λ f.
    let far = left_out e ss l one h f in
    false≢true (sym (nowhere (asks e) l (omega arith)) ∙ stays_now e ss l h))

-- ---- so it is of every list that steps make of the empty one
abbrev pub after_all : List ListStep → List Request → List Request
after_all [] l = l
after_all (s ∷ ss) l = after_all ss (after s l)

all_good : (ss : List ListStep) (l : List Request) → OneEach l → length l ≤ requests_most → OneEach (after_all ss l) × (length (after_all ss l) ≤ requests_most)
all_good [] l one most = (one, most)
all_good (s ∷ ss) l one most = all_good ss (after s l) (after_one s l one) (after_most s l most)

pub comes_round_always : (e : Entry) (earlier ss : List ListStep) → stays e ss (after_all earlier []) ≡ true → 16 ≤ count is_rotation ss
    → is_sent e ss (after_all earlier []) ≡ true
comes_round_always e earlier ss h n =
    let good = all_good earlier [] tt (omega arith) in
    comes_round e ss (after_all earlier []) good.0 good.1 h n
