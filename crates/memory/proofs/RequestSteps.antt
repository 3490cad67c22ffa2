-- What the functions on a request list leave, from what those that they call leave.
-- Assumes nothing.
use Rattle.std.proofs.Common.{◌≡◌, ℕ, suc, ◌+◌, ◌<◌, ◌≤◌, min, Bool, true, false, not, ltb, List, [], ◌∷◌, ◌++◌, length, get_or, take, set, sym, refl, ap, ◌∙◌, subst, add-one, arith, length-take, get_or-take, take-suc-set, le-ltb, lt-ltb}
use mathlib.Core.Bool.{false≢true}
use lib.Seq.{take-set-lt}
use Rattle.std.specs.Prelude.{Option, Some, None}
use Rattle.std.specs.List.{position}
use Rattle.laws.specs.Choice.{pick}
use Rattle.laws.specs.Tables.{has, change}
use Rattle.laws.proofs.Lists.{take_taken}
use Rattle.protocol.specs.declared.CsaNumber.{CsaNumber}
use Rattle.protocol.specs.Fields.{octet, field2}
use Rattle.protocol.specs.Numbers.{newer}
use Rattle.rules.specs.Server.{Entry, Request}
use Rattle.rules.specs.Requests.{asks, raised, join, Wanted}
use Rattle.memory.specs.Layout.{request_size, memory_size, list_place, request_tag_place, request_place}
use Rattle.memory.specs.Memory.{entry_named, tag_of, request_in, requests_in, memory_of, requests_put, requests_of}
use Rattle.memory.specs.Search.{FirstOctet, FirstIndex}
use Rattle.memory.specs.Lists.{rooms_in, no_request, Listed, goes, Joins}
use Rattle.memory.proofs.Rooms.{rooms_length, rooms_get, requests_in_lem, requests_of_lem, listed_none, listed_then, listed_requests}
use Rattle.memory.proofs.RoomReads.{room_is, asks_other, raised_newer, raised_not}
use Rattle.memory.proofs.RequestLists.{Passed, passed_more, place_hit, place_end, placed, nowhere}

-- ---- one change after another
module _ {k n : ℕ} {l : List Request} {s t : List ℕ} (p : Listed k n l s t) where
  pub then_sized : (u : List ℕ) (m : ℕ) → Listed k m (rooms_in t k) t u → Listed k m l s u
  then_sized u m q = record { used = q.used; held = q.held ∙ p.held; others = (listed_then p q).others }

  -- whatever it leaves
  pub then_any : (u : List ℕ) (r : List Request) → Listed k (field2 t (list_place k)) r t u → Listed k n (rooms_in u k) s u
  then_any u r q = record { used = q.used ∙ p.used; held = refl; others = (listed_then p q).others }

pub rooms_are : {k n : ℕ} {l : List Request} {s t : List ℕ} (r : List Request) → l ≡ r → Listed k n l s t → Listed k n r s t
rooms_are {k} {n} {l} {s} {t} r e p = record { used = p.used; held = p.held ∙ e; others = p.others }

-- ---- a list and its rooms
module _ (s : List ℕ) (k : ℕ) where
  few : (i : ℕ) → i < length (requests_in s k) → i < field2 s (list_place k)
  few i h =
      let e : length (requests_in s k) ≡ min (field2 s (list_place k)) (length (rooms_in s k)) =
      ap length (requests_in_lem s k) ∙ length-take (field2 s (list_place k)) (rooms_in s k) in
      omega arith

  pub list_get : (i : ℕ) → i < length (requests_in s k) → get_or (requests_in s k) i no_request ≡ get_or (rooms_in s k) i no_request
  list_get i h = ap (λ (z : List Request). get_or z i no_request) (requests_in_lem s k) ∙ get_or-take (field2 s (list_place k)) (rooms_in s k) i no_request (few i h)

  -- the first n rooms, where n are in use
  pub list_take : (n : ℕ) → n ≡ length (requests_in s k) → take n (rooms_in s k) ≡ requests_in s k
  list_take n e =
      ap (λ (z : ℕ). take z (rooms_in s k)) (e ∙ ap length (requests_in_lem s k)) ∙ (take_taken (field2 s (list_place k)) (rooms_in s k)).1
      ∙ sym (requests_in_lem s k)

  pub list_set : (i : ℕ) (x : Request) → i < length (requests_in s k) → take (field2 s (list_place k)) (set (rooms_in s k) i x) ≡ set (requests_in s k) i x
  list_set i x h =
      take-set-lt (field2 s (list_place k)) (rooms_in s k) i x (few i h) ∙ ap (λ (z : List Request). set z i x) (sym (requests_in_lem s k))

-- ---- the first for an entry
module _ (s : List ℕ) (k n i : ℕ) (name : List ℕ) (long : n ≡ length (requests_in s k)) where
  -- the first i of the list are not for it
  abbrev pub Looked : Type 0
  Looked = Passed (asks (entry_named name)) no_request (requests_in s k) i

  pub find_from : (t at : ℕ) → k < 8 → length s ≡ memory_size → 4 < length name → t ≡ tag_of name → n ≤ 64 → at ≡ request_tag_place k 0 → FirstOctet s at t i
      → Looked
  find_from t at slot size four own most place f j g h =
      let p : request_place k j + request_size ≤ length s = omega arith in
      let q : at + j ≡ request_tag_place k j = omega arith in
      ap (asks (entry_named name)) (list_get s k j h)
      ∙ asks_other s k j (request_place k j) refl name t (omega arith) p four own
      (λ e. let l = f.none_before j (omega arith) (ap (octet s) q ∙ e) in omega arith)

  module _ (a : Bool) (so : Looked) (h : i < n) (f : a ≡ asks (entry_named name) (get_or (rooms_in s k) i no_request)) where
    tested : asks (entry_named name) (get_or (requests_in s k) i no_request) ≡ a
    tested = ap (asks (entry_named name)) (list_get s k i (omega arith)) ∙ sym f

    pub find_hit : a ≡ true → Some i ≡ position (asks (entry_named name)) (requests_in s k)
    find_hit g = sym (place_hit (asks (entry_named name)) no_request (requests_in s k) i (omega arith) so (tested ∙ g))

    pub find_miss : a ≡ false → Passed (asks (entry_named name)) no_request (requests_in s k) (i + 1)
    find_miss g = passed_more (asks (entry_named name)) no_request (requests_in s k) i so (tested ∙ g)

  pub find_end : Looked → n ≤ i → None ≡ position (asks (entry_named name)) (requests_in s k)
  find_end so h = sym (place_end (asks (entry_named name)) no_request (requests_in s k) i (omega arith) so)

-- no tag is the entry's
pub find_none : (s : List ℕ) (k n : ℕ) (name : List ℕ) → n ≡ length (requests_in s k) → (t at : ℕ) → k < 8 → length s ≡ memory_size
    → 4 < length name → t ≡ tag_of name → n ≤ 64 → at ≡ request_tag_place k 0 → FirstIndex s at t None
    → None ≡ position (asks (entry_named name)) (requests_in s k)
find_none s k n name long t at slot size four own most place f =
    find_end s k n 64 name long (find_from s k n 64 name long t at slot size four own most place
    (record { there = λ h. absurd (omega arith); none_before = λ j h e. absurd (f j h e) })) most

-- ---- a number raised
module _ (s t : List ℕ) (k i : ℕ) (e : Entry) (n m : CsaNumber) (r : Bool) (room : i < 64) (is : m ≡ (request_in s k i).number) where
  number_room : m ≡ (get_or (rooms_in s k) i no_request).number
  number_room = is ∙ ap (λ (q : Request). q.number) (sym (rooms_get s k i room))

  pub raise_done : r ≡ newer n m → r ≡ true → asks e (get_or (rooms_in s k) i no_request) ≡ true
      → Listed k (field2 s (list_place k)) (set (rooms_in s k) i (record { entry = e; number = n })) s t
      → Listed k (field2 s (list_place k)) (set (rooms_in s k) i (raised n (get_or (rooms_in s k) i no_request))) s t
  raise_done f g h p =
      room_is k (field2 s (list_place k)) i (rooms_in s k) s t (record { entry = e; number = n }) (raised n (get_or (rooms_in s k) i no_request))
      (raised_newer e n (get_or (rooms_in s k) i no_request) h (ap (newer n) (sym number_room) ∙ sym f ∙ g)) p

  pub raise_not : k < 8 → r ≡ newer n m → r ≡ false
      → Listed k (field2 s (list_place k)) (set (rooms_in s k) i (raised n (get_or (rooms_in s k) i no_request))) s s
  raise_not slot f g = raised_not s k i n slot (ap (newer n) (sym number_room) ∙ sym f ∙ g)

  -- ---- whether a request goes; here n is the number to compare with
  pub goes_by : (u : Option CsaNumber) (a : Bool) → a ≡ asks e (get_or (rooms_in s k) i no_request) → a ≡ true → u ≡ Some n → r ≡ newer m n
      → not r ≡ goes u e (get_or (rooms_in s k) i no_request)
  goes_by u a f g h j =
      let x : asks e (get_or (rooms_in s k) i no_request) ≡ true = sym f ∙ g in
      rw (h, x) (ap not (j ∙ ap (λ (z : CsaNumber). newer z n) number_room))

-- a request of another entry stays
pub goes_not : (u : Option CsaNumber) (e : Entry) (q : Request) → asks e q ≡ false → goes u e q ≡ false
goes_not None e q h = h
goes_not (Some n) e q h = rw h

-- ---- joining
module _ (e : Entry) (n : CsaNumber) (l : List Request) (missed : ℕ) where
  join_has : has (asks e) l ≡ true
      → join e n (record { requests = l; missed = missed }) ≡ record { requests = change (asks e) (raised n) l; missed = missed }
  join_has h = rw h

  join_adds : has (asks e) l ≡ false → length l < 64
      → join e n (record { requests = l; missed = missed }) ≡ record { requests = l ++ (record { entry = e; number = n } ∷ []); missed = missed }
  join_adds h g = rw (h, lt-ltb (length l) 64 g)

  join_misses : has (asks e) l ≡ false → 64 ≤ length l
      → join e n (record { requests = l; missed = missed }) ≡ record { requests = l; missed = pick (ltb missed 65535) (suc missed) missed }
  join_misses h g = rw (h, le-ltb (length l) 64 g)

module _ (s : List ℕ) (k : ℕ) (slot : k < 8) (e : Entry) (n : CsaNumber) (missed m : ℕ) (long : m ≡ length (requests_in s k)) where
  -- what it comes to, of the list that the rules speak of
  joined : (t : List ℕ) (l : List Request) (r : ℕ) → requests_in t k ≡ l → memory_of t ≡ requests_put k (requests_in t k) (memory_of s)
      → join e n (record { requests = requests_in s k; missed = missed }) ≡ record { requests = l; missed = r }
      → (has (asks e) (requests_in s k) ≡ false → ltb (length (requests_in s k)) 64 ≡ false → t ≡ s) → Joins k e n missed s t r
  joined t l r a b c d =
      let f : join e n (record { requests = requests_of (memory_of s) k; missed = missed }) ≡ record { requests = l; missed = r } =
      ap (λ (z : List Request). join e n (record { requests = z; missed = missed })) (requests_of_lem s k slot) ∙ c in
      record {
        list = b ∙ ap (λ (z : List Request). requests_put k z (memory_of s)) (a ∙ sym (ap (λ (w : Wanted). w.requests) f));
        count = sym (ap (λ (w : Wanted). w.missed) f);
        kept = λ none most. d (ap (has (asks e)) (sym (requests_of_lem s k slot)) ∙ none)
            (ap (λ (z : List Request). ltb (length z) 64) (sym (requests_of_lem s k slot)) ∙ most);
      }

  -- the entry's request is found at i
  module _ (i : ℕ) (found : Some i ≡ position (asks e) (requests_in s k)) where
    pub join_asks : asks e (get_or (rooms_in s k) i no_request) ≡ true
    join_asks =
        let P = placed (asks e) no_request (requests_in s k) i found in
        ap (asks e) (sym (list_get s k i P.below)) ∙ P.passes

    pub join_found : (t : List ℕ) → Listed k (field2 s (list_place k)) (set (rooms_in s k) i (raised n (get_or (rooms_in s k) i no_request))) s t
        → Joins k e n missed s t missed
    join_found t p =
        let l : List Request = requests_in s k in
        let P = placed (asks e) no_request l i found in
        let f : requests_in t k ≡ change (asks e) (raised n) l =
        listed_requests p ∙ list_set s k i (raised n (get_or (rooms_in s k) i no_request)) P.below
        ∙ ap (λ (q : Request). set l i (raised n q)) (sym (list_get s k i P.below)) ∙ sym (P.changes (raised n)) in
        joined t (change (asks e) (raised n) l) missed f p.others (join_has e n l missed P.there) (λ none most. absurd (false≢true (sym none ∙ P.there)))

  pub join_new : (t : List ℕ) → None ≡ position (asks e) (requests_in s k) → m < 64
      → Listed k (m + 1) (set (rooms_in s k) m (record { entry = e; number = n })) s t → Joins k e n missed s t missed
  join_new t h g p =
      let l : List Request = requests_in s k in
      let x : Request = record { entry = e; number = n } in
      let room : m < length (rooms_in s k) = omega (arith, rooms_length s k) in
      let f : requests_in t k ≡ l ++ (x ∷ []) =
      listed_requests p ∙ ap (λ (z : ℕ). take z (set (rooms_in s k) m x)) (add-one m) ∙ take-suc-set (rooms_in s k) m x room
      ∙ ap (λ (z : List Request). z ++ (x ∷ [])) (list_take s k m long) in
      joined t (l ++ (x ∷ [])) missed f p.others (join_adds e n l missed (nowhere (asks e) no_request l h) (omega arith))
      (λ none most. absurd (false≢true (sym most ∙ lt-ltb (length l) 64 (omega arith))))

  pub join_full : (r : ℕ) → None ≡ position (asks e) (requests_in s k) → 64 ≤ m → r ≡ pick (ltb missed 65535) (suc missed) missed → Joins k e n missed s s r
  join_full r h g c =
      let l : List Request = requests_in s k in
      subst (Joins k e n missed s s) (sym c)
      (joined s l (pick (ltb missed 65535) (suc missed) missed) refl (listed_none s k slot).others
      (join_misses e n l missed (nowhere (asks e) no_request l h) (omega arith)) (λ none most. refl))
