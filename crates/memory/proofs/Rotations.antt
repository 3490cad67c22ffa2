-- Octets rotated, and with them the requests of a list.
-- The octets are given by where each one came from; so room j holds what room j + 4 held, or one of the first four; the list follows cell by cell.
-- Assumes nothing.
use Rattle.std.proofs.Common.{◌≡◌, ℕ, ◌+◌, ◌-◌, ◌*◌, ◌<◌, ◌≤◌, min, ◌⊎◌, List, ◌++◌, length, get_or, take, drop, sym, ap, ◌∙◌, append_assoc, inl, inr, arith, length-append, length-drop, drop_of_length-le, length-take, get_or-drop, take_all, get_or-take, get_or-append-add, ext_get_or, replicate, take_at}
use native.Mathlib.Decide.{dec_le}
use lib.ListN.{get_or-append}
use lib.Seq.{paste}
use Rattle.laws.specs.Lists.{part}
use Rattle.laws.specs.Puts.{put_at}
use Rattle.laws.proofs.Lists.{part_length}
use Rattle.laws.proofs.Puts.{put_put, put_length}
use Rattle.protocol.specs.Fields.{octet, field2}
use Rattle.rules.specs.Server.{Request}
use Rattle.rules.specs.Requests.{rotated}
use Rattle.memory.specs.Layout.{list_size, memory_size, list_place, request_tag_place, request_place}
use Rattle.memory.specs.Memory.{request_in, requests_in, memory_of, requests_put, requests_of}
use Rattle.memory.specs.Lists.{request_of, rooms_in, no_request, rotated_at}
use Rattle.memory.proofs.Frame.{Same, put_other, put_inside, field2_same, list_changed}
use Rattle.memory.proofs.Rooms.{octet_part, request_of_lem, rooms_length, rooms_get, requests_in_lem, requests_of_lem, listed_none}
use Rattle.memory.proofs.RequestSteps.{list_get}

-- ---- octets moved up
moved_up : (s u : List ℕ) (at by n m : ℕ) → at + by + n ≤ length s → m ≡ n → u ≡ paste s at (drop (at + by) s) m → u ≡ put_at s at (part s (at + by) n)
unfolding put_at
moved_up s u at by n m h e f =
    let l : m ≡ length (part s (at + by) n) = e ∙ sym (part_length s (at + by) n h) in
    f ∙ append_assoc (take at s) (take m (drop (at + by) s)) (drop (at + m) s)
    ∙ (λ z. take at s ++ (take (e z) (drop (at + by) s) ++ drop (at + l z) s))

-- and the others behind them
pub rotated_octets : (s : List ℕ) (at by n k to : ℕ) (q t u : List ℕ) → by ≤ n → at + n ≤ length s → k ≡ n - by → to ≡ at + (n - by) → q ≡ part s at by
    → t ≡ paste s at (drop (at + by) s) k → u ≡ put_at t to q → u ≡ rotated_at at n by s
rotated_octets s at by n k to q t u h g e d p f j =
    let w : List ℕ = part s (at + by) (n - by) in
    let l : length w ≡ n - by = part_length s (at + by) (n - by) (omega arith) in
    let m : t ≡ put_at s at w = moved_up s t at by (n - by) k (omega arith) e f in
    let b : to ≡ at + length w = omega arith in
    j ∙ (λ z. put_at (m z) (b z) (p z)) ∙ put_put s at w (part s at by) (omega arith)

-- ---- where each octet came from
module _ (s : List ℕ) (at n by : ℕ) (h : by ≤ n) (g : at + n ≤ length s) where
  abbrev back : List ℕ
  back = part s (at + by) (n - by)

  back_length : length back ≡ n - by
  back_length = part_length s (at + by) (n - by) (omega arith)

  whole_length : length (back ++ part s at by) ≡ n
  whole_length =
      let a = length-append back (part s at by) in
      let b = back_length in
      let c : length (part s at by) ≡ by = part_length s at by (omega arith) in
      omega arith

  room : at + length (back ++ part s at by) ≤ length s
  room = let a = whole_length in omega arith

  rotated_size : length (rotated_at at n by s) ≡ length s
  rotated_size = put_length s at (back ++ part s at by) room

  rotated_other : (j : ℕ) → (j < at) ⊎ (at + n ≤ j) → octet (rotated_at at n by s) j ≡ octet s j
  rotated_other j (inl e) = put_other s (back ++ part s at by) at room j (inl e)
  rotated_other j (inr e) = put_other s (back ++ part s at by) at room j (inr (let a = whole_length in omega arith))

  rotated_front : (x j i : ℕ) → j ≡ at + x → i ≡ at + by + x → x < n - by → octet (rotated_at at n by s) j ≡ octet s i
  rotated_front x j i e f k =
      let a = whole_length in
      let b = back_length in
      ap (octet (rotated_at at n by s)) e ∙ put_inside s (back ++ part s at by) at room x (omega arith)
      ∙ get_or-append back (part s at by) 0 x (omega arith) ∙ octet_part s (at + by) (n - by) x k ∙ ap (octet s) (sym f)

  rotated_end : (x j i : ℕ) → j ≡ at + (n - by) + x → i ≡ at + x → x < by → octet (rotated_at at n by s) j ≡ octet s i
  rotated_end x j i e f k =
      let a = whole_length in
      let b = back_length in
      let z : j ≡ at + (length back + x) = omega arith in
      ap (octet (rotated_at at n by s)) z ∙ put_inside s (back ++ part s at by) at room (length back + x) (omega arith)
      ∙ get_or-append-add back (part s at by) x 0 ∙ octet_part s at by x k ∙ ap (octet s) (sym f)

-- ---- a request whose octets came from another room
part_moved : (s t : List ℕ) (at to n : ℕ) → to + n ≤ length t → at + n ≤ length s → ((o : ℕ) → o < n → octet t (to + o) ≡ octet s (at + o)) → part t to n
    ≡ part s at n
part_moved s t at to n g h f =
    let a : length (part t to n) ≡ n = part_length t to n g in
    let b : length (part s at n) ≡ n = part_length s at n h in
    ext_get_or 0 (part t to n) (part s at n) (a ∙ sym b)
    (λ o l. octet_part t to n o (omega arith) ∙ f o (omega arith) ∙ sym (octet_part s at n o (omega arith)))

request_moved : (s t : List ℕ) (k i j : ℕ) → request_place k j + 28 ≤ length t → request_place k i + 28 ≤ length s → octet t (request_tag_place k j)
    ≡ octet s (request_tag_place k i)
    → ((o : ℕ) → o < 28 → octet t (request_place k j + o) ≡ octet s (request_place k i + o)) → request_in t k j ≡ request_in s k i
request_moved s t k i j g h e f =
    sym (request_of_lem t k j) ∙ (λ z. request_of (e z) (part_moved s t (request_place k i) (request_place k j) 28 g h f z)) ∙ request_of_lem s k i

-- ---- the rooms of a list, then their tags
module _ (s : List ℕ) (k n : ℕ) (slot : k < 8) (some : 4 < n) (most : n ≤ 64) (size : length s ≡ memory_size) where
  abbrev rooms_at : ℕ
  rooms_at = request_place k 0

  abbrev tags_at_lem : ℕ
  tags_at_lem = request_tag_place k 0

  abbrev u : List ℕ
  u = rotated_at rooms_at (n * 28) 112 s

  abbrev t : List ℕ
  t = rotated_at tags_at_lem n 4 u

  u_size : length u ≡ length s
  u_size = rotated_size s rooms_at (n * 28) 112 (omega arith) (omega arith)

  t_size : length t ≡ length s
  t_size = let a = u_size in rotated_size u tags_at_lem n 4 (omega arith) (omega arith) ∙ a

  -- octets outside both
  outside : (j : ℕ) → (j < tags_at_lem) ⊎ (rooms_at + n * 28 ≤ j) → octet t j ≡ octet s j
  outside j (inl e) =
      let a = u_size in
      rotated_other u tags_at_lem n 4 (omega arith) (omega arith) j (inl e)
      ∙ rotated_other s rooms_at (n * 28) 112 (omega arith) (omega arith) j (inl (omega arith))
  outside j (inr e) =
      let a = u_size in
      rotated_other u tags_at_lem n 4 (omega arith) (omega arith) j (inr (omega arith))
      ∙ rotated_other s rooms_at (n * 28) 112 (omega arith) (omega arith) j (inr e)

  request_front : (j : ℕ) → j + 4 < n → request_in t k j ≡ request_in s k (4 + j)
  request_front j h =
      let a = u_size in
      let b = t_size in
      request_moved s t k (4 + j) j (omega arith) (omega arith)
      (rotated_front u tags_at_lem n 4 (omega arith) (omega arith) j (request_tag_place k j) (request_tag_place k (4 + j)) (omega arith) (omega arith) (omega arith)
      ∙ rotated_other s rooms_at (n * 28) 112 (omega arith) (omega arith) (request_tag_place k (4 + j)) (inl (omega arith)))
      (λ o l. rotated_other u tags_at_lem n 4 (omega arith) (omega arith) (request_place k j + o) (inr (omega arith))
      ∙ rotated_front s rooms_at (n * 28) 112 (omega arith) (omega arith) (j * 28 + o) (request_place k j + o) (request_place k (4 + j) + o) (omega arith)
      (omega arith) (omega arith))

  request_end : (j e : ℕ) → e < 4 → j ≡ n - 4 + e → request_in t k j ≡ request_in s k e
  request_end j e h f =
      let a = u_size in
      let b = t_size in
      request_moved s t k e j (omega arith) (omega arith)
      (rotated_end u tags_at_lem n 4 (omega arith) (omega arith) e (request_tag_place k j) (request_tag_place k e) (omega arith) (omega arith) h
      ∙ rotated_other s rooms_at (n * 28) 112 (omega arith) (omega arith) (request_tag_place k e) (inl (omega arith)))
      (λ o l. rotated_other u tags_at_lem n 4 (omega arith) (omega arith) (request_place k j + o) (inr (omega arith))
      ∙ rotated_end s rooms_at (n * 28) 112 (omega arith) (omega arith) (e * 28 + o) (request_place k j + o) (request_place k e + o) (omega arith)
      (omega arith) (omega arith))

  same_front : Same 0 tags_at_lem t s
  same_front = record { size = t_size; octets = λ j g h. outside j (inl h) }

  same_end : Same (list_place k + list_size) memory_size t s
  same_end = record { size = t_size; octets = λ j g h. outside j (inr (omega arith)) }

  module _ (long : n ≡ length (requests_in s k)) where
    abbrev l : List Request
    l = requests_in s k

    long_after : length (requests_in t k) ≡ n
    long_after =
        let f = field2_same 0 tags_at_lem t s same_front (list_place k) (omega arith) (omega arith) in
        ap length (requests_in_lem t k) ∙ length-take (field2 t (list_place k)) (rooms_in t k) ∙ (λ z. min (f z) ((rooms_length t k ∙ sym (rooms_length s k)) z))
        ∙ sym (length-take (field2 s (list_place k)) (rooms_in s k)) ∙ ap length (sym (requests_in_lem s k)) ∙ sym long

    before : (i : ℕ) → i < n → get_or l i no_request ≡ request_in s k i
    before i h = list_get s k i (omega arith) ∙ rooms_get s k i (omega arith)

    after : (i : ℕ) → i < n → get_or (requests_in t k) i no_request ≡ request_in t k i
    after i h = let a = long_after in list_get t k i (omega arith) ∙ rooms_get t k i (omega arith)

    cell : (i : ℕ) → i < n → Dec (i + 5 ≤ n) → get_or (requests_in t k) i no_request ≡ get_or (drop 4 l ++ take 4 l) i no_request
    cell i h (yes y) =
        let d = length-drop 4 l in
        after i h ∙ request_front i (omega arith)
        ∙ sym (get_or-append (drop 4 l) (take 4 l) no_request i (omega arith) ∙ get_or-drop 4 l i no_request ∙ before (4 + i) (omega arith))
    cell i h (no y) =
        let d = length-drop 4 l in
        let e : ℕ = i - (n - 4) in
        let f : i ≡ length (drop 4 l) + e = omega (arith, y) in
        after i h ∙ request_end i e (omega (arith, y)) (omega (arith, y))
        ∙ sym (ap (λ (j : ℕ). get_or (drop 4 l ++ take 4 l) j no_request) f ∙ get_or-append-add (drop 4 l) (take 4 l) e no_request
        ∙ get_or-take 4 l e no_request (omega (arith, y)) ∙ before e (omega (arith, y)))

    list_rotated : requests_in t k ≡ rotated l
    list_rotated =
        let a = long_after in
        let b = length-append (drop 4 l) (take 4 l) in
        let c = length-drop 4 l in
        let d = length-take 4 l in
        ext_get_or no_request (requests_in t k) (drop 4 l ++ take 4 l) (omega arith) (λ i h. cell i (omega arith) (dec_le (i + 5) n))

    pub rotate_done : (v w : List ℕ) (at to : ℕ) → at ≡ request_place k 0 → to ≡ request_tag_place k 0 → v ≡ rotated_at at (n * 28) 112 s → w ≡ rotated_at to n 4 v
        → memory_of w ≡ requests_put k (rotated (requests_of (memory_of s) k)) (memory_of s)
    rotate_done v w at to e f p q =
        let octets : w ≡ t = q ∙ (λ z. rotated_at (f z) n 4 ((p ∙ ap (λ (a : ℕ). rotated_at a (n * 28) 112 s) e) z)) in
        ap memory_of octets ∙ list_changed s t k slot (record { size = t_size; octets = λ j g h. outside j (inl (omega arith)) }) same_end
        ∙ ap (λ (z : List Request). requests_put k z (memory_of s)) (list_rotated ∙ ap rotated (sym (requests_of_lem s k slot)))

-- four or fewer stand as they did
pub rotate_none : (s : List ℕ) (k n : ℕ) → k < 8 → n ≡ length (requests_in s k) → n ≤ 4 → memory_of s
    ≡ requests_put k (rotated (requests_of (memory_of s) k)) (memory_of s)
rotate_none s k n slot long few =
    let l : List Request = requests_in s k in
    let h : length l ≤ 4 = omega arith in
    let e : l ≡ rotated l = sym (λ z. drop_of_length-le l h z ++ take_all 4 l h z) in
    (listed_none s k slot).others ∙ ap (λ (z : List Request). requests_put k z (memory_of s)) (e ∙ ap rotated (sym (requests_of_lem s k slot)))

-- the octets that `first_of` keeps
pub first_kept : (s v q : List ℕ) (at n : ℕ) → n ≤ 112 → at + n ≤ length s → v ≡ part s at n → q ≡ take (length v) v ++ drop (length v) (replicate 112 0)
    → (length q ≡ 112) × (take n q ≡ part s at n)
first_kept s v q at n h fits e f =
    let rest : List ℕ = drop (length v) (replicate 112 0) in
    let m : length v ≡ n = ap length e ∙ part_length s at n fits in
    let w : take (length v) v ≡ v = take_all (length v) v (omega arith) in
    let g : q ≡ v ++ rest = f ∙ ap (λ (z : List ℕ). z ++ rest) w in
    let a = length-append v rest in
    let b : length rest ≡ 112 - length v = length-drop (length v) (replicate 112 0) in
    (ap length g ∙ a ∙ omega arith, ap (take n) g ∙ take_at v rest n m ∙ e)
