-- The rooms of a request list: what octets put there hold, what stays, and what the whole memory means then.
-- Assumes nothing.
use Rattle.std.proofs.Common.{◌≡◌, ℕ, zero, suc, ◌+◌, ◌-◌, ◌*◌, ◌/◌, ◌%◌, ◌<◌, ◌≤◌, min, List, [], ◌∷◌, ◌++◌, length, get_or, take, drop, set, sym, refl, ap, ◌∙◌, inl, inr, add-zero, div-add-mod', arith, length-drop, length-take-le, get_or-drop, get_or-set_other, get_or-take, get_or-set_same, take-take, drop-drop, take_at, drop_at, set-set}
use native.Mathlib.Omega.{ne_cases}
use lib.Seq.{take-nil}
use Rattle.laws.specs.Lists.{part}
use Rattle.laws.specs.Puts.{put_at}
use Rattle.laws.proofs.Lists.{part_length}
use Rattle.laws.proofs.Puts.{put_length}
use Rattle.protocol.specs.Fields.{octet, field2, put2}
use Rattle.protocol.specs.Numbers.{csa_of}
use Rattle.rules.specs.Server.{slots_most, requests_most, Request}
use Rattle.memory.specs.Layout.{request_size, list_size, memory_size, list_place, request_tag_place, request_place}
use Rattle.memory.specs.Memory.{tagged_entry, room_name, request_in, requests_in, memory_of, requests_put, requests_of}
use Rattle.memory.specs.Lists.{request_of, rooms_in, no_request, Listed}
use Rattle.memory.proofs.NameLaws.{tagged_originator}
use Rattle.memory.proofs.Frame.{Same, same_trans, set_before, set_behind, put_other, part_same, put_inside, put_before, put_behind, same_refl}
use Rattle.memory.proofs.Frame.{field2_same, table_same, table_set, table_get, table_length, request_same, list_changed}

-- ---- parts
pub drop_take : {A : Type 0} (i n : ℕ) (l : List A) → drop i (take (i + n) l) ≡ take n (drop i l)
drop_take zero n l = let e : 0 + n ≡ n = omega arith in ap (λ (m : ℕ). take m l) e
drop_take (suc i) n [] = ap (drop (suc i)) (take-nil (suc i + n)) ∙ sym (take-nil n)
drop_take (suc i) n (x ∷ l) = let e : suc i + n ≡ suc (i + n) = omega arith in ap (λ (m : ℕ). drop (suc i) (take m (x ∷ l))) e ∙ drop_take i n l

module _ (s : List ℕ) (at n : ℕ) where
  pub octet_part : (i : ℕ) → i < n → octet (part s at n) i ≡ octet s (at + i)
  octet_part i h = get_or-take n (drop at s) i 0 h ∙ get_or-drop at s i 0

  pub part_part : (i m : ℕ) → i + m ≤ n → part (part s at n) i m ≡ part s (at + i) m
  part_part i m h =
      let e : n ≡ i + (n - i) = omega arith in
      let g : m ≤ n - i = omega arith in
      ap (λ (z : ℕ). take m (drop i (take z (drop at s)))) e ∙ ap (take m) (drop_take i (n - i) (drop at s))
      ∙ take-take m (n - i) (drop i (drop at s)) g ∙ ap (take m) (drop-drop i at s)

-- what was put is there
pub part_put : (s v : List ℕ) (at n : ℕ) → at ≤ length s → length v ≡ n → part (put_at s at v) at n ≡ v
unfolding put_at
part_put s v at n h e = ap (take n) (drop_at (take at s) (v ++ drop (at + length v) s) at (length-take-le at s h)) ∙ take_at v (drop (at + length v) s) n e

pub size_put : (s : List ℕ) (at n : ℕ) → at + 2 ≤ length s → field2 (put_at s at (put2 n [])) at ≡ n
size_put s at n h =
    let v : List ℕ = put2 n [] in
    let z : at + 0 ≡ at = add-zero at in
    let a : octet (put_at s at v) at ≡ n / 256 = ap (octet (put_at s at v)) (sym z) ∙ put_inside s v at h 0 (omega arith) in
    let b : octet (put_at s at v) (at + 1) ≡ n % 256 = put_inside s v at h 1 (omega arith) in
    (λ i. a i * 256 + b i) ∙ div-add-mod' n 256

-- a request is what the octets of its room hold
pub request_of_lem : (s : List ℕ) (k i : ℕ) → request_of (octet s (request_tag_place k i)) (part s (request_place k i) request_size) ≡ request_in s k i
unfolding request_of request_in
request_of_lem s k i =
    let at : ℕ = request_place k i in
    let z : octet (part s at 28) 0 ≡ octet s at = octet_part s at 28 0 (omega arith) ∙ ap (octet s) (add-zero at) in
    let five : at + 5 ≡ at + 4 + 1 = omega arith in
    let six : at + 6 ≡ at + 4 + 2 = omega arith in
    let seven : at + 7 ≡ at + 4 + 3 = omega arith in
    let n : ℕ = min (octet s at) 16 in
    let name : room_name (part s at 28) 0 ≡ room_name s at =
    ap (λ (x : ℕ). part (part s at 28) 8 (min x 16 + 4)) z ∙ part_part s at 28 8 (n + 4) (omega arith) in
    let a = octet_part s at 28 4 (omega arith) in
    let b = octet_part s at 28 5 (omega arith) ∙ ap (octet s) five in
    let c = octet_part s at 28 6 (omega arith) ∙ ap (octet s) six in
    let d = octet_part s at 28 7 (omega arith) ∙ ap (octet s) seven in
    λ j. record {
      entry = tagged_entry (octet s (request_tag_place k i)) (name j);
      number = csa_of (((a j * 256 + b j) * 256 + c j) * 256 + d j);
    }

-- ---- the rooms
pub rooms_length : (s : List ℕ) (k : ℕ) → length (rooms_in s k) ≡ 64
unfolding rooms_in
rooms_length s k = table_length (request_in s k) requests_most 0

pub rooms_get : (s : List ℕ) (k i : ℕ) → i < 64 → get_or (rooms_in s k) i no_request ≡ request_in s k i
unfolding rooms_in
rooms_get s k i h = table_get (request_in s k) requests_most i no_request h

pub requests_in_lem : (s : List ℕ) (k : ℕ) → requests_in s k ≡ take (field2 s (list_place k)) (rooms_in s k)
unfolding rooms_in requests_in
requests_in_lem s k = refl

pub requests_of_lem : (s : List ℕ) (k : ℕ) → k < 8 → requests_of (memory_of s) k ≡ requests_in s k
unfolding memory_of
requests_of_lem s k h = table_get (requests_in s) slots_most k [] h

-- ---- changes of one list
module _ (s : List ℕ) (k : ℕ) (slot : k < 8) where
  pub listed_none : Listed k (field2 s (list_place k)) (rooms_in s k) s s
  listed_none = record {
    used = refl;
    held = refl;
    others = list_changed s s k slot (same_refl 0 (list_place k) s) (same_refl (list_place k + list_size) memory_size s);
  }

  module _ (size : length s ≡ memory_size) where
    -- a room is filled, and its tag put
    module _ (tag : ℕ) (v : List ℕ) (i : ℕ) (room : i < 64) (full : length v ≡ 28) where
      abbrev at : ℕ
      at = request_place k i

      abbrev t : List ℕ
      t = set (put_at s at v) (request_tag_place k i) tag

      fits : at + length v ≤ length s
      fits = omega arith

      -- elsewhere: behind the room, before the list and in the other rooms and tags
      behind : (a b : ℕ) → at + 28 ≤ a → Same a b t s
      behind a b h = same_trans (set_behind (put_at s at v) (request_tag_place k i) tag a b (omega arith)) (put_behind s v at fits a b (omega arith))

      before : (a b : ℕ) → request_tag_place k i < a → b ≤ at → Same a b t s
      before a b h g = same_trans (set_behind (put_at s at v) (request_tag_place k i) tag a b h) (put_before s v at fits a b g)

      front : (a b : ℕ) → b ≤ request_tag_place k i → Same a b t s
      front a b h = same_trans (set_before (put_at s at v) (request_tag_place k i) tag a b h) (put_before s v at fits a b (omega arith))

      other_tag : (j : ℕ) → j < 64 → (j ≡ i → ⊥) → octet t (request_tag_place k j) ≡ octet s (request_tag_place k j)
      other_tag j h n =
          get_or-set_other (put_at s at v) (request_tag_place k i) (request_tag_place k j) tag 0 (λ e. n (omega arith))
          ∙ put_other s v at fits (request_tag_place k j) (inl (omega arith))

      other : (j : ℕ) → j < 64 → (j ≡ i → ⊥) → request_in t k j ≡ request_in s k j
      other j h n =
          let to : ℕ = request_place k j in
          ne_cases j i (request_in t k j ≡ request_in s k j) n
          (λ l. request_same t s k j (other_tag j h n) (before to (to + 28) (omega arith) (omega arith)))
          (λ l. request_same t s k j (other_tag j h n) (behind to (to + 28) (omega arith)))

      own_room : part t at 28 ≡ v
      own_room =
          let e : Same at (at + 28) t (put_at s at v) = set_behind (put_at s at v) (request_tag_place k i) tag at (at + 28) (omega arith) in
          part_same at (at + 28) t (put_at s at v) e at 28 (omega arith) (omega arith) ∙ part_put s v at 28 (omega arith) full

      own_tag : octet t (request_tag_place k i) ≡ tag
      own_tag =
          let n : length (put_at s at v) ≡ length s = put_length s at v fits in
          get_or-set_same (put_at s at v) (request_tag_place k i) tag 0 (omega arith)

      pub listed_room : Listed k (field2 s (list_place k)) (set (rooms_in s k) i (request_of tag v)) s t
      unfolding rooms_in
      listed_room = record {
        used = field2_same (list_place k) (list_place k + 2) t s (front (list_place k) (list_place k + 2) (omega arith)) (list_place k) (omega arith) (omega arith);
        held =
            table_set (request_in s k) (request_in t k) requests_most i room other
            ∙ ap (set (rooms_in s k) i) (sym (request_of_lem t k i) ∙ (λ j. request_of (own_tag j) (own_room j)));
        others = list_changed s t k slot (front 0 (list_place k) (omega arith)) (behind (list_place k + list_size) memory_size (omega arith));
      }

    -- another number of them is in use
    pub listed_size : (n : ℕ) → Listed k n (rooms_in s k) s (put_at s (list_place k) (put2 n []))
    unfolding rooms_in
    listed_size n =
        let at : ℕ = list_place k in
        let v : List ℕ = put2 n [] in
        let t : List ℕ = put_at s at v in
        let fits : at + 2 ≤ length s = omega arith in
        record {
          used = size_put s at n fits;
          held =
              table_same (request_in t k) (request_in s k) requests_most
              (λ j h. request_same t s k j (put_other s v at fits (request_tag_place k j) (inr (omega arith)))
              (put_behind s v at fits (request_place k j) (request_place k j + 28) (omega arith)));
          others =
              list_changed s t k slot (put_before s v at fits 0 at (omega arith))
              (put_behind s v at fits (at + list_size) memory_size (omega arith));
        }

module _ {k n m : ℕ} {l r : List Request} {s t u : List ℕ} where
  pub listed_then : Listed k n l s t → Listed k m r t u → Listed k m r s u
  listed_then p q = record {
    used = q.used;
    held = q.held;
    others =
        q.others ∙ ap (requests_put k (requests_in u k)) p.others
        ∙ ap (λ (z : List (List Request)). record { rows = (memory_of s).rows; requests = z; kept = (memory_of s).kept })
        (set-set (memory_of s).requests k (requests_in t k) (requests_in u k));
  }

module _ {k n : ℕ} {l : List Request} {s t : List ℕ} where
  pub listed_requests : Listed k n l s t → requests_in t k ≡ take n l
  listed_requests p = requests_in_lem t k ∙ (λ i. take (p.used i) (p.held i))

  pub listed_memory : Listed k n l s t → memory_of t ≡ requests_put k (take n l) (memory_of s)
  listed_memory p = p.others ∙ ap (λ (z : List Request). requests_put k z (memory_of s)) (listed_requests p)

-- ---- the name in a room
pub room_name_length : (s : List ℕ) (at : ℕ) → at + request_size ≤ length s → length (room_name s at) ≡ min (octet s at) 16 + 4
room_name_length s at h = part_length s (at + 8) (min (octet s at) 16 + 4) (omega arith)

module _ (s : List ℕ) (k i : ℕ) where
  pub asked_originator_long : request_place k i + request_size ≤ length s → length (request_in s k i).entry.originator ≡ 4
  unfolding request_in
  asked_originator_long h =
      let name : List ℕ = room_name s (request_place k i) in
      let n : length name ≡ min (octet s (request_place k i)) 16 + 4 = room_name_length s (request_place k i) h in
      ap length (tagged_originator name (octet s (request_tag_place k i))) ∙ length-drop (length name - 4) name ∙ omega arith
