-- What a change of some octets does to what the memory means: nothing outside the row, list or kept CA that they are in.
-- Assumes nothing.
use Rattle.std.proofs.Common.{◌≡◌, ℕ, ◌+◌, ◌*◌, ◌<◌, ◌≤◌, min, Bool, true, false, eqb, ◌⊎◌, List, length, take, set, refl, ap, ◌∙◌, inl, inr, ⊎_elim, arith, length-set, get_or-set_other}
use native.Mathlib.Decide.{dec_le}
use Rattle.laws.specs.Choice.{pick}
use Rattle.laws.specs.Lists.{part}
use Rattle.laws.specs.Puts.{put_at}
use Rattle.laws.proofs.Puts.{put_length}
use Rattle.laws.proofs.Frames.{part_octets}
use Rattle.protocol.specs.Fields.{octet, field2, field4}
use Rattle.protocol.specs.Numbers.{csa_of}
use Rattle.protocol.specs.Sizes.{id_length, key_most, packet_most}
use Rattle.rules.specs.Server.{slots_most, rows_most, requests_most, free, used}
use Rattle.memory.specs.Layout.{number_place, name_place, row_size, requests_at, request_size, list_size, kept_size, memory_size, row_place, length_place}
use Rattle.memory.specs.Layout.{mark_place, top_place, tag_place, list_place, request_tag_place, request_place, kept_place}
use Rattle.memory.specs.Marks.{with_marks}
use Rattle.memory.specs.Memory.{tagged_entry, is_marked, key_room, row_name, row_entry, payload_length, payload_place, value_at, row_in, rows_in, room_name}
use Rattle.memory.specs.Memory.{request_in, requests_in, kept_in, memory_of, with_rows, requests_put, kept_put}
-- what holds of any list
pub use Rattle.laws.proofs.Frames.{put_other, put_inside}
pub use Rattle.laws.proofs.TableLaws.{table_same, table_set, table_get, table_length}

-- the two memories have the same octets from a up to b
pub record Same (a b : ℕ) (s t : List ℕ) : Type 0 where
  pub size : length s ≡ length t
  pub octets : (j : ℕ) → a ≤ j → j < b → octet s j ≡ octet t j

-- ---- puts
module _ (s v : List ℕ) (at : ℕ) (room : at + length v ≤ length s) where
  pub put_before : (a b : ℕ) → b ≤ at → Same a b (put_at s at v) s
  put_before a b h = record { size = put_length s at v room; octets = λ j f g. put_other s v at room j (inl (omega arith)) }

  pub put_behind : (a b : ℕ) → at + length v ≤ a → Same a b (put_at s at v) s
  put_behind a b h = record { size = put_length s at v room; octets = λ j f g. put_other s v at room j (inr (omega arith)) }

-- a store of one octet
pub set_before : (s : List ℕ) (at x : ℕ) (a b : ℕ) → b ≤ at → Same a b (set s at x) s
set_before s at x a b h = record { size = length-set s at x; octets = λ j f g. get_or-set_other s at j x 0 (λ q. omega arith) }

pub set_behind : (s : List ℕ) (at x : ℕ) (a b : ℕ) → at < a → Same a b (set s at x) s
set_behind s at x a b h = record { size = length-set s at x; octets = λ j f g. get_or-set_other s at j x 0 (λ q. omega arith) }

pub same_refl : (a b : ℕ) (s : List ℕ) → Same a b s s
same_refl a b s = record { size = refl; octets = λ j f g. refl }

pub same_trans : {a b : ℕ} {s t u : List ℕ} → Same a b s t → Same a b t u → Same a b s u
same_trans p q = record { size = p.size ∙ q.size; octets = λ j f g. p.octets j f g ∙ q.octets j f g }

pub same_within : {a b : ℕ} {s t : List ℕ} (c d : ℕ) → a ≤ c → d ≤ b → Same a b s t → Same c d s t
same_within c d h g p = record { size = p.size; octets = λ j e f. p.octets j (omega arith) (omega arith) }

-- ---- what is read there
module _ (a b : ℕ) (s t : List ℕ) (same : Same a b s t) where
  one : (j : ℕ) → a ≤ j → j < b → octet s j ≡ octet t j
  one = same.octets

  pub field2_same : (at : ℕ) → a ≤ at → at + 2 ≤ b → field2 s at ≡ field2 t at
  field2_same at h g = rw (one at (omega arith) (omega arith), one (at + 1) (omega arith) (omega arith))

  pub field4_same : (at : ℕ) → a ≤ at → at + 4 ≤ b → field4 s at ≡ field4 t at
  field4_same at h g =
      rw (
        one at (omega arith) (omega arith),
        one (at + 1) (omega arith) (omega arith),
        one (at + 2) (omega arith) (omega arith),
        one (at + 3) (omega arith)
            (omega arith),
      )

  pub part_same : (at n : ℕ) → a ≤ at → at + n ≤ b → part s at n ≡ part t at n
  part_same at n h g = part_octets s t at n same.size (λ j e f. one j (omega arith) (omega arith))

-- ---- a row
-- a body of 64 octets, and an octet in each section
pub record SameRow (i : ℕ) (s t : List ℕ) : Type 0 where
  pub body : Same (row_place i) (row_place i + row_size) s t
  pub length : octet s (length_place i) ≡ octet t (length_place i)
  pub marks : octet s (mark_place i) ≡ octet t (mark_place i)
  pub top : octet s (top_place i) ≡ octet t (top_place i)
  pub tag : octet s (tag_place i) ≡ octet t (tag_place i)

-- its parts, by the octets that they are made of
pub entry_same : (i : ℕ) (s t : List ℕ) → octet s (length_place i) ≡ octet t (length_place i) → octet s (tag_place i) ≡ octet t (tag_place i)
    → row_name s i ≡ row_name t i → row_entry s i ≡ row_entry t i
entry_same i s t l g n = λ z. tagged_entry (g z) (n z)

name_same : (i : ℕ) (s t : List ℕ) → Same (row_place i) (row_place i + row_size) s t → octet s (length_place i) ≡ octet t (length_place i) → row_name s i
    ≡ row_name t i
name_same i s t h l =
    part_same (row_place i) (row_place i + row_size) s t h (row_place i + name_place) (key_room s i + id_length) (omega arith) (omega arith)
    ∙ ap (λ n. part t (row_place i + name_place) (min n key_most + id_length)) l

value_same : (i : ℕ) (s t : List ℕ) → Same (row_place i) (row_place i + row_size) s t → octet s (length_place i) ≡ octet t (length_place i)
    → octet s (top_place i) ≡ octet t (top_place i)
    → value_at s i ≡ value_at t i
value_same i s t h l p =
    let at : ℕ = row_place i in
    let n = h.octets at (omega arith) (omega arith) in
    let a = h.octets (at + 5) (omega arith) (omega arith) in
    let b = h.octets (at + 6) (omega arith) (omega arith) in
    let c = h.octets (at + 7) (omega arith) (omega arith) in
    let m : payload_length s i ≡ payload_length t i = ap (λ x. min x 32) n in
    let q : payload_place s i ≡ payload_place t i = ap (λ x. row_place i + name_place + min x key_most + id_length) l in
    let payload = part_same at (at + row_size) s t h (payload_place s i) (payload_length s i) (omega arith) (omega arith) ∙ (λ z. part t (q z) (m z)) in
    let remaining = field2_same at (at + row_size) s t h (at + 2) (omega arith) (omega arith) in
    λ z. record { number = csa_of (((p z * 256 + a z) * 256 + b z) * 256 + c z); payload = payload z; remaining = remaining z }

pub row_same : (i : ℕ) (s t : List ℕ) → SameRow i s t → row_in s i ≡ row_in t i
unfolding row_in
row_same i s t h =
    let entry = entry_same i s t h.length h.tag (name_same i s t h.body h.length) in
    let value = value_same i s t h.body h.length h.top in
    λ z. pick (eqb (h.length z) 0) free (used (entry z) (value z) (is_marked (h.marks z)))

-- all but its marks
pub row_but_marks : (i : ℕ) (s t : List ℕ) (b : ℕ) → Same (row_place i) (row_place i + row_size) t s → octet t (length_place i) ≡ octet s (length_place i)
    → octet t (mark_place i) ≡ b → octet t (top_place i) ≡ octet s (top_place i) → octet t (tag_place i) ≡ octet s (tag_place i)
    → row_in t i ≡ with_marks (is_marked b) (row_in s i)
unfolding row_in
row_but_marks i s t b h l m p g =
    let entry = entry_same i t s l g (name_same i t s h l) in
    let value = value_same i t s h l p in
    (λ z. pick (eqb (l z) 0) free (used (entry z) (value z) (is_marked (m z)))) ∙ by (eqb (octet s (length_place i)) 0)
  where
    by : (x : Bool) → pick x free (used (row_entry s i) (value_at s i) (is_marked b))
        ≡ with_marks (is_marked b) (pick x free (used (row_entry s i) (value_at s i) (is_marked (octet s (mark_place i)))))
    by true = refl
    by false = refl

-- ---- a change in one row
-- the place is none of row i's
abbrev pub Outside : ℕ → ℕ → Type 0
Outside i p =
    (((p < row_place i) ⊎ (row_place i + row_size ≤ p)) × (p ≡ length_place i → ⊥)) × (((p ≡ mark_place i → ⊥) × (p ≡ top_place i → ⊥)) × (p ≡ tag_place i → ⊥))

pub record OnlyRow (i : ℕ) (s t : List ℕ) : Type 0 where
  pub size : length t ≡ length s
  pub octets : (p : ℕ) → Outside i p → octet t p ≡ octet s p

pub only_trans : {i : ℕ} {s t u : List ℕ} → OnlyRow i s t → OnlyRow i t u → OnlyRow i s u
only_trans p q = record { size = q.size ∙ p.size; octets = λ j o. q.octets j o ∙ p.octets j o }

module _ (i : ℕ) (s : List ℕ) (x : ℕ) where
  only_set : (at : ℕ) → ((p : ℕ) → Outside i p → p ≡ at → ⊥) → OnlyRow i s (set s at x)
  only_set at h = record { size = length-set s at x; octets = λ p o. get_or-set_other s at p x 0 (h p o) }

  pub only_length : OnlyRow i s (set s (length_place i) x)
  only_length = only_set (length_place i) (λ p o. o.0.1)

  pub only_marks : OnlyRow i s (set s (mark_place i) x)
  only_marks = only_set (mark_place i) (λ p o. o.1.0.0)

  pub only_top : OnlyRow i s (set s (top_place i) x)
  only_top = only_set (top_place i) (λ p o. o.1.0.1)

  pub only_tag : OnlyRow i s (set s (tag_place i) x)
  only_tag = only_set (tag_place i) (λ p o. o.1.1)

pub only_body : (i : ℕ) (s v : List ℕ) (at : ℕ) → at + length v ≤ length s → row_place i ≤ at → at + length v ≤ row_place i + row_size → OnlyRow i s (put_at s at v)
only_body i s v at room a b =
    record {
      size = put_length s at v room;
      octets = λ p o. put_other s v at room p (⊎_elim (λ q. inl (omega arith)) (λ q. inr (omega arith)) o.0.0);
    }

-- two rows or slots that are not the same
pub apart : (j k : ℕ) → (j ≡ k → ⊥) → (j < k) ⊎ (k < j)
apart j k n = by (dec_le k j)
  where
    by : Dec (k ≤ j) → (j < k) ⊎ (k < j)
    by (yes h) = inr (omega (arith, n))
    by (no h) = inl (omega arith)

module _ (i j : ℕ) (h : i < rows_most) (g : j < rows_most) (n : j ≡ i → ⊥) where
  other_body : (p : ℕ) → row_place j ≤ p → p < row_place j + row_size → (j < i) ⊎ (i < j) → Outside i p
  other_body p a b (inl q) = ((inl (omega arith), λ z. omega arith), ((λ z. omega arith, λ z. omega arith), λ z. omega arith))
  other_body p a b (inr q) = ((inr (omega arith), λ z. omega arith), ((λ z. omega arith, λ z. omega arith), λ z. omega arith))

  other_octet : (at : ℕ) → (at ≡ 4096) ⊎ ((at ≡ 4160) ⊎ ((at ≡ 4224) ⊎ (at ≡ 4288))) → Outside i (at + j)
  other_octet at (inl z) = ((inr (omega arith), λ q. n (omega arith)), ((λ q. omega arith, λ q. omega arith), λ q. omega arith))
  other_octet at (inr (inl z)) = ((inr (omega arith), λ q. omega arith), ((λ q. n (omega arith), λ q. omega arith), λ q. omega arith))
  other_octet at (inr (inr (inl z))) = ((inr (omega arith), λ q. omega arith), ((λ q. omega arith, λ q. n (omega arith)), λ q. omega arith))
  other_octet at (inr (inr (inr z))) = ((inr (omega arith), λ q. omega arith), ((λ q. omega arith, λ q. omega arith), λ q. n (omega arith)))

  pub other_row : (s t : List ℕ) → OnlyRow i s t → row_in t j ≡ row_in s j
  other_row s t o =
      row_same j t s record {
        body = record { size = o.size; octets = λ p a b. o.octets p (other_body p a b (apart j i n)) };
        length = o.octets (length_place j) (other_octet 4096 (inl refl));
        marks = o.octets (mark_place j) (other_octet 4160 (inr (inl refl)));
        top = o.octets (top_place j) (other_octet 4224 (inr (inr (inl refl))));
        tag = o.octets (tag_place j) (other_octet 4288 (inr (inr (inr refl))));
      }

-- behind the rows
only_behind : (i : ℕ) → i < rows_most → (s t : List ℕ) → OnlyRow i s t → Same requests_at memory_size t s
only_behind i h s t o =
    record {
      size = o.size;
      octets = λ p a b. o.octets p ((inr (omega arith), λ q. omega arith), ((λ q. omega arith, λ q. omega arith), λ q. omega arith));
    }

-- ---- request lists and kept CAs
room_name_same : (s t : List ℕ) (at : ℕ) → Same at (at + request_size) s t → room_name s at ≡ room_name t at
room_name_same s t at h =
    let n : min (octet s at) key_most ≡ min (octet t at) key_most = ap (λ (x : ℕ). min x key_most) (h.octets at (omega arith) (omega arith)) in
    part_same at (at + request_size) s t h (at + name_place) (min (octet s at) key_most + id_length) (omega arith) (omega arith)
    ∙ ap (λ (x : ℕ). part t (at + name_place) (x + id_length)) n

pub request_same : (s t : List ℕ) (k i : ℕ) → octet s (request_tag_place k i) ≡ octet t (request_tag_place k i)
    → Same (request_place k i) (request_place k i + request_size) s t → request_in s k i ≡ request_in t k i
unfolding request_in
request_same s t k i g h =
    let at : ℕ = request_place k i in
    let name = room_name_same s t at h in
    let number = field4_same at (at + request_size) s t h (at + number_place) (omega arith) (omega arith) in
    λ z. record { entry = tagged_entry (g z) (name z); number = csa_of (number z) }

pub requests_same : (s t : List ℕ) (k : ℕ) → Same (list_place k) (list_place k + list_size) s t → requests_in s k ≡ requests_in t k
unfolding requests_in
requests_same s t k h =
    let n = field2_same (list_place k) (list_place k + list_size) s t h (list_place k) (omega arith) (omega arith) in
    let all = table_same (request_in s k) (request_in t k) requests_most
    (λ i g. request_same s t k i (h.octets (request_tag_place k i) (omega arith) (omega arith))
    (same_within (request_place k i) (request_place k i + request_size) (omega arith) (omega arith) h)) in
    λ z. take (n z) (all z)

pub kept_same : (s t : List ℕ) (k : ℕ) → Same (kept_place k) (kept_place k + kept_size) s t → kept_in s k ≡ kept_in t k
unfolding kept_in
kept_same s t k h =
    let n = field2_same (kept_place k) (kept_place k + kept_size) s t h (kept_place k) (omega arith) (omega arith) in
    let octets = part_same (kept_place k) (kept_place k + kept_size) s t h (kept_place k + 2) (packet_most id_length) (omega arith) (omega arith) in
    λ z. take (n z) (octets z)

-- ---- the whole memory
rows_kept : (s t : List ℕ) → Same 0 requests_at t s → rows_in t ≡ rows_in s
unfolding rows_in
rows_kept s t h = table_same (row_in t) (row_in s) rows_most (λ i g. row_same i t s record {
  body = same_within (row_place i) (row_place i + row_size) (omega arith) (omega arith) h;
  length = h.octets (length_place i) (omega arith) (omega arith);
  marks = h.octets (mark_place i) (omega arith) (omega arith);
  top = h.octets (top_place i) (omega arith) (omega arith);
  tag = h.octets (tag_place i) (omega arith) (omega arith);
})

module _ (s t : List ℕ) (a b j : ℕ) where
  list_in : Same a b t s → a ≤ list_place j → list_place j + list_size ≤ b → requests_in t j ≡ requests_in s j
  list_in same h g = requests_same t s j (same_within (list_place j) (list_place j + list_size) h g same)

  kept_in_lem : Same a b t s → a ≤ kept_place j → kept_place j + kept_size ≤ b → kept_in t j ≡ kept_in s j
  kept_in_lem same h g = kept_same t s j (same_within (kept_place j) (kept_place j + kept_size) h g same)

-- only the rows and sections change
pub rows_changed_lem : (s t : List ℕ) → Same requests_at memory_size t s → memory_of t ≡ with_rows (rows_in t) (memory_of s)
unfolding memory_of
rows_changed_lem s t h =
    let requests = table_same (requests_in t) (requests_in s) slots_most (λ j g. list_in s t requests_at memory_size j h (omega arith) (omega arith)) in
    let kept = table_same (kept_in t) (kept_in s) slots_most (λ j g. kept_in_lem s t requests_at memory_size j h (omega arith) (omega arith)) in
    λ z. record { rows = rows_in t; requests = requests z; kept = kept z }

-- one row does
row_changed : (s t : List ℕ) (i : ℕ) → i < rows_most → OnlyRow i s t → rows_in t ≡ set (rows_in s) i (row_in t i)
unfolding rows_in
row_changed s t i h o = table_set (row_in s) (row_in t) rows_most i h (λ j g n. other_row i j h g n s t o)

pub only_row : (i : ℕ) (s t : List ℕ) → i < rows_most → OnlyRow i s t → memory_of t ≡ with_rows (set (rows_in s) i (row_in t i)) (memory_of s)
only_row i s t h o = rows_changed_lem s t (only_behind i h s t o) ∙ ap (λ rows. with_rows rows (memory_of s)) (row_changed s t i h o)

-- one request list
pub list_changed : (s t : List ℕ) (k : ℕ) → k < slots_most → Same 0 (list_place k) t s → Same (list_place k + list_size) memory_size t s
    → memory_of t ≡ requests_put k (requests_in t k) (memory_of s)
unfolding memory_of
list_changed s t k h f g =
    let rows = rows_kept s t (same_within 0 requests_at (omega arith) (omega arith) f) in
    let other : (j : ℕ) → j < slots_most → (j ≡ k → ⊥) → requests_in t j ≡ requests_in s j = λ j l n. ⊎_elim
    (λ q. list_in s t 0 (list_place k) j f (omega arith) (omega arith))
    (λ q. list_in s t (list_place k + list_size) memory_size j g (omega arith) (omega arith))
    (apart j k n) in
    let requests = table_set (requests_in s) (requests_in t) slots_most k h other in
    let kept = table_same (kept_in t) (kept_in s) slots_most (λ j l. kept_in_lem s t (list_place k + list_size) memory_size j g (omega arith) (omega arith)) in
    λ z. record { rows = rows z; requests = requests z; kept = kept z }

-- one kept CA
pub kept_changed : (s t : List ℕ) (k : ℕ) → k < slots_most → Same 0 (kept_place k) t s → Same (kept_place k + kept_size) memory_size t s
    → memory_of t ≡ kept_put k (kept_in t k) (memory_of s)
unfolding memory_of
kept_changed s t k h f g =
    let rows = rows_kept s t (same_within 0 requests_at (omega arith) (omega arith) f) in
    let other : (j : ℕ) → j < slots_most → (j ≡ k → ⊥) → kept_in t j ≡ kept_in s j = λ j l n. ⊎_elim
    (λ q. kept_in_lem s t 0 (kept_place k) j f (omega arith) (omega arith))
    (λ q. kept_in_lem s t (kept_place k + kept_size) memory_size j g (omega arith) (omega arith))
    (apart j k n) in
    let requests = table_same (requests_in t) (requests_in s) slots_most (λ j l. list_in s t 0 (kept_place k) j f (omega arith) (omega arith)) in
    let kept = table_set (kept_in s) (kept_in t) slots_most k h other in
    λ z. record { rows = rows z; requests = requests z; kept = kept z }
