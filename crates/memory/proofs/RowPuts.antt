-- A value put in a row by its octets, and read back.
-- Assumes nothing.
use Rattle.std.proofs.Common.{◌≡◌, ℕ, ◌+◌, ◌*◌, ◌/◌, ◌%◌, ◌<◌, ◌≤◌, min, Bool, true, false, eqb, List, ◌++◌, length, take, drop, set, sym, refl, ap, ◌∙◌, arith, length-drop, length-set, length-take-le, get_or-set_other, get_or-set_same, drop_at, w32, SFits}
use lib.Seq.{take-append_seam, take-append-le, drop-append-le, drop-append-add}
use mir.ValLaws.{to_z-of_z}
use Rattle.laws.specs.Choice.{pick}
use Rattle.laws.specs.Lists.{part}
use Rattle.laws.specs.Puts.{put_at}
use Rattle.laws.proofs.Puts.{put_length}
use Rattle.protocol.specs.declared.CsaNumber.{CsaNumber}
use Rattle.protocol.specs.Sizes.{id_length, key_most, payload_most}
use Rattle.protocol.specs.Fields.{octet, field2}
use Rattle.protocol.specs.Numbers.{csa_of, bits_of}
use Rattle.rules.specs.Server.{rows_most, free, used}
use Rattle.rules.specs.Updates.{value}
use Rattle.memory.specs.Layout.{name_place, row_size, memory_size, row_place, length_place, mark_place, top_place, tag_place}
use Rattle.memory.specs.Memory.{tagged_entry, is_marked, key_room, row_name, row_entry, bits_at, payload_length, payload_place, value_at, row_in, memory_of}
use Rattle.memory.specs.Search.{row_head, head_put, value_put, with_row, revalued}
use Rattle.memory.proofs.Frame.{Same, put_inside, put_before, put_behind, set_before, same_trans, same_within, part_same, OnlyRow, only_trans}
use Rattle.memory.proofs.Frame.{only_marks, only_top, only_body, only_row}

pub short_min : (a b : ℕ) → a ≤ b → min a b ≡ a
short_min a b h = omega arith

-- ---- read inside a put
module _ (s v : List ℕ) (at : ℕ) (room : at + length v ≤ length s) where
  pub octet_inside : (i j : ℕ) → j ≡ at + i → i < length v → octet (put_at s at v) j ≡ octet v i
  octet_inside i j e h = ap (octet (put_at s at v)) e ∙ put_inside s v at room i h

  pub part_inside : (j n : ℕ) → j + n ≤ length v → part (put_at s at v) (at + j) n ≡ part v j n
  unfolding put_at
  part_inside j n h =
      let a : length (take at s) ≡ at = length-take-le at s (omega arith) in
      let rest : List ℕ = drop (at + length v) s in
      let d : drop (at + j) (take at s ++ (v ++ rest)) ≡ drop j v ++ rest =
      ap (λ (k : ℕ). drop (k + j) (take at s ++ (v ++ rest))) (sym a) ∙ drop-append-add (take at s) (v ++ rest) j ∙ drop-append-le j v rest (omega arith) in
      ap (take n) d ∙ take-append-le n (drop j v) rest (simp length-drop (omega arith))

  pub part_whole : part (put_at s at v) at (length v) ≡ v
  unfolding put_at
  part_whole =
      let a : length (take at s) ≡ at = length-take-le at s (omega arith) in
      ap (take (length v)) (drop_at (take at s) (v ++ drop (at + length v) s) at a) ∙ take-append_seam v (drop (at + length v) s)

-- ---- numbers and payloads back
pub number_back : (n : CsaNumber) (b : ℕ) → b ≡ bits_of n → SFits w32 n.0
    → csa_of (((b / 16777216 * 256 + b / 65536 % 256) * 256 + b / 256 % 256) * 256 + b % 256) ≡ n
number_back n b e f =
    let g : ((b / 16777216 * 256 + b / 65536 % 256) * 256 + b / 256 % 256) * 256 + b % 256 ≡ b = omega arith in
    ap csa_of (g ∙ e) ∙ (λ k. record { 0 = to_z-of_z w32 n.0 f k })

pub hops_back : (r : ℕ) → r / 256 * 256 + r % 256 ≡ r
hops_back r = omega arith

-- ---- a row by its octets
pub row_of : (t : List ℕ) (i l g m n b p r : ℕ) (name payload : List ℕ) → octet t (length_place i) ≡ l → octet t (tag_place i) ≡ g → octet t (mark_place i) ≡ m
    → row_name t i ≡ name → bits_at t i ≡ b → part t (payload_place t i) (payload_length t i) ≡ payload → field2 t (row_place i + 2) ≡ r
    → row_in t i ≡ pick (eqb l 0) free (used (tagged_entry g name) (record { number = csa_of b; payload = payload; remaining = r }) (is_marked m))
unfolding row_in
row_of t i l g m n b p r name payload el eg em en eb ep er =
    λ z. pick (eqb (el z) 0) free (used (tagged_entry (eg z) (en z)) (record { number = csa_of (eb z); payload = ep z; remaining = er z }) (is_marked (em z)))

-- ---- the head put: what it leaves of row i, and of no other
module _ (s : List ℕ) (i payload bits remaining marks : ℕ) (size : length s ≡ memory_size) (h : i < rows_most) where
  abbrev head : List ℕ
  head = row_head payload bits remaining

  abbrev body : List ℕ
  body = put_at s (row_place i) head

  abbrev topped : List ℕ
  topped = set body (top_place i) (bits / 16777216)

  abbrev after : List ℕ
  after = head_put i payload bits remaining marks s

  body_size : length body ≡ memory_size
  body_size = put_length s (row_place i) head (omega arith) ∙ size

  pub head_size : length after ≡ memory_size
  head_size = length-set topped (mark_place i) marks ∙ length-set body (top_place i) (bits / 16777216) ∙ body_size

  pub head_only : OnlyRow i s after
  head_only =
      only_trans (only_body i s head (row_place i) (omega arith) (omega arith) (omega arith))
      (only_trans (only_top i body (bits / 16777216)) (only_marks i topped marks))

  -- the body as the put left it
  bodies : Same (row_place i) (row_place i + row_size) after body
  bodies =
      same_trans (set_before topped (mark_place i) marks (row_place i) (row_place i + row_size) (omega arith))
      (set_before body (top_place i) (bits / 16777216) (row_place i) (row_place i + row_size) (omega arith))

  pub head_octet : (k : ℕ) → k < 8 → octet after (row_place i + k) ≡ octet head k
  head_octet k g = bodies.octets (row_place i + k) (omega arith) (omega arith) ∙ octet_inside s head (row_place i) (omega arith) k (row_place i + k) refl g

  pub head_behind : Same (row_place i + 8) (row_place i + row_size) after s
  head_behind =
      same_trans (same_within (row_place i + 8) (row_place i + row_size) (omega arith) (omega arith) bodies)
      (put_behind s head (row_place i) (omega arith) (row_place i + 8) (row_place i + row_size) (omega arith))

  pub head_top : octet after (top_place i) ≡ bits / 16777216
  head_top =
      let z = body_size in
      get_or-set_other topped (mark_place i) (top_place i) marks 0 (λ q. omega arith) ∙ get_or-set_same body (top_place i) (bits / 16777216) 0 (omega arith)

  pub head_marks : octet after (mark_place i) ≡ marks
  head_marks =
      let z : length topped ≡ memory_size = length-set body (top_place i) (bits / 16777216) ∙ body_size in
      get_or-set_same topped (mark_place i) marks 0 (omega arith)

  -- what stands behind the rows' bodies, but for these two
  pub head_other : (p : ℕ) → row_place i + row_size ≤ p → (p ≡ top_place i → ⊥) → (p ≡ mark_place i → ⊥) → octet after p ≡ octet s p
  head_other p a b c =
      get_or-set_other topped (mark_place i) p marks 0 c ∙ get_or-set_other body (top_place i) p (bits / 16777216) 0 b
      ∙ (put_behind s head (row_place i) (omega arith) p (p + 1) (omega arith)).octets p (omega arith) (omega arith)

-- ---- a value put into row i
module _ (s : List ℕ) (i bits remaining marks : ℕ) (payload : List ℕ) (size : length s ≡ memory_size) (h : i < rows_most)
    (short : length payload ≤ payload_most) where
  abbrev headed : List ℕ
  headed = head_put i (length payload) bits remaining marks s

  abbrev place : ℕ
  place = payload_place s i

  abbrev valued : List ℕ
  valued = put_at headed place payload

  headed_size : length headed ≡ memory_size
  headed_size = head_size s i (length payload) bits remaining marks size h

  room : place + length payload ≤ length headed
  room = let z = headed_size in omega arith

  value_only : OnlyRow i s valued
  value_only =
      only_trans (head_only s i (length payload) bits remaining marks size h) (only_body i headed payload place room (omega arith) (omega arith))

  -- octets before the payload, and behind the bodies
  before : Same 0 place valued headed
  before = put_before headed payload place room 0 place (omega arith)

  section : (p : ℕ) → row_place i + row_size ≤ p → octet valued p ≡ octet headed p
  section p a = (put_behind headed payload place room p (p + 1) (omega arith)).octets p (omega arith) (omega arith)

  first : (k : ℕ) → k < 8 → octet valued (row_place i + k) ≡ octet (row_head (length payload) bits remaining) k
  first k g = before.octets (row_place i + k) (omega arith) (omega arith) ∙ head_octet s i (length payload) bits remaining marks size h k g

  payload_octet : octet valued (row_place i) ≡ length payload
  payload_octet = let z : row_place i ≡ row_place i + 0 = omega arith in ap (octet valued) z ∙ first 0 (omega arith)

  length_kept : octet valued (length_place i) ≡ octet s (length_place i)
  length_kept = section (length_place i) (omega arith)
      ∙ head_other s i (length payload) bits remaining marks size h (length_place i) (omega arith) (λ q. omega arith) (λ q. omega arith)

  tag_kept : octet valued (tag_place i) ≡ octet s (tag_place i)
  tag_kept = section (tag_place i) (omega arith) ∙ head_other s i (length payload) bits remaining marks size h (tag_place i) (omega arith) (λ q. omega arith)
      (λ q. omega arith)

  place_kept : payload_place valued i ≡ place
  place_kept = ap (λ n. row_place i + name_place + min n key_most + id_length) length_kept

  name_kept : row_name valued i ≡ row_name s i
  name_kept =
      ap (λ n. part valued (row_place i + name_place) (min n key_most + id_length)) length_kept
      ∙ part_same (row_place i + name_place) place valued s
      (same_trans (same_within (row_place i + name_place) place (omega arith) (omega arith) before)
      (same_within (row_place i + name_place) place (omega arith) (omega arith) (head_behind s i (length payload) bits remaining marks size h)))
      (row_place i + name_place) (key_room s i + id_length) (omega arith) (omega arith)

  payload_put : part valued (payload_place valued i) (payload_length valued i) ≡ payload
  payload_put =
      let l : payload_length valued i ≡ length payload = ap (λ n. min n payload_most) payload_octet ∙ short_min (length payload) payload_most short in
      (λ z. part valued (place_kept z) (l z)) ∙ part_whole headed payload place room

  bits_put : bits_at valued i ≡ ((bits / 16777216 * 256 + bits / 65536 % 256) * 256 + bits / 256 % 256) * 256 + bits % 256
  bits_put =
      let t : octet valued (top_place i) ≡ bits / 16777216 = section (top_place i) (omega arith) ∙ head_top s i (length payload) bits remaining marks size h in
      λ z. ((t z * 256 + first 5 (omega arith) z) * 256 + first 6 (omega arith) z) * 256 + first 7 (omega arith) z

  hops_put : field2 valued (row_place i + 2) ≡ remaining / 256 * 256 + remaining % 256
  hops_put =
      let z : row_place i + 2 + 1 ≡ row_place i + 3 = omega arith in
      λ j. first 2 (omega arith) j * 256 + (ap (octet valued) z ∙ first 3 (omega arith)) j

  marks_put : octet valued (mark_place i) ≡ marks
  marks_put = section (mark_place i) (omega arith) ∙ head_marks s i (length payload) bits remaining marks size h

  revalue_by : (number : CsaNumber) (b : Bool) → pick b free (used (row_entry s i) (value number payload remaining) (is_marked marks))
      ≡ revalued (value number payload remaining) (is_marked marks) (pick b free (used (row_entry s i) (value_at s i) (is_marked (octet s (mark_place i)))))
  revalue_by number true = refl
  revalue_by number false = refl

  valued_row : (number : CsaNumber) → bits ≡ bits_of number → SFits w32 number.0
      → row_in valued i ≡ revalued (value number payload remaining) (is_marked marks) (row_in s i)
  unfolding row_in
  valued_row number e f =
      row_of valued i (octet s (length_place i)) (octet s (tag_place i)) marks 0 _ 0 _ (row_name s i) payload length_kept tag_kept marks_put name_kept bits_put
      payload_put hops_put
      ∙ (λ z. pick (eqb (octet s (length_place i)) 0) free (used (row_entry s i)
      (record { number = number_back number bits e f z; payload = payload; remaining = hops_back remaining z }) (is_marked marks)))
      ∙ revalue_by number (eqb (octet s (length_place i)) 0)

  pub value_put_lem : (number : CsaNumber) (t u : List ℕ) → bits ≡ bits_of number → SFits w32 number.0 → t ≡ headed → u ≡ put_at t place payload
      → (memory_of u ≡ with_row s i (revalued (value number payload remaining) (is_marked marks) (row_in s i))) × (u ≡ value_put i number payload remaining marks s)
  value_put_lem number t u e f p q =
      let octets : u ≡ valued = q ∙ ap (λ l. put_at l place payload) p in (
        ap memory_of octets ∙ only_row i s valued h value_only ∙ ap (with_row s i) (valued_row number e f),
        octets ∙ ap (λ (b : ℕ). put_at (head_put i (length payload) b remaining marks s) place payload) e,
      )
