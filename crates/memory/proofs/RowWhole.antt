-- A row put whole by its octets, and read back; a row freed.
-- Assumes nothing.
use Rattle.std.proofs.Common.{◌≡◌, ℕ, ◌+◌, ◌-◌, ◌*◌, ◌/◌, ◌%◌, ◌<◌, ◌≤◌, min, List, ◌++◌, length, take, set, sym, ap, ◌∙◌, arith, length-append, length-set, take_all, get_or-set_other, get_or-set_same, w32, SFits, eq-eqb, ne_eqb}
use lib.Seq.{take-append_seam, drop-append_seam}
use Rattle.laws.specs.Choice.{pick}
use Rattle.laws.specs.Lists.{part}
use Rattle.laws.specs.Puts.{put_at}
use Rattle.laws.proofs.Puts.{put_put}
use Rattle.protocol.specs.declared.CsaNumber.{CsaNumber}
use Rattle.protocol.specs.Sizes.{id_length, key_most, payload_most}
use Rattle.protocol.specs.Fields.{octet, field2}
use Rattle.protocol.specs.Numbers.{bits_of}
use Rattle.rules.specs.Server.{rows_most, free, used}
use Rattle.rules.specs.Updates.{value}
use Rattle.memory.specs.Layout.{name_place, row_size, memory_size, row_place, length_place, mark_place, top_place, tag_place}
use Rattle.memory.specs.Memory.{entry_named, tag_of, without_key, is_marked, key_room, row_name, bits_at, payload_length, payload_place, row_in, memory_of}
use Rattle.memory.specs.Search.{row_head, head_put, sections_put, row_put, with_row}
use Rattle.memory.proofs.Frame.{put_before, put_behind, OnlyRow, only_trans, only_length, only_tag, only_body, only_row}
use Rattle.memory.proofs.RowPlaces.{octet_free}
use Rattle.memory.proofs.RowPuts.{short_min, part_inside, number_back, hops_back, row_of, head_size, head_only, head_octet, head_top, head_marks}

-- ---- a row put whole
module _ (s : List ℕ) (i bits remaining marks tag : ℕ) (name payload : List ℕ) (size : length s ≡ memory_size) (h : i < rows_most)
    (some : 4 < length name) (fits : length name ≤ 20) (short : length payload ≤ payload_most) where
  abbrev key : ℕ
  key = length name - id_length

  abbrev top_put : List ℕ
  top_put = head_put i (length payload) bits remaining marks s

  abbrev long_put : List ℕ
  long_put = set top_put (length_place i) key

  abbrev tag_put : List ℕ
  tag_put = sections_put i key tag top_put

  abbrev at : ℕ
  at = row_place i + name_place

  abbrev whole : List ℕ
  whole = put_at tag_put at (name ++ payload)

  both : length (name ++ payload) ≡ length name + length payload
  both = length-append name payload

  top_size : length top_put ≡ memory_size
  top_size = head_size s i (length payload) bits remaining marks size h

  pub tag_size : length tag_put ≡ memory_size
  tag_size = length-set long_put (tag_place i) tag ∙ length-set top_put (length_place i) key ∙ top_size

  whole_room : at + length (name ++ payload) ≤ length tag_put
  whole_room = let z = tag_size in let b = both in omega arith

  whole_only : OnlyRow i s whole
  whole_only =
      let b = both in
      only_trans (head_only s i (length payload) bits remaining marks size h)
      (only_trans (only_length i top_put key)
      (only_trans (only_tag i long_put tag)
      (only_body i tag_put (name ++ payload) at whole_room (omega arith) (omega arith))))

  sections : (p : ℕ) → row_place i + row_size ≤ p → octet whole p ≡ octet tag_put p
  sections p a = let b = both in (put_behind tag_put (name ++ payload) at whole_room p (p + 1) (omega arith)).octets p (omega arith) (omega arith)

  heads : (k : ℕ) → k < 8 → octet whole (row_place i + k) ≡ octet (row_head (length payload) bits remaining) k
  heads k g =
      (put_before tag_put (name ++ payload) at whole_room 0 at (omega arith)).octets (row_place i + k) (omega arith) (omega arith)
      ∙ get_or-set_other long_put (tag_place i) (row_place i + k) tag 0 (λ q. omega arith)
      ∙ get_or-set_other top_put (length_place i) (row_place i + k) key 0 (λ q. omega arith)
      ∙ head_octet s i (length payload) bits remaining marks size h k g

  payload_first : octet whole (row_place i) ≡ length payload
  payload_first = let z : row_place i ≡ row_place i + 0 = omega arith in ap (octet whole) z ∙ heads 0 (omega arith)

  length_new : octet whole (length_place i) ≡ key
  length_new =
      let z = top_size in
      sections (length_place i) (omega arith) ∙ get_or-set_other long_put (tag_place i) (length_place i) tag 0 (λ q. omega arith)
      ∙ get_or-set_same top_put (length_place i) key 0 (omega arith)

  tag_new : octet whole (tag_place i) ≡ tag
  tag_new =
      let z : length long_put ≡ memory_size = length-set top_put (length_place i) key ∙ top_size in
      sections (tag_place i) (omega arith) ∙ get_or-set_same long_put (tag_place i) tag 0 (omega arith)

  other_new : (p : ℕ) → row_place i + row_size ≤ p → (p ≡ tag_place i → ⊥) → (p ≡ length_place i → ⊥) → octet whole p ≡ octet top_put p
  other_new p a b c = sections p a ∙ get_or-set_other long_put (tag_place i) p tag 0 b ∙ get_or-set_other top_put (length_place i) p key 0 c

  room_new : key_room whole i ≡ key
  room_new = ap (λ n. min n key_most) length_new ∙ short_min key key_most (omega arith)

  name_new : row_name whole i ≡ name
  name_new =
      let e : key + id_length ≡ length name = omega arith in
      let b = both in
      let z : at + 0 ≡ at = omega arith in
      ap (λ n. part whole at (n + id_length)) room_new ∙ ap (part whole at) e
      ∙ ap (λ a. part whole a (length name)) (sym z) ∙ part_inside tag_put (name ++ payload) at whole_room 0 (length name) (omega arith)
      ∙ take-append_seam name payload

  payload_new : part whole (payload_place whole i) (payload_length whole i) ≡ payload
  payload_new =
      let l : payload_length whole i ≡ length payload = ap (λ n. min n payload_most) payload_first ∙ short_min (length payload) payload_most short in
      let q : payload_place whole i ≡ at + length name = ap (λ n. at + n + id_length) room_new ∙ omega arith in
      let b = both in
      (λ z. part whole (q z) (l z)) ∙ part_inside tag_put (name ++ payload) at whole_room (length name) (length payload) (omega arith)
      ∙ ap (take (length payload)) (drop-append_seam name payload) ∙ take_all (length payload) payload (omega arith)

  bits_new : bits_at whole i ≡ ((bits / 16777216 * 256 + bits / 65536 % 256) * 256 + bits / 256 % 256) * 256 + bits % 256
  bits_new =
      let t : octet whole (top_place i) ≡ bits / 16777216 =
      other_new (top_place i) (omega arith) (λ q. omega arith) (λ q. omega arith) ∙ head_top s i (length payload) bits remaining marks size h in
      λ z. ((t z * 256 + heads 5 (omega arith) z) * 256 + heads 6 (omega arith) z) * 256 + heads 7 (omega arith) z

  hops_new : field2 whole (row_place i + 2) ≡ remaining / 256 * 256 + remaining % 256
  hops_new =
      let z : row_place i + 2 + 1 ≡ row_place i + 3 = omega arith in
      λ j. heads 2 (omega arith) j * 256 + (ap (octet whole) z ∙ heads 3 (omega arith)) j

  marks_new : octet whole (mark_place i) ≡ marks
  marks_new = other_new (mark_place i) (omega arith) (λ q. omega arith) (λ q. omega arith) ∙ head_marks s i (length payload) bits remaining marks size h

  new_row : (number : CsaNumber) → bits ≡ bits_of number → SFits w32 number.0 → tag ≡ tag_of name
      → row_in whole i ≡ used (entry_named name) (value number payload remaining) (is_marked marks)
  new_row number e f g =
      row_of whole i key tag marks 0 _ 0 _ name payload length_new tag_new marks_new name_new bits_new payload_new hops_new
      ∙ (λ z. pick (ne_eqb key 0 (λ q. omega arith) z) free
      (used (pick (eq-eqb tag (tag_of name) g z) (entry_named name) (without_key (entry_named name)))
      (record { number = number_back number bits e f z; payload = payload; remaining = hops_back remaining z }) (is_marked marks)))

  pub row_put_lem : (number : CsaNumber) (t u v w : List ℕ) → bits ≡ bits_of number → SFits w32 number.0 → tag ≡ tag_of name → t ≡ top_put → u
      ≡ sections_put i key tag t
      → v ≡ put_at u at name → w ≡ put_at v (at + length name) payload
      → (memory_of w ≡ with_row s i (used (entry_named name) (value number payload remaining) (is_marked marks))) ×
      (w ≡ row_put i name number payload remaining marks s)
  row_put_lem number t u v w e f g p q r x =
      let z = tag_size in
      let octets : w ≡ put_at (put_at tag_put at name) (at + length name) payload =
      x ∙ ap (λ l. put_at l (at + length name) payload) (r ∙ ap (λ l. put_at l at name) (q ∙ ap (sections_put i key tag) p)) in (
        ap memory_of (octets ∙ put_put tag_put at name payload (omega arith)) ∙ only_row i s whole h whole_only ∙ ap (with_row s i) (new_row number e f g),
        octets ∙ (λ z. put_at (put_at (sections_put i key (g z) (head_put i (length payload) (e z) remaining marks s)) at name) (at + length name) payload),
      )

-- ---- a row freed
pub row_freed : (s : List ℕ) (i tag : ℕ) → i < rows_most → length s ≡ memory_size → memory_of (sections_put i 0 tag s) ≡ with_row s i free
row_freed s i tag h size =
    let z : length (set s (length_place i) 0) ≡ memory_size = length-set s (length_place i) 0 ∙ size in
    only_row i s (sections_put i 0 tag s) h (only_trans (only_length i s 0) (only_tag i (set s (length_place i) 0) tag))
    ∙ ap (with_row s i) (octet_free (sections_put i 0 tag s) i
    (get_or-set_other (set s (length_place i) 0) (tag_place i) (length_place i) tag 0 (λ q. omega arith) ∙ get_or-set_same s (length_place i) 0 0 (omega arith)))
