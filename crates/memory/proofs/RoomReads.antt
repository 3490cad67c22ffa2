-- What the functions on one room and on the list's size answer.
-- Assumes nothing.
use Rattle.std.proofs.Common.{◌≡◌, ℕ, ◌+◌, ◌-◌, ◌*◌, ◌/◌, ◌%◌, ◌<◌, ◌≤◌, min, Bool, true, false, ◌&&◌, eqb, List, [], ◌++◌, length, get_or, take, drop, set, sym, refl, ap, ◌∙◌, subst, inl, arith, length-take, w32, SFits, append_assoc, eq-eqb, ne_eqb, length-drop}
use lib.Seq.{set-get_or}
use Rattle.std.specs.List.{copy_within}
use Rattle.laws.proofs.Lists.{part_length}
use mir.ValLaws.{to_z-of_z}
use Rattle.laws.specs.Choice.{pick}
use Rattle.laws.specs.Lists.{part}
use Rattle.laws.specs.Puts.{put_at}
use Rattle.laws.specs.Tables.{same}
use Rattle.laws.proofs.Bools.{and_true}
use Rattle.laws.proofs.Tables.{same_true}
use Rattle.protocol.specs.declared.CsaNumber.{CsaNumber}
use Rattle.protocol.specs.Fields.{octet, field2, field4, put2}
use Rattle.protocol.specs.Numbers.{csa_number, csa_of, bits_of, newer}
use Rattle.rules.specs.Server.{Entry, same_entry, Request}
use Rattle.rules.specs.Requests.{asks, raised}
use Rattle.memory.specs.Layout.{request_size, memory_size, list_place, request_tag_place, request_place}
use Rattle.memory.specs.Memory.{entry_named, tag_of, without_key, tagged_entry, room_name, request_in, requests_in}
use Rattle.memory.specs.Lists.{request_of, head_of, rooms_in, no_request, Listed}
use Rattle.memory.proofs.NameLaws.{tagged_is}
use Rattle.memory.proofs.Frame.{put_other}
use Rattle.memory.proofs.Rooms.{part_put, room_name_length, request_of_lem, rooms_length, rooms_get, requests_in_lem, listed_none, listed_room, listed_size}

-- ---- the list's size
pub counted : (s : List ℕ) (k at n : ℕ) → at ≡ list_place k → n ≡ min (field2 s at) 64 → (n ≡ length (requests_in s k)) × (n ≤ 64)
counted s k at n a e =
    let f : n ≡ min (field2 s (list_place k)) 64 = e ∙ ap (λ (z : ℕ). min (field2 s z) 64) a in
    let l : length (requests_in s k) ≡ min (field2 s (list_place k)) 64 =
    ap length (requests_in_lem s k) ∙ length-take (field2 s (list_place k)) (rooms_in s k) ∙ ap (min (field2 s (list_place k))) (rooms_length s k) in
    (f ∙ sym l, omega arith)

-- ---- one room
module _ (s : List ℕ) (k i at : ℕ) (place : at ≡ request_place k i) where
  pub number_read : (bits : ℕ) (n : CsaNumber) → bits ≡ field4 s (at + 4) → n ≡ csa_of bits → n ≡ (request_in s k i).number
  unfolding request_in
  number_read bits n e f = f ∙ ap csa_of (e ∙ ap (λ (z : ℕ). field4 s (z + 4)) place)

  pub name_read : (v w : List ℕ) (tag : ℕ) → w ≡ room_name s at → tag ≡ octet s (request_tag_place k i)
      → v ≡ (tagged_entry tag w).key ++ (tagged_entry tag w).originator → v ≡ (request_in s k i).entry.key ++ (request_in s k i).entry.originator
  unfolding request_in
  name_read v w tag e f g =
      let n : w ≡ room_name s (request_place k i) = e ∙ ap (room_name s) place in
      g ∙ (λ j. (tagged_entry (f j) (n j)).key ++ (tagged_entry (f j) (n j)).originator)

  -- whether it is for an entry: the tag first
  module _ (name : List ℕ) (t : ℕ) (room : i < 64) (fits : at + request_size ≤ length s) (four : 4 < length name) (own : t ≡ tag_of name) where
    asks_is : asks (entry_named name) (get_or (rooms_in s k) i no_request) ≡ (eqb (octet s (request_tag_place k i)) (tag_of name) && same (room_name s at) name)
    unfolding request_in
    asks_is =
        let n : length (room_name s at) ≡ min (octet s at) 16 + 4 = room_name_length s at fits in
        ap (asks (entry_named name)) (rooms_get s k i room)
        ∙ ap (λ (z : ℕ). same_entry (tagged_entry (octet s (request_tag_place k i)) (room_name s z)) (entry_named name)) (sym place)
        ∙ tagged_is (octet s (request_tag_place k i)) (room_name s at) name (omega arith) four

    pub asks_other : (octet s (request_tag_place k i) ≡ t → ⊥) → asks (entry_named name) (get_or (rooms_in s k) i no_request) ≡ false
    asks_other n = asks_is ∙ ap (λ b. b && same (room_name s at) name) (ne_eqb (octet s (request_tag_place k i)) (tag_of name) (λ e. n (e ∙ sym own)))

    pub asks_name : (r : Bool) → octet s (request_tag_place k i) ≡ t → r ≡ same (room_name s at) name
        → r ≡ asks (entry_named name) (get_or (rooms_in s k) i no_request)
    asks_name r e f =
        f ∙ sym (asks_is ∙ ap (λ b. b && same (room_name s at) name) (eq-eqb (octet s (request_tag_place k i)) (tag_of name) (e ∙ own)))

  pub octets_read : (v q : List ℕ) → i < 64 → at + 28 ≤ length s → v ≡ part s at 28 → q ≡ v
      → (length q ≡ 28) × (request_of (octet s (request_tag_place k i)) q ≡ get_or (rooms_in s k) i no_request)
  octets_read v q h fits e w =
      let n : length v ≡ 28 = ap length e ∙ simp (length-take, length-drop) (omega arith) in (
        ap length w ∙ n,
        ap (request_of (octet s (request_tag_place k i))) (w ∙ e ∙ ap (λ (a : ℕ). part s a 28) place) ∙ request_of_lem s k i ∙ sym (rooms_get s k i h),
      )

  pub room_put : (t v : List ℕ) (tag to : ℕ) → k < 8 → i < 64 → length s ≡ memory_size → length v ≡ 28 → to ≡ request_tag_place k i
      → t ≡ set (put_at s at v) to tag
      → Listed k (field2 s (list_place k)) (set (rooms_in s k) i (request_of tag v)) s t
  room_put t v tag to slot room size full f e =
      subst (Listed k (field2 s (list_place k)) (set (rooms_in s k) i (request_of tag v)) s) (sym (e ∙ (λ z. set (put_at s (place z) v) (f z) tag)))
      (listed_room s k slot size tag v i room full)

-- a room copied over another
pub room_copied : (s t : List ℕ) (k i j at to : ℕ) → k < 8 → i < 64 → j < 64 → length s ≡ memory_size → at ≡ request_place k i → to ≡ request_place k j
    → t ≡ set (copy_within s at (at + 28) to) (request_tag_place k j) (octet s (request_tag_place k i))
    → Listed k (field2 s (list_place k)) (set (rooms_in s k) j (get_or (rooms_in s k) i no_request)) s t
unfolding put_at
room_copied s t k i j at to slot from room size place place' e =
    let v : List ℕ = part s at 28 in
    let n : length v ≡ 28 = part_length s at 28 (omega arith) in
    let m : at + 28 - at ≡ 28 = omega arith in
    let put : copy_within s at (at + 28) to ≡ put_at s to v =
    append_assoc (take to s) (take (at + 28 - at) (drop at s)) (drop (to + (at + 28 - at)) s)
    ∙ ap (λ (z : ℕ). take to s ++ (take z (drop at s) ++ drop (to + z) s)) m ∙ ap (λ (z : ℕ). take to s ++ (v ++ drop (to + z) s)) (sym n) in
    let held : request_of (octet s (request_tag_place k i)) v ≡ get_or (rooms_in s k) i no_request =
    ap (λ (z : ℕ). request_of (octet s (request_tag_place k i)) (part s z 28)) place ∙ request_of_lem s k i ∙ sym (rooms_get s k i from) in
    subst (λ (q : Request). Listed k (field2 s (list_place k)) (set (rooms_in s k) j q) s t) held
    (room_put s k j to place' t v (octet s (request_tag_place k i)) (request_tag_place k j) slot room size n refl
    (e ∙ ap (λ (z : List ℕ). set z (request_tag_place k j) (octet s (request_tag_place k i))) put))

pub sized : (s t : List ℕ) (k at n : ℕ) → at ≡ list_place k → k < 8 → length s ≡ memory_size → t ≡ put_at s at (put2 n []) → Listed k n (rooms_in s k) s t
sized s t k at n place slot size e = subst (Listed k n (rooms_in s k) s) (sym (e ∙ ap (λ (z : ℕ). put_at s z (put2 n [])) place)) (listed_size s k slot size n)

-- another way to say what a room holds
pub room_is : (k n i : ℕ) (l : List Request) (s t : List ℕ) (x y : Request) → x ≡ y → Listed k n (set l i x) s t → Listed k n (set l i y) s t
room_is k n i l s t x y e p = subst (λ (z : Request). Listed k n (set l i z) s t) e p

-- ---- a request packed
module _ (name : List ℕ) (number : CsaNumber) (some : 4 < length name) (short : length name ≤ 20) where
  pub packed : (bits : ℕ) (b : List ℕ) → SFits w32 number.0 → bits < 4294967296 → bits ≡ bits_of number → b ≡ put_at (head_of (length name - 4) bits) 8 name
      → request_of (tag_of name) b ≡ record { entry = entry_named name; number = number }
  unfolding request_of
  packed bits b fits small e f =
      let h : List ℕ = head_of (length name - 4) bits in
      let room : 8 + length name ≤ 28 = omega arith in
      let low : (j : ℕ) → j < 8 → octet b j ≡ octet h j = λ j l. ap (λ (z : List ℕ). octet z j) f ∙ put_other h name 8 room j (inl l) in
      let whole : ((bits / 16777216 * 256 + bits / 65536 % 256) * 256 + bits / 256 % 256) * 256 + bits % 256 ≡ bits = omega arith in
      let number_is : field4 b 4 ≡ bits =
      (λ i. ((low 4 (omega arith) i * 256 + low 5 (omega arith) i) * 256 + low 6 (omega arith) i) * 256 + low 7 (omega arith) i) ∙ whole in
      let first : octet b 0 ≡ length name - 4 = low 0 (omega arith) in
      let long : min (octet b 0) 16 + 4 ≡ length name = omega arith in
      let name_is : room_name b 0 ≡ name =
      ap (part b 8) long ∙ ap (λ (z : List ℕ). part z 8 (length name)) f ∙ part_put h name 8 (length name) (omega arith) refl in
      let n : csa_of (field4 b 4) ≡ number = ap csa_of (number_is ∙ e) ∙ ap csa_number (to_z-of_z w32 number.0 fits) in
      (λ i. record { entry = tagged_entry (tag_of name) (name_is i); number = n i })
      ∙ ap (λ (b : Bool). record { entry = pick b (entry_named name) (without_key (entry_named name)); number = number }) (eq-eqb (tag_of name) (tag_of name) refl)

-- ---- a number raised
module _ (e : Entry) (n : CsaNumber) (q : Request) where
  same_entry_lem : same_entry q.entry e ≡ true → q.entry ≡ e
  same_entry_lem h =
      let p = and_true _ _ h in
      let k : q.entry.key ≡ e.key = same_true _ _ p.0 in
      let o : q.entry.originator ≡ e.originator = same_true _ _ p.1 in
      λ j. record { key = k j; originator = o j }

  pub raised_newer : asks e q ≡ true → newer n q.number ≡ true → (record { entry = e; number = n }) ≡ raised n q
  raised_newer h g = rw g (ap (λ (f : Entry). record { entry = f; number = n }) (sym (same_entry_lem h)))

  pub raised_older : newer n q.number ≡ false → q ≡ raised n q
  raised_older g = rw g refl

pub raised_not : (s : List ℕ) (k i : ℕ) (n : CsaNumber) → k < 8 → newer n (get_or (rooms_in s k) i no_request).number ≡ false
    → Listed k (field2 s (list_place k)) (set (rooms_in s k) i (raised n (get_or (rooms_in s k) i no_request))) s s
raised_not s k i n slot h =
    subst (λ (l : List Request). Listed k (field2 s (list_place k)) l s s)
    (sym (ap (set (rooms_in s k) i) (sym (raised_older (get_or (rooms_in s k) i no_request).entry n (get_or (rooms_in s k) i no_request) h))
    ∙ set-get_or (rooms_in s k) i no_request))
    (listed_none s k slot)
