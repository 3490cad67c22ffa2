-- Names and tags: an entry is told by its name, and its name by the tag first.
-- Assumes nothing.
use Rattle.std.proofs.Common.{◌≡◌, ℕ, ◌+◌, ◌-◌, ◌<◌, ◌≤◌, Bool, true, false, ◌&&◌, eqb, List, [], ◌++◌, length, take, drop, sym, refl, ap, ◌∙◌, arith, length-append, length-drop, take-append-drop, length-take-le, eq-eqb, eqb-true}
use mathlib.Core.Bool.{false≢true}
use lib.Seq.{take-append_seam, drop-append_seam}
use Rattle.laws.specs.Choice.{pick}
use Rattle.laws.specs.Puts.{put_at}
use Rattle.laws.specs.Tables.{same}
use Rattle.laws.proofs.Puts.{put_put, put_zero, take_written}
use Rattle.laws.proofs.Tables.{same_true, same_long, same_append}
use Rattle.protocol.specs.Sizes.{id_length}
use Rattle.rules.specs.Server.{Entry, same_entry}
use Rattle.memory.specs.Memory.{entry_named, tag_of, without_key, tagged_entry}

-- two names are of one entry exactly when they are the same
pub named_is : (m name : List ℕ) → 4 ≤ length m → 4 ≤ length name → same_entry (entry_named m) (entry_named name) ≡ same m name
named_is m name h g =
    let a : ℕ = length m - id_length in
    let b : ℕ = length name - id_length in
    let l : length (drop a m) ≡ length (drop b name) = length-drop a m ∙ four (length m) h ∙ sym (four (length name) g) ∙ sym (length-drop b name) in
    sym (same_append (take a m) (take b name) (drop a m) (drop b name) l)
    ∙ (λ i. same (take-append-drop a m i) (take-append-drop b name i))
  where
    four : (n : ℕ) → 4 ≤ n → n - (n - 4) ≡ 4
    four n h = omega arith

-- no name of a key is that of an entry without one
keyless_is : (e : Entry) (name : List ℕ) → 4 < length name → same_entry (without_key e) (entry_named name) ≡ false
keyless_is e name h =
    let n : ℕ = length name - id_length in
    let l : length (take n name) ≡ n = length-take-le n name (omega arith) in
    ap (λ b. b && same e.originator (drop n name)) (same_long [] (take n name) (λ z. omega arith))

-- the entry of a tag and a name m is that of another name exactly when the tag is that name's and the names are the same
module _ (tag : ℕ) (m name : List ℕ) (h : 4 ≤ length m) (g : 4 < length name) where
  tagged_by : (t u s : Bool) → eqb tag (tag_of m) ≡ t → eqb tag (tag_of name) ≡ u → same m name ≡ s
      → same_entry (pick t (entry_named m) (without_key (entry_named m))) (entry_named name) ≡ (u && s)
  tagged_by true true s e f q = named_is m name h (omega arith) ∙ q
  tagged_by true false true e f q =
      absurd (false≢true (sym f ∙ eq-eqb tag (tag_of name) (eqb-true tag (tag_of m) e ∙ ap tag_of (same_true m name q))))
  tagged_by true false false e f q = named_is m name h (omega arith) ∙ q
  tagged_by false true true e f q =
      absurd (false≢true (sym e ∙ eq-eqb tag (tag_of m) (eqb-true tag (tag_of name) f ∙ ap tag_of (sym (same_true m name q)))))
  tagged_by false true false e f q = keyless_is (entry_named m) name g
  tagged_by false false s e f q = keyless_is (entry_named m) name g

  pub tagged_is : same_entry (tagged_entry tag m) (entry_named name) ≡ (eqb tag (tag_of name) && same m name)
  tagged_is = tagged_by (eqb tag (tag_of m)) (eqb tag (tag_of name)) (same m name) refl refl refl

-- ---- the entry of a tag and a name
module _ (name : List ℕ) where
  abbrev picked : Bool → Entry
  picked b = pick b (entry_named name) (without_key (entry_named name))

  originator_by : (b : Bool) → (picked b).originator ≡ drop (length name - id_length) name
  originator_by true = refl
  originator_by false = refl

  module _ (tag : ℕ) where
    pub tagged_originator : (tagged_entry tag name).originator ≡ drop (length name - id_length) name
    tagged_originator = originator_by (eqb tag (tag_of name))

-- a name made of a key and an originator
pub named_entry : (key originator name : List ℕ) → length originator ≡ id_length → name ≡ key ++ originator → entry_named name
    ≡ record { key = key; originator = originator }
named_entry key originator name n e =
    let l : length name ≡ length key + length originator = ap length e ∙ length-append key originator in
    let k : length name - id_length ≡ length key = omega arith in
    λ i. record {
      key = ((λ j. take (k j) (e j)) ∙ take-append_seam key originator) i;
      originator = ((λ j. drop (k j) (e j)) ∙ drop-append_seam key originator) i;
    }

-- the octets that `name` leaves
pub name_octets : (zeros key originator : List ℕ) → length zeros ≡ 20 → length key ≤ 16 → length originator ≡ 4
    → take (length key + 4) (put_at (put_at zeros 0 key) (length key) originator) ≡ key ++ originator
name_octets zeros key originator z k o =
    let n : length (key ++ originator) ≡ length key + length originator = length-append key originator in
    let at : length key ≡ 0 + length key = omega arith in
    ap (λ (a : ℕ). take (length key + 4) (put_at (put_at zeros 0 key) a originator)) at
    ∙ ap (take (length key + 4)) (put_put zeros 0 key originator (omega arith)) ∙ ap (take (length key + 4)) (put_zero zeros (key ++ originator))
    ∙ take_written (key ++ originator) zeros (length key + 4) (omega arith)
