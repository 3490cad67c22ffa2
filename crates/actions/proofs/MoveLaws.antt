-- A slot's link moved: the memory emptied and cleared, and the whole.
-- Assumes nothing.
use Prim.Native.Nat.{ℕ}
use mathlib.Core.Path.{◌≡◌, refl, sym, ap, ◌∙◌, subst}
use mathlib.Core.Bool.{Bool, true, false, ◌&&◌, false≢true}
use mathlib.Core.List.{List, []}
use borrow.Author.Tests.{eq-eqb, ne_eqb}
use Rattle.laws.specs.Choice.{pick}
use Rattle.laws.specs.Tables.{on}
use Rattle.protocol.specs.declared.Alignment.{Alignment}
use Rattle.protocol.specs.declared.Alignment.TheVariants.{Down, Negotiate, Summarize, Update, Aligned}
use Rattle.protocol.specs.declared.HelloState.{HelloState}
use Rattle.protocol.specs.declared.HelloState.TheVariants.{Unidirectional, Bidirectional}
use Rattle.protocol.specs.declared.Link.{Link}
use Rattle.rules.specs.Server as rules
use Rattle.rules.specs.Server.{Row, Request}
use Rattle.rules.specs.Links.{is_bidirectional, enters, with_alignment, with_hello, recorded, negotiating, to_other, hello_move}
use Rattle.rules.specs.Rows.{cleared_if}
use Rattle.rules.specs.Slots.{with_link, moved}
use Rattle.rules.proofs.PastLaws.{enters_same}
use Rattle.memory.specs.Memory.{rows_in, Memory, memory_of, with_rows, requests_put, kept_put, requests_of, kept_of}
use Rattle.records.proofs.MemoryLaws.{memory_rows, rows_after}
use Rattle.slots.specs.declared.state.Slot.{Slot}
use Rattle.slots.specs.State.{slot_of, empty_if}
use Rattle.table.specs.Slots.{slot_in, Changes}
use Rattle.actions.specs.Parts.{slot_with, slot_now, Moves, MovesAt}
use Rattle.actions.proofs.PartLaws.{both_same, leaves_parts, leaves_as, leaves_same}

-- ---- what follows in the memory
-- slot k's part of the memory emptied, where b holds
abbrev emptied_if : Bool → ℕ → Memory → Memory
emptied_if true k m = kept_put k [] (requests_put k [] m)
emptied_if false k m = m

module _ (k : ℕ) (m : Memory) where
  emptied_parts : (b : Bool) → emptied_if b k m ≡ kept_put k (empty_if b (kept_of m k)) (requests_put k (empty_if b (requests_of m k)) m)
  emptied_parts true = refl
  emptied_parts false = sym (both_same m k)

  emptied_rows : (b : Bool) → (emptied_if b k m).rows ≡ m.rows
  emptied_rows true = refl
  emptied_rows false = refl

module _ (k : ℕ) (l : Link) (x : Slot) (before after : List ℕ) (r : Slot) where
  moves : (mid : List ℕ) (b : Bool) → b ≡ enters x.link.alignment l.alignment
      → memory_of mid ≡ emptied_if b k (memory_of before)
      → memory_of after ≡ with_rows (cleared_if b k (rows_in mid)) (memory_of mid)
      → ((qs : List Request) (kept : List ℕ)
      → slot_of r (empty_if (enters x.link.alignment l.alignment) qs) (empty_if (enters x.link.alignment l.alignment) kept)
      ≡ moved l (slot_of x qs kept))
      → Moves k l x before after r
  moves mid b e f g h =
      let a : Bool = enters x.link.alignment l.alignment in
      let m : Memory = memory_of before in
      let qs : List Request = requests_of m k in
      let p : List ℕ = kept_of m k in
      let rows : rows_in mid ≡ rows_in before =
      rows_after before mid (emptied_if b k m) f ∙ emptied_rows k m b ∙ memory_rows before in
      let lists : memory_of mid ≡ kept_put k (empty_if a p) (requests_put k (empty_if a qs) m) =
      f ∙ ap (λ (c : Bool). emptied_if c k m) e ∙ emptied_parts k m a in
      leaves_parts k (moved l (slot_with x k before)) before after r (cleared_if a k (rows_in before)) (empty_if a qs) (empty_if a p)
      (g ∙ (λ z. with_rows (cleared_if (e z) k (rows z)) (lists z))) (h qs p)

  abbrev Moved : Type 0
  Moved = (qs : List Request) (kept : List ℕ)
      → slot_of r (empty_if (enters x.link.alignment l.alignment) qs) (empty_if (enters x.link.alignment l.alignment) kept)
      ≡ moved l (slot_of x qs kept)

  pub moves_entered : (mid : List ℕ) → enters x.link.alignment l.alignment ≡ true
      → memory_of mid ≡ kept_put k [] (requests_put k [] (memory_of before))
      → memory_of after ≡ with_rows (cleared_if true k (rows_in mid)) (memory_of mid) → Moved → Moves k l x before after r
  moves_entered mid e f g h = moves mid true (sym e) f g h

pub moves_still : (k : ℕ) (l : Link) (x : Slot) (s : List ℕ) (r : Slot) → enters x.link.alignment l.alignment ≡ false → Moved k l x s s r
    → Moves k l x s s r
moves_still k l x s r e h =
    moves k l x s s r s false (sym e) refl (ap (λ (rows : List Row). with_rows rows (memory_of s)) (memory_rows s)) h

-- ---- in the table
module _ (k : ℕ) (t t' : List Slot) (m m' : List ℕ) (y : Slot) where
  pub put_at_lem : ((j : ℕ) → slot_in t' j ≡ on k y (slot_in t) j) → slot_in t' k ≡ y
  put_at_lem h = h k ∙ rw (eq-eqb k k refl)

  pub put_others : ((j : ℕ) → slot_in t' j ≡ on k y (slot_in t) j) → (j : ℕ) → (j ≡ k → ⊥) → slot_in t' j ≡ slot_in t j
  put_others h j q = h j ∙ rw (ne_eqb j k q)

  -- read, moved and put
  pub moved_put : (l : Link) (x : Slot) → x ≡ slot_in t k → Moves k l x m m' y → ((j : ℕ) → slot_in t' j ≡ on k y (slot_in t) j) → MovesAt k l t t' m m'
  moved_put l x e h p = record {
    moves = subst (λ (z : Slot). Moves k l (slot_in t k) m m' z) (sym (put_at_lem p)) (subst (λ (z : Slot). Moves k l z m m' y) e h);
    others = put_others p;
  }

-- not moved
pub not_moved : (k : ℕ) (t : List Slot) (m : List ℕ) (l : Link) → (slot_in t k).link ≡ l → MovesAt k l t t m m
not_moved k t m l e =
    let x : Slot = slot_in t k in
    let same : enters x.link.alignment x.link.alignment ≡ false = enters_same x.link.alignment in
    subst (λ (z : Link). MovesAt k z t t m m) e
    (record {
      moves =
          leaves_as (leaves_same k (slot_now t k m) m x refl) (moved x.link (slot_now t k m))
          (cleared_if (enters x.link.alignment x.link.alignment) k (rows_in m)) (rw same) (rw same);
      others = λ j q. refl;
    })

-- moved by a word or some that leave the alignment where it is
pub changed_still : (k : ℕ) (t t' : List Slot) (m : List ℕ) (g : Link → Link) → Changes k (λ x. with_link (g x.link) x) t t'
    → enters (slot_in t k).link.alignment (g (slot_in t k).link).alignment ≡ false → MovesAt k (g (slot_in t k).link) t t' m m
changed_still k t t' m g c e =
    let x : rules.Slot = slot_now t k m in
    record {
      moves =
          leaves_as (leaves_same k (with_link (g x.link) x) m (slot_in t' k) (c.slot x.requests x.kept)) (moved (g x.link) x)
          (cleared_if (enters x.link.alignment (g x.link).alignment) k (rows_in m)) (rw e) (rw e);
      others = c.others;
    }

module _ (k : ℕ) (t t' : List Slot) (m m' : List ℕ) where
  pub to_link : (l n : Link) → l ≡ n → MovesAt k l t t' m m' → MovesAt k n t t' m m'
  to_link l n e h = subst (λ (z : Link). MovesAt k z t t' m m') e h

-- ---- to another Hello state
down_by : (a : Alignment) → enters a Down ≡ false → a ≡ Down
down_by Down h = refl
down_by Negotiate h = absurd (false≢true (sym h))
down_by (Summarize r) h = absurd (false≢true (sym h))
down_by Update h = absurd (false≢true (sym h))
down_by Aligned h = absurd (false≢true (sym h))

pub state_put : (k : ℕ) (t t' : List Slot) (m : List ℕ) (h : HelloState) → enters (slot_in t k).link.alignment Down ≡ false
    → Changes k (λ x. with_link (with_hello h x.link) x) t t' → MovesAt k (to_other h (slot_in t k).link) t t' m m
state_put k t t' m h e c =
    let l : Link = (slot_in t k).link in
    to_link k t t' m m (with_hello h l) (to_other h l) (ap (λ (a : Alignment). with_alignment a (with_hello h l)) (down_by l.alignment e))
    (changed_still k t t' m (with_hello h) c (enters_same l.alignment))

-- ---- a Hello in Bidirectional
stays_by : {A : Type 0} (b named : Bool) (r n o : A) → (b && named) ≡ true → r ≡ pick named (pick b r n) o
stays_by true true r n o e = refl
stays_by true false r n o e = absurd (false≢true e)
stays_by false named r n o e = absurd (false≢true e)

pub heard_put : (k : ℕ) (t t' : List Slot) (m : List ℕ) (time interval factor : ℕ) (named : Bool) → (is_bidirectional (slot_in t k).link.hello && named) ≡ true
    → Changes k (λ x. with_link (recorded time interval factor x.link) x) t t'
    → MovesAt k (hello_move time interval factor named (slot_in t k).link) t t' m m
heard_put k t t' m time interval factor named e c =
    let l : Link = (slot_in t k).link in
    let r : Link = recorded time interval factor l in
    to_link k t t' m m r (hello_move time interval factor named l)
    (stays_by (is_bidirectional l.hello) named r (negotiating (with_hello Bidirectional r)) (to_other Unidirectional r) e)
    (changed_still k t t' m (recorded time interval factor) c (enters_same l.alignment))
