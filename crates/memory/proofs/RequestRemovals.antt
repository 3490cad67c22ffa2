-- Requests that go: what the functions leave, from what those that they call leave.
-- Assumes nothing.
use Rattle.std.proofs.Common.{◌≡◌, ℕ, suc, ◌+◌, ◌<◌, ◌≤◌, min, Bool, true, false, List, length, get_or, take, set, sym, refl, ap, ◌∙◌, add-one, arith, length-take, lt-ltb}
use mathlib.Core.Bool.{false≢true}
use lib.Seq.{set-get_or}
use Rattle.std.specs.Prelude.{Option, None}
use Rattle.std.specs.List.{position}
use Rattle.laws.specs.Choice.{pick}
use Rattle.laws.specs.Tables.{has, without}
use Rattle.laws.proofs.Tables.{room}
use Rattle.protocol.specs.declared.CsaNumber.{CsaNumber}
use Rattle.protocol.specs.Fields.{field2}
use Rattle.rules.specs.Server.{Entry, Request}
use Rattle.rules.specs.Requests.{asks}
use Rattle.memory.specs.Layout.{list_place}
use Rattle.memory.specs.Memory.{requests_in, memory_of, requests_put, requests_of}
use Rattle.memory.specs.Lists.{rooms_in, no_request, Listed, goes, Removes}
use Rattle.memory.proofs.Rooms.{rooms_length, requests_of_lem, listed_none, listed_memory}
use Rattle.memory.proofs.RequestSteps.{then_sized, then_any, rooms_are, list_get, list_take, goes_not}
use Rattle.memory.proofs.RequestLists.{Passed, none_passes, Removed, removed_none, removed_more}

-- ---- those that go
module _ (s t : List ℕ) (k : ℕ) (p : Request → Bool) (i w : ℕ) (r : Bool) (is : r ≡ p (get_or (rooms_in s k) i no_request)) where
  pub remove_gone : k < 8 → r ≡ true → Removes k p i w s s w
  remove_gone slot g =
      let x : p (get_or (rooms_in s k) i no_request) ≡ true = sym is ∙ g in
      record { next = rw x; list = rw x (listed_none s k slot); kept = λ e. refl }

  -- it stands where it would move to
  pub remove_same : k < 8 → r ≡ false → w ≡ i → Removes k p i w s s (w + 1)
  remove_same slot g e =
      let x : p (get_or (rooms_in s k) i no_request) ≡ false = sym is ∙ g in
      let same : rooms_in s k ≡ set (rooms_in s k) w (get_or (rooms_in s k) i no_request) =
      sym (ap (λ (z : ℕ). set (rooms_in s k) z (get_or (rooms_in s k) i no_request)) e ∙ set-get_or (rooms_in s k) i no_request) in
      record { next = rw (x, add-one); list = rw x (rooms_are _ same (listed_none s k slot)); kept = λ f. refl }

  pub remove_moves : r ≡ false → (w ≡ i → ⊥) → Listed k (field2 s (list_place k)) (set (rooms_in s k) w (get_or (rooms_in s k) i no_request)) s t
      → Removes k p i w s t (w + 1)
  remove_moves g n q =
      let x : p (get_or (rooms_in s k) i no_request) ≡ false = sym is ∙ g in
      record { next = rw (x, add-one); list = rw x q; kept = λ e. absurd (n e) }

-- so far: the first i of the list are gone through; where none went, no octet has changed
pub record Removing (k : ℕ) (p : Request → Bool) (i w : ℕ) (s t : List ℕ) : Type 0 where
  pub list : Listed k (field2 s (list_place k)) (rooms_in t k) s t
  pub rooms : Removed p no_request (rooms_in s k) (rooms_in t k) i w
  pub kept : w ≡ i → t ≡ s

-- none of the first i is for the entry
pub removing_none : (k : ℕ) (u : Option CsaNumber) (e : Entry) (i : ℕ) (s : List ℕ) → k < 8 → i ≤ length (requests_in s k)
    → Passed (asks e) no_request (requests_in s k) i → Removing k (goes u e) i i s s
removing_none k u e i s slot within none = record {
  list = listed_none s k slot;
  rooms = removed_none (goes u e) no_request (rooms_in s k) i
      (λ j g h. ap (goes u e) (sym (list_get s k j (omega arith))) ∙ goes_not u e _ (none j g (omega arith)));
  kept = λ z. refl;
}

stayed : (b : Bool) (i w r : ℕ) → w ≤ i → r ≡ pick b w (suc w) → r ≡ i + 1 → w ≡ i
stayed true i w r h e f = absurd (omega arith)
stayed false i w r h e f = omega arith

pub removing_more : (k : ℕ) (p : Request → Bool) (i w r : ℕ) (s t u : List ℕ) → i < 64 → Removing k p i w s t → Removes k p i w t u r
    → Removing k p (i + 1) r s u
removing_more k p i w r s t u h so q =
    let a = removed_more p no_request (rooms_in s k) (rooms_in t k) i w (omega (arith, rooms_length s k)) so.rooms in
    let still = stayed (p (get_or (rooms_in t k) i no_request)) i w r so.rooms.under q.next in
    record {
      list = then_any so.list u (rooms_in u k) (record { used = q.list.used; held = refl; others = q.list.others });
      rooms = rw (q.list.held, q.next, add-one i) a;
      kept = λ e. q.kept (still e) ∙ so.kept (still e);
    }

module _ (k : ℕ) (p : Request → Bool) (n i w : ℕ) (s t : List ℕ) (slot : k < 8) (long : n ≡ length (requests_in s k)) (most : n ≤ 64) (all : i ≡ n)
    (so : Removing k p i w s t) where
  front : take w (rooms_in t k) ≡ without p (requests_of (memory_of s) k)
  front =
      so.rooms.front ∙ ap (λ (j : ℕ). without p (take j (rooms_in s k))) all ∙ ap (without p) (list_take s k n long ∙ sym (requests_of_lem s k slot))

  -- some went
  pub remove_end : (u : List ℕ) → w < n → Listed k w (rooms_in t k) t u
      → (memory_of u ≡ requests_put k (without p (requests_of (memory_of s) k)) (memory_of s)) × (has p (requests_of (memory_of s) k) ≡ false → u ≡ s)
  remove_end u h q =
      let l : List Request = requests_of (memory_of s) k in
      let few : length (without p l) ≡ w =
      ap length (sym front) ∙ length-take w (rooms_in t k) ∙ ap (min w) (rooms_length t k) ∙ (omega arith) in
      let more : length (without p l) < length l = omega (arith, ap length (requests_of_lem s k slot)) in
      let some : has p l ≡ true = room p l ∙ lt-ltb (length (without p l)) (length l) more in (
        listed_memory (then_sized so.list u w q) ∙ ap (λ (z : List Request). requests_put k z (memory_of s)) front,
        λ none. absurd (false≢true (sym none ∙ some)),
      )

  -- none went
  pub remove_nothing : n ≤ w
      → (memory_of t ≡ requests_put k (without p (requests_of (memory_of s) k)) (memory_of s)) × (has p (requests_of (memory_of s) k) ≡ false → t ≡ s)
  remove_nothing h =
      let under = so.rooms.under in
      let e : t ≡ s = so.kept (omega arith) in
      let whole : w ≡ n = omega arith in
      let same : requests_in s k ≡ without p (requests_of (memory_of s) k) =
      sym (list_take s k n long) ∙ (λ j. take (sym whole j) (rooms_in (sym e j) k)) ∙ front in (
        ap memory_of e ∙ (listed_none s k slot).others ∙ ap (λ (z : List Request). requests_put k z (memory_of s)) same,
        λ none. e,
      )

-- the list has no request for the entry
pub remove_absent : (k : ℕ) (u : Option CsaNumber) (e : Entry) (n : ℕ) (s : List ℕ) → k < 8 → n ≡ length (requests_in s k) → n ≤ 64
    → None ≡ position (asks e) (requests_in s k)
    → memory_of s ≡ requests_put k (without (goes u e) (requests_of (memory_of s) k)) (memory_of s)
remove_absent k u e n s slot long most none =
    (remove_nothing k (goes u e) n n n s s slot long most refl
    (removing_none k u e n s slot (omega arith) (none_passes (asks e) no_request (requests_in s k) none n)) (omega arith)).0
