-- A CA of ours as octets, and what is read of a slot's part of the memory.
-- Assumes nothing.
use Prim.Native.Nat.{ℕ, zero, suc, ◌≤◌, ◌<◌}
use mathlib.Core.Path.{◌≡◌, refl, sym, ap, ◌∙◌}
use mathlib.Core.Bool.{not}
use mathlib.Core.List.{List, [], ◌∷◌}
use native.Mathlib.Omega.{arith}
use lib.Dec.{eqb}
use lib.ListN.{length, take}
use borrow.Author.Tests.{ne_eqb}
use Rattle.laws.specs.Lists.{is_empty}
use Rattle.laws.specs.Puts.{written}
use Rattle.laws.proofs.Lists.{take_short}
use Rattle.laws.proofs.Puts.{take_written}
use Rattle.laws.proofs.TableLaws.{table_get}
use Rattle.protocol.specs.declared.CaHead.{CaHead}
use Rattle.protocol.specs.Sizes.{id_length}
use Rattle.protocol.specs.Reading.{records_at}
use Rattle.rules.specs.Server.{Request}
use Rattle.protocol.specs.declared.Alignment.{Alignment}
use Rattle.rules.specs.Links.{CaRule, ca_rule, with_alignment}
use Rattle.rules.specs.Alignment.{rule_for}
use Rattle.rules.specs.Slots.{with_link, aligned_if, completed}
use Rattle.memory.specs.Memory.{requests_in, kept_in, memory_of, kept_put, requests_of, kept_of}
use Rattle.memory.proofs.Rooms.{requests_of_lem}
use Rattle.wire.specs.declared.read.Head.{Head}
use Rattle.wire.specs.Views.{message_of}
use Rattle.slots.specs.declared.state.Slot.{Slot}
use Rattle.slots.specs.State.{slot_of, ca_in}
use Rattle.table.specs.Slots.{slot_in, Changes}
use Rattle.writer.specs.Write.{Wrote}
use Rattle.actions.specs.Parts.{slot_with}
use Rattle.actions.specs.Steps.{SendsCa, head_at, ca_packet_at}

-- ---- a CA is kept
pub first_short : (src out : List ℕ) (n : ℕ) → src ≡ take n out → n ≤ 284 → length src ≤ 284
first_short src out n e h = let a = ap length e in let b = (take_short n out).0 in omega arith

pub sends_ca : {k : ℕ} {p before after out out' src : List ℕ} {n : ℕ} → Wrote p out out' n → src ≡ take n out'
    → memory_of after ≡ kept_put k src (memory_of before) → SendsCa k p before after out out' n
sends_ca {k} {p} {before} {after} {out} {out'} {src} {n} w e m =
    let same : src ≡ p = e ∙ ap (take n) w.octets ∙ take_written p out n w.size in
    record { memory = m ∙ ap (λ (q : List ℕ). kept_put k q (memory_of before)) same; wrote = w }

-- ---- what is read
pub kept_of_lem : (s : List ℕ) (k : ℕ) → k < 8 → kept_of (memory_of s) k ≡ kept_in s k
unfolding memory_of
kept_of_lem s k h = table_get (kept_in s) 8 k [] h

pub empty_length : {A : Type 0} (l : List A) → is_empty l ≡ eqb (length l) 0
empty_length [] = refl
empty_length (x ∷ xs) = sym (ne_eqb (suc (length xs)) 0 (λ e. omega arith))

no_records : (p : List ℕ) (n at : ℕ) → eqb n 0 ≡ is_empty (records_at id_length p n at)
unfolding records_at
no_records p zero at = refl
no_records p (suc n) at = ne_eqb (suc n) 0 (λ e. omega arith)

pub rule_here : (id p s sender : List ℕ) (h : Head) (k : ℕ) (x : Slot) (head : CaHead) (n : ℕ) (r : CaRule) → k < 8 → head ≡ head_at p
    → sender ≡ (message_of p h).sender → n ≡ length (kept_in s k)
    → r ≡ ca_rule id (ca_in head sender (eqb h.records.left 0)) (not (eqb n 0)) x.link
    → r ≡ rule_for id (ca_packet_at p h) (slot_with x k s)
rule_here id p s sender h k x head n r lt f a b e =
    let kept : eqb n 0 ≡ is_empty (kept_of (memory_of s) k) =
    ap (λ (m : ℕ). eqb m 0) b ∙ sym (empty_length (kept_in s k)) ∙ ap is_empty (sym (kept_of_lem s k lt)) in
    e ∙ (λ i. ca_rule id (ca_in (f i) (a i) (no_records p h.records.left h.records.at i)) (not (kept i)) x.link)

pub completes : (s : List ℕ) (k n : ℕ) (x r : Slot) → k < 8 → n ≡ length (requests_in s k)
    → ((qs : List Request) (kept : List ℕ) → is_empty qs ≡ eqb n 0 → slot_of r qs kept ≡ completed (slot_of x qs kept))
    → slot_with r k s ≡ completed (slot_with x k s)
completes s k n x r lt e f =
    f (requests_of (memory_of s) k) (kept_of (memory_of s) k)
    (ap is_empty (requests_of_lem s k lt) ∙ empty_length (requests_in s k) ∙ ap (λ (m : ℕ). eqb m 0) (sym e))

-- the kept CA again
pub kept_wrote : {p out after : List ℕ} {n : ℕ} → (n ≡ length p) × (after ≡ written p out) → Wrote p out after n
kept_wrote h = record { size = h.0; octets = h.1 }

-- the word of a slot that is completed
pub completed_put : (k : ℕ) (t t' : List Slot) (s : List ℕ) (n : ℕ) (a b : Alignment) → k < 8 → n ≡ length (requests_in s k) → a ≡ (slot_in t k).link.alignment
    → b ≡ aligned_if (eqb n 0) a → Changes k (λ x. with_link (with_alignment b x.link) x) t t'
    → Changes k (λ x. with_link (with_alignment (aligned_if (is_empty (requests_of (memory_of s) k)) x.link.alignment) x.link) x) t t'
completed_put k t t' s n a b lt e f g h =
    let none : eqb n 0 ≡ is_empty (requests_of (memory_of s) k) =
    ap (λ (m : ℕ). eqb m 0) e ∙ sym (empty_length (requests_in s k)) ∙ ap is_empty (sym (requests_of_lem s k lt)) in
    let to : b ≡ aligned_if (is_empty (requests_of (memory_of s) k)) (slot_in t k).link.alignment = g ∙ (λ i. aligned_if (none i) (f i)) in
    record {
      slot =
          λ qs kept. let x = slot_of (slot_in t k) qs kept in
          h.slot qs kept ∙ ap (λ (z : Alignment). with_link (with_alignment z x.link) x) to;
      others = h.others;
    }
