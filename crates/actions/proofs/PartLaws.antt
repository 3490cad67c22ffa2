-- What is left of a slot and its part of the memory: read back, made of the memory's parts, and one event after another.
-- Assumes nothing.
use Prim.Native.Nat.{ℕ, ◌<◌}
use mathlib.Core.Path.{◌≡◌, refl, sym, ap, ◌∙◌}
use mathlib.Core.List.{List, []}
use native.Mathlib.Omega.{arith}
use lib.ListN.{length}
use lib.ListN as lists
use lib.Seq.{set-get_or, get_or-set_same, set-set}
use Rattle.laws.specs.Puts.{written}
use Rattle.laws.proofs.TableLaws.{table_length}
use Rattle.rules.specs.Server as rules
use Rattle.rules.specs.Server.{Row, Request}
use Rattle.memory.specs.Memory.{rows_in, kept_in, Memory, memory_of, with_rows, requests_put, kept_put, requests_of, kept_of}
use Rattle.records.proofs.MemoryLaws.{lists_eight, memory_rows}
use Rattle.slots.specs.declared.state.Slot.{Slot}
use Rattle.slots.specs.State.{slot_of}
use Rattle.actions.specs.declared.parts.Acted.{Acted}
use Rattle.writer.specs.Write.{Wrote}
use Rattle.actions.specs.Parts.{slot_with, Leaves, Acts}

-- ---- kept CAs
pub kept_eight : (s : List ℕ) → length (memory_of s).kept ≡ 8
unfolding memory_of
kept_eight s = table_length (kept_in s) 8 0

-- a memory with slot k's part and the rows put
abbrev pub parts_put : ℕ → List Row → List Request → List ℕ → Memory → Memory
parts_put k rows qs p m = record { rows = rows; requests = lists.set m.requests k qs; kept = lists.set m.kept k p }

module _ (m : Memory) (k : ℕ) where
  pub kept_put_lem : (p : List ℕ) → length m.kept ≡ 8 → k < 8 → kept_of (kept_put k p m) k ≡ p
  kept_put_lem p n h = get_or-set_same m.kept k p [] (omega arith)

  pub kept_same : kept_put k (kept_of m k) m ≡ m
  kept_same = ap (λ (l : List (List ℕ)). record { rows = m.rows; requests = m.requests; kept = l }) (set-get_or m.kept k [])

  -- slot k's part as it was
  pub both_same : kept_put k (kept_of m k) (requests_put k (requests_of m k) m) ≡ m
  both_same = λ z. record {
    rows = m.rows;
    requests = set-get_or m.requests k [] z;
    kept = set-get_or m.kept k [] z;
  }

  pub parts_twice : (rows rows' : List Row) (qs qs' : List Request) (p p' : List ℕ)
      → parts_put k rows' qs' p' (parts_put k rows qs p m) ≡ parts_put k rows' qs' p' m
  parts_twice rows rows' qs qs' p p' = λ z. record {
    rows = rows';
    requests = set-set m.requests k qs qs' z;
    kept = set-set m.kept k p p' z;
  }

-- ---- a slot read back
module _ {k : ℕ} {slot : rules.Slot} {rows : List Row} {before after : List ℕ} {x : Slot} (l : Leaves k slot rows before after x) where
  pub left_rows : rows_in after ≡ rows
  left_rows = sym (memory_rows after) ∙ ap (λ (m : Memory). m.rows) l.memory

  pub left_requests : k < 8 → requests_of (memory_of after) k ≡ slot.requests
  left_requests h =
      let n : length (memory_of before).requests ≡ 8 = lists_eight before in
      ap (λ (m : Memory). requests_of m k) l.memory ∙ get_or-set_same (memory_of before).requests k slot.requests [] (omega arith)

  pub left_kept : k < 8 → kept_of (memory_of after) k ≡ slot.kept
  left_kept h =
      let n : length (memory_of before).kept ≡ 8 = kept_eight before in
      ap (λ (m : Memory). kept_of m k) l.memory ∙ get_or-set_same (memory_of before).kept k slot.kept [] (omega arith)

  pub left_slot : k < 8 → slot_with x k after ≡ slot
  left_slot h = (λ z. slot_of x (left_requests h z) (left_kept h z)) ∙ l.struct

  -- another struct with the same part of the memory
  pub leaves_struct : (y : Slot) (slot' : rules.Slot) → slot_of y slot.requests slot.kept ≡ slot' → Leaves k slot' rows before after y
  leaves_struct y slot' e =
      let qs : slot.requests ≡ slot'.requests = ap (λ (s : rules.Slot). s.requests) e in
      let p : slot.kept ≡ slot'.kept = ap (λ (s : rules.Slot). s.kept) e in
      record {
        struct = (λ z. slot_of y (sym qs z) (sym p z)) ∙ e;
        memory = l.memory ∙ (λ z. parts_put k rows (qs z) (p z) (memory_of before));
      }

  -- the same said of an equal slot and equal rows
  pub leaves_as : (slot' : rules.Slot) (rows' : List Row) → slot ≡ slot' → rows ≡ rows' → Leaves k slot' rows' before after x
  leaves_as slot' rows' e f = record {
    struct = (λ z. slot_of x (sym e z).requests (sym e z).kept) ∙ l.struct ∙ e;
    memory = l.memory ∙ (λ z. parts_put k (f z) (e z).requests (e z).kept (memory_of before));
  }

-- ---- one after another
pub leaves_then : {k : ℕ} {s₁ s₂ : rules.Slot} {r₁ r₂ : List Row} {a b c : List ℕ} {x y : Slot}
    → Leaves k s₁ r₁ a b x → Leaves k s₂ r₂ b c y → Leaves k s₂ r₂ a c y
leaves_then {k} {s₁} {s₂} {r₁} {r₂} {a} {b} {c} {x} {y} l n = record {
  struct = n.struct;
  memory =
      n.memory ∙ ap (λ (m : Memory). parts_put k r₂ s₂.requests s₂.kept m) l.memory
      ∙ parts_twice (memory_of a) k r₁ r₂ s₁.requests s₂.requests s₁.kept s₂.kept;
}

-- ---- made of the memory's parts
module _ (k : ℕ) (slot : rules.Slot) (before after : List ℕ) (x : Slot) where
  -- all of them put
  pub leaves_parts : (rows : List Row) (qs : List Request) (p : List ℕ)
      → memory_of after ≡ with_rows rows (kept_put k p (requests_put k qs (memory_of before))) → slot_of x qs p ≡ slot → Leaves k slot rows before after x
  leaves_parts rows qs p e f = record {
    struct = (λ z. slot_of x (sym f z).requests (sym f z).kept) ∙ f;
    memory = e ∙ (λ z. parts_put k rows (f z).requests (f z).kept (memory_of before));
  }

  -- the rows as they were
  pub leaves_lists : (qs : List Request) (p : List ℕ)
      → memory_of after ≡ kept_put k p (requests_put k qs (memory_of before)) → slot_of x qs p ≡ slot → Leaves k slot (rows_in before) before after x
  leaves_lists qs p e f =
      leaves_parts (rows_in before) qs p
      (e ∙ ap (λ (rows : List Row). with_rows rows (kept_put k p (requests_put k qs (memory_of before)))) (memory_rows before)) f

  -- the kept CA as it was
  pub leaves_both : (rows : List Row) (qs : List Request) → memory_of after ≡ with_rows rows (requests_put k qs (memory_of before))
      → slot_of x qs (kept_of (memory_of before) k) ≡ slot → Leaves k slot rows before after x
  leaves_both rows qs e f =
      leaves_parts rows qs (kept_of (memory_of before) k)
      (e ∙ ap (λ (m : Memory). with_rows rows (requests_put k qs m)) (sym (kept_same (memory_of before) k))) f

  pub leaves_requests : (qs : List Request) → memory_of after ≡ requests_put k qs (memory_of before)
      → slot_of x qs (kept_of (memory_of before) k) ≡ slot → Leaves k slot (rows_in before) before after x
  leaves_requests qs e f =
      leaves_lists qs (kept_of (memory_of before) k) (e ∙ ap (requests_put k qs) (sym (kept_same (memory_of before) k))) f

  -- the requests as they were
  pub leaves_rows_kept : (rows : List Row) (p : List ℕ) → memory_of after ≡ with_rows rows (kept_put k p (memory_of before))
      → slot_of x (requests_of (memory_of before) k) p ≡ slot → Leaves k slot rows before after x
  leaves_rows_kept rows p e f =
      leaves_parts rows (requests_of (memory_of before) k) p
      (e ∙ ap (λ (l : List (List Request)).
      with_rows rows (kept_put k p (record { rows = (memory_of before).rows; requests = l; kept = (memory_of before).kept })))
      (sym (set-get_or (memory_of before).requests k []))) f

  pub leaves_kept : (p : List ℕ) → memory_of after ≡ kept_put k p (memory_of before)
      → slot_of x (requests_of (memory_of before) k) p ≡ slot → Leaves k slot (rows_in before) before after x
  leaves_kept p e f =
      leaves_rows_kept (rows_in before) p (e ∙ ap (λ (rows : List Row). with_rows rows (kept_put k p (memory_of before))) (memory_rows before)) f

  pub leaves_rows : (rows : List Row) → memory_of after ≡ with_rows rows (memory_of before) → slot_with x k before ≡ slot → Leaves k slot rows before after x
  leaves_rows rows e f =
      leaves_parts rows (requests_of (memory_of before) k) (kept_of (memory_of before) k)
      (e ∙ ap (with_rows rows) (sym (both_same (memory_of before) k))) f

  pub leaves_still : memory_of after ≡ memory_of before → slot_with x k before ≡ slot → Leaves k slot (rows_in before) before after x
  leaves_still e f =
      leaves_lists (requests_of (memory_of before) k) (kept_of (memory_of before) k) (e ∙ sym (both_same (memory_of before) k)) f

-- nothing but the struct changes
pub leaves_same : (k : ℕ) (slot : rules.Slot) (m : List ℕ) (y : Slot) → slot_with y k m ≡ slot → Leaves k slot (rows_in m) m m y
leaves_same k slot m y e = leaves_still k slot m m y refl e

-- ---- what is written
pub wrote_none : (out : List ℕ) → Wrote [] out out 0
unfolding written
wrote_none out = record { size = refl; octets = refl }

module _ {k : ℕ} {slot : rules.Slot} {rows : List Row} {before after : List ℕ} {x : Slot} (l : Leaves k slot rows before after x) where
  -- with what is written
  pub acts : {p out out' : List ℕ} {n : ℕ} → Wrote p out out' n → Acts k slot rows p before after out out' (record { slot = x; written = n })
  acts w = record { left = l; wrote = w }

-- after another event on the slot, which wrote nothing
pub acts_then : {k : ℕ} {s₁ s₂ : rules.Slot} {r₁ r₂ : List Row} {p a b c out out' : List ℕ} {x : Slot} {r : Acted}
    → Leaves k s₁ r₁ a b x → Acts k s₂ r₂ p b c out out' r → Acts k s₂ r₂ p a c out out' r
acts_then l t = record { left = leaves_then l t.left; wrote = t.wrote }
