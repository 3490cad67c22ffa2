-- The slots of the server with their parts of the memory, and what an event in a slot leaves of the server.
-- Assumes nothing.
use Prim.Native.Nat.{ℕ, ◌<◌}
use mathlib.Core.Path.{◌≡◌, refl, sym, ap, ◌∙◌}
use mathlib.Core.Bool.{Bool, ◌||◌}
use mathlib.Core.List.{List, []}
use native.Mathlib.Omega.{arith}
use lib.ListN.{length, get_or}
use lib.ListN as lists
use lib.Seq.{get_or-set_same, get_or-set_other, set-set}
use lib.Dec.{eqb}
use borrow.Author.Tests.{eqb-true, eqb-false, eq-eqb, ne_eqb}
use Rattle.laws.specs.Choice.{pick}
use Rattle.laws.specs.Tables.{on}
use Rattle.laws.proofs.Each.{picked}
use Rattle.laws.proofs.TableLaws.{table_length, table_get, table_same, table_set}
use Rattle.protocol.specs.declared.Alignment.{Alignment}
use Rattle.rules.specs.Server as rules
use Rattle.rules.specs.Server.{fresh_slot, Row, slot_at}
use Rattle.rules.specs.Links.{enters}
use Rattle.rules.specs.Rows.{cleared_if, swept_if}
use Rattle.rules.specs.Events.{Event, in_slot, place_of, live_in, slot_after, slots_after, rows_changed, empties_in, enters_at}
use Rattle.rules.specs.Events.{cleared, changes_rows, time_after, acted}
use Rattle.memory.specs.Memory.{rows_in, Memory, memory_of, with_rows, requests_of, kept_of}
use Rattle.records.proofs.MemoryLaws.{rows_are}
use Rattle.slots.specs.declared.state.Slot.{Slot}
use Rattle.slots.specs.declared.state.Server.{Server}
use Rattle.slots.specs.State.{settings_of, slot_of}
use Rattle.table.specs.Slots.{slot_in}
use Rattle.actions.specs.Parts.{slot_now, slot_with, Leaves}
use Rattle.actions.proofs.PartLaws.{left_rows, left_slot}
use Rattle.server.specs.State.{slots_of, server_of, ended, sweeps_at, Closes}

-- ---- the slots
pub slots_eight : (slots : List Slot) (m : List ℕ) → length (slots_of slots m) ≡ 8
unfolding slots_of
slots_eight slots m = table_length (λ k. slot_with (slot_in slots k) k m) 8 0

pub slot_get : (slots : List Slot) (m : List ℕ) (k : ℕ) → k < 8 → get_or (slots_of slots m) k fresh_slot ≡ slot_with (slot_in slots k) k m
unfolding slots_of
slot_get slots m k h = table_get (λ j. slot_with (slot_in slots j) j m) 8 k fresh_slot h

pub slot_of_lem : (s : Server) (slots : List Slot) (m : List ℕ) (k : ℕ) → k < 8 → slot_at (server_of s slots m) k ≡ slot_now slots k m
slot_of_lem s slots m k h = slot_get slots m k h

-- the table with x put in slot k
abbrev pub IsPut : ℕ → Slot → List Slot → List Slot → Type 0
IsPut k x slots slots' = (j : ℕ) → slot_in slots' j ≡ on k x (slot_in slots) j

-- slot k put, with its part of the memory
pub slots_put : (slots slots' : List Slot) (m : List ℕ) (k : ℕ) (x : Slot) → k < 8 → IsPut k x slots slots'
    → slots_of slots' m ≡ lists.set (slots_of slots m) k (slot_with x k m)
unfolding slots_of
slots_put slots slots' m k x h p =
    table_set (λ j. slot_with (slot_in slots j) j m) (λ j. slot_with (slot_in slots' j) j m) 8 k h
    (λ j a d. ap (λ (y : Slot). slot_with y j m) (p j ∙ ap (λ (b : Bool). pick b x (slot_in slots j)) (ne_eqb j k d)))
    ∙ ap (λ (y : Slot). lists.set (slots_of slots m) k (slot_with y k m)) (p k ∙ ap (λ (b : Bool). pick b x (slot_in slots k)) (eq-eqb k k refl))

-- the memory is another, with the same parts of each slot
pub slots_same : (slots : List Slot) (a b : List ℕ) → (memory_of b).requests ≡ (memory_of a).requests → (memory_of b).kept ≡ (memory_of a).kept
    → slots_of slots b ≡ slots_of slots a
unfolding slots_of
slots_same slots a b e f =
    table_same (λ j. slot_with (slot_in slots j) j b) (λ j. slot_with (slot_in slots j) j a) 8
    (λ j h z. slot_of (slot_in slots j) (get_or (e z) j []) (get_or (f z) j []))

-- a table that differs in slot k alone
pub is_put : (k : ℕ) (slots slots' : List Slot) → ((j : ℕ) → (j ≡ k → ⊥) → slot_in slots' j ≡ slot_in slots j) → IsPut k (slot_in slots' k) slots slots'
is_put k slots slots' o j =
    picked (λ (z : Slot). slot_in slots' j ≡ z) (eqb j k) (slot_in slots' k) (slot_in slots j) (λ e. ap (slot_in slots') (eqb-true j k e))
    (λ f. o j (eqb-false j k f))

-- the end of an event: the rows may be swept
pub ends : (sweep : Bool) (s : Server) (slots slots' : List Slot) (before after : List ℕ) (k now : ℕ) (x : Slot) → k < 8 → IsPut k x slots slots'
    → memory_of after ≡ with_rows (swept_if sweep (rows_in before)) (memory_of before)
    → server_of (record { settings = s.settings; time = now }) slots' after ≡ ended sweep k now (slot_with x k before) (server_of s slots before)
ends sweep s slots slots' before after k now x h p e =
    let qs : (memory_of after).requests ≡ (memory_of before).requests = ap (λ (m : Memory). m.requests) e in
    let ks : (memory_of after).kept ≡ (memory_of before).kept = ap (λ (m : Memory). m.kept) e in
    let put : slots_of slots' after ≡ lists.set (slots_of slots before) k (slot_with x k before) =
    slots_put slots slots' after k x h p
    ∙ (λ z. lists.set (slots_same slots before after qs ks z) k (slot_of x (get_or (qs z) k []) (get_or (ks z) k []))) in
    λ z. record {
      settings = settings_of s.settings;
      time = now;
      slots = put z;
      rows = rows_are before after (swept_if sweep (rows_in before)) e z;
    }

pub closed : (changes sweep : Bool) (from : Alignment) (s : Server) (slots : List Slot) (before after : List ℕ) (k now : ℕ) → k < 8
    → sweep ≡ (changes || enters from (slot_in slots k).link.alignment) → memory_of after ≡ with_rows (swept_if sweep (rows_in before)) (memory_of before)
    → Closes changes from s slots k now before after (record { settings = s.settings; time = now })
closed changes sweep from s slots before after k now h e m =
    λ old f o. ends sweep s old slots before after k now (slot_in slots k) h (is_put k old slots o) m
    ∙ ap (λ (b : Bool). ended b k now (slot_with (slot_in slots k) k before) (server_of s old before))
    (e ∙ ap (λ (a : Alignment). changes || enters a (slot_in slots k).link.alignment) (sym f))

-- but for slot k
module _ {k : ℕ} {slot : rules.Slot} {rows : List Row} {before after : List ℕ} {x : Slot} (l : Leaves k slot rows before after x) (h : k < 8) where
  other_slot : (y : Slot) (j : ℕ) → (j ≡ k → ⊥) → slot_with y j after ≡ slot_with y j before
  other_slot y j d =
      let e : requests_of (memory_of after) j ≡ requests_of (memory_of before) j =
      ap (λ (m : Memory). requests_of m j) l.memory ∙ get_or-set_other (memory_of before).requests k j slot.requests [] d in
      let f : kept_of (memory_of after) j ≡ kept_of (memory_of before) j =
      ap (λ (m : Memory). kept_of m j) l.memory ∙ get_or-set_other (memory_of before).kept k j slot.kept [] d in
      λ z. slot_of y (e z) (f z)

  pub slots_left : (slots : List Slot) → lists.set (slots_of slots after) k (slot_with x k after) ≡ lists.set (slots_of slots before) k slot
  unfolding slots_of
  slots_left slots =
      let y : rules.Slot = slot_with (slot_in slots k) k after in
      ap (λ (t : List rules.Slot). lists.set t k (slot_with x k after))
      (table_set (λ j. slot_with (slot_in slots j) j before) (λ j. slot_with (slot_in slots j) j after) 8 k h
      (λ j a d. other_slot (slot_in slots j) j d))
      ∙ set-set (slots_of slots before) k y (slot_with x k after)
      ∙ ap (lists.set (slots_of slots before) k) (left_slot l h)

  -- the end of an event in slot k
  pub closes : (changes : Bool) (s r : Server) (slots slots' : List Slot) (now : ℕ) (last : List ℕ)
      → server_of r slots' last ≡ ended (sweeps_at changes slots k x) k now (slot_with x k after) (server_of s slots after)
      → server_of r slots' last ≡ record {
        settings = settings_of s.settings;
        time = now;
        slots = lists.set (slots_of slots before) k slot;
        rows = swept_if (changes || enters (slot_in slots k).link.alignment slot.link.alignment) rows;
      }
  closes changes s r slots slots' now last e =
      e ∙ (λ z. record {
        settings = settings_of s.settings;
        time = now;
        slots = slots_left slots z;
        rows = swept_if (changes || enters (slot_in slots k).link.alignment (left_slot l h z).link.alignment) (left_rows l z);
      })

-- ---- an event in slot k acts: the slot that it leaves, and the rows
-- y is the slot after it, rows those that it changed
abbrev pub acted_in : Bool → ℕ → ℕ → rules.Slot → rules.Slot → List Row → rules.Server → rules.Server
acted_in changes k now x y rows s = record {
  settings = s.settings;
  time = now;
  slots = lists.set s.slots k y;
  rows = swept_if (changes || enters x.link.alignment y.link.alignment) (cleared_if (enters x.link.alignment y.link.alignment) k rows);
}

place_acted : (s : rules.Server) (e : Event) (k : ℕ) → k < length s.slots → place_of e ≡ in_slot k → empties_in e ≡ in_slot k
    → acted s e ≡ acted_in (changes_rows e) k (time_after e s.time) (slot_at s k) (slot_after e s.settings (live_in s.slots) s.rows (slot_at s k))
    (rows_changed e s.settings (live_in s.slots) s.rows) s
unfolding acted
place_acted s e k h p w =
    let y : rules.Slot = slot_after e s.settings (live_in s.slots) s.rows (slot_at s k) in
    let rows : List Row = rows_changed e s.settings (live_in s.slots) s.rows in
    let at : List rules.Slot → rules.Slot → rules.Server = λ slots z. record {
      settings = s.settings;
      time = time_after e s.time;
      slots = slots;
      rows =
          swept_if (changes_rows e || enters (slot_at s k).link.alignment z.link.alignment)
          (cleared_if (enters (slot_at s k).link.alignment z.link.alignment) k rows);
    } in
    (λ i. record {
      settings = s.settings;
      time = time_after e s.time;
      slots = slots_after (p i) e s;
      rows = swept_if (changes_rows e || enters_at (w i) s.slots (slots_after (p i) e s)) (cleared (w i) s.slots (slots_after (p i) e s) rows);
    })
    ∙ ap (at (lists.set s.slots k y)) (get_or-set_same s.slots k y fresh_slot h)

pub acted_in_lem : (s : Server) (slots : List Slot) (m : List ℕ) (e : Event) (k : ℕ) → k < 8 → place_of e ≡ in_slot k → empties_in e ≡ in_slot k
    → acted (server_of s slots m) e ≡ acted_in (changes_rows e) k (time_after e s.time) (slot_now slots k m)
    (slot_after e (settings_of s.settings) (live_in (slots_of slots m)) (rows_in m) (slot_now slots k m))
    (rows_changed e (settings_of s.settings) (live_in (slots_of slots m)) (rows_in m)) (server_of s slots m)
acted_in_lem s slots m e k h p w =
    let n : length (slots_of slots m) ≡ 8 = slots_eight slots m in
    place_acted (server_of s slots m) e k (omega arith) p w
    ∙ ap (λ (x : rules.Slot). acted_in (changes_rows e) k (time_after e s.time) x
    (slot_after e (settings_of s.settings) (live_in (slots_of slots m)) (rows_in m) x)
    (rows_changed e (settings_of s.settings) (live_in (slots_of slots m)) (rows_in m)) (server_of s slots m)) (slot_of_lem s slots m k h)

-- what it leaves of slot k, which was x, and of the rows, before they are swept
abbrev pub LeavesBy : Event → Server → List Slot → ℕ → Slot → List ℕ → List ℕ → Slot → Type 0
LeavesBy e s slots k x before after r =
    let y = slot_after e (settings_of s.settings) (live_in (slots_of slots before)) (rows_in before) (slot_with x k before) in
    Leaves k y (cleared_if (enters x.link.alignment y.link.alignment) k
    (rows_changed e (settings_of s.settings) (live_in (slots_of slots before)) (rows_in before))) before after r

-- so the server at its end is that of the event
pub closes_acted : (s r : Server) (slots slots' : List Slot) (before after last : List ℕ) (e : Event) (k now : ℕ) (y : Slot) → k < 8 → place_of e ≡ in_slot k → empties_in e
    ≡ in_slot k
    → now ≡ time_after e s.time → LeavesBy e s slots k (slot_in slots k) before after y
    → server_of r slots' last ≡ ended (sweeps_at (changes_rows e) slots k y) k now (slot_with y k after) (server_of s slots after)
    → server_of r slots' last ≡ acted (server_of s slots before) e
closes_acted s r slots slots' before after last e k now y h p w t l c =
    let new : rules.Slot = slot_after e (settings_of s.settings) (live_in (slots_of slots before)) (rows_in before) (slot_now slots k before) in
    let rows : List Row = rows_changed e (settings_of s.settings) (live_in (slots_of slots before)) (rows_in before) in
    closes l h (changes_rows e) s r slots slots' now last c
    ∙ ap (λ (u : ℕ). acted_in (changes_rows e) k u (slot_now slots k before) new rows (server_of s slots before)) t
    ∙ sym (acted_in_lem s slots before e k h p w)

-- the same, of what a function leaves that ends an event
pub ends_acted : (s : Server) (slots slots' : List Slot) (before after last : List ℕ) (e : Event) (k now : ℕ) (from : Alignment) (r : Server) → k < 8 → place_of e
    ≡ in_slot k → empties_in e ≡ in_slot k
    → now ≡ time_after e s.time → (slot_in slots k).link.alignment ≡ from → ((j : ℕ) → (j ≡ k → ⊥) → slot_in slots' j ≡ slot_in slots j)
    → LeavesBy e s slots k (slot_in slots k) before after (slot_in slots' k) → Closes (changes_rows e) from s slots' k now after last r
    → server_of r slots' last ≡ acted (server_of s slots before) e
ends_acted s slots slots' before after last e k now from r h p w t f o l c =
    closes_acted s r slots slots' before after last e k now (slot_in slots' k) h p w t l (c slots f o)
