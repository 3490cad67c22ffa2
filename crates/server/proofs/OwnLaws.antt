-- Changes of our own entries: what the rows hold of an entry, the codes, and what a taken change leaves.
-- Assumes nothing.
use Prim.Native.Nat.{ℕ, suc}
use mathlib.Core.Path.{◌≡◌, refl, sym, ap, ◌∙◌, subst}
use mathlib.Core.Bool.{Bool, true, false, not}
use mathlib.Core.List.{List, [], ◌∷◌}
use native.Mathlib.Omega.{arith}
use lib.Dec.{eqb, ltb, leb}
use lib.ListN.{length}
use borrow.Author.Tests.{ltb-true, leb-true, eqb-false, ne_eqb}
use Rattle.laws.specs.Choice.{pick}
use Rattle.laws.specs.Lists.{is_empty}
use Rattle.laws.specs.Tables.{has}
use Rattle.laws.proofs.Bools.{and_true}
use Rattle.protocol.specs.Numbers.{spent}
use Rattle.rules.specs.Server as rules
use Rattle.rules.specs.Server.{Entry, Row, is_free, holds}
use Rattle.rules.specs.Rows.{entry_row, is_purged, swept}
use Rattle.rules.specs.Updates.{set_rows, withdraw_rows, purge_rows}
use Rattle.rules.specs.Sent.{octets_of}
use Rattle.rules.specs.Refusals.{own_key_good, own_payload_good, own_entry, row_spent, row_purged, row_empty, set_code, withdraw_code, purge_code}
use Rattle.rules.specs.Events as events
use Rattle.rules.specs.Events.{Event, live_in, code_of, acted, sent_by}
use Rattle.memory.specs.Memory.{value_at, rows_in, Memory, memory_of, with_rows}
use Rattle.memory.specs.Search.{place_found, FitsKey, first_from}
use Rattle.memory.specs.Entries.{rows_as}
use Rattle.std.specs.Prelude.{Option, Some, None, IfOk, ok_or}
use Rattle.protocol.specs.declared.Index.{Index}
use Rattle.slots.specs.declared.answers.Failure.TheVariants.{NoEntry}
use Rattle.memory.proofs.RowPlaces.{used_row}
use Rattle.laws.proofs.Cells.{find_none}
use Rattle.memory.proofs.SearchLaws.{find_first}
use Rattle.memory.proofs.RowLaws.{found_first, found_row, has_none}
use Rattle.records.proofs.MemoryLaws.{rows_are}
use Rattle.slots.specs.declared.state.Server.{Server}
use Rattle.slots.specs.declared.answers.Failure.{Failure}
use Rattle.std.specs.Prelude.{Result, Ok, Err}
use Rattle.slots.specs.Codes.{failure_number, code_number, written_of}
use Rattle.slots.proofs.Laws.{refused_code}
use Rattle.slots.specs.State.{settings_of}
use Rattle.server.specs.declared.answers.Answer.{Answer}
use Rattle.server.specs.State.{slots_of, server_of, Steps}
use Rattle.server.specs.Events.{own_code, IsOwn}
use Rattle.server.proofs.ServerLaws.{slots_same}
use Rattle.server.proofs.DoesLaws.{does_taken}
use Rattle.slots.specs.declared.state.Slot.{Slot}

-- ---- the row of an entry
no_length : (l : List ℕ) → eqb (length l) 0 ≡ is_empty l
no_length [] = refl
no_length (x ∷ l) = ne_eqb (suc (length l)) 0 (λ q. omega arith)

module _ (e : Entry) (m : List ℕ) where
  pub row_found : (i : ℕ) → first_from (holds e) 0 (rows_in m) ≡ Some i → entry_row e (rows_in m) ≡ used_row m i
  row_found i at = find_first (holds e) (rows_in m) i (found_first (holds e) (rows_in m) i at) ∙ found_row m e i at

  pub row_none : first_from (holds e) 0 (rows_in m) ≡ None → entry_row e (rows_in m) ≡ rules.free
  row_none none = find_none rules.free (holds e) (rows_in m) (has_none (holds e) (rows_in m) none)

-- ---- the size of a key, of a payload
-- ---- the codes
module _ (s : rules.Server) (key : List ℕ) where
  pub set_key : (p : List ℕ) → own_key_good key ≡ false → 17 ≡ set_code s key p
  set_key p h = rw h

  module _ (good : own_key_good key ≡ true) where
    pub set_payload : (p : List ℕ) → own_payload_good p ≡ false → 17 ≡ set_code s key p
    set_payload p h = rw (good, h)

module _ (s : Server) (slots : List Slot) (m key : List ℕ) where
  abbrev here : rules.Server
  here = server_of s slots m

  abbrev our_entry : Entry
  our_entry = own_entry (settings_of s.settings) key

  module _ (good : own_key_good key ≡ true) where
    -- none holds it
    module _ (none : first_from (holds our_entry) 0 (rows_in m) ≡ None) where
      pub set_none : (p : List ℕ) → own_payload_good p ≡ true → {b : Bool} → has is_free (rows_in m) ≡ b → pick b 0 15 ≡ set_code here key p
      set_none p fits {b = true} f = rw (good, fits, row_none our_entry m none, f)
      set_none p fits {b = false} f = rw (good, fits, row_none our_entry m none, f)

    -- row i does
    module _ (i : ℕ) (at : first_from (holds our_entry) 0 (rows_in m) ≡ Some i) where
      pub set_held : (p : List ℕ) → own_payload_good p ≡ true → {b : Bool} → spent (value_at m i).number ≡ b → pick b 16 0 ≡ set_code here key p
      set_held p fits {b} f = rw (good, fits, row_found our_entry m i at, f)

-- the row of our entry, as it was looked for
module _ (s : Server) (m key : List ℕ) where
  abbrev our_code : ℕ
  our_code = own_code (settings_of s.settings) key (rows_in m)

  pub own_key : own_key_good key ≡ false → 17 ≡ our_code
  own_key h = rw h

  pub own_found : own_key_good key ≡ true → (found : Option (Index 64)) (r : Result (Index 64) Failure)
      → place_found found ≡ first_from (holds (own_entry (settings_of s.settings) key)) 0 (rows_in m) → r ≡ ok_or found NoEntry
      → (code_number r ≡ our_code) × IfOk r (λ i. IsOwn (settings_of s.settings) key m i.at)
  own_found good (Some i) r e t = (
    ap code_number t ∙ rw (good, row_found (own_entry (settings_of s.settings) key) m i.at (sym e)),
    subst (λ (x : Result (Index 64) Failure). IfOk x (λ i. IsOwn (settings_of s.settings) key m i.at)) (sym t) (sym e),
  )
  own_found good None r e t = (
    ap code_number t ∙ rw (good, row_none (own_entry (settings_of s.settings) key) m (sym e)),
    subst (λ (x : Result (Index 64) Failure). IfOk x (λ i. IsOwn (settings_of s.settings) key m i.at)) (sym t) tt,
  )

-- where no row was found, so is the code of the change
withdraw_stops : (a : Bool) (r : Row) (n rest : ℕ) → n ≡ pick a 17 (pick (is_free r) 18 0) → (n ≡ 0 → ⊥) → n ≡ pick a 17 (pick (row_empty r) 18 rest)
withdraw_stops true r n rest e z = e
withdraw_stops false rules.free n rest e z = e
withdraw_stops false (rules.used x v k) n rest e z = absurd (z e)

purge_stops : (a : Bool) (r : Row) (n rest : ℕ) → n ≡ pick a 17 (pick (is_free r) 18 0) → (n ≡ 0 → ⊥) → n ≡ pick a 17 (pick (is_free r) 18 rest)
purge_stops true r n rest e z = e
purge_stops false rules.free n rest e z = e
purge_stops false (rules.used x v k) n rest e z = absurd (z e)

good_told : (b c : Bool) → ◌≡◌ {A = ℕ} 0 (pick (not b) 17 (pick c 18 0)) → b ≡ true
good_told true c e = refl
good_told false c e = absurd (omega arith)

module _ (s : Server) (slots : List Slot) (m key : List ℕ) where
  abbrev own : ℕ
  own = own_code (settings_of s.settings) key (rows_in m)

  abbrev ours : Entry
  ours = own_entry (settings_of s.settings) key

  module _ (f : Failure) (e : failure_number f ≡ own) where
    some : failure_number f ≡ 0 → ⊥
    some = eqb-false (failure_number f) 0 (sym (refused_code {A = ℕ} (Err f) refl))

    pub withdraw_refused : failure_number f ≡ withdraw_code (server_of s slots m) key
    withdraw_refused =
        let r : Row = entry_row ours (rows_in m) in
        withdraw_stops (not (own_key_good key)) r (failure_number f) (pick (row_spent r) 16 0) e some

    pub purge_refused : failure_number f ≡ purge_code (server_of s slots m) key
    purge_refused =
        let r : Row = entry_row ours (rows_in m) in
        purge_stops (not (own_key_good key)) r (failure_number f) (pick (row_purged r) 16 0) e some

  module _ (i : ℕ) (z : 0 ≡ own) (at : IsOwn (settings_of s.settings) key m i) where
    good : own_key_good key ≡ true
    good = good_told (own_key_good key) (is_free (entry_row ours (rows_in m))) z

    pub withdraw_empty : (p : List ℕ) → p ≡ (value_at m i).payload → eqb (length p) 0 ≡ true → 18 ≡ withdraw_code (server_of s slots m) key
    withdraw_empty p q n = rw (good, row_found ours m i at, sym (no_length (value_at m i).payload), sym (ap length q), n)

    pub withdraw_goes : (p : List ℕ) → p ≡ (value_at m i).payload → eqb (length p) 0 ≡ false → {b : Bool} → spent (value_at m i).number ≡ b
        → pick b 16 0 ≡ withdraw_code (server_of s slots m) key
    withdraw_goes p q n {b} f =
        rw (good, row_found ours m i at, sym (no_length (value_at m i).payload), sym (ap length q), n, f)

    pub purge_goes : {b : Bool} → is_purged (value_at m i).number ≡ b → pick b 16 0 ≡ purge_code (server_of s slots m) key
    purge_goes {b} f = rw (good, row_found ours m i at, f)

-- ---- the name of our entry
pub key_room_lem : (key id : List ℕ) → own_key_good key ≡ true → length id ≡ 4 → FitsKey key id
key_room_lem key id g n =
    let k = and_true (ltb 0 (length key)) (leb (length key) 16) g in
    ((omega (arith, ltb-true 0 (length key) k.0), leb-true (length key) 16 k.1), n)

-- what was found for an entry was found for its equal
pub found_same : (found : Option ℕ) (m : List ℕ) (x y : Entry) → x ≡ y → found ≡ first_from (holds x) 0 (rows_in m) → found ≡ first_from (holds y) 0 (rows_in m)
found_same found m x y e f = f ∙ ap (λ (z : Entry). first_from (holds z) 0 (rows_in m)) e

-- ---- a taken change
-- the rows are changed, then swept
pub swept_after : (f : (ℕ → Bool) → List Row → List Row) (s t u : List ℕ) (marks live : ℕ → Bool) → marks ≡ live → memory_of t ≡ rows_as (f marks) s
    → memory_of u ≡ with_rows (swept (rows_in t)) (memory_of t) → memory_of u ≡ rows_as (λ rows. swept (f live rows)) s
swept_after f s t u marks live l e g =
    g ∙ (λ z. with_rows (swept (rows_are s t (f marks (rows_in s)) e z)) (e z)) ∙ ap (λ (m : ℕ → Bool). rows_as (λ rows. swept (f m rows)) s) l

-- the slots stay
abbrev with_own : Server → List Slot → List ℕ → List Row → rules.Server
with_own s slots m rows = record { settings = settings_of s.settings; time = s.time; slots = slots_of slots m; rows = rows }

own_server : (s : Server) (slots : List Slot) (before after : List ℕ) (rows : List Row) → memory_of after ≡ with_rows rows (memory_of before)
    → server_of s slots after ≡ with_own s slots before rows
own_server s slots before after rows e =
    let same = slots_same slots before after (ap (λ (m : Memory). m.requests) e) (ap (λ (m : Memory). m.kept) e) in
    λ z. record { settings = settings_of s.settings; time = s.time; slots = same z; rows = rows_are before after rows e z }

module _ (s : Server) (slots : List Slot) (before after key : List ℕ) {A : Type 0} {x : A} (o : Result A Failure) (r : Answer) (t : o ≡ Ok x)
    (a : r ≡ record { server = s; outcome = Ok 0 }) where
  own_does : (e : Event) (rows : List Row) → code_number o ≡ code_of (server_of s slots before) e → memory_of after ≡ with_rows rows (memory_of before)
      → with_own s slots before rows ≡ acted (server_of s slots before) e → 0 ≡ length (octets_of (sent_by (server_of s slots before) e))
      → Steps e s slots slots before after r
  own_does e rows c m does none =
      does_taken e s slots before o slots after r c t (ap (λ (x : Answer). code_number x.outcome) a)
      (ap (λ (x : Answer). server_of x.server slots after) a ∙ own_server s slots before after rows m ∙ does)
      (ap (λ (x : Answer). written_of x.outcome) a ∙ none)

  abbrev live : ℕ → Bool
  live = live_in (slots_of slots before)

  abbrev our : Entry
  our = own_entry (settings_of s.settings) key

  -- x is the entry that the name tells
  pub set_does : (p : List ℕ) (x : Entry) → x ≡ our → code_number o ≡ set_code (server_of s slots before) key p
      → memory_of after ≡ rows_as (λ rows. swept (set_rows live x p rows)) before → Steps (events.set key p) s slots slots before after r
  unfolding code_of acted
  set_does p x e c m =
      own_does (events.set key p) (swept (set_rows live our p (rows_in before))) c
      (m ∙ ap (λ (y : Entry). rows_as (λ rows. swept (set_rows live y p rows)) before) e) refl refl

  pub withdraw_does : code_number o ≡ withdraw_code (server_of s slots before) key
      → memory_of after ≡ rows_as (λ rows. swept (withdraw_rows live our rows)) before
      → Steps (events.withdraw key) s slots slots before after r
  unfolding code_of acted
  withdraw_does c m = own_does (events.withdraw key) (swept (withdraw_rows live our (rows_in before))) c m refl refl

  pub purge_does : code_number o ≡ purge_code (server_of s slots before) key → memory_of after ≡ rows_as (λ rows. swept (purge_rows live our rows)) before
      → Steps (events.purge key) s slots slots before after r
  unfolding code_of acted
  purge_does c m = own_does (events.purge key) (swept (purge_rows live our (rows_in before))) c m refl refl
