-- Settings taken and peers added: a fresh server, the code of adding a peer, and what is left of its slot.
-- Assumes nothing.
use Prim.Native.Nat.{ℕ, ◌+◌, ◌≤◌, ◌<◌}
use mathlib.Core.Path.{◌≡◌, sym, ap, ◌∙◌}
use mathlib.Core.Bool.{Bool, true, false, ◌&&◌, ◌||◌}
use mathlib.Core.List.{List, []}
use native.Mathlib.Numerals.{add-one}
use native.Mathlib.Omega.{arith}
use lib.ListN.{length, drop, replicate, drop_of_length-le}
use lib.Seq.{drop-cons}
use borrow.Author.Tests.{lt-ltb, eq-eqb, ne_eqb}
use Rattle.laws.specs.Choice.{pick}
use Rattle.laws.specs.Lists.{table}
use Rattle.laws.specs.Tables.{has, same}
use Rattle.rules.specs.Server.{Row, fresh_slot, fresh, settings_code}
use Rattle.rules.specs.Typed.{TypedSettings}
use Rattle.rules.specs.Refusals.{is_peer, add_peer_code}
use Rattle.rules.specs.Events.{add_peer, peer_slot, acted}
use Rattle.memory.specs.Memory.{rows_in, Memory, memory_of, with_rows, requests_put, kept_put, requests_of, kept_of, fresh_memory}
use Rattle.records.proofs.MemoryLaws.{memory_rows}
use Rattle.slots.specs.declared.state.Settings.{Settings}
use Rattle.slots.specs.declared.state.Slot.{Slot}
use Rattle.slots.specs.declared.state.Server.{Server}
use Rattle.std.specs.Prelude.{Ok}
use Rattle.slots.specs.Codes.{code_number, written_of}
use Rattle.slots.specs.State.{settings_of, slot_of}
use Rattle.table.specs.Slots.{unused, slot_in}
use Rattle.actions.specs.Parts.{Leaves}
use Rattle.actions.proofs.PartLaws.{left_rows}
use Rattle.server.specs.declared.answers.Answer.{Answer}
use Rattle.server.specs.State.{slots_of, server_of, Starts}
use Rattle.server.proofs.ServerLaws.{slots_eight, slot_get, IsPut, slots_put, slots_left}
use Rattle.server.proofs.CodeLaws.{used_is}

-- ---- a fresh server
fresh_slots : (slots : List Slot) (m : List ℕ) → ((k : ℕ) → slot_in slots k ≡ unused) → memory_of m ≡ fresh_memory → slots_of slots m ≡ replicate 8 fresh_slot
unfolding slots_of
fresh_slots slots m e f = λ z. table (λ j. slot_of (e j z) (requests_of (f z) j) (kept_of (f z) j)) 8 0

pub fresh_server : (s : Settings) (slots : List Slot) (m : List ℕ) → ((k : ℕ) → slot_in slots k ≡ unused) → memory_of m ≡ fresh_memory
    → server_of (record { settings = s; time = 0 }) slots m ≡ fresh (settings_of s)
fresh_server s slots m e f = λ z. record {
  settings = settings_of s;
  time = 0;
  slots = fresh_slots slots m e f z;
  rows = (sym (memory_rows m) ∙ ap (λ (t : Memory). t.rows) f) z;
}

-- ---- settings, accepted or not
module _ (s : Settings) (n : length s.id ≡ 4) where
  pub both_set : (s.interval ≡ 0 → ⊥) → (s.factor ≡ 0 → ⊥) → settings_code (settings_of s) ≡ 0
  both_set d e = rw (eq-eqb (length s.id) 4 n, ne_eqb s.interval 0 d, ne_eqb s.factor 0 e)

module _ (s : Settings) (v : Server) (r : Answer) where
  pub starts_so : (slots slots' : List Slot) (before after : List ℕ) → TypedSettings (settings_of s) → settings_code (settings_of s) ≡ 0 → server_of v slots' after
      ≡ fresh (settings_of s)
      → r ≡ record { server = v; outcome = Ok 0 } → Starts s slots slots' before after r
  starts_so slots slots' before after t c f a = record {
    code = ap (λ (x : Answer). code_number x.outcome) a ∙ sym c;
    server = λ _. ap (λ (x : Answer). server_of x.server slots' after) a ∙ f;
    size = ap (λ (x : Answer). written_of x.outcome) a;
    same = λ z. absurd (z c);
    typed = t;
  }

-- ---- a peer looked for, slot by slot
module _ (slots : List Slot) (id : List ℕ) where
  abbrev peer_at : ℕ → Bool
  peer_at k = (slot_in slots k).used && same (slot_in slots k).peer id

  -- the rest from slot k on tells of all
  abbrev pub RestTells : ℕ → Type 0
  RestTells k = (m : List ℕ) → has (is_peer id) (slots_of slots m) ≡ has (is_peer id) (drop k (slots_of slots m))

  module _ (k : ℕ) (h : k < 8) (e : RestTells k) where
    rest_step : (m : List ℕ) → has (is_peer id) (slots_of slots m) ≡ (peer_at k || has (is_peer id) (drop (k + 1) (slots_of slots m)))
    rest_step m =
        let n : length (slots_of slots m) ≡ 8 = slots_eight slots m in
        let l : k < length (slots_of slots m) = omega arith in
        e m ∙ rw (add-one, drop-cons (slots_of slots m) k fresh_slot l, slot_get slots m k h)

    pub peer_here : peer_at k ≡ true → (m : List ℕ) → true ≡ has (is_peer id) (slots_of slots m)
    peer_here t m = sym (rest_step m ∙ ap (λ (b : Bool). b || has (is_peer id) (drop (k + 1) (slots_of slots m))) t)

    pub peer_later : peer_at k ≡ false → RestTells (k + 1)
    peer_later t m = rest_step m ∙ ap (λ (b : Bool). b || has (is_peer id) (drop (k + 1) (slots_of slots m))) t

  pub peer_nowhere : (k : ℕ) → 8 ≤ k → RestTells k → (m : List ℕ) → false ≡ has (is_peer id) (slots_of slots m)
  peer_nowhere k h e m =
      let n : length (slots_of slots m) ≡ 8 = slots_eight slots m in
      let l : length (slots_of slots m) ≤ k = omega arith in
      sym (e m ∙ ap (has (is_peer id)) (drop_of_length-le (slots_of slots m) l))

-- ---- the code of adding a peer
module _ (s : Server) (slots : List Slot) (k : ℕ) (id m : List ℕ) where
  abbrev add_code : ℕ
  add_code = add_peer_code (server_of s slots m) k id

  module _ (h : k < 8) where
    pub add_size : (length id ≡ 4 → ⊥) → 17 ≡ add_code
    add_size n = rw (lt-ltb k 8 h, ne_eqb (length id) 4 n)

    module _ (n : length id ≡ 4) where
      pub add_used : (slot_in slots k).used ≡ true → 17 ≡ add_code
      add_used u = rw (lt-ltb k 8 h, eq-eqb (length id) 4 n, used_is s slots k m h u)

      module _ (u : (slot_in slots k).used ≡ false) where
        pub add_own : same id s.settings.id ≡ true → 17 ≡ add_code
        add_own o = rw (lt-ltb k 8 h, eq-eqb (length id) 4 n, used_is s slots k m h u, o)

        pub add_tried : (b : Bool) → same id s.settings.id ≡ false → b ≡ has (is_peer id) (slots_of slots m) → pick b 17 0 ≡ add_code
        add_tried b o e = rw (lt-ltb k 8 h, eq-eqb (length id) 4 n, used_is s slots k m h u, o, e)

-- ---- the slot: no requests and no kept CA, the rows as they were
pub adds : (s : Server) (slots slots' : List Slot) (k : ℕ) (id a : List ℕ) (y : Slot) (before after : List ℕ) → k < 8 → a ≡ id → slot_of y [] [] ≡ peer_slot a
    → IsPut k y slots slots'
    → memory_of after ≡ kept_put k [] (requests_put k [] (memory_of before)) → server_of s slots' after ≡ acted (server_of s slots before) (add_peer k id)
unfolding acted
adds s slots slots' k id a y before after h q e p m =
    let l : Leaves k (peer_slot id) (rows_in before) before after y =
    record {
      struct = e ∙ ap peer_slot q;
      memory = m
          ∙ ap (λ (r : List Row). kept_put k [] (requests_put k [] (with_rows r (memory_of before)))) (memory_rows before);
    } in
    λ z. record {
      settings = settings_of s.settings;
      time = s.time;
      slots = (slots_put slots slots' after k y h p ∙ slots_left l h slots) z;
      rows = left_rows l z;
    }
