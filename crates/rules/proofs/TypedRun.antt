-- Every list of typed events leaves a typed server.
-- Assumes nothing.
use Prim.Native.Nat.{ℕ, ◌≤◌, ◌<◌}
use mathlib.Core.Path.{◌≡◌, refl, sym, ◌∙◌}
use mathlib.Core.Bool.{Bool, true, false, not, ◌&&◌, ◌||◌, false≢true}
use mathlib.Core.List.{List, [], ◌∷◌}
use mathlib.Core.Logic.{inl}
use native.Mathlib.Omega.{arith}
use lib.Dec.{eqb, ltb, leb}
use lib.ListN as lists
use lib.ListN.{length}
use borrow.Author.Tests.{eqb-true, eqb-false, ltb-true, leb-true, not-false}
use Rattle.laws.specs.Choice.{pick}
use Rattle.laws.specs.Lists.{All}
use Rattle.laws.specs.Tables.{has, same}
use Rattle.protocol.specs.declared.HelloState.TheVariants.{Down as helloDown, Waiting}
use Rattle.std.specs.Prelude.{None}
use Rattle.protocol.specs.Sizes.{id_length, key_most, payload_most}
use Rattle.protocol.specs.Messages.{Message}
use Rattle.protocol.specs.WellFormed.{Octets, WellFormed}
use Rattle.protocol.specs.Reading.{Reading, refused, malformed, message, read_packet}
use Rattle.protocol.proofs.ReadWellFormed.{read_well_formed}
use Rattle.rules.specs.Server.{slots_most, rows_most, Settings, settings_code, Row, free, Slot, fresh_slot, Server, fresh, slot_at}
use Rattle.rules.specs.Links.{is_down, enters, up_move, down_move, malformed_move}
use Rattle.rules.specs.Slots.{moved, hello_sent}
use Rattle.rules.specs.Refusals.{is_peer, own_key_good, own_payload_good, own_entry}
use Rattle.rules.specs.Events.{Event, add_peer, link_up, link_down, packet, poll, set, withdraw, purge, code_of, counts, Place, in_slot, nowhere}
use Rattle.rules.specs.Events.{place_of, live_in, alignment_at, peer_slot, up_slot, down_slot, read_slot, slot_after, slots_after, read_rows, rows_changed}
use Rattle.rules.specs.Events.{empties_in, enters_at, cleared, changes_rows, time_after, acted, server_if, step, run}
use Rattle.rules.proofs.Stated.{both, peer_bad, link_codes, poll_codes, add_peer_codes, set_codes}
use Rattle.rules.proofs.CodeTold.{in_use, packet_in_use}
use Rattle.laws.proofs.Each.{all_at, all_set, all_replicate}
use Rattle.laws.proofs.Bools.{pick_of}
use Rattle.rules.proofs.Typed.{GoodSettings, TypedRow, TypedSlot, TypedServer}
use Rattle.rules.specs.Typed.{TypedSettings, TypedEvent}
use Rattle.rules.proofs.TypedRows.{TypedRows, swept_if_lem, cleared_all, set_all, withdraw_all, purge_all}
use Rattle.rules.proofs.TypedSlots.{SlotFor, slot_for_lem, typed_for, other_good, up_good, timers_kept, moved_kept}
use Rattle.rules.proofs.TypedPeer.{slot_on_lem, rows_on_lem, poll_slot_lem}

-- ---- a fresh server
-- settings that are accepted
pub accepted_settings : (c : Settings) → settings_code c ≡ 0 → TypedSettings c → GoodSettings c
accepted_settings c e t =
    let h = by (eqb (length c.id) id_length) (eqb c.interval 0) (eqb c.factor 0) e in
    record {
      id = record { size = eqb-true (length c.id) id_length h.0; octets = t.id_octets };
      protocol_fits = t.protocol_fits;
      group_fits = t.group_fits;
      some_interval = some c.interval h.1;
      interval_fits = t.interval_fits;
      some_factor = some c.factor h.2;
      factor_fits = t.factor_fits;
    }
  where
    by : (a b d : Bool) → ◌≡◌ {A = ℕ} (pick (not a || (b || d)) 17 0) 0 → (a ≡ true) × (b ≡ false) × (d ≡ false)
    by true true d q = absurd (omega (arith, q))
    by true false true q = absurd (omega (arith, q))
    by true false false q = (refl, refl, refl)
    by false b d q = absurd (omega (arith, q))

    some : (n : ℕ) → eqb n 0 ≡ false → 0 < n
    some n q = omega (arith, eqb-false n 0 q)

fresh_slot_lem : (s : Settings) → TypedSlot s fresh_slot
fresh_slot_lem s = record {
  peer = λ u. absurd (false≢true u);
  link = record { number = omega arith; last = omega arith };
  requests = tt;
  kept = inl refl;
}

pub typed_fresh : (c : Settings) → GoodSettings c → TypedServer (fresh c)
typed_fresh c h = record {
  settings = h;
  time = omega arith;
  slots = all_replicate (TypedSlot c) slots_most fresh_slot (fresh_slot_lem c);
  rows = all_replicate TypedRow rows_most free tt;
}

module _ (s : Server) where
  module _ (ts : TypedServer s) where
    pub slot_typed : (k : ℕ) → TypedSlot s.settings (slot_at s k)
    slot_typed k = all_at (TypedSlot s.settings) s.slots fresh_slot (fresh_slot_lem s.settings) ts.slots k

    pub slot_here : (k : ℕ) → SlotFor s.settings (slot_at s k).peer (slot_at s k)
    slot_here k = slot_for_lem s.settings (slot_at s k) (slot_typed k)

    -- a slot in use changed
    put : (k : ℕ) (y : Slot) → (slot_at s k).used ≡ true → SlotFor s.settings (slot_at s k).peer y → All (TypedSlot s.settings) (lists.set s.slots k y)
    put k y u f =
        all_set (TypedSlot s.settings) s.slots k y (typed_for s.settings (slot_at s k).peer y ((slot_typed k).peer u) f) ts.slots

    -- ---- the slots
    read_slot_lem : (k now : ℕ) (r : Reading) → ((m : Message) → r ≡ message m → WellFormed id_length m) → (slot_at s k).used ≡ true
        → SlotFor s.settings (slot_at s k).peer (read_slot r s.settings (live_in s.slots) k now s.rows (slot_at s k))
    read_slot_lem k now (refused c) w u = slot_here k
    read_slot_lem k now (malformed at) w u =
        moved_kept s.settings (slot_at s k).peer (malformed_move (slot_at s k).link) (slot_at s k)
        (other_good Waiting (slot_at s k).link (slot_here k).link) (slot_here k)
    read_slot_lem k now (message m) w u =
        slot_on_lem s.settings (slot_at s k).peer ts.settings ((slot_typed k).peer u) s.rows ts.rows m.body (live_in s.slots) k now m (slot_at s k)
        (w m refl).body (slot_here k)

    new_peer : (k : ℕ) (id : List ℕ) → Octets id → code_of s (add_peer k id) ≡ 0 → TypedSlot s.settings (peer_slot id)
    new_peer k id o e = record {
      peer = λ u. record { size = by ((add_peer_codes s k id).code_0.0 e).1.0; octets = o };
      link = record { number = omega arith; last = omega arith };
      requests = tt;
      kept = inl refl;
    } where
      first : (a b : Bool) → (not a || b) ≡ false → a ≡ true
      first true b h = refl
      first false b h = absurd (false≢true (sym h))

      by : peer_bad s k id ≡ false → length id ≡ id_length
      by h = eqb-true (length id) id_length
          (first (eqb (length id) id_length) ((slot_at s k).used || (same id s.settings.id || has (is_peer id) s.slots)) h)

    slots_typed : (e : Event) → TypedEvent e → counts e (code_of s e) ≡ true → All (TypedSlot s.settings) (slots_after (place_of e) e s)
    slots_typed (add_peer k id) t c =
        all_set (TypedSlot s.settings) s.slots k (peer_slot id) (new_peer k id t (eqb-true (code_of s (add_peer k id)) 0 c)) ts.slots
    slots_typed (link_up k now) t c =
        let x : Slot = slot_at s k in
        let l = up_move x.link in
        let g = moved_kept s.settings x.peer l x (up_good x.link (slot_here k).link) (slot_here k) in
        put k (up_slot x) (in_use s k ((link_codes s k now).0.code_0.0 (eqb-true (code_of s (link_up k now)) 0 c)).0)
        (pick_of (SlotFor s.settings x.peer) (is_down x.link.hello) (hello_sent None (moved l x)) x
        (timers_kept s.settings x.peer
        (record { hello = None; ca = (moved l x).timers.ca; csus = (moved l x).timers.csus; update = (moved l x).timers.update }) (moved l x) g)
        (slot_here k))
    slots_typed (link_down k now) t c =
        let x : Slot = slot_at s k in
        put k (down_slot x) (in_use s k ((link_codes s k now).1.code_0.0 (eqb-true (code_of s (link_down k now)) 0 c)).0)
        (moved_kept s.settings x.peer (down_move x.link) x (other_good helloDown x.link (slot_here k).link) (slot_here k))
    slots_typed (packet k now p room) t c =
        let u = packet_in_use s k now p room c in
        put k (read_slot (read_packet id_length p) s.settings (live_in s.slots) k now s.rows (slot_at s k)) u
        (read_slot_lem k now (read_packet id_length p) (λ m e. read_well_formed id_length p m t.1 e) u)
    slots_typed (poll k now room) t c =
        let u = in_use s k ((poll_codes s k now room).code_0.0 (eqb-true (code_of s (poll k now room)) 0 c)).0 in
        put k (slot_after (poll k now room) s.settings (live_in s.slots) s.rows (slot_at s k)) u
        (poll_slot_lem s.settings (slot_at s k).peer ts.settings ((slot_typed k).peer u) s.rows ts.rows now k (slot_at s k) (slot_here k))
    slots_typed (set key payload) t c = ts.slots
    slots_typed (withdraw key) t c = ts.slots
    slots_typed (purge key) t c = ts.slots

    -- ---- the rows
    read_rows_lem : (k : ℕ) (r : Reading) → ((m : Message) → r ≡ message m → WellFormed id_length m) → (slot_at s k).used ≡ true
        → TypedRows (read_rows r (live_in s.slots) k s.rows)
    read_rows_lem k (refused c) w u = ts.rows
    read_rows_lem k (malformed at) w u = ts.rows
    read_rows_lem k (message m) w u =
        rows_on_lem s.settings (slot_at s k).peer ts.settings ((slot_typed k).peer u) s.rows ts.rows m.body (live_in s.slots) k (w m refl).body

    lengths_good : (key payload : List ℕ) → not (own_key_good key && own_payload_good payload) ≡ false
        → (0 < length key) × (length key ≤ key_most) × (length payload ≤ payload_most)
    lengths_good key payload e =
        let f = both (own_key_good key) (own_payload_good payload) (not-false (own_key_good key && own_payload_good payload) e) in
        let g = both (ltb 0 (length key)) (leb (length key) key_most) f.0 in
        let h = both (ltb 0 (length payload)) (leb (length payload) payload_most) f.1 in
        (ltb-true 0 (length key) g.0, leb-true (length key) key_most g.1, leb-true (length payload) payload_most h.1)

    rows_typed : (e : Event) → TypedEvent e → counts e (code_of s e) ≡ true → TypedRows (rows_changed e s.settings (live_in s.slots) s.rows)
    rows_typed (add_peer k id) t c = ts.rows
    rows_typed (link_up k now) t c = ts.rows
    rows_typed (link_down k now) t c = ts.rows
    rows_typed (packet k now p room) t c =
        read_rows_lem k (read_packet id_length p) (λ m e. read_well_formed id_length p m t.1 e) (packet_in_use s k now p room c)
    rows_typed (poll k now room) t c = ts.rows
    rows_typed (set key payload) t c =
        let f = (set_codes s key payload).code_0.0 (eqb-true (code_of s (set key payload)) 0 c) in
        let l = lengths_good key payload f.0 in
        set_all (live_in s.slots) (own_entry s.settings key) payload s.rows
        (record { some_key = l.0; key_fits = l.1; key_octets = t.0; originator = ts.settings.id }) l.2 t.1 f.1.0 ts.rows
    rows_typed (withdraw key) t c = withdraw_all (live_in s.slots) (own_entry s.settings key) s.rows ts.rows
    rows_typed (purge key) t c = purge_all (live_in s.slots) (own_entry s.settings key) s.rows ts.rows

    cleared_typed : (q : Place) (after : List Slot) (rows : List Row) → TypedRows rows → TypedRows (cleared q s.slots after rows)
    cleared_typed (in_slot k) after rows g = cleared_all (enters (alignment_at s.slots k) (alignment_at after k)) k rows g
    cleared_typed nowhere after rows g = g

    time_typed : (e : Event) → TypedEvent e → time_after e s.time < 4294967296
    time_typed (add_peer k id) t = ts.time
    time_typed (link_up k now) t = t
    time_typed (link_down k now) t = t
    time_typed (packet k now p room) t = t.0
    time_typed (poll k now room) t = t
    time_typed (set key payload) t = ts.time
    time_typed (withdraw key) t = ts.time
    time_typed (purge key) t = ts.time

    acted_typed : (e : Event) → TypedEvent e → counts e (code_of s e) ≡ true → TypedServer (acted s e)
    unfolding acted
    acted_typed e t c = record {
      settings = ts.settings;
      time = time_typed e t;
      slots = slots_typed e t c;
      rows = let after = slots_after (place_of e) e s in
          let changed = rows_changed e s.settings (live_in s.slots) s.rows in
          swept_if_lem (changes_rows e || enters_at (empties_in e) s.slots after) (cleared (empties_in e) s.slots after changed)
          (cleared_typed (empties_in e) after changed (rows_typed e t c));
    }

pub typed_step : (s : Server) (e : Event) → TypedEvent e → TypedServer s → TypedServer (step s e)
unfolding step
typed_step s e t g = by (counts e (code_of s e)) refl where
  by : (b : Bool) → counts e (code_of s e) ≡ b → TypedServer (server_if b s e)
  by true c = acted_typed s g e t c
  by false c = g

pub typed_run : (s : Server) (es : List Event) → All TypedEvent es → TypedServer s → TypedServer (run s es)
typed_run s [] a g = g
typed_run s (e ∷ es) a g = typed_run (step s e) es a.1 (typed_step s e a.0 g)

-- ---- the settings stay
step_settings : (s : Server) (e : Event) → (step s e).settings ≡ s.settings
unfolding step acted
step_settings s e = by (counts e (code_of s e)) where
  by : (b : Bool) → (server_if b s e).settings ≡ s.settings
  by true = refl
  by false = refl

pub run_settings : (s : Server) (es : List Event) → (run s es).settings ≡ s.settings
run_settings s [] = refl
run_settings s (e ∷ es) = run_settings (step s e) es ∙ step_settings s e
