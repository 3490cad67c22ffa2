-- The invariant holds of a fresh server and after each event, and no event lets an entry's number fall.
-- Assumes nothing.
use Prim.Native.Nat.{ℕ, ◌≤◌}
use mathlib.Core.Path.{◌≡◌, refl, ◌∙◌}
use mathlib.Core.Bool.{Bool, true, false, false≢true}
use mathlib.Core.List.{List, [], ◌∷◌}
use lib.Dec.{ltb, leb}
use lib.Signed.{◌≤ℤ◌, ≤ℤ_refl}
use lib.ListN.{length, length-map, length-replicate, get_or-map}
use borrow.Author.Tests.{ltb-true, leb-true}
use Rattle.laws.proofs.Bools.{and_true, pick_of}
use Rattle.laws.proofs.Cells.{all_alike}
use Rattle.protocol.specs.Sizes.{id_length, key_most, payload_most}
use Rattle.protocol.specs.Messages.{Message, Body, ca, csu_request, csu_reply, csus, hello}
use Rattle.protocol.specs.Reading.{Reading, refused, malformed, message, read_packet}
use Rattle.rules.specs.Server.{slots_most, rows_most, Settings, settings_code, Entry, Row, free, used, holds, waits_for, row_at, fresh_slot, Server}
use Rattle.rules.specs.Server.{slot_at, fresh}
use Rattle.rules.specs.Rows.{to_free, swept_row, swept}
use Rattle.rules.specs.Packets.{rows_on}
use Rattle.rules.specs.Refusals.{unusable, own_key_good, own_payload_good, own_entry}
use Rattle.rules.specs.Events.{Event, add_peer, link_up, link_down, packet, poll, set, withdraw, purge, code_of, counts, place_of, live_in, slots_after}
use Rattle.rules.specs.Events.{read_rows, rows_changed, acted, server_if, step, run}
use Rattle.rules.specs.Demand3.{row_number}
use Rattle.rules.proofs.Relation.{SizedEntry, Sized, RowsInv, Inv}
use Rattle.rules.proofs.RowGrows.{Keep, Grows, grows_refl, grows_trans}
use Rattle.rules.proofs.RowsKeep.{grows_updated, grows_all_replied, grows_answers, grows_set, grows_withdraw, grows_purge, read_sized}
use Rattle.rules.proofs.SlotsKeep.{slots_length, slots_peered, grows_cleared}
use Rattle.rules.proofs.Ends.{swept_freed, changed_rows, rows_at, acted_rows}
use Rattle.rules.proofs.Others.{slots_acted}
use Rattle.rules.proofs.CodeTold.{own_told, set_told, message_told, past_live}

-- ---- what is good has its sizes
own_sized : (s : Settings) (key : List ℕ) → length s.id ≡ id_length → own_key_good key ≡ true → SizedEntry (own_entry s key)
own_sized s key h g =
    let f = and_true (ltb 0 (length key)) (leb (length key) key_most) g in
    record { some_key = ltb-true 0 (length key) f.0; key_fits = leb-true (length key) key_most f.1; originator = h }

payload_sized : (p : List ℕ) → own_payload_good p ≡ true → length p ≤ payload_most
payload_sized p g = leb-true (length p) payload_most (and_true (ltb 0 (length p)) (leb (length p) payload_most) g).1

-- ---- the rows that an event changes
grows_body : (s : Server) (k : ℕ) (p : List ℕ) (m : Message) → RowsInv (live_in s.slots) s.rows → read_packet id_length p ≡ message m
    → (b : Body) → m.body ≡ b → unusable s.settings m (slot_at s k) b ≡ false
    → Grows (live_in s.slots) s.rows (rows_on b (live_in s.slots) k s.rows)
grows_body s k p m v e (hello i f ids) q u = grows_refl (live_in s.slots) s.rows v
grows_body s k p m v e (ca n f rs) q u = grows_refl (live_in s.slots) s.rows v
grows_body s k p m v e (csu_request rs) q u =
    grows_updated (live_in s.slots) k (past_live (slot_at s k).link.alignment u) rs (read_sized p m rs e q)
    (record { rows = s.rows; requests = []; replies = [] }) v
grows_body s k p m v e (csu_reply rs) q u = grows_all_replied (live_in s.slots) k rs s.rows v
grows_body s k p m v e (csus rs) q u =
    grows_answers (live_in s.slots) k (past_live (slot_at s k).link.alignment u) rs s.rows v

grows_read : (s : Server) (k now : ℕ) (p : List ℕ) (room : ℕ) → RowsInv (live_in s.slots) s.rows
    → counts (packet k now p room) (code_of s (packet k now p room)) ≡ true
    → (r : Reading) → read_packet id_length p ≡ r → Grows (live_in s.slots) s.rows (read_rows r (live_in s.slots) k s.rows)
grows_read s k now p room v c (refused n) e = grows_refl (live_in s.slots) s.rows v
grows_read s k now p room v c (malformed at) e = grows_refl (live_in s.slots) s.rows v
grows_read s k now p room v c (message m) e = grows_body s k p m v e m.body refl (message_told s k now p room m e c)

pub grows_changed : (s : Server) (e : Event) → Inv s → counts e (code_of s e) ≡ true
    → Grows (live_in s.slots) s.rows (rows_changed e s.settings (live_in s.slots) s.rows)
unfolding code_of
grows_changed s (add_peer k id) v c = grows_refl (live_in s.slots) s.rows v.rows
grows_changed s (link_up k now) v c = grows_refl (live_in s.slots) s.rows v.rows
grows_changed s (link_down k now) v c = grows_refl (live_in s.slots) s.rows v.rows
grows_changed s (packet k now p room) v c = grows_read s k now p room v.rows c (read_packet id_length p) refl
grows_changed s (poll k now room) v c = grows_refl (live_in s.slots) s.rows v.rows
grows_changed s (set key payload) v c =
    let f = set_told s key payload c in
    grows_set (live_in s.slots) (own_entry s.settings key) s.rows v.rows payload (payload_sized payload f.0.1)
    (own_sized s.settings key v.own f.0.0)
grows_changed s (withdraw key) v c = grows_withdraw (live_in s.slots) (own_entry s.settings key) s.rows v.rows
grows_changed s (purge key) v c = grows_purge (live_in s.slots) (own_entry s.settings key) s.rows v.rows

-- ---- the sweep: a row is as it was, or free
pub data Swept (r : Row) : Row → Type 0 where
  stays : Swept r r
  freed : Swept r free

swept_row_lem : (r : Row) → Swept r (swept_row r)
swept_row_lem r = pick_of (Swept r) (to_free r) free r freed stays

pub swept_at : (rows : List Row) (i : ℕ) → Swept (row_at rows i) (row_at (swept rows) i)
swept_at rows i = rw (get_or-map swept_row rows i free) (swept_row_lem (row_at rows i))

pub swept_holds : (e : Entry) (r q : Row) → Swept r q → holds e q ≡ true → holds e r ≡ true
swept_holds e r q stays h = h
swept_holds e r q freed h = absurd (false≢true h)

swept_waits : (k : ℕ) (r q : Row) → Swept r q → waits_for k q ≡ true → waits_for k r ≡ true
swept_waits k r q stays h = h
swept_waits k r q freed h = absurd (false≢true h)

swept_sized : (r q : Row) → Swept r q → Sized r → Sized q
swept_sized r q stays h = h
swept_sized r q freed h = tt

pub rows_swept : (live : ℕ → Bool) (rows : List Row) → RowsInv live rows → RowsInv live (swept rows)
rows_swept live rows v =
    record {
      size = length-map rows swept_row ∙ v.size;
      once = λ e i j p q. v.once e i j (swept_holds e _ _ (swept_at rows i) p) (swept_holds e _ _ (swept_at rows j) q);
      alive = λ i k h. v.alive i k (swept_waits k _ _ (swept_at rows i) h);
      sized = λ i. swept_sized _ _ (swept_at rows i) (v.sized i);
    }

-- a row kept, and then swept
fallen_not : (e : Entry) (a b c : Row) → Keep a b → Swept b c → holds e a ≡ true → holds e c ≡ true → row_number a ≤ℤ row_number c
fallen_not e free b c k s p q = absurd (false≢true p)
fallen_not e (used f v m) free c k s p q = absurd k
fallen_not e (used f v m) (used g w n) c k stays p q = k.1
fallen_not e (used f v m) (used g w n) c k freed p q = absurd (false≢true q)

-- ---- the server
module _ (s : Server) (e : Event) (v : Inv s) (c : counts e (code_of s e) ≡ true) where
  pub grows_event : Grows (live_in (slots_after (place_of e) e s)) s.rows (rows_at s e)
  grows_event =
      let g = grows_changed s e v c in
      grows_trans s.rows (changed_rows s e) (rows_at s e) g (grows_cleared (place_of e) e s (changed_rows s e) g.inv)

  inv_acted : Inv (acted s e)
  inv_acted =
      record {
        slots = rw (slots_acted s e) (slots_length (place_of e) e s ∙ v.slots);
        own = unfold acted in v.own;
        peers = unfold acted in slots_peered s v.peers e c;
        rows = rw (slots_acted s e, acted_rows s e v c) (rows_swept (live_in (slots_after (place_of e) e s)) (rows_at s e) grows_event.inv);
        freed = rw (acted_rows s e v c) (swept_freed (rows_at s e));
      }

  falls_acted : (x : Entry) (i : ℕ) → holds x (row_at s.rows i) ≡ true → holds x (row_at (acted s e).rows i) ≡ true
      → row_number (row_at s.rows i) ≤ℤ row_number (row_at (acted s e).rows i)
  falls_acted x i p = rw (acted_rows s e v c)
      (λ q. fallen_not x (row_at s.rows i) (row_at (rows_at s e) i) (row_at (swept (rows_at s e)) i) (grows_event.keep i) (swept_at (rows_at s e) i) p q)

inv_by : (s : Server) (e : Event) → Inv s → (b : Bool) → counts e (code_of s e) ≡ b → Inv (server_if b s e)
inv_by s e v true c = inv_acted s e v c
inv_by s e v false c = v

pub inv_step : (s : Server) (e : Event) → Inv s → Inv (step s e)
unfolding step
inv_step s e v = inv_by s e v (counts e (code_of s e)) refl

pub inv_run : (s : Server) (es : List Event) → Inv s → Inv (run s es)
inv_run s [] v = v
inv_run s (e ∷ es) v = inv_run (step s e) es (inv_step s e v)

falls_by : (s : Server) (e : Event) → Inv s → (x : Entry) (i : ℕ) (b : Bool) → counts e (code_of s e) ≡ b → holds x (row_at s.rows i) ≡ true
    → holds x (row_at (server_if b s e).rows i) ≡ true → row_number (row_at s.rows i) ≤ℤ row_number (row_at (server_if b s e).rows i)
falls_by s e v x i true c p q = falls_acted s e v c x i p q
falls_by s e v x i false c p q = ≤ℤ_refl (row_number (row_at s.rows i))

-- an entry that is in its row before and after an event has a number that did not fall
pub falls_not : (s : Server) → Inv s → (e : Event) (x : Entry) (i : ℕ) → holds x (row_at s.rows i) ≡ true → holds x (row_at (step s e).rows i) ≡ true
    → row_number (row_at s.rows i) ≤ℤ row_number (row_at (step s e).rows i)
unfolding step
falls_not s v e x i p q = falls_by s e v x i (counts e (code_of s e)) refl p q

-- ---- a fresh server
pub inv_fresh : (c : Settings) → settings_code c ≡ 0 → Inv (fresh c)
inv_fresh c h =
    record {
      slots = length-replicate slots_most fresh_slot;
      own = own_told c h;
      peers = λ k. rw (all_alike fresh_slot slots_most k) (record { id = λ u. absurd (false≢true u); none = λ _. refl });
      rows = record {
        size = length-replicate rows_most free;
        once = λ e i j p q. absurd (false≢true (rw (all_alike free rows_most i) at p));
        alive = λ i k w. absurd (false≢true (rw (all_alike free rows_most i) at w));
        sized = λ i. rw (all_alike free rows_most i) tt;
      };
      freed = λ i. rw (all_alike free rows_most i) refl;
    }
