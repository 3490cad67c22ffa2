-- The rows of the server are the history's entries, after every event that counts.
-- Assumes nothing.
use Prim.Native.Nat.{ℕ}
use mathlib.Core.Path.{◌≡◌, refl}
use mathlib.Core.Bool.{true, false}
use mathlib.Core.List.{List, [], map}
use Rattle.protocol.specs.Sizes.{id_length}
use Rattle.protocol.specs.Messages.{Message, Body, ca, csu_request, csu_reply, csus, hello}
use Rattle.protocol.specs.Reading.{Reading, refused, malformed, message, read_packet}
use Rattle.rules.specs.Server.{Settings, Row, Slot, Server, slot_at}
use Rattle.rules.specs.Links.{enters}
use Rattle.rules.specs.Packets.{rows_on}
use Rattle.rules.specs.Refusals.{own_entry, unusable}
use Rattle.rules.specs.Events.{Event, add_peer, link_up, link_down, packet, poll, set, withdraw, purge, code_of, counts, Place, in_slot, nowhere}
use Rattle.rules.specs.Events.{place_of, alignment_at, live_in, slots_after, read_rows, rows_changed, cleared, acted, written_at, item_of}
use Rattle.rules.specs.SlotHistory.{SlotHistory, slot_histories_after, live_states}
use Rattle.rules.specs.History.{Known, History, body_entries, read_entries, entries_changed, entries_left, entries_at, note_item}
use Rattle.rules.proofs.Relation.{Inv, seen_of, Sim}
use Rattle.rules.proofs.RowsKeep.{read_sized}
use Rattle.rules.proofs.RowSim.{sim_left_if, sim_swept}
use Rattle.rules.proofs.RowChanges.{sim_updated, sim_answered, sim_sent_for, sim_set, sim_withdraw, sim_purge}
use Rattle.rules.proofs.Ends.{rows_at, acted_rows}
use Rattle.rules.proofs.CodeTold.{set_told, withdraw_told, purge_told, message_told, past_live}
use Rattle.rules.proofs.PastLaws.{live_states_lem, enters_states}

-- ---- what an event changes
module _ (s : Server) (es : List Known) (v : Inv s) (t : Sim s.rows es) where
  sim_body : (k : ℕ) (p : List ℕ) (m : Message) → read_packet id_length p ≡ message m → (b : Body) → m.body ≡ b
      → unusable s.settings m (slot_at s k) b ≡ false
      → Sim (rows_on b (live_in s.slots) k s.rows) (body_entries b (live_in s.slots) k es)
  sim_body k p m e (ca n f rs) eb u = t
  sim_body k p m e (csu_request rs) eb u =
      sim_updated (live_in s.slots) k (past_live (alignment_at s.slots k) u) rs
      (read_sized p m rs e eb) s.rows [] es v.rows t
  sim_body k p m e (csu_reply rs) eb u = sim_answered (live_in s.slots) k rs s.rows es v.rows t
  sim_body k p m e (csus rs) eb u =
      sim_sent_for (live_in s.slots) k (past_live (alignment_at s.slots k) u) rs s.rows es v.rows t
  sim_body k p m e (hello i f ids) eb u = t

  sim_read : (k now : ℕ) (p : List ℕ) (room : ℕ) → counts (packet k now p room) (code_of s (packet k now p room)) ≡ true
      → (r : Reading) → read_packet id_length p ≡ r → Sim (read_rows r (live_in s.slots) k s.rows) (read_entries r (live_in s.slots) k es)
  sim_read k now p room h (refused c) e = t
  sim_read k now p room h (malformed at) e = t
  sim_read k now p room h (message m) e = sim_body k p m e m.body refl (message_told s k now p room m e h)

  pub sim_changed : (e : Event) → counts e (code_of s e) ≡ true
      → Sim (rows_changed e s.settings (live_in s.slots) s.rows) (entries_changed e s.settings (live_in s.slots) es)
  unfolding code_of
  sim_changed (add_peer k id) h = t
  sim_changed (link_up k now) h = t
  sim_changed (link_down k now) h = t
  sim_changed (packet k now p room) h = sim_read k now p room h (read_packet id_length p) refl
  sim_changed (poll k now room) h = t
  sim_changed (set key p) h =
      sim_set (live_in s.slots) (own_entry s.settings key) s.rows es v.rows t p (set_told s key p h).1
  sim_changed (withdraw key) h =
      sim_withdraw (live_in s.slots) (own_entry s.settings key) s.rows es v.rows t [] (withdraw_told s key h)
  sim_changed (purge key) h =
      sim_purge (live_in s.slots) (own_entry s.settings key) s.rows es v.rows t (purge_told s key h)

-- ---- the end of an event
sim_cleared : (x : Place) (before after : List Slot) (rows : List Row) (es : List Known) → Sim rows es
    → Sim (cleared x before after rows) (entries_left x (map seen_of before) (map seen_of after) es)
sim_cleared (in_slot k) before after rows es s =
    rw (enters_states before after k) (sim_left_if (enters (alignment_at before k) (alignment_at after k)) k rows es s)
sim_cleared nowhere before after rows es s = s

-- ---- an event that counts, up to its end and with its end
end_by_lem : (s : Server) (e : Event) (c : Settings) (before after : List SlotHistory) (es : List Known) → Inv s → s.settings ≡ c
    → map seen_of s.slots ≡ before → map seen_of (slots_after (place_of e) e s) ≡ after → Sim s.rows es → counts e (code_of s e) ≡ true
    → Sim (rows_at s e) (entries_left (place_of e) before after (entries_changed e c (live_states before) es))
end_by_lem s e c before after es v ec eb ea t n =
    rw (← ec, ← eb, ← ea, live_states_lem s.slots)
    (sim_cleared (place_of e) s.slots (slots_after (place_of e) e s) (rows_changed e s.settings (live_in s.slots) s.rows)
    (entries_changed e s.settings (live_in s.slots) es) (sim_changed s es v t e n))

module _ (s : Server) (h : History) (c : Settings) (e : Event) (v : Inv s) (ec : s.settings ≡ c) (eb : map seen_of s.slots ≡ h.slots)
    (t : Sim s.rows h.entries) (n : counts e (code_of s e) ≡ true)
    (ea : map seen_of (slots_after (place_of e) e s) ≡ slot_histories_after (place_of e) e c (written_at s e) h.slots) where
  pub sim_end : Sim (rows_at s e) (entries_at c h (item_of s e))
  sim_end = end_by_lem s e c h.slots (slot_histories_after (place_of e) e c (written_at s e) h.slots) h.entries v ec eb ea t n

  pub sim_act : Sim (acted s e).rows (note_item c h (item_of s e)).entries
  sim_act = rw (acted_rows s e v n) (sim_swept (rows_at s e) (entries_at c h (item_of s e)) sim_end)
