-- What an event leaves of the slots: their number, the lengths of the peers' IDs, the slots that are live; and the marks of the one that it moves.
-- Assumes nothing.
use Prim.Native.Nat.{ℕ}
use mathlib.Core.Path.{◌≡◌, refl, sym, ap, ◌∙◌}
use mathlib.Core.Bool.{Bool, true, false, ◌&&◌, false≢true}
use mathlib.Core.List.{List, []}
use native.Mathlib.Decide.{ℕ_discrete}
use lib.Dec.{eqb}
use lib.Seq.{get_or-set_other}
use lib.ListN.{length, get_or, length-set, get_or-map}
use lib.ListN as lists
use borrow.Author.Tests.{eqb-true, eqb-false}
use Rattle.laws.specs.Choice.{pick}
use Rattle.laws.proofs.Bools.{pick_of}
use Rattle.laws.proofs.Cells.{each_set}
use Rattle.protocol.specs.declared.Alignment.{Alignment}
use Rattle.protocol.specs.declared.Alignment.TheVariants.{Down, Negotiate, Summarize, Update, Aligned}
use Rattle.protocol.specs.declared.Link.{Link}
use Rattle.protocol.specs.Sizes.{id_length}
use Rattle.protocol.specs.Messages.{Message, Body, ca, csu_request, csu_reply, csus, hello}
use Rattle.protocol.specs.Reading.{Reading, refused, malformed, message, read_packet}
use Rattle.rules.specs.Server.{Settings, Row, free, used, row_at, Slot, fresh_slot, Server, slot_at}
use Rattle.rules.specs.Links.{CaRule, refuse_ca, become_slave, become_master, repeat, slave_on, master_on, master_done, ignore, restart, is_down, is_live}
use Rattle.rules.specs.Links.{is_past, enters, up_move, down_move, hello_move, malformed_move, ca_move, check_move}
use Rattle.rules.specs.Rows.{unmarked, cleared_if}
use Rattle.rules.specs.Slots.{passed, with_link, with_kept, emptied, moved, hello_sent}
use Rattle.rules.specs.Alignment.{CaPacket, ca_packet, rule_for, answer_more, ca_slot}
use Rattle.rules.specs.Packets.{names_us, slot_on}
use Rattle.rules.specs.Poll.{Due, nothing_due, a_hello, first_ca, kept_ca, a_csus, an_update, ca_interval, due_of, due_slot, kept_dropped, checked, poll_slot}
use Rattle.rules.specs.Refusals.{link_code, poll_code}
use Rattle.rules.specs.Events.{Event, add_peer, link_up, link_down, packet, poll, set, withdraw, purge, code_of, counts, Place, in_slot, nowhere}
use Rattle.rules.specs.Events.{alignment_at, place_of, live_in, peer_slot, up_slot, down_slot, read_slot, slot_after, slots_after, cleared}
use Rattle.rules.proofs.Relation.{Alive, RowsInv, Peered}
use Rattle.rules.proofs.RowGrows.{Grows, grows_refl, grows_unmarked, keep_refl}
use Rattle.rules.proofs.CodeTold.{peer_told, link_in_use, poll_in_use, packet_in_use}

-- ---- the same peer, or none
abbrev pub SamePeer : Slot → Slot → Type 0
SamePeer x y = (y.used ≡ x.used) × (y.peer ≡ x.peer)

same_moved : (l : Link) (x : Slot) → SamePeer x (moved l x)
same_moved l x = pick_of (SamePeer x) (enters x.link.alignment l.alignment) (emptied (with_link l x)) (with_link l x) (refl, refl) (refl, refl)

same_ca : (u : CaRule) (s : Settings) (now : ℕ) (rows : List Row) (c : CaPacket) (x : Slot) → SamePeer x (ca_slot u s now rows c x)
same_ca refuse_ca s now rows c x = (refl, refl)
same_ca become_slave s now rows c x = same_moved (ca_move become_slave c.seen (answer_more become_slave rows x) x.link) x
same_ca become_master s now rows c x = same_moved (ca_move become_master c.seen (answer_more become_master rows x) x.link) x
same_ca repeat s now rows c x = (refl, refl)
same_ca slave_on s now rows c x = same_moved (ca_move slave_on c.seen (answer_more slave_on rows x) x.link) x
same_ca master_on s now rows c x = same_moved (ca_move master_on c.seen (answer_more master_on rows x) x.link) x
same_ca master_done s now rows c x = same_moved (ca_move master_done c.seen (answer_more master_done rows x) x.link) x
same_ca ignore s now rows c x = (refl, refl)
same_ca restart s now rows c x = same_moved (ca_move restart c.seen false x.link) x

same_on : (b : Body) (s : Settings) (live : ℕ → Bool) (k now : ℕ) (rows : List Row) (m : Message) (x : Slot) → SamePeer x (slot_on b s live k now rows m x)
same_on (hello i f ids) s live k now rows m x = same_moved (hello_move now i f (names_us s.id m.receiver ids) x.link) x
same_on (ca n f rs) s live k now rows m x = same_ca (rule_for s.id (ca_packet n f rs m.sender) x) s now rows (ca_packet n f rs m.sender) x
same_on (csu_request rs) s live k now rows m x = (refl, refl)
same_on (csu_reply rs) s live k now rows m x = (refl, refl)
same_on (csus rs) s live k now rows m x = (refl, refl)

same_read : (r : Reading) (s : Settings) (live : ℕ → Bool) (k now : ℕ) (rows : List Row) (x : Slot) → SamePeer x (read_slot r s live k now rows x)
same_read (refused c) s live k now rows x = (refl, refl)
same_read (malformed at) s live k now rows x = same_moved (malformed_move x.link) x
same_read (message m) s live k now rows x = same_on m.body s live k now rows m x

same_by : (d : Due) (s : Settings) (now : ℕ) (rows : List Row) (k : ℕ) (x : Slot) → SamePeer x (due_slot d s now rows k x)
same_by nothing_due s now rows k x = (refl, refl)
same_by a_hello s now rows k x = (refl, refl)
same_by first_ca s now rows k x = (refl, refl)
same_by kept_ca s now rows k x = (refl, refl)
same_by a_csus s now rows k x = (refl, refl)
same_by an_update s now rows k x = (refl, refl)

same_dropped : (now : ℕ) (x : Slot) → SamePeer x (kept_dropped now x)
same_dropped now x = pick_of (SamePeer x) (is_past x.link.alignment && passed ca_interval x.timers.ca now) (with_kept [] x) x (refl, refl) (refl, refl)

same_trans : (x y z : Slot) → SamePeer x y → SamePeer y z → SamePeer x z
same_trans x y z p q = (q.0 ∙ p.0, q.1 ∙ p.1)

same_poll : (s : Settings) (now : ℕ) (rows : List Row) (k : ℕ) (x : Slot) → SamePeer x (poll_slot s now rows k x)
same_poll s now rows k x =
    let y : Slot = kept_dropped now (checked now x) in
    same_trans x y (poll_slot s now rows k x) (same_trans x (checked now x) y (same_moved (check_move now x.link) x) (same_dropped now (checked now x)))
    (same_by (due_of s now rows k y) s now rows k y)

same_up : (x : Slot) → SamePeer x (up_slot x)
same_up x = pick_of (SamePeer x) (is_down x.link.hello) (hello_sent _ (moved (up_move x.link) x)) x (same_moved (up_move x.link) x) (refl, refl)

-- ---- all slots
pub slots_length : (w : Place) (e : Event) (s : Server) → length (slots_after w e s) ≡ length s.slots
slots_length (in_slot k) e s = length-set s.slots k (slot_after e s.settings (live_in s.slots) s.rows (slot_at s k))
slots_length nowhere e s = refl

module _ (s : Server) (h : (j : ℕ) → Peered (slot_at s j)) where
  -- a slot in use stays in use, with its peer
  kept_peer : (k : ℕ) (y : Slot) → (slot_at s k).used ≡ true → SamePeer (slot_at s k) y → (j : ℕ) → Peered (get_or (lists.set s.slots k y) j fresh_slot)
  kept_peer k y u e =
      each_set Peered fresh_slot y
      (record { id = λ _. ap length e.1 ∙ (h k).id u; none = λ n. absurd (false≢true (sym n ∙ e.0 ∙ u)) }) s.slots k h

  pub slots_peered : (e : Event) → counts e (code_of s e) ≡ true → (j : ℕ) → Peered (get_or (slots_after (place_of e) e s) j fresh_slot)
  unfolding code_of
  slots_peered (add_peer k id) c =
      each_set Peered fresh_slot (peer_slot id) (record { id = λ _. peer_told s k id c; none = λ _. refl }) s.slots k h
  slots_peered (link_up k now) c =
      kept_peer k (up_slot (slot_at s k)) (link_in_use s k now (eqb-true (link_code s k now) 0 c)) (same_up (slot_at s k))
  slots_peered (link_down k now) c =
      kept_peer k (down_slot (slot_at s k)) (link_in_use s k now (eqb-true (link_code s k now) 0 c)) (same_moved (down_move (slot_at s k).link) (slot_at s k))
  slots_peered (packet k now p room) c =
      kept_peer k (slot_after (packet k now p room) s.settings (live_in s.slots) s.rows (slot_at s k)) (packet_in_use s k now p room c)
      (same_read (read_packet id_length p) s.settings (live_in s.slots) k now s.rows (slot_at s k))
  slots_peered (poll k now room) c =
      kept_peer k (poll_slot s.settings now s.rows k (slot_at s k)) (poll_in_use s k now room (eqb-true (poll_code s k now room) 0 c))
      (same_poll s.settings now s.rows k (slot_at s k))
  slots_peered (set key payload) c = h
  slots_peered (withdraw key) c = h
  slots_peered (purge key) c = h

-- ---- marks: where a slot is no longer live, it entered Down or Negotiate
stays_live : (a b : Alignment) → is_live a ≡ true → enters a b ≡ false → is_live b ≡ true
stays_live Down Down l h = absurd (false≢true l)
stays_live Down Negotiate l h = absurd (false≢true l)
stays_live Negotiate Down l h = absurd (false≢true l)
stays_live Negotiate Negotiate l h = absurd (false≢true l)
stays_live (Summarize r) Down l h = absurd (false≢true (sym h))
stays_live (Summarize r) Negotiate l h = absurd (false≢true (sym h))
stays_live Update Down l h = absurd (false≢true (sym h))
stays_live Update Negotiate l h = absurd (false≢true (sym h))
stays_live Aligned Down l h = absurd (false≢true (sym h))
stays_live Aligned Negotiate l h = absurd (false≢true (sym h))
stays_live a (Summarize r) l h = refl
stays_live a Update l h = refl
stays_live a Aligned l h = refl

module _ (before : List Slot) (k : ℕ) (y : Slot) where
  abbrev after : List Slot
  after = lists.set before k y

  other_live : (j : ℕ) → (j ≡ k → ⊥) → live_in before j ≡ true → live_in after j ≡ true
  other_live j n h = ap (λ (x : Slot). is_live x.link.alignment) (get_or-set_other before k j y fresh_slot n) ∙ h

  still_live : enters (alignment_at before k) (alignment_at after k) ≡ false → (j : ℕ) → Dec (j ≡ k) → live_in before j ≡ true → live_in after j ≡ true
  still_live e j (yes z) h = rw z (stays_live (alignment_at before k) (alignment_at after k) (rw z at h) e)
  still_live e j (no z) h = other_live j z h

  unmarked_by : (j : ℕ) (m : ℕ → Bool) (b : Bool) → eqb j k ≡ b → (m j ≡ true → live_in before j ≡ true) → pick b false (m j) ≡ true → live_in after j ≡ true
  unmarked_by j m true q h e = absurd (false≢true e)
  unmarked_by j m false q h e = other_live j (eqb-false j k q) (h e)

  unmarked_alive : (r : Row) → Alive (live_in before) r → Alive (live_in after) (unmarked k r)
  unmarked_alive free h j e = absurd (false≢true e)
  unmarked_alive (used f v m) h j e = unmarked_by j m (eqb j k) refl (h j) e

  cleared_by : (rows : List Row) → RowsInv (live_in before) rows → (b : Bool) → enters (alignment_at before k) (alignment_at after k) ≡ b
      → Grows (live_in after) rows (cleared_if b k rows)
  cleared_by rows v true e =
      let g = grows_unmarked (live_in before) rows v k in
      record {
        inv = record {
          size = g.inv.size;
          once = g.inv.once;
          alive = λ i. rw (get_or-map (unmarked k) rows i free) (unmarked_alive (row_at rows i) (v.alive i));
          sized = g.inv.sized;
        };
        keep = g.keep;
      }
  cleared_by rows v false e =
      record {
        inv = record {
          size = v.size;
          once = v.once;
          alive = λ i j h. still_live e j (ℕ_discrete j k) (v.alive i j h);
          sized = v.sized;
        };
        keep = λ i. keep_refl (row_at rows i);
      }

pub grows_cleared : (w : Place) (e : Event) (s : Server) (rows : List Row) → RowsInv (live_in s.slots) rows
    → Grows (live_in (slots_after w e s)) rows (cleared w s.slots (slots_after w e s) rows)
grows_cleared (in_slot k) e s rows v =
    cleared_by s.slots k (slot_after e s.settings (live_in s.slots) s.rows (slot_at s k)) rows v
    (enters (alignment_at s.slots k) (alignment_at (slots_after (in_slot k) e s) k)) refl
grows_cleared nowhere e s rows v = grows_refl (live_in s.slots) rows v
