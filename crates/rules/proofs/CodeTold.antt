-- What the code of an event that counts tells, and that of settings that are accepted.
-- Assumes nothing.
use Prim.Native.Nat.{ℕ, zero, suc}
use mathlib.Core.Path.{◌≡◌, refl, sym, ◌∙◌}
use mathlib.Core.Bool.{Bool, true, false, not, ◌&&◌, ◌||◌, or-false as or_none, false≢true}
use mathlib.Core.List.{List, [], ◌∷◌}
use native.Mathlib.Omega.{arith}
use lib.Dec.{eqb, ltb}
use lib.ListN.{length}
use borrow.Author.Tests.{eqb-true, ne_eqb, not-false}
use Rattle.laws.specs.Choice.{pick}
use Rattle.laws.specs.Tables.{has, same}
use Rattle.laws.proofs.Bools.{and_true, or_false}
use Rattle.protocol.specs.declared.Alignment.{Alignment}
use Rattle.protocol.specs.declared.Alignment.TheVariants.{Down, Negotiate, Summarize, Update, Aligned}
use Rattle.protocol.specs.Sizes.{id_length}
use Rattle.protocol.specs.Messages.{Message}
use Rattle.protocol.specs.Reading.{malformed, message, read_packet}
use Rattle.protocol.proofs.Codes.{reads_malformed}
use Rattle.rules.specs.Server.{slots_most, Settings, settings_code, Row, is_free, Server, slot_at}
use Rattle.rules.specs.Links.{is_live, is_past}
use Rattle.rules.specs.Rows.{entry_row}
use Rattle.rules.specs.Refusals.{or_else, early, no_room, link_is_down, link_code, poll_code, is_hello, is_hello_type, no_peer, unusable, message_code, is_peer}
use Rattle.rules.specs.Refusals.{add_peer_code, own_key_good, own_payload_good, own_entry, row_spent, row_purged, row_empty, set_code, withdraw_code, purge_code}
use Rattle.rules.specs.Events.{packet, code_of, counts}
use Rattle.rules.proofs.Stated.{none_stated, slot_missing}
use Rattle.rules.proofs.StatedPacket.{packet_codes}

-- the first of some refusals does not hold where their code is 0, and the code of the others is 0
no_code : (b : Bool) (c rest : ℕ) → pick b (suc c) rest ≡ 0 → (b ≡ false) × (rest ≡ 0)
no_code true c rest h = absurd (omega arith)
no_code false c rest h = (refl, h)

no_three : (a b c : Bool) (x y z : ℕ) → pick a (suc x) (pick b (suc y) (pick c (suc z) 0)) ≡ 0 → (a ≡ false) × (b ≡ false) × (c ≡ false)
no_three a b c x y z h =
    let f = no_code a x (pick b (suc y) (pick c (suc z) 0)) h in
    let g = no_code b y (pick c (suc z) 0) f.1 in
    (f.0, g.0, (no_code c z 0 g.1).0)

or_else_lem : (a b : ℕ) → or_else a b ≡ 0 → b ≡ 0
or_else_lem zero b h = h
or_else_lem (suc a) b h = absurd (omega arith)

-- ---- an ID has its length
id_told : (id : List ℕ) (others : Bool) (rest : ℕ) → pick (not (eqb (length id) id_length) || others) 17 rest ≡ 0 → length id ≡ id_length
id_told id others rest h =
    let wrong : Bool = not (eqb (length id) id_length) in
    eqb-true (length id) id_length (not-false (eqb (length id) id_length) (or_false wrong others (no_code (wrong || others) 16 rest h).0).0)

pub own_told : (c : Settings) → settings_code c ≡ 0 → length c.id ≡ id_length
own_told c h = id_told c.id (eqb c.interval 0 || eqb c.factor 0) 0 h

pub peer_told : (s : Server) (k : ℕ) (id : List ℕ) → eqb (add_peer_code s k id) 0 ≡ true → length id ≡ id_length
peer_told s k id h =
    let others : Bool = (slot_at s k).used || (same id s.settings.id || has (is_peer id) s.slots) in
    id_told id others 0 (no_code (not (ltb k slots_most)) 0 (pick (not (eqb (length id) id_length) || others) 17 0) (eqb-true (add_peer_code s k id) 0 h)).1

-- ---- the slot of an event that counts is in use
present : (a b : Bool) → (a || not b) ≡ false → b ≡ true
present true b e = absurd (false≢true (sym e))
present false true e = refl
present false false e = absurd (false≢true (sym e))

module _ (s : Server) where
  pub in_use : (k : ℕ) → slot_missing s k ≡ false → (slot_at s k).used ≡ true
  in_use k e = present (not (ltb k slots_most)) (slot_at s k).used e

  pub link_in_use : (k now : ℕ) → link_code s k now ≡ 0 → (slot_at s k).used ≡ true
  link_in_use k now e = in_use k ((none_stated (no_peer s k ∷ early s now ∷ []) refl).0 e).0

  pub poll_in_use : (k now room : ℕ) → poll_code s k now room ≡ 0 → (slot_at s k).used ≡ true
  poll_in_use k now room e = in_use k ((none_stated (no_peer s k ∷ early s now ∷ no_room room ∷ link_is_down s k ∷ []) refl).0 e).0

  pub packet_in_use : (k now : ℕ) (p : List ℕ) (room : ℕ) → counts (packet k now p room) (code_of s (packet k now p room)) ≡ true → (slot_at s k).used ≡ true
  packet_in_use k now p room e = by (eqb (code_of s (packet k now p room)) 0) refl (eqb (code_of s (packet k now p room)) 10) refl (is_hello_type p) e where
    by : (a : Bool) → eqb (code_of s (packet k now p room)) 0 ≡ a → (b : Bool) → eqb (code_of s (packet k now p room)) 10 ≡ b → (c : Bool)
        → (a || (b && c)) ≡ true → (slot_at s k).used ≡ true
    by true f b g c h = poll_in_use k now room ((packet_codes s k now p room).code_0.0 (eqb-true (code_of s (packet k now p room)) 0 f)).0
    by false f true g c h = poll_in_use k now room ((packet_codes s k now p room).code_10.0 (eqb-true (code_of s (packet k now p room)) 10 g)).0
    by false f false g c h = absurd (false≢true h)

  -- but a peer is added to one that is not
  pub not_in_use : (k : ℕ) (id : List ℕ) → eqb (add_peer_code s k id) 0 ≡ true → (slot_at s k).used ≡ false
  not_in_use k id h =
      let wrong : Bool = not (eqb (length id) id_length) in
      let others : Bool = same id s.settings.id || has (is_peer id) s.slots in
      let f = (no_code (not (ltb k slots_most)) 0 (pick (wrong || ((slot_at s k).used || others)) 17 0) (eqb-true (add_peer_code s k id) 0 h)).1 in
      (or_false (slot_at s k).used others (or_false wrong ((slot_at s k).used || others) (no_code (wrong || ((slot_at s k).used || others)) 16 0 f).0).1).0

-- ---- changes of ours: key and payload are good, and the entry's number is not spent, or not that of a purge
module _ (s : Server) (key : List ℕ) where
  abbrev ours : Row
  ours = entry_row (own_entry s.settings key) s.rows

  pub set_told : (p : List ℕ) → eqb (set_code s key p) 0 ≡ true → ((own_key_good key ≡ true) × (own_payload_good p ≡ true)) × (row_spent ours ≡ false)
  set_told p h =
      let f = no_three (not (own_key_good key && own_payload_good p)) (row_spent ours) (is_free ours && not (has is_free s.rows))
      16 15 14 (eqb-true (set_code s key p) 0 h) in
      (and_true (own_key_good key) (own_payload_good p) (not-false (own_key_good key && own_payload_good p) f.0), f.1)

  pub withdraw_told : eqb (withdraw_code s key) 0 ≡ true → row_spent ours ≡ false
  withdraw_told h = (no_three (not (own_key_good key)) (row_empty ours) (row_spent ours) 16 17 15 (eqb-true (withdraw_code s key) 0 h)).2

  pub purge_told : eqb (purge_code s key) 0 ≡ true → row_purged ours ≡ false
  purge_told h = (no_three (not (own_key_good key)) (is_free ours) (row_purged ours) 16 17 15 (eqb-true (purge_code s key) 0 h)).2

-- ---- a message is usable in its slot
-- its code is not that of a malformed packet
not_malformed : (s : Server) (k now : ℕ) (p : List ℕ) (room : ℕ) (m : Message) → read_packet id_length p ≡ message m → code_of s (packet k now p room) ≡ 10 → ⊥
not_malformed s k now p room m e c =
    let f = (packet_codes s k now p room).code_10.0 c in
    let r : malformed f.1.1.0 ≡ message m = sym (reads_malformed id_length p f.1.1.0 f.1.0 f.1.1.1) ∙ e in
    let z : ◌≡◌ {A = ℕ} 0 1 = cc in absurd (omega arith)

pub message_told : (s : Server) (k now : ℕ) (p : List ℕ) (room : ℕ) (m : Message) → read_packet id_length p ≡ message m
    → counts (packet k now p room) (code_of s (packet k now p room)) ≡ true → unusable s.settings m (slot_at s k) m.body ≡ false
unfolding code_of
message_told s k now p room m e c =
    let n : ℕ = message_code s.settings (slot_at s k) m in
    let t : eqb (code_of s (packet k now p room)) 10 ≡ false = ne_eqb (code_of s (packet k now p room)) 10 (not_malformed s k now p room m e) in
    let y : eqb (code_of s (packet k now p room)) 0 ≡ true = simp or_none at (rw t at c) in
    let z : eqb (or_else (poll_code s k now room) n) 0 ≡ true = rw e at y in
    let a : Bool = not (eqb m.protocol s.settings.protocol && eqb m.group s.settings.group) in
    let b : Bool = not (is_hello m.body) && not (same m.receiver s.settings.id) in
    let d : Bool = not (same m.sender (slot_at s k).peer) in
    let u : Bool = unusable s.settings m (slot_at s k) m.body in
    (no_three b d u 11 12 13
    (no_code a 10 (pick b 12 (pick d 13 (pick u 14 0))) (or_else_lem (poll_code s k now room) n (eqb-true (or_else (poll_code s k now room) n) 0 z))).1).2

-- past Summarize puts go to the slot
pub past_live : (a : Alignment) → not (is_past a) ≡ false → is_live a ≡ true
past_live Down h = sym h
past_live Negotiate h = sym h
past_live (Summarize r) h = refl
past_live Update h = refl
past_live Aligned h = refl
