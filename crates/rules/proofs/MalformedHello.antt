-- The one malformed Hello that counts (document 01, 'Answers to an event'): 'A Hello refused with 10 sets the time and moves its machine to
-- Waiting, with what follows from that, freed rows too'.
-- Assumes nothing.
use Prim.Native.Nat.{ℕ, zero, suc, ◌<◌}
use mathlib.Core.Path.{◌≡◌, refl, sym, ap, ◌∙◌}
use mathlib.Core.Bool.{true, false, ◌||◌, false≢true}
use mathlib.Core.List.{List, [], ◌∷◌}
use native.Mathlib.Omega.{arith}
use lib.ListN.{length, get_or}
use lib.Seq.{get_or-set_same}
use borrow.Author.Tests.{eq-eqb}
use Rattle.laws.proofs.Bools.{is_false}
use Rattle.protocol.specs.declared.HelloState.TheVariants.{Waiting}
use Rattle.protocol.specs.declared.Alignment.TheVariants.{Down}
use Rattle.protocol.specs.Sizes.{id_length}
use Rattle.protocol.specs.Fields.{octet}
use Rattle.protocol.specs.Reading.{malformed, read_packet}
use Rattle.protocol.proofs.Codes.{reads_malformed}
use Rattle.rules.specs.Server.{fresh_slot, Slot, Server, slot_at, waits_for, row_at}
use Rattle.rules.specs.Links.{is_live, enters, malformed_move}
use Rattle.rules.specs.Rows.{swept_if, cleared_if}
use Rattle.rules.specs.Packets.{slot_malformed}
use Rattle.rules.specs.Refusals.{no_peer, early, no_room, link_is_down}
use Rattle.rules.specs.Events.{Event, packet, code_of, counts, acted, step, written_at, live_in, read_slot, read_rows, read_changes}
use Rattle.rules.proofs.Relation.{Inv}
use Rattle.rules.proofs.Invariant.{inv_step}
use Rattle.rules.proofs.PastLaws.{moved_link}
use Rattle.rules.proofs.CodeTold.{in_use}
use Rattle.rules.proofs.Stated.{none_stated, slot_missing}
use Rattle.rules.proofs.StatedPacket.{packet_codes}

used_within : (slots : List Slot) (k : ℕ) → (get_or slots k fresh_slot).used ≡ true → k < length slots
used_within [] k e = absurd (false≢true e)
used_within (x ∷ xs) zero e = omega arith
used_within (x ∷ xs) (suc k) e = omega (arith, used_within xs k e)

-- 'A Hello refused with 10 sets the time and moves its machine to Waiting, with what follows from that'
pub record ToWaiting (s : Server) (k now : ℕ) (e : Event) : Type 0 where
  pub written : written_at s e ≡ []
  pub time : (step s e).time ≡ now
  pub settings : (step s e).settings ≡ s.settings
  pub slot : slot_at (step s e) k ≡ slot_malformed (slot_at s k)
  pub hello : (slot_at (step s e) k).link.hello ≡ Waiting
  pub alignment : (slot_at (step s e) k).link.alignment ≡ Down
  -- the slot's waiting list is emptied on entering Down, and purged rows that wait for nobody then are freed
  pub rows : (step s e).rows ≡ (let entered = enters (slot_at s k).link.alignment Down in swept_if entered (cleared_if entered k s.rows))

module _ (s : Server) (k now : ℕ) (p : List ℕ) (room : ℕ) where
  abbrev at_hello : Event
  at_hello = packet k now p room

  moved_slot : (at : ℕ) → k < length s.slots → read_packet id_length p ≡ malformed at → slot_at (acted s at_hello) k ≡ slot_malformed (slot_at s k)
  unfolding acted
  moved_slot at l e =
      get_or-set_same s.slots k (read_slot (read_packet id_length p) s.settings (live_in s.slots) k now s.rows (slot_at s k)) fresh_slot l
      ∙ ap (λ r. read_slot r s.settings (live_in s.slots) k now s.rows (slot_at s k)) e

  moved_rows : (at : ℕ) → read_packet id_length p ≡ malformed at → (slot_at (acted s at_hello) k).link.alignment ≡ Down
      → (acted s at_hello).rows ≡ (let entered = enters (slot_at s k).link.alignment Down in swept_if entered (cleared_if entered k s.rows))
  unfolding acted
  moved_rows at e d = λ i.
      let entered = enters (slot_at s k).link.alignment (d i) in
      swept_if (read_changes (e i) || entered) (cleared_if entered k (read_rows (e i) (live_in s.slots) k s.rows))

  pub malformed_hello : code_of s at_hello ≡ 10 → octet p 1 ≡ 5 → ToWaiting s k now at_hello
  unfolding step written_at
  malformed_hello c t =
      let f = (packet_codes s k now p room).code_10.0 c in
      let at : ℕ = f.1.1.0 in
      let r : read_packet id_length p ≡ malformed at = reads_malformed id_length p at f.1.0 f.1.1.1 in
      let n : counts at_hello (code_of s at_hello) ≡ true = rw c (eq-eqb (octet p 1) 5 t) in
      let o : slot_missing s k ≡ false = ((none_stated (no_peer s k ∷ early s now ∷ no_room room ∷ link_is_down s k ∷ []) refl).0 f.0).0 in
      let l : k < length s.slots = used_within s.slots k (in_use s k o) in
      let m : slot_at (step s at_hello) k ≡ slot_malformed (slot_at s k) = rw n (moved_slot at l r) in
      let d : (slot_at (step s at_hello) k).link ≡ malformed_move (slot_at s k).link =
      ap (λ x. x.link) m ∙ moved_link (malformed_move (slot_at s k).link) (slot_at s k) in
      record {
        written = rw (n, r);
        time = rw n (unfold acted in refl);
        settings = rw n (unfold acted in refl);
        slot = m;
        hello = ap (λ y. y.hello) d;
        alignment = ap (λ y. y.alignment) d;
        rows = rw n (moved_rows at r (rw n at (ap (λ y. y.alignment) d)));
      }

  -- on a server that a list of events leaves nothing waits for the slot then
  pub malformed_waits : Inv s → code_of s at_hello ≡ 10 → octet p 1 ≡ 5 → (i : ℕ) → waits_for k (row_at (step s at_hello).rows i) ≡ false
  malformed_waits v c t i =
      let d = (malformed_hello c t).alignment in
      is_false (waits_for k (row_at (step s at_hello).rows i))
      (λ w. false≢true (sym (ap is_live d) ∙ (inv_step s at_hello v).rows.alive i k w))
