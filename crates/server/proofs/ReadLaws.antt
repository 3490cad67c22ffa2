-- What is known of a packet that was read, and the code of each case of reading.
-- Assumes nothing.
use Prim.Native.Nat.{ℕ, ◌+◌, ◌*◌, ◌≤◌}
use mathlib.Core.Path.{◌≡◌, refl, sym, ap, ◌∙◌, subst}
use mathlib.Core.Bool.{Bool, true, false, false≢true}
use mathlib.Core.List.{List}
use native.Mathlib.Omega.{arith}
use lib.Dec.{eqb}
use lib.ListN.{length}
use Rattle.laws.proofs.Each.{all_mono}
use Rattle.protocol.specs.declared.Kind.{Kind}
use Rattle.protocol.specs.declared.Kind.TheVariants.{Ca, CsuRequest, CsuReply, Csus, Hello}
use Rattle.std.specs.Prelude.{Result, Ok}
use Rattle.protocol.specs.Sizes.{id_length}
use Rattle.protocol.specs.Messages.{CsaRecord, Body}
use Rattle.protocol.specs.Reading as protocol
use Rattle.protocol.specs.Reading.{body_at, read_packet, message}
use Rattle.protocol.specs.WellFormed.{Octets, GoodRecord, GoodRecords, GoodBody, WellFormed}
use Rattle.protocol.proofs.Exact.{records_length, receivers_length}
use Rattle.protocol.proofs.ReadWellFormed.{read_well_formed}
use Rattle.rules.specs.Server as rules
use Rattle.rules.specs.Links.{CaRule}
use Rattle.rules.specs.Alignment.{rule_for}
use Rattle.rules.specs.Refusals.{is_hello, is_refused, unusable, reading_code}
use Rattle.wire.specs.declared.record.Cursor.{Cursor}
use Rattle.wire.specs.declared.read.Head.{Head}
use Rattle.wire.specs.declared.read.Refusal.{Refusal}
use Rattle.wire.specs.declared.read.Refusal.TheVariants as refusal
use Rattle.wire.specs.Views.{records_of, message_of, refused_as, reading_of, start_of, Reads}
use Rattle.records.specs.Walks.{Fits, Walks}
use Rattle.slots.specs.declared.state.Slot.{Slot}
use Rattle.table.specs.Slots.{slot_in}
use Rattle.actions.specs.Parts.{slot_with, slot_now}
use Rattle.actions.specs.Steps.{ca_packet_at}
use Rattle.server.specs.Events.{Reaches, is_ca_kind}

-- ---- the body, by the kind
pub body_is : (p : List ℕ) (h : Head) {k : Kind} → h.kind ≡ k → (message_of p h).body ≡ body_at id_length k p h.records.left h.records.at
body_is p h e = ap (λ (k : Kind). body_at id_length k p h.records.left h.records.at) e

pub is_ca_lem : (k : Kind) → is_ca_kind k ≡ true → k ≡ Ca
is_ca_lem Ca h = refl
is_ca_lem CsuRequest h = absurd (false≢true h)
is_ca_lem CsuReply h = absurd (false≢true h)
is_ca_lem Csus h = absurd (false≢true h)
is_ca_lem Hello h = absurd (false≢true h)

-- a CA is not usable where its rule refuses it
pub ca_unusable : (p : List ℕ) (h : Head) (s : rules.Settings) (t : List Slot) (m : List ℕ) (k : ℕ) (x : Slot) (b : Bool) (u : CaRule) → is_ca_kind h.kind ≡ true → x
    ≡ slot_in t k
    → u ≡ rule_for s.id (ca_packet_at p h) (slot_with x k m) → b ≡ is_refused u → b ≡ unusable s (message_of p h) (slot_now t k m) (message_of p h).body
ca_unusable p h s t m k x b u e q f g =
    g ∙ ap is_refused (f ∙ ap (λ (z : Slot). rule_for s.id (ca_packet_at p h) (slot_with z k m)) q)
    ∙ sym (ap (λ (y : Body). unusable s (message_of p h) (slot_now t k m) y) (body_is p h (is_ca_lem h.kind e)))

-- ---- what was read is in reach
good_fits : (k : Kind) (r : CsaRecord) → GoodRecord id_length k r → Fits r
good_fits k r g = record {
  some_key = g.some_key;
  key_fits = g.key_fits;
  originator_fits = g.originator.size;
  payload_fits = g.payload_fits;
}

module _ (p : List ℕ) (c : Cursor) where
  walks : (k : Kind) → c.at ≤ 287 → GoodRecords id_length k (records_of p c) → Walks p c
  walks k a g =
      let n : c.left ≡ length (records_of p c) = records_length id_length p c.left c.at in
      let f : length (records_of p c) ≤ 4 = g.few in
      record {
        few = omega arith;
        reach = omega arith;
        fits = all_mono (GoodRecord id_length k) Fits (good_fits k) (records_of p c) g.each;
      }

  -- by the kind
  abbrev HeadReaches : Kind → Type 0
  HeadReaches k =
      (c.at + c.left * 65535 ≤ 1048576) × (is_hello (body_at id_length k p c.left c.at) ≡ false → Walks p c)

  by_walks : (k : Kind) → Walks p c → HeadReaches k
  by_walks k w = (w.reach, λ _. w)

  reaches_kind : (k : Kind) → c.at ≤ 287 → GoodBody id_length (body_at id_length k p c.left c.at) → HeadReaches k
  reaches_kind Ca a g = by_walks Ca (walks Ca a g.1)
  reaches_kind CsuRequest a g = by_walks CsuRequest (walks CsuRequest a g)
  reaches_kind CsuReply a g = by_walks CsuReply (walks CsuReply a g)
  reaches_kind Csus a g = by_walks Csus (walks Csus a g)
  reaches_kind Hello a g =
      let n : c.left ≡ length (protocol.receivers_at id_length p c.left c.at) = receivers_length id_length p c.left c.at in
      let f : length (protocol.receivers_at id_length p c.left c.at) ≤ 8 = g.few in
      (omega arith, λ e. absurd (false≢true (sym e)))

pub reaches : (p : List ℕ) (r : Result Head Refusal) (h : Head) → Octets p → Reads p r → r ≡ Ok h → Reaches p h
reaches p r h o t e =
    let m : read_packet id_length p ≡ message (message_of p h) = sym t.means ∙ ap (reading_of p) e in
    let a : h.records.at ≤ 287 = subst (λ (x : Result Head Refusal). start_of x ≤ 287) e t.near in
    let w : WellFormed id_length (message_of p h) = read_well_formed id_length p (message_of p h) o m in
    let f = reaches_kind p h.records h.kind a w.body in
    record { reach = f.0; walks = f.1 }

-- ---- codes 5 to 9
pub not_malformed : (r : Refusal) → ((at : ℕ) → r ≡ refusal.Malformed at → ⊥) → (s : rules.Settings) (x : rules.Slot)
    → eqb (reading_code s x (refused_as r)) 10 ≡ false
not_malformed refusal.Length n s x = refl
not_malformed refusal.Version n s x = refl
not_malformed refusal.«Type» n s x = refl
not_malformed refusal.Checksum n s x = refl
not_malformed refusal.Extensions n s x = refl
not_malformed (refusal.Malformed at) n s x = absurd (n at refl)
