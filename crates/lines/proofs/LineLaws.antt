-- A record taken: what it is by its kind, and what its event's contract says of its line.
-- Assumes nothing.
use Rattle.std.proofs.Common.{◌≡◌, ℕ, ◌<◌, ◌≤◌, Bool, true, false, not, ◌||◌, eqb, Err, List, [], ◌∷◌, length, sym, refl, ap, ◌∙◌, subst, append-nil, arith}
use Rattle.std.proofs.Common.{eq-eqb, ne_eqb, eqb-true, le-leb}
use mathlib.Core.Bool.{false≢true}
use borrow.Author.Tests.{not-true, lt-leb, eqb-false}
use Rattle.laws.specs.Choice.{pick}
use Rattle.laws.specs.Lists.{part}
use Rattle.laws.specs.Puts.{written}
use Rattle.protocol.specs.Sizes.{id_length}
use Rattle.rules.specs.Server as rules
use Rattle.rules.specs.Server.{rows_used, settings_code, fresh}
use Rattle.rules.specs.Events.{Event, add_peer, link_up, link_down, packet, poll, set, withdraw, purge, code_of, counts}
use Rattle.rules.specs.Replay.{kind_at, slot_octet, time_at, settings_in, packet_in, key_in, payload_in, RecordKind, an_event, other, record_kind, starts_good}
use Rattle.slots.specs.declared.state.Settings.{Settings}
use Rattle.slots.specs.declared.state.Server.{Server}
use Rattle.slots.specs.declared.answers.Failure.TheVariants.{Size}
use Rattle.slots.specs.State.{settings_of}
use Rattle.server.specs.declared.answers.Answer.{Answer}
use Rattle.server.specs.State.{server_of, Does, DoesOut, Starts}
use Rattle.server.specs.Hosts.{uses_out, started}
use Rattle.server.proofs.HostLaws.{silent, hosted_call, hosted_out}
use Rattle.lines.specs.Lines.{no_settings, Begins, Takes}
use Rattle.slots.specs.declared.state.Slot.{Slot}

-- ---- a record's event
module _ {e : Event} {s : Server} {slots slots' : List Slot} {before after : List ℕ} {r : Answer} where
  -- an event with an out buffer
  pub takes_out : {out out' : List ℕ} {kind : RecordKind} → an_event e ≡ kind → DoesOut e s slots slots' before after out out' r
      → Takes kind s slots slots' before after out out' r
  takes_out {out} {out'} h d =
      let x = d.steps.steps in
      subst (λ (k : RecordKind). Takes k s slots slots' before after out out' r) h (record {
        server = x.server;
        line = λ n. λ i. n ∷ x.code i ∷ x.size i ∷ rows_used (x.server i).rows ∷ [];
        octets = λ n. d.steps.octets;
        same = λ q. x.same (not-true (counts e (code_of (server_of s slots before) e)) q);
        host = λ c is g. hosted_out g d;
      })

  -- one without: it leaves out as it is
  pub takes_event : {out : List ℕ} {kind : RecordKind} → an_event e ≡ kind → uses_out e ≡ false → Does e s slots slots' before after r
      → Takes kind s slots slots' before after out out r
  unfolding written
  takes_event {out} h quiet d =
      let x = d.steps in
      subst (λ (k : RecordKind). Takes k s slots slots' before after out out r) h (record {
        server = x.server;
        line = λ n. λ i. n ∷ x.code i ∷ x.size i ∷ rows_used (x.server i).rows ∷ [];
        octets = λ n. ap (λ (p : List ℕ). written p out) (sym (silent (server_of s slots before) e quiet));
        same = λ q. x.same (not-true (counts e (code_of (server_of s slots before) e)) q);
        host = λ c is g. hosted_call g quiet d;
      })

-- a record of no event
pub takes_none : {s : Server} {slots : List Slot} {before out : List ℕ} {r : Answer} {kind : RecordKind} → other ≡ kind
    → r ≡ record { server = s; outcome = Err Size } → Takes kind s slots slots before before out out r
unfolding written
takes_none {s} {slots} {before} {out} {r} h e =
    subst (λ (k : RecordKind). Takes k s slots slots before before out out r) h
    (subst (λ (x : Answer). Takes other s slots slots before before out out x) (sym e)
    (record { server = refl; line = λ n. refl; octets = λ n. refl; same = λ _. (refl, (refl, refl)); host = λ c is g. rw (append-nil is) g }))

-- ---- what a record is
module _ (r : List ℕ) where
  pub kind_1 : (slot time : ℕ) → slot ≡ slot_octet r → time ≡ time_at r → kind_at r ≡ 1 → an_event (link_up slot time) ≡ record_kind r
  kind_1 slot time p q e = rw e (λ i. an_event (link_up (p i) (q i)))

  pub kind_2 : (slot time : ℕ) → slot ≡ slot_octet r → time ≡ time_at r → kind_at r ≡ 2 → an_event (link_down slot time) ≡ record_kind r
  kind_2 slot time p q e = rw e (λ i. an_event (link_down (p i) (q i)))

  pub kind_3 : (slot time : ℕ) (p : List ℕ) (room : ℕ) → slot ≡ slot_octet r → time ≡ time_at r → p ≡ packet_in r → room ≡ 284 → kind_at r ≡ 3
      → an_event (packet slot time p room) ≡ record_kind r
  kind_3 slot time p room f g h k e = rw e (λ i. an_event (packet (f i) (g i) (h i) (k i)))

  pub kind_4 : (slot time room : ℕ) → slot ≡ slot_octet r → time ≡ time_at r → room ≡ 284 → kind_at r ≡ 4 → an_event (poll slot time room) ≡ record_kind r
  kind_4 slot time room f g k e = rw e (λ i. an_event (poll (f i) (g i) (k i)))

  pub kind_5 : (key payload : List ℕ) → key ≡ key_in r → payload ≡ payload_in r → kind_at r ≡ 5 → an_event (set key payload) ≡ record_kind r
  kind_5 key payload p q e = rw e (λ i. an_event (set (p i) (q i)))

  pub kind_6 : (key : List ℕ) → key ≡ key_in r → kind_at r ≡ 6 → an_event (withdraw key) ≡ record_kind r
  kind_6 key p e = rw e (λ i. an_event (withdraw (p i)))

  pub kind_7 : (key : List ℕ) → key ≡ key_in r → kind_at r ≡ 7 → an_event (purge key) ≡ record_kind r
  kind_7 key p e = rw e (λ i. an_event (purge (p i)))

  pub kind_8 : (slot : ℕ) (id : List ℕ) → slot ≡ slot_octet r → id ≡ part r 8 4 → kind_at r ≡ 8 → an_event (add_peer slot id) ≡ record_kind r
  kind_8 slot id p q e = rw e (λ i. an_event (add_peer (p i) (q i)))

  pub kind_none : ((kind_at r ≡ 1) → ⊥) → ((kind_at r ≡ 2) → ⊥) → ((kind_at r ≡ 3) → ⊥) → ((kind_at r ≡ 4) → ⊥) → ((kind_at r ≡ 5) → ⊥)
      → ((kind_at r ≡ 6) → ⊥) → ((kind_at r ≡ 7) → ⊥) → ((kind_at r ≡ 8) → ⊥) → other ≡ record_kind r
  kind_none a b c d e f g h =
      let k = kind_at r in
      rw (ne_eqb k 1 a, ne_eqb k 2 b, ne_eqb k 3 c, ne_eqb k 4 d, ne_eqb k 5 e, ne_eqb k 6 f, ne_eqb k 7 g, ne_eqb k 8 h)

-- ---- the first record
-- no whole record, or one of another kind
pub short : (r : List ℕ) → length r < 292 → starts_good r ≡ false
short r h = rw (lt-leb 292 (length r) h)

pub not_settings : (r : List ℕ) (k : ℕ) → 292 ≤ length r → k ≡ kind_at r → (k ≡ 0 → ⊥) → starts_good r ≡ false
not_settings r k h e n = rw (le-leb 292 (length r) h, ne_eqb (kind_at r) 0 (λ g. n (e ∙ g)))

-- a record of settings is as good as they are
pub is_settings : (r : List ℕ) (k : ℕ) → 292 ≤ length r → k ≡ kind_at r → k ≡ 0 → starts_good r ≡ eqb (settings_code (settings_in r)) 0
is_settings r k h e z = rw (le-leb 292 (length r) h, eq-eqb (kind_at r) 0 (sym e ∙ z))

two_codes : (b : Bool) → ◌≡◌ {A = ℕ} (pick b 17 0) (pick (eqb (pick b 17 0) 0) 0 17)
two_codes true = refl
two_codes false = refl

code_picks : (s : rules.Settings) → settings_code s ≡ pick (eqb (settings_code s) 0) 0 17
code_picks s = two_codes (not (eqb (length s.id) id_length) || (eqb s.interval 0 || eqb s.factor 0))

module _ {slots slots' : List Slot} {before after : List ℕ} {r : Answer} where
  pub begins_not : (input : List ℕ) (s : Settings) → starts_good input ≡ false → s ≡ no_settings → Starts s slots slots' before after r
      → Begins input slots slots' before after r
  begins_not input s h e x = record {
    code = x.code ∙ ap (λ (z : Settings). settings_code (settings_of z)) e ∙ ap (λ (b : Bool). pick b 0 17) (sym h);
    server = λ g. absurd (false≢true (sym h ∙ g));
    size = x.size;
    same = λ _. x.same (λ g. let z : ◌≡◌ {A = ℕ} 17 0 = sym (ap (λ (t : Settings). settings_code (settings_of t)) e) ∙ g in omega arith);
    host = λ g. absurd (false≢true (sym h ∙ g));
  }

  pub begins : (input : List ℕ) (s : Settings) → starts_good input ≡ eqb (settings_code (settings_in input)) 0 → settings_of s ≡ settings_in input
      → Starts s slots slots' before after r → Begins input slots slots' before after r
  begins input s h e x =
      let c : settings_code (settings_of s) ≡ settings_code (settings_in input) = ap settings_code e in
      record {
        code = x.code ∙ c ∙ code_picks (settings_in input) ∙ ap (λ (b : Bool). pick b 0 17) (sym h);
        server = λ g. x.server (c ∙ eqb-true (settings_code (settings_in input)) 0 (sym h ∙ g)) ∙ ap fresh e;
        size = x.size;
        same = λ g. x.same (λ z. eqb-false (settings_code (settings_in input)) 0 (sym h ∙ g) (sym c ∙ z));
        host = λ g. (s, e, started x (x.code ∙ c ∙ eqb-true (settings_code (settings_in input)) 0 (sym h ∙ g)));
      }
