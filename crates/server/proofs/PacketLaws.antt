-- A packet in a slot: the contract of what was read of it, case by case, and that of the event.
-- Assumes nothing.
use Prim.Native.Nat.{ℕ, zero, suc, ◌≤◌, ◌<◌}
use mathlib.Core.Path.{◌≡◌, refl, sym, ap, ◌∙◌, subst}
use mathlib.Core.Bool.{Bool, true, false, not, ◌&&◌, ◌||◌, false≢true}
use mathlib.Core.List.{List, []}
use mathlib.Core.Logic.{◌⊎◌, inl, inr}
use native.Mathlib.Omega.{arith}
use lib.Dec.{eqb, ltb}
use lib.ListN.{length}
use borrow.Author.Tests.{eq-eqb, ne_eqb}
use Rattle.laws.specs.Choice.{pick}
use Rattle.laws.specs.Puts.{written}
use Rattle.laws.proofs.Bools.{pick_of}
use Rattle.protocol.specs.Sizes.{id_length}
use Rattle.protocol.specs.Fields.{octet}
use Rattle.protocol.specs.declared.Alignment.{Alignment}
use Rattle.protocol.specs.Messages.{Message}
use Rattle.protocol.specs.Reading.{Reading, malformed, message, read_packet}
use Rattle.rules.specs.Server as rules
use Rattle.rules.specs.Server.{slot_at}
use Rattle.rules.specs.Links.{is_down, malformed_move}
use Rattle.rules.specs.Sent.{octets_of}
use Rattle.rules.specs.Refusals.{or_else, poll_code, message_code, reading_code, is_hello_type}
use Rattle.rules.specs.Events as events
use Rattle.rules.specs.Events.{Event, live_in, body_changes, read_sent, code_of, counts}
use Rattle.rules.proofs.StatedPacket.{message_range}
use Rattle.memory.specs.Memory.{rows_in}
use Rattle.slots.specs.declared.state.Slot.{Slot}
use Rattle.slots.specs.declared.state.Server.{Server}
use Rattle.slots.specs.declared.answers.Failure.{Failure}
use Rattle.slots.specs.declared.answers.Failure.TheVariants as failure
use Rattle.std.specs.Prelude.{Result, Ok, Err}
use Rattle.slots.specs.Codes.{failure_number, code_number, written_of}
use Rattle.slots.specs.State.{settings_of}
use Rattle.slots.proofs.Laws.{refused_code}
use Rattle.table.specs.Slots.{slot_in}
use Rattle.writer.specs.Write.{Wrote}
use Rattle.actions.specs.Parts.{slot_now, MovesAt}
use Rattle.actions.proofs.PartLaws.{wrote_none}
use Rattle.server.specs.declared.answers.Answer.{Answer}
use Rattle.server.specs.State.{slots_of, server_of, Closes, StepsOut}
use Rattle.server.specs.Events.{ActsOn, counts_as, read_server, read_octets, DoesRead}
use Rattle.server.proofs.ServerLaws.{slot_of_lem, closes, acted_in_lem}
use Rattle.server.proofs.DoesLaws.{step_not, written_not, out_not, out_counted}
use Rattle.server.proofs.ActLaws.{moves_rows}

-- ---- what was read counts, or not
none_counts : (c : ℕ) (h : Bool) → eqb c 0 ≡ false → (eqb c 10 && h) ≡ false → (eqb c 0 || (eqb c 10 && h)) ≡ false
none_counts c h e f = rw (e, f)

-- the codes of a message are 11 to 14
not_ten : (s : rules.Settings) (x : rules.Slot) (m : Message) → eqb (message_code s x m) 10 ≡ false
not_ten s x m = by (message_range s x m) where
  by : (message_code s x m ≡ 0) ⊎ (10 < message_code s x m) → eqb (message_code s x m) 10 ≡ false
  by (inl e) = ne_eqb (message_code s x m) 10 (λ z. omega (arith, e, z))
  by (inr g) = ne_eqb (message_code s x m) 10 (λ z. omega (arith, g, z))

refused_none : (f : Failure) (c : ℕ) → failure_number f ≡ c → eqb c 0 ≡ false
refused_none f c e = ap (λ (n : ℕ). eqb n 0) (sym e) ∙ sym (refused_code {A = ℕ} (Err f) refl)

module _ (m : Reading) (p : List ℕ) (k now : ℕ) (s : Server) (slots : List Slot) (before : List ℕ) where
  abbrev server_if : Bool → rules.Server
  server_if b = pick b (read_server m k now s slots before) (server_of s slots before)

  abbrev octets_if : Bool → List ℕ
  octets_if b = pick b (read_octets m k s slots before) []

  -- a refusal, but for the malformed Hello
  pub read_refused : (eqb (reading_code (settings_of s.settings) (slot_now slots k before) m) 10 && is_hello_type p) ≡ false
      → (f : Failure) (r : Answer) (out : List ℕ)
      → failure_number f ≡ reading_code (settings_of s.settings) (slot_now slots k before) m
      → r ≡ record { server = s; outcome = Err f } → DoesRead m p k now s slots slots before before out out r
  read_refused h f r out c a =
      let code : ℕ = reading_code (settings_of s.settings) (slot_now slots k before) m in
      let n : counts_as m p s slots k before ≡ false = none_counts code (is_hello_type p) (refused_none f code c) h in
      record {
        code = ap (λ (x : Answer). code_number x.outcome) a ∙ c;
        server = ap (λ (x : Answer). server_of x.server slots before) a ∙ sym (ap server_if n);
        wrote =
            subst (λ (q : List ℕ). Wrote q out out (written_of r.outcome)) (sym (ap octets_if n))
            (subst (λ (x : Answer). Wrote [] out out (written_of x.outcome)) (sym a) (wrote_none out));
        same = λ _. (ap (λ (x : Answer). x.server) a, (refl, refl));
      }

  pub read_counted : (slots' : List Slot) (after : List ℕ) (r : Answer) (out out' : List ℕ) → counts_as m p s slots k before ≡ true
      → code_number r.outcome ≡ reading_code (settings_of s.settings) (slot_now slots k before) m
      → server_of r.server slots' after ≡ read_server m k now s slots before → Wrote (read_octets m k s slots before) out out' (written_of r.outcome)
      → DoesRead m p k now s slots slots' before after out out' r
  read_counted slots' after r out out' t c v w = record {
    code = c;
    server = v ∙ sym (ap server_if t);
    wrote = subst (λ (q : List ℕ). Wrote q out out' (written_of r.outcome)) (sym (ap octets_if t)) w;
    same = λ f. absurd (false≢true (sym f ∙ t));
  }

module _ (p : List ℕ) (k now : ℕ) (s : Server) (slots : List Slot) (before : List ℕ) (h : k < 8) where
  -- the malformed Hello
  pub read_malformed : (at : ℕ) (slots' : List Slot) (mid after out : List ℕ) (from : Alignment) (u : Server) (r : Answer) → octet p 1 ≡ 5
      → from ≡ (slot_in slots k).link.alignment → MovesAt k (malformed_move (slot_in slots k).link) slots slots' before mid
      → Closes false from s slots' k now mid after u
      → r ≡ record { server = u; outcome = Err failure.Malformed }
      → DoesRead (malformed at) p k now s slots slots' before after out out r
  read_malformed at slots' mid after out from u r t e m c a =
      let z : Slot = slot_in slots k in
      subst (λ (q : Answer). DoesRead (malformed at) p k now s slots slots' before after out out q) (sym a)
      (read_counted (malformed at) p k now s slots before slots' after (record { server = u; outcome = Err failure.Malformed }) out out
      (eq-eqb (octet p 1) 5 t) refl
      (closes (moves_rows k (malformed_move z.link) z before mid (slot_in slots' k) m.moves) h false s u slots slots' now after
      (c slots (sym e) m.others))
      (wrote_none out))

  -- a message
  module _ (m : Message) {A : Type 0} (o : Result A Failure) (c : code_number o ≡ message_code (settings_of s.settings) (slot_now slots k before) m) where
    pub message_refused : (f : Failure) (r : Answer) (out : List ℕ) → o ≡ Err f → r ≡ record { server = s; outcome = Err f }
        → DoesRead (message m) p k now s slots slots before before out out r
    message_refused f r out t a = read_refused (message m) p k now s slots before
        (ap (λ (b : Bool). b && is_hello_type p) (not_ten (settings_of s.settings) (slot_now slots k before) m)) f r out (ap code_number (sym t) ∙ c) a

    pub message_taken : (slots' : List Slot) (mid after out out' : List ℕ) (changes : Bool) (from : Alignment) (n : ℕ) (r : Answer) {x : A} → o ≡ Ok x → changes
        ≡ body_changes m.body
        → from ≡ (slot_in slots k).link.alignment → ActsOn m k now (settings_of s.settings) slots slots' before mid out out' n
        → Closes changes from s slots' k now mid after r.server → r ≡ record { server = r.server; outcome = Ok n }
        → DoesRead (message m) p k now s slots slots' before after out out' r
    message_taken slots' mid after out out' changes from n r t b e acts l a =
        let z : message_code (settings_of s.settings) (slot_now slots k before) m ≡ 0 = sym c ∙ ap code_number t in
        let end : Closes (body_changes m.body) from s slots' k now mid after r.server =
        subst (λ (y : Bool). Closes y from s slots' k now mid after r.server) b l in
        read_counted (message m) p k now s slots before slots' after r out out'
        (ap (λ (i : ℕ). eqb i 0 || (eqb i 10 && is_hello_type p)) z) (ap (λ (x : Answer). code_number x.outcome) a ∙ sym z)
        (closes acts.acts.left h (body_changes m.body) s r.server slots slots' now after (end slots (sym e) acts.others))
        (record { size = ap (λ (x : Answer). written_of x.outcome) a ∙ acts.acts.wrote.size; octets = acts.acts.wrote.octets })

-- ---- the event
or_stops : (n d : ℕ) → eqb n 0 ≡ false → n ≡ or_else n d
or_stops zero d e = absurd (false≢true (sym e))
or_stops (suc n) d e = refl

poll_few : (s : rules.Server) (k now room : ℕ) → poll_code s k now room ≤ 4
poll_few s k now room =
    let d : ℕ = pick (is_down (slot_at s k).link.hello) 4 0 in
    let r : ℕ = pick (ltb room 284) 3 d in
    let t : ℕ = pick (ltb now s.time) 2 r in
    pick_of (λ n. n ≤ 4) (not (ltb k 8) || not (slot_at s k).used) 1 t (omega arith)
    (pick_of (λ n. n ≤ 4) (ltb now s.time) 2 r (omega arith)
    (pick_of (λ n. n ≤ 4) (ltb room 284) 3 d (omega arith)
    (pick_of (λ n. n ≤ 4) (is_down (slot_at s k).link.hello) 4 0 (omega arith) (omega arith))))

module _ (p : List ℕ) (k now : ℕ) (s : Server) (slots : List Slot) (before out : List ℕ) where
  abbrev the_event : Event
  the_event = events.packet k now p (length out)

  pub packet_refused : {A : Type 0} (o : Result A Failure) (f : Failure) (r : Answer)
      → code_number o ≡ poll_code (server_of s slots before) k now (length out) → o ≡ Err f
      → r ≡ record { server = s; outcome = Err f } → StepsOut (events.packet k now p (length out)) s slots slots before before out out r
  unfolding code_of
  packet_refused o f r c t a =
      let n : ℕ = failure_number f in
      let q : n ≡ poll_code (server_of s slots before) k now (length out) = ap code_number (sym t) ∙ c in
      let some : eqb n 0 ≡ false = refused_none f n refl in
      let few : poll_code (server_of s slots before) k now (length out) ≤ 4 = poll_few (server_of s slots before) k now (length out) in
      let rest : ℕ = reading_code (settings_of s.settings) (slot_at (server_of s slots before) k) (read_packet id_length p) in
      out_not the_event s slots before f r out
      (or_stops n rest some ∙ ap (λ (i : ℕ). or_else i rest) q)
      (rw (some, ne_eqb n 10 (λ i. omega arith))) a

  module _ (h : k < 8) (z : poll_code (server_of s slots before) k now (length out) ≡ 0) where
    code_is : code_of (server_of s slots before) the_event ≡ reading_code (settings_of s.settings) (slot_now slots k before) (read_packet id_length p)
    unfolding code_of
    code_is =
        ap (λ (i : ℕ). or_else i (reading_code (settings_of s.settings) (slot_at (server_of s slots before) k) (read_packet id_length p))) z
        ∙ ap (λ (x : rules.Slot). reading_code (settings_of s.settings) x (read_packet id_length p)) (slot_of_lem s slots before k h)

    counted_is : (b : Bool) → counts_as (read_packet id_length p) p s slots k before ≡ b → counts the_event (code_of (server_of s slots before) the_event) ≡ b
    counted_is b t = ap (counts the_event) code_is ∙ t

    by_count : (b : Bool) (slots' : List Slot) (after out' : List ℕ) (r : Answer) → counts_as (read_packet id_length p) p s slots k before ≡ b
        → DoesRead (read_packet id_length p) p k now s slots slots' before after out out' r → StepsOut the_event s slots slots' before after out out' r
    by_count true slots' after out' r t d =
        out_counted the_event s slots before slots' after r out out' (counted_is true t) (d.code ∙ sym code_is)
        (d.server ∙ ap (server_if (read_packet id_length p) p k now s slots before) t ∙ sym (acted_in_lem s slots before the_event k h refl refl))
        (subst (λ (q : List ℕ). Wrote q out out' (written_of r.outcome))
        (ap (octets_if (read_packet id_length p) p k now s slots before) t
        ∙ sym (ap (λ (x : rules.Slot). octets_of (read_sent (read_packet id_length p) (settings_of s.settings) (live_in (slots_of slots before)) k
        (rows_in before) x))
        (slot_of_lem s slots before k h))) d.wrote)
    by_count false slots' after out' r t d =
        let c : counts the_event (code_of (server_of s slots before) the_event) ≡ false = counted_is false t in
        let w : Wrote [] out out' (written_of r.outcome) =
        subst (λ (q : List ℕ). Wrote q out out' (written_of r.outcome)) (ap (octets_if (read_packet id_length p) p k now s slots before) t) d.wrote in
        record {
          steps = record {
            code = d.code ∙ sym code_is;
            server = d.server ∙ ap (server_if (read_packet id_length p) p k now s slots before) t ∙ sym (step_not (server_of s slots before) the_event c);
            size = w.size ∙ sym (ap length (written_not (server_of s slots before) the_event c));
            same = λ _. d.same t;
          };
          octets = w.octets ∙ ap (λ (q : List ℕ). written q out) (sym (written_not (server_of s slots before) the_event c));
        }

    pub packet_read : (slots' : List Slot) (after out' : List ℕ) (r : Answer) → DoesRead (read_packet id_length p) p k now s slots slots' before after out out' r
        → StepsOut (events.packet k now p (length out)) s slots slots' before after out out' r
    packet_read slots' after out' r d = by_count (counts_as (read_packet id_length p) p s slots k before) slots' after out' r refl d
