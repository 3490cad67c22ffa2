-- What a code tells, and the contract of an event that is refused or taken.
-- Assumes nothing.
use Prim.Native.Nat.{ℕ, suc, ◌≤◌}
use mathlib.Core.Path.{◌≡◌, refl, sym, ap, ◌∙◌}
use mathlib.Core.Bool.{Bool, true, false, not, ◌||◌, false≢true}
use mathlib.Core.List.{List, []}
use native.Mathlib.Omega.{arith}
use lib.Dec.{eqb, ltb}
use lib.ListN.{length}
use borrow.Author.Tests.{ltb-false, eq-eqb}
use Rattle.laws.specs.Choice.{pick}
use Rattle.laws.specs.Puts.{written}
use Rattle.rules.specs.Server as rules
use Rattle.rules.specs.Server.{slot_at}
use Rattle.rules.specs.Links.{is_down}
use Rattle.rules.specs.Refusals.{poll_code, add_peer_code}
use Rattle.rules.specs.Sent.{octets_of}
use Rattle.rules.specs.Events.{Event, add_peer, link_up, link_down, packet, poll, withdraw, purge, code_of, counts, acted, sent_by, server_if, sent_if, step}
use Rattle.rules.specs.Events.{written_at}
use Rattle.rules.specs.Events as events
use Rattle.rules.proofs.CodeTold.{peer_told}
use Rattle.slots.specs.declared.state.Server.{Server}
use Rattle.slots.specs.declared.answers.Failure.{Failure}
use Rattle.std.specs.Prelude.{Result, Ok, Err}
use Rattle.slots.specs.Codes.{failure_number, code_number, written_of}
use Rattle.slots.proofs.Laws.{refused_code}
use Rattle.writer.specs.Write.{Wrote}
use Rattle.server.specs.declared.answers.Answer.{Answer}
use Rattle.server.specs.State.{server_of, Steps, StepsOut}
use Rattle.slots.specs.declared.state.Slot.{Slot}

-- ---- what code 0 tells
no_code : (b : Bool) (c rest : ℕ) → pick b (suc c) rest ≡ 0 → (b ≡ false) × (rest ≡ 0)
no_code true c rest h = absurd (omega arith)
no_code false c rest h = (refl, h)

taken_zero : {A : Type 0} {x : A} (o : Result A Failure) (n : ℕ) → o ≡ Ok x → code_number o ≡ n → n ≡ 0
taken_zero o n t e = sym e ∙ ap code_number t

module _ (s : rules.Server) (k now : ℕ) where
  poll_told : (room : ℕ) → poll_code s k now room ≡ 0 → 284 ≤ room
  poll_told room h =
      let a : Bool = not (slot_at s k).used in
      let down : ℕ = pick (is_down (slot_at s k).link.hello) 4 0 in
      let f = no_code (not (ltb k 8) || a) 0 (pick (ltb now s.time) 2 (pick (ltb room 284) 3 down)) h in
      let g = no_code (ltb now s.time) 1 (pick (ltb room 284) 3 down) f.1 in
      ltb-false room 284 (no_code (ltb room 284) 2 down g.1).0

  -- the same of an outcome
  pub poll_room : {A : Type 0} {x : A} (room : ℕ) (o : Result A Failure) → code_number o ≡ poll_code s k now room → o ≡ Ok x → 284 ≤ room
  poll_room room o e t = poll_told room (taken_zero o (poll_code s k now room) t e)

pub add_taken : {A : Type 0} {x : A} (s : rules.Server) (k : ℕ) (id : List ℕ) (o : Result A Failure) → code_number o ≡ add_peer_code s k id → o ≡ Ok x
    → length id ≡ 4
add_taken s k id o e t =
    let z : add_peer_code s k id ≡ 0 = taken_zero o (add_peer_code s k id) t e in
    peer_told s k id (eq-eqb (add_peer_code s k id) 0 z)

-- ---- an event that counts, and one that does not
module _ (s : rules.Server) (e : Event) where
  pub step_counted : counts e (code_of s e) ≡ true → step s e ≡ acted s e
  unfolding step
  step_counted h = ap (λ (b : Bool). server_if b s e) h

  pub written_counted : counts e (code_of s e) ≡ true → written_at s e ≡ octets_of (sent_by s e)
  unfolding written_at
  written_counted h = ap (λ (b : Bool). octets_of (sent_if b s e)) h

  pub step_not : counts e (code_of s e) ≡ false → step s e ≡ s
  unfolding step
  step_not h = ap (λ (b : Bool). server_if b s e) h

  pub written_not : counts e (code_of s e) ≡ false → written_at s e ≡ []
  unfolding written_at
  written_not h = ap (λ (b : Bool). octets_of (sent_if b s e)) h

-- code 0 counts
counts_zero : (e : Event) → counts e 0 ≡ true
counts_zero (add_peer k id) = refl
counts_zero (link_up k now) = refl
counts_zero (link_down k now) = refl
counts_zero (packet k now p room) = refl
counts_zero (poll k now room) = refl
counts_zero (events.set key payload) = refl
counts_zero (withdraw key) = refl
counts_zero (purge key) = refl

-- no other code counts; so it is of an event that is no packet, where `λ c. refl` shows it
abbrev pub Plain : Event → Type 0
Plain e = (c : ℕ) → counts e c ≡ eqb c 0

-- ---- the contract
module _ (e : Event) (s : Server) (slots : List Slot) (before : List ℕ) where
  pub does_not : (f : Failure) (r : Answer) → failure_number f ≡ code_of (server_of s slots before) e → counts e (failure_number f) ≡ false
      → r ≡ record { server = s; outcome = Err f } → Steps e s slots slots before before r
  does_not f r c n a =
      let h : counts e (code_of (server_of s slots before) e) ≡ false = ap (counts e) (sym c) ∙ n in
      record {
        code = ap (λ (x : Answer). code_number x.outcome) a ∙ c;
        server = ap (λ (x : Answer). server_of x.server slots before) a ∙ sym (step_not (server_of s slots before) e h);
        size = ap (λ (x : Answer). written_of x.outcome) a ∙ sym (ap length (written_not (server_of s slots before) e h));
        same = λ _. (ap (λ (x : Answer). x.server) a, (refl, refl));
      }

  pub does_refused : Plain e → {A : Type 0} (o : Result A Failure) (f : Failure) (r : Answer) → code_number o ≡ code_of (server_of s slots before) e → o ≡ Err f
      → r ≡ record { server = s; outcome = Err f } → Steps e s slots slots before before r
  does_refused p o f r c t a =
      does_not f r (ap code_number (sym t) ∙ c) (p (failure_number f) ∙ sym (refused_code {A = ℕ} (Err f) refl)) a

  pub does_counted : (slots' : List Slot) (after : List ℕ) (r : Answer) → counts e (code_of (server_of s slots before) e) ≡ true → code_number r.outcome
      ≡ code_of (server_of s slots before) e
      → server_of r.server slots' after ≡ acted (server_of s slots before) e → written_of r.outcome ≡ length (octets_of (sent_by (server_of s slots before) e))
      → Steps e s slots slots' before after r
  does_counted slots' after r h c v w = record {
    code = c;
    server = v ∙ sym (step_counted (server_of s slots before) e h);
    size = w ∙ sym (ap length (written_counted (server_of s slots before) e h));
    same = λ n. absurd (false≢true (sym n ∙ h));
  }

  pub does_taken : {A : Type 0} {x : A} (o : Result A Failure) (slots' : List Slot) (after : List ℕ) (r : Answer)
      → code_number o ≡ code_of (server_of s slots before) e → o ≡ Ok x
      → code_number r.outcome ≡ 0
      → server_of r.server slots' after ≡ acted (server_of s slots before) e → written_of r.outcome ≡ length (octets_of (sent_by (server_of s slots before) e))
      → Steps e s slots slots' before after r
  does_taken o slots' after r c t u v w =
      let z : code_of (server_of s slots before) e ≡ 0 = taken_zero o (code_of (server_of s slots before) e) t c in
      does_counted slots' after r (ap (counts e) z ∙ counts_zero e) (u ∙ sym z) v w

  -- with an out buffer
  pub out_not : (f : Failure) (r : Answer) (out : List ℕ) → failure_number f ≡ code_of (server_of s slots before) e → counts e (failure_number f) ≡ false
      → r ≡ record { server = s; outcome = Err f } → StepsOut e s slots slots before before out out r
  unfolding written
  out_not f r out c n a =
      let h : counts e (code_of (server_of s slots before) e) ≡ false = ap (counts e) (sym c) ∙ n in
      record {
        steps = does_not f r c n a;
        octets = ap (λ (p : List ℕ). written p out) (sym (written_not (server_of s slots before) e h));
      }

  pub out_refused : Plain e → {A : Type 0} (o : Result A Failure) (f : Failure) (r : Answer) (out : List ℕ)
      → code_number o ≡ code_of (server_of s slots before) e → o ≡ Err f
      → r ≡ record { server = s; outcome = Err f } → StepsOut e s slots slots before before out out r
  out_refused p o f r out c t a =
      out_not f r out (ap code_number (sym t) ∙ c) (p (failure_number f) ∙ sym (refused_code {A = ℕ} (Err f) refl)) a

  pub out_counted : (slots' : List Slot) (after : List ℕ) (r : Answer) (out out' : List ℕ) → counts e (code_of (server_of s slots before) e) ≡ true
      → code_number r.outcome ≡ code_of (server_of s slots before) e → server_of r.server slots' after ≡ acted (server_of s slots before) e
      → Wrote (octets_of (sent_by (server_of s slots before) e)) out out' (written_of r.outcome) → StepsOut e s slots slots' before after out out' r
  out_counted slots' after r out out' h c v w = record {
    steps = does_counted slots' after r h c v w.size;
    octets = w.octets ∙ ap (λ (p : List ℕ). written p out) (sym (written_counted (server_of s slots before) e h));
  }

  pub out_taken : {A : Type 0} {x : A} (o : Result A Failure) (slots' : List Slot) (after : List ℕ) (r : Answer) (out out' : List ℕ)
      → code_number o ≡ code_of (server_of s slots before) e → o ≡ Ok x
      → code_number r.outcome ≡ 0 → server_of r.server slots' after ≡ acted (server_of s slots before) e
      → Wrote (octets_of (sent_by (server_of s slots before) e)) out out' (written_of r.outcome) → StepsOut e s slots slots' before after out out' r
  out_taken o slots' after r out out' c t u v w =
      let z : code_of (server_of s slots before) e ≡ 0 = taken_zero o (code_of (server_of s slots before) e) t c in
      out_counted slots' after r out out' (ap (counts e) z ∙ counts_zero e) (u ∙ sym z) v w
