-- A whole slice of records.
-- Assumes nothing.
use Rattle.std.proofs.Common.{◌≡◌, ℕ, suc, ◌+◌, ◌/◌, ◌%◌, ◌≤◌, Bool, true, false, ◌&&◌, Result, Ok, Err, is_ok, eqb, leb, List, [], ◌++◌, length, take, drop, sym, refl, ap, ◌∙◌, subst}
use Rattle.std.proofs.Common.{append_assoc, append-nil, arith, length-append, eqb-true}
use Rattle.std.proofs.Math.Seq.{take-append_seam, drop-append_seam}
use mathlib.Core.Bool.{false≢true}
use Rattle.laws.specs.Choice.{pick}
use Rattle.laws.proofs.Bools.{and_true}
use Rattle.rules.specs.Server as rules
use Rattle.rules.specs.Server.{settings_code, fresh}
use Rattle.rules.specs.Events.{Event, Item, run, items}
use Rattle.rules.specs.Replay.{replay_record, kind_at, RecordKind, an_event, other, record_kind, server_after, settings_in, starts_good}
use Rattle.rules.specs.History.{history}
use Rattle.rules.specs.Demand3.{Demand3}
use Rattle.rules.proofs.Main.{demand_3}
use Rattle.slots.specs.Codes.{failure_number, code_number}
use Rattle.slots.specs.declared.answers.Failure.TheVariants as failure
use Rattle.slots.specs.declared.state.Settings.{Settings}
use Rattle.slots.specs.declared.state.Server.{Server}
use Rattle.slots.specs.declared.answers.Failure.{Failure}
use Rattle.server.specs.declared.answers.Answer.{Answer}
use Rattle.server.specs.State.{server_of}
use Rattle.server.specs.Hosts.{Hosted}
use Rattle.lines.specs.Lines.{with_event, items_of, events_from, events_in, RunsFrom, Begins, Runs}
use Rattle.slots.specs.declared.state.Slot.{Slot}

-- ---- records taken one after the other
-- what a record is, run first
pub run_kind : (k : RecordKind) (s : rules.Server) (es : List Event) → run s (with_event k es) ≡ run (server_after k s) es
run_kind (an_event e) s es = refl
run_kind other s es = refl

items_kind : (k : RecordKind) (s : rules.Server) (es : List Event) → items s (with_event k es) ≡ items_of k s ++ items (server_after k s) es
items_kind (an_event e) s es = refl
items_kind other s es = refl

-- from a server, its slots and its memory, and the first n records of `whole`, to others with the first `left` records of `rest`
pub record Went (whole : List ℕ) (n : ℕ) (s₀ : Server) (slots₀ : List Slot) (memory₀ : List ℕ) (rest : List ℕ) (left : ℕ) (s : Server) (slots : List Slot) (memory : List ℕ) : Type 0 where
  pub ran : run (server_of s₀ slots₀ memory₀) (events_from n whole) ≡ run (server_of s slots memory) (events_from left rest)
  pub did : List Item
  pub saw : items (server_of s₀ slots₀ memory₀) (events_from n whole) ≡ did ++ items (server_of s slots memory) (events_from left rest)
  pub host : (c : Settings) (is : List Item) → Hosted c s₀ slots₀ memory₀ is → Hosted c s slots memory (is ++ did)

pub went_none : (whole : List ℕ) (n : ℕ) (rest : List ℕ) (left : ℕ) (s : Server) (slots : List Slot) (memory : List ℕ) → rest ≡ whole → left ≡ n
    → Went whole n s slots memory rest left s slots memory
went_none whole n rest left s slots memory e l =
    rw (e, l) (record { ran = refl; did = []; saw = refl; host = λ c is h. rw (append-nil is) h })

-- the first record of a list, and what is behind it
pub first_of : (first behind : List ℕ) → length first ≡ 292 → take replay_record (first ++ behind) ≡ first
first_of first behind e = ap (λ (k : ℕ). take k (first ++ behind)) (sym e) ∙ take-append_seam first behind

pub behind_first : (first behind : List ℕ) → length first ≡ 292 → drop replay_record (first ++ behind) ≡ behind
behind_first first behind e = ap (λ (k : ℕ). drop k (first ++ behind)) (sym e) ∙ drop-append_seam first behind

-- one record more
module _ {whole : List ℕ} {n : ℕ} {s₀ : Server} {slots₀ : List Slot} {memory₀ : List ℕ} {rest : List ℕ} {left : ℕ} {s : Server} {slots : List Slot} {memory : List ℕ}
    (w : Went whole n s₀ slots₀ memory₀ rest left s slots memory) where
  pub went_more : (first behind : List ℕ) (less : ℕ) (t : Server) (slots' : List Slot) (memory' : List ℕ) → rest ≡ first ++ behind → length first ≡ 292
      → left ≡ suc less
      → server_of t slots' memory' ≡ server_after (record_kind first) (server_of s slots memory)
      → ((c : Settings) (is : List Item) → Hosted c s slots memory is → Hosted c t slots' memory' (is ++ items_of
      (record_kind first) (server_of s slots memory)))
      → Went whole n s₀ slots₀ memory₀ behind less t slots' memory'
  unfolding events_from
  went_more first behind less t slots' memory' f l e after h =
      let x : rules.Server = server_of s slots memory in
      let y : rules.Server = server_of t slots' memory' in
      let es : List Event = events_from less behind in
      let split : events_from left rest ≡ with_event (record_kind first) es =
      ap (λ (k : ℕ). events_from k rest) e
      ∙ ap (λ (v : List ℕ). with_event (record_kind (take replay_record v)) (events_from less (drop replay_record v))) f
      ∙ ap (λ (v : List ℕ). with_event (record_kind v) (events_from less (drop replay_record (first ++ behind)))) (first_of first behind l)
      ∙ ap (λ (v : List ℕ). with_event (record_kind first) (events_from less v)) (behind_first first behind l) in
      record {
        ran = w.ran ∙ ap (run x) split ∙ run_kind (record_kind first) x es ∙ ap (λ (z : rules.Server). run z es) (sym after);
        did = w.did ++ items_of (record_kind first) x;
        saw = w.saw ∙ ap (λ (v : List Event). w.did ++ items x v) split
            ∙ ap (λ (v : List Item). w.did ++ v) (items_kind (record_kind first) x es
            ∙ ap (λ (z : rules.Server). items_of (record_kind first) x ++ items z es) (sym after))
            ∙ sym (append_assoc w.did (items_of (record_kind first) x) (items y es));
        host = λ c is g. rw (← (append_assoc is w.did (items_of (record_kind first) x))) (h c (is ++ w.did) (w.host c is g));
      }

  -- none is left
  module _ (z : left ≡ 0) where
    pub went_run : server_of s slots memory ≡ run (server_of s₀ slots₀ memory₀) (events_from n whole)
    unfolding events_from
    went_run = sym (w.ran ∙ ap (λ (k : ℕ). run (server_of s slots memory) (events_from k rest)) z)

    went_did : w.did ≡ items (server_of s₀ slots₀ memory₀) (events_from n whole)
    unfolding events_from
    went_did = sym (w.saw ∙ ap (λ (k : ℕ). w.did ++ items (server_of s slots memory) (events_from k rest)) z ∙ append-nil w.did)

    pub went_host : (c : Settings) (is : List Item) → Hosted c s₀ slots₀ memory₀ is
        → Hosted c s slots memory (is ++ items (server_of s₀ slots₀ memory₀) (events_from n whole))
    went_host c is h = subst (λ (l : List Item). Hosted c s slots memory (is ++ l)) went_did (w.host c is h)

-- a chunk off the front is one record less
pub record_less : (rest first behind : List ℕ) → rest ≡ first ++ behind → length first ≡ 292 → length rest / 292 ≡ suc (length behind / 292)
record_less rest first behind e l =
    let sum : length rest ≡ length first + length behind = ap length e ∙ length-append first behind in
    omega (arith, sum, l)

-- and whole records stay
pub records_whole : (rest first behind : List ℕ) → rest ≡ first ++ behind → length first ≡ 292 → length rest % 292 ≡ 0 → length behind % 292 ≡ 0
records_whole rest first behind e l h =
    let sum : length rest ≡ length first + length behind = ap length e ∙ length-append first behind in
    omega (arith, sum, l, h)

pub ran_all : {input rest : List ℕ} {left : ℕ} {s x : Server} {slots slots' : List Slot} {before after : List ℕ}
    → Went (drop 292 input) (length (drop 292 input) / 292) s slots before rest left x slots' after → left ≡ 0 → RunsFrom s slots slots' before after input x
unfolding events_in
ran_all w z = record { server = went_run w z; host = went_host w z }

-- ---- the whole
-- an outcome is Ok where its code is 0
some_code : (f : Failure) → 1 ≤ failure_number f
some_code failure.NoPeer = omega arith
some_code failure.TimeBefore = omega arith
some_code failure.ShortOut = omega arith
some_code failure.LinkDown = omega arith
some_code failure.Length = omega arith
some_code failure.Version = omega arith
some_code failure.Type = omega arith
some_code failure.Checksum = omega arith
some_code failure.Extensions = omega arith
some_code failure.Malformed = omega arith
some_code failure.Group = omega arith
some_code failure.Receiver = omega arith
some_code failure.Sender = omega arith
some_code failure.State = omega arith
some_code failure.NoFreeRow = omega arith
some_code failure.NumberSpent = omega arith
some_code failure.Size = omega arith
some_code failure.NoEntry = omega arith

-- an outcome is Ok where its code is 0
pub taken : (b : Bool) (o : Result ℕ Failure) → code_number o ≡ pick b 0 17 → is_ok o ≡ b
taken true (Ok _) h = refl
taken false (Ok _) h = absurd (omega (arith, h))
taken true (Err f) h = absurd (omega (arith, h, some_code f))
taken false (Err _) h = refl

accepted : (input : List ℕ) → starts_good input ≡ true → settings_code (settings_in input) ≡ 0
accepted input g =
    let h = (and_true (leb replay_record (length input)) (eqb (kind_at input) 0 && eqb (settings_code (settings_in input)) 0) g).1 in
    eqb-true (settings_code (settings_in input)) 0 (and_true (eqb (kind_at input) 0) (eqb (settings_code (settings_in input)) 0) h).1

module _ {input : List ℕ} {slots slots₁ : List Slot} {before mid : List ℕ} {first : Answer} (b : Begins input slots slots₁ before mid first) where
  -- the first record is accepted settings where the outcome is Ok
  pub good : is_ok first.outcome ≡ starts_good input
  good = taken (starts_good input) first.outcome b.code

  pub runs_not : starts_good input ≡ false → Runs input slots slots₁ before mid first
  runs_not h = record {
    code = b.code;
    server = λ g. absurd (false≢true (sym h ∙ g));
    host = λ g. absurd (false≢true (sym h ∙ g));
    demand = λ g. absurd (false≢true (sym h ∙ g));
    size = b.size;
    same = b.same;
  }

  -- the records behind them run
  pub runs : {slots₂ : List Slot} {after : List ℕ} {s : Server} {r : Answer} → starts_good input ≡ true
      → RunsFrom first.server slots₁ slots₂ mid after input s → r ≡ record { server = s; outcome = Ok 0 }
      → Runs input slots slots₂ before after r
  runs {slots₂} {after} {s} {r} h f is =
      let c : rules.Settings = settings_in input in
      let es : List Event = events_in input in
      let began = b.server h in
      let ran : server_of s slots₂ after ≡ run (fresh c) es = f.server ∙ ap (λ (x : rules.Server). run x es) began in
      let hosts = b.host h in
      subst (λ (x : Answer). Runs input slots slots₂ before after x) (sym is) (record {
        code = ap (λ (t : Bool). pick t 0 17) (sym h);
        server = λ _. ran;
        host = λ _. (hosts.0, hosts.1, subst (λ (x : rules.Server). Hosted hosts.0 s slots₂ after (items x es)) began (f.host hosts.0 [] hosts.2));
        demand = λ g. subst (λ (x : rules.Server). Demand3 c x (history c (items (fresh c) es))) (sym ran) (demand_3 c (accepted input g) es);
        size = refl;
        same = λ g. absurd (false≢true (sym g ∙ h));
      })
