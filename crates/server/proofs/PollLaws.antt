-- A poll: taken in its slot, and as an event.
-- Assumes nothing.
use Prim.Native.Nat.{ℕ, ◌<◌}
use mathlib.Core.Path.{◌≡◌, refl, sym, ap, ◌∙◌, subst}
use mathlib.Core.Bool.{false}
use mathlib.Core.List.{List}
use lib.ListN.{length}
use Rattle.protocol.specs.declared.Alignment.{Alignment}
use Rattle.rules.specs.Server as rules
use Rattle.rules.specs.Sent.{octets_of}
use Rattle.rules.specs.Refusals.{poll_code}
use Rattle.rules.specs.Poll.{poll_sent}
use Rattle.rules.specs.Events.{code_of}
use Rattle.rules.specs.Events as events
use Rattle.memory.specs.Memory.{rows_in}
use Rattle.slots.specs.declared.state.Server.{Server}
use Rattle.slots.specs.declared.answers.Failure.{Failure}
use Rattle.std.specs.Prelude.{Result, Ok, Err}
use Rattle.slots.specs.Codes.{code_number, written_of}
use Rattle.slots.specs.State.{settings_of}
use Rattle.table.specs.Slots.{slot_in}
use Rattle.writer.specs.Write.{Wrote}
use Rattle.actions.specs.Steps.{PollsAt}
use Rattle.server.specs.declared.answers.Answer.{Answer}
use Rattle.server.specs.State.{server_of, Closes, StepsOut}
use Rattle.server.specs.Events.{PollsTaken}
use Rattle.server.proofs.ServerLaws.{slot_of_lem, ends_acted}
use Rattle.server.proofs.DoesLaws.{out_refused, out_taken}
use Rattle.slots.specs.declared.state.Slot.{Slot}

module _ (s : Server) (slots slots' : List Slot) (k now : ℕ) (before after out out' : List ℕ) (r : Answer) where
  pub polls_taken : (mid : List ℕ) (from : Alignment) (n : ℕ) → k < 8 → from ≡ (slot_in slots k).link.alignment
      → PollsAt k now (settings_of s.settings) slots slots' before mid out out' n → Closes false from s slots' k now mid after r.server
      → r ≡ record { server = r.server; outcome = Ok n } → PollsTaken k now s slots slots' before after out out' r
  polls_taken mid from n h e p c a = record {
    server = λ room. ends_acted s slots slots' before mid after (events.poll k now room) k now from r.server h refl refl refl (sym e) p.others
        p.acts.left c;
    outcome = ap (λ (x : Answer). code_number x.outcome) a;
    wrote = record { size = ap (λ (x : Answer). written_of x.outcome) a ∙ p.acts.wrote.size; octets = p.acts.wrote.octets };
  }

  pub polls : {A : Type 0} {x : A} (o : Result A Failure) → k < 8 → code_number o ≡ poll_code (server_of s slots before) k now (length out) → o ≡ Ok x
      → PollsTaken k now s slots slots' before after out out' r
      → StepsOut (events.poll k now (length out)) s slots slots' before after out out' r
  unfolding code_of
  polls o h c t p =
      out_taken (events.poll k now (length out)) s slots before o slots' after r out out' c t p.outcome (p.server (length out))
      (subst (λ (x : rules.Slot). Wrote (octets_of (poll_sent (settings_of s.settings) now (rows_in before) k x)) out out' (written_of r.outcome))
      (sym (slot_of_lem s slots before k h)) p.wrote)

pub poll_refused : {A : Type 0} (s : Server) (slots : List Slot) (k now : ℕ) (before out : List ℕ) (o : Result A Failure) (f : Failure) (r : Answer)
    → code_number o ≡ poll_code (server_of s slots before) k now (length out) → o ≡ Err f → r ≡ record { server = s; outcome = Err f }
    → StepsOut (events.poll k now (length out)) s slots slots before before out out r
unfolding code_of
poll_refused s slots k now before out o f r c t a = out_refused (events.poll k now (length out)) s slots before (λ n. refl) o f r out c t a
