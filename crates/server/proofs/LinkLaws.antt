-- Link up and link down: what is left of the slot, and the whole event.
-- Assumes nothing.
use Prim.Native.Nat.{ℕ, ◌<◌}
use mathlib.Core.Path.{◌≡◌, refl, sym, ap, ◌∙◌}
use mathlib.Core.Bool.{Bool, true, false}
use mathlib.Core.List.{List, []}
use lib.ListN.{length}
use Rattle.laws.specs.Choice.{pick}
use Rattle.std.specs.Prelude.{None}
use Rattle.protocol.specs.declared.Link.{Link}
use Rattle.protocol.specs.declared.Alignment.{Alignment}
use Rattle.protocol.specs.declared.HelloState.TheVariants.{Waiting}
use Rattle.rules.specs.Server as rules
use Rattle.rules.specs.Server.{Row, Request}
use Rattle.rules.specs.Links.{is_down, enters, to_other, up_move, down_move}
use Rattle.rules.specs.Rows.{cleared_if}
use Rattle.rules.specs.Slots.{moved, hello_sent}
use Rattle.rules.specs.Sent.{octets_of}
use Rattle.rules.specs.Events.{Event, in_slot, place_of, empties_in, changes_rows, up_slot, time_after, code_of, sent_by}
use Rattle.rules.proofs.PastLaws.{enters_same, moved_link}
use Rattle.memory.specs.Memory.{rows_in}
use Rattle.slots.specs.declared.state.Slot.{Slot}
use Rattle.slots.specs.declared.state.Server.{Server}
use Rattle.slots.specs.declared.answers.Failure.{Failure}
use Rattle.std.specs.Prelude.{Result, Ok}
use Rattle.slots.specs.Codes.{code_number, written_of}
use Rattle.slots.specs.State.{slot_of}
use Rattle.table.specs.Slots.{slot_in, Changes}
use Rattle.actions.specs.Parts.{slot_with, Leaves, Moves, MovesAt}
use Rattle.actions.proofs.PartLaws.{leaves_struct, leaves_as, leaves_same}
use Rattle.server.specs.declared.answers.Answer.{Answer}
use Rattle.server.specs.State.{server_of, Steps, Closes}
use Rattle.server.specs.Events.{Ups}
use Rattle.server.proofs.ServerLaws.{LeavesBy, ends_acted}
use Rattle.server.proofs.DoesLaws.{does_taken}

-- ---- the slot
module _ (k : ℕ) (x : Slot) (before : List ℕ) where
  abbrev was : rules.Slot
  was = slot_with x k before

  -- the rows, by the link that the slot is left with
  abbrev cleared : Link → List Row
  cleared l = cleared_if (enters x.link.alignment l.alignment) k (rows_in before)

  abbrev LeavesUp : List ℕ → Slot → Type 0
  LeavesUp after r = Leaves k (up_slot was) (cleared (up_slot was).link) before after r

  pub up_leaves : (after : List ℕ) (l : Link) (y r : Slot) → is_down x.link.hello ≡ true → l ≡ up_move x.link → Moves k l x before after y
      → ((qs : List Request) (kept : List ℕ) → slot_of r qs kept ≡ hello_sent None (slot_of y qs kept)) → LeavesUp after r
  up_leaves after l y r d e m t =
      let new : rules.Slot = hello_sent None (moved l was) in
      let is : new ≡ up_slot was =
      ap (λ (h : Link). hello_sent None (moved h was)) e ∙ sym (ap (λ (b : Bool). pick b (hello_sent None (moved (up_move x.link) was)) was) d) in
      leaves_as (leaves_struct m r new (t (moved l was).requests (moved l was).kept ∙ ap (hello_sent None) m.struct)) (up_slot was)
      (cleared (up_slot was).link) is
      (ap cleared (sym (moved_link l was) ∙ ap (λ (s : rules.Slot). s.link) is))

  pub up_stays : is_down x.link.hello ≡ false → LeavesUp before x
  up_stays d =
      let is : was ≡ up_slot was = sym (ap (λ (b : Bool). pick b (hello_sent None (moved (up_move x.link) was)) was) d) in
      leaves_as (leaves_same k was before x refl) (up_slot was) (cleared (up_slot was).link) is
      (sym (ap (λ (b : Bool). cleared_if b k (rows_in before)) (enters_same x.link.alignment)) ∙ ap (λ (s : rules.Slot). cleared s.link) is)

  pub down_leaves : (after : List ℕ) (r : Slot) → Moves k (down_move x.link) x before after r
      → Leaves k (moved (down_move x.link) was) (cleared (moved (down_move x.link) was).link) before after r
  down_leaves after r m =
      let l : Link = down_move x.link in
      leaves_as m (moved l was) (cleared (moved l was).link) refl (ap cleared (sym (moved_link l was)))

-- in the table
module _ (k : ℕ) (t : List Slot) (before : List ℕ) where
  pub up_put : (mid t' : List Slot) (after : List ℕ) → is_down (slot_in t k).link.hello ≡ true → MovesAt k (to_other Waiting (slot_in t k).link) t mid before after
      → Changes k (hello_sent None) mid t' → Ups k t t' before after
  up_put mid t' after d m c =
      let l : Link = (slot_in t k).link in (
        up_leaves k (slot_in t k) before after (to_other Waiting l) (slot_in mid k) (slot_in t' k) d (sym (ap (λ (b : Bool). pick b (to_other Waiting l) l) d))
            m.moves c.slot,
        λ j q. c.others j q ∙ m.others j q,
      )

  pub up_still : is_down (slot_in t k).link.hello ≡ false → Ups k t t before before
  up_still d = (up_stays k (slot_in t k) before d, λ j q. refl)

-- ---- the whole, of an event in a slot that writes nothing
pub does_silent : {A : Type 0} {x : A} (e : Event) (s : Server) (slots slots' : List Slot) (k now : ℕ)
    (before mid after : List ℕ) (o : Result A Failure) (from : Alignment) (r : Answer)
    → k < 8
    → place_of e ≡ in_slot k → empties_in e ≡ in_slot k → now ≡ time_after e s.time → octets_of (sent_by (server_of s slots before) e) ≡ []
    → code_number o ≡ code_of (server_of s slots before) e → o ≡ Ok x → from ≡ (slot_in slots k).link.alignment
    → ((j : ℕ) → (j ≡ k → ⊥) → slot_in slots' j ≡ slot_in slots j) → LeavesBy e s slots k (slot_in slots k) before mid (slot_in slots' k)
    → Closes (changes_rows e) from s slots' k now mid after r.server → r ≡ record { server = r.server; outcome = Ok 0 }
    → Steps e s slots slots' before after r
does_silent e s slots slots' k now before mid after o from r h p v t n c u f q l w a =
    does_taken e s slots before o slots' after r c u (ap (λ (x : Answer). code_number x.outcome) a)
    (ends_acted s slots slots' before mid after e k now from r.server h p v t (sym f) q l w)
    (ap (λ (x : Answer). written_of x.outcome) a ∙ sym (ap length n))
