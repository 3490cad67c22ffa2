-- A poll: the Hello check, the kept CA dropped, then the first that is due. Where the check empties the slot's marks, what is due does not look at them.
-- Assumes nothing.
use Prim.Native.Nat.{ℕ, ◌<◌}
use mathlib.Core.Path.{◌≡◌, refl, sym, ap, subst, ◌∙◌}
use mathlib.Core.Bool.{Bool, true, false, ◌&&◌}
use mathlib.Core.Logic.{◌⊎◌, inl, inr}
use mathlib.Core.List.{List, []}
use Rattle.laws.specs.Choice.{pick}
use Rattle.protocol.specs.declared.HelloState.{HelloState}
use Rattle.protocol.specs.declared.HelloState.TheVariants.{Waiting}
use Rattle.protocol.specs.declared.Alignment.{Alignment}
use Rattle.protocol.specs.declared.Alignment.TheVariants.{Down}
use Rattle.protocol.specs.declared.Link.{Link}
use Rattle.protocol.specs.Hello.{stale}
use Rattle.rules.specs.Server as rules
use Rattle.rules.specs.Server.{Row}
use Rattle.rules.specs.Links.{hears_peer, is_past, enters, to_other, check_move}
use Rattle.rules.specs.Rows.{cleared_if}
use Rattle.rules.specs.Slots.{passed, with_kept}
use Rattle.rules.specs.Sent.{Sent, octets_of}
use Rattle.rules.specs.Poll as poll
use Rattle.rules.specs.Poll.{ca_interval, due_in, due_slot, due_sent, kept_dropped, checked, poll_slot, poll_sent}
use Rattle.rules.proofs.PastLaws.{enters_same, moved_link}
use Rattle.memory.specs.Memory.{rows_in, memory_of, kept_put}
use Rattle.slots.specs.declared.state.Slot.{Slot}
use Rattle.std.specs.Prelude.{Option}
use Rattle.actions.specs.declared.due.Due.{Due}
use Rattle.table.specs.Slots.{slot_in}
use Rattle.writer.specs.Write.{Wrote}
use Rattle.actions.specs.Parts.{slot_with, slot_now, Leaves, MovesAt, ActsAt}
use Rattle.actions.specs.Steps.{due_as, Plans, PollsAt}
use Rattle.actions.proofs.PartLaws.{left_rows, left_slot, leaves_as, leaves_then, leaves_same, leaves_kept}

-- ---- the Hello check, by what is read of the link
module _ (l : Link) (time : ℕ) (h : HelloState) (heard : Bool) (e : heard ≡ hears_peer h) (f : h ≡ l.hello) where
  told : (b : Bool) → heard ≡ b → hears_peer l.hello ≡ b
  told b t = ap hears_peer (sym f) ∙ sym e ∙ t

  pub stale_heard : (i n t : ℕ) (r : Bool) → heard ≡ true → i ≡ l.interval → n ≡ l.factor → t ≡ l.heard → r ≡ stale i n t time
      → r ≡ (hears_peer l.hello && stale l.interval l.factor l.heard time)
  stale_heard i n t r b p q u v = rw (told true b, sym p, sym q, sym u) v

  pub stale_not : heard ≡ false → false ≡ (hears_peer l.hello && stale l.interval l.factor l.heard time)
  stale_not b = rw (told false b)

-- the link then
pub check_still : (time : ℕ) (l : Link) (b : Bool) → b ≡ (hears_peer l.hello && stale l.interval l.factor l.heard time) → b ≡ false → l
    ≡ check_move time l
check_still time l b e f = rw (sym e ∙ f)

pub check_stale : (time : ℕ) (l : Link) (b : Bool) → b ≡ (hears_peer l.hello && stale l.interval l.factor l.heard time) → b ≡ true
    → to_other Waiting l ≡ check_move time l
check_stale time l b e f = rw (sym e ∙ f)

-- ---- the kept CA
module _ (k : ℕ) (x : Slot) (m : List ℕ) (past old : Bool) where
  abbrev dropped : rules.Slot
  dropped = pick (past && old) (with_kept [] (slot_with x k m)) (slot_with x k m)

  pub drop_early : past ≡ false → Leaves k dropped (rows_in m) m m x
  drop_early e = leaves_same k dropped m x (rw e)

  pub drop_young : past ≡ true → old ≡ false → Leaves k dropped (rows_in m) m m x
  drop_young e f = leaves_same k dropped m x (rw (e, f))

  pub drop_done : (m' : List ℕ) → past ≡ true → old ≡ true → memory_of m' ≡ kept_put k [] (memory_of m) → Leaves k dropped (rows_in m) m m' x
  drop_done m' e f h = leaves_kept k dropped m m' x [] h (rw (e, f))

-- ---- the link of the slot after each part
kept_link : (y : rules.Slot) (b : Bool) → (pick b (with_kept [] y) y).link ≡ y.link
kept_link y true = refl
kept_link y false = refl

by_link : (d : poll.Due) (s : rules.Settings) (now : ℕ) (rows : List Row) (k : ℕ) (y : rules.Slot) → (due_slot d s now rows k y).link ≡ y.link
by_link poll.nothing_due s now rows k y = refl
by_link poll.a_hello s now rows k y = refl
by_link poll.first_ca s now rows k y = refl
by_link poll.kept_ca s now rows k y = refl
by_link poll.a_csus s now rows k y = refl
by_link poll.an_update s now rows k y = refl

-- ---- the check enters nothing, or Down
tells : (l : Link) (b : Bool) → (enters l.alignment (pick b (to_other Waiting l) l).alignment ≡ false) ⊎ ((pick b (to_other Waiting l) l).alignment ≡ Down)
tells l true = inr refl
tells l false = inl (enters_same l.alignment)

-- ---- what is due, over other rows
module _ (s : rules.Settings) (now k : ℕ) (y : rules.Slot) (rows rows' : List Row) where
  -- the same is due, and does the same
  abbrev SameBy : poll.Due → poll.Due → Type 0
  SameBy d d' = (due_slot d' s now rows' k y ≡ due_slot d s now rows k y) × (due_sent d' s rows' k y ≡ due_sent d s rows k y)

  abbrev Same : Type 0
  Same = SameBy (poll.due_of s now rows k y) (poll.due_of s now rows' k y)

  same_rows : rows' ≡ rows → Same
  same_rows e = (λ i. due_slot (poll.due_of s now (e i) k y) s now (e i) k y, λ i. due_sent (poll.due_of s now (e i) k y) s (e i) k y)

  down_by : (b : Bool) → SameBy (pick b poll.a_hello (due_in now rows k y Down)) (pick b poll.a_hello (due_in now rows' k y Down))
  down_by true = (refl, refl)
  down_by false = (refl, refl)

  same_down : y.link.alignment ≡ Down → Same
  same_down e =
      let b : Bool = passed s.interval y.timers.hello now in
      subst (λ (a : Alignment). SameBy (pick b poll.a_hello (due_in now rows k y a)) (pick b poll.a_hello (due_in now rows' k y a))) (sym e) (down_by b)

-- ---- after the check
module _ (s : rules.Settings) (now k : ℕ) (rows : List Row) (x : rules.Slot) where
  abbrev entered : Bool
  entered = enters x.link.alignment (check_move now x.link).alignment

  abbrev left : rules.Slot
  left = kept_dropped now (checked now x)

  left_link : left.link ≡ check_move now x.link
  left_link =
      let y : rules.Slot = checked now x in
      kept_link y (is_past y.link.alignment && passed ca_interval y.timers.ca now) ∙ moved_link (check_move now x.link) x

  poll_link : (poll_slot s now rows k x).link ≡ check_move now x.link
  poll_link = by_link (poll.due_of s now rows k left) s now rows k left ∙ left_link

  same_by : (entered ≡ false) ⊎ ((check_move now x.link).alignment ≡ Down) → Same s now k left rows (cleared_if entered k rows)
  same_by (inl e) = same_rows s now k left rows (cleared_if entered k rows) (ap (λ (b : Bool). cleared_if b k rows) e)
  same_by (inr e) = same_down s now k left rows (cleared_if entered k rows) (ap (λ (l : Link). l.alignment) left_link ∙ e)

  same : Same s now k left rows (cleared_if entered k rows)
  same = same_by (tells x.link (hears_peer x.link.hello && stale x.link.interval x.link.factor x.link.heard now))

-- ---- the event
module _ (s : rules.Settings) (now k : ℕ) (t₀ t₁ t₂ : List Slot) (m₀ m₁ m₂ m₃ out out' : List ℕ) (d : Option Due) (n : ℕ) (h : k < 8) where
  abbrev rows : List Row
  rows = rows_in m₀

  abbrev slot : rules.Slot
  slot = slot_now t₀ k m₀

  pub polled : MovesAt k (check_move now (slot_in t₀ k).link) t₀ t₁ m₀ m₁ → Leaves k (kept_dropped now (slot_now t₁ k m₁)) (rows_in m₁) m₁ m₂ (slot_in t₁ k)
      → Plans (poll.due_of s now (rows_in m₂) k (slot_now t₁ k m₂)) k (slot_in t₁ k) m₂ d
      → ActsAt k (due_slot (due_as d) s now (rows_in m₂) k (slot_now t₁ k m₂)) (rows_in m₂)
      (octets_of (due_sent (due_as d) s (rows_in m₂) k (slot_now t₁ k m₂))) t₁ t₂ m₂ m₃ out out' n
      → PollsAt k now s t₀ t₂ m₀ m₃ out out' n
  polled a b c e =
      let y₂ : slot_now t₁ k m₂ ≡ left s now k rows slot = left_slot b h ∙ ap (kept_dropped now) (left_slot a.moves h) in
      let r₂ : rows_in m₂ ≡ cleared_if (entered s now k rows slot) k rows = left_rows b ∙ left_rows a.moves in
      let due : due_as d ≡ poll.due_of s now (cleared_if (entered s now k rows slot) k rows) k (left s now k rows slot) =
      c.which ∙ (λ i. poll.due_of s now (r₂ i) k (y₂ i)) in
      let g = same s now k rows slot in
      let to : due_slot (due_as d) s now (rows_in m₂) k (slot_now t₁ k m₂) ≡ poll_slot s now rows k slot = (λ i. due_slot (due i) s now (r₂ i) k (y₂ i))
      ∙ g.0 in
      let what : due_sent (due_as d) s (rows_in m₂) k (slot_now t₁ k m₂) ≡ poll_sent s now rows k slot =
      (λ i. due_sent (due i) s (r₂ i) k (y₂ i)) ∙ g.1 in
      let cleared = ap (λ (l : Link). cleared_if (enters slot.link.alignment l.alignment) k rows) (sym (poll_link s now k rows slot)) in
      record {
        acts = record {
          left = leaves_as (leaves_then (leaves_then a.moves b) e.acts.left) _ _ to (r₂ ∙ cleared);
          wrote = subst (λ (z : Sent). Wrote (octets_of z) out out' n) what e.acts.wrote;
        };
        others = λ j q. e.others j q ∙ a.others j q;
      }
