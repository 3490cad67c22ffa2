-- The links of a slot move alike, and show the same, whether or not Aligned is told from Update; a slot moved has the link that it is moved to.
-- Assumes nothing.
use Prim.Native.Nat.{ℕ}
use mathlib.Core.Path.{◌≡◌, refl, ap, ◌∙◌, fun_ext}
use mathlib.Core.Bool.{Bool, true, false, ◌&&◌, ◌||◌, false≢true}
use mathlib.Core.List.{List, map}
use lib.ListN.{get_or, get_or-map}
use Rattle.laws.specs.Lists.{is_empty}
use Rattle.laws.proofs.Bools.{pick_of, pick_ap}
use Rattle.protocol.specs.declared.Role.{Role}
use Rattle.protocol.specs.declared.Role.TheVariants.{Master, Slave}
use Rattle.protocol.specs.declared.Alignment.{Alignment}
use Rattle.protocol.specs.declared.Alignment.TheVariants.{Down, Negotiate, Summarize, Update, Aligned}
use Rattle.protocol.specs.declared.Link.{Link}
use Rattle.rules.specs.Server.{Slot, fresh_slot}
use Rattle.rules.specs.Links.{is_live, is_past, is_down, is_bidirectional, hears_peer, enters, with_alignment, recorded, negotiating, up_move, down_move}
use Rattle.rules.specs.Links.{hello_move, malformed_move, check_move, CaIn, CaRule, refuse_ca, become_slave, become_master, repeat, slave_on, master_on}
use Rattle.rules.specs.Links.{master_done, ignore, restart, past_rule, rule_in, ca_rule, ca_move}
use Rattle.protocol.specs.Hello.{stale}
use Rattle.rules.specs.Slots.{with_link, emptied, moved, aligned_if, completed}
use Rattle.rules.specs.Events.{alignment_at, live_in}
use Rattle.rules.specs.SlotHistory.{SlotHistory, slot_history_at, state_at, live_states}
use Rattle.rules.proofs.Relation.{past_as, past_link, seen_of}

-- ---- tests and rules do not tell Aligned from Update
pub past_twice : (a : Alignment) → past_as (past_as a) ≡ past_as a
past_twice Down = refl
past_twice Negotiate = refl
past_twice (Summarize r) = refl
past_twice Update = refl
past_twice Aligned = refl

pub live_past : (a : Alignment) → is_live (past_as a) ≡ is_live a
live_past Down = refl
live_past Negotiate = refl
live_past (Summarize r) = refl
live_past Update = refl
live_past Aligned = refl

pub past_past : (a : Alignment) → is_past (past_as a) ≡ is_past a
past_past Down = refl
past_past Negotiate = refl
past_past (Summarize r) = refl
past_past Update = refl
past_past Aligned = refl

enters_from : (a b : Alignment) → enters (past_as a) b ≡ enters a b
enters_from Down b = refl
enters_from Negotiate b = refl
enters_from (Summarize r) b = refl
enters_from Update b = refl
enters_from Aligned Down = refl
enters_from Aligned Negotiate = refl
enters_from Aligned (Summarize r) = refl
enters_from Aligned Update = refl
enters_from Aligned Aligned = refl

enters_to : (a b : Alignment) → enters a (past_as b) ≡ enters a b
enters_to a Down = refl
enters_to a Negotiate = refl
enters_to a (Summarize r) = refl
enters_to a Update = refl
enters_to Down Aligned = refl
enters_to Negotiate Aligned = refl
enters_to (Summarize r) Aligned = refl
enters_to Update Aligned = refl
enters_to Aligned Aligned = refl

pub enters_past : (a b : Alignment) → enters (past_as a) (past_as b) ≡ enters a b
enters_past a b = enters_from a (past_as b) ∙ enters_to a b

role_past : (c : CaIn) (kept : Bool) (l : Link) (b : Alignment) (r : Role) → past_rule c kept (with_alignment b l) r ≡ past_rule c kept l r
role_past c kept l b Slave = refl
role_past c kept l b Master = refl

past_rule_past : (id : List ℕ) (c : CaIn) (kept : Bool) (l : Link) (a b : Alignment) → rule_in id c kept (with_alignment b l) (past_as a) ≡ rule_in id c kept l a
past_rule_past id c kept l Down b = refl
past_rule_past id c kept l Negotiate b = refl
past_rule_past id c kept l (Summarize Slave) b = refl
past_rule_past id c kept l (Summarize Master) b = refl
past_rule_past id c kept l Update b = role_past c kept l b l.role
past_rule_past id c kept l Aligned b = role_past c kept l b l.role

pub rule_past : (id : List ℕ) (c : CaIn) (kept : Bool) (l : Link) → ca_rule id c kept (past_link l) ≡ ca_rule id c kept l
rule_past id c kept l = past_rule_past id c kept l l.alignment (past_as l.alignment)

-- ---- the moves of a link
pub negotiating_past : (l : Link) → past_link (negotiating l) ≡ negotiating (past_link l)
negotiating_past l = refl

pub up_past : (l : Link) → past_link (up_move l) ≡ up_move (past_link l)
up_past l = pick_ap past_link (is_down l.hello) _ l

pub down_past : (l : Link) → past_link (down_move l) ≡ down_move (past_link l)
down_past l = refl

pub malformed_past : (l : Link) → past_link (malformed_move l) ≡ malformed_move (past_link l)
malformed_past l = refl

pub check_past : (now : ℕ) (l : Link) → past_link (check_move now l) ≡ check_move now (past_link l)
check_past now l = pick_ap past_link (hears_peer l.hello && stale l.interval l.factor l.heard now) _ l

pub hello_past : (now i f : ℕ) (named : Bool) (l : Link) → past_link (hello_move now i f named l) ≡ hello_move now i f named (past_link l)
hello_past now i f true l = pick_ap past_link (is_bidirectional l.hello) (recorded now i f l) _
hello_past now i f false l = refl

pub ca_past : (u : CaRule) (c : CaIn) (more : Bool) (l : Link) → past_link (ca_move u c more l) ≡ ca_move u c more (past_link l)
ca_past refuse_ca c more l = refl
ca_past become_slave c more l = refl
ca_past become_master c more l = refl
ca_past repeat c more l = refl
ca_past slave_on c more l = ap (λ a. with_alignment a (ca_move slave_on c more l)) (pick_ap past_as (c.head.flags.more || more) (Summarize Slave) Update)
ca_past master_on c more l = refl
ca_past master_done c more l = refl
ca_past ignore c more l = refl
ca_past restart c more l = refl

-- ---- the link of a slot
-- no state is entered from itself
pub enters_same : (a : Alignment) → enters a a ≡ false
enters_same Down = refl
enters_same Negotiate = refl
enters_same (Summarize r) = refl
enters_same Update = refl
enters_same Aligned = refl

-- a live state is not entered so that lists are emptied
pub not_entered : (a b : Alignment) → is_live b ≡ true → enters a b ≡ false
not_entered a Down h = absurd (false≢true h)
not_entered a Negotiate h = absurd (false≢true h)
not_entered Down (Summarize r) h = refl
not_entered Negotiate (Summarize r) h = refl
not_entered (Summarize q) (Summarize r) h = refl
not_entered Update (Summarize r) h = refl
not_entered Aligned (Summarize r) h = refl
not_entered Down Update h = refl
not_entered Negotiate Update h = refl
not_entered (Summarize q) Update h = refl
not_entered Update Update h = refl
not_entered Aligned Update h = refl
not_entered Down Aligned h = refl
not_entered Negotiate Aligned h = refl
not_entered (Summarize q) Aligned h = refl
not_entered Update Aligned h = refl
not_entered Aligned Aligned h = refl

pub moved_link : (l : Link) (x : Slot) → (moved l x).link ≡ l
moved_link l x = pick_of (λ (y : Slot). y.link ≡ l) (enters x.link.alignment l.alignment) (emptied (with_link l x)) (with_link l x) refl refl

aligned_past : (b : Bool) (a : Alignment) → past_as (aligned_if b a) ≡ past_as a
aligned_past b Down = refl
aligned_past b Negotiate = refl
aligned_past b (Summarize r) = refl
aligned_past true Update = refl
aligned_past false Update = refl
aligned_past b Aligned = refl

pub completed_link : (x : Slot) → past_link (completed x).link ≡ past_link x.link
completed_link x = ap (λ a. with_alignment a x.link) (aligned_past (is_empty x.requests) x.link.alignment)

-- ---- the slots that the history has
pub seen_at : (slots : List Slot) (k : ℕ) → slot_history_at (map seen_of slots) k ≡ seen_of (get_or slots k fresh_slot)
seen_at slots k = get_or-map seen_of slots k fresh_slot

pub state_at_lem : (slots : List Slot) (k : ℕ) → state_at (map seen_of slots) k ≡ past_as (alignment_at slots k)
state_at_lem slots k = ap (λ (x : SlotHistory). x.link.alignment) (seen_at slots k)

-- it sees the slots that puts go to, and the entering of Down or Negotiate
pub live_states_lem : (slots : List Slot) → live_states (map seen_of slots) ≡ live_in slots
live_states_lem slots = fun_ext (λ k. ap is_live (state_at_lem slots k) ∙ live_past (alignment_at slots k))

pub enters_states : (before after : List Slot) (k : ℕ)
    → enters (state_at (map seen_of before) k) (state_at (map seen_of after) k) ≡ enters (alignment_at before k) (alignment_at after k)
enters_states before after k =
    (λ i. enters (state_at_lem before k i) (state_at_lem after k i)) ∙ enters_past (alignment_at before k) (alignment_at after k)
