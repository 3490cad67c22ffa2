-- Whatever a host did, its calls are a list of typed events from the fresh server: so demand 3 holds of what it holds.
-- Assumes nothing.
use Prim.Native.Nat.{ℕ, zero, suc}
use mathlib.Core.Path.{◌≡◌, refl, sym, ap, ◌∙◌, subst}
use mathlib.Core.Bool.{Bool, true, false, false≢true}
use mathlib.Core.List.{List, [], ◌∷◌, ◌++◌}
use mathlib.Core.Logic.{◌⊎◌}
use lib.ListN.{take}
use Rattle.laws.specs.Lists.{All}
use Rattle.laws.proofs.Puts.{take_written}
use Rattle.laws.proofs.Each.{all_append}
use Rattle.rules.specs.Server as rules
use Rattle.rules.specs.Server.{settings_code, fresh}
use Rattle.rules.specs.Sent.{nothing, octets_of}
use Rattle.rules.specs.Events as events
use Rattle.rules.specs.Events.{Event, add_peer, link_up, link_down, packet, poll, withdraw, purge, code_of, counts, sent_by, sent_if, step, written_at, Item}
use Rattle.rules.specs.Events.{item_of, run, items}
use Rattle.rules.specs.Typed.{TypedSettings, TypedEvent}
use Rattle.rules.specs.History.{history}
use Rattle.rules.specs.Demand3.{Demand3}
use Rattle.rules.specs.Written.{WrotePacket}
use Rattle.rules.proofs.Typed.{TypedServer}
use Rattle.rules.proofs.TypedRun.{accepted_settings, typed_fresh, typed_run}
use Rattle.rules.proofs.WrittenPacket.{written_packet}
use Rattle.rules.proofs.Main.{demand_3}
use Rattle.slots.specs.declared.state.Settings.{Settings}
use Rattle.slots.specs.declared.state.Server.{Server}
use Rattle.slots.specs.Codes.{code_number, written_of}
use Rattle.slots.specs.State.{settings_of}
use Rattle.server.specs.declared.answers.Answer.{Answer}
use Rattle.server.specs.State.{server_of, StepsOut, Does, DoesOut}
use Rattle.server.specs.Hosts.{uses_out, seen, Hosted, started, called, wrote, HostHolds}
use Rattle.slots.specs.declared.state.Slot.{Slot}

-- ---- one more event
run_more : (s : rules.Server) (es : List Event) (e : Event) → run s (es ++ (e ∷ [])) ≡ step (run s es) e
run_more s [] e = refl
run_more s (x ∷ es) e = run_more (step s x) es e

items_more : (s : rules.Server) (es : List Event) (e : Event) → items s (es ++ (e ∷ [])) ≡ items s es ++ (item_of (run s es) e ∷ [])
items_more s [] e = refl
items_more s (x ∷ es) e = ap (λ l. item_of s x ∷ l) (items_more (step s x) es e)

-- an event with no out buffer writes nothing
pub silent : (s : rules.Server) (e : Event) → uses_out e ≡ false → written_at s e ≡ []
unfolding written_at
silent s e u = by (counts e (code_of s e)) where
  sends : (e : Event) → uses_out e ≡ false → sent_by s e ≡ nothing
  sends (add_peer k id) v = refl
  sends (link_up k now) v = refl
  sends (link_down k now) v = refl
  sends (packet k now p room) v = absurd (false≢true (sym v))
  sends (poll k now room) v = absurd (false≢true (sym v))
  sends (events.set key payload) v = refl
  sends (withdraw key) v = refl
  sends (purge key) v = refl

  by : (b : Bool) → octets_of (sent_if b s e) ≡ []
  by true = ap octets_of (sends e u)
  by false = refl

-- ---- what the host saw is the item of the rules
take_none : (n : ℕ) → take {A = ℕ} n [] ≡ []
take_none zero = refl
take_none (suc n) = refl

seen_out : {e : Event} {s : Server} {slots slots' : List Slot} {before after out out' : List ℕ} {r : Answer} → StepsOut e s slots slots' before after out out' r
    → take (written_of r.outcome) out' ≡ written_at (server_of s slots before) e
seen_out {e} {s} {slots} {slots'} {before} {after} {out} {out'} {r} d =
    ap (take (written_of r.outcome)) d.octets ∙ take_written (written_at (server_of s slots before) e) out (written_of r.outcome) d.steps.size

item_of_lem : (x : rules.Server) (e : Event) (c : ℕ) (w : List ℕ) → c ≡ code_of x e → w ≡ written_at x e
    → record { event = e; code = c; written = w } ≡ item_of x e
item_of_lem x e c w p q = λ i. record { event = e; code = p i; written = q i }

-- so a call is one more item
pub hosted_call : {c : Settings} {s : Server} {slots slots' : List Slot} {before after : List ℕ} {is : List Item} {e : Event} {r : Answer}
    → Hosted c s slots before is → uses_out e ≡ false → Does e s slots slots' before after r
    → Hosted c r.server slots' after (is ++ (item_of (server_of s slots before) e ∷ []))
hosted_call {c} {s} {slots} {slots'} {before} {after} {is} {e} {r} h u d =
    subst (λ (i : Item). Hosted c r.server slots' after (is ++ (i ∷ [])))
    (item_of_lem (server_of s slots before) e (code_number r.outcome) (take (written_of r.outcome) []) d.steps.code
    (take_none (written_of r.outcome) ∙ sym (silent (server_of s slots before) e u))) (called h u d)

pub hosted_out : {c : Settings} {s : Server} {slots slots' : List Slot} {before after out out' : List ℕ} {is : List Item} {e : Event} {r : Answer}
    → Hosted c s slots before is → DoesOut e s slots slots' before after out out' r
    → Hosted c r.server slots' after (is ++ (item_of (server_of s slots before) e ∷ []))
hosted_out {c} {s} {slots} {slots'} {before} {after} {out} {out'} {is} {e} {r} h d =
    subst (λ (i : Item). Hosted c r.server slots' after (is ++ (i ∷ [])))
    (item_of_lem (server_of s slots before) e (code_number r.outcome) (take (written_of r.outcome) out') d.steps.steps.code (seen_out d.steps)) (wrote h d)

-- ---- a host's calls are a list of events
record Told (c : Settings) (s : rules.Server) (is : List Item) : Type 0 where
  accepted : settings_code (settings_of c) ≡ 0
  settings : TypedSettings (settings_of c)
  events : List Event
  typed : All TypedEvent events
  server : s ≡ run (fresh (settings_of c)) events
  saw : is ≡ items (fresh (settings_of c)) events

more : (c : Settings) (s s' : rules.Server) (is : List Item) (e : Event) (i : Item) → Told c s is → TypedEvent e → s' ≡ step s e → i ≡ item_of s e
    → Told c s' (is ++ (i ∷ []))
more c s s' is e i t u p q = record {
  accepted = t.accepted;
  settings = t.settings;
  events = t.events ++ (e ∷ []);
  typed = all_append TypedEvent t.events (e ∷ []) t.typed (u, tt);
  server = p ∙ ap (λ x. step x e) t.server ∙ sym (run_more (fresh (settings_of c)) t.events e);
  saw = (λ j. t.saw j ++ ((q ∙ ap (λ x. item_of x e) t.server) j ∷ [])) ∙ sym (items_more (fresh (settings_of c)) t.events e);
}

told : {c : Settings} {s : Server} {slots : List Slot} {memory : List ℕ} {is : List Item} → Hosted c s slots memory is → Told c (server_of s slots memory) is
told {c} (started {r = r} d t) =
    let z : settings_code (settings_of c) ≡ 0 = sym d.code ∙ t in
    record { accepted = z; settings = d.typed; events = []; typed = tt; server = d.server z; saw = refl }
told {c} (called {s} {slots} {slots'} {before} {after} {is} {e} {r} h u d) =
    more c (server_of s slots before) (server_of r.server slots' after) is e (seen e r []) (told h) d.typed d.steps.server
    (item_of_lem (server_of s slots before) e (code_number r.outcome) (take (written_of r.outcome) []) d.steps.code
    (take_none (written_of r.outcome) ∙ sym (silent (server_of s slots before) e u)))
told {c} (wrote {s} {slots} {slots'} {before} {after} {out} {out'} {is} {e} {r} h d) =
    more c (server_of s slots before) (server_of r.server slots' after) is e (seen e r out') (told h) d.typed d.steps.steps.server
    (item_of_lem (server_of s slots before) e (code_number r.outcome) (take (written_of r.outcome) out') d.steps.steps.code (seen_out d.steps))

-- ---- so it holds what is claimed
told_typed : {c : Settings} {s : rules.Server} {is : List Item} → Told c s is → TypedServer s
told_typed {c} t =
    subst TypedServer (sym t.server)
    (typed_run (fresh (settings_of c)) t.events t.typed (typed_fresh (settings_of c) (accepted_settings (settings_of c) t.accepted t.settings)))

told_demand : (c : Settings) (s : rules.Server) (is : List Item) → Told c s is → Demand3 (settings_of c) s (history (settings_of c) is)
told_demand c s is t =
    subst (λ (x : rules.Server). Demand3 (settings_of c) x (history (settings_of c) is)) (sym t.server)
    (subst (λ (js : List Item). Demand3 (settings_of c) (run (fresh (settings_of c)) t.events) (history (settings_of c) js)) (sym t.saw)
    (demand_3 (settings_of c) t.accepted t.events))

pub host_holds : {c : Settings} {s : Server} {slots : List Slot} {memory : List ℕ} {is : List Item} → Hosted c s slots memory is → HostHolds c s slots memory is
host_holds {c} {s} {slots} {memory} {is} h =
    let t = told h in
    record {
      demand = told_demand c (server_of s slots memory) is t;
      packets = λ {slots'} {after} {out} {out'} {e} {r} d.
          subst (λ p. (p ≡ []) ⊎ WrotePacket (server_of s slots memory) e p) (sym (seen_out d.steps))
          (written_packet (server_of s slots memory) e (told_typed t) d.typed);
    }
