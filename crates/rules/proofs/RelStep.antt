-- Server and history stay related at every event.
-- Assumes nothing.
use mathlib.Core.Path.{◌≡◌, refl, ap, ◌∙◌}
use mathlib.Core.Bool.{Bool, true, false}
use mathlib.Core.List.{List, [], ◌∷◌}
use Rattle.laws.specs.Tables.{none}
use Rattle.laws.proofs.Cells.{all_alike}
use Rattle.rules.specs.Server.{slots_most, Settings, Slot, fresh_slot, Server, fresh}
use Rattle.rules.specs.Events.{Event, code_of, counts, acted, server_if, step, item_of, run, items}
use Rattle.rules.specs.History.{History, slots_at, note_item, add_if, add, history_from, no_history}
use Rattle.rules.proofs.Relation.{Inv, Rel}
use Rattle.rules.proofs.Kept.{KeptCa, kept_step}
use Rattle.rules.proofs.SlotSim.{slots_act}
use Rattle.rules.proofs.Others.{slots_acted}
use Rattle.rules.proofs.RowActs.{sim_act}
use Rattle.rules.proofs.Invariant.{inv_step}
use Rattle.rules.proofs.UpdateCounts.{updates_act}

rel_acted : (c : Settings) (s : Server) (h : History) (e : Event) → Inv s → KeptCa s → Rel c s h → counts e (code_of s e) ≡ true
    → Rel c (acted s e) (note_item c h (item_of s e))
rel_acted c s h e v k r t =
    let slots = slots_act s c e k r.settings t h r.slots in
    record {
      settings = same_settings ∙ r.settings;
      slots = rw (slots_acted s e) slots;
      rows = sim_act s h c e v r.settings r.slots r.rows t slots;
      updates = updates_act s h e k t (slots_at c h (item_of s e)) r.slots slots r.updates;
    }
  where
    same_settings : (acted s e).settings ≡ s.settings
    same_settings = unfold acted in refl

rel_by : (c : Settings) (s : Server) (h : History) (e : Event) → Inv s → KeptCa s → Rel c s h → (b : Bool) → counts e (code_of s e) ≡ b
    → Rel c (server_if b s e) (add_if b c h (item_of s e))
rel_by c s h e v k r true t = rel_acted c s h e v k r t
rel_by c s h e v k r false t = r

pub rel_step : (c : Settings) (s : Server) (h : History) (e : Event) → Inv s → KeptCa s → Rel c s h → Rel c (step s e) (add c h (item_of s e))
unfolding step add
rel_step c s h e v k r = rel_by c s h e v k r (counts e (code_of s e)) refl

pub rel_run : (c : Settings) (s : Server) (h : History) (es : List Event) → Inv s → KeptCa s → Rel c s h → Rel c (run s es) (history_from c h (items s es))
rel_run c s h [] v k r = r
rel_run c s h (e ∷ es) v k r =
    rel_run c (step s e) (add c h (item_of s e)) es (inv_step s e v) (kept_step s e k) (rel_step c s h e v k r)

pub rel_fresh : (c : Settings) → Rel c (fresh c) no_history
rel_fresh c = record {
  settings = refl;
  slots = refl;
  rows = none;
  updates = λ k. ap (λ (x : Slot). x.updates) (all_alike fresh_slot slots_most k);
}
