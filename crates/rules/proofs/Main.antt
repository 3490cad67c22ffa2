-- Demand 3, for every settings accepted and every list of events.
-- Assumes nothing.
use mathlib.Core.Path.{◌≡◌}
use mathlib.Core.List.{List}
use Rattle.rules.specs.Server.{Settings, settings_code, fresh}
use Rattle.rules.specs.Events.{Event, run, items}
use Rattle.rules.specs.History.{history, no_history}
use Rattle.rules.specs.Demand3.{Demand3}
use Rattle.rules.proofs.Invariant.{inv_fresh, inv_run}
use Rattle.rules.proofs.RelStep.{rel_run, rel_fresh}
use Rattle.rules.proofs.Kept.{kept_fresh, kept_run}
use Rattle.rules.proofs.NeverFalls.{never_falls, keeps_row}
use Rattle.rules.proofs.Waits.{waits}
use Rattle.rules.proofs.Sent.{sent}
use Rattle.rules.proofs.Fair.{fair}
use Rattle.rules.proofs.Others.{others}

pub demand_3 : (c : Settings) → settings_code c ≡ 0 → (es : List Event) → Demand3 c (run (fresh c) es) (history c (items (fresh c) es))
demand_3 c accepted es =
    let s = run (fresh c) es in
    let h = history c (items (fresh c) es) in
    let v = inv_run (fresh c) es (inv_fresh c accepted) in
    let r = rel_run c (fresh c) no_history es (inv_fresh c accepted) (kept_fresh c) (rel_fresh c) in
    let k = kept_run (fresh c) es (kept_fresh c) in
    record {
      entries = r.rows;
      once = v.rows.once;
      never_falls = never_falls c s h v r k;
      keeps_row = keeps_row c s h v r k;
      freed = v.freed;
      waits = waits s.rows h.entries r.rows;
      sent = sent s h c v r k;
      fair = fair c s h v r k;
      updates = r.updates;
      others = others s;
    }
