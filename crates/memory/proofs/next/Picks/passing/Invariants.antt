-- So far those picked and the next four from `at` on are the next four from `from` on.
use Rattle.std.proofs.Common.{◌≡◌, ℕ, ◌-◌, ◌%◌, ◌<◌, ◌≤◌, Bool}
use Rattle.protocol.specs.declared.Index.{Index}
use Rattle.memory.proofs.Picking.{Gone}
use Rattle.rules.specs.Rows.{next}
use Rattle.memory.proofs.next.Picks.passing.Given as goal

abbrev pub invariant-loop-at : goal.invariant-loop-at
invariant-loop-at g l =
    (l.count ≤ 4) × ((p : ℕ → Bool) → ((at : ℕ) (i : Index 64) (b : Bool) → at < l.to → i.at ≡ at % 64 → goal.F-post g l.test i b → b ≡ p at)
    → Gone p 4 l.from (next p (l.to - l.from) 4 l.from) l.rows l.count l.next (l.to - l.at) l.at)
