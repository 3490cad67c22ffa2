use Rattle.std.proofs.Common.{◌≡◌, sym, ap, ◌∙◌, arith, rules}
use Rattle.memory.specs.Memory.{row_in, rows_in}
use Rattle.rules.specs.Server.{is_used, row_at}
use Rattle.memory.proofs.RowPlaces.{row_get}
use Rattle.memory.proofs.next.Picks.next_used.Goals as goal

pub returns : goal.returns
returns c =
    let s = c.args.memory.now in
    c.passing.ensures (λ j. is_used (row_at (rows_in s) j)) (λ j i b h e q.
    let n : i.at ≡ j = omega arith in
    let v : b ≡ is_used (row_in s i.at) = search rules in
    v ∙ ap (λ x. is_used (row_in s x)) n ∙ ap is_used (sym (row_get s j h)))
