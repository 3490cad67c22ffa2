use Rattle.std.proofs.Common.{◌<◌, not, eqb, sym, ap, ◌∙◌, subst}
use Rattle.std.specs.Int.{from_bool}
use Rattle.std.specs.List.{sum_by}
use Rattle.memory.proofs.RowReads.{counted, counted_few}
use Rattle.memory.proofs.rows.rows_used.Goals as goal

pub count_used-requires : goal.count_used-requires
count_used-requires c =
    subst (λ l. l < 256) (sym (ap (sum_by (λ x. from_bool (not (eqb x 0)))) c.lengths.ensures)) (counted_few c.args.memory.now c.told-memory)

pub returns : goal.returns
returns c =
    c.count_used.ensures ∙ ap (sum_by (λ x. from_bool (not (eqb x 0)))) c.lengths.ensures ∙ counted c.args.memory.now c.told-memory
