-- The link is moved by the rule, the summaries taken in, the kept CA dropped, and an empty list in Update makes it Aligned.
use Rattle.actions.proofs.CaLaws.{done_leaves}
use Rattle.actions.specs.Steps.{ca_packet_by}
use Rattle.records.specs.Views.{records_left}
use Rattle.laws.specs.Lists.{is_empty}
use Rattle.actions.proofs.alignment.done.Goals as goal

pub returns : goal.returns
returns c sender =
    let a = c.args in
    let rs = records_left a.records in
    done_leaves a.k.at (ca_packet_by a.head rs sender) a.x c.taken_in-y.result c.complete.result c.ca_move-l.result
    a.memory.now c.taken_in-y.new.memory c.drop_kept.new.memory a.k.below (c.ca_move-l.ensures sender (is_empty rs))
    c.taken_in-y.ensures c.drop_kept.ensures c.complete.ensures
