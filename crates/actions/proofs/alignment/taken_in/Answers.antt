use Rattle.records.specs.Views.{records_left}
use Rattle.actions.proofs.CaLaws.{took_in}
use Rattle.actions.proofs.alignment.taken_in.Goals as goal

pub returns : goal.returns
returns c =
    let t = c.take_all-missed in
    took_in c.args.k.at (records_left c.args.records) c.args.l c.args.x c.with_link.result c.with_missed.result
    c.args.memory.now t.new.memory t.result t.ensures c.with_link.ensures c.with_missed.ensures
