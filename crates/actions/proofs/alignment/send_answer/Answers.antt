-- The CA is written and kept, the slot put with where it goes on; then an empty list in Update makes it Aligned.
use Rattle.actions.proofs.CaLaws.{answer_sent}
use Rattle.actions.proofs.alignment.send_answer.Goals as goal

pub returns : goal.returns
returns c =
    let sent = c.send_ca-written in
    answer_sent c.args.k.at c.args.time c.args.s c.args.x c.args.picks c.args.memory.now sent.new.memory c.args.out.now sent.new.out
    c.common-c.result c.flags_of.result c.with_listed.result c.ca_sent-y.result
    (record { slot = c.complete.result; written = sent.result }) c.args.k.below c.common-c.ensures c.flags_of.ensures
    sent.ensures c.with_listed.ensures c.ca_sent-y.ensures c.complete.ensures
