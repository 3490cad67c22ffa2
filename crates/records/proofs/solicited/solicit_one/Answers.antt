-- The name gives the entry's row: by it the answer is the rule's, and it waits as the rule says.
use Rattle.memory.specs.Memory.{entry_named}
use Rattle.records.proofs.solicited.solicit_one.Goals as goal

pub returns : goal.returns
returns c = record {
  answer = c.solicit_found-next.ensures;
  waits = c.answer_record.ensures.memory_after (entry_named c.args.v.name.octets.now) c.find-found.ensures;
}
