use Rattle.memory.proofs.Rooms.{listed_memory}
use Rattle.memory.proofs.requests.empty.Goals as goal

pub returns : goal.returns
returns c = listed_memory c.set_count.ensures
