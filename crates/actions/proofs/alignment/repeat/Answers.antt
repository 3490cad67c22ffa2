use Rattle.memory.specs.Memory.{memory_of, requests_of, kept_of}
use Rattle.actions.proofs.AlignmentLaws.{kept_wrote}
use Rattle.actions.proofs.alignment.repeat.Goals as goal

pub returns : goal.returns
returns c =
    let m = memory_of c.args.memory.now in
    (c.ca_sent.ensures (requests_of m c.args.k.at) (kept_of m c.args.k.at), kept_wrote c.copy_kept-written.ensures)
