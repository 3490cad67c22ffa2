use Rattle.std.proofs.Common.{[], ◌∷◌, ap}
use Rattle.records.proofs.AskedLaws.{request_put}
use Rattle.records.proofs.PutLaws.{puts_as}
use Rattle.protocol.specs.Messages.{CsaRecord}
use Rattle.records.proofs.asked.put_request.Goals as goal

pub returns : goal.returns
returns c =
    let a = c.args in
    let q = c.put_summary in
    let x = c.name_at in
    let y = c.number_at-number in
    puts_as 32 a.at a.out.now q.new.out q.result (ap (λ (r : CsaRecord). r ∷ [])
    (request_put a.memory.now a.k.at a.i.at x.result.now y.result (search) a.k.below a.i.below x.ensures.0 y.ensures)) q.ensures
