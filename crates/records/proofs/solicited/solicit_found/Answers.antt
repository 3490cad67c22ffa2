-- By the row found, or by its absence, the answer is the rule's.
use Rattle.std.proofs.Common.{[], ◌∷◌, sym, ap, ◌∙◌}
use Rattle.records.proofs.SolicitedLaws.{solicited_held, solicited_null}
use Rattle.records.proofs.PutLaws.{puts_as}
use Rattle.records.specs.Views.{record_shown}
use Rattle.memory.specs.Search.{place_found}
use Rattle.protocol.specs.Messages.{CsaRecord}
use Rattle.records.proofs.solicited.solicit_found.Goals as goal

pub returns-in-Some : goal.returns-in-Some
returns-in-Some c =
    let a = c.args in
    let q = c.solicit_row in
    puts_as 64 a.at a.out.now q.new.out q.result
    (ap (λ (r : CsaRecord). r ∷ [])
    (solicited_held a.memory.now (record_shown a.v) c.in-Some.i.at (sym c.requires.found_for ∙ ap place_found c.in-Some.is))) q.ensures

pub returns-in-None : goal.returns-in-None
returns-in-None c =
    let a = c.args in
    let q = c.put_null in
    puts_as 64 a.at a.out.now q.new.out q.result
    (ap (λ (r : CsaRecord). r ∷ [])
    (solicited_null a.memory.now (record_shown a.v) (sym c.requires.found_for ∙ ap place_found c.in-None.is))) q.ensures
