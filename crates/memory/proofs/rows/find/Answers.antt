use Rattle.std.proofs.Common.{ap, ◌∙◌, subst}
use Rattle.memory.specs.Layout.{tags_at}
use Rattle.memory.specs.Memory.{tag_of}
use Rattle.memory.specs.Search.{place_found, FirstIndex}
use Rattle.memory.proofs.RowReads.{by_tag, by_no_tag}
use Rattle.memory.proofs.rows.find.Goals as goal

pub returns-in_err-from : goal.returns-in_err-from
returns-in_err-from c =
    let a = c.args in
    let f = subst (λ t. FirstIndex a.memory.now tags_at t c.first_index.result) c.tag_of-t.ensures c.first_index.ensures in
    ap place_found c.from_residual.ensures ∙ by_no_tag a.memory.now a.name.now c.told-memory c.requires
    (subst (FirstIndex a.memory.now tags_at (tag_of a.name.now)) c.in_err-from.was f)

pub returns : goal.returns
returns c =
    let a = c.args in
    let f = subst (λ t. FirstIndex a.memory.now tags_at t c.first_index.result) c.tag_of-t.ensures c.first_index.ensures in
    by_tag a.memory.now c.in_ok-from.from.at a.name.now (place_found c.find_from.result) c.told-memory c.requires
    (subst (FirstIndex a.memory.now tags_at (tag_of a.name.now)) c.in_ok-from.was f) c.find_from.ensures
