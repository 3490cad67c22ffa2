-- The row found is the lowest free one, and is put; without one nothing changes.
use Rattle.std.proofs.Common.{sym, ap, ◌∙◌, subst, Some}
use Rattle.rules.specs.Server.{used}
use Rattle.rules.specs.Updates.{value}
use Rattle.memory.specs.Memory.{entry_named, is_marked}
use Rattle.memory.specs.Search.{place_found, Inserts}
use Rattle.memory.proofs.RowInsert.{insert_stored, insert_full}
use Rattle.memory.proofs.store.insert.Goals as goal

pub returns-in_err-i : goal.returns-in_err-i
returns-in_err-i c =
    let a = c.args in
    let s = a.memory.now in
    let r = used (entry_named a.name.octets.now) (value a.v.number a.v.payload.octets.now a.v.remaining) (is_marked a.v.marks) in
    subst (Inserts r s s) (sym c.from_residual.ensures) (insert_full s r (sym c.free_row.ensures ∙ ap place_found c.in_err-i.was))

pub returns : goal.returns
returns c =
    let a = c.args in
    let i = c.in_ok-i.i in
    let e = sym c.free_row.ensures ∙ ap place_found c.in_ok-i.was in
    insert_stored a.memory.now c.put_row.new.memory (Some i) i.at (entry_named a.name.octets.now) (value a.v.number a.v.payload.octets.now a.v.remaining)
    (is_marked a.v.marks) (sym e) e c.put_row.ensures.memory_after
