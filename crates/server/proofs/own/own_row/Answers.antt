-- A key that is good has a name, and the row that was found for it is that of our entry.
use Rattle.std.proofs.Common.{rules, sym, ap, ◌∙◌}
use Rattle.rules.specs.Server.{Entry, holds}
use Rattle.memory.specs.Memory.{entry_named, rows_in}
use Rattle.memory.specs.Search.{first_from}
use Rattle.server.proofs.OwnLaws.{key_room_lem, own_found, own_key}
use Rattle.server.proofs.own.own_row.Goals as goal

pub own_name-name-requires : goal.own_name-name-requires
own_name-name-requires c = key_room_lem c.args.key.now c.args.s.settings.id (sym c.fits.ensures ∙ c.if-not-fits.false) (search rules)

pub returns-then-not-fits-clause-code : goal.returns-then-not-fits-clause-code
returns-then-not-fits-clause-code c = own_key c.args.s c.args.memory.now c.args.key.now (sym c.fits.ensures ∙ c.if-not-fits.true)

pub returns-clause-code : goal.returns-clause-code
returns-clause-code c =
    let a = c.args in
    let n = c.own_name-name in
    (own_found a.s a.memory.now a.key.now (sym c.fits.ensures ∙ c.if-not-fits.false) c.find.result c.ok_or.result
    (c.find.ensures
    ∙ ap (λ (e : Entry). first_from (holds e) 0 (rows_in a.memory.now)) (ap entry_named c.as_entry.ensures ∙ n.ensures)) c.ok_or.ensures.value).0

pub returns-clause-row : goal.returns-clause-row
returns-clause-row c =
    let a = c.args in
    let n = c.own_name-name in
    (own_found a.s a.memory.now a.key.now (sym c.fits.ensures ∙ c.if-not-fits.false) c.find.result c.ok_or.result
    (c.find.ensures
    ∙ ap (λ (e : Entry). first_from (holds e) 0 (rows_in a.memory.now)) (ap entry_named c.as_entry.ensures ∙ n.ensures)) c.ok_or.ensures.value).1
