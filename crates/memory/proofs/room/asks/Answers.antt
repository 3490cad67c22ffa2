-- Another tag means another entry; else the names are compared.
use Rattle.std.proofs.Common.{◌≡◌, ℕ, List, length, sym, refl, ap, ◌∙◌, arith, ne_eqb}
use Rattle.laws.specs.Tables.{same}
use Rattle.memory.specs.Layout.{memory_size, request_place}
use Rattle.memory.proofs.RoomReads.{asks_other, asks_name}
use Rattle.memory.proofs.room.asks.Goals as goal

pub returns-else-tag_at-e : goal.returns-else-tag_at-e
returns-else-tag_at-e c =
    let a = c.args in
    let p = a.e.name.fits in
    let size : length a.memory.now ≡ memory_size = search in
    ne_eqb c.tag_at.result a.e.tag c.if-tag_at-e.false
    ∙ sym (asks_other a.memory.now a.k.at a.i.at (request_place a.k.at a.i.at) refl a.e.name.octets.now a.e.tag a.i.below
    (omega (arith, a.k.below, a.i.below)) p.0 a.e.tagged (λ e. c.if-tag_at-e.false (c.tag_at.ensures ∙ e)))

pub returns-then-tag_at-e : goal.returns-then-tag_at-e
returns-then-tag_at-e c =
    let a = c.args in
    let p = a.e.name.fits in
    let at = c.place in
    let size : length a.memory.now ≡ memory_size = search in
    asks_name a.memory.now a.k.at a.i.at at.result at.ensures.0 a.e.name.octets.now a.e.tag a.i.below (omega (arith, at.ensures.1)) p.0 a.e.tagged c.same.result
    (sym c.tag_at.ensures ∙ c.if-tag_at-e.true) (c.same.ensures ∙ ap (λ (n : List ℕ). same n a.e.name.octets.now) c.name_at.ensures)
