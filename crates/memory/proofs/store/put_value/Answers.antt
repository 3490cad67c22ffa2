-- The head is put and then the payload behind the name, whose octets stay.
use Rattle.std.proofs.Common.{ℕ, ◌+◌, refl, ap, ◌∙◌}
use Rattle.laws.specs.Puts.{put_at}
use Rattle.protocol.specs.Numbers.{bits_of}
use Rattle.memory.specs.Layout.{row_place}
use Rattle.memory.proofs.RowPuts.{value_put_lem}
use Rattle.memory.proofs.store.put_value.Goals as goal

pub returns-clause-memory_after : goal.returns-clause-memory_after
returns-clause-memory_after c =
    let a = c.args in
    let place = ap (λ (n : ℕ). put_at c.put_head.new.memory (row_place a.i.at + 8 + n + 4) a.v.payload.octets.now) c.key_room.ensures.0 in
    (value_put_lem a.memory.now a.i.at (bits_of a.v.number) a.v.remaining a.v.marks a.v.payload.octets.now c.told-memory a.i.below a.v.payload.fits a.v.number
    c.put_head.new.memory c.put.new.out refl (record { sfits = c.well_formed.1.1.0.1.1.0.1.1.0.1 })
    c.put_head.ensures (c.put.ensures.octets ∙ place)).0
