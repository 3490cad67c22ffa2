-- Head, sections, name and payload lie side by side, so that each part put leaves those before it: together they are the row.
use Rattle.std.proofs.Common.{ℕ, refl, ap, ◌∙◌}
use Rattle.laws.specs.Puts.{put_at}
use Rattle.protocol.specs.Numbers.{bits_of}
use Rattle.memory.proofs.RowWhole.{row_put_lem}
use Rattle.memory.proofs.store.put_row.Goals as goal

pub returns-clause-memory_after : goal.returns-clause-memory_after
returns-clause-memory_after c =
    let a = c.args in
    let next = ap (λ (n : ℕ). put_at c.put-at.new.out n a.v.payload.octets.now) c.put-at.ensures.next in
    (row_put_lem a.memory.now a.i.at (bits_of a.v.number) a.v.remaining a.v.marks c.tag_of-tag.result a.name.octets.now a.v.payload.octets.now
    c.told-memory a.i.below a.name.fits.0 a.name.fits.1 a.v.payload.fits a.v.number c.put_head.new.memory c.put_sections.new.memory
    c.put-at.new.out c.put.new.out refl (record { sfits = c.well_formed.1.1.1.0.1.1.0.1.1.0.1 })
    c.tag_of-tag.ensures c.put_head.ensures c.put_sections.ensures c.put-at.ensures.octets
    (c.put.ensures.octets ∙ next)).0
