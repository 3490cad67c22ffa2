use Rattle.std.proofs.Common.{ℕ, ◌+◌, List, length, take, refl, ap, ◌∙◌}
use Rattle.laws.specs.Puts.{put_at}
use Rattle.memory.proofs.NameLaws.{name_octets}
use Rattle.memory.proofs.names.of_entry.Goals as goal

pub returns : goal.returns
returns c =
    let a = c.args in
    let p = c.requires in (
      ap (take (length a.key.now + 4)) (c.put-2.ensures.octets
          ∙ ap (λ (b : List ℕ). put_at b (length a.key.now) a.originator.now) c.put.ensures.octets)
          ∙ name_octets _ a.key.now a.originator.now refl p.0.1 p.1,
      (refl, c.put-2.auto.out ∙ c.put.auto.out),
    )
