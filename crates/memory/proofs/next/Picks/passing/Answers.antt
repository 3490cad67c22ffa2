use Rattle.std.proofs.Common.{◌+◌, ◌-◌, sym, refl, ◌∙◌, inl, inr, arith}
use Rattle.memory.proofs.Picking.{go_on, picked_full, picked_end}
use Rattle.rules.specs.Rows.{next}
use Rattle.memory.proofs.next.Picks.passing.Goals as goal
use Rattle.memory.proofs.next.Picks.passing.Goals.{then-test, else-test}

pub returns-then-count-eq4 : goal.returns-then-count-eq4
returns-then-count-eq4 g c p h =
    let l = c.loop-at in
    let a = c.args in
    picked_full p a.from (next p (a.to - a.from) 4 a.from) l.rows l.count l.next (a.to - l.at) l.at _ c.if-count-eq4.true (l.invariant.1 p h)

pub loop-at-preserved : goal.loop-at-preserved
loop-at-preserved g c =
    let l = c.loop-at in
    let a = c.args in
    let j = c.if-test in (
      elim j.branch [
        | then-test w ↦ (let few = l.invariant.0 in let n = w.count-is in omega (arith, c.if-count-eq4.false))
        | else-test w ↦ (let few = l.invariant.0 in let n = w.count-is in omega arith)
      ],
      λ p h.
          let v = h l.at _ c.test.result c.loop-at-test.true refl c.test.ensures in
          go_on p 4 a.from (next p (a.to - a.from) 4 a.from) l.rows j.rows l.count j.count l.next
          j.next (a.to - l.at) (a.to - (l.at + 1)) l.at c.if-count-eq4.false (omega arith) (l.invariant.1 p h)
          (elim j.branch [
            | then-test w ↦ inl (sym v ∙ w.if-test.true, (w.rows-is, (w.count-is, w.next-is)))
            | else-test w ↦ inr (sym v ∙ w.if-test.false, (w.rows-is, (w.count-is, w.next-is)))
          ]),
    )

pub returns : goal.returns
returns g c p h =
    let l = c.loop-at in
    let a = c.args in
    picked_end p a.from (next p (a.to - a.from) 4 a.from) l.rows l.count l.next (a.to - l.at) l.at _ (omega arith) (l.invariant.1 p h)
