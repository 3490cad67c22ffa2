use Rattle.std.proofs.Common.{◌∙◌, arith}
use Rattle.lines.proofs.RunLaws.{went_more, record_less, ran_all}
use Rattle.lines.proofs.run.run_from.Goals as goal

pub loop-r-preserved : goal.loop-r-preserved
loop-r-preserved c =
    let w = c.loop-r.invariant in
    let step = c.in-Some.ensures.steps in
    let long = step.1.1 ∙ w.0 in
    (step.0 ∙ w.0, went_more w.1 _ _ _ _ _ _ step.1.0 long (record_less _ _ _ step.1.0 long) c.take.ensures.server c.take.ensures.host)

pub returns : goal.returns
returns c =
    let w = c.loop-r.invariant in
    let few = c.in-None.ensures.steps.1.0 in
    ran_all w.1 (omega (arith, few, w.0))
