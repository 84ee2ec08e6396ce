use Rattle.std.proofs.Common.{◌∙◌, arith, subst}
use Rattle.std.proofs.lemmas.List.{take_all}
use Rattle.sheet_check.specs.Used.{AreUsed}
use Rattle.sheet_check.proofs.UsedLemmas.{as_long, used_more}
use Rattle.sheet_check.proofs.loose.mark_used.Goals as goal

pub loop-edge-preserved : goal.loop-edge-preserved
loop-edge-preserved c =
    let edges = c.args.edges.now in
    let i = c.loop-edge.edge-index in
    let before = c.loop-edge.invariant in (
      as_long edges i _ c.loop-edge.marks c.mark_ends.new.marks c.loop-edge-test.true c.mark_ends.ensures ∙ before.0,
      used_more edges i _ c.loop-edge.marks c.mark_ends.new.marks c.loop-edge-test.true c.mark_ends.ensures before.1,
    )

pub returns-clause-used : goal.returns-clause-used
returns-clause-used c =
    subst (λ es. AreUsed es c.loop-edge.marks) (take_all c.loop-edge.edge-index c.args.edges.now (let done = c.loop-edge-test.false in omega (arith, done))) c.loop-edge.invariant.1
