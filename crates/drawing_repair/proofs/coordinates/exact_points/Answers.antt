use Rattle.std.proofs.Common.{ℕ, inr, refl, subst, sym}
use Rattle.std.specs.Int.{w128}
use Rattle.std.proofs.lemmas.Int.{to_z-of_z}
use Rattle.scaled_plane.specs.Exact.{IsExactPoint, IsTooWideExact}
use Rattle.scaled_plane.proofs.DrawnSizes.{drawn_point}
use Rattle.drawing_repair.proofs.Exact.{exact_more, wide_there}
use Rattle.drawing_repair.proofs.coordinates.exact_points.Goals as goal

pub returns-in-None-clause-too_wide : goal.returns-in-None-clause-too_wide
returns-in-None-clause-too_wide g c =
    let is = to_z-of_z w128 c.args.common c.ranges.common in
    let p = c.index-points-vertex.result in
    let wide = subst (λ (j : ℕ). IsTooWideExact j g.N.Ring.Whole.pair p c.args.common) (sym g.met.N.Exact.same_root) (rw is at c.in-None.ensures.answer) in
    inr (
      c.loop-vertex.vertex,
      refl,
      (
        wide_there g.N.Exact.parts g.N.Ring.Whole.numbers c.args.common c.requires.positive c.args.points.now c.loop-vertex.vertex p c.loop-vertex-test.true c.index-points-vertex.is wide,
        rw is at c.loop-vertex.invariant.1,
      ),
    )

pub loop-vertex-preserved : goal.loop-vertex-preserved
loop-vertex-preserved g c =
    let is = to_z-of_z w128 c.args.common c.ranges.common in
    let p = c.index-points-vertex.result in
    let numbers = g.N.Ring.Whole.numbers in
    let exact = subst (λ (j : ℕ). IsExactPoint j g.N.Ring.Whole.pair p c.args.common g.N.Exact.parts c.in-Some.exact) (sym g.met.N.Exact.same_root) (rw is at c.in-Some.ensures.answer) in
    let above = drawn_point numbers p (c.requires.drawn p (c.loop-vertex.vertex, c.loop-vertex-test.true, sym c.index-points-vertex.is)) in
    rw (is, c.in-Ok.ensures.ok)
    (exact_more g.N.Exact.parts numbers c.args.common c.requires.positive c.args.points.now c.loop-vertex.vertex p c.loop-vertex-test.true c.index-points-vertex.is
    c.in-Some.exact above exact c.loop-vertex.coords (rw is at c.loop-vertex.invariant.0) (rw is at c.loop-vertex.invariant.1))
