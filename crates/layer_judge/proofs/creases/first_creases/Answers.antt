use Rattle.std.proofs.Common.{ℕ, ◌<◌, arith, subst}
use Rattle.layers.specs.Orders.{Above}
use Rattle.layers.specs.Listing.{CreasesListed}
use Rattle.layer_judge.specs.Judging.{layer_orders}
use borrow.Author.Count.{below_more}
use Rattle.layer_judge.proofs.Below.{edge_below}
use Rattle.layer_judge.proofs.creases.first_creases.Goals.{in-Some+in_default-crease_with, in_default}
use Rattle.layer_judge.proofs.creases.first_creases.Goals as goal

pub loop-edge-preserved : goal.loop-edge-preserved
loop-edge-preserved g c = below_more _ _ c.loop-edge.invariant (elim c.match-crease.branch [
  | in-Some+in_default-crease_with w ↦ subst (λ x. (d : ℕ) → ¬ CreasesListed g.S.Ring.Whole.numbers.ring (g.S.SheetView.sheet c.args.judged.now.sheet.now) (Above (g.S.SheetView.sheet c.args.judged.now.sheet.now) (layer_orders c.args.judged.now.orders.now)) x d) w.in-Some.ensures.0 w.in_default-crease_with.ensures
  | in_default w ↦ λ d r. w.in_default.ensures _ _ r.crease.faces r.crease.lettered
])

pub returns : goal.returns
returns g c e d r = let below = edge_below r.crease.faces in c.loop-edge.invariant e (omega (arith, c.edge_count-edge-end.ensures)) d r

pub returns-in-Some-crease_with : goal.returns-in-Some-crease_with
returns-in-Some-crease_with g c =
    let r = subst (λ x. CreasesListed g.S.Ring.Whole.numbers.ring (g.S.SheetView.sheet c.args.judged.now.sheet.now) (Above (g.S.SheetView.sheet c.args.judged.now.sheet.now) (layer_orders c.args.judged.now.orders.now)) x c.in-Some-crease_with.other × ((t : ℕ) → t < c.in-Some-crease_with.other → ¬ CreasesListed g.S.Ring.Whole.numbers.ring (g.S.SheetView.sheet c.args.judged.now.sheet.now) (Above (g.S.SheetView.sheet c.args.judged.now.sheet.now) (layer_orders c.args.judged.now.orders.now)) x t)) c.in-Some.ensures.0 c.in-Some-crease_with.ensures in (r.0, c.loop-edge.invariant, r.1)
