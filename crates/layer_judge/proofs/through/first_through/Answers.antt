use Rattle.std.proofs.Common.{ℕ, ◌<◌, arith, subst}
use Rattle.layers.specs.declared.crossing.Strand.{Strand}
use Rattle.layers.specs.declared.crossing.Crossing.TheVariants.{Through}
use Rattle.layers.specs.Orders.{Above}
use Rattle.layers.specs.Listing.{IsListed}
use Rattle.layer_judge.specs.First.{StrandBefore}
use Rattle.layer_judge.specs.Judging.{layer_orders}
use borrow.Author.Count.{below_more}
use Rattle.layer_judge.proofs.Below.{through_below, through_faces}
use Rattle.layer_judge.proofs.through.first_through.Goals.{in-Some+in_default-strand_through, in_default}
use Rattle.layer_judge.proofs.through.first_through.Goals as goal

pub loop-edge-preserved : goal.loop-edge-preserved
loop-edge-preserved g c = below_more _ _ c.loop-edge.invariant (elim c.match-crease.branch [
  | in-Some+in_default-strand_through w ↦ subst (λ x. (d : Strand) → ¬ IsListed g.S.Ring.Whole.numbers.ring (g.S.SheetView.sheet c.args.judged.now.sheet.now) (Above (g.S.SheetView.sheet c.args.judged.now.sheet.now) (layer_orders c.args.judged.now.orders.now)) (Through x d)) w.in-Some.ensures.0 w.in_default-strand_through.ensures
  | in_default w ↦ λ s r. let f = through_faces _ _ _ _ s r in w.in_default.ensures f.first f.second f.faces f.lettered
])

pub returns : goal.returns
returns g c e s r = let below = through_below _ _ _ e s r in c.loop-edge.invariant e (omega (arith, c.edge_count-edge-end.ensures)) s r

pub returns-in-Some-strand_through : goal.returns-in-Some-strand_through
returns-in-Some-strand_through g c =
    let r = subst (λ x. IsListed g.S.Ring.Whole.numbers.ring (g.S.SheetView.sheet c.args.judged.now.sheet.now) (Above (g.S.SheetView.sheet c.args.judged.now.sheet.now) (layer_orders c.args.judged.now.orders.now)) (Through x c.in-Some-strand_through.strand) × ((t : Strand) → StrandBefore t c.in-Some-strand_through.strand → ¬ IsListed g.S.Ring.Whole.numbers.ring (g.S.SheetView.sheet c.args.judged.now.sheet.now) (Above (g.S.SheetView.sheet c.args.judged.now.sheet.now) (layer_orders c.args.judged.now.orders.now)) (Through x t))) c.in-Some.ensures.0 c.in-Some-strand_through.ensures in (r.0, c.loop-edge.invariant, r.1)
