use Rattle.std.proofs.Common.{ℕ}
use Rattle.layers.specs.Orders.{Above, LiesBetween}
use Rattle.layers.specs.Listing.{EdgeEnters, IsListed}
use Rattle.layers.specs.declared.crossing.Strand.{Strand}
use Rattle.layers.specs.declared.crossing.Crossing.TheVariants.{Through}
use Rattle.layer_judge.specs.Judging.{layer_orders}
use Rattle.layer_judge.proofs.Strands.{first_is_face, first_is_edge, no_strand}
use Rattle.layer_judge.proofs.through.strand_through.Goals as goal

pub returns-in-Some : goal.returns-in-Some
returns-in-Some g c =
    first_is_face (λ (s : Strand). IsListed g.S.Ring.Whole.numbers.ring (g.S.SheetView.sheet c.args.judged.now.sheet.now) (Above (g.S.SheetView.sheet c.args.judged.now.sheet.now) (layer_orders c.args.judged.now.orders.now)) (Through c.args.crease.edge s)) (λ (h : ℕ). EdgeEnters g.S.Ring.Whole.numbers.ring (g.S.SheetView.sheet c.args.judged.now.sheet.now) c.args.crease.edge h × LiesBetween (Above (g.S.SheetView.sheet c.args.judged.now.sheet.now) (layer_orders c.args.judged.now.orders.now)) h c.args.crease.first c.args.crease.second) (λ h r. (c.crossings_by_faces.ensures.enters_crease g.S.Ring.Whole.numbers.ring (g.S.SheetView.sheet c.args.judged.now.sheet.now) (layer_orders c.args.judged.now.orders.now) _ _ _ h c.requires.crease.uncut.faces c.requires.crease.lettered).0 r) c.in-Some.face ((c.crossings_by_faces.ensures.enters_crease g.S.Ring.Whole.numbers.ring (g.S.SheetView.sheet c.args.judged.now.sheet.now) (layer_orders c.args.judged.now.orders.now) _ _ _ c.in-Some.face c.requires.crease.uncut.faces c.requires.crease.lettered).1 c.in-Some.ensures.0) c.in-Some.ensures.1

pub returns-in-Some-join_between : goal.returns-in-Some-join_between
returns-in-Some-join_between g c =
    first_is_edge (λ (s : Strand). IsListed g.S.Ring.Whole.numbers.ring (g.S.SheetView.sheet c.args.judged.now.sheet.now) (Above (g.S.SheetView.sheet c.args.judged.now.sheet.now) (layer_orders c.args.judged.now.orders.now)) (Through c.args.crease.edge s)) (λ (h : ℕ). EdgeEnters g.S.Ring.Whole.numbers.ring (g.S.SheetView.sheet c.args.judged.now.sheet.now) c.args.crease.edge h × LiesBetween (Above (g.S.SheetView.sheet c.args.judged.now.sheet.now) (layer_orders c.args.judged.now.orders.now)) h c.args.crease.first c.args.crease.second) (λ h r. (c.crossings_by_faces.ensures.enters_crease g.S.Ring.Whole.numbers.ring (g.S.SheetView.sheet c.args.judged.now.sheet.now) (layer_orders c.args.judged.now.orders.now) _ _ _ h c.requires.crease.uncut.faces c.requires.crease.lettered).0 r) c.in_default.ensures c.in-Some-join_between.edge c.in-Some-join_between.ensures.0 c.in-Some-join_between.ensures.1

pub returns-in-None : goal.returns-in-None
returns-in-None g c = no_strand (λ (s : Strand). IsListed g.S.Ring.Whole.numbers.ring (g.S.SheetView.sheet c.args.judged.now.sheet.now) (Above (g.S.SheetView.sheet c.args.judged.now.sheet.now) (layer_orders c.args.judged.now.orders.now)) (Through c.args.crease.edge s)) (λ (h : ℕ). EdgeEnters g.S.Ring.Whole.numbers.ring (g.S.SheetView.sheet c.args.judged.now.sheet.now) c.args.crease.edge h × LiesBetween (Above (g.S.SheetView.sheet c.args.judged.now.sheet.now) (layer_orders c.args.judged.now.orders.now)) h c.args.crease.first c.args.crease.second) (λ h r. (c.crossings_by_faces.ensures.enters_crease g.S.Ring.Whole.numbers.ring (g.S.SheetView.sheet c.args.judged.now.sheet.now) (layer_orders c.args.judged.now.orders.now) _ _ _ h c.requires.crease.uncut.faces c.requires.crease.lettered).0 r) c.in_default.ensures c.in-None.ensures
