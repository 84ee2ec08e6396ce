use Rattle.layers.specs.Orders.{Above}
use Rattle.layers.specs.Listing.{IsListed}
use Rattle.layers.specs.declared.crossing.Crossing.{Crossing}
use Rattle.layers.specs.declared.crossing.Crossing.TheVariants.{Cycle, Through, Creases, Joined, Letter}
use Rattle.layer_judge.specs.Judging.{layer_orders}
use Rattle.layer_judge.proofs.Firsts.{before, cycle_first, through_first, creases_first, joined_first, letter_first, no_crossing}
use Rattle.layer_judge.proofs.crossings.first_crossing.Goals as goal

pub returns-in-Some : goal.returns-in-Some
returns-in-Some g c =
    let r = c.in-Some.ensures in (r.0, λ d sooner. cycle_first (λ (x : Crossing). IsListed g.S.Ring.Whole.numbers.ring (g.S.SheetView.sheet c.args.judged.now.sheet.now) (Above (g.S.SheetView.sheet c.args.judged.now.sheet.now) (layer_orders c.args.judged.now.orders.now)) x) c.in-Some.first c.in-Some.second c.in-Some.third r.1 r.2 r.3 d (before d (Cycle c.in-Some.first c.in-Some.second c.in-Some.third) sooner))

pub returns-in-Some-first_through : goal.returns-in-Some-first_through
returns-in-Some-first_through g c =
    let r = c.in-Some-first_through.ensures in (r.0, λ d sooner. through_first (λ (x : Crossing). IsListed g.S.Ring.Whole.numbers.ring (g.S.SheetView.sheet c.args.judged.now.sheet.now) (Above (g.S.SheetView.sheet c.args.judged.now.sheet.now) (layer_orders c.args.judged.now.orders.now)) x) c.in_default.ensures c.in-Some-first_through.crease c.in-Some-first_through.strand r.1 r.2 d (before d (Through c.in-Some-first_through.crease c.in-Some-first_through.strand) sooner))

pub returns-in-Some-first_creases : goal.returns-in-Some-first_creases
returns-in-Some-first_creases g c =
    let r = c.in-Some-first_creases.ensures in (r.0, λ d sooner. creases_first (λ (x : Crossing). IsListed g.S.Ring.Whole.numbers.ring (g.S.SheetView.sheet c.args.judged.now.sheet.now) (Above (g.S.SheetView.sheet c.args.judged.now.sheet.now) (layer_orders c.args.judged.now.orders.now)) x) c.in_default.ensures c.in_default-first_through.ensures c.in-Some-first_creases.crease c.in-Some-first_creases.other r.1 r.2 d (before d (Creases c.in-Some-first_creases.crease c.in-Some-first_creases.other) sooner))

pub returns-in-Some-first_joined : goal.returns-in-Some-first_joined
returns-in-Some-first_joined g c =
    let r = c.in-Some-first_joined.ensures in (r.0, λ d sooner. joined_first (λ (x : Crossing). IsListed g.S.Ring.Whole.numbers.ring (g.S.SheetView.sheet c.args.judged.now.sheet.now) (Above (g.S.SheetView.sheet c.args.judged.now.sheet.now) (layer_orders c.args.judged.now.orders.now)) x) c.in_default.ensures c.in_default-first_through.ensures c.in_default-first_creases.ensures c.in-Some-first_joined.join c.in-Some-first_joined.strand r.1 r.2 d (before d (Joined c.in-Some-first_joined.join c.in-Some-first_joined.strand) sooner))

pub returns-in-Some-first_letter : goal.returns-in-Some-first_letter
returns-in-Some-first_letter g c =
    let r = c.in-Some-first_letter.ensures in (r.0, λ d sooner. letter_first (λ (x : Crossing). IsListed g.S.Ring.Whole.numbers.ring (g.S.SheetView.sheet c.args.judged.now.sheet.now) (Above (g.S.SheetView.sheet c.args.judged.now.sheet.now) (layer_orders c.args.judged.now.orders.now)) x) c.in_default.ensures c.in_default-first_through.ensures c.in_default-first_creases.ensures c.in_default-first_joined.ensures c.in-Some-first_letter.edge r.1 d (before d (Letter c.in-Some-first_letter.edge) sooner))

pub returns-in-None : goal.returns-in-None
returns-in-None g c = no_crossing (λ (x : Crossing). IsListed g.S.Ring.Whole.numbers.ring (g.S.SheetView.sheet c.args.judged.now.sheet.now) (Above (g.S.SheetView.sheet c.args.judged.now.sheet.now) (layer_orders c.args.judged.now.orders.now)) x) c.in_default.ensures c.in_default-first_through.ensures c.in_default-first_creases.ensures c.in_default-first_joined.ensures c.in-None.ensures
