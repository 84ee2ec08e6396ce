use Rattle.std.proofs.Common.{◌≡◌, ◌⊎◌, sym, subst, true}
use Rattle.std.specs.Prelude.{◌↔◌, slice_set}
use Rattle.layer_judge.specs.Rankings.{IsMarked}
use Rattle.layer_judge.proofs.Cells.{one_more_marked}
use Rattle.layer_judge.proofs.table.Ranking.put_above.Goals as goal

pub returns-clause-marks : goal.returns-clause-marks
returns-clause-marks c f g =
    subst (λ i. IsMarked c.args.self.now.count (slice_set c.args.self.now.cells.items i true) f g ↔ (IsMarked c.args.self.now.count c.args.self.now.cells.items f g ⊎ (f ≡ c.args.upper) × (g ≡ c.args.lower))) (sym c.place-place.ensures.place)
    (one_more_marked c.args.self.now.count c.args.self.now.cells.items c.args.self.now.sized c.args.upper c.args.lower c.requires.upper c.requires.lower f g)
