use Rattle.std.proofs.Common.{ℕ, ◌<◌, length}
use Rattle.flat_fold.specs.EdgeSides.{sides_at}
use Rattle.flat_fold.proofs.LaidEdgeLaws.{laid-by_sides, sides-by_laid}
use Rattle.flat_fold.proofs.SheetLaws.{one-face}
use Rattle.flat_fold.proofs.SheetSides.{some-side}
use Rattle.flat_fold.proofs.laws.edge_images_by_places.Goals as goal

pub returns : goal.returns
returns g c = λ layout edges form folded.
    let one = one-face layout.sheet.ends layout.sheet.faces form in
    let some = λ (e : ℕ) (l : e < length layout.sheet.ends.edges). some-side layout.sheet.ends layout.sheet.faces form e l (sides_at layout.sides e) (folded.sides_are.each e l) in (
      laid-by_sides g.N.Exact.numbers.field layout folded.folding.images_are folded.corners_are folded.sides_are one some edges,
      sides-by_laid g.N.Exact.numbers.field layout folded.folding.images_are folded.corners_are folded.sides_are one some edges,
    )
