use Rattle.std.proofs.Common.{◌≡◌, ◌∙◌, ap, List, ◌<◌, ◌≤◌, ◌^◌, length, arith}
use Rattle.scaled_plane.specs.declared.drawing.Face.{Face}
use Rattle.flat_fold.proofs.SheetLaws.{foldable-sheet, some-face}
use Rattle.flat_fold.proofs.levels.path_maps.Goals as goal

pub face_0_alone-requires : goal.face_0_alone-requires
face_0_alone-requires g c =
    let some : 0 < length c.args.sheet.now.faces = some-face c.args.sheet.now.ends c.args.sheet.now.faces c.faces.ensures.sheet in
    let all : c.len.result ≡ length c.args.sheet.now.faces = c.len.ensures ∙ ap (λ (fs : List Face). length fs) c.faces.ensures.faces in
    omega (arith, some, all)

pub maps_from-requires-clause-foldable : goal.maps_from-requires-clause-foldable
maps_from-requires-clause-foldable g c = foldable-sheet c.args.sheet.now.ends c.args.sheet.now.faces c.faces.ensures.sheet g.N.Exact.numbers.field
