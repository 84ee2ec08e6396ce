use Rattle.std.proofs.Common.{◌≡◌, ◌∙◌, List, Some, ap, arith, length, subst, sym}
use Rattle.std.specs.Option.{option_copied}
use Rattle.crease_input.specs.Files.{IsFileable}
use Rattle.flat_fold.specs.Sheets.{FormSheet, Pattern}
use Rattle.scaled_plane.specs.declared.drawing.Face.{Face}
use Rattle.scaled_plane.specs.declared.point.Pair.{Pair}
use Rattle.form_file.proofs.Fileable.{fileable, filed}
use Rattle.form_file.proofs.file.folded_file.Goals as goal

pub faces_by_images-requires-clause-faces : goal.faces_by_images-requires-clause-faces
faces_by_images-requires-clause-faces g c =
    c.as_slice.ensures ∙ c.faces.ensures.faces ∙ ap (λ (p : Pattern g.row.N.Denot). p.faces) c.sheet.ensures.sheet

pub faces_by_images-requires-clause-few : goal.faces_by_images-requires-clause-few
faces_by_images-requires-clause-few g c =
    let few = c.faces.ensures.sheet.few_faces in
    let same : length c.as_slice.result.now ≡ length c.sheet.result.now.faces = ap (λ (fs : List Face). length fs) (c.as_slice.ensures ∙ c.faces.ensures.faces) in
    omega (arith, few, same)

pub faces_by_images-requires-clause-long : goal.faces_by_images-requires-clause-long
faces_by_images-requires-clause-long g c = c.sheet.ensures.folded.corners_are.all_faces

pub drawing_file-requires : goal.drawing_file-requires
drawing_file-requires g c =
    let layout = c.args.folded.now in
    let sheet : FormSheet g.N.Exact.parts g.N.Ring.Whole.numbers c.args.folded.now.sheet.ends c.args.folded.now.sheet.faces
    = subst (λ (p : Pattern g.row.N.Denot). FormSheet g.N.Exact.parts g.N.Ring.Whole.numbers p.ends p.faces) c.sheet.ensures.sheet c.faces.ensures.sheet in
    let coords : c.in_ok-from_slice.field-0 ≡ c.args.folded.now.images = c.in_ok-from_slice.ensures ∙ c.as_slice-2.ensures ∙ c.images.ensures.images in
    subst (λ (cs : List (Pair g.row.N.Denot)). IsFileable g.N.Exact.parts (record { coords = cs; edges = c.in_ok-edge_images.field-0 }) (Some c.in_ok-faces.faces) (option_copied c.args.orders)) (sym coords)
    (subst (λ (fs : List Face). IsFileable g.N.Exact.parts (record { coords = c.args.folded.now.images; edges = c.in_ok-edge_images.field-0 }) (Some fs) (option_copied c.args.orders)) (sym c.in_ok-faces.ensures)
    (fileable g.N.Exact.parts g.met.N.Exact.holds g.N.Exact.numbers.field g.N.Ring.Whole.numbers c.args.folded.now sheet c.images.ensures.folded
    c.in_ok-edge_images.field-0 (option_copied c.args.orders) c.in_ok-edge_images.ensures.few c.in_ok-edge_images.ensures.within c.requires))

pub returns-clause-file : goal.returns-clause-file
returns-clause-file g c =
    filed g.N.Exact.ROOT g.N.Exact.parts c.args.folded.now c.in_ok-edge_images.field-0 c.in_ok-edge_images.ensures.images
    c.in_ok-from_slice.field-0 (c.in_ok-from_slice.ensures ∙ c.as_slice-2.ensures ∙ c.images.ensures.images) c.in_ok-faces.faces c.in_ok-faces.ensures
    (option_copied c.args.orders) c.drawing_file.result c.drawing_file.ensures.file
