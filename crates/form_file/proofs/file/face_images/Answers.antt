use Rattle.std.proofs.Common.{◌≡◌, ◌∙◌, ℕ, List, [], ◌∷◌, ◌++◌, ◌<◌, ◌≤◌, ap, arith, length, sym}
use Rattle.std.proofs.lemmas.List.{take_more}
use Rattle.flat_fold.specs.Faces.{corners_at}
use Rattle.scaled_plane.specs.declared.drawing.Face.{Face}
use Rattle.form_file.proofs.Fileable.{count-few, count-is}
use Rattle.form_file.proofs.file.face_images.Goals as goal

pub overflow_cast-corner-end : goal.overflow_cast-corner-end
overflow_cast-corner-end g c =
    let few : c.len-count.result ≤ 4096
    = count-few c.sheet.result.now c.args.folded.now.sheet c.sheet.ensures.sheet c.faces.ensures.sheet c.as_slice.result.now (c.as_slice.ensures ∙ c.faces.ensures.faces) c.args.face c.requires c.index-as_slice-face.result c.index-as_slice-face.is c.len-count.result (c.len-count.ensures ∙ ap (λ (x : Face). length x.corners) (sym c.index-as_slice-face.is)) in
    omega (arith, few)

pub loop-corner-preserved : goal.loop-corner-preserved
loop-corner-preserved g c =
    let images : List ℕ = corners_at c.args.folded.now.corners c.args.face in
    let k = c.loop-corner.corner in
    let count : c.len-count.result ≡ length (corners_at c.args.folded.now.sheet.faces c.args.face)
    = count-is c.sheet.result.now c.args.folded.now.sheet c.sheet.ensures.sheet c.as_slice.result.now (c.as_slice.ensures ∙ c.faces.ensures.faces) c.args.face c.requires c.index-as_slice-face.result c.index-as_slice-face.is c.len-count.result (c.len-count.ensures ∙ ap (λ (x : Face). length x.corners) (sym c.index-as_slice-face.is)) in
    let long : length (corners_at c.args.folded.now.corners c.args.face) ≡ length (corners_at c.args.folded.now.sheet.faces c.args.face) = c.sheet.ensures.folded.corners_are.all_corners c.args.face in
    let test : c.loop-corner.corner < c.len-count.result = c.loop-corner-test.true in
    let less : c.loop-corner.corner < length (corners_at c.args.folded.now.corners c.args.face) = omega (arith, count, long, test) in
    c.in_ok-push.ensures.ok
    ∙ (λ i. c.loop-corner.invariant i ++ c.image.ensures.number i ∷ [])
    ∙ sym (take_more (corners_at c.args.folded.now.corners c.args.face) c.loop-corner.corner 0 less)
