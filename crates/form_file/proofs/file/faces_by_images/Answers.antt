use Rattle.std.proofs.Common.{◌≡◌, ◌∙◌, List, [], ◌∷◌, ◌++◌, ◌<◌, ◌≤◌, ap, arith, length, sym}
use Rattle.std.proofs.lemmas.List.{take_all, take_more}
use Rattle.scaled_plane.specs.declared.drawing.Face.{Face}
use Rattle.form_file.proofs.file.faces_by_images.Goals as goal

pub loop-face-preserved : goal.loop-face-preserved
loop-face-preserved g c =
    let test : c.loop-face.face < length c.args.faces.now = c.loop-face-test.true in
    let same : length c.args.faces.now ≡ length c.args.folded.now.sheet.faces = ap (λ (fs : List Face). length fs) c.requires.faces in
    let long : length c.args.folded.now.corners ≡ length c.args.folded.now.sheet.faces = c.requires.long in
    let less : c.loop-face.face < length c.args.folded.now.corners = omega (arith, test, same, long) in
    c.in_ok-put_face.ensures
    ∙ (λ i. c.loop-face.invariant i ++ record { corners = c.in_ok-images.ensures i } ∷ [])
    ∙ sym (take_more c.args.folded.now.corners c.loop-face.face (record { corners = [] }) less)

pub returns : goal.returns
returns g c =
    let done : length c.args.faces.now ≤ c.loop-face.face = c.loop-face-test.false in
    let same : length c.args.faces.now ≡ length c.args.folded.now.sheet.faces = ap (λ (fs : List Face). length fs) c.requires.faces in
    let long : length c.args.folded.now.corners ≡ length c.args.folded.now.sheet.faces = c.requires.long in
    let all : length c.args.folded.now.corners ≤ c.loop-face.face = omega (arith, done, same, long) in
    c.loop-face.invariant ∙ take_all c.loop-face.face c.args.folded.now.corners all
