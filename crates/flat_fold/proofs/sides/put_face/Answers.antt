use Rattle.std.proofs.Common.{◌≡◌, ◌∙◌, ap, ℕ, List, [], ◌≤◌, length, arith}
use Rattle.std.proofs.lemmas.List.{get_or_default}
use Rattle.scaled_plane.specs.declared.drawing.Face.{Face}
use Rattle.flat_fold.specs.Faces.{corners_at}
use Rattle.flat_fold.proofs.SideLaws.{face-done}
use Rattle.flat_fold.proofs.sides.put_face.Goals as goal

pub returns : goal.returns
returns c =
    let corners_are : c.as_slice-corners.result.now ≡ corners_at c.args.faces.now c.args.f
    = c.as_slice-corners.ensures ∙ ap (λ (w : Face). w.corners) (c.index-faces-f.is ∙ get_or_default c.args.faces.now c.args.f c.index-faces-f.result (record { corners = [] }) c.requires.face) in
    let long : length c.as_slice-corners.result.now ≡ length (corners_at c.args.faces.now c.args.f) = ap (λ (cs : List ℕ). length cs) corners_are in
    let all : length c.as_slice-corners.result.now ≤ c.loop-k.k = c.loop-k-test.false in
    face-done c.args.faces.now c.args.f c.loop-k.k c.loop-k.pieces (omega (arith, long, all)) c.loop-k.invariant
