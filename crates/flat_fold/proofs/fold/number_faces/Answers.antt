use Rattle.std.proofs.Common.{◌≡◌, ◌∙◌, ap, sym, subst, ℕ, List, [], ◌∷◌, ◌++◌, ◌<◌, ◌≤◌, ◌+◌, length, arith}
use Rattle.std.specs.BTreeMap.{get}
use Rattle.std.proofs.lemmas.List.{get_or_default}
use Rattle.scaled_plane.specs.declared.drawing.Face.{Face}
use Rattle.flat_fold.specs.Faces.{corners_at}
use Rattle.flat_fold.specs.Making.{AreNumbersBy, HasNumbers}
use Rattle.flat_fold.specs.Places.{laid_order}
use Rattle.flat_fold.proofs.FoldLaws.{AreFacesBy, more_faces}
use Rattle.flat_fold.proofs.fold.number_faces.Goals as goal

pub loop-f-init : goal.loop-f-init
loop-f-init c = record { long = ap (λ (s : List Face). length s) c.new-by_numbers.ensures; each = λ f less. absurd (omega (arith, less)) }

pub number_face-requires : goal.number_face-requires
number_face-requires c =
    let corners_is : c.as_slice.result.now ≡ corners_at c.args.faces.now c.loop-f.f
    = c.as_slice.ensures ∙ ap (λ (face : Face). face.corners) (c.index-faces-f.is ∙ get_or_default c.args.faces.now c.loop-f.f c.index-faces-f.result (record { corners = [] }) c.loop-f-test.true) in
    subst (λ (s : List ℕ). HasNumbers (get laid_order c.args.numbers.now) c.loop-f.f s) (sym corners_is) (c.requires.known c.loop-f.f)

pub loop-f-preserved : goal.loop-f-preserved
loop-f-preserved c =
    let corners_is : c.as_slice.result.now ≡ corners_at c.args.faces.now c.loop-f.f
    = c.as_slice.ensures ∙ ap (λ (face : Face). face.corners) (c.index-faces-f.is ∙ get_or_default c.args.faces.now c.loop-f.f c.index-faces-f.result (record { corners = [] }) c.loop-f-test.true) in
    let here : AreNumbersBy (get laid_order c.args.numbers.now) c.loop-f.f (corners_at c.args.faces.now c.loop-f.f) (length (corners_at c.args.faces.now c.loop-f.f)) c.in_ok-numbered.numbered.corners
    = subst (λ (s : List ℕ). AreNumbersBy (get laid_order c.args.numbers.now) c.loop-f.f s (length s) c.in_ok-numbered.numbered.corners) corners_is c.in_ok-numbered.ensures in
    subst (λ (s : List Face). AreFacesBy (get laid_order c.args.numbers.now) c.args.faces.now (c.loop-f.f + 1) s) (sym c.in-Ok.ensures.ok)
    (more_faces (get laid_order c.args.numbers.now) c.args.faces.now c.loop-f.f c.loop-f.by_numbers c.in_ok-numbered.numbered here c.loop-f.invariant)
