use Rattle.std.proofs.Common.{◌≡◌, ◌∙◌, subst, sym, ℕ, List, ◌<◌, ◌^◌, length, arith}
use Rattle.scaled_plane.specs.declared.drawing.Face.{Face}
use Rattle.flat_fold.specs.Faces.{corners_at}
use Rattle.flat_fold.proofs.SheetLaws.{few-corners}
use Rattle.flat_fold.proofs.sides.edge_sides.Goals as goal

pub pieces_of-requires-clause-few_corners : goal.pieces_of-requires-clause-few_corners
pieces_of-requires-clause-few_corners g c =
    let all : c.as_slice-faces.result.now ≡ c.args.sheet.now.faces = c.as_slice-faces.ensures ∙ c.faces.ensures.faces in
    subst (λ (fs : List Face). (f : ℕ) → f < length fs → length (corners_at fs f) < 2 ^ 32) (sym all)
    (λ f l. let few = few-corners c.args.sheet.now.ends c.args.sheet.now.faces c.faces.ensures.sheet f l in omega (arith, few))
