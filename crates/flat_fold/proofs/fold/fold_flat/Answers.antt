use Rattle.std.proofs.Common.{rules, ◌≡◌, ◌∙◌, ap, sym, subst, ℕ, List, ◌<◌, length}
use Rattle.std.specs.BTreeMap.{get}
use Rattle.scaled_plane.specs.declared.drawing.Face.{Face}
use Rattle.flat_fold.specs.Computed.{exact}
use Rattle.flat_fold.specs.Faces.{corners_at}
use Rattle.flat_fold.specs.Folded.{Refuses}
use Rattle.flat_fold.specs.Making.{AreNumbersBy, HasNumbers}
use Rattle.flat_fold.specs.Places.{laid_order}
use Rattle.flat_fold.proofs.FoldLaws.{has-numbers, are-numbers, refused-wide}
use Rattle.flat_fold.proofs.fold.fold_flat.Goals as goal

pub scale_images-requires : goal.scale_images-requires
scale_images-requires g c = record {
  few = c.in_ok-numbered.ensures.closed.laid.few;
  long = c.in_ok-numbered.ensures.closed.laid.images_are.long;
}

pub returns-in_err-scaled-clause-refused : goal.returns-in_err-scaled-clause-refused
returns-in_err-scaled-clause-refused g c =
    let K = exact g.N.Exact.numbers in
    let why : Refuses (exact g.N.Exact.numbers) c.args.sheet.ends.coords c.args.sheet.ends.edges c.args.sheet.faces g.N.Exact.parts c.in_err-scaled.field-0.0
    = refused-wide (exact g.N.Exact.numbers) c.args.sheet.ends.coords c.args.sheet.ends.edges c.args.sheet.faces c.in_ok-mapped.mapped.maps c.in_ok-numbered.numbered c.in_ok-numbered.ensures.closed
    g.N.Exact.parts c.in_err-scaled.field-0.0 c.in_err-scaled.ensures.too_wide in
    search (rules, why)

pub number_faces-requires-clause-known : goal.number_faces-requires-clause-known
number_faces-requires-clause-known g c f =
    let ef : c.as_slice.result.now ≡ c.args.sheet.faces = c.as_slice.ensures ∙ c.faces.ensures.faces in
    subst (λ (s : List Face). HasNumbers (get laid_order c.in_ok-numbered.numbered.numbers) f (corners_at s f)) (sym ef)
    (has-numbers (exact g.N.Exact.numbers) c.args.sheet.ends.coords c.args.sheet.ends.edges c.args.sheet.faces c.in_ok-mapped.mapped.maps c.in_ok-numbered.numbered c.in_ok-numbered.ensures.closed f)

pub new-requires : goal.new-requires
new-requires g c =
    let K = exact g.N.Exact.numbers in
    let ef : c.as_slice.result.now ≡ c.args.sheet.faces = c.as_slice.ensures ∙ c.faces.ensures.faces in
    let done = c.in_ok-numbered.ensures.closed in
    record {
      folding = done.folding;
      corners_are = are-numbers (exact g.N.Exact.numbers) c.args.sheet.ends.coords c.args.sheet.ends.edges c.args.sheet.faces c.in_ok-mapped.mapped.maps c.in_ok-numbered.numbered done
          c.in-Ok.corners (c.in-Ok.ensures.long ∙ ap (λ (s : List Face). length s) ef)
          (subst (λ (s : List Face). (f : ℕ) → f < length s → AreNumbersBy (get laid_order c.in_ok-numbered.numbered.numbers) f (corners_at s f) (length (corners_at s f)) (corners_at c.in-Ok.corners f)) ef c.in-Ok.ensures.each);
      sides_are = c.in_ok-mapped.ensures.mapped.sides_are;
      scaled_is = c.in_ok-scaled.ensures.scaled;
    }
