use Rattle.std.proofs.Common.{◌≡◌, ◌∙◌, ap, sym, subst, ℕ, List, ◌<◌, ◌≤◌, length, slice_index_or, arith}
use Rattle.plane.specs.declared.point.Point.{Point}
use Rattle.scaled_plane.specs.declared.point.Pair.{Pair}
use Rattle.scaled_plane.specs.Scaling.{IsScaledWith}
use Rattle.flat_fold.specs.Folded.{Layout}
use Rattle.flat_fold.specs.Images.{corner_at, image_at, place_by}
use Rattle.flat_fold.proofs.FoldedLaws.{scaled-long, scaled-at}
use Rattle.flat_fold.proofs.folded.Folded.point.Goals as goal

pub offset_bounds-as_slice-number : goal.offset_bounds-as_slice-number
offset_bounds-as_slice-number g c =
    let points : c.as_slice.result.now ≡ c.args.self.now.scaled.points = c.as_slice.ensures ∙ ap (λ (l : Layout g.row.N.Denot g.row.N-Ring.Denot). l.scaled.points) c.self.view_is in
    let long : length c.args.self.now.images ≡ length c.args.self.now.scaled.points = scaled-long g.N.Exact.parts g.N.Exact.numbers.field g.N.Ring.Whole.numbers c.args.self.now.images c.args.self.now.scaled c.image-number.ensures.folded.scaled_is in
    let same : length c.as_slice.result.now ≡ length c.args.self.now.scaled.points = ap (λ (s : List (Point g.row.N-Ring.Denot)). length s) points in
    let within : c.image-number.result < length c.args.self.now.images = c.image-number.ensures.within in
    omega (arith, long, same, within)

pub bounds-as_slice-number : goal.bounds-as_slice-number
bounds-as_slice-number g c =
    let points : c.as_slice.result.now ≡ c.args.self.now.scaled.points = c.as_slice.ensures ∙ ap (λ (l : Layout g.row.N.Denot g.row.N-Ring.Denot). l.scaled.points) c.self.view_is in
    let long : length c.args.self.now.images ≡ length c.args.self.now.scaled.points = scaled-long g.N.Exact.parts g.N.Exact.numbers.field g.N.Ring.Whole.numbers c.args.self.now.images c.args.self.now.scaled c.image-number.ensures.folded.scaled_is in
    let same : length c.as_slice.result.now ≡ length c.args.self.now.scaled.points = ap (λ (s : List (Point g.row.N-Ring.Denot)). length s) points in
    let within : c.image-number.result < length c.args.self.now.images = c.image-number.ensures.within in
    omega (arith, long, same, within)

pub returns : goal.returns
returns g c =
    let l = c.args.self.now in
    let F = g.N.Exact.numbers.field in
    let points : c.as_slice.result.now ≡ c.args.self.now.scaled.points = c.as_slice.ensures ∙ ap (λ (l : Layout g.row.N.Denot g.row.N-Ring.Denot). l.scaled.points) c.self.view_is in
    let x : Point g.row.N-Ring.Denot = c.index-as_slice-number.result in
    let is : c.index-as_slice-number.result ≡ slice_index_or c.args.self.now.scaled.points c.image-number.result c.index-as_slice-number.result
    = c.index-as_slice-number.is ∙ ap (λ (s : List (Point g.row.N-Ring.Denot)). slice_index_or s c.image-number.result c.index-as_slice-number.result) points in
    let at = scaled-at g.N.Exact.parts F g.N.Ring.Whole.numbers c.args.self.now.images c.args.self.now.scaled c.image-number.ensures.folded.scaled_is c.image-number.result c.index-as_slice-number.result c.image-number.ensures.within in
    let corner = c.image-number.ensures.folded.corners_are.each c.args.face c.args.corner c.requires.face c.requires.corner in
    let place : image_at F c.args.self.now.images c.image-number.result ≡ place_by F c.args.self.now.sheet.ends.coords c.args.self.now.sheet.faces c.args.self.now.maps c.args.face (corner_at c.args.self.now.sheet.faces c.args.face c.args.corner)
    = ap (λ i. image_at F c.args.self.now.images i) c.image-number.ensures.number ∙ corner.place in
    subst (λ (a : Pair g.row.N.Denot). IsScaledWith g.N.Exact.parts g.N.Ring.Whole.numbers c.args.self.now.scaled.common a c.index-as_slice-number.result) place
    (subst (λ (p : Point g.row.N-Ring.Denot). IsScaledWith g.N.Exact.parts g.N.Ring.Whole.numbers c.args.self.now.scaled.common (image_at F c.args.self.now.images c.image-number.result) p) (sym is) at)
