-- Faces of a sheet by their places, and what they have in common.
use Rattle.std.proofs.Common.{◌≡◌, sym, subst, ℕ, ◌<◌, [], length, slice_get, Some, false, ◌↔◌}
use Rattle.std.proofs.lemmas.Option.{slice_get-get_or, get_or_from_slice_get}
use Rattle.algebra.specs.OrderedRing.{OrderedRing}
use Rattle.plane.specs.declared.point.Point.{Point}
use Rattle.layers.specs.Sheets.{FoldedFace, FoldedSheet, IsInside, IsInsideFace, Overlap}
use Rattle.layers.specs.Listing.{ThreeOverlap}
use Rattle.half_planes.specs.Faces.{InsidesMeet, ThreeInsidesMeet}
use Rattle.half_planes.specs.Views.{face_at}

module _ {A : Type 0} (sheet : FoldedSheet A) where
  pub face_is : (f : ℕ) → f < length sheet.faces → slice_get sheet.faces f ≡ Some (face_at sheet f)
  face_is f within = slice_get-get_or sheet.faces f (record { corners = []; turned = false }) within

  pub is_face : (f : ℕ) (face : FoldedFace A) → slice_get sheet.faces f ≡ Some face → face_at sheet f ≡ face
  is_face f face read = get_or_from_slice_get sheet.faces f face (record { corners = []; turned = false }) read

module _ {A : Type 0} (K : OrderedRing A) (sheet : FoldedSheet A) where
  pub inside_at : (f : ℕ) (p : Point A) → IsInside K sheet f p → IsInsideFace K (face_at sheet f) p
  inside_at f p i = subst (λ (x : FoldedFace A). IsInsideFace K x p) (sym (is_face sheet f i.face i.is)) i.within

  pub inside_of : (f : ℕ) → f < length sheet.faces → (p : Point A) → IsInsideFace K (face_at sheet f) p → IsInside K sheet f p
  inside_of f within p h = record { face = face_at sheet f; is = face_is sheet f within; within = h }

  pub two_overlap : (f g : ℕ) → f < length sheet.faces → g < length sheet.faces → (InsidesMeet K (face_at sheet f) (face_at sheet g) ↔ Overlap K sheet f g)
  two_overlap f g hf hg = (
    λ m. record { point = m.0; is_point = m.1; in_first = inside_of f hf m.0 m.2; in_second = inside_of g hg m.0 m.3 },
    λ o. (o.point, o.is_point, inside_at f o.point o.in_first, inside_at g o.point o.in_second),
  )

  pub all_overlap : (f g h : ℕ) → f < length sheet.faces → g < length sheet.faces → h < length sheet.faces
      → (ThreeInsidesMeet K (face_at sheet f) (face_at sheet g) (face_at sheet h) ↔ ThreeOverlap K sheet f g h)
  all_overlap f g h hf hg hh = (
    λ m. record { point = m.0; is_point = m.1; in_first = inside_of f hf m.0 m.2; in_second = inside_of g hg m.0 m.3; in_third = inside_of h hh m.0 m.4 },
    λ o. (o.point, o.is_point, inside_at f o.point o.in_first, inside_at g o.point o.in_second, inside_at h o.point o.in_third),
  )
