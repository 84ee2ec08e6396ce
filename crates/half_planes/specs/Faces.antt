-- What faces have in common with each other and with segments, as they lie after folding.
use Rattle.std.specs.Prelude.{◌≡◌}
use Rattle.std.specs.declared.cmp.Ordering.{Ordering}
use Rattle.algebra.specs.OrderedRing.{OrderedRing}
use Rattle.plane.specs.declared.point.Point.{Point}
use Rattle.plane.specs.Points.{IsPoint, IsSamePoint}
use Rattle.plane.specs.Segments.{IsBetween, IsOnBoth}
use Rattle.plane.specs.Lines.{side}
use Rattle.layers.specs.Sheets.{FoldedFace, IsInsideFace}

module _ {A : Type 0} (K : OrderedRing A) where
  -- the insides of two faces share a point
  abbrev pub InsidesMeet : FoldedFace A → FoldedFace A → Type 0
  InsidesMeet f g = (p : Point A) × IsPoint K p × IsInsideFace K f p × IsInsideFace K g p

  -- the insides of three faces share a point
  abbrev pub ThreeInsidesMeet : FoldedFace A → FoldedFace A → FoldedFace A → Type 0
  ThreeInsidesMeet f g h = (p : Point A) × IsPoint K p × IsInsideFace K f p × IsInsideFace K g p × IsInsideFace K h p

  -- a point between p and q is inside the face
  abbrev pub EntersFace : Point A → Point A → FoldedFace A → Type 0
  EntersFace p q f = (r : Point A) × IsPoint K r × IsBetween K p q r × IsInsideFace K f r

  -- the segments ab and cd share more than one point
  abbrev pub RunTogether : Point A → Point A → Point A → Point A → Type 0
  RunTogether a b c d = (p q : Point A) × IsOnBoth K a b c d p × IsOnBoth K a b c d q × ¬ IsSamePoint K p q

  -- all points inside the face lie on this side of the line from p to q
  abbrev pub InsideLiesOn : Point A → Point A → FoldedFace A → Ordering → Type 0
  InsideLiesOn p q f s = (r : Point A) → IsPoint K r → IsInsideFace K f r → side K p q r ≡ s
