-- What is shown of the faces of a folded sheet, apart from its edges.
use Rattle.std.specs.Prelude.{◌≡◌, ℕ, Contains}
use Rattle.algebra.specs.OrderedRing.{OrderedRing}
use Rattle.plane.specs.declared.point.Point.{Point}
use Rattle.layers.specs.Folded.{IsConvex}
use Rattle.layers.specs.Pieces.{IsInMiddle, Piece}
use Rattle.layers.specs.Sheets.{FoldedFace, FoldedSheet, HasPiece}

-- the faces are convex, and no two directed pieces of one share a point between their ends
pub record FacesLieWell {A : Type 0} (K : OrderedRing A) (sheet : FoldedSheet A) : Type 0 where
  pub convex : (face : FoldedFace A) → Contains sheet.faces face → IsConvex K face
  pub pieces_apart : (f k l : ℕ) (s t : Piece A) (p : Point A) → HasPiece K sheet f k s → HasPiece K sheet f l t
      → IsInMiddle K s p → IsInMiddle K t p → k ≡ l
