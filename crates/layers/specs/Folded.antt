-- What is asked of a folded sheet: convex faces, and edges at which two faces meet.
use Rattle.std.specs.Prelude.{◌≡◌, ◌⊎◌, ℕ, Contains, Some, slice_get}
use Rattle.std.specs.Ordering.{ordering_reverse}
use Rattle.algebra.specs.OrderedRing.{OrderedRing}
use Rattle.plane.specs.declared.point.Point.{Point}
use Rattle.plane.specs.Points.{IsPoint}
use Rattle.layers.specs.Pieces.{Piece, reversed, pieces_round, side_of, IsInMiddle}
use Rattle.layers.specs.Sheets.{FoldedFace, FoldedEdge, FaceSide, FoldedSheet, IsCrease, IsJoin, HasPiece, HasFaces, inner_side}

module _ {A : Type 0} (K : OrderedRing A) where
  -- there are corners, no corner is on the outer side of a directed piece of the face, and each piece
  -- has some corner strictly on its inner side
  pub record IsConvex (face : FoldedFace A) : Type 0 where
    pub points : (v : Point A) → Contains face.corners v → IsPoint K v
    pub some_corner : (v : Point A) × Contains face.corners v
    pub none_outside : (s : Piece A) (v : Point A) → Contains (pieces_round face.corners) s → Contains face.corners v
        → ¬ (side_of K s v ≡ ordering_reverse (inner_side face.turned))
    pub solid : (s : Piece A) → Contains (pieces_round face.corners) s
        → (v : Point A) × Contains face.corners v × (side_of K s v ≡ inner_side face.turned)

  module _ (sheet : FoldedSheet A) where
    -- The two faces place the edge as one piece, in opposite directions. One of them is turned at a
    -- crease, and both or none at a join.
    pub record MeetThere {e f g : ℕ} (faces : HasFaces K sheet e f g) : Type 0 where
      pub piece : Piece A
      pub in_first : HasPiece K sheet f faces.first piece
      pub in_second : HasPiece K sheet g faces.second (reversed piece)
      pub turned_at_crease : IsCrease faces.edge.letter → ¬ (in_first.face.turned ≡ in_second.face.turned)
      pub alike_at_join : IsJoin faces.edge.letter → in_first.face.turned ≡ in_second.face.turned

    -- the edge e is this side of a face
    abbrev pub IsSideOf : ℕ → FaceSide → Type 0
    IsSideOf e side = (edge : FoldedEdge) × (slice_get sheet.edges e ≡ Some edge) × Contains edge.sides side

    -- Convex faces, of which no two directed pieces share a point between their ends; each of these
    -- is a side of one edge at most, and the two faces of a crease or join meet at it.
    pub record IsFolded : Type 0 where
      pub convex : (face : FoldedFace A) → Contains sheet.faces face → IsConvex face
      pub pieces_apart : (f k l : ℕ) (s t : Piece A) (p : Point A) → HasPiece K sheet f k s → HasPiece K sheet f l t
          → IsInMiddle K s p → IsInMiddle K t p → k ≡ l
      pub one_edge : (e d : ℕ) (side : FaceSide) → IsSideOf e side → IsSideOf d side → e ≡ d
      pub meet : (e f g : ℕ) (faces : HasFaces K sheet e f g) → IsCrease faces.edge.letter ⊎ IsJoin faces.edge.letter → MeetThere faces
