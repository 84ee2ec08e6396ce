-- What the lemmas use of a folded sheet; `proofs/Known` shows it of every sheet with `IsFolded`.
use mathlib.Core.Path.{◌≡◌}
use mathlib.Core.Bool.{Bool}
use mathlib.Core.List.{List}
use Prim.Native.Nat.{ℕ}
use Rattle.std.specs.Prelude.{Some, Contains}
use Rattle.std.specs.List.{slice_get}
use Rattle.algebra.specs.OrderedRing.{OrderedRing}
use Rattle.plane.specs.declared.point.Point.{Point}
use Rattle.plane.specs.declared.point.Line.{Line}
use Rattle.plane.specs.Points.{IsPoint}
use Rattle.plane.specs.Lines.{LiesIn}
use Rattle.layers.specs.Pieces.{Piece, side_of, IsInMiddle}
use Rattle.layers.specs.Sheets.{IsCrease, IsJoin, FoldedFace, FaceSide, FoldedEdge, FoldedSheet, inner_side, IsInside, HasPiece, HasFaces}
use Rattle.layers.specs.Folded.{MeetThere}

module _ {A : Type 0} (K : OrderedRing A) (sheet : FoldedSheet A) where
  pub record HasInside (f : ℕ) : Type 0 where
    pub point : Point A
    pub is_point : IsPoint K point
    pub inside : IsInside K sheet f point

  -- the points round p, in some open half-planes in which p lies, that lie on the face's side of
  -- the piece s are inside of the face
  pub record InsideNear (f : ℕ) (turned : Bool) (s : Piece A) (p : Point A) : Type 0 where
    pub near : List (Line A)
    pub holds : LiesIn K near p
    pub inside : (q : Point A) → IsPoint K q → LiesIn K near q → side_of K s q ≡ inner_side turned → IsInside K sheet f q

  pub record FoldedFacts : Type 0 where
    pub corner_is_point : (f : ℕ) (face : FoldedFace A) (v : Point A) → slice_get sheet.faces f ≡ Some face → Contains face.corners v → IsPoint K v
    -- each face has a point inside
    pub has_inside : (f : ℕ) (face : FoldedFace A) → slice_get sheet.faces f ≡ Some face → HasInside f
    -- near the middle of a directed piece, the points on the face's side of it are inside of the
    -- face
    pub inside_near : (f k : ℕ) (s : Piece A) (h : HasPiece K sheet f k s) (p : Point A) → IsPoint K p → IsInMiddle K s p → InsideNear f h.face.turned s p
    -- two directed pieces of a face don't meet in their middles
    pub pieces_apart : (f k l : ℕ) (s t : Piece A) (p : Point A) → HasPiece K sheet f k s → HasPiece K sheet f l t → IsInMiddle K s p → IsInMiddle K t p → k ≡ l
    -- a directed piece of a face is a side of one edge
    pub one_edge : (e d : ℕ) (edge other : FoldedEdge) (side : FaceSide) → slice_get sheet.edges e ≡ Some edge → slice_get sheet.edges d ≡ Some other → Contains edge.sides side
        → Contains other.sides side → e ≡ d
    -- across an M, V or U edge the two faces are turned differently, across an F or J edge alike
    pub crease_meets : (e f g : ℕ) (h : HasFaces K sheet e f g) → IsCrease h.edge.letter → MeetThere K sheet h
    pub join_meets : (e f g : ℕ) (h : HasFaces K sheet e f g) → IsJoin h.edge.letter → MeetThere K sheet h
