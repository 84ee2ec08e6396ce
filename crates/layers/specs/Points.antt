-- What holds at single points of the folded sheet: stacks at generic points, strands and arcs at
-- seam points, and the letters of creases.
use Rattle.std.specs.Prelude.{◌≡◌, ◌⊎◌, ◌↔◌, ℕ, ◌<◌, true, false, List, Contains, Some, slice_get}
use Rattle.std.specs.Ordering.{ordering_reverse}
use Rattle.std.specs.declared.cmp.Ordering.{Ordering}
use Rattle.fold_base.specs.declared.letter.Letter.{Letter}
use Rattle.fold_base.specs.declared.letter.Letter.TheVariants.{Border, Mountain, Valley, Flat, Unassigned, Join, Cut}
use Rattle.algebra.specs.OrderedRing.{OrderedRing}
use Rattle.plane.specs.declared.point.Point.{Point}
use Rattle.plane.specs.Points.{IsPoint, IsSamePoint}
use Rattle.layers.specs.declared.crossing.Strand.{Strand}
use Rattle.layers.specs.declared.crossing.Strand.TheVariants.{Face, Edge}
use Rattle.layers.specs.Pieces.{Piece, IsOnPiece, IsInMiddle, IsAlong, side_of}
use Rattle.layers.specs.Sheets.{IsCrease, IsJoin, FoldedFace, FoldedSheet, IsInside, HasPiece, IsImage, HasFaces, GoesThrough}
use Rattle.layers.specs.Orders.{LiesBetween, OneBetween, Descending}

module _ {A : Type 0} (K : OrderedRing A) (sheet : FoldedSheet A) where
  -- on no folded edge
  abbrev pub IsGeneric : Point A → Type 0
  IsGeneric p = (e : ℕ) → ¬ GoesThrough K sheet e p

  -- p is at no folded vertex, and on folded edges that all lie along the line there
  pub record IsSeam (line : Piece A) (p : Point A) : Type 0 where
    pub is_point : IsPoint K p
    pub is_line : ¬ IsSamePoint K line.from line.to
    pub edge : ℕ
    pub on_edge : GoesThrough K sheet edge p
    pub off_vertices : (face : FoldedFace A) (v : Point A) → Contains sheet.faces face → Contains face.corners v → ¬ IsSamePoint K p v
    pub along : (e f : ℕ) (s : Piece A) → IsImage K sheet e f s → IsOnPiece K s p → IsAlong K line s

  -- the face lies on this side of the line: all points inside do
  abbrev pub LiesOn : Piece A → Ordering → ℕ → Type 0
  LiesOn line s f = (q : Point A) → IsPoint K q → IsInside K sheet f q → side_of K line q ≡ s

  -- ---- the faces at one side of a line through p

  -- p is in the middle of a piece of the face that lies along the line, and the face on this side
  pub record BeginsAt (line : Piece A) (p : Point A) (s : Ordering) (f : ℕ) : Type 0 where
    pub corner : ℕ
    pub piece : Piece A
    pub of_face : HasPiece K sheet f corner piece
    pub middle : IsInMiddle K piece p
    pub along : IsAlong K line piece
    pub lies : LiesOn line s f

  -- the face holds points near p on this side of the line
  abbrev pub IsAtSide : Piece A → Point A → Ordering → ℕ → Type 0
  IsAtSide line p s f = IsInside K sheet f p ⊎ BeginsAt line p s f

  -- ---- arcs and strands

  -- an edge through p with such a letter, its face f on the side s of the line and g on the side t
  pub record IsEdgeThere (Lettered : Letter → Type 0) (line : Piece A) (p : Point A) (s t : Ordering) (e f g : ℕ) : Type 0 where
    pub faces : HasFaces K sheet e f g
    pub lettered : Lettered faces.edge.letter
    pub through : GoesThrough K sheet e p
    pub first_side : LiesOn line s f
    pub second_side : LiesOn line t g

  -- a crease through p, with its two faces f and g on one side
  abbrev pub IsArc : Piece A → Point A → Ordering → ℕ → ℕ → ℕ → Type 0
  IsArc line p s = IsEdgeThere IsCrease line p s s

  -- the strand lies across the line at p, its face f on the side s and its face g on the other:
  -- either is the face itself where p is inside it, or a face of a join through p
  abbrev pub IsAcross : Piece A → Point A → Ordering → Strand → ℕ → ℕ → Type 0
  IsAcross line p s (Face h) f g = IsInside K sheet h p × (f ≡ h) × (g ≡ h)
  IsAcross line p s (Edge e) f g = IsEdgeThere IsJoin line p s (ordering_reverse s) e f g

  -- ---- how the layers may lie

  module _ (above : ℕ → ℕ → Type 0) where
    -- the faces with p inside make one pile: a list of them, each above all after it
    pub record IsOrderly (p : Point A) : Type 0 where
      pub layers : List ℕ
      pub are_stack : (f : ℕ) → Contains layers f ↔ IsInside K sheet f p
      pub descending : Descending above layers

    -- nothing that lies across has a face between those of an arc, two arcs on one side are nested or
    -- apart, and what lies across keeps its order from one side to the other
    pub record IsClear (line : Piece A) (p : Point A) : Type 0 where
      pub no_face_in_arc : (s : Ordering) (e f g : ℕ) (strand : Strand) (h k : ℕ) → IsArc line p s e f g → IsAcross line p s strand h k
          → ¬ LiesBetween above h f g
      pub no_arcs_cross : (s : Ordering) (e f g d h k : ℕ) → e < d → IsArc line p s e f g → IsArc line p s d h k → ¬ OneBetween above h k f g
      pub no_strands_cross : (s : Ordering) (strand other : Strand) (f g h k : ℕ) → IsAcross line p s strand f g → IsAcross line p s other h k
          → above f h → above g k

    -- f lies on the side of g to which the normal of g points
    pub record IsOnNormalSide (f g : ℕ) : Type 0 where
      pub other : FoldedFace A
      pub is_other : slice_get sheet.faces g ≡ Some other
      pub lies : (other.turned ≡ false) × above f g ⊎ (other.turned ≡ true) × above g f

    -- what the letter says of its two faces: each lies on the other's normal side at a valley, and
    -- neither at a mountain
    abbrev pub LetterFits : Letter → ℕ → ℕ → Type 0
    LetterFits Border f g = Unit {0}
    LetterFits Mountain f g = ¬ IsOnNormalSide f g × ¬ IsOnNormalSide g f
    LetterFits Valley f g = IsOnNormalSide f g × IsOnNormalSide g f
    LetterFits Flat f g = Unit {0}
    LetterFits Unassigned f g = Unit {0}
    LetterFits Join f g = Unit {0}
    LetterFits Cut f g = Unit {0}

    -- each stack at a generic point has an order, each seam point is clear, and the letters fit
    pub record IsLayered : Type 0 where
      pub orderly : (p : Point A) → IsPoint K p → IsGeneric p → IsOrderly p
      pub clear : (line : Piece A) (p : Point A) → IsSeam line p → IsClear line p
      pub letters : (e f g : ℕ) (faces : HasFaces K sheet e f g) → LetterFits faces.edge.letter f g
