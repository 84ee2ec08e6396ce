-- Folded sheets: the faces as they lie after folding, and the edges that they have in common.
use Rattle.std.specs.Prelude.{◌≡◌, ◌⊎◌, ℕ, Bool, true, false, List, [], ◌∷◌, Contains, Some, slice_get}
use Rattle.std.specs.declared.cmp.Ordering.{Ordering}
use Rattle.std.specs.declared.cmp.Ordering.TheVariants.{Less, Greater}
use Rattle.fold_base.specs.declared.letter.Letter.{Letter}
use Rattle.fold_base.specs.declared.letter.Letter.TheVariants.{Border, Mountain, Valley, Flat, Unassigned, Join, Cut}
use Rattle.algebra.specs.OrderedRing.{OrderedRing}
use Rattle.plane.specs.declared.point.Point.{Point}
use Rattle.plane.specs.Points.{IsPoint}
use Rattle.layers.specs.Pieces.{Piece, pieces_round, side_of, IsOnPiece}

-- the sheet is folded there
abbrev pub IsCrease : Letter → Type 0
IsCrease Border = ⊥
IsCrease Mountain = Unit {0}
IsCrease Valley = Unit {0}
IsCrease Flat = ⊥
IsCrease Unassigned = Unit {0}
IsCrease Join = ⊥
IsCrease Cut = ⊥

-- the sheet goes on flat there
abbrev pub IsJoin : Letter → Type 0
IsJoin Border = ⊥
IsJoin Mountain = ⊥
IsJoin Valley = ⊥
IsJoin Flat = Unit {0}
IsJoin Unassigned = ⊥
IsJoin Join = Unit {0}
IsJoin Cut = ⊥

-- where the corners of a face lie, in their order round the unfolded face, and whether it lies with
-- its other side up
pub record FoldedFace (A : Type 0) : Type 0 where
  pub corners : List (Point A)
  pub turned : Bool

-- the directed piece of a face that begins at this corner
pub record FaceSide : Type 0 where
  pub face : ℕ
  pub corner : ℕ

-- an edge, with the one or two sides of faces that it is
pub record FoldedEdge : Type 0 where
  pub letter : Letter
  pub sides : List FaceSide

pub record FoldedSheet (A : Type 0) : Type 0 where
  pub faces : List (FoldedFace A)
  pub edges : List FoldedEdge

-- the side of its directed pieces on which a face lies: a face that isn't turned has them
-- counterclockwise
abbrev pub inner_side : Bool → Ordering
inner_side false = Greater
inner_side true = Less

-- p is strictly on the inner side of each directed piece of the face
abbrev pub IsInsideFace : {A : Type 0} → OrderedRing A → FoldedFace A → Point A → Type 0
IsInsideFace {A} K face p = (s : Piece A) → Contains (pieces_round face.corners) s → side_of K s p ≡ inner_side face.turned

module _ {A : Type 0} (K : OrderedRing A) (sheet : FoldedSheet A) where
  -- p is inside the face f of the sheet
  pub record IsInside (f : ℕ) (p : Point A) : Type 0 where
    pub face : FoldedFace A
    pub is : slice_get sheet.faces f ≡ Some face
    pub within : IsInsideFace K face p

  -- some point is inside both faces
  pub record Overlap (f g : ℕ) : Type 0 where
    pub point : Point A
    pub is_point : IsPoint K point
    pub in_first : IsInside f point
    pub in_second : IsInside g point

  -- the face's directed piece from this corner
  pub record HasPiece (f corner : ℕ) (s : Piece A) : Type 0 where
    pub face : FoldedFace A
    pub is_face : slice_get sheet.faces f ≡ Some face
    pub is_piece : slice_get (pieces_round face.corners) corner ≡ Some s

  -- the face f places the edge e as the piece s
  pub record IsImage (e f : ℕ) (s : Piece A) : Type 0 where
    pub edge : FoldedEdge
    pub is : slice_get sheet.edges e ≡ Some edge
    pub corner : ℕ
    pub of_edge : Contains edge.sides (record { face = f; corner = corner })
    pub of_face : HasPiece f corner s

  -- f and g are the two faces of the edge e
  pub record HasFaces (e f g : ℕ) : Type 0 where
    pub edge : FoldedEdge
    pub is : slice_get sheet.edges e ≡ Some edge
    pub first : ℕ
    pub second : ℕ
    pub either : (edge.sides ≡ record { face = f; corner = first } ∷ record { face = g; corner = second } ∷ [])
        ⊎ (edge.sides ≡ record { face = g; corner = second } ∷ record { face = f; corner = first } ∷ [])

  -- some face of the edge e places it through p
  pub record GoesThrough (e : ℕ) (p : Point A) : Type 0 where
    pub face : ℕ
    pub piece : Piece A
    pub image : IsImage e face piece
    pub on : IsOnPiece K piece p
