-- A folded sheet by the places of its faces and edges.
use Rattle.std.specs.Prelude.{◌≡◌, ◌⊎◌, ℕ, List, [], ◌∷◌, ◌<◌, length, slice_index_or, Contains, Option, Some, None, false}
use Rattle.fold_base.specs.declared.letter.Letter.TheVariants.{Border}
use Rattle.algebra.specs.OrderedRing.{OrderedRing}
use Rattle.layers.specs.Pieces.{Piece, reversed}
use Rattle.layers.specs.Sheets.{FoldedFace, FoldedEdge, FoldedSheet, FaceSide as NumberedSide, IsImage}
use Rattle.half_planes.specs.declared.sheet.FaceSide.{FaceSide}
use Rattle.half_planes.specs.declared.sheet.EdgeSides.{EdgeSides}

abbrev pub face_at : {A : Type 0} → FoldedSheet A → ℕ → FoldedFace A
face_at sheet f = slice_index_or sheet.faces f (record { corners = []; turned = false })

abbrev pub edge_at : {A : Type 0} → FoldedSheet A → ℕ → FoldedEdge
edge_at sheet e = slice_index_or sheet.edges e (record { letter = Border; sides = [] })

abbrev pub numbered : FaceSide → NumberedSide
numbered side = record { face = side.face; corner = side.corner }

abbrev pub with_second : NumberedSide → Option FaceSide → List NumberedSide
with_second first None = first ∷ []
with_second first (Some second) = first ∷ numbered second ∷ []

-- the first, and the second where there is one
abbrev pub side_list : EdgeSides → List NumberedSide
side_list sides = with_second (numbered sides.first) sides.second

module _ {A : Type 0} (sheet : FoldedSheet A) where
  -- the sides of edges are pieces of faces, and a border is one
  pub record AreSided : Type 0 where
    pub has_face : (e : ℕ) (side : NumberedSide) → e < length sheet.edges → Contains (edge_at sheet e).sides side → side.face < length sheet.faces
    pub has_corner : (e : ℕ) (side : NumberedSide) → e < length sheet.edges → Contains (edge_at sheet e).sides side
        → side.corner < length (face_at sheet side.face).corners
    pub one_at_border : (e : ℕ) → e < length sheet.edges → (edge_at sheet e).letter ≡ Border → length (edge_at sheet e).sides ≡ 1

-- the edge lies as the piece s, and as no other piece but that one reversed
pub record LiesAs {A : Type 0} (K : OrderedRing A) (sheet : FoldedSheet A) (e : ℕ) (s : Piece A) : Type 0 where
  pub face : ℕ
  pub image : IsImage K sheet e face s
  pub alike : (f : ℕ) (t : Piece A) → IsImage K sheet e f t → (t ≡ s) ⊎ (t ≡ reversed s)
