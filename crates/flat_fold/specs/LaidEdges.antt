-- The images of edges by the faces that lay their ends there.
use Rattle.std.specs.Prelude.{◌≡◌, ℕ, List, [], ◌∷◌, ◌++◌, ◌<◌, ◌≤◌, length, map, slice_index_or}
use Rattle.algebra.specs.OrderedField.{OrderedField}
use Rattle.scaled_plane.specs.declared.drawing.Edge.{Edge}
use Rattle.scaled_plane.specs.declared.drawing.Face.{Face}
use Rattle.scaled_plane.specs.declared.point.Pair.{Pair}
use Rattle.flat_fold.specs.declared.images.Origin.{Origin}
use Rattle.flat_fold.specs.declared.motion.Motion.{Motion}
use Rattle.flat_fold.specs.EdgeImages.{image_of}
use Rattle.flat_fold.specs.Faces.{edge_at}
use Rattle.flat_fold.specs.Folded.{HasEdge, Layout}
use Rattle.flat_fold.specs.Images.{IsNumberOf, place_by}

-- a pair of images by their numbers
abbrev pub pair_at : List (ℕ × ℕ) → ℕ → ℕ × ℕ
pair_at pairs k = slice_index_or pairs k (0, 0)

-- the pairs of images of an edge, of those of all edges; past the end none
abbrev pub pairs_of : List (List (ℕ × ℕ)) → ℕ → List (ℕ × ℕ)
pairs_of pairs e = slice_index_or pairs e []

-- edge by edge an edge between the images of each of its pairs, with its letter
abbrev pub with_letters : List Edge → List (List (ℕ × ℕ)) → List Edge
with_letters [] pairs = []
with_letters (edge ∷ edges) [] = []
with_letters (edge ∷ edges) (ps ∷ pairs) = map (image_of edge.letter) ps ++ with_letters edges pairs

module _ {A : Type 0} (F : OrderedField A) (coords : List (Pair A)) (edges : List Edge) (faces : List Face) (maps : List (Motion A)) (origins : List Origin) (images : List (Pair A)) where
  -- the face has the edge, and lays its first and second end at this pair of images
  pub record LaysEdge (e f : ℕ) (pair : ℕ × ℕ) : Type 0 where
    pub face : HasEdge edges faces f e
    pub from : IsNumberOf F origins images pair.0 (edge_at edges e).from (place_by F coords faces maps f (edge_at edges e).from)
    pub to : IsNumberOf F origins images pair.1 (edge_at edges e).to (place_by F coords faces maps f (edge_at edges e).to)

  -- .. and no lesser face does
  pub record LaysFirst (e f : ℕ) (pair : ℕ × ℕ) : Type 0 where
    pub lays : LaysEdge e f pair
    pub least : (g : ℕ) → LaysEdge e g pair → f ≤ g

  -- the different pairs at which the edge's faces lay its ends, in the order of the least face that lays them at each
  pub record AreImagesOf (e : ℕ) (pairs : List (ℕ × ℕ)) : Type 0 where
    pub given : (k : ℕ) → k < length pairs → (f : ℕ) × LaysFirst e f (pair_at pairs k)
    pub all : (f : ℕ) → HasEdge edges faces f e → (k : ℕ) × (k < length pairs) × LaysEdge e f (pair_at pairs k)
    pub in_order : (i j f g : ℕ) → i < j → j < length pairs → LaysFirst e f (pair_at pairs i) → LaysFirst e g (pair_at pairs j) → f < g

-- the images of the folded sheet's edges, in the order of the edges: of each edge the different pairs at which its faces lay its ends
pub record AreLaid {N W : Type 0} (F : OrderedField N) (layout : Layout N W) (edges : List Edge) : Type 0 where
  pub pairs : List (List (ℕ × ℕ))
  pub long : length pairs ≡ length layout.sheet.ends.edges
  pub each : (e : ℕ) → e < length layout.sheet.ends.edges
      → AreImagesOf F layout.sheet.ends.coords layout.sheet.ends.edges layout.sheet.faces layout.maps layout.origins layout.images e (pairs_of pairs e)
  pub are : edges ≡ with_letters layout.sheet.ends.edges pairs
