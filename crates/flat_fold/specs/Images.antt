-- Images: where the faces of a sheet lay its vertices, from the map of each face.
use Rattle.std.specs.Prelude.{◌≡◌, ◌⊎◌, ℕ, List, ◌<◌, ◌≤◌, length, slice_index_or, pos}
use Rattle.std.specs.List.{Contains}
use Rattle.algebra.specs.OrderedField.{OrderedField}
use Rattle.scaled_plane.specs.declared.point.Pair.{Pair}
use Rattle.scaled_plane.specs.declared.drawing.Face.{Face}
use Rattle.flat_fold.specs.declared.motion.Motion.{Motion}
use Rattle.flat_fold.specs.declared.images.Origin.{Origin}
use Rattle.flat_fold.specs.Motions.{place, identity}
use Rattle.flat_fold.specs.Faces.{corners_at}
use Rattle.flat_fold.specs.Folding.{point}

-- the vertex at a corner of a face; of a face by its corners' images, the number of the image
abbrev pub corner_at : List Face → ℕ → ℕ → ℕ
corner_at faces f k = slice_index_or (corners_at faces f) k 0

abbrev pub origin_at : List Origin → ℕ → Origin
origin_at origins i = slice_index_or origins i (record { vertex = 0; face = 0 })

-- by the vertex, then by the face
abbrev pub IsBefore : Origin → Origin → Type 0
IsBefore o p = (o.vertex < p.vertex) ⊎ ((o.vertex ≡ p.vertex) × (o.face < p.face))

module _ {A : Type 0} (F : OrderedField A) where
  abbrev pub map_at : List (Motion A) → ℕ → Motion A
  map_at maps f = slice_index_or maps f (identity F)

  abbrev pub image_at : List (Pair A) → ℕ → Pair A
  image_at images i = point F images i

  -- the image of this number is the vertex v, laid at a
  pub record IsNumberOf (origins : List Origin) (images : List (Pair A)) (i v : ℕ) (a : Pair A) : Type 0 where
    pub within : i < length images
    pub vertex : (origin_at origins i).vertex ≡ v
    pub place : image_at images i ≡ a

  module _ (coords : List (Pair A)) (faces : List Face) (maps : List (Motion A)) where
    -- where the face f lays the vertex v
    abbrev pub place_by : ℕ → ℕ → Pair A
    place_by f v = place F (map_at maps f) (point F coords v)

    -- the face f has the vertex v as a corner, and lays it at a
    pub record Gives (f v : ℕ) (a : Pair A) : Type 0 where
      pub corner : Contains (corners_at faces f) v
      pub placed : place_by f v ≡ a

    -- a is one of the places of the vertex, and no face before this one gives it
    pub record IsImage (o : Origin) (a : Pair A) : Type 0 where
      pub given : Gives o.face o.vertex a
      pub least : (g : ℕ) → Gives g o.vertex a → o.face ≤ g

    -- the images of all vertices, in the order of the vertices, and those of one vertex in the order of the least face that
    -- gives each
    pub record AreImages (origins : List Origin) (images : List (Pair A)) : Type 0 where
      pub long : length origins ≡ length images
      pub each : (i : ℕ) → i < length images → IsImage (origin_at origins i) (image_at images i)
      pub all : (f v : ℕ) (a : Pair A) → Gives f v a → (i : ℕ) × IsNumberOf origins images i v a
      pub in_order : (i j : ℕ) → i < j → j < length images → IsBefore (origin_at origins i) (origin_at origins j)

    -- for each corner of each face the number of its image
    pub record AreNumbers (origins : List Origin) (images : List (Pair A)) (numbers : List Face) : Type 0 where
      pub all_faces : length numbers ≡ length faces
      pub all_corners : (f : ℕ) → length (corners_at numbers f) ≡ length (corners_at faces f)
      pub each : (f k : ℕ) → f < length faces → k < length (corners_at faces f)
          → IsNumberOf origins images (corner_at numbers f k) (corner_at faces f k) (place_by f (corner_at faces f k))
