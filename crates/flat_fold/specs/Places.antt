-- Where faces lay their corners, each by its map, as a map from vertex and face to place.
use Rattle.std.specs.Prelude.{◌≡◌, ◌⊎◌, ℕ, List, ◌<◌, length, Option, Some, Result, Ok, Err, slice_index_or}
use Rattle.std.specs.Ordering.{nat_cmp, ordering_then}
use Rattle.std.specs.declared.cmp.Ordering.{Ordering}
use Rattle.scaled_plane.specs.declared.point.Pair.{Pair}
use Rattle.scaled_plane.specs.declared.drawing.Face.{Face}
use Rattle.flat_fold.specs.declared.motion.Motion.{Motion}
use Rattle.flat_fold.specs.declared.places.CornerFault.{CornerFault}
use Rattle.flat_fold.specs.declared.places.CornerFault.TheVariants.{Past, Memory as CornerMemory}
use Rattle.flat_fold.specs.declared.places.PlaceFault.{PlaceFault}
use Rattle.flat_fold.specs.declared.places.PlaceFault.TheVariants.{NumberPast, Memory}
use Rattle.flat_fold.specs.Computed.{Computed, ComputedField, Fits}
use Rattle.flat_fold.specs.Motions.{place}
use Rattle.flat_fold.specs.Operations.{placing}
use Rattle.flat_fold.specs.Faces.{corners_at}
use Rattle.flat_fold.specs.Folding.{point}
use Rattle.flat_fold.specs.Images.{map_at}

-- by the vertex, then by the face
abbrev pub laid_order : ℕ × ℕ → ℕ × ℕ → Ordering
laid_order p q = ordering_then (nat_cmp p.0 q.0) (nat_cmp p.1 q.1)

-- the corners are vertices
abbrev pub AreVertices : ℕ → List ℕ → Type 0
AreVertices count corners = (k : ℕ) → k < length corners → slice_index_or corners k 0 < count

module _ {A : Type 0} (K : ComputedField A) (coords : List (Pair A)) where
  module _ (m : Motion A) (face : ℕ) (corners : List ℕ) where
    -- the operations that lay corner k
    abbrev pub laying : ℕ → Computed (Pair A)
    laying k = placing K m (point K.field coords (slice_index_or corners k 0))

    -- the corners below n are laid, and nothing else is changed
    pub record AreLaidTo (n : ℕ) (old new : ℕ × ℕ → Option (Pair A)) : Type 0 where
      pub fits : (k : ℕ) → k < n → Fits (laying k)
      pub here : (k : ℕ) → k < n → new (slice_index_or corners k 0, face) ≡ Some (place K.field m (point K.field coords (slice_index_or corners k 0)))
      pub only : (q : ℕ × ℕ) (a : Pair A) → new q ≡ Some a → ((k : ℕ) × (k < n) × (q ≡ (slice_index_or corners k 0, face))) ⊎ (old q ≡ Some a)
      pub kept : (q : ℕ × ℕ) → ¬ (q.1 ≡ face) → new q ≡ old q

    -- v is the vertex at the first corner whose place overflows
    pub record IsFirstPast (v : ℕ) : Type 0 where
      pub corner : ℕ
      pub within : corner < length corners
      pub vertex : slice_index_or corners corner 0 ≡ v
      pub past : ¬ Fits (laying corner)
      pub earlier : (j : ℕ) → j < corner → Fits (laying j)

    -- what laying the corners of a face answers
    abbrev pub LaysCorners : (ℕ × ℕ → Option (Pair A)) → (ℕ × ℕ → Option (Pair A)) → Result (Unit {0}) CornerFault → Type 0
    LaysCorners old new (Ok u) = AreLaidTo (length corners) old new
    LaysCorners old new (Err (Past v)) = IsFirstPast v
    LaysCorners old new (Err (CornerMemory e)) = Unit {0}

  module _ (faces : List Face) (maps : List (Motion A)) where
    abbrev pub laying_by : ℕ → ℕ → Computed (Pair A)
    laying_by f k = laying (map_at K.field maps f) f (corners_at faces f) k

    -- the faces below n are laid, and no other
    pub record AreFacesLaidTo (n : ℕ) (laid : ℕ × ℕ → Option (Pair A)) : Type 0 where
      pub fits : (f k : ℕ) → f < n → k < length (corners_at faces f) → Fits (laying_by f k)
      pub here : (f k : ℕ) → f < n → k < length (corners_at faces f) → laid (slice_index_or (corners_at faces f) k 0, f)
          ≡ Some (place K.field (map_at K.field maps f) (point K.field coords (slice_index_or (corners_at faces f) k 0)))
      pub only : (q : ℕ × ℕ) (a : Pair A) → laid q ≡ Some a → (q.1 < n) × ((k : ℕ) × (k < length (corners_at faces q.1)) × (q.0 ≡ slice_index_or (corners_at faces q.1) k 0))

    -- f is the first face with a corner whose place overflows, and v the vertex at the first of them
    pub record IsFirstFacePast (f v : ℕ) : Type 0 where
      pub within : f < length faces
      pub first : IsFirstPast (map_at K.field maps f) f (corners_at faces f) v
      pub earlier : (g k : ℕ) → g < f → k < length (corners_at faces g) → Fits (laying_by g k)

    -- why the faces aren't laid
    abbrev pub IsPlaceFault : PlaceFault → Type 0
    IsPlaceFault (NumberPast f v) = IsFirstFacePast f v
    IsPlaceFault (Memory e) = Unit {0}
