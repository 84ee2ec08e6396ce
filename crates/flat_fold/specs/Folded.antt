-- A folded sheet, and why there is none.
use Rattle.std.specs.Prelude.{◌≡◌, ◌⊎◌, ℕ, List, ◌<◌, length, Option, Some, None}
use Rattle.algebra.specs.LowestTerms.{Parts}
use Rattle.algebra.specs.OrderedField.{OrderedField}
use Rattle.algebra.specs.Surd.{Surd}
use Rattle.algebra.specs.WholeSurds.{SurdNumbers}
use Rattle.std.specs.Prelude.{ℤ}
use Rattle.scaled_plane.specs.declared.point.Pair.{Pair}
use Rattle.scaled_plane.specs.declared.point.Scaled.{Scaled}
use Rattle.scaled_plane.specs.declared.drawing.Edge.{Edge}
use Rattle.scaled_plane.specs.declared.drawing.Face.{Face}
use Rattle.scaled_plane.specs.Scaling.{IsScaledOf, IsTooWide}
use Rattle.flat_fold.specs.declared.fold.FoldFlatFault.{FoldFlatFault}
use Rattle.flat_fold.specs.declared.fold.FoldFlatFault.TheVariants.{NumberPast, Unclosed, TooWide, Memory}
use Rattle.flat_fold.specs.declared.motion.Motion.{Motion}
use Rattle.flat_fold.specs.declared.images.Origin.{Origin}
use Rattle.flat_fold.specs.declared.sides.Sides.{Sides}
use Rattle.flat_fold.specs.Computed.{Computed, ComputedField, Fits}
use Rattle.flat_fold.specs.EdgeSides.{KnowsSides}
use Rattle.flat_fold.specs.Faces.{IsWalk, LiesAlong, corners_at, edge_at}
use Rattle.flat_fold.specs.Folding.{AllFits, AllMapsFit, Closes, IsFirstDisagreeing, IsFirstMapPast, IsPathMap, PlaceFits, corner_placing, walk_map}
use Rattle.flat_fold.specs.Images.{AreImages, AreNumbers, corner_at, map_at, origin_at}
use Rattle.flat_fold.specs.Sheets.{Pattern}

-- what contracts see of a folded sheet: the map of each face, each face by the numbers of its corners' images, the images in
-- their order, the sides of each edge, and the images times their common denominator
pub record Layout (N W : Type 0) : Type 0 where
  pub sheet : Pattern N
  pub maps : List (Motion N)
  pub corners : List Face
  pub origins : List Origin
  pub images : List (Pair N)
  pub sides : List Sides
  pub scaled : Scaled W

-- the edge e is a side of the face f
abbrev pub HasEdge : List Edge → List Face → ℕ → ℕ → Type 0
HasEdge edges faces f e = LiesAlong edges faces f (edge_at edges e).from (edge_at edges e).to ⊎ LiesAlong edges faces f (edge_at edges e).to (edge_at edges e).from

module _ {A : Type 0} (F : OrderedField A) (coords : List (Pair A)) (edges : List Edge) (faces : List Face) where
  -- each face has the map of every walk that leads to it from face 0
  pub record AreFaceMaps (maps : List (Motion A)) : Type 0 where
    pub long : length maps ≡ length faces
    pub walk : (f : ℕ) (es : List ℕ) → f < length faces → IsWalk edges faces 0 es f → map_at F maps f ≡ walk_map F coords edges es

  -- the sheet closes, its faces have these maps, and its vertices these images
  pub record IsFolding (maps : List (Motion A)) (origins : List Origin) (images : List (Pair A)) : Type 0 where
    pub closes : Closes F coords edges faces
    pub maps_are : AreFaceMaps maps
    pub images_are : AreImages F coords faces maps origins images

-- the folded sheet that is shown is the folding of its sheet
pub record IsFolded {N : Type 0} (parts : N → Parts) (F : OrderedField N) {W : Type 0} {k : ℕ} {surd : W → Surd ℤ} (numbers : SurdNumbers k surd) (folded : Layout N W) : Type 0 where
  pub folding : IsFolding F folded.sheet.ends.coords folded.sheet.ends.edges folded.sheet.faces folded.maps folded.origins folded.images
  pub corners_are : AreNumbers F folded.sheet.ends.coords folded.sheet.faces folded.maps folded.origins folded.images folded.corners
  pub sides_are : KnowsSides folded.sheet.faces folded.sheet.ends.edges folded.sides
  pub scaled_is : IsScaledOf parts numbers folded.images folded.scaled

module _ {A : Type 0} (K : ComputedField A) (coords : List (Pair A)) (edges : List Edge) (faces : List Face) where
  -- no path map overflows; f is the first face with a corner whose place does, and k is its first such corner
  pub record IsFirstPlacePast (f k : ℕ) : Type 0 where
    pub maps : AllMapsFit K coords edges faces
    pub map : Computed (Motion A)
    pub is_map : IsPathMap K coords edges faces f map
    pub corner : k < length (corners_at faces f)
    pub past : ¬ Fits (corner_placing K coords edges faces map.value f k)
    pub earlier_faces : (g j : ℕ) → g < f → PlaceFits K coords edges faces g j
    pub earlier_corners : (j : ℕ) → j < k → PlaceFits K coords edges faces f j

  -- the sheet folds, and its images are too wide to be scaled, first at one of the vertex v
  pub record IsFirstTooWide (parts : A → Parts) (v : ℕ) : Type 0 where
    pub fits : AllFits K coords edges faces
    pub maps : List (Motion A)
    pub origins : List Origin
    pub images : List (Pair A)
    pub folding : IsFolding K.field coords edges faces maps origins images
    pub image : ℕ
    pub too_wide : IsTooWide parts images image
    pub vertex : (origin_at origins image).vertex ≡ v

  -- why a sheet isn't folded: a path map overflows, else the place of a corner, else some edge disagrees, so that a closed
  -- walk of faces moves them, else the images are too wide
  abbrev pub Refuses : (A → Parts) → FoldFlatFault → Type 0
  Refuses parts (NumberPast f None) = IsFirstMapPast K coords edges faces f
  Refuses parts (NumberPast f (Some v)) = (k : ℕ) × IsFirstPlacePast f k × (corner_at faces f k ≡ v)
  Refuses parts (Unclosed e) = AllFits K coords edges faces × IsFirstDisagreeing K coords edges faces e
  Refuses parts (TooWide v) = IsFirstTooWide parts v
  Refuses parts (Memory e) = Unit {0}
