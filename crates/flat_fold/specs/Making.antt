-- What the steps of folding a sheet make.
use Rattle.std.specs.Prelude.{◌≡◌, ℕ, List, ◌<◌, length, Option, Some, slice_index_or}
use Rattle.std.specs.BTreeMap.{get}
use Rattle.algebra.specs.LowestTerms.{Parts}
use Rattle.scaled_plane.specs.declared.point.Pair.{Pair}
use Rattle.scaled_plane.specs.declared.drawing.Edge.{Edge}
use Rattle.scaled_plane.specs.declared.drawing.Face.{Face}
use Rattle.scaled_plane.specs.Scaling.{IsTooWide}
use Rattle.flat_fold.specs.declared.fold.FoldFlatFault.{FoldFlatFault}
use Rattle.flat_fold.specs.declared.fold.FoldFlatFault.TheVariants.{NumberPast, Unclosed, TooWide, Memory}
use Rattle.flat_fold.specs.declared.fold.Mapped.{Mapped}
use Rattle.flat_fold.specs.declared.images.Numbered.{Numbered}
use Rattle.flat_fold.specs.declared.places.PlaceFault.{PlaceFault}
use Rattle.flat_fold.specs.declared.places.PlaceFault.TheVariants.{NumberPast as CornerPast, Memory as CornerMemory}
use Rattle.flat_fold.specs.declared.images.Origin.{Origin}
use Rattle.flat_fold.specs.declared.motion.Motion.{Motion}
use Rattle.flat_fold.specs.Computed.{ComputedField}
use Rattle.flat_fold.specs.EdgeSides.{KnowsSides}
use Rattle.flat_fold.specs.Folded.{IsFolding, Layout}
use Rattle.flat_fold.specs.Folding.{AllFits}
use Rattle.flat_fold.specs.Sheets.{Pattern}
use Rattle.scaled_plane.specs.declared.point.Scaled.{Scaled}
use Rattle.flat_fold.specs.Images.{origin_at}
use Rattle.flat_fold.specs.Numbers.{AreLaid}
use Rattle.flat_fold.specs.PathMaps.{ArePathMaps}
use Rattle.flat_fold.specs.Places.{laid_order}
use Rattle.flat_fold.specs.Rounds.{KnowsCrossings}

module _ {A : Type 0} (K : ComputedField A) (coords : List (Pair A)) (edges : List Edge) (faces : List Face) where
  -- the sides of the edges, where they are crossed, and the path maps, none of which overflows
  pub record AreMapped (mapped : Mapped A) : Type 0 where
    pub sides_are : KnowsSides faces edges mapped.sides
    pub crossings_are : KnowsCrossings edges faces mapped.crossings
    pub maps_are : ArePathMaps K coords edges faces mapped.maps

  -- the images, of a sheet that closes
  pub record AreClosedImages (maps : List (Motion A)) (numbered : Numbered A) : Type 0 where
    pub fits : AllFits K coords edges faces
    pub folding : IsFolding K.field coords edges faces maps numbered.origins numbered.images
    pub laid : AreLaid K coords faces maps (get laid_order numbered.numbers) numbered.origins numbered.images

-- why images aren't scaled
abbrev pub IsImageTooWide : {A : Type 0} → (A → Parts) → List Origin → List (Pair A) → FoldFlatFault → Type 0
IsImageTooWide parts origins images (TooWide v) = (i : ℕ) × IsTooWide parts images i × ((origin_at origins i).vertex ≡ v)
IsImageTooWide parts origins images (Memory e) = Unit {0}
IsImageTooWide parts origins images (NumberPast f v) = ⊥
IsImageTooWide parts origins images (Unclosed e) = ⊥

-- each corner of the face has a number
abbrev pub HasNumbers : (ℕ × ℕ → Option ℕ) → ℕ → List ℕ → Type 0
HasNumbers numbers face corners = (k : ℕ) → k < length corners → (i : ℕ) × (numbers (slice_index_or corners k 0, face) ≡ Some i)

-- the numbers of the face's corners below n
pub record AreNumbersBy (numbers : ℕ × ℕ → Option ℕ) (face : ℕ) (corners : List ℕ) (n : ℕ) (by : List ℕ) : Type 0 where
  pub long : length by ≡ n
  pub each : (k : ℕ) → k < n → numbers (slice_index_or corners k 0, face) ≡ Some (slice_index_or by k 0)

-- a corner's fault as one of the sheet
abbrev pub place_fault : PlaceFault → FoldFlatFault
place_fault (CornerPast f v) = NumberPast f (Some v)
place_fault (CornerMemory e) = Memory e

-- the folded sheet that is made of these
abbrev pub layout : {N W : Type 0} → Pattern N → Mapped N → Numbered N → List Face → Scaled W → Layout N W
layout sheet mapped numbered corners scaled = record {
  sheet = sheet;
  maps = mapped.maps;
  corners = corners;
  origins = numbered.origins;
  images = numbered.images;
  sides = mapped.sides;
  scaled = scaled;
}
