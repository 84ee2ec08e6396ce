-- What the search for path maps answers.
use Rattle.std.specs.Prelude.{◌≡◌, ◌<◌, ℕ, length, slice_index_or, List, Option, Result, Ok, Err}
use Rattle.flat_fold.specs.declared.motion.Motion.{Motion}
use Rattle.flat_fold.specs.declared.levels.Reached.{Reached}
use Rattle.flat_fold.specs.declared.levels.MapFault.{MapFault}
use Rattle.flat_fold.specs.declared.levels.MapFault.TheVariants.{NumberPast, Memory}
use Rattle.scaled_plane.specs.declared.point.Pair.{Pair}
use Rattle.scaled_plane.specs.declared.drawing.Edge.{Edge}
use Rattle.scaled_plane.specs.declared.drawing.Face.{Face}
use Rattle.flat_fold.specs.Computed.{Computed, ComputedField, Fits}
use Rattle.flat_fold.specs.Folding.{IsPathMap, IsFirstMapPast}
use Rattle.flat_fold.specs.Rounds.{AreKept, IsFirstWithout}

-- the maps of all faces, or the first face without one
abbrev pub KeepsMaps : {A : Type 0} → List (Option (Reached A)) → Result (List (Motion A)) MapFault → Type 0
KeepsMaps reached (Ok maps) = AreKept reached maps
KeepsMaps reached (Err (NumberPast f)) = IsFirstWithout reached f
KeepsMaps reached (Err (Memory e)) = Unit {0}

module _ {A : Type 0} (K : ComputedField A) (coords : List (Pair A)) (edges : List Edge) (faces : List Face) where
  -- these are the values of the path maps, none of which overflows
  pub record ArePathMaps (maps : List (Motion A)) : Type 0 where
    pub long : length maps ≡ length faces
    pub each : (f : ℕ) (d : Motion A) → f < length faces → (m : Computed (Motion A)) × IsPathMap K coords edges faces f m × Fits m × (slice_index_or maps f d ≡ m.value)

  -- all path maps, or the least face whose path map overflows
  abbrev pub FindsPathMaps : Result (List (Motion A)) MapFault → Type 0
  FindsPathMaps (Ok maps) = ArePathMaps maps
  FindsPathMaps (Err (NumberPast f)) = IsFirstMapPast K coords edges faces f
  FindsPathMaps (Err (Memory e)) = Unit {0}
