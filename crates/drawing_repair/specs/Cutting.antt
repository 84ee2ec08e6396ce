-- The drawing that segments are cut into.
use Rattle.std.specs.Prelude.{ℕ, ℤ, ◌≤◌, length}
use Rattle.algebra.specs.LowestTerms.{Parts}
use Rattle.algebra.specs.Surd.{Surd}
use Rattle.algebra.specs.WholeSurds.{SurdNumbers}
use Rattle.scaled_plane.specs.declared.drawing.Drawing.{Drawing}
use Rattle.scaled_plane.specs.declared.drawing.Ends.{Ends}
use Rattle.scaled_plane.specs.declared.point.Scaled.{Scaled}
use Rattle.scaled_plane.specs.Pieces.{ArePieces}
use Rattle.scaled_plane.specs.WellSet.{IsWellSet}
use Rattle.drawing_repair.specs.Kept.{kept_segments}
use Rattle.drawing_repair.specs.Repaired.{AreCut}
use Rattle.drawing_repair.specs.declared.options.Flat.{Flat}

module _ {N W : Type 0} {k : ℕ} {surd : W → Surd ℤ} (parts : N → Parts) (numbers : SurdNumbers k surd) (flat : Flat) (ends : Ends N) where
  -- the segments that are kept are cut into the vertices and pieces of this drawing
  pub record AreCutInto (scaled : Scaled W) (drawing : Drawing W) : Type 0 where
    pub cut : AreCut parts numbers flat ends scaled drawing.vertices
    pub few : length drawing.vertices ≤ 16384
    pub pieces : ArePieces numbers.ring (kept_segments numbers.ring scaled.points flat ends.edges) drawing.vertices drawing.edges
    pub well_set : IsWellSet numbers drawing
