-- Vertices that are marked as the ends of edges.
use Rattle.std.specs.Prelude.{◌≡◌, ℕ, ◌<◌, List, Bool, true, false, Contains, length, slice_set}
use Rattle.scaled_plane.specs.declared.drawing.Edge.{Edge}
use Rattle.scaled_plane.specs.WellSet.{HasEnd}
use Rattle.sheet_check.specs.Listed.{is_marked}
use Rattle.sheet_check.specs.Passed.{IsLoose}

-- the ends of the edge are marked too
pub record MarksEnds (edge : Edge) (old new : List Bool) : Type 0 where
  pub marked : new ≡ slice_set (slice_set old edge.from true) edge.to true

-- a vertex that has a mark is an end of an edge, and one that has none is loose
pub record AreUsed (edges : List Edge) (marks : List Bool) : Type 0 where
  pub used : (v : ℕ) → v < length marks → is_marked marks v ≡ true → (e : Edge) × Contains edges e × HasEnd e v
  pub loose : (v : ℕ) → v < length marks → is_marked marks v ≡ false → IsLoose edges v
