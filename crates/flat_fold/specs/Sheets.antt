-- Vertices, edges and faces that are a sheet of paper.
use Rattle.std.specs.Prelude.{ℕ, ℤ, ◌<◌, ◌≤◌, List, length, map, false, Contains}
use Rattle.algebra.specs.LowestTerms.{Parts}
use Rattle.algebra.specs.OrderedRing.{OrderedRing}
use Rattle.algebra.specs.Surd.{Surd}
use Rattle.algebra.specs.WholeSurds.{SurdNumbers}
use Rattle.layers.specs.Sheets.{FoldedFace}
use Rattle.plane.specs.declared.point.Point.{Point}
use Rattle.scaled_plane.specs.declared.drawing.Drawing.{Drawing}
use Rattle.scaled_plane.specs.declared.drawing.Edge.{Edge}
use Rattle.scaled_plane.specs.declared.drawing.Ends.{Ends}
use Rattle.scaled_plane.specs.declared.drawing.Face.{Face}
use Rattle.scaled_plane.specs.declared.point.Scaled.{Scaled}
use Rattle.scaled_plane.specs.Pieces.{point_at}
use Rattle.scaled_plane.specs.Scaling.{IsScaledOf}
use Rattle.scaled_plane.specs.Sheets.{IsSheet}

-- what contracts see of a sheet
pub record Pattern (N : Type 0) : Type 0 where
  pub ends : Ends N
  pub faces : List Face

-- a sheet has at most so many vertices, edges and faces
abbrev pub most_vertices : ℕ
most_vertices = 16384

abbrev pub most_edges : ℕ
most_edges = 2048

abbrev pub most_faces : ℕ
most_faces = 512

-- Edges join vertices, vertices, edges and faces are few enough, and none of the flaws keeps the
-- vertices, scaled to whole numbers, from being a sheet with them.
pub record FormSheet {N : Type 0} (parts : N → Parts) {W : Type 0} {k : ℕ} {surd : W → Surd ℤ} (numbers : SurdNumbers k surd)
    (ends : Ends N) (faces : List Face) : Type 0 where
  pub in_range : (e : Edge) → Contains ends.edges e → (e.from < length ends.coords) × (e.to < length ends.coords)
  pub few_vertices : length ends.coords ≤ most_vertices
  pub few_edges : length ends.edges ≤ most_edges
  pub few_faces : length faces ≤ most_faces
  pub scaled : Scaled W
  pub is_scaled : IsScaledOf parts numbers ends.coords scaled
  pub sheet : IsSheet numbers.ring scaled.points ends.edges faces

-- the edges of a sheet as a drawing, each on the line through its own ends
abbrev pub own_line : Edge → ℕ × ℕ
own_line e = (e.from, e.to)

abbrev pub drawing_of : {W : Type 0} → List (Point W) → List Edge → Drawing W
drawing_of points edges = record { vertices = points; edges = edges; lines = map own_line edges }

-- a face as it lies in the sheet, before it is folded
abbrev pub unfolded_face : {W : Type 0} → OrderedRing W → List (Point W) → List ℕ → FoldedFace W
unfolded_face K points corners = record { corners = map (point_at K points) corners; turned = false }
