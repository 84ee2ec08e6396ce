-- Drawings that faces can be found in.
use Rattle.std.specs.Prelude.{◌≡◌, ◌⊎◌, ℕ, ℤ, ◌<◌, ◌^◌, length, Contains, AllPairs}
use Rattle.std.specs.List.{AllZip}
use Rattle.std.specs.declared.cmp.Ordering.TheVariants.{Equal}
use Rattle.algebra.specs.Surd.{Surd}
use Rattle.algebra.specs.WholeSurds.{SurdNumbers}
use Rattle.plane.specs.declared.point.Point.{Point}
use Rattle.plane.specs.Points.{IsPoint, IsSamePoint}
use Rattle.plane.specs.Lines.{side}
use Rattle.plane.specs.Segments.{MeetInEnds}
use Rattle.scaled_plane.specs.declared.drawing.Edge.{Edge}
use Rattle.scaled_plane.specs.declared.drawing.Drawing.{Drawing}
use Rattle.scaled_plane.specs.Drawn.{IsScaledPoint, IsDrawn}
use Rattle.scaled_plane.specs.Pieces.{point_at}

-- the vertex is an end of the edge
abbrev pub HasEnd : Edge → ℕ → Type 0
HasEnd e v = (e.from ≡ v) ⊎ (e.to ≡ v)

module _ {A : Type 0} {k : ℕ} {surd : A → Surd ℤ} (numbers : SurdNumbers k surd) (drawing : Drawing A) where
  abbrev pub vertex : ℕ → Point A
  vertex v = point_at numbers.ring drawing.vertices v

  abbrev pub count : ℕ
  count = length drawing.vertices

  -- the line names two vertices, which are scaled points, and the edge lies on the line through
  -- them
  pub record LiesAlong (e : Edge) (line : ℕ × ℕ) : Type 0 where
    pub first_in_range : line.0 < count
    pub second_in_range : line.1 < count
    pub different : ¬ (line.0 ≡ line.1)
    pub first_scaled : IsScaledPoint numbers (vertex line.0)
    pub second_scaled : IsScaledPoint numbers (vertex line.1)
    pub from_on : side numbers.ring (vertex line.0) (vertex line.1) (vertex e.from) ≡ Equal
    pub to_on : side numbers.ring (vertex line.0) (vertex line.1) (vertex e.to) ≡ Equal

  -- a drawing of different vertices, each the end of an edge, whose edges meet only in common ends
  pub record IsWellSet : Type 0 where
    pub few : length drawing.edges < 2 ^ 30
    pub points : (p : Point A) → Contains drawing.vertices p → IsPoint numbers.ring p × IsDrawn numbers p
    pub different : AllPairs (λ p q. ¬ IsSamePoint numbers.ring p q) drawing.vertices
    pub ends : (e : Edge) → Contains drawing.edges e → (e.from < count) × (e.to < count) × ¬ (e.from ≡ e.to)
    pub plane : AllPairs (λ e f. MeetInEnds numbers.ring (vertex e.from) (vertex e.to) (vertex f.from) (vertex f.to)) drawing.edges
    pub used : (v : ℕ) → v < count → (e : Edge) × Contains drawing.edges e × HasEnd e v
    pub lines : AllZip LiesAlong drawing.edges drawing.lines
