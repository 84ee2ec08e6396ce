-- What a well set drawing has.
use Rattle.std.proofs.Common.{ℕ, ◌<◌, length}
use Rattle.std.specs.Prelude.{ℤ, Contains}
use Rattle.std.proofs.lemmas.List.{get_or_default}
use Rattle.algebra.specs.Surd.{Surd}
use Rattle.algebra.specs.WholeSurds.{SurdNumbers}
use Rattle.plane.specs.Points.{IsSamePoint, origin}
use Rattle.scaled_plane.specs.Drawn.{IsDrawn}
use Rattle.scaled_plane.specs.declared.drawing.Drawing.{Drawing}
use Rattle.scaled_plane.specs.declared.drawing.Edge.{Edge}
use Rattle.scaled_plane.specs.WellSet.{IsWellSet, vertex}
use Rattle.regions.specs.Faces.{IsPlane}
use Rattle.regions.proofs.Pieces.{same_vertex}

module _ {A : Type 0} {k : ℕ} {surd : A → Surd ℤ} (numbers : SurdNumbers k surd) (drawing : Drawing A) (h : IsWellSet numbers drawing) where
  pub plane : IsPlane numbers.ring drawing.vertices drawing.edges
  plane = record {
    points = λ p i. (h.points p i).0;
    different = h.different;
    ends = h.ends;
    apart = h.plane;
    used = h.used;
  }

  pub drawn : (v : ℕ) → v < length drawing.vertices → IsDrawn numbers (vertex numbers drawing v)
  drawn v l = (h.points (vertex numbers drawing v) (v, l, get_or_default drawing.vertices v (vertex numbers drawing v) (origin numbers.ring.ops) l)).1

  pub ends_differ : (e : Edge) → Contains drawing.edges e → ¬ IsSamePoint numbers.ring (vertex numbers drawing e.from) (vertex numbers drawing e.to)
  ends_differ e i s =
      let ends = h.ends e i in
      ends.2 (same_vertex numbers.ring drawing.vertices drawing.edges plane e.from e.to ends.0 ends.1 s)
