-- What the walks of a drawing are made from.
use Rattle.std.specs.Prelude.{◌≡◌, ℕ, ℤ, List, length}
use Rattle.algebra.specs.Surd.{Surd}
use Rattle.algebra.specs.WholeSurds.{SurdNumbers}
use Rattle.scaled_plane.specs.declared.drawing.Drawing.{Drawing}
use Rattle.half_edges.specs.declared.arena.HalfId.{HalfId}
use Rattle.half_edges.specs.Halves.{Halves, count}
use Rattle.face_walks.specs.declared.headings.Heading.{Heading}
use Rattle.face_walks.specs.Headings.{AreHeadings}
use Rattle.face_walks.specs.Pairs.{ArePairs}
use Rattle.face_walks.specs.Rings.{AreRings}

-- for each edge its half-edges there and back, in pairs that aren't linked yet, with their headings, and for each vertex its ring
pub record AreMade {A : Type 0} {k : ℕ} {surd : A → Surd ℤ} (numbers : SurdNumbers k surd) (drawing : Drawing A)
    (arena : Halves (ℕ × ℕ)) (headings : List (Heading A)) (rings : List (List HalfId)) : Type 0 where
  pub pairs : ArePairs drawing.edges (length drawing.edges) arena
  pub headed : AreHeadings numbers drawing (length drawing.edges) headings
  pub as_many : length rings ≡ length drawing.vertices
  pub ringed : AreRings numbers.ring headings arena (count arena) rings
