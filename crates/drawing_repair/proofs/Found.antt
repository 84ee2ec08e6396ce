-- Faces that are found were looked for.
use Rattle.std.proofs.Common.{◌≡◌, List, subst}
use Rattle.std.specs.Prelude.{Some, None}
use Rattle.std.specs.declared.option.Option.{Option}
use Rattle.algebra.specs.OrderedRing.{OrderedRing}
use Rattle.plane.specs.declared.point.Point.{Point}
use Rattle.scaled_plane.specs.declared.drawing.Edge.{Edge}
use Rattle.scaled_plane.specs.declared.drawing.Face.{Face}
use Rattle.scaled_plane.specs.Walks.{AreFaces}
use Rattle.regions.specs.Faces.{IsConnected}
use Rattle.drawing_repair.specs.Repaired.{AreFacesOf}
use Rattle.drawing_repair.specs.declared.options.Faces.{Faces}
use Rattle.drawing_repair.specs.declared.options.Faces.TheVariants.{Find, Skip}

module _ {A : Type 0} (K : OrderedRing A) (vertices : List (Point A)) (edges : List Edge) where
  pub found_walks : (faces : Faces) (answer : Option (List Face)) → AreFacesOf K vertices edges faces answer → (found : List Face) → answer ≡ Some found
      → IsConnected K vertices edges × AreFaces K vertices edges found
  found_walks Find None h found e = absurd h
  found_walks Find (Some listed) h found e = let same : listed ≡ found = cc in (h.0, subst (AreFaces K vertices edges) same h.1)
  found_walks Skip None h found e = absurd (cc)
  found_walks Skip (Some listed) h found e = absurd h
