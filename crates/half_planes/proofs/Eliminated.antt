-- The half-planes meet exactly where there are places that all lines ask for.
use Rattle.std.proofs.Common.{List, ◌↔◌, get_or}
use Rattle.std.proofs.lemmas.List.Elements.{Contains-get_or}
use Rattle.algebra.specs.OrderedRing.{OrderedRing}
use Rattle.plane.specs.declared.point.Line.{Line}
use Rattle.half_planes.specs.HalfPlanes.{HalfPlanesMeet}
use Rattle.half_planes.specs.Bounds.{Place, IsPlace}
use Rattle.half_planes.specs.Elimination.{IsShadow}
use Rattle.half_planes.proofs.Shadow.{below, shadow_of_point, point_over_shadow}

module _ {A : Type 0} (K : OrderedRing A) (lines : List (Line A)) where
  -- the elimination, both ways
  pub eliminated : ((p : Place A) × IsPlace K p × IsShadow K lines p) ↔ HalfPlanesMeet K lines
  eliminated = (
    λ s. point_over_shadow K lines s.0 s.1 s.2,
    λ meet. (below K meet.0, meet.1, shadow_of_point K lines meet.0 (λ k d within. meet.2 (get_or lines k d) (Contains-get_or lines k d within))),
  )
