-- Walks part the directed pieces: each has one before it, each walk a least rotation, and one is the outer.
use Prim.Native.Nat.{ℕ, ◌<◌}
use mathlib.Core.Path.{subst}
use mathlib.Core.List.{List}
use Rattle.std.specs.Prelude.{length}
use Rattle.algebra.specs.OrderedRing.{OrderedRing}
use Rattle.plane.specs.declared.point.Point.{Point}
use Rattle.scaled_plane.specs.declared.drawing.Edge.{Edge}
use Rattle.scaled_plane.specs.Lists.{IsRotation}
use Rattle.scaled_plane.specs.Walks.{ComesAfter, Follows as FollowsOn, IsDirectedPiece, IsLeastRotation, IsOuterWalk, IsOutside, IsWalk, pieces_round}
use Rattle.regions.specs.Faces.{IsPlane as IsPlaneDrawing, IsOfWalk}
use Rattle.regions.proofs.Cycles.{Pair, walk_through}
use Rattle.regions.proofs.Leftmost.{some_outside}
use Rattle.regions.proofs.Rotations.{least_rotation, of_rotated, rotated_walk}
use Rattle.regions.proofs.Rounds.{one_before_it}

module _ {A : Type 0} (K : OrderedRing A) (vertices : List (Point A)) (edges : List Edge) where
  pub least_walk : (corners : List ℕ) → IsWalk K vertices edges corners
      → (first : List ℕ) × IsRotation corners first × IsLeastRotation first × IsWalk K vertices edges first
  least_walk corners w =
      let r : (first : List ℕ) × IsRotation corners first × IsLeastRotation first = least_rotation corners in
      (r.0, r.1, r.2, rotated_walk K vertices edges corners r.0 r.1 w)

  module _ (h : IsPlaneDrawing K vertices edges) where
    pub some_before : (v w : ℕ) → IsDirectedPiece edges v w → (u : ℕ) × ComesAfter K vertices edges u v w
    some_before v w d =
        let r : (corners : List ℕ) × IsWalk K vertices edges corners × IsOfWalk corners v w = walk_through K vertices edges h v w d in
        let b : (x : Pair) × FollowsOn K vertices edges x (v, w) = one_before_it K vertices edges h (pieces_round r.0) r.1.follow (v, w) r.2 in
        (b.0.0, subst (λ (t : ℕ). ComesAfter K vertices edges b.0.0 t w) b.1.0 b.1.1)

    pub some_outer_walk : 0 < length vertices → (corners : List ℕ) × IsOuterWalk K vertices edges corners
    some_outer_walk some =
        let o : (u w : ℕ) × IsOutside K vertices edges u w = some_outside K vertices edges h some in
        let r : (corners : List ℕ) × IsWalk K vertices edges corners × IsOfWalk corners o.0 o.1 = walk_through K vertices edges h o.0 o.1 o.2.first.neighbour in
        let l : (first : List ℕ) × IsRotation r.0 first × IsLeastRotation first × IsWalk K vertices edges first = least_walk r.0 r.1 in
        (l.0, record { walk = l.3; least = l.2; outer = (o.0, o.1, o.2, of_rotated K vertices edges r.0 l.0 l.1 o.0 o.1 r.2) })
