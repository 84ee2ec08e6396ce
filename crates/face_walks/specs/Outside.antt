-- The half-edge that goes out of the least vertex along the outside.
use Rattle.std.specs.Prelude.{◌≡◌, ℕ, ◌<◌, List, length}
use Rattle.std.specs.declared.cmp.Ordering.TheVariants.{Less}
use Rattle.algebra.specs.OrderedRing.{OrderedRing}
use Rattle.plane.specs.declared.point.Point.{Point}
use Rattle.plane.specs.Points.{point_order}
use Rattle.plane.specs.Directions.{Direction, IsClockwise, west}
use Rattle.scaled_plane.specs.Pieces.{point_at}
use Rattle.half_edges.specs.declared.arena.HalfId.{HalfId}
use Rattle.face_walks.specs.declared.headings.Heading.{Heading}
use Rattle.face_walks.specs.Headings.{lead}
use Rattle.face_walks.specs.Rings.{HasHalf, half_at, ring_at}

module _ {A : Type 0} (K : OrderedRing A) where
  -- of the first n points the least stands at this place
  pub record IsLeastPoint (vertices : List (Point A)) (n least : ℕ) : Type 0 where
    pub in_range : least < n
    pub before : (v : ℕ) → v < n → ¬ (v ≡ least) → point_order K (point_at K vertices least) (point_at K vertices v) ≡ Less

  -- of the first n half-edges of the ring this comes first clockwise from the direction
  pub record IsFirstFrom (headings : List (Heading A)) (d : Direction A) (ring : List HalfId) (n first : ℕ) : Type 0 where
    pub has : HasHalf ring first
    pub before : (k : ℕ) → k < n → ¬ (half_at ring k ≡ first) → IsClockwise K d (lead K headings first) (lead K headings (half_at ring k))

  -- it goes out of the least vertex, first clockwise from the west
  pub record IsOutsideHalf (vertices : List (Point A)) (rings : List (List HalfId)) (headings : List (Heading A)) (half : ℕ) : Type 0 where
    pub vertex : ℕ
    pub least : IsLeastPoint vertices (length vertices) vertex
    pub first : IsFirstFrom headings (west K.ops) (ring_at rings vertex) (length (ring_at rings vertex)) half
