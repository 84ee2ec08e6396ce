-- Segments whose ends differ, from left to right.
use Rattle.std.specs.Prelude.{◌≡◌, Bool, ℕ, ℤ}
use Rattle.std.specs.Ordering.{is_ne}
use Rattle.algebra.specs.OrderedRing.{OrderedRing}
use Rattle.algebra.specs.Surd.{Surd}
use Rattle.algebra.specs.WholeSurds.{SurdNumbers}
use Rattle.plane.specs.declared.point.Point.{Point}
use Rattle.plane.specs.Points.{point_order}
use Rattle.scaled_plane.specs.declared.point.Segment.{Segment}
use Rattle.scaled_plane.specs.Counts.{left_end, right_end}
use Rattle.arrangement.specs.Found.{IsUsable}

-- whether the segment's ends differ
abbrev pub is_proper : {A : Type 0} → OrderedRing A → Segment A → Bool
is_proper K s = is_ne (point_order K s.from s.to)

-- the segment is proper, with these ends from left to right
pub record IsSpan {A : Type 0} {k : ℕ} {surd : A → Surd ℤ} (numbers : SurdNumbers k surd) (s : Segment A) (left right : Point A) : Type 0 where
  pub usable : IsUsable numbers s
  pub left_is : left ≡ left_end numbers.ring s
  pub right_is : right ≡ right_end numbers.ring s
