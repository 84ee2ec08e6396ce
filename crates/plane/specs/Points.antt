-- Points of the plane as vectors (x, y, w) with w above zero, over an ordered ring. The vector
-- stands for the point (x / w, y / w), so that it and its multiples by numbers above zero are one
-- point.
use Rattle.std.specs.Prelude.{◌≡◌, pos}
use Rattle.std.specs.Ordering.{ordering_then}
use Rattle.std.specs.declared.cmp.Ordering.{Ordering}
use Rattle.std.specs.declared.cmp.Ordering.TheVariants.{Greater}
use Rattle.algebra.specs.Ring.{Operations}
use Rattle.algebra.specs.OrderedRing.{OrderedRing}
use Rattle.plane.specs.declared.point.Point.{Point}

module _ {A : Type 0} (ops : Operations A) where
  -- s p + t q, as vectors
  abbrev pub combination : A → Point A → A → Point A → Point A
  combination s p t q = record {
    x = ops.add (ops.mul s p.x) (ops.mul t q.x);
    y = ops.add (ops.mul s p.y) (ops.mul t q.y);
    w = ops.add (ops.mul s p.w) (ops.mul t q.w);
  }

  -- m p, as a vector
  abbrev pub multiple_of : A → Point A → Point A
  multiple_of m p = record { x = ops.mul m p.x; y = ops.mul m p.y; w = ops.mul m p.w }

  -- the multiple by -1
  abbrev pub opposite_vector : Point A → Point A
  opposite_vector p = record { x = ops.neg p.x; y = ops.neg p.y; w = ops.neg p.w }

  abbrev pub origin : Point A
  origin = record { x = ops.int (pos 0); y = ops.int (pos 0); w = ops.int (pos 1) }

  -- how far p lies right of q, and above it, times both weights
  abbrev pub x_from : Point A → Point A → A
  x_from q p = ops.sub (ops.mul p.x q.w) (ops.mul q.x p.w)

  abbrev pub y_from : Point A → Point A → A
  y_from q p = ops.sub (ops.mul p.y q.w) (ops.mul q.y p.w)

module _ {A : Type 0} (K : OrderedRing A) where
  -- the vector stands for a point
  abbrev pub IsPoint : Point A → Type 0
  IsPoint p = K.sign p.w ≡ Greater

  -- p and q stand for one point
  pub record IsSamePoint (p q : Point A) : Type 0 where
    pub same_x : K.mul p.x q.w ≡ K.mul q.x p.w
    pub same_y : K.mul p.y q.w ≡ K.mul q.y p.w

  -- `Less` where p stands before q: by x, and where these are equal by y
  abbrev pub point_order : Point A → Point A → Ordering
  point_order p q = ordering_then (K.sign (x_from K.ops q p)) (K.sign (y_from K.ops q p))
