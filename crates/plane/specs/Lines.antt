-- Lines as linear functions of points, and the sides of the line through two points.
use Rattle.std.specs.Prelude.{◌≡◌, List, IsTrue, Contains}
use Rattle.std.specs.Ordering.{is_le, match_ordering}
use Rattle.std.specs.declared.cmp.Ordering.{Ordering}
use Rattle.std.specs.declared.cmp.Ordering.TheVariants.{Greater}
use Rattle.algebra.specs.Order.{product_sign}
use Rattle.algebra.specs.Ring.{Operations}
use Rattle.algebra.specs.OrderedRing.{OrderedRing}
use Rattle.plane.specs.declared.point.Point.{Point}
use Rattle.plane.specs.declared.point.Line.{Line}
use Rattle.plane.specs.Points.{x_from, y_from, opposite_vector}

module _ {A : Type 0} (ops : Operations A) where
  abbrev pub value : Line A → Point A → A
  value l p = ops.add (ops.add (ops.mul l.a p.x) (ops.mul l.b p.y)) (ops.mul l.c p.w)

  -- the line through p and q, above zero to the left of the way from p to q
  abbrev pub line : Point A → Point A → Line A
  line p q = record {
    a = ops.sub (ops.mul p.y q.w) (ops.mul p.w q.y);
    b = ops.sub (ops.mul p.w q.x) (ops.mul p.x q.w);
    c = ops.sub (ops.mul p.x q.y) (ops.mul p.y q.x);
  }

  -- the same line with its sides exchanged
  abbrev pub opposite_line : Line A → Line A
  opposite_line l = record { a = ops.neg l.a; b = ops.neg l.b; c = ops.neg l.c }

  -- the line through p perpendicular to the way from u to v, above zero ahead of p
  abbrev pub perpendicular : Point A → Point A → Point A → Line A
  perpendicular u v p = record {
    a = ops.mul (x_from ops u v) p.w;
    b = ops.mul (y_from ops u v) p.w;
    c = ops.neg (ops.add (ops.mul (x_from ops u v) p.x) (ops.mul (y_from ops u v) p.y));
  }

  -- the vector on both lines; its weight is zero where they are parallel, and may be below zero
  abbrev pub meeting : Line A → Line A → Point A
  meeting l m = record {
    x = ops.sub (ops.mul l.b m.c) (ops.mul l.c m.b);
    y = ops.sub (ops.mul l.c m.a) (ops.mul l.a m.c);
    w = ops.sub (ops.mul l.a m.b) (ops.mul l.b m.a);
  }

  -- the determinant of three vectors: the value at r of the line through p and q
  abbrev pub determinant : Point A → Point A → Point A → A
  determinant p q r = value (line p q) r

-- of two signs, such as the sides of two points of one line, not both are above zero, and not both
-- below
abbrev pub AreApart : Ordering → Ordering → Type 0
AreApart o p = IsTrue (is_le (product_sign o p))

module _ {A : Type 0} (K : OrderedRing A) where
  -- on which side of the line from a to b the point p lies: `Greater` on the left, `Less` on the
  -- right, `Equal` on the line
  abbrev pub side : Point A → Point A → Point A → Ordering
  side a b p = K.sign (determinant K.ops a b p)

  -- a vector whose weight isn't zero, as a point: its opposite where the weight is below zero
  abbrev pub as_point : Point A → Point A
  as_point p = match_ordering (K.sign p.w) (opposite_vector K.ops p) p p

  -- where the lines ab and cd cross, if they aren't parallel
  abbrev pub crossing : Point A → Point A → Point A → Point A → Point A
  crossing a b c d = as_point (meeting K.ops (line K.ops a b) (line K.ops c d))

  -- the point lies in the open half-plane of the line
  abbrev pub IsAbove : Line A → Point A → Type 0
  IsAbove l p = K.sign (value K.ops l p) ≡ Greater

  -- and where it doesn't
  abbrev pub IsNotAbove : Line A → Point A → Type 0
  IsNotAbove l p = IsTrue (is_le (K.sign (value K.ops l p)))

  -- the point lies in each of the open half-planes
  abbrev pub LiesIn : List (Line A) → Point A → Type 0
  LiesIn ls p = (l : Line A) → Contains ls l → IsAbove l p
