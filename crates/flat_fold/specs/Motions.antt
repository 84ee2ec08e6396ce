-- Maps of the plane that keep distances, over an ordered field.
use Rattle.std.specs.Prelude.{◌≡◌, pos, negsuc, Bool, true, false, not, if◌then◌else◌}
use Rattle.algebra.specs.OrderedField.{OrderedField}
use Rattle.plane.specs.declared.point.Point.{Point}
use Rattle.plane.specs.Lines.{determinant, side}
use Rattle.std.specs.declared.cmp.Ordering.TheVariants.{Equal}
use Rattle.scaled_plane.specs.declared.point.Pair.{Pair}
use Rattle.flat_fold.specs.declared.motion.Motion.{Motion}

module _ {A : Type 0} (F : OrderedField A) where
  -- the direction d after the turn that takes (1, 0) to (c, s); before it d is reflected in the x-axis, or isn't
  abbrev pub turned_by : Bool → A → A → Pair A → Pair A
  turned_by false c s d = record { x = F.sub (F.mul c d.x) (F.mul s d.y); y = F.add (F.mul s d.x) (F.mul c d.y) }
  turned_by true c s d = record { x = F.add (F.mul c d.x) (F.mul s d.y); y = F.sub (F.mul s d.x) (F.mul c d.y) }

  -- the direction d as m turns it
  abbrev pub turned_way : Motion A → Pair A → Pair A
  turned_way m d = turned_by m.turned m.c m.s d

  -- where m places the point a
  abbrev pub place : Motion A → Pair A → Pair A
  place m a = record { x = F.add (turned_way m a).x m.p; y = F.add (turned_way m a).y m.r }

  -- the map that leaves each point where it is
  abbrev pub identity : Motion A
  identity = record { c = F.int (pos 1); s = F.int (pos 0); p = F.int (pos 0); r = F.int (pos 0); turned = false }

  -- m composed on the inside by n: first n, then m
  abbrev pub composed : Motion A → Motion A → Motion A
  composed m n = record {
    c = (turned_way m (record { x = n.c; y = n.s })).x;
    s = (turned_way m (record { x = n.c; y = n.s })).y;
    p = (place m (record { x = n.p; y = n.r })).x;
    r = (place m (record { x = n.p; y = n.r })).y;
    turned = (if m.turned then not n.turned else n.turned);
  }

  -- the map that reflects in the line through a with the direction (c, s) halfway turned: it takes (1, 0) to (c, s)
  abbrev pub mirror : A → A → Pair A → Motion A
  mirror c s a = record {
    c = c;
    s = s;
    p = F.sub a.x (F.add (F.mul c a.x) (F.mul s a.y));
    r = F.sub a.y (F.sub (F.mul s a.x) (F.mul c a.y));
    turned = true;
  }

  -- the square of the length of (u, v)
  abbrev pub norm : A → A → A
  norm u v = F.add (F.mul u u) (F.mul v v)

  -- the reflection in the line from a to b
  abbrev pub reflection : Pair A → Pair A → Motion A
  reflection a b =
      let u = F.sub b.x a.x in
      let v = F.sub b.y a.y in
      mirror (F.div (F.sub (F.mul u u) (F.mul v v)) (norm u v)) (F.div (F.add (F.mul u v) (F.mul u v)) (norm u v)) a

  -- the direction (c, s) has length 1
  abbrev pub IsIsometry : Motion A → Type 0
  IsIsometry m = norm m.c m.s ≡ F.int (pos 1)

  -- ---- what maps keep

  abbrev pub squared_distance : Pair A → Pair A → A
  squared_distance a b = norm (F.sub b.x a.x) (F.sub b.y a.y)

  -- the place as a point of weight 1
  abbrev pub point_of : Pair A → Point A
  point_of a = record { x = a.x; y = a.y; w = F.int (pos 1) }

  -- twice the area of the triangle a b d, above zero where it runs counterclockwise
  abbrev pub doubled_area : Pair A → Pair A → Pair A → A
  doubled_area a b d = determinant F.ops (point_of a) (point_of b) (point_of d)

  -- d is on the line through a and b
  abbrev pub IsOnLine : Pair A → Pair A → Pair A → Type 0
  IsOnLine a b d = side F.ring (point_of a) (point_of b) (point_of d) ≡ Equal

  -- -1 for a map that turns the plane over, 1 for one that doesn't
  abbrev pub handedness : Motion A → A
  handedness m = (if m.turned then F.int (negsuc 0) else F.int (pos 1))
