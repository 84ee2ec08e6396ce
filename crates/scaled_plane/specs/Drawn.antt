-- The points that drawings have: those with whole coordinates, and those where two lines through
-- such points cross.
use Rattle.std.specs.Prelude.{◌≡◌, ◌⊎◌, ℕ, ℤ, pos, ◌≤◌, ◌^◌}
use Rattle.algebra.specs.Surd.{Surd}
use Rattle.algebra.specs.SurdSize.{larger_part}
use Rattle.algebra.specs.WholeSurds.{SurdNumbers}
use Rattle.plane.specs.declared.point.Point.{Point}
use Rattle.scaled_plane.specs.declared.point.Segment.{Segment}
use Rattle.plane.specs.Lines.{crossing}
use Rattle.plane.specs.Directions.{AreParallel}

-- over the whole numbers a + b√k
module _ {A : Type 0} {k : ℕ} {surd : A → Surd ℤ} (numbers : SurdNumbers k surd) where
  -- a point with whole coordinates whose parts are at most n in size
  pub record IsScaledWithin (n : ℕ) (p : Point A) : Type 0 where
    pub whole : p.w ≡ numbers.int (pos 1)
    pub x_within : larger_part (surd p.x) ≤ n
    pub y_within : larger_part (surd p.y) ≤ n

  -- where two lines cross that each go through two such points
  pub record IsCrossingWithin (n : ℕ) (p : Point A) : Type 0 where
    pub a : Point A
    pub b : Point A
    pub c : Point A
    pub d : Point A
    pub a_scaled : IsScaledWithin n a
    pub b_scaled : IsScaledWithin n b
    pub c_scaled : IsScaledWithin n c
    pub d_scaled : IsScaledWithin n d
    pub not_parallel : ¬ AreParallel numbers.ring a b c d
    pub is : p ≡ crossing numbers.ring a b c d

  abbrev pub IsDrawnWithin : ℕ → Point A → Type 0
  IsDrawnWithin n p = IsScaledWithin n p ⊎ IsCrossingWithin n p

  -- a scaled point: no part is larger in size than 2^22
  abbrev pub IsScaledPoint : Point A → Type 0
  IsScaledPoint p = IsScaledWithin (2 ^ 22) p

  -- a segment between scaled points
  pub record IsScaledSegment (s : Segment A) : Type 0 where
    pub from : IsScaledPoint s.from
    pub to : IsScaledPoint s.to

  -- a drawn point: a scaled point, or where two lines through scaled points cross
  abbrev pub IsDrawn : Point A → Type 0
  IsDrawn p = IsDrawnWithin (2 ^ 22) p
