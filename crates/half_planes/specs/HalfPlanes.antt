-- Open half-planes, and the points that they have in common.
use Rattle.std.specs.Prelude.{◌≡◌, ℕ, ℤ, List}
use Rattle.algebra.specs.OrderedRing.{OrderedRing}
use Rattle.algebra.specs.Surd.{Surd}
use Rattle.algebra.specs.WholeSurds.{SurdNumbers}
use Rattle.plane.specs.declared.point.Point.{Point}
use Rattle.plane.specs.declared.point.Line.{Line}
use Rattle.plane.specs.Points.{IsPoint}
use Rattle.plane.specs.Lines.{LiesIn, line}
use Rattle.plane.specs.Segments.{IsBetween}
use Rattle.scaled_plane.specs.Drawn.{IsScaledPoint}

-- some point lies in the open half-planes of all the lines
abbrev pub HalfPlanesMeet : {A : Type 0} → OrderedRing A → List (Line A) → Type 0
HalfPlanesMeet {A} K lines = (p : Point A) × IsPoint K p × LiesIn K lines p

-- the line leads from one scaled point to another
pub record IsFormed {A : Type 0} {k : ℕ} {surd : A → Surd ℤ} (numbers : SurdNumbers k surd) (l : Line A) : Type 0 where
  pub from : Point A
  pub to : Point A
  pub from_scaled : IsScaledPoint numbers from
  pub to_scaled : IsScaledPoint numbers to
  pub is : l ≡ line numbers.ops from to

-- some point between p and q lies in the open half-planes of all the lines
abbrev pub Enters : {A : Type 0} → OrderedRing A → Point A → Point A → List (Line A) → Type 0
Enters {A} K p q lines = (r : Point A) × IsPoint K r × IsBetween K p q r × LiesIn K lines r
