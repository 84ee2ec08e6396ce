-- What two closed segments have in common.
use Rattle.std.specs.Prelude.{◌≡◌, ◌⊎◌, ◌↔◌, ℕ, ℤ}
use Rattle.std.specs.declared.cmp.Ordering.TheVariants.{Less}
use Rattle.algebra.specs.OrderedRing.{OrderedRing}
use Rattle.algebra.specs.Surd.{Surd}
use Rattle.algebra.specs.WholeSurds.{SurdNumbers}
use Rattle.plane.specs.declared.point.Point.{Point}
use Rattle.scaled_plane.specs.declared.point.Segment.{Segment}
use Rattle.plane.specs.Points.{IsPoint, IsSamePoint, point_order}
use Rattle.plane.specs.Segments.{IsOn, IsEnd}
use Rattle.scaled_plane.specs.Segments.{IsCommon}
use Rattle.scaled_plane.specs.Drawn.{IsDrawn}
use Rattle.plane.specs.Lines.{crossing}
use Rattle.segment_tests.specs.declared.answer.Meet.{Meet}
use Rattle.segment_tests.specs.declared.answer.Meet.TheVariants.{Apart, Touches, Crosses, Along}

module _ {A : Type 0} (K : OrderedRing A) (s t : Segment A) where
  -- q is common to both, and every common point is q
  pub record IsOnlyCommon (q : Point A) : Type 0 where
    pub point : IsPoint K q
    pub common : IsCommon K s t q
    pub only : (p : Point A) → IsPoint K p → IsCommon K s t p → IsSamePoint K p q

  -- q is the vector of an end of one of them
  abbrev pub IsOneEnd : Point A → Type 0
  IsOneEnd q = (q ≡ s.from) ⊎ (q ≡ s.to) ⊎ (q ≡ t.from) ⊎ (q ≡ t.to)

  -- the answer is exactly the common points
  abbrev pub IsMeet : Meet A → Type 0
  IsMeet Apart = (p : Point A) → IsPoint K p → ¬ IsCommon K s t p
  IsMeet (Touches q) = IsOnlyCommon q × IsOneEnd q
  IsMeet (Crosses q) = IsOnlyCommon q × ¬ IsEnd K s.from s.to q × ¬ IsEnd K t.from t.to q × (q ≡ crossing K s.from s.to t.from t.to)
  IsMeet (Along p q) = IsOneEnd p × IsOneEnd q × (point_order K p q ≡ Less)
      × ((r : Point A) → IsPoint K r → (IsCommon K s t r ↔ IsOn K p q r))

-- where they cross is a drawn point
abbrev pub CrossesInDrawn : {A : Type 0} {k : ℕ} {surd : A → Surd ℤ} (numbers : SurdNumbers k surd) → Meet A → Type 0
CrossesInDrawn numbers (Crosses q) = IsDrawn numbers q
CrossesInDrawn numbers _ = Unit {0}
