-- Segments as sets of points: those of which a multiple is a sum of multiples of the ends.
use Rattle.std.specs.Prelude.{◌≡◌, ◌⊎◌, IsTrue}
use Rattle.std.specs.Ordering.{is_ge}
use Rattle.std.specs.declared.cmp.Ordering.TheVariants.{Greater}
use Rattle.algebra.specs.Ring.{Operations}
use Rattle.algebra.specs.OrderedRing.{OrderedRing}
use Rattle.plane.specs.declared.point.Point.{Point}
use Rattle.plane.specs.Points.{combination, multiple_of, IsPoint, IsSamePoint}

abbrev pub middle : {A : Type 0} → Operations A → Point A → Point A → Point A
middle ops a b = combination ops b.w a a.w b

module _ {A : Type 0} (K : OrderedRing A) where
  -- p lies on the closed segment from a to b, which may be a point: a multiple of p is a sum of
  -- multiples of the ends
  pub record IsOn (a b p : Point A) : Type 0 where
    pub factor : A
    pub from_share : A
    pub to_share : A
    pub factor_positive : K.sign factor ≡ Greater
    pub from_not_negative : IsTrue (is_ge (K.sign from_share))
    pub to_not_negative : IsTrue (is_ge (K.sign to_share))
    pub is : multiple_of K.ops factor p ≡ combination K.ops from_share a to_share b

  -- p lies between a and b: the shares of both are above zero
  pub record IsBetween (a b p : Point A) : Type 0 where
    pub factor : A
    pub from_share : A
    pub to_share : A
    pub factor_positive : K.sign factor ≡ Greater
    pub from_positive : K.sign from_share ≡ Greater
    pub to_positive : K.sign to_share ≡ Greater
    pub is : multiple_of K.ops factor p ≡ combination K.ops from_share a to_share b

  -- p is one of the two ends
  abbrev pub IsEnd : Point A → Point A → Point A → Type 0
  IsEnd a b p = IsSamePoint K p a ⊎ IsSamePoint K p b

  -- p is a point of both closed segments ab and cd
  abbrev pub IsOnBoth : Point A → Point A → Point A → Point A → Point A → Type 0
  IsOnBoth a b c d p = IsPoint K p × IsOn a b p × IsOn c d p

  -- the closed segments ab and cd have a point in common
  abbrev pub SegmentsMeet : Point A → Point A → Point A → Point A → Type 0
  SegmentsMeet a b c d = (p : Point A) × IsPoint K p × IsOn a b p × IsOn c d p

  -- every common point of them is an end of both
  abbrev pub MeetInEnds : Point A → Point A → Point A → Point A → Type 0
  MeetInEnds a b c d = (p : Point A) → IsPoint K p → IsOn a b p → IsOn c d p → IsEnd a b p × IsEnd c d p
