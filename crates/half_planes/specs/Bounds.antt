-- Bounds on a number x / weight, and the places that they leave.
use Rattle.std.specs.Prelude.{◌≡◌, Option, MatchOption, IfSome, ◌↔◌}
use Rattle.std.specs.declared.cmp.Ordering.TheVariants.{Less, Greater}
use Rattle.algebra.specs.Ring.{Operations}
use Rattle.algebra.specs.OrderedRing.{OrderedRing}
use Rattle.half_planes.specs.declared.bound.Bound.{Bound}

-- the number x / weight
pub record Place (A : Type 0) : Type 0 where
  pub x : A
  pub weight : A

-- slope·offset' - offset·slope': above zero where numbers lie between a lower bound and an upper one
abbrev pub gap : {A : Type 0} → Operations A → Bound A → Bound A → A
gap ops f g = ops.sub (ops.mul f.slope g.offset) (ops.mul f.offset g.slope)

module _ {A : Type 0} (K : OrderedRing A) where
  abbrev pub IsPlace : Place A → Type 0
  IsPlace p = K.sign p.weight ≡ Greater

  -- the bound holds at the place
  abbrev pub Holds : Bound A → Place A → Type 0
  Holds f p = K.sign (K.add (K.mul f.slope p.x) (K.mul f.offset p.weight)) ≡ Greater

  -- a bound from below
  abbrev pub IsLower : Bound A → Type 0
  IsLower f = K.sign f.slope ≡ Greater

  -- a bound from above
  abbrev pub IsUpper : Bound A → Type 0
  IsUpper f = K.sign f.slope ≡ Less

  -- a lower and an upper bound, each of which may be absent, with places between them
  pub record LeaveRoom (lower upper : Option (Bound A)) : Type 0 where
    pub from_below : IfSome lower IsLower
    pub from_above : IfSome upper IsUpper
    pub apart : IfSome lower (λ f. IfSome upper (λ g. K.sign (gap K.ops f g) ≡ Greater))

  -- the place lies between the bounds
  pub record Lies (lower upper : Option (Bound A)) (p : Place A) : Type 0 where
    pub above : IfSome lower (λ f. Holds f p)
    pub below : IfSome upper (λ g. Holds g p)

  -- the answer has exactly the places that meet a condition; there's none where no place does
  abbrev pub Leaves : {X : Type 0} → (X → Place A → Type 0) → (Place A → Type 0) → Option X → Type 0
  Leaves places condition answer =
      MatchOption answer ((p : Place A) → IsPlace p → ¬ condition p) (λ x. (p : Place A) → IsPlace p → (places x p ↔ condition p))
