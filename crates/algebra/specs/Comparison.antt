-- How the numbers of an ordered ring compare: by the sign of their difference.
use mathlib.Core.Path.{◌≡◌}
use Rattle.std.specs.declared.cmp.Ordering.{Ordering}
use Rattle.std.specs.declared.cmp.Ordering.TheVariants.{Equal, Greater}
use Rattle.std.specs.Cmp.{IsTotalOrder}
use Rattle.algebra.specs.OrderedRing.{OrderedRing}

module _ {A : Type 0} (K : OrderedRing A) where
  -- a stands before b where a - b is below zero
  abbrev pub compare : A → A → Ordering
  compare a b = K.sign (K.sub a b)

  -- the order is total, and stays where a number is added on both sides, or both are multiplied by one above zero
  pub record IsCompatible : Type 0 where
    pub total : IsTotalOrder compare
    pub equal : (a b : A) → compare a b ≡ Equal → a ≡ b
    pub same_sum : (a b c : A) → compare (K.add a c) (K.add b c) ≡ compare a b
    pub same_multiple : (a b c : A) → K.sign c ≡ Greater → compare (K.mul a c) (K.mul b c) ≡ compare a b
