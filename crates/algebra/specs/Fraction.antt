-- Fractions over an ordered ring: a numerator over a denominator above zero, compared and computed by cross-multiplication.
use mathlib.Core.Path.{◌≡◌, refl, ap₂, ◌∙◌}
use lib.IntN.{pos, negsuc}
use Rattle.std.specs.declared.cmp.Ordering.{Ordering}
use Rattle.std.specs.declared.cmp.Ordering.TheVariants.{Less, Equal, Greater}
use Rattle.algebra.specs.Ring.{Operations}
use Rattle.algebra.specs.Order.{product_sign}
use Rattle.algebra.specs.OrderedRing.{OrderedRing}

pub record Fraction {A : Type 0} (K : OrderedRing A) : Type 0 where
  pub numerator : A
  pub denominator : A
  pub positive : K.sign denominator ≡ Greater

module _ {A : Type 0} (K : OrderedRing A) where
  abbrev pub positive_product : (a b : A) → K.sign a ≡ Greater → K.sign b ≡ Greater → K.sign (K.mul a b) ≡ Greater
  positive_product a b p q = K.sign_mul a b ∙ ap₂ product_sign p q

  -- a and b stand for one number
  abbrev pub Same : Fraction K → Fraction K → Type 0
  Same x y = K.mul x.numerator y.denominator ≡ K.mul y.numerator x.denominator

  -- n / 1
  abbrev pub whole : A → Fraction K
  whole n = record { numerator = n; denominator = K.int (pos 1); positive = K.sign_int (pos 1) }

  -- a numerator over the product of the denominators
  abbrev pub over_both : Fraction K → Fraction K → A → Fraction K
  over_both x y n = record {
    numerator = n;
    denominator = K.mul x.denominator y.denominator;
    positive = positive_product x.denominator y.denominator x.positive y.positive;
  }

  abbrev pub sum : Fraction K → Fraction K → Fraction K
  sum x y = over_both x y (K.add (K.mul x.numerator y.denominator) (K.mul y.numerator x.denominator))

  abbrev pub difference : Fraction K → Fraction K → Fraction K
  difference x y = over_both x y (K.sub (K.mul x.numerator y.denominator) (K.mul y.numerator x.denominator))

  abbrev pub product : Fraction K → Fraction K → Fraction K
  product x y = over_both x y (K.mul x.numerator y.numerator)

  abbrev pub minus : Fraction K → Fraction K
  minus x = record { numerator = K.neg x.numerator; denominator = x.denominator; positive = x.positive }

  abbrev pub fraction_ops : Operations (Fraction K)
  fraction_ops = record { int = λ n. whole (K.int n); add = sum; sub = difference; mul = product; neg = minus }

  abbrev pub fraction_sign : Fraction K → Ordering
  fraction_sign x = K.sign x.numerator

  -- the fraction turned over, both parts times -1 where the numerator is below zero; zero stays as it is
  abbrev pub inverse_at : (x : Fraction K) (s : Ordering) → K.sign x.numerator ≡ s → Fraction K
  inverse_at x Less e = record {
    numerator = K.mul (K.int (negsuc 0)) x.denominator;
    denominator = K.mul (K.int (negsuc 0)) x.numerator;
    positive = K.sign_mul (K.int (negsuc 0)) x.numerator ∙ ap₂ product_sign (K.sign_int (negsuc 0)) e;
  }
  inverse_at x Equal e = x
  inverse_at x Greater e = record { numerator = x.denominator; denominator = x.numerator; positive = e }

  abbrev pub inverse : Fraction K → Fraction K
  inverse x = inverse_at x (K.sign x.numerator) refl
