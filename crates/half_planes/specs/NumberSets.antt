-- Two numbers of an ordered ring are one or not, by a sign, so that an equation of numbers has one
-- proof at most.
use Rattle.std.specs.Prelude.{◌≡◌}
use mathlib.Core.Path.{refl, sym, ap, subst, ◌∙◌}
use mathlib.Core.HLevel.{hedberg}
use lib.IntN.{pos}
use Rattle.std.specs.declared.cmp.Ordering.{Ordering}
use Rattle.std.specs.declared.cmp.Ordering.TheVariants.{Less, Equal, Greater}
use Rattle.algebra.specs.OrderedRing.{OrderedRing}
use Rattle.algebra.proofs.RingLaws.{equal_of_difference, difference_of_equal}

abbrev IsOff : Ordering → Type 0
IsOff Less = Unit {0}
IsOff Equal = ⊥
IsOff Greater = Unit {0}

module _ {A : Type 0} (K : OrderedRing A) where
  at_zero : (x y : A) → x ≡ y → K.sign (K.sub x y) ≡ Equal
  at_zero x y e = ap K.sign (difference_of_equal K.ops K.laws x y e) ∙ K.sign_int (pos 0)

  alike : (x y : A) (o : Ordering) → K.sign (K.sub x y) ≡ o → Dec (x ≡ y)
  alike x y Less h = no (λ e. subst IsOff (sym h ∙ at_zero x y e) tt)
  alike x y Equal h = yes (equal_of_difference K.ops K.laws x y (K.sign_zero (K.sub x y) h))
  alike x y Greater h = no (λ e. subst IsOff (sym h ∙ at_zero x y e) tt)

  pub numbers_are_set : IsSet A
  numbers_are_set = hedberg (λ x y. alike x y (K.sign (K.sub x y)) refl)
