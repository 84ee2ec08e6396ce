-- Solvers for the signs of polynomials, from known signs and a reason, and what a factor does to signs and equations.
use mathlib.Core.List.{List}
use mathlib.Core.Path.{◌≡◌, refl, sym, ap, ap₂, subst, ◌∙◌}
use Rattle.std.specs.Prelude.{IsTrue}
use lib.IntN.{pos}
use Rattle.std.specs.declared.cmp.Ordering.{Ordering}
use Rattle.std.specs.declared.cmp.Ordering.TheVariants.{Less, Equal, Greater}
use Rattle.algebra.specs.Order.{product_sign}
use Rattle.algebra.specs.OrderedRing.{OrderedRing}
use Rattle.algebra.proofs.Expression.{constant, minus, times, nth_value, value_of}
use Rattle.algebra.proofs.Polynomial.{Agree}
use Rattle.algebra.proofs.RingLaws.{equal_of_difference}
use Rattle.algebra.proofs.NormalForm.{same_value}
use Rattle.algebra.proofs.Reading.{Reading, read_int, read_sub, read_mul, expression_of, value_of_reading}
use Rattle.algebra.proofs.Identity.{Equations, combination, ring_from}
use Rattle.algebra.proofs.PossibleSigns.{Claim, Has, Settles, has_settled, allows}
use Rattle.algebra.proofs.SignReason.{KnownSigns, Reason, fact_of, fact_holds}

zero_factor : (s t : Ordering) → ¬ (s ≡ Equal) → product_sign s t ≡ Equal → t ≡ Equal
zero_factor Less Less h e = absurd (cc)
zero_factor Less Equal h e = refl
zero_factor Less Greater h e = absurd (cc)
zero_factor Equal t h e = absurd (h refl)
zero_factor Greater t h e = e

module _ {A : Type 0} (K : OrderedRing A) where
  -- a positive factor changes no sign
  pub sign_of_multiple : (w a : A) → K.sign w ≡ Greater → K.sign (K.mul w a) ≡ K.sign a
  sign_of_multiple w a h = K.sign_mul w a ∙ ap (λ s. product_sign s (K.sign a)) h

  module _ (xs : List A) where
    has_by_reason : (facts : KnownSigns K xs) (c : Claim) (r : Reason) (a : A)
        → value_of K.ops (nth_value K.ops xs) (fact_of facts r).expression ≡ a → Settles c (fact_of facts r).signs → Has c (K.sign a)
    has_by_reason facts c r a e h =
        has_settled c (fact_of facts r).signs (K.sign a) h
        (subst (λ (b : A). IsTrue (allows (fact_of facts r).signs (K.sign b))) e (fact_holds K xs facts r))

    -- the number has the sign that is claimed, since it comes to the same polynomial as the reason
    pub sign_from : (facts : KnownSigns K xs) (c : Claim) {a : A} (goal : Reading K.ops xs a) (r : Reason)
        → Agree (fact_of facts r).expression (expression_of goal) → Settles c (fact_of facts r).signs → Has c (K.sign a)
    sign_from facts c {a} goal r h s =
        has_by_reason facts c r a (same_value K.ops K.laws (nth_value K.ops xs) (fact_of facts r).expression (expression_of goal) h ∙ value_of_reading goal) s

    -- the same, where the number times a positive factor comes to the same polynomial as the reason
    pub sign_from_multiple : (facts : KnownSigns K xs) (c : Claim) {w a : A} (factor : Reading K.ops xs w) → K.sign w ≡ Greater → (goal : Reading K.ops xs a) (r : Reason)
        → Agree (fact_of facts r).expression (times (expression_of factor) (expression_of goal)) → Settles c (fact_of facts r).signs → Has c (K.sign a)
    sign_from_multiple facts c {w} {a} factor p goal r h s =
        subst (Has c) (sign_of_multiple w a p)
        (has_by_reason facts c r (K.mul w a)
        (same_value K.ops K.laws (nth_value K.ops xs) (fact_of facts r).expression (times (expression_of factor) (expression_of goal)) h
        ∙ ap₂ K.mul (value_of_reading factor) (value_of_reading goal)) s)

    -- two numbers have the same sign, since the first comes to the same polynomial as a positive factor times the second
    pub same_sign : {w a b : A} (factor : Reading K.ops xs w) → K.sign w ≡ Greater → (r : Reading K.ops xs a) (s : Reading K.ops xs b)
        → Agree (expression_of r) (times (expression_of factor) (expression_of s)) → K.sign a ≡ K.sign b
    same_sign {w} {a} {b} factor p r s h =
        ap K.sign (sym (value_of_reading r) ∙ same_value K.ops K.laws (nth_value K.ops xs) (expression_of r) (times (expression_of factor) (expression_of s)) h
        ∙ ap₂ K.mul (value_of_reading factor) (value_of_reading s)) ∙ sign_of_multiple w b p

    -- two numbers are equal, since their difference, times a factor that is not zero, is the combination of the known equations
    pub ring_from_multiple : (facts : Equations K.ops xs) {w a b : A} (factor : Reading K.ops xs w) → ¬ (K.sign w ≡ Equal) → (r : Reading K.ops xs a) (s : Reading K.ops xs b)
        → Agree (minus (times (expression_of factor) (minus (expression_of r) (expression_of s))) (constant (pos 0))) (combination facts) → a ≡ b
    ring_from_multiple facts {w} {a} {b} factor p r s h =
        let product_zero : K.mul w (K.sub a b) ≡ K.int (pos 0) = ring_from K xs facts (read_mul factor (read_sub r s)) (read_int (pos 0)) h in
        let sign_zero : K.sign (K.sub a b) ≡ Equal
        = zero_factor (K.sign w) (K.sign (K.sub a b)) p (sym (K.sign_mul w (K.sub a b)) ∙ ap K.sign product_zero ∙ K.sign_int (pos 0)) in
        equal_of_difference K.ops K.laws a b (K.sign_zero (K.sub a b) sign_zero)
