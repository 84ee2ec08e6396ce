-- Quotients over √k: the product with the conjugate over the norm, whose sign is moved up.
use Rattle.std.proofs.Common.{◌≡◌, refl, ◌∙◌, sym, ap, subst, arith, ℤ, pos, negsuc, neg_ℤ, ◌<ℤ◌, ◌≤ℤ◌, List, [], ◌∷◌}
use borrow.Author.Differences.{ints}
use Prim.Native.Nat.{ℕ, zero, suc}
use Rattle.std.specs.declared.cmp.Ordering.{Ordering}
use Rattle.std.specs.declared.cmp.Ordering.TheVariants.{Less, Equal, Greater}
use Rattle.algebra.specs.Order.{int_sign, product_sign}
use Rattle.algebra.specs.LowestTerms.{Parts}
use Rattle.algebra.specs.NumberFormulas.{norm, by_conjugate, negated, upright_at, quotient, parts_sign}
use Rattle.algebra.proofs.Integers.{integers}
use Rattle.algebra.proofs.LowestForms.{greater_of_positive, positive_of_greater}
use Rattle.algebra.proofs.NumberParts.{quotient_positive}
use Rattle.exact_number.specs.WideForms.{AllFit, where_below_zero, root_quotient}
use Rattle.exact_number.proofs.NegatedForms.{fit_below_zero, formed_below_zero, none_from_zero}
use Rattle.root_two.specs.Quotients.{over_norm_form}
use Rattle.root_two.proofs.Forms.{fit_together, later_fit}

below_zero : (n : ℤ) → int_sign n ≡ Less → n <ℤ pos 0
below_zero (pos zero) h = absurd (cc)
below_zero (pos (suc n)) h = absurd (cc)
below_zero (negsuc n) h = omega (arith, ints)

only_below : (p : Parts) (s : Ordering) → int_sign p.q ≡ s → pos 0 <ℤ (upright_at s p).q → p.q ≤ℤ pos 0 → s ≡ Less
only_below p Less e h k = refl
only_below p Equal e h k = absurd (omega (arith, ints))
only_below p Greater e h k = absurd (omega (arith, ints))

module _ (k : ℕ) (x y : Parts) (positive : pos 0 <ℤ x.q) where
  abbrev pub fraction : Parts
  fraction = by_conjugate k x y

  abbrev pub negations : List ℤ
  negations = neg_ℤ fraction.a ∷ (neg_ℤ fraction.b ∷ (neg_ℤ fraction.q ∷ []))

  sign_of_denominator : int_sign fraction.q ≡ int_sign (norm k y)
  sign_of_denominator = integers.sign_mul x.q (norm k y) ∙ ap (λ s. product_sign s (int_sign (norm k y))) (greater_of_positive x.q positive)

  module _ (above : pos 0 <ℤ fraction.q) where
    pub upright_above : quotient k x y ≡ fraction
    upright_above = ap (λ s. upright_at s fraction) (greater_of_positive fraction.q above)

    pub fit_above : AllFit (over_norm_form k x y) → AllFit (root_quotient k x y)
    fit_above h =
        let norm_above : pos 0 <ℤ norm k y = positive_of_greater (norm k y) (sym sign_of_denominator ∙ greater_of_positive fraction.q above) in
        fit_together (over_norm_form k x y) (where_below_zero (norm k y) negations) h (none_from_zero (norm k y) negations (omega (arith, ints)))

  module _ (below : fraction.q ≤ℤ pos 0) (divisor : ¬ (parts_sign k y ≡ Equal)) where
    is_below : int_sign fraction.q ≡ Less
    is_below = only_below fraction (int_sign fraction.q) refl (quotient_positive k x y positive divisor) below

    norm_below : norm k y <ℤ pos 0
    norm_below = below_zero (norm k y) (sym sign_of_denominator ∙ is_below)

    pub upright_below : quotient k x y ≡ negated fraction
    upright_below = ap (λ s. upright_at s fraction) is_below

    pub negated_positive : pos 0 <ℤ neg_ℤ fraction.q
    negated_positive = subst (λ (p : Parts). pos 0 <ℤ p.q) upright_below (quotient_positive k x y positive divisor)

    pub fit_below : AllFit (over_norm_form k x y) → AllFit negations → AllFit (root_quotient k x y)
    fit_below h j = fit_together (over_norm_form k x y) (where_below_zero (norm k y) negations) h (fit_below_zero (norm k y) negations norm_below j)

    pub negations_fit : AllFit (root_quotient k x y) → AllFit negations
    negations_fit h = formed_below_zero (norm k y) negations norm_below (later_fit (over_norm_form k x y) (where_below_zero (norm k y) negations) h)
