-- The order of an ordered ring is total, and agrees with sums and with products by a number above zero.
use mathlib.Core.Path.{◌≡◌, sym, ap, ◌∙◌}
use mathlib.Core.List.{[], ◌∷◌}
use Rattle.std.specs.declared.cmp.Ordering.TheVariants.{Less, Equal}
use Rattle.algebra.specs.OrderedRing.{OrderedRing}
use Rattle.algebra.specs.Comparison.{compare, IsCompatible}
use Rattle.algebra.proofs.RingLaws.{equal_of_difference}
use Rattle.algebra.proofs.Solvers.{reads, ring, sign_neg, sign_of_multiple}

module _ {A : Type 0} (K : OrderedRing A) where
  turned : (a b : A) → K.sub a b ≡ K.neg (K.sub b a)
  turned a b = ring K (a ∷ b ∷ []) (search reads depth 40 fits 50000) (search reads depth 40 fits 50000) tt

  by_way_of : (a b c : A) → K.add (K.sub a b) (K.sub b c) ≡ K.sub a c
  by_way_of a b c = ring K (a ∷ b ∷ c ∷ []) (search reads depth 40 fits 50000) (search reads depth 40 fits 50000) tt

  sum_of_both : (a b c : A) → K.sub (K.add a c) (K.add b c) ≡ K.sub a b
  sum_of_both a b c = ring K (a ∷ b ∷ c ∷ []) (search reads depth 40 fits 50000) (search reads depth 40 fits 50000) tt

  multiple_of_both : (a b c : A) → K.sub (K.mul a c) (K.mul b c) ≡ K.mul c (K.sub a b)
  multiple_of_both a b c = ring K (a ∷ b ∷ c ∷ []) (search reads depth 40 fits 50000) (search reads depth 40 fits 50000) tt

  equal_of_compare : (a b : A) → compare K a b ≡ Equal → a ≡ b
  equal_of_compare a b h = equal_of_difference K.ops K.laws a b (K.sign_zero (K.sub a b) h)

  pub compatible : IsCompatible K
  compatible = record {
    total = record {
      antisymm = λ a b. ap K.sign (turned a b) ∙ sign_neg K (K.sub b a);
      trans = λ a b c p q. ap K.sign (sym (by_way_of a b c)) ∙ K.sign_add Less (K.sub a b) (K.sub b c) p q;
      congr = λ a b c e. ap (λ t. compare K t c) (equal_of_compare a b e);
    };
    equal = equal_of_compare;
    same_sum = λ a b c. ap K.sign (sum_of_both a b c);
    same_multiple = λ a b c h. ap K.sign (multiple_of_both a b c) ∙ sign_of_multiple K c (K.sub a b) h;
  }
