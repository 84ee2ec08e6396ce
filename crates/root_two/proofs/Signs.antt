-- The sign of a + b√k by the signs of its parts, as far as they decide it.
use mathlib.Core.Path.{◌≡◌, refl, sym, ap, subst, ◌∙◌}
use mathlib.Core.Logic.{◌⊎◌, inl, inr}
use Prim.Native.Nat.{ℕ, zero, suc}
use native.Mathlib.Omega.{arith}
use borrow.Author.Differences.{ints}
use lib.IntN.{ℤ, pos, negsuc}
use lib.Signed.{lt_z}
use mathlib.Core.Bool.{true, false, beq}
use Rattle.std.specs.Prelude.{FitsSigned}
use Rattle.std.specs.Int.{w128, cast_signed, cast_unsigned}
use Rattle.std.specs.Ordering.{int_cmp}
use Rattle.std.proofs.lemmas.Int.{to_z-of_z}
use Rattle.std.specs.declared.cmp.Ordering.{Ordering}
use Rattle.std.specs.declared.cmp.Ordering.TheVariants.{Less, Equal, Greater}
use Rattle.algebra.specs.Order.{int_sign}
use Rattle.algebra.specs.Integers.{int_ops}
use Rattle.algebra.specs.Surd.{Surd, IsNonsquare, by_norm, surd_norm, surd_sign}
use Rattle.algebra.proofs.IntegerOrder.{compared_with_zero}
use Rattle.algebra.proofs.Surds.{surds}

-- the code's comparison with zero
pub compared_sign : (z : ℤ) → FitsSigned w128 z → int_cmp (cast_signed w128 (cast_unsigned w128 z)) (pos 0) ≡ int_sign z
compared_sign z fits = ap (λ t. int_cmp t (pos 0)) (to_z-of_z w128 z fits) ∙ compared_with_zero z

same_or_zero : (norm s t : Ordering) → ¬ (by_norm norm s t ≡ Equal) → (t ≡ s) ⊎ (t ≡ Equal) → by_norm norm s t ≡ s
same_or_zero Less s t h (inl e) = e
same_or_zero Less s t h (inr e) = absurd (h e)
same_or_zero Equal s t h e = absurd (h refl)
same_or_zero Greater s t h e = refl

second_of_zero : (norm s t : Ordering) → s ≡ Equal → (by_norm norm s t ≡ Equal → t ≡ Equal) → by_norm norm s t ≡ t
second_of_zero Less s t e h = refl
second_of_zero Equal s t e h = sym (h refl)
second_of_zero Greater s t e h = e ∙ sym (h e)

from_zero : (n : ℕ) → lt_z (pos n) (pos 0) ≡ false
from_zero n = grind (arith, ints)

-- on one side of zero
pub same_side : (a b : ℤ) → ¬ (a ≡ pos 0) → ¬ (b ≡ pos 0) → beq (lt_z a (pos 0)) (lt_z b (pos 0)) ≡ true → int_sign b ≡ int_sign a
same_side (pos zero) b h k e = absurd (h refl)
same_side a (pos zero) h k e = absurd (k refl)
same_side (pos (suc m)) (pos (suc n)) h k e = refl
same_side (pos (suc m)) (negsuc n) h k e = let apart = subst (λ t. beq t true ≡ true) (from_zero (suc m)) e in absurd (cc)
same_side (negsuc m) (pos (suc n)) h k e = let apart = subst (λ t. beq true t ≡ true) (from_zero (suc n)) e in absurd (cc)
same_side (negsuc m) (negsuc n) h k e = refl

module _ (k : ℕ) (nonsquare : IsNonsquare k) (a b : ℤ) where
  abbrev x : Surd ℤ
  x = record { a = a; b = b }

  abbrev sign : Ordering
  sign = surd_sign int_ops (pos k) int_sign x

  only_zero : sign ≡ Equal → x ≡ (surds k nonsquare).int (pos 0)
  only_zero = (surds k nonsquare).sign_zero x

  -- b is on the side of a, or zero
  pub sign_of_first : ¬ (int_sign a ≡ Equal) → (int_sign b ≡ int_sign a) ⊎ (int_sign b ≡ Equal) → sign ≡ int_sign a
  sign_of_first h = same_or_zero (int_sign (surd_norm int_ops (pos k) x)) (int_sign a) (int_sign b) (λ z. h (ap (λ (y : Surd ℤ). int_sign y.a) (only_zero z)))

  -- a is zero
  pub sign_of_second : int_sign a ≡ Equal → sign ≡ int_sign b
  sign_of_second h = second_of_zero (int_sign (surd_norm int_ops (pos k) x)) (int_sign a) (int_sign b) h (λ z. ap (λ (y : Surd ℤ). int_sign y.b) (only_zero z))
