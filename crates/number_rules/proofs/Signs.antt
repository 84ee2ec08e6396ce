-- Signs of whole numbers, as orders and back.
use Rattle.std.proofs.Common.{◌≡◌, refl, ℤ, pos, negsuc, zero, suc, ◌<ℤ◌, ◌≤ℤ◌, arith, IsTrue}
use Rattle.std.specs.Ordering.{is_ge}
use Rattle.std.specs.declared.cmp.Ordering.TheVariants.{Less, Greater}
use Rattle.std.proofs.lemmas.Int.{ints}
use Rattle.algebra.specs.Order.{int_sign}

pub at_least_zero : (n : ℤ) → IsTrue (is_ge (int_sign n)) → pos 0 ≤ℤ n
at_least_zero (pos n) h = omega (arith, ints)
at_least_zero (negsuc n) h = absurd (cc)

pub not_below_zero : (n : ℤ) → pos 0 ≤ℤ n → IsTrue (is_ge (int_sign n))
not_below_zero (pos zero) h = refl
not_below_zero (pos (suc n)) h = refl
not_below_zero (negsuc n) h = absurd (omega (arith, ints, h))

pub sign_above : (n : ℤ) → pos 0 <ℤ n → int_sign n ≡ Greater
sign_above (pos (suc n)) h = refl
sign_above (pos zero) h = absurd (omega (arith, ints, h))
sign_above (negsuc n) h = absurd (omega (arith, ints, h))

pub sign_below : (n : ℤ) → n <ℤ pos 0 → int_sign n ≡ Less
sign_below (pos n) h = absurd (omega (arith, ints, h))
sign_below (negsuc n) h = refl
