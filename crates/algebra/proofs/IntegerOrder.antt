-- The whole numbers are ordered by their signs, as Rust compares them.
use mathlib.Core.Bool.{Bool, true, false, cond}
use mathlib.Core.Path.{◌≡◌, refl, sym, ap, ◌∙◌}
use native.Mathlib.Omega.{arith}
use borrow.Author.Differences.{ints, up, down}
use Prim.Native.Nat.{zero, suc, ◌<◌}
use lib.IntN.{ℤ, pos, negsuc, ◌+ℤ◌, ◌-ℤ◌, ◌*ℤ◌}
use Rattle.std.specs.Prelude.{int_lt}
use Rattle.std.specs.Ordering.{int_cmp}
use Rattle.std.specs.declared.cmp.Ordering.{Ordering}
use Rattle.std.specs.declared.cmp.Ordering.TheVariants.{Less, Equal, Greater}
use Rattle.algebra.specs.Order.{int_sign, product_sign, IsOrdered}
use Rattle.algebra.specs.Integers.{int_ops}

-- a whole number is `up` less `down`, of which one is zero: which is greater, by the sign
pub out_greater : (z : ℤ) → int_sign z ≡ Greater → down z < up z
out_greater (pos zero) h = absurd (cc)
out_greater (pos (suc n)) h = omega arith
out_greater (negsuc n) h = absurd (cc)

pub out_less : (z : ℤ) → int_sign z ≡ Less → up z < down z
out_less (pos zero) h = absurd (cc)
out_less (pos (suc n)) h = absurd (cc)
out_less (negsuc n) h = omega arith

pub out_equal : (z : ℤ) → int_sign z ≡ Equal → up z ≡ down z
out_equal (pos zero) h = refl
out_equal (pos (suc n)) h = absurd (cc)
out_equal (negsuc n) h = absurd (cc)

pub in_greater : (z : ℤ) → down z < up z → int_sign z ≡ Greater
in_greater (pos zero) h = absurd (omega arith)
in_greater (pos (suc n)) h = refl
in_greater (negsuc n) h = absurd (omega arith)

pub in_less : (z : ℤ) → up z < down z → int_sign z ≡ Less
in_less (pos zero) h = absurd (omega arith)
in_less (pos (suc n)) h = absurd (omega arith)
in_less (negsuc n) h = refl

pub in_equal : (z : ℤ) → up z ≡ down z → int_sign z ≡ Equal
in_equal (pos zero) h = refl
in_equal (pos (suc n)) h = absurd (omega arith)
in_equal (negsuc n) h = absurd (omega arith)

sign_zero : (a : ℤ) → int_sign a ≡ Equal → a ≡ pos 0
sign_zero a h = let e : up a ≡ down a = out_equal a h in omega (arith, ints)

sign_add : (s : Ordering) (a b : ℤ) → int_sign a ≡ s → int_sign b ≡ s → int_sign (a +ℤ b) ≡ s
sign_add Less a b h k = in_less (a +ℤ b) (omega (arith, ints, out_less a h, out_less b k))
sign_add Equal a b h k = in_equal (a +ℤ b) (omega (arith, ints, out_equal a h, out_equal b k))
sign_add Greater a b h k = in_greater (a +ℤ b) (omega (arith, ints, out_greater a h, out_greater b k))

sign_mul : (a b : ℤ) → int_sign (a *ℤ b) ≡ product_sign (int_sign a) (int_sign b)
sign_mul (pos zero) b = in_equal (pos zero *ℤ b) (omega (arith, ints))
sign_mul (pos (suc a)) (pos zero) = in_equal (pos (suc a) *ℤ pos zero) (omega (arith, ints))
sign_mul (pos (suc a)) (pos (suc b)) = in_greater (pos (suc a) *ℤ pos (suc b)) (omega (arith, ints))
sign_mul (pos (suc a)) (negsuc b) = in_less (pos (suc a) *ℤ negsuc b) (omega (arith, ints))
sign_mul (negsuc a) (pos zero) = in_equal (negsuc a *ℤ pos zero) (omega (arith, ints))
sign_mul (negsuc a) (pos (suc b)) = in_less (negsuc a *ℤ pos (suc b)) (omega (arith, ints))
sign_mul (negsuc a) (negsuc b) = in_greater (negsuc a *ℤ negsuc b) (omega (arith, ints))

pub int_ordered : IsOrdered int_ops int_sign
int_ordered = record { sign_int = λ n. refl; sign_zero = sign_zero; sign_mul = sign_mul; sign_add = sign_add }

-- ---- Rust's comparison

by_tests : (m n : ℤ) (s t : Bool) → int_lt m n ≡ s → int_lt n m ≡ t → cond s Less (cond t Greater Equal) ≡ int_sign (m -ℤ n)
by_tests m n true t h j = sym (in_less (m -ℤ n) (omega (arith, ints)))
by_tests m n false true h j = sym (in_greater (m -ℤ n) (omega (arith, ints)))
by_tests m n false false h j = sym (in_equal (m -ℤ n) (omega (arith, ints)))

pub compared : (m n : ℤ) → int_cmp m n ≡ int_sign (m -ℤ n)
compared m n = by_tests m n (int_lt m n) (int_lt n m) refl refl

pub compared_with_zero : (n : ℤ) → int_cmp n (pos 0) ≡ int_sign n
compared_with_zero n = let e : n -ℤ pos 0 ≡ n = omega (arith, ints) in compared n (pos 0) ∙ ap int_sign e
