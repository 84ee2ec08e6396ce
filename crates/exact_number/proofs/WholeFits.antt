-- What an operation of `Whole` asks, from bounds on the numbers that it is made of.
use Prim.Native.Nat.{ℕ, suc, ◌+◌, ◌*◌, ◌≤◌, ◌<◌, ◌^◌}
use native.Mathlib.Nat.{le_trans, mul-le-mul}
use native.Mathlib.Omega.{arith}
use lib.IntN.{ℤ}
use Rattle.algebra.specs.Surd.{Surd}
use Rattle.algebra.specs.SurdSize.{larger_part}
use Rattle.algebra.specs.WholeSurds.{SurdNumbers}
use Rattle.exact_number.specs.Sizes.{whole_size}
use Rattle.exact_number.specs.WideForms.{AllFit, whole_sum, whole_difference, whole_product}
use Rattle.exact_number.proofs.WholeSizes.{sum_fits, difference_fits, product_fits, whole_sized}
use Rattle.algebra.proofs.Solvers.{Bounded, bounded, bounded_int, bounded_call, bounded_add, bounded_sub, bounded_mul, bounded_neg, limit_of, within_limit, Fits, at_most}

-- of a number whose parts are at most n
pub size_of_parts : (x : Surd ℤ) {n : ℕ} → larger_part x ≤ n → whole_size x ≤ 3 * n
size_of_parts x h = omega (arith, h)

-- what `search` finds bounds by
pub ruleset bounds = (bounded_call, bounded_add, bounded_sub, bounded_mul, bounded_neg, bounded_int, bounded, size_of_parts)

module _ {W : Type 0} {k : ℕ} {pair : W → Surd ℤ} (N : SurdNumbers k pair) (k_at_most : k ≤ 3) where
  abbrev pub size : W → ℕ
  size x = whole_size (pair x)

  pub sum_in_range : {x y : W} (t : Bounded N.ops size x) (s : Bounded N.ops size y) → Fits (suc (limit_of t + limit_of s)) (2 ^ 127)
      → AllFit (whole_sum (pair x) (pair y))
  sum_in_range {x} {y} t s h =
      sum_fits (pair x) (pair y) (omega (arith, within_limit (whole_sized k pair N k_at_most) t, within_limit (whole_sized k pair N k_at_most) s, at_most (suc (limit_of t + limit_of s)) (2 ^ 127) h))

  pub difference_in_range : {x y : W} (t : Bounded N.ops size x) (s : Bounded N.ops size y) → Fits (suc (limit_of t + limit_of s)) (2 ^ 127)
      → AllFit (whole_difference (pair x) (pair y))
  difference_in_range {x} {y} t s h =
      difference_fits (pair x) (pair y) (omega (arith, within_limit (whole_sized k pair N k_at_most) t, within_limit (whole_sized k pair N k_at_most) s, at_most (suc (limit_of t + limit_of s)) (2 ^ 127) h))

  pub product_in_range : {x y : W} (t : Bounded N.ops size x) (s : Bounded N.ops size y) → Fits (suc (limit_of t * limit_of s)) (2 ^ 127)
      → AllFit (whole_product k (pair x) (pair y))
  product_in_range {x} {y} t s h =
      product_fits k k_at_most (pair x) (pair y)
      (omega (arith, mul-le-mul (within_limit (whole_sized k pair N k_at_most) t) (within_limit (whole_sized k pair N k_at_most) s), at_most (suc (limit_of t * limit_of s)) (2 ^ 127) h))

  -- the size is at most n
  pub size_in_range : {x : W} {n : ℕ} (t : Bounded N.ops size x) → Fits (limit_of t) n → size x ≤ n
  size_in_range {x} {n} t h = le_trans (within_limit (whole_sized k pair N k_at_most) t) (at_most (limit_of t) n h)

  -- the sum of two products of sizes is below 2^127
  pub cross_in_range : {a b c d : W} (p : Bounded N.ops size a) (q : Bounded N.ops size b) (r : Bounded N.ops size c) (s : Bounded N.ops size d)
      → Fits (suc (limit_of p * limit_of s + limit_of q * limit_of r)) (2 ^ 127) → size a * size d + size b * size c < 2 ^ 127
  cross_in_range p q r s h =
      let sized = whole_sized k pair N k_at_most in
      omega (arith, mul-le-mul (within_limit sized p) (within_limit sized s), mul-le-mul (within_limit sized q) (within_limit sized r), at_most (suc (limit_of p * limit_of s + limit_of q * limit_of r)) (2 ^ 127) h)
