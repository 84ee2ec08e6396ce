-- The numbers of a wide form that are formed only where another is below zero.
use Rattle.std.proofs.Common.{ℤ, pos, negsuc, ◌<ℤ◌, ◌≤ℤ◌, List, arith}
use Rattle.std.proofs.lemmas.Int.{ints}
use Rattle.exact_number.specs.WideForms.{AllFit, where_below_zero}

pub fit_below_zero : (n : ℤ) (more : List ℤ) → n <ℤ pos 0 → AllFit more → AllFit (where_below_zero n more)
fit_below_zero (pos n) more h f = tt
fit_below_zero (negsuc n) more h f = f

pub formed_below_zero : (n : ℤ) (more : List ℤ) → n <ℤ pos 0 → AllFit (where_below_zero n more) → AllFit more
formed_below_zero (pos n) more h f = absurd (omega (arith, ints))
formed_below_zero (negsuc n) more h f = f

pub none_from_zero : (n : ℤ) (more : List ℤ) → pos 0 ≤ℤ n → AllFit (where_below_zero n more)
none_from_zero (pos n) more h = tt
none_from_zero (negsuc n) more h = absurd (omega (arith, ints))
