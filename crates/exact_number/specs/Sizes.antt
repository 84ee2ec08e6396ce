-- How large a whole number a + b√k is.
use Rattle.std.specs.Prelude.{ℕ, ℤ}
use Rattle.algebra.specs.Surd.{Surd}
use Rattle.algebra.specs.SurdSize.{surd_size}

-- |a| + 2 |b|: for k at most 3 no sum or product is larger than the sum or product of the sizes
abbrev pub whole_size : Surd ℤ → ℕ
whole_size x = surd_size 2 x
