-- How large the numbers a + b√k are.
use Prim.Native.Nat.{ℕ, ◌+◌, ◌*◌, max}
use lib.IntN.{ℤ}
use Rattle.std.specs.Prelude.{unsigned_abs}
use Rattle.algebra.specs.Surd.{Surd}

-- |a| + m |b|, a size of the numbers a + b√k where k is at most m²
abbrev pub surd_size : ℕ → Surd ℤ → ℕ
surd_size m x = unsigned_abs x.a + m * unsigned_abs x.b

-- the larger of |a| and |b|
abbrev pub larger_part : Surd ℤ → ℕ
larger_part x = max (unsigned_abs x.a) (unsigned_abs x.b)
