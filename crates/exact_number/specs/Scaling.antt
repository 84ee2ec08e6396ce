-- Numbers times a common denominator: whole numbers a + b√k, which drawings compute with.
use Rattle.std.specs.Prelude.{◌≡◌, ℤ, pos, ◌*ℤ◌, ◌≤◌, ◌^◌, unsigned_abs, int_div}
use Prim.Native.Nat.{◌∣◌}
use Rattle.algebra.specs.LowestTerms.{Parts}
use Rattle.algebra.specs.Surd.{Surd}
use Rattle.algebra.specs.SurdSize.{larger_part}

-- (a + b√k) / q times a number that q divides
abbrev pub scaled : Parts → ℤ → Surd ℤ
scaled p common = record { a = p.a *ℤ int_div common p.q; b = p.b *ℤ int_div common p.q }

-- q divides the common denominator, which in lowest terms says that the product is whole, and both parts of it are at
-- most 2^22 in size
pub record IsScalable (p : Parts) (common : ℤ) : Type 0 where
  pub divides : unsigned_abs p.q ∣ unsigned_abs common
  pub within : larger_part (scaled p common) ≤ 2 ^ 22

-- the number with these parts is the whole number w
abbrev pub IsWhole : Parts → Surd ℤ → Type 0
IsWhole p w = p ≡ record { a = w.a; b = w.b; q = pos 1 }
