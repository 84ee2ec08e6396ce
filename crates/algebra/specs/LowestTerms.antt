-- Numbers (a + b√k) / q in whole numbers, and their lowest terms.
use Rattle.std.specs.Prelude.{◌≡◌, ℕ, ℤ, pos, ◌*ℤ◌, ◌<ℤ◌, unsigned_abs}
use Prim.Native.Nat.{◌∣◌}

-- three whole numbers, which stand for (a + b√k) / q
pub record Parts : Type 0 where
  pub a : ℤ
  pub b : ℤ
  pub q : ℤ

-- q is above zero, and only 1 divides all three
pub record IsLowest (p : Parts) : Type 0 where
  pub positive : pos 0 <ℤ p.q
  pub coprime : (d : ℕ) → d ∣ unsigned_abs p.a → d ∣ unsigned_abs p.b → d ∣ unsigned_abs p.q → d ≡ 1

-- p and r stand for one number: the fractions a/q are equal, and the fractions b/q
pub record StandForOne (p r : Parts) : Type 0 where
  pub rational : p.a *ℤ r.q ≡ r.a *ℤ p.q
  pub irrational : p.b *ℤ r.q ≡ r.b *ℤ p.q

-- r is p brought to lowest terms
pub record IsReduced (p r : Parts) : Type 0 where
  pub lowest : IsLowest r
  pub same : StandForOne p r

-- g is the greatest common divisor of the three
pub record IsGcdOfParts (p : Parts) (g : ℕ) : Type 0 where
  pub divides_a : g ∣ unsigned_abs p.a
  pub divides_b : g ∣ unsigned_abs p.b
  pub divides_q : g ∣ unsigned_abs p.q
  pub greatest : (d : ℕ) → d ∣ unsigned_abs p.a → d ∣ unsigned_abs p.b → d ∣ unsigned_abs p.q → d ∣ g

-- a number over √k: in lowest terms, and rational where k is 1
pub record IsNumber (k : ℕ) (p : Parts) : Type 0 where
  pub lowest : IsLowest p
  pub rational : k ≡ 1 → p.b ≡ pos 0
