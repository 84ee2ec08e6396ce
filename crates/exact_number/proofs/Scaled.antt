-- Numbers that are whole, as they add and multiply, and numbers times a common denominator.
use Prim.Native.Nat.{ℕ}
use Rattle.std.proofs.Common.{◌≡◌, ap₂, subst, [], ◌∷◌, arith}
use Rattle.std.proofs.lemmas.Int.{ints}
use Rattle.std.proofs.Math.Nat.{dvd-one}
use Rattle.std.specs.Prelude.{int_div}
use lib.IntN.{ℤ, pos, ◌+ℤ◌, ◌*ℤ◌}
use lib.Signed.{◌<ℤ◌}
use Rattle.algebra.specs.Integers.{int_ops}
use Rattle.algebra.specs.LowestTerms.{Parts, IsReduced}
use Rattle.algebra.specs.NumberFormulas.{whole_parts, sum, difference, product}
use Rattle.algebra.specs.NumberField.{NumberField}
use Rattle.algebra.specs.Surd.{Surd, surd_add, surd_sub, surd_mul}
use Rattle.algebra.proofs.Integers.{integers}
use Rattle.algebra.proofs.Solvers.{reads_integers, ring_from, multiple, no_equation}
use Rattle.algebra.proofs.LowestByGcd.{reduced_once}
use Rattle.exact_number.specs.Scaling.{IsWhole, IsScalable, scaled}
use Rattle.exact_number.proofs.ExactParts.{exact}

-- what a multiple of its denominator is reduced to
pub whole_reduced : (p r : Parts) (w : Surd ℤ) → pos 0 <ℤ p.q → p.a ≡ w.a *ℤ p.q → p.b ≡ w.b *ℤ p.q → IsReduced p r → IsWhole r w
whole_reduced p r w h in_a in_b e =
    let t : Parts = record { a = w.a; b = w.b; q = pos 1 } in
    reduced_once p r t h e (record {
      lowest = record { positive = omega (arith, ints); coprime = λ d a b q. dvd-one.0 q };
      same = record { rational = omega (arith, ints, in_a); irrational = omega (arith, ints, in_b) };
    })

module _ {C : Type 0} (k : ℕ) (parts : C → Parts) (N : NumberField k parts) (x y : C) (v w : Surd ℤ) (x_is : IsWhole (parts x) v) (y_is : IsWhole (parts y) w) where
  pub whole_sum : IsWhole (parts (N.add x y)) (surd_add int_ops (pos k) v w)
  whole_sum =
      whole_reduced (sum (record { a = v.a; b = v.b; q = pos 1 }) (record { a = w.a; b = w.b; q = pos 1 })) (parts (N.add x y)) (surd_add int_ops (pos k) v w) (omega (arith, ints))
      (omega (arith, ints)) (omega (arith, ints)) (subst (λ (p : Parts). IsReduced p (parts (N.add x y))) (ap₂ sum x_is y_is) (N.sum_is x y))

  pub whole_difference : IsWhole (parts (N.sub x y)) (surd_sub int_ops (pos k) v w)
  whole_difference =
      whole_reduced (difference (record { a = v.a; b = v.b; q = pos 1 }) (record { a = w.a; b = w.b; q = pos 1 })) (parts (N.sub x y)) (surd_sub int_ops (pos k) v w) (omega (arith, ints))
      (omega (arith, ints)) (omega (arith, ints)) (subst (λ (p : Parts). IsReduced p (parts (N.sub x y))) (ap₂ difference x_is y_is) (N.difference_is x y))

  pub whole_product : IsWhole (parts (N.mul x y)) (surd_mul int_ops (pos k) v w)
  whole_product =
      whole_reduced (product k (record { a = v.a; b = v.b; q = pos 1 }) (record { a = w.a; b = w.b; q = pos 1 })) (parts (N.mul x y)) (surd_mul int_ops (pos k) v w) (omega (arith, ints))
      (omega (arith, ints)) (omega (arith, ints, integers.mul_comm w.a v.b)) (subst (λ (p : Parts). IsReduced p (parts (N.mul x y))) (ap₂ (product k) x_is y_is) (N.product_is x y))

-- a number times a common denominator
times_numerator : (k a b q c f : ℤ) → c ≡ f *ℤ q → a *ℤ c +ℤ k *ℤ (b *ℤ pos 0) ≡ (a *ℤ f) *ℤ (q *ℤ pos 1)
times_numerator k a b q c f e =
    ring_from integers (k ∷ a ∷ b ∷ q ∷ c ∷ f ∷ [])
    (multiple a (search reads_integers depth 40 fits 50000) (search reads_integers depth 40 fits 50000) (search reads_integers depth 40 fits 50000) e no_equation)
    (search reads_integers depth 40 fits 50000) (search reads_integers depth 40 fits 50000) tt

times_irrational : (a b q c f : ℤ) → c ≡ f *ℤ q → a *ℤ pos 0 +ℤ c *ℤ b ≡ (b *ℤ f) *ℤ (q *ℤ pos 1)
times_irrational a b q c f e =
    ring_from integers (a ∷ b ∷ q ∷ c ∷ f ∷ [])
    (multiple b (search reads_integers depth 40 fits 50000) (search reads_integers depth 40 fits 50000) (search reads_integers depth 40 fits 50000) e no_equation)
    (search reads_integers depth 40 fits 50000) (search reads_integers depth 40 fits 50000) tt

pub whole_scaled : {C : Type 0} (k : ℕ) (parts : C → Parts) (N : NumberField k parts) (x : C) (common : ℤ) → pos 0 <ℤ (parts x).q → IsScalable (parts x) common
    → IsWhole (parts (N.mul x (N.int common))) (scaled (parts x) common)
whole_scaled k parts N x common h s =
    let p : Parts = parts x in
    let c_is : common ≡ int_div common p.q *ℤ p.q = exact common p.q h s.divides in
    whole_reduced (product k p (whole_parts common)) (parts (N.mul x (N.int common))) (scaled p common) (omega (arith, ints, h))
    (times_numerator (pos k) p.a p.b p.q common (int_div common p.q) c_is) (times_irrational p.a p.b p.q common (int_div common p.q) c_is)
    (subst (λ (t : Parts). IsReduced (product k p t) (parts (N.mul x (N.int common)))) (N.whole_is common) (N.product_is x (N.int common)))
