-- A whole number k between two neighbouring squares, s² < k < (s + 1)², is no square of a fraction: a² = k b² only at b = 0.
use mathlib.Core.Path.{◌≡◌, refl, sym, ap, ◌∙◌}
use mathlib.Core.List.{[], ◌∷◌}
use Prim.Native.Nat.{ℕ, zero, suc, ◌+◌, ◌-◌, ◌*◌, ◌<◌, ◌≤◌}
use native.Mathlib.Nat.{mul-le-mul, mul-le-mul_right}
use native.Mathlib.Omega.{arith}
use borrow.Author.Differences.{ints}
use lib.IntN.{ℤ, pos, negsuc, ◌+ℤ◌, ◌-ℤ◌, ◌*ℤ◌, neg_ℤ, nat_abs}
use Rattle.std.specs.declared.cmp.Ordering.TheVariants.{Equal}
use Rattle.algebra.specs.Order.{int_sign}
use Rattle.algebra.proofs.Integers.{integers}
use Rattle.algebra.proofs.IntegerReading.{reads_integers}
use Rattle.algebra.proofs.Identity.{ring_from, multiple, no_equation}
use Rattle.algebra.proofs.IntegerOrder.{out_equal}

-- (k b - s a)² = k (a - s b)² where a² = k b²
squares_step : (s k a b w z : ℤ) → w ≡ k *ℤ b -ℤ s *ℤ a → z ≡ a -ℤ s *ℤ b → a *ℤ a ≡ k *ℤ (b *ℤ b) → w *ℤ w ≡ k *ℤ (z *ℤ z)
squares_step s k a b w z w_is z_is squares =
    ring_from integers (s ∷ k ∷ a ∷ b ∷ w ∷ z ∷ [])
    (multiple (w +ℤ (k *ℤ b -ℤ s *ℤ a)) (search reads_integers depth 20) (search reads_integers depth 20) (search reads_integers depth 20) w_is
    (multiple (neg_ℤ (k *ℤ (z +ℤ (a -ℤ s *ℤ b)))) (search reads_integers depth 20) (search reads_integers depth 20) (search reads_integers depth 20) z_is
    (multiple (s *ℤ s -ℤ k) (search reads_integers depth 20) (search reads_integers depth 20) (search reads_integers depth 20) squares no_equation)))
    (search reads_integers depth 20) (search reads_integers depth 20) tt

step : (s k a b w z : ℕ) → a * a ≡ k * (b * b) → w + s * a ≡ k * b → s * b + z ≡ a → w * w ≡ k * (z * z)
step s k a b w z e f g =
    let w_is : pos w ≡ pos k *ℤ pos b -ℤ pos s *ℤ pos a = omega (arith, ints) in
    let z_is : pos z ≡ pos a -ℤ pos s *ℤ pos b = omega (arith, ints) in
    let r : pos w *ℤ pos w ≡ pos k *ℤ (pos z *ℤ pos z) = squares_step (pos s) (pos k) (pos a) (pos b) (pos w) (pos z) w_is z_is (ap pos e) in
    cc

module _ (s k : ℕ) (low : s * s < k) (high : k < (s + 1) * (s + 1)) where
  -- s b < a
  above : (a b : ℕ) → 0 < b → a * a ≡ k * (b * b) → a ≤ s * b → ⊥
  above a b p e h =
      let q : a * a ≤ (s * b) * (s * b) = mul-le-mul h h in
      let r : (s * s + 1) * (b * b) ≤ k * (b * b) = mul-le-mul_right (b * b) (omega arith) in
      let t : 1 * 1 ≤ b * b = mul-le-mul p p in
      omega (arith, q, r, t)

  -- a < (s + 1) b
  below : (a b : ℕ) → 0 < b → a * a ≡ k * (b * b) → (s + 1) * b ≤ a → ⊥
  below a b p e h =
      let q : ((s + 1) * b) * ((s + 1) * b) ≤ a * a = mul-le-mul h h in
      let r : (k + 1) * (b * b) ≤ ((s + 1) * (s + 1)) * (b * b) = mul-le-mul_right (b * b) (omega arith) in
      let t : 1 * 1 ≤ b * b = mul-le-mul p p in
      omega (arith, q, r, t)

  -- s a ≤ k b
  left_over : (a b : ℕ) → 0 < b → a * a ≡ k * (b * b) → k * b < s * a → ⊥
  left_over a b p e h =
      let q : (k * b + 1) * (k * b + 1) ≤ (s * a) * (s * a) = mul-le-mul (omega arith) (omega arith) in
      let r : (s * s + 1) * (k * (b * b)) ≤ k * (k * (b * b)) = mul-le-mul_right (k * (b * b)) (omega arith) in
      let t : (s * s) * (a * a) ≡ (s * s) * (k * (b * b)) = ap (λ (u : ℕ). (s * s) * u) e in
      omega (arith, q, r, t)

  descent : (fuel a b : ℕ) → b ≤ fuel → a * a ≡ k * (b * b) → b ≡ 0
  descent fuel a zero h e = refl
  descent zero a (suc b) h e = absurd (omega arith)
  descent (suc fuel) a (suc b) h e =
      let z : ℕ = a - s * suc b in
      let w : ℕ = k * suc b - s * a in
      let p : 0 < suc b = omega arith in
      let i1 : ¬ (a ≤ s * suc b) = above a (suc b) p e in
      let i2 : ¬ ((s + 1) * suc b ≤ a) = below a (suc b) p e in
      let i3 : ¬ (k * suc b < s * a) = left_over a (suc b) p e in
      let f : w + s * a ≡ k * suc b = omega arith in
      let g : s * suc b + z ≡ a = omega arith in
      let y : z ≤ fuel = omega arith in
      let x : z ≡ 0 = descent fuel w z y (step s k a (suc b) w z e f g) in
      absurd (omega arith)

  abs_square : (a : ℤ) → a *ℤ a ≡ pos (nat_abs a * nat_abs a)
  abs_square (pos n) = refl
  abs_square (negsuc n) = refl

  zero_of_abs : (b : ℤ) → nat_abs b ≡ 0 → b ≡ pos 0
  zero_of_abs (pos n) h = ap pos h
  zero_of_abs (negsuc n) h = absurd (omega arith)

  pub no_square : (a b : ℤ) → int_sign (a *ℤ a -ℤ pos k *ℤ (b *ℤ b)) ≡ Equal → b ≡ pos 0
  no_square a b h =
      let q = out_equal (a *ℤ a -ℤ pos k *ℤ (b *ℤ b)) h in
      let r : a *ℤ a ≡ pos k *ℤ (b *ℤ b) = omega (arith, ints, q) in
      let t : pos (nat_abs a * nat_abs a) ≡ pos k *ℤ pos (nat_abs b * nat_abs b) = sym (abs_square a) ∙ r ∙ ap (λ u. pos k *ℤ u) (abs_square b) in
      zero_of_abs b (descent (nat_abs b) (nat_abs a) (nat_abs b) (omega arith) (cc))
