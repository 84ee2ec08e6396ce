-- The greatest common divisor as a combination of the numbers that it divides, by Euclid's steps.
use Prim.Native.Nat.{ℕ, zero, suc, ◌/◌, ◌%◌, ◌<◌}
use mathlib.Core.Path.{◌≡◌, sym, ap, ap₂, ◌∙◌}
use mathlib.Core.List.{[], ◌∷◌}
use native.Mathlib.Omega.{arith}
use native.Mathlib.Nat.{div-add-mod, mod-lt}
use borrow.Author.Differences.{ints}
use lib.IntN.{ℤ, pos, negsuc, ◌+ℤ◌, ◌-ℤ◌, ◌*ℤ◌, neg_ℤ}
use Rattle.std.specs.Prelude.{unsigned_abs}
use Rattle.algebra.specs.LowestTerms.{Parts}
use Rattle.algebra.proofs.Integers.{integers}
use Rattle.algebra.proofs.Solvers.{reads_integers, ring, ring_from, multiple, no_equation}

-- g divides a and b, and is u a + v b
record Combination (a b : ℤ) : Type 0 where
  g : ℕ
  over_a : ℤ
  over_b : ℤ
  u : ℤ
  v : ℤ
  of_a : a ≡ over_a *ℤ pos g
  of_b : b ≡ over_b *ℤ pos g
  combined : pos g ≡ u *ℤ a +ℤ v *ℤ b

step_divides : (x y t g : ℤ) → (x *ℤ g) *ℤ t +ℤ y *ℤ g ≡ (x *ℤ t +ℤ y) *ℤ g
step_divides x y t g = ring integers (x ∷ y ∷ t ∷ g ∷ []) (search reads_integers depth 40 fits 50000) (search reads_integers depth 40 fits 50000) tt

step_combines : (a b r t u v g : ℤ) → a ≡ b *ℤ t +ℤ r → g ≡ u *ℤ b +ℤ v *ℤ r → g ≡ v *ℤ a +ℤ (u -ℤ v *ℤ t) *ℤ b
step_combines a b r t u v g e f =
    ring_from integers (a ∷ b ∷ r ∷ t ∷ u ∷ v ∷ g ∷ [])
    (multiple (pos 1) (search reads_integers depth 40 fits 50000) (search reads_integers depth 40 fits 50000) (search reads_integers depth 40 fits 50000) f
    (multiple (neg_ℤ v) (search reads_integers depth 40 fits 50000) (search reads_integers depth 40 fits 50000) (search reads_integers depth 40 fits 50000) e no_equation))
    (search reads_integers depth 40 fits 50000) (search reads_integers depth 40 fits 50000) tt

-- from b and the remainder r of a by b to a and b
one_step : (a b r t : ℤ) → a ≡ b *ℤ t +ℤ r → Combination b r → Combination a b
one_step a b r t e c = record {
  g = c.g;
  over_a = c.over_a *ℤ t +ℤ c.over_b;
  over_b = c.over_a;
  u = c.v;
  v = c.u -ℤ c.v *ℤ t;
  of_a = e ∙ ap₂ (λ x y. x *ℤ t +ℤ y) c.of_a c.of_b ∙ step_divides c.over_a c.over_b t (pos c.g);
  of_b = c.of_a;
  combined = step_combines a b r t c.u c.v (pos c.g) e c.combined;
}

by_division : (a b : ℕ) → pos a ≡ pos b *ℤ pos (a / b) +ℤ pos (a % b)
by_division a b = ap pos (sym (div-add-mod a b))

combine_within : (fuel a b : ℕ) → b < fuel → Combination (pos a) (pos b)
combine_within zero a b h = absurd (omega arith)
combine_within (suc fuel) a zero h = record {
  g = a;
  over_a = pos 1;
  over_b = pos 0;
  u = pos 1;
  v = pos 0;
  of_a = omega (arith, ints);
  of_b = omega (arith, ints);
  combined = omega (arith, ints);
}
combine_within (suc fuel) a (suc b) h =
    let below : a % suc b < fuel = omega (arith, mod-lt a {m = suc b} (omega arith)) in
    one_step (pos a) (pos (suc b)) (pos (a % suc b)) (pos (a / suc b)) (by_division a (suc b)) (combine_within fuel (suc b) (a % suc b) below)

combine : (a b : ℕ) → Combination (pos a) (pos b)
combine a b = combine_within (suc b) a b (omega arith)

-- a whole number is its size times 1 or -1
pub turned : (a : ℤ) → (s : ℤ) × (a ≡ s *ℤ pos (unsigned_abs a)) × (pos (unsigned_abs a) ≡ s *ℤ a)
turned (pos n) = (pos 1, omega (arith, ints), omega (arith, ints))
turned (negsuc n) = (negsuc 0, omega (arith, ints), omega (arith, ints))

combine_any : (a b : ℤ) → Combination a b
combine_any a b =
    let s = turned a in
    let t = turned b in
    let c = combine (unsigned_abs a) (unsigned_abs b) in
    record {
      g = c.g;
      over_a = s.0 *ℤ c.over_a;
      over_b = t.0 *ℤ c.over_b;
      u = c.u *ℤ s.0;
      v = c.v *ℤ t.0;
      of_a = s.1 ∙ ap (λ x. s.0 *ℤ x) c.of_a ∙ sym (integers.mul_assoc s.0 c.over_a (pos c.g));
      of_b = t.1 ∙ ap (λ x. t.0 *ℤ x) c.of_b ∙ sym (integers.mul_assoc t.0 c.over_b (pos c.g));
      combined = c.combined ∙ ap₂ (λ x y. c.u *ℤ x +ℤ c.v *ℤ y) s.2 t.2
          ∙ ap₂ (λ x y. x +ℤ y) (sym (integers.mul_assoc c.u s.0 a)) (sym (integers.mul_assoc c.v t.0 b));
    }

-- the greatest common divisor g of three, as a combination of them; they are g times the rest
pub record CommonFactor (p : Parts) : Type 0 where
  pub g : ℕ
  pub rest : Parts
  pub u : ℤ
  pub v : ℤ
  pub w : ℤ
  pub of_a : p.a ≡ rest.a *ℤ pos g
  pub of_b : p.b ≡ rest.b *ℤ pos g
  pub of_q : p.q ≡ rest.q *ℤ pos g
  pub combined : pos g ≡ u *ℤ p.a +ℤ v *ℤ p.b +ℤ w *ℤ p.q

factor_combines : (a b q u v w x : ℤ) → w *ℤ (u *ℤ a +ℤ v *ℤ b) +ℤ x *ℤ q ≡ w *ℤ u *ℤ a +ℤ w *ℤ v *ℤ b +ℤ x *ℤ q
factor_combines a b q u v w x =
    ring integers (a ∷ b ∷ q ∷ u ∷ v ∷ w ∷ x ∷ []) (search reads_integers depth 40 fits 50000) (search reads_integers depth 40 fits 50000) tt

pub common_factor : (p : Parts) → CommonFactor p
common_factor p =
    let c = combine_any p.a p.b in
    let d = combine_any (pos c.g) p.q in
    record {
      g = d.g;
      rest = record { a = c.over_a *ℤ d.over_a; b = c.over_b *ℤ d.over_a; q = d.over_b };
      u = d.u *ℤ c.u;
      v = d.u *ℤ c.v;
      w = d.v;
      of_a = c.of_a ∙ ap (λ x. c.over_a *ℤ x) d.of_a ∙ sym (integers.mul_assoc c.over_a d.over_a (pos d.g));
      of_b = c.of_b ∙ ap (λ x. c.over_b *ℤ x) d.of_a ∙ sym (integers.mul_assoc c.over_b d.over_a (pos d.g));
      of_q = d.of_b;
      combined = d.combined ∙ ap (λ x. d.u *ℤ x +ℤ d.v *ℤ p.q) c.combined
          ∙ factor_combines p.a p.b p.q c.u c.v d.u d.v;
    }
