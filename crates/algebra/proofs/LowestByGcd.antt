-- Lowest terms by the greatest common divisor, and that they are the only ones.
use Prim.Native.Nat.{ℕ, ◌*◌, ◌<◌, ◌∣◌}
use mathlib.Core.Path.{◌≡◌, sym, ap, subst, ◌∙◌}
use mathlib.Core.List.{[], ◌∷◌}
use native.Mathlib.Omega.{arith}
use native.Mathlib.Nat.{dvd_trans, dvd-one, mul-dvd-mul_right, dvd_of_mul-dvd-mul_right, one-mul}
use borrow.Author.Differences.{ints}
use lib.IntN.{ℤ, pos, ◌*ℤ◌, neg_ℤ}
use lib.Signed.{◌<ℤ◌}
use Rattle.std.specs.Prelude.{unsigned_abs}
use Rattle.std.specs.Int.{IsGcd}
use Rattle.std.proofs.lemmas.Int.{unsigned_abs-mul}
use Rattle.algebra.specs.LowestTerms.{Parts, IsReduced, IsGcdOfParts}
use Rattle.algebra.proofs.Integers.{integers}
use Rattle.algebra.proofs.Solvers.{reads_integers, ring_from, multiple, no_equation}
use Rattle.algebra.proofs.Fractions.{cancel_positive}
use Rattle.algebra.proofs.LowestForms.{left_positive, right_positive, proportion, greater_of_positive, lowest_once}

-- the greatest common divisor of three, by two of two
pub gcd_of_parts : (p : Parts) (h g : ℕ) → IsGcd (unsigned_abs p.a) (unsigned_abs p.b) h → IsGcd h (unsigned_abs p.q) g → IsGcdOfParts p g
gcd_of_parts p h g e f = record {
  divides_a = dvd_trans g f.0 e.0;
  divides_b = dvd_trans g f.0 e.1;
  divides_q = f.1;
  greatest = λ d a b q. f.2 d (e.2 d a b) q;
}

-- a common divisor of x and the like, times g, is one of x g and the like
times_divides : (d g : ℕ) (a x : ℤ) → a ≡ x *ℤ pos g → d ∣ unsigned_abs x → d * g ∣ unsigned_abs a
times_divides d g a x e h = subst (λ (n : ℕ). d * g ∣ n) (sym (ap unsigned_abs e ∙ unsigned_abs-mul x (pos g))) (mul-dvd-mul_right d h g)

-- three numbers divided by their greatest common divisor are in lowest terms
pub reduced_by_gcd : (p r : Parts) (g : ℕ) → pos 0 <ℤ p.q → IsGcdOfParts p g → p.a ≡ r.a *ℤ pos g → p.b ≡ r.b *ℤ pos g → p.q ≡ r.q *ℤ pos g → IsReduced p r
reduced_by_gcd p r g h c in_a in_b in_q =
    let g_positive : 0 < g = let z : pos 0 <ℤ pos g = right_positive p.q r.q g h in_q in omega (arith, ints) in
    record {
      lowest = record {
        positive = left_positive p.q r.q g h in_q;
        coprime = λ d a b q.
            let all : d * g ∣ g = c.greatest (d * g) (times_divides d g p.a r.a in_a a) (times_divides d g p.b r.b in_b b) (times_divides d g p.q r.q in_q q) in
            dvd-one.0 (dvd_of_mul-dvd-mul_right d g_positive (subst (λ (n : ℕ). d * g ∣ n) (sym (one-mul g)) all));
      };
      same = record { rational = proportion p.a p.q r.a r.q (pos g) in_a in_q; irrational = proportion p.b p.q r.b r.q (pos g) in_b in_q };
    }

pub through : (a q b r c s : ℤ) → pos 0 <ℤ q → a *ℤ r ≡ b *ℤ q → a *ℤ s ≡ c *ℤ q → b *ℤ s ≡ c *ℤ r
through a q b r c s h e f =
    cancel_positive integers q (b *ℤ s) (c *ℤ r) (greater_of_positive q h)
    (ring_from integers (a ∷ q ∷ b ∷ r ∷ c ∷ s ∷ [])
    (multiple (neg_ℤ s) (search reads_integers depth 40 fits 50000) (search reads_integers depth 40 fits 50000) (search reads_integers depth 40 fits 50000) e
    (multiple r (search reads_integers depth 40 fits 50000) (search reads_integers depth 40 fits 50000) (search reads_integers depth 40 fits 50000) f no_equation))
    (search reads_integers depth 40 fits 50000) (search reads_integers depth 40 fits 50000) tt)

-- numbers are brought to lowest terms in one way
pub reduced_once : (p r s : Parts) → pos 0 <ℤ p.q → IsReduced p r → IsReduced p s → r ≡ s
reduced_once p r s h e f =
    lowest_once r s e.lowest f.lowest (record {
      rational = through p.a p.q r.a r.q s.a s.q h e.same.rational f.same.rational;
      irrational = through p.b p.q r.b r.q s.b s.q h e.same.irrational f.same.irrational;
    })
