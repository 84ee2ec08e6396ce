-- For k = 1 the quotient by the conjugate and the quotient of two rationals are one number.
use mathlib.Core.Path.{◌≡◌, refl}
use mathlib.Core.List.{[], ◌∷◌}
use lib.IntN.{ℤ, pos, ◌-ℤ◌, ◌*ℤ◌, neg_ℤ}
use Rattle.std.specs.declared.cmp.Ordering.TheVariants.{Equal}
use Rattle.algebra.specs.Order.{int_sign}
use Rattle.algebra.specs.LowestTerms.{Parts, StandForOne, IsReduced, IsNumber}
use Rattle.algebra.specs.NumberFormulas.{by_conjugate, quotient, rational_quotient, parts_sign}
use Rattle.algebra.proofs.Integers.{integers}
use Rattle.algebra.proofs.Solvers.{reads_integers, ring_from, multiple, no_equation}
use Rattle.algebra.proofs.LowestByGcd.{through}
use Rattle.algebra.proofs.NumberParts.{both_upright, quotient_positive}

conjugate_ratio : (a b q c d r : ℤ) → b ≡ pos 0 → d ≡ pos 0
    → ((a *ℤ c -ℤ pos 1 *ℤ (b *ℤ d)) *ℤ r) *ℤ (q *ℤ c) ≡ (a *ℤ r) *ℤ (q *ℤ (c *ℤ c -ℤ pos 1 *ℤ (d *ℤ d)))
conjugate_ratio a b q c d r e f =
    ring_from integers (a ∷ b ∷ q ∷ c ∷ d ∷ r ∷ [])
    (multiple (neg_ℤ (d *ℤ (r *ℤ (q *ℤ c)))) (search reads_integers depth 40 fits 50000) (search reads_integers depth 40 fits 50000) (search reads_integers depth 40 fits 50000) e
    (multiple (a *ℤ (r *ℤ (q *ℤ d))) (search reads_integers depth 40 fits 50000) (search reads_integers depth 40 fits 50000) (search reads_integers depth 40 fits 50000) f no_equation))
    (search reads_integers depth 40 fits 50000) (search reads_integers depth 40 fits 50000) tt

no_root : (a b q c d r : ℤ) → b ≡ pos 0 → d ≡ pos 0
    → ((b *ℤ c -ℤ a *ℤ d) *ℤ r) *ℤ (q *ℤ c) ≡ pos 0 *ℤ (q *ℤ (c *ℤ c -ℤ pos 1 *ℤ (d *ℤ d)))
no_root a b q c d r e f =
    ring_from integers (a ∷ b ∷ q ∷ c ∷ d ∷ r ∷ [])
    (multiple (c *ℤ (r *ℤ (q *ℤ c))) (search reads_integers depth 40 fits 50000) (search reads_integers depth 40 fits 50000) (search reads_integers depth 40 fits 50000) e
    (multiple (neg_ℤ (a *ℤ (r *ℤ (q *ℤ c)))) (search reads_integers depth 40 fits 50000) (search reads_integers depth 40 fits 50000) (search reads_integers depth 40 fits 50000) f no_equation))
    (search reads_integers depth 40 fits 50000) (search reads_integers depth 40 fits 50000) tt

same_quotient : (p r : Parts) → IsNumber 1 p → IsNumber 1 r → StandForOne (quotient 1 p r) (rational_quotient p r)
same_quotient p r x y =
    let f : Parts = by_conjugate 1 p r in
    let g : Parts = record { a = p.a *ℤ r.q; b = pos 0; q = p.q *ℤ r.a } in
    both_upright (int_sign f.q) (int_sign g.q) f g (record {
      rational = conjugate_ratio p.a p.b p.q r.a r.b r.q (x.rational refl) (y.rational refl);
      irrational = no_root p.a p.b p.q r.a r.b r.q (x.rational refl) (y.rational refl);
    })

pub rational_quotient_is : (p r s : Parts) → IsNumber 1 p → IsNumber 1 r → ¬ (parts_sign 1 r ≡ Equal) → IsReduced (quotient 1 p r) s → IsReduced (rational_quotient p r) s
rational_quotient_is p r s x y n e =
    let one = same_quotient p r x y in
    let q : Parts = quotient 1 p r in
    let t : Parts = rational_quotient p r in
    let h = quotient_positive 1 p r x.lowest.positive n in
    record {
      lowest = e.lowest;
      same = record {
        rational = through q.a q.q t.a t.q s.a s.q h one.rational e.same.rational;
        irrational = through q.b q.q t.b t.q s.b s.q h one.irrational e.same.irrational;
      };
    }
