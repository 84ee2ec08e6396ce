-- The formulas by which numbers (a + b√k) / q are computed, on their three whole numbers, before lowest terms.
use Rattle.std.specs.Prelude.{ℕ, ℤ, pos, ◌+ℤ◌, ◌-ℤ◌, ◌*ℤ◌, neg_ℤ}
use Rattle.std.specs.declared.cmp.Ordering.{Ordering}
use Rattle.std.specs.declared.cmp.Ordering.TheVariants.{Less, Equal, Greater}
use Rattle.algebra.specs.Order.{int_sign}
use Rattle.algebra.specs.Integers.{int_ops}
use Rattle.algebra.specs.Surd.{surd_sign}
use Rattle.algebra.specs.LowestTerms.{Parts}

-- the whole number n
abbrev pub whole_parts : ℤ → Parts
whole_parts n = record { a = n; b = pos 0; q = pos 1 }

-- both sides of the fraction times -1
abbrev pub negated : Parts → Parts
negated p = record { a = neg_ℤ p.a; b = neg_ℤ p.b; q = neg_ℤ p.q }

abbrev pub opposite : Parts → Parts
opposite p = record { a = neg_ℤ p.a; b = neg_ℤ p.b; q = p.q }

abbrev pub sum : Parts → Parts → Parts
sum p r = record { a = p.a *ℤ r.q +ℤ r.a *ℤ p.q; b = p.b *ℤ r.q +ℤ r.b *ℤ p.q; q = p.q *ℤ r.q }

abbrev pub difference : Parts → Parts → Parts
difference p r = record { a = p.a *ℤ r.q -ℤ r.a *ℤ p.q; b = p.b *ℤ r.q -ℤ r.b *ℤ p.q; q = p.q *ℤ r.q }

-- the fraction with the sign of its denominator moved up
abbrev pub upright_at : Ordering → Parts → Parts
upright_at Less p = negated p
upright_at Equal p = p
upright_at Greater p = p

abbrev pub upright : Parts → Parts
upright p = upright_at (int_sign p.q) p

module _ (k : ℕ) where
  abbrev pub product : Parts → Parts → Parts
  product p r = record { a = p.a *ℤ r.a +ℤ pos k *ℤ (p.b *ℤ r.b); b = p.a *ℤ r.b +ℤ r.a *ℤ p.b; q = p.q *ℤ r.q }

  -- a² - k b²
  abbrev pub norm : Parts → ℤ
  norm p = p.a *ℤ p.a -ℤ pos k *ℤ (p.b *ℤ p.b)

  -- p times the conjugate a - b√k of r, over the norm of r
  abbrev pub by_conjugate : Parts → Parts → Parts
  by_conjugate p r = record {
    a = (p.a *ℤ r.a -ℤ pos k *ℤ (p.b *ℤ r.b)) *ℤ r.q;
    b = (p.b *ℤ r.a -ℤ p.a *ℤ r.b) *ℤ r.q;
    q = p.q *ℤ norm r;
  }

  abbrev pub quotient : Parts → Parts → Parts
  quotient p r = upright (by_conjugate p r)

  -- the sign of a + b√k
  abbrev pub parts_sign : Parts → Ordering
  parts_sign p = surd_sign int_ops (pos k) int_sign (record { a = p.a; b = p.b })

-- the quotient of two rationals, for k = 1
abbrev pub rational_quotient : Parts → Parts → Parts
rational_quotient p r = upright (record { a = p.a *ℤ r.q; b = pos 0; q = p.q *ℤ r.a })
