-- The whole numbers of a quotient over √k, before the sign of the denominator is moved up.
use Rattle.std.specs.Prelude.{ℕ, ℤ, pos, ◌-ℤ◌, ◌*ℤ◌, List, [], ◌∷◌}
use Rattle.algebra.specs.LowestTerms.{Parts}
use Rattle.algebra.specs.NumberFormulas.{norm, by_conjugate}

-- the norm of the divisor, the product with its conjugate, and the three parts over one denominator
abbrev pub over_norm_form : ℕ → Parts → Parts → List ℤ
over_norm_form k x y =
    (y.a *ℤ y.a) ∷ (y.b *ℤ y.b) ∷ (pos k *ℤ (y.b *ℤ y.b)) ∷ norm k y
    ∷ (x.a *ℤ y.a) ∷ (x.b *ℤ y.b) ∷ (pos k *ℤ (x.b *ℤ y.b)) ∷ (x.a *ℤ y.a -ℤ pos k *ℤ (x.b *ℤ y.b))
    ∷ (x.b *ℤ y.a) ∷ (x.a *ℤ y.b) ∷ (x.b *ℤ y.a -ℤ x.a *ℤ y.b)
    ∷ (by_conjugate k x y).a ∷ (by_conjugate k x y).b ∷ (by_conjugate k x y).q ∷ []
