-- For one b there is at most one a.
use Rattle.std.proofs.Common.{◌≡◌, ℕ, ℤ, pos, ◌*◌, ◌^◌, ◌≤◌, ◌+ℤ◌, ◌-ℤ◌, ◌*ℤ◌, ◌<ℤ◌, ◌∙◌, ap, subst, arith, IsTrue}
use Rattle.std.specs.Ordering.{is_ge, is_le}
use Rattle.std.specs.declared.cmp.Ordering.TheVariants.{Greater}
use Rattle.std.proofs.lemmas.Int.{ints}
use mathlib.Core.List.{[], ◌∷◌}
use Rattle.algebra.specs.Surd.{Surd, IsNonsquare}
use Rattle.algebra.specs.Order.{int_sign}
use Rattle.algebra.specs.OrderedRing.{OrderedRing}
use Rattle.algebra.proofs.Surds.{surds}
use Rattle.algebra.proofs.Solvers.{sign_from, known, no_sign, not_negative, positive, sum, given, reads}
use Rattle.number_rules.specs.Rounded.{steps_of_one}
use Rattle.number_rules.specs.Rows.{IsNear, sign_over}
use Rattle.number_rules.proofs.Signs.{sign_above}

-- a number that isn't below zero, and one above zero
larger : {A : Type 0} (K : OrderedRing A) (x y : A) → IsTrue (is_ge (K.sign x)) → K.sign y ≡ Greater → K.sign (K.add x y) ≡ Greater
larger K x y hx hy = sign_from K (x ∷ y ∷ []) (known not_negative (search reads depth 20) hx (known positive (search reads depth 20) hy no_sign)) positive (search reads depth 20) (sum (given 0) (given 1)) tt tt

not_at_most : {k : ℕ} (h : IsNonsquare k) (x y d z : ℤ) → IsTrue (is_ge (sign_over k x y)) → int_sign d ≡ Greater → z ≡ x +ℤ d → IsTrue (is_le (sign_over k z y)) → ⊥
not_at_most {k} h x y d z low above e high =
    let K : OrderedRing (Surd ℤ) = surds k h in
    let sum_is : K.sign (K.add (record { a = x; b = y }) (K.int d)) ≡ Greater = larger K (record { a = x; b = y }) (K.int d) low (K.sign_int d ∙ above) in
    let same : sign_over k (x +ℤ d) (y +ℤ pos 0) ≡ Greater = sum_is in
    let there : sign_over k z y ≡ Greater = ap (λ t. sign_over k t y) e ∙ ap (λ t. sign_over k (x +ℤ d) t) (no_more y) ∙ same in
    let wrong : IsTrue (is_le Greater) = subst (λ s. IsTrue (is_le s)) there high in
    cc
  where
    no_more : (y : ℤ) → y ≡ y +ℤ pos 0
    no_more y = omega (arith, ints)

no_larger : (k n : ℕ) → IsNonsquare k → n ≤ 1000000 → (near a c b : ℤ) → IsNear k n near a b → IsNear k n near c b → ¬ (a <ℤ c)
no_larger k n h small near a c b na nc less =
    let d : ℤ = ((c *ℤ pos steps_of_one -ℤ pos n *ℤ near) -ℤ pos (n * 10 ^ 11)) -ℤ ((a *ℤ pos steps_of_one -ℤ pos n *ℤ near) +ℤ pos (n * 10 ^ 11)) in
    not_at_most h _ _ d _ na.not_below (sign_above d (omega (arith, ints, less, small))) (back _ _) nc.not_above
  where
    back : (x z : ℤ) → z ≡ x +ℤ (z -ℤ x)
    back x z = omega (arith, ints)

-- two that are near enough at one b are one
pub one_a : (k n : ℕ) → IsNonsquare k → n ≤ 1000000 → (near a c b : ℤ) → IsNear k n near a b → IsNear k n near c b → a ≡ c
one_a k n h small near a c b na nc =
    let up = no_larger k n h small near a c b na nc in
    let down = no_larger k n h small near c a b nc na in
    between a c up down
  where
    between : (a c : ℤ) → ¬ (a <ℤ c) → ¬ (c <ℤ a) → a ≡ c
    between a c up down = grind (arith, ints)
