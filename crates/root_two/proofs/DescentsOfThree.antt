-- The steps of the descent for √3, by 5+3√3 of norm -2: when a pair settles, and how it turns.
use Prim.Native.Nat.{ℕ, ◌+◌, ◌*◌, ◌<◌}
use mathlib.Core.List.{[], ◌∷◌}
use mathlib.Core.Path.{◌≡◌, refl, sym, ap, ap₂, ◌∙◌}
use native.Mathlib.Omega.{arith}
use borrow.Author.Differences.{ints}
use lib.IntN.{ℤ, pos, ◌-ℤ◌, ◌*ℤ◌, neg_ℤ}
use Rattle.std.specs.Prelude.{IsTrue}
use Rattle.std.specs.Ordering.{is_ge, ordering_reverse}
use Rattle.std.specs.declared.cmp.Ordering.{Ordering}
use Rattle.std.specs.declared.cmp.Ordering.TheVariants.{Less, Equal, Greater}
use Rattle.algebra.specs.Order.{int_sign}
use Rattle.algebra.proofs.Integers.{integers}
use Rattle.algebra.proofs.IntegerOrder.{in_greater}
use Rattle.algebra.proofs.Solvers.{reads_integers, ring, sign_from_multiple, sign_of_multiple, known, no_sign, positive, negative, not_negative, given, number, negated, sum, product, square, sign_neg}
use Rattle.root_two.specs.Descent.{against_root, IsTurned}
use Rattle.root_two.proofs.Descents.{not_below_zero}

-- x² - 3y², where 5x - 9y is above zero: 25 times it is (5x - 9y)² + 18y(5x - 9y) + 6y²
greater_square : (x y : ℤ) → IsTrue (is_ge (int_sign y)) → int_sign (pos 5 *ℤ x -ℤ pos 9 *ℤ y) ≡ Greater → int_sign (x *ℤ x -ℤ pos 3 *ℤ (y *ℤ y)) ≡ Greater
greater_square x y hy hd =
    sign_from_multiple integers (x ∷ y ∷ [])
    (known not_negative (search reads_integers depth 20) hy (known positive (search reads_integers depth 20) hd no_sign))
    positive {w = pos 25} (search reads_integers depth 20) refl (search reads_integers depth 20)
    (sum (square (given 1)) (sum (product (number (pos 18)) (product (given 0) (given 1))) (product (number (pos 6)) (square (given 0))))) tt tt

-- the same, where 5y - 3x is above zero: nine times it is -(2y² + (5y - 3x)(5y + 3x))
less_square : (x y : ℤ) → IsTrue (is_ge (int_sign x)) → int_sign y ≡ Greater → int_sign (pos 5 *ℤ y -ℤ pos 3 *ℤ x) ≡ Greater → int_sign (x *ℤ x -ℤ pos 3 *ℤ (y *ℤ y)) ≡ Less
less_square x y hx hy hd =
    sign_from_multiple integers (x ∷ y ∷ [])
    (known not_negative (search reads_integers depth 20) hx (known positive (search reads_integers depth 20) hy (known positive (search reads_integers depth 20) hd no_sign)))
    negative {w = pos 9} (search reads_integers depth 20) refl (search reads_integers depth 20)
    (negated (sum (product (number (pos 2)) (square (given 1))) (product (given 2) (sum (product (number (pos 5)) (given 1)) (product (number (pos 3)) (given 0)))))) tt tt

pub three_settles_greater : (x y : ℕ) → 9 * y < 5 * x → against_root 3 x y ≡ Greater
three_settles_greater x y h = greater_square (pos x) (pos y) (not_below_zero y) (in_greater (pos 5 *ℤ pos x -ℤ pos 9 *ℤ pos y) (omega (arith, ints)))

pub three_settles_less : (x y : ℕ) → 3 * x < 5 * y → against_root 3 x y ≡ Less
three_settles_less x y h =
    less_square (pos x) (pos y) (not_below_zero x) (in_greater (pos y) (omega arith)) (in_greater (pos 5 *ℤ pos y -ℤ pos 3 *ℤ pos x) (omega (arith, ints)))

-- (9y - 5x)² - 3(3x - 5y)² is -2(x² - 3y²)
turned_square : (x y : ℤ) → (pos 9 *ℤ y -ℤ pos 5 *ℤ x) *ℤ (pos 9 *ℤ y -ℤ pos 5 *ℤ x) -ℤ pos 3 *ℤ ((pos 3 *ℤ x -ℤ pos 5 *ℤ y) *ℤ (pos 3 *ℤ x -ℤ pos 5 *ℤ y)) ≡ neg_ℤ (pos 2 *ℤ (x *ℤ x -ℤ pos 3 *ℤ (y *ℤ y)))
turned_square x y = ring integers (x ∷ y ∷ []) (search reads_integers depth 40 fits 50000) (search reads_integers depth 40 fits 50000) tt

turned_twice : (o : Ordering) → o ≡ ordering_reverse (ordering_reverse o)
turned_twice Less = refl
turned_twice Equal = refl
turned_twice Greater = refl

pub three_turns : (x y s t : ℕ) → 0 < x + y → s + 5 * x ≡ 9 * y → t + 5 * y ≡ 3 * x → IsTurned 3 x y s t
three_turns x y s t h s_is t_is =
    let in_s : pos s ≡ pos 9 *ℤ pos y -ℤ pos 5 *ℤ pos x = omega (arith, ints) in
    let in_t : pos t ≡ pos 3 *ℤ pos x -ℤ pos 5 *ℤ pos y = omega (arith, ints) in
    let n : ℤ = pos x *ℤ pos x -ℤ pos 3 *ℤ (pos y *ℤ pos y) in
    let reversed : against_root 3 s t ≡ ordering_reverse (against_root 3 x y)
    = ap₂ (λ m k. int_sign (m *ℤ m -ℤ pos 3 *ℤ (k *ℤ k))) in_s in_t ∙ ap int_sign (turned_square (pos x) (pos y)) ∙ sign_neg integers (pos 2 *ℤ n) ∙ ap ordering_reverse (sign_of_multiple integers (pos 2) n refl) in
    record { reversed = turned_twice (against_root 3 x y) ∙ ap ordering_reverse (sym reversed); above_zero = omega arith; halved = omega arith }
