-- The steps of the descent for √2: when a pair settles, and how it turns.
use Prim.Native.Nat.{ℕ, zero, suc, ◌+◌, ◌*◌, ◌-◌, ◌<◌, ◌≤◌, ◌^◌}
use mathlib.Core.Bool.{Bool, true, false, not}
use mathlib.Core.List.{[], ◌∷◌}
use mathlib.Core.Path.{◌≡◌, refl, sym, ap, ap₂, subst, ◌∙◌}
use native.Mathlib.Omega.{arith}
use native.Mathlib.Nat.{mul-le-mul_right, pow-suc}
use borrow.Author.Differences.{ints}
use Rattle.std.proofs.Common.{add-one}
use lib.IntN.{ℤ, pos, ◌+ℤ◌, ◌-ℤ◌, ◌*ℤ◌, neg_ℤ}
use Rattle.std.specs.Prelude.{IsTrue}
use Rattle.std.specs.Ordering.{ordering_reverse, is_ge}
use Rattle.std.specs.declared.cmp.Ordering.{Ordering}
use Rattle.std.specs.declared.cmp.Ordering.TheVariants.{Less, Equal, Greater}
use Rattle.algebra.specs.Order.{int_sign}
use Rattle.algebra.proofs.Integers.{integers}
use Rattle.algebra.proofs.IntegerOrder.{in_greater}
use Rattle.algebra.proofs.Solvers.{reads_integers, ring, sign_from_multiple, known, no_sign, positive, negative, not_negative, given, number, negated, sum, product, square, sign_neg}
use Rattle.root_two.specs.Descent.{against_root, IsTurned}

pub not_below_zero : (n : ℕ) → IsTrue (is_ge (int_sign (pos n)))
not_below_zero zero = refl
not_below_zero (suc n) = refl

-- x² - 2y², where 2x - 3y is above zero: four times it is y² + 6y(2x - 3y) + (2x - 3y)²
greater_square : (x y : ℤ) → IsTrue (is_ge (int_sign y)) → int_sign (pos 2 *ℤ x -ℤ pos 3 *ℤ y) ≡ Greater
    → int_sign (x *ℤ x -ℤ pos 2 *ℤ (y *ℤ y)) ≡ Greater
greater_square x y hy hd =
    sign_from_multiple integers (x ∷ y ∷ [])
    (known not_negative (search reads_integers depth 20) hy (known positive (search reads_integers depth 20) hd no_sign))
    positive {w = pos 4} (search reads_integers depth 20) refl (search reads_integers depth 20)
    (sum (square (given 0)) (sum (product (number (pos 6)) (product (given 0) (given 1))) (square (given 1)))) tt tt

-- the same, where 5y - 4x isn't below zero: sixteen times it is -(7y² + (5y - 4x)(5y + 4x))
less_square : (x y : ℤ) → IsTrue (is_ge (int_sign x)) → int_sign y ≡ Greater → IsTrue (is_ge (int_sign (pos 5 *ℤ y -ℤ pos 4 *ℤ x)))
    → int_sign (x *ℤ x -ℤ pos 2 *ℤ (y *ℤ y)) ≡ Less
less_square x y hx hy hd =
    sign_from_multiple integers (x ∷ y ∷ [])
    (known not_negative (search reads_integers depth 20) hx (known positive (search reads_integers depth 20) hy (known not_negative (search reads_integers depth 20) hd no_sign)))
    negative {w = pos 16} (search reads_integers depth 20) refl (search reads_integers depth 20)
    (negated (sum (product (number (pos 7)) (square (given 1))) (product (given 2) (sum (product (number (pos 5)) (given 1)) (product (number (pos 4)) (given 0)))))) tt tt

pub settles_greater : (x y : ℕ) → 3 * y < 2 * x → against_root 2 x y ≡ Greater
settles_greater x y h = greater_square (pos x) (pos y) (not_below_zero y) (in_greater (pos 2 *ℤ pos x -ℤ pos 3 *ℤ pos y) (omega (arith, ints)))

pub settles_less : (x y : ℕ) → 0 < y → 4 * x ≤ 5 * y → against_root 2 x y ≡ Less
settles_less x y h le =
    let d : pos 5 *ℤ pos y -ℤ pos 4 *ℤ pos x ≡ pos (5 * y - 4 * x) = omega (arith, ints) in
    less_square (pos x) (pos y) (not_below_zero x) (in_greater (pos y) (omega arith))
    (subst (λ (z : ℤ). IsTrue (is_ge (int_sign z))) (sym d) (not_below_zero (5 * y - 4 * x)))

-- (s + 2r)² - 2(s + r)² is -(s² - 2r²)
turned_square : (s r : ℤ) → (s +ℤ pos 2 *ℤ r) *ℤ (s +ℤ pos 2 *ℤ r) -ℤ pos 2 *ℤ ((s +ℤ r) *ℤ (s +ℤ r)) ≡ neg_ℤ (s *ℤ s -ℤ pos 2 *ℤ (r *ℤ r))
turned_square s r = ring integers (s ∷ r ∷ []) (search reads_integers depth 40 fits 50000) (search reads_integers depth 40 fits 50000) tt

pub turns : (x y : ℕ) → 0 < x + y → y ≤ x → x < 2 * y → IsTurned 2 x y (2 * y - x) (x - y)
turns x y h le lt =
    let x_is : pos x ≡ pos (2 * y - x) +ℤ pos 2 *ℤ pos (x - y) = omega (arith, ints) in
    let y_is : pos y ≡ pos (2 * y - x) +ℤ pos (x - y) = omega (arith, ints) in
    record {
      reversed =
          ap₂ (λ m n. int_sign (m *ℤ m -ℤ pos 2 *ℤ (n *ℤ n))) x_is y_is
          ∙ ap int_sign (turned_square (pos (2 * y - x)) (pos (x - y)))
          ∙ sign_neg integers (pos (2 * y - x) *ℤ pos (2 * y - x) -ℤ pos 2 *ℤ (pos (x - y) *ℤ pos (x - y)));
      above_zero = omega arith;
      halved = omega arith;
    }

-- the answer, turned round or not
abbrev pub turned_by : Bool → Ordering → Ordering
turned_by true order = ordering_reverse order
turned_by false order = order

pub turned_again : (turned : Bool) (order : Ordering) → turned_by turned (ordering_reverse order) ≡ turned_by (not turned) order
turned_again true Less = refl
turned_again true Equal = refl
turned_again true Greater = refl
turned_again false order = refl

pub still_halved : (n m i limit : ℕ) → 2 * n ≤ m → m * 2 ^ i < limit → n * 2 ^ (i + 1) < limit
still_halved n m i limit h k =
    let doubled : 2 ^ (i + 1) ≡ 2 ^ i * 2 = rw add-one (pow-suc 2 i) in
    let product : n * 2 ^ (i + 1) ≡ n * (2 ^ i * 2) = ap (λ p. n * p) doubled in
    omega (arith, mul-le-mul_right (2 ^ i) h)
