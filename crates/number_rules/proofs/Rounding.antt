-- Rounding half up, by what is cut off.
use Rattle.std.proofs.Common.{◌≡◌, ℕ, ℤ, pos, ◌+◌, ◌*◌, ◌<◌, ◌≤◌, ◌+ℤ◌, ◌*ℤ◌, ◌≤ℤ◌, ◌<ℤ◌, refl, sym, ◌∙◌, ap, subst, arith, Bool, true, false, IsTrue, add-mul, one-mul, zero-mul, mul-pos, mul_assoc, mul-lt-mul_of_pos_right}
use Rattle.std.specs.Prelude.{neg_ℤ, ◌↔◌, unsigned_abs}
use Rattle.std.proofs.lemmas.Int.{ints}
use Rattle.algebra.proofs.Solvers.{ring, reads_integers}
use Rattle.algebra.proofs.Integers.{integers}
use mathlib.Core.List.{[], ◌∷◌}
use Rattle.number_rules.specs.Rounded.{IsRounded}
use Rattle.number_rules.specs.Value.{with_sign}
use Rattle.number_rules.specs.Cut.{IsTail, Stands, is_exact, rounded}
use Rattle.number_rules.specs.declared.cut.Tail.{Tail}
use Rattle.number_rules.specs.declared.cut.Tail.TheVariants.{Nothing, Zero, BelowHalf, Half, AboveHalf}

-- below zero, in terms of sizes
neg_product : (x y : ℤ) → neg_ℤ x *ℤ y ≡ neg_ℤ (x *ℤ y)
neg_product x y = ring integers (x ∷ y ∷ []) (search reads_integers depth 20) (search reads_integers depth 20) tt

neg_times : (r d : ℕ) → neg_ℤ (pos r) *ℤ pos d ≡ neg_ℤ (pos (r * d))
neg_times r d = neg_product (pos r) (pos d)

below : (n d r x : ℕ) → r * d ≡ x → 2 * n ≤ 2 * x + d → 2 * x < 2 * n + d → IsRounded (neg_ℤ (pos n)) d (neg_ℤ (pos r))
below n d r x e low high =
    subst (λ y. ((pos 2 *ℤ y) ≤ℤ (pos 2 *ℤ neg_ℤ (pos n) +ℤ pos d)) × ((pos 2 *ℤ neg_ℤ (pos n) +ℤ pos d) <ℤ (pos 2 *ℤ y +ℤ pos (2 * d)))) (sym (neg_times r d ∙ ap (λ y. neg_ℤ (pos y)) e))
    (omega (arith, ints, low), omega (arith, ints, high))

above : (n d r x : ℕ) → r * d ≡ x → 2 * x ≤ 2 * n + d → 2 * n + d < 2 * x + 2 * d → IsRounded (pos n) d (pos r)
above n d r x e low high = (omega (arith, ints, e, low), omega (arith, ints, e, high))

next_times : (s d : ℕ) → (s + 1) * d ≡ s * d + d
next_times s d = add-mul s 1 d ∙ ap (λ y. s * d + y) (one-mul d)

pub stands : (rest d : ℕ) (tail : Tail) → IsTail rest d tail → Stands rest d tail
stands rest d Nothing t = (omega (arith, t.1), t.0)
stands rest d Zero t = (omega (arith, t.1, t.2), t.3)
stands rest d BelowHalf t = (t.2, omega (arith, t.1, t.3))
stands rest d Half t = (omega (arith, t.2, t.3), omega (arith, t.1, t.3))
stands rest d AboveHalf t = (t.3, omega (arith, t.1, t.2))

-- over a common factor
pub stands_times : (rest d f : ℕ) (tail : Tail) → 0 < f → Stands rest d tail → Stands (rest * f) (d * f) tail
stands_times rest d f Nothing h t = (mul-pos t.0 h, ap (λ r. r * f) t.1 ∙ zero-mul f)
stands_times rest d f Zero h t = (mul-pos t.0 h, ap (λ r. r * f) t.1 ∙ zero-mul f)
stands_times rest d f BelowHalf h t = (mul-pos t.0 h, subst (λ m. m < d * f) (mul_assoc 2 rest f) (mul-lt-mul_of_pos_right t.1 h))
stands_times rest d f Half h t = (mul-pos t.0 h, sym (mul_assoc 2 rest f) ∙ ap (λ m. m * f) t.1)
stands_times rest d f AboveHalf h t = (mul-lt-mul_of_pos_right t.0 h, subst (λ m. d * f < m) (mul_assoc 2 rest f) (mul-lt-mul_of_pos_right t.1 h))

-- a number of steps with what is cut off, rounded
pub is_rounded : (n d s rest : ℕ) (tail : Tail) (negative : Bool) → n ≡ s * d + rest → Stands rest d tail → IsRounded (with_sign negative n) d (with_sign negative (rounded negative tail s))
is_rounded n d s rest Nothing false e t = above n d s (s * d) refl (omega (arith, e, t.0, t.1)) (omega (arith, e, t.0, t.1))
is_rounded n d s rest Zero false e t = above n d s (s * d) refl (omega (arith, e, t.0, t.1)) (omega (arith, e, t.0, t.1))
is_rounded n d s rest BelowHalf false e t = above n d s (s * d) refl (omega (arith, e, t.0, t.1)) (omega (arith, e, t.0, t.1))
is_rounded n d s rest Half false e t = above n d (s + 1) (s * d + d) (next_times s d) (omega (arith, e, t.0, t.1)) (omega (arith, e, t.0, t.1))
is_rounded n d s rest AboveHalf false e t = above n d (s + 1) (s * d + d) (next_times s d) (omega (arith, e, t.0, t.1)) (omega (arith, e, t.0, t.1))
is_rounded n d s rest Nothing true e t = below n d s (s * d) refl (omega (arith, e, t.0, t.1)) (omega (arith, e, t.0, t.1))
is_rounded n d s rest Zero true e t = below n d s (s * d) refl (omega (arith, e, t.0, t.1)) (omega (arith, e, t.0, t.1))
is_rounded n d s rest BelowHalf true e t = below n d s (s * d) refl (omega (arith, e, t.0, t.1)) (omega (arith, e, t.0, t.1))
is_rounded n d s rest Half true e t = below n d s (s * d) refl (omega (arith, e, t.0, t.1)) (omega (arith, e, t.0, t.1))
is_rounded n d s rest AboveHalf true e t = below n d (s + 1) (s * d + d) (next_times s d) (omega (arith, e, t.0, t.1)) (omega (arith, e, t.0, t.1))

-- it is exact where nothing but zeros is cut off
exact_size : (n d s rest : ℕ) (tail : Tail) (negative : Bool) → n ≡ s * d + rest → Stands rest d tail → IsTrue (is_exact tail) ↔ (n ≡ rounded negative tail s * d)
exact_size n d s rest Nothing negative e t = ((λ h. omega (arith, e, t.1)), (λ h. refl))
exact_size n d s rest Zero negative e t = ((λ h. omega (arith, e, t.1)), (λ h. refl))
exact_size n d s rest BelowHalf negative e t = ((λ h. cc), (λ h. absurd (omega (arith, e, h, t.0))))
exact_size n d s rest Half false e t = ((λ h. cc), (λ h. absurd (omega (arith, e, h, next_times s d, t.0, t.1))))
exact_size n d s rest Half true e t = ((λ h. cc), (λ h. absurd (omega (arith, e, h, t.0, t.1))))
exact_size n d s rest AboveHalf negative e t = ((λ h. cc), (λ h. absurd (omega (arith, e, h, next_times s d, t.0, t.1))))

pub signed_product : (negative : Bool) (r d : ℕ) → with_sign negative r *ℤ pos d ≡ with_sign negative (r * d)
signed_product false r d = refl
signed_product true r d = neg_times r d

signed_same : (negative : Bool) (m n : ℕ) → with_sign negative m ≡ with_sign negative n → m ≡ n
signed_same false m n e = ap unsigned_abs e
signed_same true m n e = omega (arith, ints, e)

pub is_exactly : (n d s rest : ℕ) (tail : Tail) (negative : Bool) → n ≡ s * d + rest → Stands rest d tail
    → IsTrue (is_exact tail) ↔ (with_sign negative n ≡ with_sign negative (rounded negative tail s) *ℤ pos d)
is_exactly n d s rest tail negative e t =
    let size = exact_size n d s rest tail negative e t in
    let product = signed_product negative (rounded negative tail s) d in
    ((λ h. ap (with_sign negative) (size.0 h) ∙ sym product), (λ h. size.1 (signed_same negative n (rounded negative tail s * d) (h ∙ product))))
