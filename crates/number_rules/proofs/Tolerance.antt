-- An answer of a rule lies within the rule's tolerance of the text's value.
use Rattle.std.proofs.Common.{◌≡◌, ◌∙◌, refl, sym, ap, ap₂, subst, ℕ, ℤ, pos, negsuc, ◌+◌, ◌*◌, ◌^◌, ◌<◌, ◌≤◌, ◌+ℤ◌, ◌-ℤ◌, ◌*ℤ◌, ◌<ℤ◌, ◌≤ℤ◌, inl, arith, [], ◌∷◌, List, IsTrue, IsFalse, Bool, true, false}
use Rattle.std.specs.Prelude.{neg_ℤ, Result, Ok, Err, IfOk}
use Rattle.std.specs.Int.{div_ceil}
use Rattle.std.specs.Ordering.{is_ge, is_le, ordering_reverse}
use Rattle.std.specs.declared.cmp.Ordering.{Ordering}
use Rattle.std.specs.declared.cmp.Ordering.TheVariants.{Less, Equal, Greater}
use Rattle.std.proofs.Math.Nat.{one-le-pow}
use Rattle.std.proofs.lemmas.Grind.{div_ceil_times}
use Rattle.std.proofs.lemmas.Int.{ints}
use Rattle.algebra.specs.LowestTerms.{Parts, IsReduced, IsNumber}
use Rattle.algebra.specs.NumberField.{IsRadicand, HoldsNumbers}
use Rattle.algebra.specs.Order.{int_sign, product_sign}
use Rattle.algebra.specs.Surd.{by_norm}
use Rattle.algebra.proofs.Integers.{integers}
use Rattle.algebra.proofs.Solvers.{ring, ring_from, multiple, no_equation, reads, reads_integers, sign_from, sign_of_multiple, sign_neg, known, no_sign, not_negative, product, given}
use Rattle.number_rules.specs.Rounded.{IsRounded, IsDecimal, Keeps, steps_of_one}
use Rattle.number_rules.specs.Rows.{Gives, IsNear, Reads, denominator_of, sign_over, tolerance_of}
use Rattle.number_rules.specs.Value.{numerator, denominator}
use Rattle.number_rules.specs.Within.{IsWithin}
use Rattle.number_rules.specs.declared.decimal.Decimal.{Decimal}
use Rattle.number_rules.specs.declared.unread.Unread.{Unread}
use Rattle.number_rules.specs.declared.unread.Row.{Row}
use Rattle.number_rules.specs.declared.unread.Row.TheVariants.{Exact, Grid, Root}
use Rattle.number_rules.proofs.Nines.{more, sign_of_whole}
use Rattle.number_rules.proofs.Signs.{at_least_zero, not_below_zero, sign_above}

-- ---- signs over a root

abbrev IsAtLeastZero : ℕ → ℤ → ℤ → Type 0
IsAtLeastZero k x y = IsTrue (is_ge (sign_over k x y))

abbrev IsAtMostZero : ℕ → ℤ → ℤ → Type 0
IsAtMostZero k x y = IsTrue (is_le (sign_over k x y))

scaled_norm : (w k x y : ℤ) → (w *ℤ x) *ℤ (w *ℤ x) -ℤ k *ℤ ((w *ℤ y) *ℤ (w *ℤ y)) ≡ w *ℤ (w *ℤ (x *ℤ x -ℤ k *ℤ (y *ℤ y)))
scaled_norm w k x y = ring integers (w ∷ k ∷ x ∷ y ∷ []) (search reads_integers depth 40 fits 50000) (search reads_integers depth 40 fits 50000) tt

-- a factor above zero changes no sign
scaled_sign : (k : ℕ) (w x y : ℤ) → int_sign w ≡ Greater → sign_over k (w *ℤ x) (w *ℤ y) ≡ sign_over k x y
scaled_sign k w x y h =
    let norm : ℤ = x *ℤ x -ℤ pos k *ℤ (y *ℤ y) in
    let same_norm : int_sign ((w *ℤ x) *ℤ (w *ℤ x) -ℤ pos k *ℤ ((w *ℤ y) *ℤ (w *ℤ y))) ≡ int_sign norm
    = ap int_sign (scaled_norm w (pos k) x y) ∙ sign_of_multiple integers w (w *ℤ norm) h ∙ sign_of_multiple integers w norm h in
    ap (λ (s : Ordering). by_norm s (int_sign (w *ℤ x)) (int_sign (w *ℤ y))) same_norm
    ∙ ap₂ (λ (s t : Ordering). by_norm (int_sign norm) s t) (sign_of_multiple integers w x h) (sign_of_multiple integers w y h)

opposite_norm : (k x y : ℤ) → neg_ℤ x *ℤ neg_ℤ x -ℤ k *ℤ (neg_ℤ y *ℤ neg_ℤ y) ≡ x *ℤ x -ℤ k *ℤ (y *ℤ y)
opposite_norm k x y = ring integers (k ∷ x ∷ y ∷ []) (search reads_integers depth 40 fits 50000) (search reads_integers depth 40 fits 50000) tt

by_reversed : (s a b : Ordering) → by_norm s (ordering_reverse a) (ordering_reverse b) ≡ ordering_reverse (by_norm s a b)
by_reversed Less a b = refl
by_reversed Equal a b = refl
by_reversed Greater a b = refl

opposite_sign : (k : ℕ) (x y : ℤ) → sign_over k (neg_ℤ x) (neg_ℤ y) ≡ ordering_reverse (sign_over k x y)
opposite_sign k x y =
    let norm : ℤ = x *ℤ x -ℤ pos k *ℤ (y *ℤ y) in
    ap (λ (s : Ordering). by_norm s (int_sign (neg_ℤ x)) (int_sign (neg_ℤ y))) (ap int_sign (opposite_norm (pos k) x y))
    ∙ ap₂ (λ (s t : Ordering). by_norm (int_sign norm) s t) (sign_neg integers x) (sign_neg integers y) ∙ by_reversed (int_sign norm) (int_sign x) (int_sign y)

reversed_up : (s : Ordering) → IsTrue (is_le s) → IsTrue (is_ge (ordering_reverse s))
reversed_up Less h = refl
reversed_up Equal h = refl
reversed_up Greater h = cc

reversed_down : (s : Ordering) → IsTrue (is_ge (ordering_reverse s)) → IsTrue (is_le s)
reversed_down Less h = refl
reversed_down Equal h = refl
reversed_down Greater h = cc

-- what isn't above zero has an opposite that isn't below
turned_up : (k : ℕ) (x y : ℤ) → IsAtMostZero k x y → IsAtLeastZero k (neg_ℤ x) (neg_ℤ y)
turned_up k x y h = subst (λ (s : Ordering). IsTrue (is_ge s)) (sym (opposite_sign k x y)) (reversed_up (sign_over k x y) h)

turned_down : (k : ℕ) (x y : ℤ) → IsAtLeastZero k (neg_ℤ x) (neg_ℤ y) → IsAtMostZero k x y
turned_down k x y h = reversed_down (sign_over k x y) (subst (λ (s : Ordering). IsTrue (is_ge s)) (opposite_sign k x y) h)

-- a number is at least zero where a multiple of it is one at least zero and something more
by_multiple : (k : ℕ) → IsRadicand k → (w x y v u z more_than : ℤ) → (k ≡ 1 → y ≡ pos 0) → int_sign w ≡ Greater → int_sign v ≡ Greater → IsAtLeastZero k u z → pos 0 ≤ℤ more_than
    → w *ℤ x ≡ v *ℤ u +ℤ more_than → w *ℤ y ≡ v *ℤ z → IsAtLeastZero k x y
by_multiple k radicand w x y v u z more_than rational hw hv there extra ex ey =
    let none : (k ≡ 1 → v *ℤ z ≡ pos 0) = λ one. sym ey ∙ ap (λ (t : ℤ). w *ℤ t) (rational one) ∙ times_none w in
    let grown : IsAtLeastZero k (v *ℤ u +ℤ more_than) (v *ℤ z)
    = more k radicand (v *ℤ u) (v *ℤ z) more_than none extra (subst (λ (s : Ordering). IsTrue (is_ge s)) (sym (scaled_sign k v u z hv)) there) in
    subst (λ (s : Ordering). IsTrue (is_ge s)) (sym (ap₂ (sign_over k) ex ey) ∙ scaled_sign k w x y hw) grown
  where
    times_none : (w : ℤ) → w *ℤ pos 0 ≡ pos 0
    times_none w = omega (arith, ints)

-- ---- the equations of the rows

module _ (one near n d q k : ℤ) where
  -- k is the row's denominator
  up_from_root : (a x reach : ℤ) → x *ℤ q ≡ a *ℤ k
      → k *ℤ (one *ℤ (a *ℤ d -ℤ n *ℤ q) +ℤ (reach +ℤ pos 1) *ℤ (q *ℤ d)) ≡ (q *ℤ d) *ℤ ((x *ℤ one -ℤ k *ℤ near) +ℤ k *ℤ reach) +ℤ (q *ℤ k) *ℤ ((near *ℤ d -ℤ one *ℤ n) +ℤ d)
  up_from_root a x reach e =
      ring_from integers (one ∷ near ∷ n ∷ d ∷ q ∷ k ∷ a ∷ x ∷ reach ∷ [])
      (multiple (neg_ℤ (one *ℤ d)) (search reads_integers depth 40 fits 50000) (search reads_integers depth 40 fits 50000) (search reads_integers depth 40 fits 50000) e no_equation)
      (search reads_integers depth 40 fits 50000) (search reads_integers depth 40 fits 50000) tt

  down_from_root : (a x reach : ℤ) → x *ℤ q ≡ a *ℤ k
      → k *ℤ neg_ℤ (one *ℤ (a *ℤ d -ℤ n *ℤ q) -ℤ (reach +ℤ pos 1) *ℤ (q *ℤ d)) ≡ (q *ℤ d) *ℤ neg_ℤ ((x *ℤ one -ℤ k *ℤ near) -ℤ k *ℤ reach) +ℤ (q *ℤ k) *ℤ ((one *ℤ n -ℤ near *ℤ d) +ℤ d)
  down_from_root a x reach e =
      ring_from integers (one ∷ near ∷ n ∷ d ∷ q ∷ k ∷ a ∷ x ∷ reach ∷ [])
      (multiple (one *ℤ d) (search reads_integers depth 40 fits 50000) (search reads_integers depth 40 fits 50000) (search reads_integers depth 40 fits 50000) e no_equation)
      (search reads_integers depth 40 fits 50000) (search reads_integers depth 40 fits 50000) tt

  root_part : (b y : ℤ) → y *ℤ q ≡ b *ℤ k → k *ℤ (one *ℤ (b *ℤ d)) ≡ (q *ℤ d) *ℤ (y *ℤ one)
  root_part b y e =
      ring_from integers (one ∷ near ∷ n ∷ d ∷ q ∷ k ∷ b ∷ y ∷ [])
      (multiple (neg_ℤ (one *ℤ d)) (search reads_integers depth 40 fits 50000) (search reads_integers depth 40 fits 50000) (search reads_integers depth 40 fits 50000) e no_equation)
      (search reads_integers depth 40 fits 50000) (search reads_integers depth 40 fits 50000) tt

  opposite_root_part : (b y : ℤ) → y *ℤ q ≡ b *ℤ k → k *ℤ neg_ℤ (one *ℤ (b *ℤ d)) ≡ (q *ℤ d) *ℤ neg_ℤ (y *ℤ one)
  opposite_root_part b y e =
      ring_from integers (one ∷ near ∷ n ∷ d ∷ q ∷ k ∷ b ∷ y ∷ [])
      (multiple (one *ℤ d) (search reads_integers depth 40 fits 50000) (search reads_integers depth 40 fits 50000) (search reads_integers depth 40 fits 50000) e no_equation)
      (search reads_integers depth 40 fits 50000) (search reads_integers depth 40 fits 50000) tt

  -- of a multiple m of 1/k
  up_from_grid : (a m t : ℤ) → m *ℤ q ≡ a *ℤ k
      → (pos 2 *ℤ k) *ℤ (one *ℤ (a *ℤ d -ℤ n *ℤ q) +ℤ t *ℤ (q *ℤ d))
      ≡ (q *ℤ d) *ℤ ((pos 2 *ℤ (m *ℤ one) -ℤ pos 2 *ℤ (k *ℤ near)) +ℤ one) +ℤ ((q *ℤ k) *ℤ ((pos 2 *ℤ (near *ℤ d) -ℤ pos 2 *ℤ (one *ℤ n)) +ℤ d) +ℤ (q *ℤ d) *ℤ ((pos 2 *ℤ (k *ℤ t) -ℤ one) -ℤ k))
  up_from_grid a m t e =
      ring_from integers (one ∷ near ∷ n ∷ d ∷ q ∷ k ∷ a ∷ m ∷ t ∷ [])
      (multiple (neg_ℤ (pos 2 *ℤ (one *ℤ d))) (search reads_integers depth 40 fits 50000) (search reads_integers depth 40 fits 50000) (search reads_integers depth 40 fits 50000) e no_equation)
      (search reads_integers depth 40 fits 50000) (search reads_integers depth 40 fits 50000) tt

  down_from_grid : (a m t : ℤ) → m *ℤ q ≡ a *ℤ k
      → (pos 2 *ℤ k) *ℤ neg_ℤ (one *ℤ (a *ℤ d -ℤ n *ℤ q) -ℤ t *ℤ (q *ℤ d))
      ≡ (q *ℤ d) *ℤ ((pos 2 *ℤ (k *ℤ near) -ℤ pos 2 *ℤ (m *ℤ one)) +ℤ one) +ℤ ((q *ℤ k) *ℤ ((pos 2 *ℤ (one *ℤ n) -ℤ pos 2 *ℤ (near *ℤ d)) +ℤ d) +ℤ (q *ℤ d) *ℤ ((pos 2 *ℤ (k *ℤ t) -ℤ one) -ℤ k))
  down_from_grid a m t e =
      ring_from integers (one ∷ near ∷ n ∷ d ∷ q ∷ k ∷ a ∷ m ∷ t ∷ [])
      (multiple (pos 2 *ℤ (one *ℤ d)) (search reads_integers depth 40 fits 50000) (search reads_integers depth 40 fits 50000) (search reads_integers depth 40 fits 50000) e no_equation)
      (search reads_integers depth 40 fits 50000) (search reads_integers depth 40 fits 50000) tt

  from_itself : (a : ℤ) → near *ℤ q ≡ a *ℤ one → one *ℤ n ≡ near *ℤ d → one *ℤ (a *ℤ d -ℤ n *ℤ q) ≡ pos 0
  from_itself a e f =
      ring_from integers (one ∷ near ∷ n ∷ d ∷ q ∷ k ∷ a ∷ [])
      (multiple (neg_ℤ d) (search reads_integers depth 40 fits 50000) (search reads_integers depth 40 fits 50000) (search reads_integers depth 40 fits 50000) e
      (multiple (neg_ℤ q) (search reads_integers depth 40 fits 50000) (search reads_integers depth 40 fits 50000) (search reads_integers depth 40 fits 50000) f no_equation))
      (search reads_integers depth 40 fits 50000) (search reads_integers depth 40 fits 50000) tt

-- ---- parts that aren't below zero

product_up : (x y : ℤ) → pos 0 ≤ℤ x → pos 0 ≤ℤ y → pos 0 ≤ℤ (x *ℤ y)
product_up x y hx hy = at_least_zero (x *ℤ y) (times x y (not_below_zero x hx) (not_below_zero y hy))
  where
    times : (x y : ℤ) → IsTrue (is_ge (int_sign x)) → IsTrue (is_ge (int_sign y)) → IsTrue (is_ge (int_sign (x *ℤ y)))
    times x y hx hy =
        sign_from integers (x ∷ y ∷ []) (known not_negative (search reads_integers depth 20) hx (known not_negative (search reads_integers depth 20) hy no_sign)) not_negative (search reads_integers depth 20)
        (product (given 0) (given 1)) tt tt

sum_up : (x y : ℤ) → pos 0 ≤ℤ x → pos 0 ≤ℤ y → pos 0 ≤ℤ (x +ℤ y)
sum_up x y hx hy = omega (arith, ints, hx, hy)

not_below : (x : ℤ) → pos 0 <ℤ x → pos 0 ≤ℤ x
not_below x h = omega (arith, ints, h)

some : (n : ℕ) → 0 < n → pos 0 <ℤ pos n
some n h = omega (arith, ints, h)

-- how far a rounded number is off
off_below : (z w : ℤ) (d : ℕ) → (pos 2 *ℤ z) ≤ℤ (pos 2 *ℤ w +ℤ pos d) → pos 0 ≤ℤ ((w -ℤ z) +ℤ pos d)
off_below z w d h = omega (arith, ints, h)

off_above : (z w : ℤ) (d : ℕ) → (pos 2 *ℤ w +ℤ pos d) <ℤ (pos 2 *ℤ z +ℤ pos (2 * d)) → pos 0 ≤ℤ ((z -ℤ w) +ℤ pos d)
off_above z w d h = omega (arith, ints, h)

half_below : (z w : ℤ) (d : ℕ) → (pos 2 *ℤ z) ≤ℤ (pos 2 *ℤ w +ℤ pos d) → pos 0 ≤ℤ ((pos 2 *ℤ w -ℤ pos 2 *ℤ z) +ℤ pos d)
half_below z w d h = omega (arith, ints, h)

half_above : (z w : ℤ) (d : ℕ) → (pos 2 *ℤ w +ℤ pos d) <ℤ (pos 2 *ℤ z +ℤ pos (2 * d)) → pos 0 ≤ℤ ((pos 2 *ℤ z -ℤ pos 2 *ℤ w) +ℤ pos d)
half_above z w d h = omega (arith, ints, h)

-- half of 1/n, rounded up, and a step more
grid_reach : (n : ℕ) → 0 < n → pos 0 ≤ℤ ((pos 2 *ℤ (pos n *ℤ pos (div_ceil steps_of_one (2 * n) + 1)) -ℤ pos steps_of_one) -ℤ pos n)
grid_reach n h = reach (div_ceil steps_of_one (2 * n)) (div_ceil_times steps_of_one (2 * n) (omega (arith, h))).0
  where
    reach : (c : ℕ) → steps_of_one ≤ c * (2 * n) → pos 0 ≤ℤ ((pos 2 *ℤ (pos n *ℤ pos (c + 1)) -ℤ pos steps_of_one) -ℤ pos n)
    reach c enough = let whole : 2 * (n * (c + 1)) ≡ c * (2 * n) + 2 * n = omega arith in omega (arith, ints, enough, whole)

-- ---- each row

module _ (k : ℕ) (radicand : IsRadicand k) (p : Parts) (is : IsNumber k p) (n : ℤ) (d : ℕ) (some_d : 0 < d) where
  abbrev one : ℤ
  one = pos steps_of_one

  weight_positive : int_sign (p.q *ℤ pos d) ≡ Greater
  weight_positive = integers.sign_mul p.q (pos d) ∙ ap₂ product_sign (sign_above p.q is.lowest.positive) (sign_above (pos d) (some d some_d))

  weight_up : pos 0 ≤ℤ (p.q *ℤ pos d)
  weight_up = product_up p.q (pos d) (not_below p.q is.lowest.positive) (not_below (pos d) (some d some_d))

  row_up : (m : ℕ) → pos 0 ≤ℤ (p.q *ℤ pos m)
  row_up m = product_up p.q (pos m) (not_below p.q is.lowest.positive) (omega (arith, ints))

  abbrev y : ℤ
  y = one *ℤ (p.b *ℤ pos d)

  rational : k ≡ 1 → y ≡ pos 0
  rational e = ap (λ (b : ℤ). one *ℤ (b *ℤ pos d)) (is.rational e) ∙ no_part (pos d)
    where
      no_part : (d : ℤ) → one *ℤ (pos 0 *ℤ d) ≡ pos 0
      no_part d = omega (arith, ints)

  opposite_rational : k ≡ 1 → neg_ℤ y ≡ pos 0
  opposite_rational e = ap neg_ℤ (rational e)

  module _ (near : ℤ) (rounded : IsRounded (one *ℤ n) d near) where
    root_within : (m : ℕ) (a b : ℤ) → 0 < m → IsNear k m near a b → IsReduced (record { a = a; b = b; q = pos m }) p → IsWithin k p n d (10 ^ 11 + 1)
    root_within m a b some_m is_near reduced = record {
      not_below = by_multiple k radicand (pos m) _ y (p.q *ℤ pos d) ((a *ℤ one -ℤ pos m *ℤ near) +ℤ pos m *ℤ pos (10 ^ 11)) (b *ℤ one) _ rational (sign_above (pos m) (some m some_m)) weight_positive is_near.not_below
          (product_up (p.q *ℤ pos m) ((near *ℤ pos d -ℤ one *ℤ n) +ℤ pos d) (row_up m) (off_above (near *ℤ pos d) (one *ℤ n) d rounded.1))
          (up_from_root one near n (pos d) p.q (pos m) p.a a (pos (10 ^ 11)) reduced.same.rational) (root_part one near n (pos d) p.q (pos m) p.b b reduced.same.irrational);
      not_above = turned_down k _ y (by_multiple k radicand (pos m) _ (neg_ℤ y) (p.q *ℤ pos d) (neg_ℤ ((a *ℤ one -ℤ pos m *ℤ near) -ℤ pos m *ℤ pos (10 ^ 11))) (neg_ℤ (b *ℤ one)) _ opposite_rational (sign_above (pos m) (some m some_m)) weight_positive
          (turned_up k ((a *ℤ one -ℤ pos m *ℤ near) -ℤ pos m *ℤ pos (10 ^ 11)) (b *ℤ one) is_near.not_above)
          (product_up (p.q *ℤ pos m) ((one *ℤ n -ℤ near *ℤ pos d) +ℤ pos d) (row_up m) (off_below (near *ℤ pos d) (one *ℤ n) d rounded.0))
          (down_from_root one near n (pos d) p.q (pos m) p.a a (pos (10 ^ 11)) reduced.same.rational) (opposite_root_part one near n (pos d) p.q (pos m) p.b b reduced.same.irrational));
    }

    no_root : (m : ℕ) → pos 0 *ℤ p.q ≡ p.b *ℤ pos m → (pos 2 *ℤ pos m) *ℤ y ≡ (p.q *ℤ pos d) *ℤ pos 0
    no_root m e = twice (pos m) y (p.q *ℤ pos d) (root_part one near n (pos d) p.q (pos m) p.b (pos 0) e)
      where
        twice : (m y v : ℤ) → m *ℤ y ≡ v *ℤ (pos 0 *ℤ one) → (pos 2 *ℤ m) *ℤ y ≡ v *ℤ pos 0
        twice m y v e = ring_from integers (m ∷ y ∷ v ∷ []) (multiple (pos 2) (search reads_integers depth 20) (search reads_integers depth 20) (search reads_integers depth 20) e no_equation) (search reads_integers depth 20) (search reads_integers depth 20) tt

    no_opposite_root : (m : ℕ) → pos 0 *ℤ p.q ≡ p.b *ℤ pos m → (pos 2 *ℤ pos m) *ℤ neg_ℤ y ≡ (p.q *ℤ pos d) *ℤ pos 0
    no_opposite_root m e = minus (pos 2 *ℤ pos m) y (p.q *ℤ pos d) (no_root m e)
      where
        minus : (w y v : ℤ) → w *ℤ y ≡ v *ℤ pos 0 → w *ℤ neg_ℤ y ≡ v *ℤ pos 0
        minus w y v e = ring_from integers (w ∷ y ∷ v ∷ []) (multiple (negsuc 0) (search reads_integers depth 20) (search reads_integers depth 20) (search reads_integers depth 20) e no_equation) (search reads_integers depth 20) (search reads_integers depth 20) tt

    without : (x : ℤ) → pos 0 ≤ℤ x → IsAtLeastZero k x (pos 0)
    without x h = subst (λ (s : Ordering). IsTrue (is_ge s)) (sym (sign_of_whole k x)) (not_below_zero x h)

    twice_positive : (m : ℕ) → 0 < m → int_sign (pos 2 *ℤ pos m) ≡ Greater
    twice_positive m h = sign_above (pos 2 *ℤ pos m) (omega (arith, ints, h))

    grid_within : (m : ℕ) (a : ℤ) → 0 < m → IsRounded (pos m *ℤ near) steps_of_one a → IsReduced (record { a = a; b = pos 0; q = pos m }) p → IsWithin k p n d (div_ceil steps_of_one (2 * m) + 1)
    grid_within m a some_m nearest reduced =
        let t : ℤ = pos (div_ceil steps_of_one (2 * m) + 1) in
        record {
          not_below = by_multiple k radicand (pos 2 *ℤ pos m) _ y (p.q *ℤ pos d) ((pos 2 *ℤ (a *ℤ one) -ℤ pos 2 *ℤ (pos m *ℤ near)) +ℤ one) (pos 0) _ rational (twice_positive m some_m) weight_positive
              (without ((pos 2 *ℤ (a *ℤ one) -ℤ pos 2 *ℤ (pos m *ℤ near)) +ℤ one) (half_above (a *ℤ one) (pos m *ℤ near) steps_of_one nearest.1))
              (sum_up _ _ (product_up (p.q *ℤ pos m) ((pos 2 *ℤ (near *ℤ pos d) -ℤ pos 2 *ℤ (one *ℤ n)) +ℤ pos d) (row_up m) (half_above (near *ℤ pos d) (one *ℤ n) d rounded.1))
              (product_up (p.q *ℤ pos d) ((pos 2 *ℤ (pos m *ℤ t) -ℤ one) -ℤ pos m) weight_up (grid_reach m some_m)))
              (up_from_grid one near n (pos d) p.q (pos m) p.a a t reduced.same.rational) (no_root m reduced.same.irrational);
          not_above = turned_down k _ y (by_multiple k radicand (pos 2 *ℤ pos m) _ (neg_ℤ y) (p.q *ℤ pos d) ((pos 2 *ℤ (pos m *ℤ near) -ℤ pos 2 *ℤ (a *ℤ one)) +ℤ one) (pos 0) _ opposite_rational (twice_positive m some_m) weight_positive
              (without ((pos 2 *ℤ (pos m *ℤ near) -ℤ pos 2 *ℤ (a *ℤ one)) +ℤ one) (half_below (a *ℤ one) (pos m *ℤ near) steps_of_one nearest.0))
              (sum_up _ _ (product_up (p.q *ℤ pos m) ((pos 2 *ℤ (one *ℤ n) -ℤ pos 2 *ℤ (near *ℤ pos d)) +ℤ pos d) (row_up m) (half_below (near *ℤ pos d) (one *ℤ n) d rounded.0))
              (product_up (p.q *ℤ pos d) ((pos 2 *ℤ (pos m *ℤ t) -ℤ one) -ℤ pos m) weight_up (grid_reach m some_m)))
              (down_from_grid one near n (pos d) p.q (pos m) p.a a t reduced.same.rational) (no_opposite_root m reduced.same.irrational));
        }

    exact_within : one *ℤ n ≡ near *ℤ pos d → IsReduced (record { a = near; b = pos 0; q = one }) p → IsWithin k p n d 0
    exact_within e reduced =
        let same : one *ℤ (p.a *ℤ pos d -ℤ n *ℤ p.q) ≡ pos 0 = from_itself one near n (pos d) p.q (pos 1) p.a reduced.same.rational e in
        let none : p.b ≡ pos 0 = no_part p.b p.q reduced.same.irrational in
        let no_y : y ≡ pos 0 = ap (λ (b : ℤ). one *ℤ (b *ℤ pos d)) none ∙ no_product (pos d) in
        let at_zero : sign_over k (pos 0) (pos 0) ≡ Equal = sign_of_whole k (pos 0) in
        record {
          not_below = subst (λ (s : Ordering). IsTrue (is_ge s)) (sym (ap₂ (sign_over k) (no_more same (p.q *ℤ pos d)) no_y ∙ at_zero)) refl;
          not_above = subst (λ (s : Ordering). IsTrue (is_le s)) (sym (ap₂ (sign_over k) (no_less same (p.q *ℤ pos d)) no_y ∙ at_zero)) refl;
        }
      where
        no_part : (b q : ℤ) → pos 0 *ℤ q ≡ b *ℤ pos steps_of_one → b ≡ pos 0
        no_part b q e = omega (arith, ints, e)

        no_product : (d : ℤ) → one *ℤ (pos 0 *ℤ d) ≡ pos 0
        no_product d = omega (arith, ints)

        no_more : {x : ℤ} → x ≡ pos 0 → (v : ℤ) → x +ℤ pos 0 *ℤ v ≡ pos 0
        no_more e v = omega (arith, ints, e)

        no_less : {x : ℤ} → x ≡ pos 0 → (v : ℤ) → x -ℤ pos 0 *ℤ v ≡ pos 0
        no_less e v = omega (arith, ints, e)

-- ---- of texts

from_kept : (n : ℤ) (d : ℕ) (r : ℤ) (far : Bool) (near : ℤ) (exact : Bool) → IsRounded n d r → Keeps n d r far near exact → IsFalse far
    → IsRounded n d near × (IsTrue exact → n ≡ near *ℤ pos d)
from_kept n d r true near exact rounded keeps h = absurd (cc)
from_kept n d r false near exact rounded keeps h =
    (subst (IsRounded n d) (sym keeps.1) rounded, (λ t. keeps.2.0 t ∙ ap (λ (z : ℤ). z *ℤ pos d) (sym keeps.1)))

not_far : (far : Bool) → ¬ IsTrue far → IsFalse far
not_far true h = absurd (h refl)
not_far false h = refl

pub answer_within : (k : ℕ) → IsRadicand k → (p : Parts) → IsNumber k p → (row : Row) (text : List ℕ) (value : Decimal) → 0 < denominator_of row → IsDecimal text value → Gives k row value p
    → IsWithin k p (numerator text) (denominator text) (tolerance_of row)
answer_within k radicand p is Exact text value some (r, rounded, keeps) gives =
    let kept = from_kept _ _ r value.far value.near value.exact rounded keeps gives.0 in
    exact_within k radicand p is (numerator text) (denominator text) (one-le-pow _ 10 (omega arith)) value.near kept.0 (kept.1 gives.1) gives.2
answer_within k radicand p is (Grid m) text value some (r, rounded, keeps) gives =
    let kept = from_kept _ _ r value.far value.near value.exact rounded keeps (not_far value.far (λ t. gives.0 (inl t))) in
    grid_within k radicand p is (numerator text) (denominator text) (one-le-pow _ 10 (omega arith)) value.near kept.0 m gives.1.0 some gives.1.1 gives.1.2
answer_within k radicand p is (Root m) text value some (r, rounded, keeps) gives =
    let kept = from_kept _ _ r value.far value.near value.exact rounded keeps (not_far value.far (λ t. gives.0 (inl t))) in
    root_within k radicand p is (numerator text) (denominator text) (one-le-pow _ 10 (omega arith)) value.near kept.0 m gives.1.0 gives.1.1 some gives.1.2.near_enough gives.1.3

-- of what a call answers
pub all_within : {N : Type 0} (k : ℕ) (parts : N → Parts) → IsRadicand k → HoldsNumbers k parts → (row : Row) (text : List ℕ) (value : Decimal) (r : Result N Unread) → 0 < denominator_of row → IsDecimal text value
    → Reads k parts row value r → IfOk r (λ x. IsWithin k (parts x) (numerator text) (denominator text) (tolerance_of row))
all_within k parts radicand holds row text value (Ok x) some is reads = answer_within k radicand (parts x) (holds.is_number x) row text value some is reads
all_within k parts radicand holds row text value (Err cause) some is reads = tt
