-- Rounding to nine decimals: which whole numbers a number reaches, and that one is the last.
use Rattle.std.proofs.Common.{◌≡◌, ◌∙◌, refl, sym, ap, subst, ℕ, ℤ, pos, negsuc, zero, suc, ◌+◌, ◌*◌, ◌^◌, ◌<◌, ◌≤◌, ◌+ℤ◌, ◌-ℤ◌, ◌*ℤ◌, ◌<ℤ◌, ◌≤ℤ◌, inl, inr, arith, zero-mul, ◌/◌, ◌%◌, [], ◌∷◌, IsTrue, Bool, true, false}
use Rattle.std.specs.Prelude.{unsigned_abs, neg_ℤ, int_div}
use Rattle.std.specs.Ordering.{is_ge}
use Rattle.std.specs.declared.cmp.Ordering.{Ordering}
use Rattle.std.specs.declared.cmp.Ordering.TheVariants.{Less, Equal, Greater}
use Rattle.std.proofs.Math.Nat.{mul-le-mul_left, mul-le-mul_right, mod-lt}
use Rattle.std.proofs.lemmas.Nat.{div-add-mod'}
use Rattle.std.proofs.lemmas.Int.{ints, unsigned_abs-mul}
use Rattle.algebra.specs.LowestTerms.{Parts, IsNumber}
use Rattle.algebra.specs.NumberField.{IsRadicand}
use Rattle.algebra.specs.Order.{int_sign}
use Rattle.algebra.specs.OrderedRing.{OrderedRing}
use Rattle.algebra.specs.Surd.{Surd, by_norm}
use Rattle.algebra.proofs.Integers.{integers}
use Rattle.algebra.proofs.Surds.{surds}
use Rattle.algebra.proofs.Solvers.{ring, reads, reads_integers, sign_from, known, no_sign, not_negative, positive, sum, product, square, number, given, ring_from, multiple, no_equation}
use Rattle.number_rules.specs.ExactText.{AreShort}
use Rattle.number_rules.specs.Nine.{IsNine, IsExactlyNine, IsInReach, sign_past}
use Rattle.number_rules.specs.Rows.{sign_over}
use Rattle.number_rules.proofs.Signs.{at_least_zero, not_below_zero, sign_above, sign_below}

-- ---- numbers without a root

square_of : (x : ℤ) → x *ℤ x ≡ pos (unsigned_abs x) *ℤ pos (unsigned_abs x)
square_of (pos n) = refl
square_of (negsuc n) = refl

square_positive : (x : ℤ) → ¬ (x ≡ pos 0) → int_sign (x *ℤ x) ≡ Greater
square_positive (pos zero) h = absurd (h refl)
square_positive (pos (suc n)) h = integers.sign_mul (pos (suc n)) (pos (suc n))
square_positive (negsuc n) h = integers.sign_mul (negsuc n) (negsuc n)

without_root : (k : ℕ) (x : ℤ) → x *ℤ x ≡ x *ℤ x -ℤ pos k *ℤ (pos 0 *ℤ pos 0)
without_root k x = omega (arith, ints)

pub sign_of_whole : (k : ℕ) (x : ℤ) → sign_over k x (pos 0) ≡ int_sign x
sign_of_whole k (pos zero) = ap (λ (t : ℤ). by_norm (int_sign t) Equal Equal) (sym (without_root k (pos 0)))
sign_of_whole k (pos (suc n)) =
    ap (λ (s : Ordering). by_norm s Greater Equal) (ap int_sign (sym (without_root k (pos (suc n)))) ∙ square_positive (pos (suc n)) (λ e. cc))
sign_of_whole k (negsuc n) =
    ap (λ (s : Ordering). by_norm s Less Equal) (ap int_sign (sym (without_root k (negsuc n))) ∙ square_positive (negsuc n) (λ e. cc))

-- ---- what is more stays above zero

both : {A : Type 0} (K : OrderedRing A) (x y : A) → IsTrue (is_ge (K.sign x)) → IsTrue (is_ge (K.sign y)) → IsTrue (is_ge (K.sign (K.add x y)))
both K x y hx hy = sign_from K (x ∷ y ∷ []) (known not_negative (search reads depth 20) hx (known not_negative (search reads depth 20) hy no_sign)) not_negative (search reads depth 20) (sum (given 0) (given 1)) tt tt

pub more : (k : ℕ) → IsRadicand k → (x y d : ℤ) → (k ≡ 1 → y ≡ pos 0) → pos 0 ≤ℤ d → IsTrue (is_ge (sign_over k x y)) → IsTrue (is_ge (sign_over k (x +ℤ d) y))
more k (inl one) x y d rational grows h =
    let e : y ≡ pos 0 = rational one in
    let before : pos 0 ≤ℤ x = at_least_zero x (subst (λ (s : Ordering). IsTrue (is_ge s)) (ap (λ (t : ℤ). sign_over k x t) e ∙ sign_of_whole k x) h) in
    subst (λ (s : Ordering). IsTrue (is_ge s)) (sym (ap (λ (t : ℤ). sign_over k (x +ℤ d) t) e ∙ sign_of_whole k (x +ℤ d)))
    (not_below_zero (x +ℤ d) (omega (arith, ints, before, grows)))
more k (inr h) x y d rational grows low =
    let K : OrderedRing (Surd ℤ) = surds k h in
    let there : IsTrue (is_ge (sign_over k (x +ℤ d) (y +ℤ pos 0)))
    = both K (record { a = x; b = y }) (K.int d) low (subst (λ (s : Ordering). IsTrue (is_ge s)) (sym (K.sign_int d)) (not_below_zero d grows)) in
    subst (λ (t : ℤ). IsTrue (is_ge (sign_over k (x +ℤ d) t))) (no_more y) there
  where
    no_more : (y : ℤ) → y +ℤ pos 0 ≡ y
    no_more y = omega (arith, ints)

-- ---- one whole number is the last that is reached

apart : (v q m n : ℤ) → v -ℤ (pos 2 *ℤ m +ℤ pos 1) *ℤ q ≡ (v -ℤ (pos 2 *ℤ n -ℤ pos 1) *ℤ q) +ℤ pos 2 *ℤ (((n -ℤ m) -ℤ pos 1) *ℤ q)
apart v q m n = ring integers (v ∷ q ∷ m ∷ n ∷ []) (search reads_integers depth 40 fits 50000) (search reads_integers depth 40 fits 50000) tt

some_more : (m n q : ℤ) → m <ℤ n → pos 0 <ℤ q → pos 0 ≤ℤ (pos 2 *ℤ (((n -ℤ m) -ℤ pos 1) *ℤ q))
some_more m n q less above =
    let gap : IsTrue (is_ge (int_sign ((n -ℤ m) -ℤ pos 1))) = not_below_zero ((n -ℤ m) -ℤ pos 1) (omega (arith, ints, less)) in
    at_least_zero (pos 2 *ℤ (((n -ℤ m) -ℤ pos 1) *ℤ q)) (times ((n -ℤ m) -ℤ pos 1) q gap (not_below_zero q (omega (arith, ints, above))))
  where
    times : (x y : ℤ) → IsTrue (is_ge (int_sign x)) → IsTrue (is_ge (int_sign y)) → IsTrue (is_ge (int_sign (pos 2 *ℤ (x *ℤ y))))
    times x y hx hy =
        sign_from integers (x ∷ y ∷ []) (known not_negative (search reads_integers depth 20) hx (known not_negative (search reads_integers depth 20) hy no_sign)) not_negative (search reads_integers depth 20)
        (product (number (pos 2)) (product (given 0) (given 1))) tt tt

not_less : (k : ℕ) (p : Parts) (m n : ℤ) → IsRadicand k → IsNumber k p → IsNine k p m → IsNine k p n → ¬ (m <ℤ n)
not_less k p m n radicand is at_m at_n less =
    let v : ℤ = pos 2000000000 *ℤ p.a in
    let rational : (k ≡ 1 → pos 2000000000 *ℤ p.b ≡ pos 0) = λ one. ap (λ (t : ℤ). pos 2000000000 *ℤ t) (is.rational one) in
    let there : IsTrue (is_ge (sign_past k p (pos 2 *ℤ m +ℤ pos 1)))
    = subst (λ (x : ℤ). IsTrue (is_ge (sign_over k x (pos 2000000000 *ℤ p.b)))) (sym (apart v p.q m n))
    (more k radicand (v -ℤ (pos 2 *ℤ n -ℤ pos 1) *ℤ p.q) (pos 2000000000 *ℤ p.b) _ rational (some_more m n p.q less is.lowest.positive) at_n.not_below) in
    let wrong : IsTrue (is_ge Less) = subst (λ (s : Ordering). IsTrue (is_ge s)) at_m.below_next there in
    cc

pub one_nine : (k : ℕ) (p : Parts) (m n : ℤ) → IsRadicand k → IsNumber k p → IsNine k p m → IsNine k p n → m ≡ n
one_nine k p m n radicand is at_m at_n =
    between m n (not_less k p m n radicand is at_m at_n) (not_less k p n m radicand is at_n at_m)
  where
    between : (a c : ℤ) → ¬ (a <ℤ c) → ¬ (c <ℤ a) → a ≡ c
    between a c up down = grind (arith, ints)

-- ---- far numbers outweigh a root

outweighs : (s d c : ℤ) → IsTrue (is_ge (int_sign s)) → int_sign d ≡ Greater → IsTrue (is_ge (int_sign c))
    → int_sign ((pos 2 *ℤ s +ℤ d) *ℤ (pos 2 *ℤ s +ℤ d) -ℤ (pos 3 -ℤ c) *ℤ (s *ℤ s)) ≡ Greater
outweighs s d c hs hd hc =
    sign_from integers (s ∷ d ∷ c ∷ [])
    (known not_negative (search reads_integers depth 20) hs (known positive (search reads_integers depth 20) hd (known not_negative (search reads_integers depth 20) hc no_sign)))
    positive (search reads_integers depth 40 fits 50000)
    (sum (sum (product (given 1) (given 1)) (product (number (pos 4)) (product (given 0) (given 1)))) (sum (square (given 0)) (product (given 2) (square (given 0))))) tt tt

large_norm : (k : ℕ) (x y : ℤ) → k ≤ 3 → 2 * unsigned_abs y < unsigned_abs x → int_sign (x *ℤ x -ℤ pos k *ℤ (y *ℤ y)) ≡ Greater
large_norm k x y small far =
    let s : ℤ = pos (unsigned_abs y) in
    let d : ℤ = pos (unsigned_abs x) -ℤ pos 2 *ℤ s in
    let c : ℤ = pos 3 -ℤ pos k in
    let size : pos (unsigned_abs x) ≡ pos 2 *ℤ s +ℤ d = back (pos (unsigned_abs x)) (pos 2 *ℤ s) in
    let radicand : pos k ≡ pos 3 -ℤ c = taken (pos k) in
    ap int_sign (ap (λ (t : ℤ). t -ℤ pos k *ℤ (y *ℤ y)) (square_of x ∙ ap (λ (t : ℤ). t *ℤ t) size) ∙ ap (λ (t : ℤ). (pos 2 *ℤ s +ℤ d) *ℤ (pos 2 *ℤ s +ℤ d) -ℤ pos k *ℤ t) (square_of y)
    ∙ ap (λ (t : ℤ). (pos 2 *ℤ s +ℤ d) *ℤ (pos 2 *ℤ s +ℤ d) -ℤ t *ℤ (s *ℤ s)) radicand)
    ∙ outweighs s d c (not_below_zero s (omega (arith, ints))) (sign_above d (omega (arith, ints, far))) (not_below_zero c (omega (arith, ints, small)))
  where
    back : (x y : ℤ) → x ≡ y +ℤ (x -ℤ y)
    back x y = omega (arith, ints)

    taken : (x : ℤ) → x ≡ pos 3 -ℤ (pos 3 -ℤ x)
    taken x = omega (arith, ints)

pub far_sign : (k : ℕ) (x y : ℤ) → k ≤ 3 → 2 * unsigned_abs y < unsigned_abs x → sign_over k x y ≡ int_sign x
far_sign k x y small far = ap (λ (s : Ordering). by_norm s (int_sign x) (int_sign y)) (large_norm k x y small far)

-- ---- what is in reach fits

expanded : (m q : ℤ) → (pos 2 *ℤ m -ℤ pos 1) *ℤ q ≡ pos 2 *ℤ (m *ℤ q) -ℤ q
expanded m q = ring integers (m ∷ q ∷ []) (search reads_integers depth 40 fits 50000) (search reads_integers depth 40 fits 50000) tt

pub small_whole : (m q : ℤ) → pos 0 <ℤ q → unsigned_abs m * unsigned_abs q ≤ 2 ^ 125 → unsigned_abs m ≤ 2 ^ 125
small_whole m q above h =
    let one : 1 ≤ unsigned_abs q = omega (arith, ints, above) in
    omega (arith, mul-le-mul_left (unsigned_abs m) one, h)

pub halves_size : (m q : ℤ) → unsigned_abs q ≤ 2 ^ 92 → unsigned_abs m * unsigned_abs q ≤ 2 ^ 125 → unsigned_abs ((pos 2 *ℤ m -ℤ pos 1) *ℤ q) ≤ 2 ^ 126 + 2 ^ 92
halves_size m q short h =
    subst (λ (z : ℤ). unsigned_abs z ≤ 2 ^ 126 + 2 ^ 92) (sym (expanded m q)) (sum_of (m *ℤ q) q (subst (λ n. n ≤ 2 ^ 125) (sym (unsigned_abs-mul m q)) h) short)
  where
    sum_of : (w q : ℤ) → unsigned_abs w ≤ 2 ^ 125 → unsigned_abs q ≤ 2 ^ 92 → unsigned_abs (pos 2 *ℤ w -ℤ q) ≤ 2 ^ 126 + 2 ^ 92
    sum_of w q h short = omega (arith, ints, h, short)

-- ---- the farthest whole number in reach

-- more than 10^9 x in size, by far
pub record IsFarthest (q m : ℤ) : Type 0 where
  pub positive : pos 0 <ℤ m
  pub within : unsigned_abs m * unsigned_abs q ≤ 2 ^ 125
  pub past : 2 ^ 125 < unsigned_abs m * unsigned_abs q + unsigned_abs q

some : (d n r : ℕ) → 2 ^ 125 ≡ d * n + r → r < n → n ≤ 2 ^ 92 → pos 0 <ℤ pos d
some zero n r e below short = absurd (omega (arith, e, below, short, zero-mul n))
some (suc d) n r e below short = omega (arith, ints)

pub quotient_is_farthest : (q : ℤ) → pos 0 <ℤ q → unsigned_abs q ≤ 2 ^ 92 → IsFarthest q (int_div (pos (2 ^ 125)) q)
quotient_is_farthest (pos (suc n)) above short =
    let e : 2 ^ 125 ≡ (2 ^ 125 / suc n) * suc n + 2 ^ 125 % suc n = sym (div-add-mod' (2 ^ 125) (suc n)) in
    let r : 2 ^ 125 % suc n < suc n = mod-lt (2 ^ 125) (omega arith) in
    record { positive = some (2 ^ 125 / suc n) (suc n) (2 ^ 125 % suc n) e r short; within = omega (arith, e); past = omega (arith, e, r) }
quotient_is_farthest (pos zero) above short = absurd (omega (arith, ints, above))
quotient_is_farthest (negsuc n) above short = absurd (omega (arith, ints, above))

product_is : (m q : ℤ) → pos 0 <ℤ m → pos 0 <ℤ q → m *ℤ q ≡ pos (unsigned_abs m * unsigned_abs q)
product_is (pos m) (pos q) hm hq = refl
product_is (negsuc m) q hm hq = absurd (omega (arith, ints, hm))
product_is (pos m) (negsuc q) hm hq = absurd (omega (arith, ints, hq))

minus_product : (m q : ℤ) → (pos 2 *ℤ neg_ℤ m -ℤ pos 1) *ℤ q ≡ neg_ℤ (pos 2 *ℤ (m *ℤ q)) -ℤ q
minus_product m q = ring integers (m ∷ q ∷ []) (search reads_integers depth 40 fits 50000) (search reads_integers depth 40 fits 50000) tt

module _ (k : ℕ) (p : Parts) (small : k ≤ 3) (short : AreShort p) (above : pos 0 <ℤ p.q) (m : ℤ) (far : IsFarthest p.q m) where
  abbrev whole : ℕ
  whole = unsigned_abs m * unsigned_abs p.q

  pub not_reached : sign_past k p (pos 2 *ℤ m -ℤ pos 1) ≡ Less
  not_reached =
      let x : ℤ = pos 2000000000 *ℤ p.a -ℤ (pos 2 *ℤ pos whole -ℤ p.q) in
      let e : pos 2000000000 *ℤ p.a -ℤ (pos 2 *ℤ m -ℤ pos 1) *ℤ p.q ≡ x
      = ap (λ (t : ℤ). pos 2000000000 *ℤ p.a -ℤ t) (expanded m p.q ∙ ap (λ (t : ℤ). pos 2 *ℤ t -ℤ p.q) (product_is m p.q far.positive above)) in
      ap (λ (t : ℤ). sign_over k t (pos 2000000000 *ℤ p.b)) e
      ∙ far_sign k x (pos 2000000000 *ℤ p.b) small (omega (arith, ints, short.a, short.b, short.q, far.past, above)) ∙ sign_below x (omega (arith, ints, short.a, short.q, far.past, above))

  pub reached : IsTrue (is_ge (sign_past k p (pos 2 *ℤ neg_ℤ m -ℤ pos 1)))
  reached =
      let x : ℤ = pos 2000000000 *ℤ p.a -ℤ (neg_ℤ (pos 2 *ℤ pos whole) -ℤ p.q) in
      let e : pos 2000000000 *ℤ p.a -ℤ (pos 2 *ℤ neg_ℤ m -ℤ pos 1) *ℤ p.q ≡ x
      = ap (λ (t : ℤ). pos 2000000000 *ℤ p.a -ℤ t) (minus_product m p.q ∙ ap (λ (t : ℤ). neg_ℤ (pos 2 *ℤ t) -ℤ p.q) (product_is m p.q far.positive above)) in
      subst (λ (s : Ordering). IsTrue (is_ge s))
      (sym (ap (λ (t : ℤ). sign_over k t (pos 2000000000 *ℤ p.b)) e ∙ far_sign k x (pos 2000000000 *ℤ p.b) small (omega (arith, ints, short.a, short.b, short.q, far.past, above))))
      (not_below_zero x (omega (arith, ints, short.a, short.q, far.past, above)))

-- ---- halving

pub between_reach : (p : Parts) (low high m : ℤ) → IsInReach p low → IsInReach p high → low <ℤ m → m <ℤ high → IsInReach p m
between_reach p low high (pos n) l h above below =
    let le : n ≤ unsigned_abs high = omega (arith, ints, below) in
    record { size = omega (arith, le, h.size); times = omega (arith, mul-le-mul_right (unsigned_abs p.q) le, h.times) }
between_reach p low high (negsuc n) l h above below =
    let le : suc n ≤ unsigned_abs low = omega (arith, ints, above) in
    record { size = omega (arith, le, l.size); times = omega (arith, mul-le-mul_right (unsigned_abs p.q) le, l.times) }

pub not_at_least : (s : Ordering) → is_ge s ≡ false → s ≡ Less
not_at_least Less e = refl
not_at_least Equal e = absurd (cc)
not_at_least Greater e = absurd (cc)

-- the last one that is reached
pub last_is_nine : (k : ℕ) (p : Parts) (low next : ℤ) → next ≡ low +ℤ pos 1 → IsTrue (is_ge (sign_past k p (pos 2 *ℤ low -ℤ pos 1))) → is_ge (sign_past k p (pos 2 *ℤ next -ℤ pos 1)) ≡ false
    → IsNine k p low
last_is_nine k p low next e reached not_reached =
    let h : pos 2 *ℤ next -ℤ pos 1 ≡ pos 2 *ℤ low +ℤ pos 1 = omega (arith, ints, e) in
    record { not_below = reached; below_next = ap (sign_past k p) (sym h) ∙ not_at_least (sign_past k p (pos 2 *ℤ next -ℤ pos 1)) not_reached }

pub next_to_each_other : (low high : ℤ) → low <ℤ high → ((low +ℤ pos 1) <ℤ high → ⊥) → high ≡ low +ℤ pos 1
next_to_each_other low high less apart = grind (arith, ints)

-- ---- about a guess

pub reach_inside : (p : Parts) (most m : ℤ) → IsInReach p most → (pos 0 -ℤ most) ≤ℤ m → m ≤ℤ most → IsInReach p m
reach_inside p most m h low high =
    let le : unsigned_abs m ≤ unsigned_abs most = omega (arith, ints, low, high) in
    record { size = omega (arith, le, h.size); times = omega (arith, mul-le-mul_right (unsigned_abs p.q) le, h.times) }

pub minus_is : (m : ℤ) → pos 0 -ℤ m ≡ neg_ℤ m
minus_is m = omega (arith, ints)

-- what is reached stands before what isn't
pub stands_before : (k : ℕ) (p : Parts) (x y : ℤ) → x ≤ℤ y → is_ge (sign_past k p (pos 2 *ℤ x -ℤ pos 1)) ≡ true → is_ge (sign_past k p (pos 2 *ℤ y -ℤ pos 1)) ≡ false → x <ℤ y
stands_before k p x y le reached not_reached = less x y le (λ e. no_true (sym reached ∙ ap (λ (m : ℤ). is_ge (sign_past k p (pos 2 *ℤ m -ℤ pos 1))) e ∙ not_reached))
  where
    no_true : true ≡ false → ⊥
    no_true e = cc

    less : (x y : ℤ) → x ≤ℤ y → (x ≡ y → ⊥) → x <ℤ y
    less x y le apart = grind (arith, ints)

-- ---- small numbers have a small one

reached_up_to : (k : ℕ) (p : Parts) (m n : ℤ) → IsRadicand k → IsNumber k p → m ≤ℤ n → IsTrue (is_ge (sign_past k p (pos 2 *ℤ n -ℤ pos 1))) → IsTrue (is_ge (sign_past k p (pos 2 *ℤ m -ℤ pos 1)))
reached_up_to k p m n radicand is le reached =
    let v : ℤ = pos 2000000000 *ℤ p.a in
    let rational : (k ≡ 1 → pos 2000000000 *ℤ p.b ≡ pos 0) = λ one. ap (λ (t : ℤ). pos 2000000000 *ℤ t) (is.rational one) in
    subst (λ (x : ℤ). IsTrue (is_ge (sign_over k x (pos 2000000000 *ℤ p.b)))) (sym (apart_by v p.q m n))
    (more k radicand (v -ℤ (pos 2 *ℤ n -ℤ pos 1) *ℤ p.q) (pos 2000000000 *ℤ p.b) _ rational (not_less_than (n -ℤ m) p.q (omega (arith, ints, le)) is.lowest.positive) reached)
  where
    apart_by : (v q m n : ℤ) → v -ℤ (pos 2 *ℤ m -ℤ pos 1) *ℤ q ≡ (v -ℤ (pos 2 *ℤ n -ℤ pos 1) *ℤ q) +ℤ pos 2 *ℤ ((n -ℤ m) *ℤ q)
    apart_by v q m n = ring integers (v ∷ q ∷ m ∷ n ∷ []) (search reads_integers depth 40 fits 50000) (search reads_integers depth 40 fits 50000) tt

    times : (x y : ℤ) → IsTrue (is_ge (int_sign x)) → IsTrue (is_ge (int_sign y)) → IsTrue (is_ge (int_sign (pos 2 *ℤ (x *ℤ y))))
    times x y hx hy =
        sign_from integers (x ∷ y ∷ []) (known not_negative (search reads_integers depth 20) hx (known not_negative (search reads_integers depth 20) hy no_sign)) not_negative (search reads_integers depth 20)
        (product (number (pos 2)) (product (given 0) (given 1))) tt tt

    not_less_than : (x y : ℤ) → pos 0 ≤ℤ x → pos 0 <ℤ y → pos 0 ≤ℤ (pos 2 *ℤ (x *ℤ y))
    not_less_than x y hx hy = at_least_zero (pos 2 *ℤ (x *ℤ y)) (times x y (not_below_zero x hx) (not_below_zero y (omega (arith, ints, hy))))

next_half : (m : ℤ) → pos 2 *ℤ m +ℤ pos 1 ≡ pos 2 *ℤ (m +ℤ pos 1) -ℤ pos 1
next_half m = omega (arith, ints)

-- it lies between what is reached and what isn't
lies_between : (k : ℕ) (p : Parts) (low high m : ℤ) → IsRadicand k → IsNumber k p → IsTrue (is_ge (sign_past k p (pos 2 *ℤ low -ℤ pos 1))) → sign_past k p (pos 2 *ℤ high -ℤ pos 1) ≡ Less → IsNine k p m
    → (low ≤ℤ m) × (m <ℤ high)
lies_between k p low high m radicand is reached not_reached nine = (
  by_cases_le low m (λ less. wrong (sign_past k p (pos 2 *ℤ (m +ℤ pos 1) -ℤ pos 1)) (ap (sign_past k p) (sym (next_half m)) ∙ nine.below_next) (reached_up_to k p (m +ℤ pos 1) low radicand is less reached)),
  by_cases_lt m high (λ le. wrong (sign_past k p (pos 2 *ℤ high -ℤ pos 1)) not_reached (reached_up_to k p high m radicand is le nine.not_below)),
)
  where
    wrong : (s : Ordering) → s ≡ Less → IsTrue (is_ge s) → ⊥
    wrong s e t = let u : IsTrue (is_ge Less) = subst (λ (s : Ordering). IsTrue (is_ge s)) e t in cc

    by_cases_le : (x y : ℤ) → ((y +ℤ pos 1) ≤ℤ x → ⊥) → x ≤ℤ y
    by_cases_le x y h = grind (arith, ints)

    by_cases_lt : (x y : ℤ) → (y ≤ℤ x → ⊥) → x <ℤ y
    by_cases_lt x y h = grind (arith, ints)

pub small_nine : (k : ℕ) (p : Parts) (m : ℤ) → IsRadicand k → k ≤ 3 → IsNumber k p → AreShort p → IsNine k p m → unsigned_abs m ≤ 2 ^ 125
small_nine k p m radicand small is short nine =
    let most : ℤ = int_div (pos (2 ^ 125)) p.q in
    let far : IsFarthest p.q most = quotient_is_farthest p.q is.lowest.positive short.q in
    let between = lies_between k p (neg_ℤ most) most m radicand is (reached k p small short is.lowest.positive most far) (not_reached k p small short is.lowest.positive most far) nine in
    let size = small_whole most p.q is.lowest.positive far.within in
    omega (arith, ints, between.0, between.1, size)

-- ---- there is one

first_change : (P : ℤ → Bool) (n : ℕ) (low : ℤ) → P low ≡ true → P (low +ℤ pos n) ≡ false → (m : ℤ) × ((P m ≡ true) × (P (m +ℤ pos 1) ≡ false))
first_change P zero low there gone = absurd (neither (sym there ∙ ap P (stays low) ∙ gone))
  where
    stays : (x : ℤ) → x ≡ x +ℤ pos 0
    stays x = omega (arith, ints)

    neither : true ≡ false → ⊥
    neither e = cc
first_change P (suc n) low there gone = at_next (P (low +ℤ pos 1)) refl (λ e. first_change P n (low +ℤ pos 1) e (ap P (sym (along low n)) ∙ gone))
  where
    along : (x : ℤ) (n : ℕ) → x +ℤ pos (suc n) ≡ (x +ℤ pos 1) +ℤ pos n
    along x n = omega (arith, ints)

    at_next : (t : Bool) → P (low +ℤ pos 1) ≡ t → (P (low +ℤ pos 1) ≡ true → (m : ℤ) × ((P m ≡ true) × (P (m +ℤ pos 1) ≡ false))) → (m : ℤ) × ((P m ≡ true) × (P (m +ℤ pos 1) ≡ false))
    at_next true e further = further e
    at_next false e further = (low, (there, e))

-- what is so large outweighs both parts
outside_below : (a b : ℤ) (w : ℕ) → 2000000000 * (unsigned_abs a + 2 * unsigned_abs b) + 1 ≤ w
    → (2 * unsigned_abs (pos 2000000000 *ℤ b) < unsigned_abs (pos 2000000000 *ℤ a -ℤ pos w)) × ((pos 2000000000 *ℤ a -ℤ pos w) <ℤ pos 0)
outside_below a b w h = (omega (arith, ints, h), omega (arith, ints, h))

outside_above : (a b : ℤ) (w : ℕ) → 2000000000 * (unsigned_abs a + 2 * unsigned_abs b) + 1 ≤ w
    → (2 * unsigned_abs (pos 2000000000 *ℤ b) < unsigned_abs (pos 2000000000 *ℤ a -ℤ neg_ℤ (pos w))) × (pos 0 ≤ℤ (pos 2000000000 *ℤ a -ℤ neg_ℤ (pos w)))
outside_above a b w h = (omega (arith, ints, h), omega (arith, ints, h))

no_smaller : (h q : ℕ) → 1 ≤ q → h ≤ h * q
no_smaller h q one = omega (arith, mul-le-mul_left h one)

module _ (k : ℕ) (p : Parts) (small : k ≤ 3) (above : pos 0 <ℤ p.q) where
  -- more than 10^9 x in size
  abbrev past : ℕ
  past = 1000000000 * (unsigned_abs p.a + 2 * unsigned_abs p.b) + 1

  one : 1 ≤ unsigned_abs p.q
  one = omega (arith, ints, above)

  pub past_not_reached : sign_past k p (pos 2 *ℤ pos past -ℤ pos 1) ≡ Less
  past_not_reached =
      let h : ℕ = 2000000000 * (unsigned_abs p.a + 2 * unsigned_abs p.b) + 1 in
      let twice : pos 2 *ℤ pos past -ℤ pos 1 ≡ pos h = omega (arith, ints) in
      let e : (pos 2 *ℤ pos past -ℤ pos 1) *ℤ p.q ≡ pos (h * unsigned_abs p.q) = ap (λ (t : ℤ). t *ℤ p.q) twice ∙ product_is (pos h) p.q (omega (arith, ints)) above in
      let out = outside_below p.a p.b (h * unsigned_abs p.q) (no_smaller h (unsigned_abs p.q) one) in
      ap (λ (t : ℤ). sign_over k (pos 2000000000 *ℤ p.a -ℤ t) (pos 2000000000 *ℤ p.b)) e
      ∙ far_sign k (pos 2000000000 *ℤ p.a -ℤ pos (h * unsigned_abs p.q)) (pos 2000000000 *ℤ p.b) small out.0 ∙ sign_below (pos 2000000000 *ℤ p.a -ℤ pos (h * unsigned_abs p.q)) out.1

  pub past_reached : IsTrue (is_ge (sign_past k p (pos 2 *ℤ neg_ℤ (pos past) -ℤ pos 1)))
  past_reached =
      let h : ℕ = 2000000000 * (unsigned_abs p.a + 2 * unsigned_abs p.b) + 3 in
      let twice : pos 2 *ℤ neg_ℤ (pos past) -ℤ pos 1 ≡ neg_ℤ (pos h) = omega (arith, ints) in
      let e : (pos 2 *ℤ neg_ℤ (pos past) -ℤ pos 1) *ℤ p.q ≡ neg_ℤ (pos (h * unsigned_abs p.q))
      = ap (λ (t : ℤ). t *ℤ p.q) twice ∙ turned (pos h) p.q ∙ ap neg_ℤ (product_is (pos h) p.q (omega (arith, ints)) above) in
      let more_than : h ≤ h * unsigned_abs p.q = no_smaller h (unsigned_abs p.q) one in
      let out = outside_above p.a p.b (h * unsigned_abs p.q) (omega (arith, more_than)) in
      subst (λ (s : Ordering). IsTrue (is_ge s))
      (sym (ap (λ (t : ℤ). sign_over k (pos 2000000000 *ℤ p.a -ℤ t) (pos 2000000000 *ℤ p.b)) e
      ∙ far_sign k (pos 2000000000 *ℤ p.a -ℤ neg_ℤ (pos (h * unsigned_abs p.q))) (pos 2000000000 *ℤ p.b) small out.0))
      (not_below_zero (pos 2000000000 *ℤ p.a -ℤ neg_ℤ (pos (h * unsigned_abs p.q))) out.1)
    where
      turned : (x y : ℤ) → neg_ℤ x *ℤ y ≡ neg_ℤ (x *ℤ y)
      turned x y = ring integers (x ∷ y ∷ []) (search reads_integers depth 20) (search reads_integers depth 20) tt

  pub some_nine : (m : ℤ) × IsNine k p m
  some_nine =
      let found = first_change (λ m. is_ge (sign_past k p (pos 2 *ℤ m -ℤ pos 1))) (2 * past) (neg_ℤ (pos past)) past_reached
      (ap (λ (m : ℤ). is_ge (sign_past k p (pos 2 *ℤ m -ℤ pos 1))) (two_of past) ∙ ap is_ge past_not_reached) in
      (found.0, last_is_nine k p found.0 (found.0 +ℤ pos 1) refl found.1.0 found.1.1)
    where
      two_of : (n : ℕ) → neg_ℤ (pos n) +ℤ pos (2 * n) ≡ pos n
      two_of n = omega (arith, ints)

-- ---- a whole number of billionths is its own

exact_rest : (a m q h : ℤ) → pos 1000000000 *ℤ a ≡ m *ℤ q → pos 2000000000 *ℤ a -ℤ (pos 2 *ℤ m +ℤ h) *ℤ q ≡ neg_ℤ (h *ℤ q)
exact_rest a m q h e =
    ring_from integers (a ∷ m ∷ q ∷ h ∷ []) (multiple (pos 2) (search reads_integers depth 20) (search reads_integers depth 20) (search reads_integers depth 20) e no_equation)
    (search reads_integers depth 40 fits 50000) (search reads_integers depth 40 fits 50000) tt

exact_sign : (k : ℕ) (p : Parts) (m h : ℤ) → IsExactlyNine p m → sign_past k p (pos 2 *ℤ m +ℤ h) ≡ int_sign (neg_ℤ (h *ℤ p.q))
exact_sign k p m h exact =
    let none : pos 2000000000 *ℤ p.b ≡ pos 0 = ap (λ (t : ℤ). pos 2000000000 *ℤ t) exact.rational in
    ap (λ (t : ℤ). sign_over k (pos 2000000000 *ℤ p.a -ℤ (pos 2 *ℤ m +ℤ h) *ℤ p.q) t) none
    ∙ sign_of_whole k (pos 2000000000 *ℤ p.a -ℤ (pos 2 *ℤ m +ℤ h) *ℤ p.q) ∙ ap int_sign (exact_rest p.a m p.q h exact.same)

pub exact_nine : (k : ℕ) (p : Parts) (m : ℤ) → IsNumber k p → IsExactlyNine p m → IsNine k p m
exact_nine k p m is exact = record {
  not_below = subst (λ (s : Ordering). IsTrue (is_ge s)) (sym (exact_sign k p m (negsuc 0) exact)) (not_below_zero (neg_ℤ (negsuc 0 *ℤ p.q)) (above_it p.q is.lowest.positive));
  below_next = exact_sign k p m (pos 1) exact ∙ sign_below (neg_ℤ (pos 1 *ℤ p.q)) (below_it p.q is.lowest.positive);
}
  where
    above_it : (q : ℤ) → pos 0 <ℤ q → pos 0 ≤ℤ neg_ℤ (negsuc 0 *ℤ q)
    above_it q h = omega (arith, ints, h)

    below_it : (q : ℤ) → pos 0 <ℤ q → neg_ℤ (pos 1 *ℤ q) <ℤ pos 0
    below_it q h = omega (arith, ints, h)
