-- The search for roots: rests, and where a rest shows that no a is near enough.
use Prim.Native.Nat.{suc}
use Rattle.std.proofs.Common.{◌≡◌, ◌∙◌, refl, sym, ap, subst, ℕ, ℤ, pos, negsuc, ◌+◌, ◌-◌, ◌*◌, ◌^◌, ◌<◌, ◌≤◌, ◌+ℤ◌, ◌-ℤ◌, ◌*ℤ◌, ◌%◌, ◌<ℤ◌, ◌≤ℤ◌, arith, [], ◌∷◌, IsTrue, zero-mul, ◌⊎◌, inl, inr}
use Rattle.std.proofs.lemmas.Bool.{cases_lt}
use Rattle.std.proofs.lemmas.Int.{ints}
use Rattle.std.specs.Prelude.{unsigned_abs, neg_ℤ}
use Rattle.std.specs.Int.{int_div_euclid, int_rem_euclid}
use Rattle.std.specs.Ordering.{is_ge, is_le}
use Rattle.algebra.specs.OrderedRing.{OrderedRing}
use Rattle.algebra.specs.Surd.{Surd, IsNonsquare}
use Rattle.algebra.proofs.Integers.{integers}
use Rattle.algebra.proofs.Surds.{surds}
use Rattle.algebra.proofs.SurdRing.{surd_path}
use Rattle.algebra.proofs.Solvers.{sign_from, known, no_sign, not_negative, not_positive, sum, product, negated, given, reads, ring, reads_integers}
use Rattle.number_rules.specs.Rounded.{steps_of_one}
use Rattle.algebra.specs.LowestTerms.{Parts}
use Rattle.std.specs.Prelude.{Option, Some, None}
use Rattle.number_rules.specs.Rows.{IsNear, ComesBefore}
use Rattle.number_rules.proofs.Signs.{at_least_zero, not_below_zero}
use Rattle.number_rules.specs.Search.{IsFractionOfRoot, IsRest, StandsAt, StandsAtSize, StandsFirst, multiple_of, start}

-- ---- rests

pub rest_less : (z : ℤ) (rest fraction : ℕ) → IsRest z rest → fraction ≤ rest → IsRest (z -ℤ pos (steps_of_one + fraction)) (rest - fraction)
rest_less z rest fraction (whole, e, h) le = (whole -ℤ pos 1, omega (arith, ints, e), omega (arith, h))

pub rest_more : (z : ℤ) (rest fraction : ℕ) → IsRest z rest → rest < fraction → fraction < steps_of_one → IsRest (z -ℤ pos (steps_of_one + fraction)) (rest + (steps_of_one - fraction))
rest_more z rest fraction (whole, e, h) lt f = (whole -ℤ pos 2, omega (arith, ints, e), omega (arith, h))

pub rest_back : (z : ℤ) (rest fraction : ℕ) → IsRest z rest → fraction < steps_of_one → steps_of_one - fraction ≤ rest → IsRest (z +ℤ pos (steps_of_one + fraction)) (rest - (steps_of_one - fraction))
rest_back z rest fraction (whole, e, h) f le = (whole +ℤ pos 2, omega (arith, ints, e), omega (arith, h))

pub rest_on : (z : ℤ) (rest fraction : ℕ) → IsRest z rest → fraction < steps_of_one → rest < steps_of_one - fraction → IsRest (z +ℤ pos (steps_of_one + fraction)) (rest + fraction)
rest_on z rest fraction (whole, e, h) f lt = (whole +ℤ pos 1, omega (arith, ints, e), omega (arith, lt))

divided : (z : ℤ) → (rest : ℕ) × (z ≡ int_div_euclid z (pos 1000000000000000000) *ℤ pos steps_of_one +ℤ pos rest) × (rest < steps_of_one) × (int_rem_euclid z (pos 1000000000000000000) ≡ pos rest)
divided (pos a) = (a % 1000000000000000000, omega (arith, ints), omega arith, refl)
divided (negsuc a) = (999999999999999999 - a % 1000000000000000000, omega (arith, ints), omega arith, refl)

pub rest_of : (z rem : ℤ) → rem ≡ int_rem_euclid z (pos 1000000000000000000) → IsRest z (unsigned_abs rem)
rest_of z rem e =
    let (rest, whole, below, is) = divided z in
    (int_div_euclid z (pos 1000000000000000000), whole ∙ ap (λ r. int_div_euclid z (pos 1000000000000000000) *ℤ pos steps_of_one +ℤ pos r) (sym (ap unsigned_abs (e ∙ is))), subst (λ r. r < steps_of_one) (sym (ap unsigned_abs (e ∙ is))) below)

pub quotient_of : (z w q : ℤ) → z ≡ w → q ≡ int_div_euclid z (pos 1000000000000000000) → (rest : ℕ) × ((w ≡ q *ℤ pos steps_of_one +ℤ pos rest) × (rest < steps_of_one))
quotient_of z w q same e =
    let (rest, whole, below, is) = divided z in
    (rest, (sym same ∙ whole ∙ ap (λ k. k *ℤ pos steps_of_one +ℤ pos rest) (sym e), below))

pub quotient_small : (z q : ℤ) → unsigned_abs z ≤ 2 ^ 113 → q ≡ int_div_euclid z (pos 1000000000000000000) → unsigned_abs q ≤ 2 ^ 62
quotient_small (pos a) q h e = omega (arith, ints, e, h)
quotient_small (negsuc a) q h e = omega (arith, ints, e, h)

-- ---- what is near enough leaves little

up_a : (k m r s : ℤ) → m *ℤ (r +ℤ pos 1) +ℤ k *ℤ (pos 0 *ℤ s) ≡ m +ℤ m *ℤ r
up_a k m r s = ring integers (k ∷ m ∷ r ∷ s ∷ []) (search reads_integers depth 40 fits 50000) (search reads_integers depth 40 fits 50000) tt

up_b : (m r s : ℤ) → m *ℤ neg_ℤ s +ℤ pos 0 *ℤ (r +ℤ pos 1) ≡ neg_ℤ (m *ℤ s)
up_b m r s = ring integers (m ∷ r ∷ s ∷ []) (search reads_integers depth 40 fits 50000) (search reads_integers depth 40 fits 50000) tt

low_a : (k m r s : ℤ) → m *ℤ (pos 1 -ℤ r) +ℤ k *ℤ (pos 0 *ℤ s) ≡ m -ℤ m *ℤ r
low_a k m r s = ring integers (k ∷ m ∷ r ∷ s ∷ []) (search reads_integers depth 40 fits 50000) (search reads_integers depth 40 fits 50000) tt

low_b : (m r s : ℤ) → m *ℤ s +ℤ pos 0 *ℤ (pos 1 -ℤ r) ≡ m *ℤ s
low_b m r s = ring integers (m ∷ r ∷ s ∷ []) (search reads_integers depth 40 fits 50000) (search reads_integers depth 40 fits 50000) tt

turned_a : (m r : ℤ) → m -ℤ m *ℤ r ≡ m +ℤ neg_ℤ m *ℤ r
turned_a m r = ring integers (m ∷ r ∷ []) (search reads_integers depth 40 fits 50000) (search reads_integers depth 40 fits 50000) tt

turned_b : (m s : ℤ) → m *ℤ s ≡ neg_ℤ (neg_ℤ m *ℤ s)
turned_b m s = ring integers (m ∷ s ∷ []) (search reads_integers depth 40 fits 50000) (search reads_integers depth 40 fits 50000) tt

again_a : (m r : ℤ) → m +ℤ m *ℤ r ≡ m -ℤ neg_ℤ m *ℤ r
again_a m r = ring integers (m ∷ r ∷ []) (search reads_integers depth 40 fits 50000) (search reads_integers depth 40 fits 50000) tt

again_b : (m s : ℤ) → neg_ℤ (m *ℤ s) ≡ neg_ℤ m *ℤ s
again_b m s = ring integers (m ∷ s ∷ []) (search reads_integers depth 40 fits 50000) (search reads_integers depth 40 fits 50000) tt

module _ (k : ℕ) (h : IsNonsquare k) where
  abbrev K : OrderedRing (Surd ℤ)
  K = surds k h

  abbrev AtLeastZero : Surd ℤ → Type 0
  AtLeastZero x = IsTrue (is_ge (K.sign x))

  added : (x y : Surd ℤ) → AtLeastZero x → AtLeastZero y → AtLeastZero (K.add x y)
  added x y hx hy =
      sign_from K (x ∷ y ∷ []) (known not_negative (search reads depth 20) hx (known not_negative (search reads depth 20) hy no_sign)) not_negative (search reads depth 20) (sum (given 0) (given 1)) tt tt

  times : (x y : Surd ℤ) → AtLeastZero x → AtLeastZero y → AtLeastZero (K.mul x y)
  times x y hx hy =
      sign_from K (x ∷ y ∷ []) (known not_negative (search reads depth 20) hx (known not_negative (search reads depth 20) hy no_sign)) not_negative (search reads depth 20) (product (given 0) (given 1)) tt tt

  opposite : (x : Surd ℤ) → IsTrue (is_le (K.sign x)) → AtLeastZero (K.neg x)
  opposite x hx = sign_from K (x ∷ []) (known not_positive (search reads depth 20) hx no_sign) not_negative (search reads depth 20) (negated (given 0)) tt tt

  -- a sum without a root
  from_sum : (x y : Surd ℤ) → AtLeastZero x → AtLeastZero y → x.b +ℤ y.b ≡ pos 0 → pos 0 ≤ℤ (x.a +ℤ y.a)
  from_sum x y hx hy e =
      let whole : K.add x y ≡ K.int (x.a +ℤ y.a) = surd_path (K.add x y) (K.int (x.a +ℤ y.a)) refl e in
      at_least_zero (x.a +ℤ y.a) (subst (λ s. IsTrue (is_ge s)) (ap K.sign whole ∙ K.sign_int (x.a +ℤ y.a)) (added x y hx hy))

  module _ (fraction : ℕ) (f : IsFractionOfRoot k fraction) where
    abbrev root : ℤ
    root = pos (steps_of_one + fraction)

    abbrev one : ℤ
    one = pos steps_of_one

    whole_times : (m : ℕ) (x : Surd ℤ) → AtLeastZero x → AtLeastZero (K.mul (K.int (pos m)) x)
    whole_times m x hx = times (K.int (pos m)) x (subst (λ s. IsTrue (is_ge s)) (sym (K.sign_int (pos m))) (not_below_zero (pos m) (omega (arith, ints)))) hx

    up : (m : ℕ) → AtLeastZero (record { a = pos m +ℤ pos m *ℤ root; b = neg_ℤ (pos m *ℤ one) })
    up m =
        let x : Surd ℤ = record { a = root +ℤ pos 1; b = neg_ℤ one } in
        subst AtLeastZero (surd_path (K.mul (K.int (pos m)) x) (record { a = pos m +ℤ pos m *ℤ root; b = neg_ℤ (pos m *ℤ one) }) (up_a (pos k) (pos m) root (neg_ℤ one)) (up_b (pos m) root one)) (whole_times m x f.not_above)

    low : (m : ℕ) → AtLeastZero (record { a = pos m -ℤ pos m *ℤ root; b = pos m *ℤ one })
    low m =
        let x : Surd ℤ = record { a = pos 1 -ℤ root; b = one } in
        subst AtLeastZero (surd_path (K.mul (K.int (pos m)) x) (record { a = pos m -ℤ pos m *ℤ root; b = pos m *ℤ one }) (low_a (pos k) (pos m) root one) (low_b (pos m) root one)) (whole_times m x f.not_below)

    off_above : (b : ℤ) → AtLeastZero (record { a = pos (unsigned_abs b) +ℤ b *ℤ root; b = neg_ℤ (b *ℤ one) })
    off_above (pos m) = up m
    off_above (negsuc m) = subst AtLeastZero (surd_path _ (record { a = pos (suc m) +ℤ negsuc m *ℤ root; b = neg_ℤ (negsuc m *ℤ one) }) (turned_a (pos (suc m)) root) (turned_b (pos (suc m)) one)) (low (suc m))

    off_below : (b : ℤ) → AtLeastZero (record { a = pos (unsigned_abs b) -ℤ b *ℤ root; b = b *ℤ one })
    off_below (pos m) = low m
    off_below (negsuc m) = subst AtLeastZero (surd_path _ (record { a = pos (suc m) -ℤ negsuc m *ℤ root; b = negsuc m *ℤ one }) (again_a (pos (suc m)) root) (again_b (pos (suc m)) one)) (up (suc m))

    module _ (n : ℕ) (near a b : ℤ) (is : IsNear k n near a b) (small : unsigned_abs b ≤ 1024) where
      abbrev z : ℤ
      z = a *ℤ one -ℤ pos n *ℤ near

      abbrev reach : ℤ
      reach = pos (n * 10 ^ 11)

      above_it : pos 0 ≤ℤ ((z +ℤ reach) +ℤ (pos (unsigned_abs b) +ℤ b *ℤ root))
      above_it = from_sum (record { a = z +ℤ reach; b = b *ℤ one }) (record { a = pos (unsigned_abs b) +ℤ b *ℤ root; b = neg_ℤ (b *ℤ one) }) is.not_below (off_above b) (omega (arith, ints))

      below_it : pos 0 ≤ℤ (neg_ℤ (z -ℤ reach) +ℤ (pos (unsigned_abs b) -ℤ b *ℤ root))
      below_it =
          from_sum (K.neg (record { a = z -ℤ reach; b = b *ℤ one })) (record { a = pos (unsigned_abs b) -ℤ b *ℤ root; b = b *ℤ one }) (opposite (record { a = z -ℤ reach; b = b *ℤ one }) is.not_above) (off_below b) (omega (arith, ints))

      -- what is left is at most twice the reach
      pub left_over : (rest : ℤ) → start n near -ℤ multiple_of fraction b ≡ a *ℤ pos steps_of_one +ℤ rest → (pos 0 ≤ℤ rest) × (rest ≤ℤ pos (2 * (n * 100000000000 + 1024)))
      left_over rest e = (omega (arith, ints, e, below_it, small), omega (arith, ints, e, above_it, small))

apart : (a c r : ℤ) (rest : ℕ) → a *ℤ pos steps_of_one +ℤ r ≡ c *ℤ pos steps_of_one +ℤ pos rest → pos 0 ≤ℤ r → r <ℤ pos steps_of_one → rest < steps_of_one → (a ≡ c) × (r ≡ pos rest)
apart a c r rest e low high below = let same : a ≡ c = omega (arith, ints, e, low, high, below) in (same, omega (arith, ints, e, same))

leaves : (w a : ℤ) → w ≡ a *ℤ pos steps_of_one +ℤ (w -ℤ a *ℤ pos steps_of_one)
leaves w a = omega (arith, ints)

-- an a that is near enough at b is the quotient, and leaves a small rest
pub only : (k : ℕ) (h : IsNonsquare k) (fraction : ℕ) (f : IsFractionOfRoot k fraction) (n : ℕ) (near a b c : ℤ) (rest : ℕ) → n ≤ 1000000 → unsigned_abs b ≤ 1024 → IsNear k n near a b
    → start n near -ℤ multiple_of fraction b ≡ c *ℤ pos steps_of_one +ℤ pos rest → rest < steps_of_one → (a ≡ c) × (rest ≤ 2 * (n * 100000000000 + 1024))
only k h fraction f n near a b c rest within small is e below =
    let w : ℤ = start n near -ℤ multiple_of fraction b in
    let r : ℤ = w -ℤ a *ℤ pos steps_of_one in
    let left = left_over k h fraction f n near a b is small r (leaves w a) in
    let one = apart a c r rest (sym (leaves w a) ∙ e) left.0 (omega (arith, ints, left.1, within)) below in
    (one.0, omega (arith, ints, left.1, one.1))

pub next_up : (z : ℤ) (size fraction : ℕ) → (z -ℤ multiple_of fraction (pos size)) -ℤ pos (steps_of_one + fraction) ≡ z -ℤ multiple_of fraction (pos (size + 1))
next_up z size fraction = steps z (pos size) (pos (steps_of_one + fraction))
  where
    steps : (z s r : ℤ) → (z -ℤ s *ℤ r) -ℤ r ≡ z -ℤ (s +ℤ pos 1) *ℤ r
    steps z s r = ring integers (z ∷ s ∷ r ∷ []) (search reads_integers depth 40 fits 50000) (search reads_integers depth 40 fits 50000) tt

pub next_down : (z : ℤ) (size fraction : ℕ) → (z -ℤ multiple_of fraction (neg_ℤ (pos size))) +ℤ pos (steps_of_one + fraction) ≡ z -ℤ multiple_of fraction (neg_ℤ (pos (size + 1)))
next_down z size fraction = steps z (neg_ℤ (pos size)) (pos (steps_of_one + fraction)) ∙ ap (λ s. z -ℤ s *ℤ pos (steps_of_one + fraction)) (less size)
  where
    steps : (z s r : ℤ) → (z -ℤ s *ℤ r) +ℤ r ≡ z -ℤ (s -ℤ pos 1) *ℤ r
    steps z s r = ring integers (z ∷ s ∷ r ∷ []) (search reads_integers depth 40 fits 50000) (search reads_integers depth 40 fits 50000) tt

    less : (size : ℕ) → neg_ℤ (pos size) -ℤ pos 1 ≡ neg_ℤ (pos (size + 1))
    less size = omega (arith, ints)

pub first_multiple : (z : ℤ) (fraction rest : ℕ) → IsRest z rest → IsRest (z -ℤ multiple_of fraction (pos 0)) rest
first_multiple z fraction rest h = subst (λ w. IsRest w rest) (nothing z (0 * (steps_of_one + fraction)) (zero-mul (steps_of_one + fraction))) h
  where
    nothing : (z : ℤ) (m : ℕ) → m ≡ 0 → z ≡ z -ℤ pos m
    nothing z m e = omega (arith, ints, e)

-- ---- the first b

module _ {N : Type 0} (k n : ℕ) (near : ℤ) (parts : N → Parts) (size : ℕ) where
  abbrev NoneBelow : ℕ → Type 0
  NoneBelow most = (c a : ℤ) → unsigned_abs c < most → ¬ IsNear k n near a c

  pub stands_up : (x : N) → StandsAt k n near parts (pos size) (Some x) → StandsAtSize k n near parts size (Some x)
  stands_up x (a, is, reduced) = (a, pos size, is, reduced, refl, inl refl)

  pub stands_down : (r : Option N) → ((c : ℤ) → ¬ IsNear k n near c (pos size)) → StandsAt k n near parts (neg_ℤ (pos size)) r → StandsAtSize k n near parts size r
  stands_down (Some x) none (a, is, reduced) = (a, neg_ℤ (pos size), is, reduced, omega (arith, ints), inr none)
  stands_down None none down = λ a b e is. elim (one_of b e) [
    | inl up ↦ none a (subst (IsNear k n near a) up is)
    | inr low ↦ down a (subst (IsNear k n near a) low is)
  ]
    where
      one_of : (b : ℤ) → unsigned_abs b ≡ size → (b ≡ pos size) ⊎ (b ≡ neg_ℤ (pos size))
      one_of (pos m) e = inl (ap pos e)
      one_of (negsuc m) e = inr (ap (λ m. neg_ℤ (pos m)) e)

  pub first_here : (x : N) → NoneBelow size → size ≤ 1024 → StandsAtSize k n near parts size (Some x) → StandsFirst k n near parts (Some x)
  first_here x none small (a, b, is, reduced, e, side) = (
    a,
    b,
    record { near_enough = is; within = omega (arith, e, small); none_before = λ c y before near_c. earlier c y before near_c },
    reduced,
  )
    where
      earlier : (c y : ℤ) → ComesBefore c b → ¬ IsNear k n near y c
      earlier c y (inl less) = none c y (omega (arith, e, less))
      earlier c y (inr turned) = elim side [
        | inl up ↦ absurd (omega (arith, ints, up, turned.0, turned.1))
        | inr above ↦ λ near_c. above y (subst (IsNear k n near y) (omega (arith, ints, e, turned.0, turned.1)) near_c)
      ]

  pub none_here : NoneBelow size → StandsAtSize k n near parts size None → NoneBelow (size + 1)
  none_here none here c a less = elim (cases_lt (unsigned_abs c) size) [
    | inl below ↦ none c a below
    | inr from ↦ here a c (omega (arith, less, from))
  ]
