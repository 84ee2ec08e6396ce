-- what a rule gives has short parts
use Prim.Native.Nat.{◌∣◌}
use native.Mathlib.Nat.{dvd-mul_left}
use Rattle.std.proofs.Common.{Bool, true, false, cond, filter, ◌≡◌, ℕ, zero, suc, ℤ, pos, negsuc, ◌*◌, ◌^◌, ◌<◌, ◌≤◌, ◌+ℤ◌, ◌-ℤ◌, ◌*ℤ◌, ◌<ℤ◌, ◌≤ℤ◌, List, [], ◌∷◌, refl, sym, ◌∙◌, ap, subst, inr, IsTrue, Result, Ok, arith}
use Rattle.std.specs.Prelude.{unsigned_abs, neg_ℤ, not}
use Rattle.std.specs.List.{AllByRecursion, AllZip}
use Rattle.std.specs.Ordering.{is_ge, is_le}
use Rattle.std.specs.declared.cmp.Ordering.{Ordering}
use Rattle.std.specs.declared.cmp.Ordering.TheVariants.{Less, Greater}
use Rattle.std.proofs.Math.Nat.{mul-le-mul_left, mul-le-mul}
use Rattle.std.proofs.lemmas.Int.{ints, unsigned_abs-mul}
use Rattle.algebra.specs.LowestTerms.{Parts, IsReduced}
use Rattle.algebra.specs.Order.{int_sign}
use Rattle.algebra.specs.Surd.{by_norm}
use Rattle.algebra.proofs.Euclid.{common_factor}
use Rattle.algebra.proofs.Integers.{integers}
use Rattle.algebra.proofs.Solvers.{reads_integers, ring_from, multiple, no_equation, sign_from, known, no_sign, not_negative, positive, sum, product, square, number, given}
use Rattle.number_rules.specs.ExactText.{AreShort}
use Rattle.number_rules.specs.Rounded.{IsRounded, steps_of_one}
use Rattle.number_rules.specs.Rows.{Gives, IsPast, IsNear, sign_over, denominator_of}
use Rattle.number_rules.specs.declared.decimal.Decimal.{Decimal}
use Rattle.number_rules.specs.declared.unread.Row.{Row}
use Rattle.number_rules.specs.declared.unread.Row.TheVariants.{Exact, Grid, Root}
use Rattle.number_rules.specs.declared.unread.Unread.{Unread}
use Rattle.cp_lines.specs.declared.line.CpLine.{CpLine}
use Rattle.scaled_plane.specs.declared.drawing.Ends.{Ends}
use Rattle.scaled_plane.specs.declared.point.Pair.{Pair}
use Rattle.scaled_plane.proofs.Quotients.{narrow_of}
use Rattle.crease_input.specs.Files.{HasShortParts}
use Rattle.crease_input.specs.Lines.{Answers, IsPoint, IsCrease, AnswersEnds, points}
use Rattle.crease_input.specs.Points.{is_at, firsts}
use Rattle.crease_input.specs.declared.crease.Crease.{Crease}

-- ---- in lowest terms a part is no larger

short_of : (p r : Parts) → pos 0 <ℤ p.q → IsReduced p r → unsigned_abs p.a ≤ 2 ^ 92
    → unsigned_abs p.b ≤ 2 ^ 92 → unsigned_abs p.q ≤ 2 ^ 92 → AreShort r
short_of p r above reduced a b q =
    let narrow = narrow_of p r above reduced a b q in
    record { a = narrow.a_within; b = narrow.b_within; q = narrow.q_within }

divides_multiple : (d : ℕ) (a t : ℤ) → a ≡ t *ℤ pos d → d ∣ unsigned_abs a
divides_multiple d a t h =
    subst (λ (n : ℕ). d ∣ n) (sym (ap unsigned_abs h ∙ unsigned_abs-mul t (pos d))) (dvd-mul_left d (unsigned_abs t))

quotient_multiple : (a b q c d r u v w : ℤ) → pos 1 ≡ u *ℤ a +ℤ v *ℤ b +ℤ w *ℤ q → c *ℤ q ≡ a *ℤ r
    → d *ℤ q ≡ b *ℤ r → r ≡ q *ℤ (u *ℤ c +ℤ v *ℤ d +ℤ w *ℤ r)
quotient_multiple a b q c d r u v w e f g =
    ring_from integers (a ∷ b ∷ q ∷ c ∷ d ∷ r ∷ u ∷ v ∷ w ∷ []) (multiple r (search reads_integers depth 40 fits 50000) (search reads_integers depth 40 fits 50000) (search reads_integers depth 40 fits 50000) e (multiple (neg_ℤ u) (search reads_integers depth 40 fits 50000) (search reads_integers depth 40 fits 50000) (search reads_integers depth 40 fits 50000) f (multiple (neg_ℤ v) (search reads_integers depth 40 fits 50000) (search reads_integers depth 40 fits 50000) (search reads_integers depth 40 fits 50000) g no_equation))) (search reads_integers depth 40 fits 50000) (search reads_integers depth 40 fits 50000) tt

some_factor : (n d m : ℕ) → 1 ≤ n → n ≡ d * m → d ≤ n
some_factor n d zero h e = absurd (omega (arith, h, e))
some_factor n d (suc m) h e = omega (arith, e, mul-le-mul_left {m = 1} {n = suc m} d (omega arith))

-- the denominator in lowest terms is no larger
small_denominator : (p r : Parts) → pos 0 <ℤ p.q → IsReduced p r → unsigned_abs r.q ≤ unsigned_abs p.q
small_denominator p r above h =
    let f = common_factor r in
    let one : f.g ≡ 1 =
    h.lowest.coprime f.g (divides_multiple f.g r.a f.rest.a f.of_a) (divides_multiple f.g r.b f.rest.b f.of_b)
    (divides_multiple f.g r.q f.rest.q f.of_q) in
    let m : ℤ = f.u *ℤ p.a +ℤ f.v *ℤ p.b +ℤ f.w *ℤ p.q in
    let times : p.q ≡ r.q *ℤ m =
    quotient_multiple r.a r.b r.q p.a p.b p.q f.u f.v f.w (ap pos (sym one) ∙ f.combined) h.same.rational h.same.irrational in
    let size : unsigned_abs p.q ≡ unsigned_abs r.q * unsigned_abs m = ap unsigned_abs times ∙ unsigned_abs-mul r.q m in
    some_factor (unsigned_abs p.q) (unsigned_abs r.q) (unsigned_abs m) (omega (arith, ints, above)) size

no_multiple : (b n : ℤ) → 1 ≤ unsigned_abs n → pos 0 ≡ b *ℤ n → unsigned_abs b ≤ 0
no_multiple b n some e =
    let size : 0 ≡ unsigned_abs b * unsigned_abs n = ap unsigned_abs e ∙ unsigned_abs-mul b n in
    omega (arith, size, mul-le-mul_left {m = 1} {n = unsigned_abs n} (unsigned_abs b) some)

-- ---- a number with a root lies near its first part, for roots below 2

square_of : (x : ℤ) → x *ℤ x ≡ pos (unsigned_abs x) *ℤ pos (unsigned_abs x)
square_of (pos n) = refl
square_of (negsuc n) = refl

above_zero : (n : ℤ) → pos 0 <ℤ n → int_sign n ≡ Greater
above_zero (pos (suc n)) h = refl
above_zero (pos zero) h = absurd (omega (arith, ints, h))
above_zero (negsuc n) h = absurd (omega (arith, ints, h))

not_below : (n : ℤ) → pos 0 ≤ℤ n → IsTrue (is_ge (int_sign n))
not_below (pos zero) h = refl
not_below (pos (suc n)) h = refl
not_below (negsuc n) h = absurd (omega (arith, ints, h))

outweighs : (s d c : ℤ) → IsTrue (is_ge (int_sign s)) → int_sign d ≡ Greater → IsTrue (is_ge (int_sign c))
    → int_sign ((pos 2 *ℤ s +ℤ d) *ℤ (pos 2 *ℤ s +ℤ d) -ℤ (pos 3 -ℤ c) *ℤ (s *ℤ s)) ≡ Greater
outweighs s d c hs hd hc =
    sign_from integers (s ∷ d ∷ c ∷ [])
    (known not_negative (search reads_integers depth 20) hs (known positive (search reads_integers depth 20) hd (known not_negative (search reads_integers depth 20) hc no_sign)))
    positive (search reads_integers depth 40 fits 50000)
    (sum (sum (product (given 1) (given 1)) (product (number (pos 4)) (product (given 0) (given 1)))) (sum (square (given 0)) (product (given 2) (square (given 0))))) tt tt

large_norm : (k : ℕ) (x y : ℤ) → k ≤ 3 → 2 * unsigned_abs y < unsigned_abs x
    → int_sign (x *ℤ x -ℤ pos k *ℤ (y *ℤ y)) ≡ Greater
large_norm k x y small far =
    let s : ℤ = pos (unsigned_abs y) in
    let d : ℤ = pos (unsigned_abs x) -ℤ pos 2 *ℤ s in
    let c : ℤ = pos 3 -ℤ pos k in
    let size : pos (unsigned_abs x) ≡ pos 2 *ℤ s +ℤ d = back (pos (unsigned_abs x)) (pos 2 *ℤ s) in
    let radicand : pos k ≡ pos 3 -ℤ c = taken (pos k) in
    ap int_sign (ap (λ (t : ℤ). t -ℤ pos k *ℤ (y *ℤ y)) (square_of x ∙ ap (λ (t : ℤ). t *ℤ t) size)
    ∙ ap (λ (t : ℤ). (pos 2 *ℤ s +ℤ d) *ℤ (pos 2 *ℤ s +ℤ d) -ℤ pos k *ℤ t) (square_of y)
    ∙ ap (λ (t : ℤ). (pos 2 *ℤ s +ℤ d) *ℤ (pos 2 *ℤ s +ℤ d) -ℤ t *ℤ (s *ℤ s)) radicand)
    ∙ outweighs s d c (not_below s (omega (arith, ints))) (above_zero d (omega (arith, ints, far)))
    (not_below c (omega (arith, ints, small)))
  where
    back : (x y : ℤ) → x ≡ y +ℤ (x -ℤ y)
    back x y = omega (arith, ints)

    taken : (x : ℤ) → x ≡ pos 3 -ℤ (pos 3 -ℤ x)
    taken x = omega (arith, ints)

-- the sign of the first part decides where it is more than twice the second
first_decides : (k : ℕ) (x y : ℤ) → k ≤ 3 → 2 * unsigned_abs y < unsigned_abs x → sign_over k x y ≡ int_sign x
first_decides k x y small far =
    ap (λ (s : Ordering). by_norm s (int_sign x) (int_sign y)) (large_norm k x y small far)

at_most : (m n : ℕ) → ¬ (n < m) → m ≤ n
at_most m n h = grind arith

not_far_below : (k : ℕ) (x y : ℤ) → k ≤ 3 → IsTrue (is_ge (sign_over k x y)) → neg_ℤ (pos (2 * unsigned_abs y)) ≤ℤ x
not_far_below k (pos n) y small h = omega (arith, ints)
not_far_below k (negsuc n) y small h =
    let near : unsigned_abs (negsuc n) ≤ 2 * unsigned_abs y =
    at_most (unsigned_abs (negsuc n)) (2 * unsigned_abs y) (λ far.
    let clash : IsTrue (is_ge Less) = subst (λ (s : Ordering). IsTrue (is_ge s)) (first_decides k (negsuc n) y small far) h in cc) in
    omega (arith, ints, near)

not_far_above : (k : ℕ) (x y : ℤ) → k ≤ 3 → IsTrue (is_le (sign_over k x y)) → x ≤ℤ pos (2 * unsigned_abs y)
not_far_above k (negsuc n) y small h = omega (arith, ints)
not_far_above k (pos zero) y small h = omega (arith, ints)
not_far_above k (pos (suc n)) y small h =
    let near : unsigned_abs (pos (suc n)) ≤ 2 * unsigned_abs y =
    at_most (unsigned_abs (pos (suc n))) (2 * unsigned_abs y) (λ far.
    let clash : IsTrue (is_le Greater) = subst (λ (s : Ordering). IsTrue (is_le s)) (first_decides k (pos (suc n)) y small far) h in cc) in
    omega (arith, ints, near)

-- ---- rows

exact_short : (near : ℤ) (r : Parts)
    → IsReduced (record { a = near; b = pos 0; q = pos steps_of_one }) r → unsigned_abs r.a ≤ 2 ^ 62 → AreShort r
exact_short near r reduced a =
    let p : Parts = record { a = near; b = pos 0; q = pos steps_of_one } in
    let q = small_denominator p r (omega (arith, ints)) reduced in
    let none : pos 0 ≡ r.b *ℤ pos steps_of_one = omega (arith, ints, reduced.same.irrational) in
    let b = no_multiple r.b (pos steps_of_one) (omega arith) none in
    record { a = omega (arith, a); b = omega (arith, b); q = omega (arith, q) }

times_size : (n : ℕ) (near : ℤ) → n ≤ 1000000 → unsigned_abs near ≤ 2 ^ 30 * steps_of_one
    → unsigned_abs (pos n *ℤ near) ≤ 1000000 * (2 ^ 30 * steps_of_one)
times_size n near h j = omega (arith, unsigned_abs-mul (pos n) near, mul-le-mul h j)

grid_short : (n : ℕ) (near m : ℤ) (r : Parts) → 0 < n → n ≤ 1000000 → unsigned_abs near ≤ 2 ^ 30 * steps_of_one
    → IsRounded (pos n *ℤ near) steps_of_one m
    → IsReduced (record { a = m; b = pos 0; q = pos n }) r → AreShort r
grid_short n near m r some most small rounded reduced =
    let size = times_size n near most small in
    let whole : unsigned_abs m ≤ 2 ^ 92 = omega (arith, ints, size, rounded.0, rounded.1) in
    short_of (record { a = m; b = pos 0; q = pos n }) r (omega (arith, ints, some)) reduced whole (omega arith)
    (omega (arith, most))

root_short : (k n : ℕ) (near a b : ℤ) (r : Parts) → k ≤ 3 → 0 < n → n ≤ 1000000
    → unsigned_abs near ≤ 2 ^ 30 * steps_of_one → IsNear k n near a b → unsigned_abs b ≤ 1024
    → IsReduced (record { a = a; b = b; q = pos n }) r → AreShort r
root_short k n near a b r three some most small is within reduced =
    let size = times_size n near most small in
    let root : unsigned_abs (b *ℤ pos steps_of_one) ≤ 1024 * steps_of_one =
    omega (arith, unsigned_abs-mul b (pos steps_of_one), within) in
    let low = not_far_below k _ _ three is.not_below in
    let high = not_far_above k _ _ three is.not_above in
    let first : unsigned_abs a ≤ 2 ^ 92 = omega (arith, ints, size, root, low, high, most) in
    short_of (record { a = a; b = b; q = pos n }) r (omega (arith, ints, some)) reduced first (omega (arith, within))
    (omega (arith, most))

near_enough : (d : Decimal) → ¬ IsPast d → unsigned_abs d.near ≤ 2 ^ 30 * steps_of_one
near_enough d h = at_most (unsigned_abs d.near) (2 ^ 30 * steps_of_one) (λ past. h (inr past))

-- what a row gives for a decimal
pub row_short : (k : ℕ) (row : Row) (d : Decimal) (r : Parts) → k ≤ 3 → 0 < denominator_of row
    → denominator_of row ≤ 1000000 → Gives k row d r → AreShort r
row_short k Exact d r three some most gives = exact_short d.near r gives.2 gives.3
row_short k (Grid n) d r three some most gives =
    grid_short n d.near gives.1.0 r some most (near_enough d gives.0) gives.1.1 gives.1.2
row_short k (Root n) d r three some most gives =
    root_short k n d.near gives.1.0 gives.1.1 r three some most (near_enough d gives.0) gives.1.2.near_enough
    gives.1.2.within gives.1.3

-- ---- vertices

module _ {N : Type 0} (k : ℕ) (parts : N → Parts) (row : Row) (gives : Decimal → Result N Unread → Type 0)
    (three : k ≤ 3) (some : 0 < denominator_of row) (most : denominator_of row ≤ 1000000) where
  abbrev answers : List ℕ → Result N Unread → Type 0
  answers = Answers k parts row gives

  pub number_short : (text : List ℕ) (x : N) → answers text (Ok x) → AreShort (parts x)
  number_short text x is = row_short k row is.decimal (parts x) three some most is.by_row

  point_short : (x y : List ℕ) (p : Pair N) → IsPoint answers x y p → HasShortParts parts p
  point_short x y p is = (number_short x p.x is.0, number_short y p.y is.1)

  all_short : (lines : List CpLine) (creases : List (Crease N)) → AllZip (IsCrease answers) lines creases
      → AllByRecursion (HasShortParts parts) (points creases)
  all_short [] [] are = tt
  all_short [] (c ∷ cs) are = absurd are
  all_short (l ∷ ls) [] are = absurd are
  all_short (l ∷ ls) (c ∷ cs) are = (
    point_short l.x1 l.y1 c.from are.0.from,
    (point_short l.x2 l.y2 c.to are.0.to, all_short ls cs are.1),
  )

  all_filtered : (P : Pair N → Type 0) (p : Pair N → Bool) (xs : List (Pair N)) → AllByRecursion P xs
      → AllByRecursion P (filter p xs)
  all_filtered P p [] all = tt
  all_filtered P p (x ∷ xs) all = at (p x) (all_filtered P p xs all.1)
    where
      at : (b : Bool) → AllByRecursion P (filter p xs)
          → AllByRecursion P (cond b (x ∷ filter p xs) (filter p xs))
      at true rest = (all.0, rest)
      at false rest = rest

  all_firsts : (P : Pair N → Type 0) (ps : List (Pair N)) → AllByRecursion P ps
      → AllByRecursion P (firsts parts ps)
  all_firsts P [] all = tt
  all_firsts P (p ∷ ps) all =
      (all.0, all_filtered P (λ r. not (is_at parts p r)) (firsts parts ps) (all_firsts P ps all.1))

  -- all vertices of lines that are read have short parts
  pub ends_short : (lines : List CpLine) (ends : Ends N) → AnswersEnds parts answers lines (Ok ends)
      → AllByRecursion (HasShortParts parts) ends.coords
  ends_short lines ends is =
      subst (AllByRecursion (HasShortParts parts)) (sym (ap (λ e. e.coords) is.2))
      (all_firsts (HasShortParts parts) (points is.0) (all_short lines is.0 is.1))
