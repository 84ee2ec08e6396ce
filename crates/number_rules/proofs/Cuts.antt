-- One more digit of a number that is cut.
use Rattle.std.proofs.Common.{◌≡◌, ℕ, ℤ, pos, negsuc, zero, suc, ◌+◌, ◌-◌, ◌*◌, ◌^◌, ◌<◌, ◌≤◌, ◌-ℤ◌, refl, sym, ◌∙◌, ap, subst, arith, mul_left_comm, mul_comm, pow-suc, lit<, add-one}
use Rattle.std.proofs.lemmas.Int.{ints}
use Rattle.std.specs.Prelude.{min}
use Rattle.number_rules.specs.Value.{above_zero, below_zero}
use Rattle.number_rules.specs.Cut.{IsTail, IsCut, Shows, cap}
use Rattle.number_rules.specs.declared.cut.Cut.{Cut}
use Rattle.number_rules.proofs.Digits.{kept_more}
use Rattle.number_rules.specs.declared.cut.Tail.{Tail}
use Rattle.number_rules.specs.declared.cut.Tail.TheVariants.{Nothing, Zero, BelowHalf, Half, AboveHalf}

pub first_zero : (rest d digit : ℕ) → digit ≡ 0 → IsTail rest d Nothing → IsTail (10 * rest + digit) (10 * d) Zero
first_zero rest d digit e t = (5, omega (arith, t.1), omega arith, omega (arith, t.0, e))

pub first_below : (rest d digit : ℕ) → 0 < digit → digit < 5 → IsTail rest d Nothing → IsTail (10 * rest + digit) (10 * d) BelowHalf
first_below rest d digit a b t = (5, omega (arith, t.1), omega (arith, t.0), omega (arith, t.0))

pub first_half : (rest d digit : ℕ) → digit ≡ 5 → IsTail rest d Nothing → IsTail (10 * rest + digit) (10 * d) Half
first_half rest d digit e t = (5, omega (arith, t.1), omega arith, omega (arith, t.0, e))

pub first_above : (rest d digit : ℕ) → 5 < digit → digit < 10 → IsTail rest d Nothing → IsTail (10 * rest + digit) (10 * d) AboveHalf
first_above rest d digit a b t = (5, omega (arith, t.1), omega (arith, t.0), omega (arith, t.0, t.1))

pub zero_zero : (rest d digit : ℕ) → digit ≡ 0 → IsTail rest d Zero → IsTail (10 * rest + digit) (10 * d) Zero
zero_zero rest d digit e t = (10 * t.0, omega (arith, t.1), omega (arith, t.2), omega (arith, t.3, e))

pub zero_below : (rest d digit : ℕ) → 0 < digit → digit < 10 → IsTail rest d Zero → IsTail (10 * rest + digit) (10 * d) BelowHalf
zero_below rest d digit a b t = (10 * t.0, omega (arith, t.1), omega arith, omega (arith, t.2, t.3))

pub below_below : (rest d digit : ℕ) → digit < 10 → IsTail rest d BelowHalf → IsTail (10 * rest + digit) (10 * d) BelowHalf
below_below rest d digit b t = (10 * t.0, omega (arith, t.1), omega (arith, t.2), omega (arith, t.3))

pub half_half : (rest d digit : ℕ) → digit ≡ 0 → IsTail rest d Half → IsTail (10 * rest + digit) (10 * d) Half
half_half rest d digit e t = (10 * t.0, omega (arith, t.1), omega (arith, t.2), omega (arith, t.3, e))

pub half_above : (rest d digit : ℕ) → 0 < digit → digit < 10 → IsTail rest d Half → IsTail (10 * rest + digit) (10 * d) AboveHalf
half_above rest d digit a b t = (10 * t.0, omega (arith, t.1), omega (arith, t.3), omega (arith, t.1, t.2, t.3))

pub above_above : (rest d digit : ℕ) → digit < 10 → IsTail rest d AboveHalf → IsTail (10 * rest + digit) (10 * d) AboveHalf
above_above rest d digit b t = (10 * t.0, omega (arith, t.1), omega (arith, t.2), omega (arith, t.3))

-- ---- the place of the point

shift : (before : ℤ) (count : ℕ) → before -ℤ pos (count + 1) ≡ (before -ℤ pos count) -ℤ pos 1
shift before count = omega (arith, ints)

left_of : (z : ℤ) → 0 < above_zero z → (above_zero (z -ℤ pos 1) ≡ above_zero z - 1) × (below_zero z ≡ 0) × (below_zero (z -ℤ pos 1) ≡ 0)
left_of (pos zero) h = absurd (omega arith)
left_of (pos (suc n)) h =
    let e : pos (suc n) -ℤ pos 1 ≡ pos n = omega (arith, ints) in
    (ap above_zero e ∙ omega arith, refl, ap below_zero e)
left_of (negsuc n) h = absurd (omega arith)

right_of : (z : ℤ) → above_zero z ≡ 0 → (above_zero (z -ℤ pos 1) ≡ 0) × (below_zero (z -ℤ pos 1) ≡ below_zero z + 1)
right_of (pos zero) h =
    let e : pos 0 -ℤ pos 1 ≡ negsuc 0 = omega (arith, ints) in
    (ap above_zero e, ap below_zero e)
right_of (pos (suc n)) h = absurd (omega arith)
right_of (negsuc n) h =
    let e : negsuc n -ℤ pos 1 ≡ negsuc (suc n) = omega (arith, ints) in
    (ap above_zero e, ap below_zero e ∙ omega arith)

-- ---- one digit of a number

pub nothing_cut : (rest : ℕ) (tail : Tail) → IsTail rest 1 tail → (rest ≡ 0) × IsTail 0 1 tail
nothing_cut rest Nothing t = (t.0, (refl, refl))
nothing_cut rest Zero t = absurd (omega (arith, t.1))
nothing_cut rest BelowHalf t = absurd (omega (arith, t.1))
nothing_cut rest Half t = absurd (omega (arith, t.1))
nothing_cut rest AboveHalf t = absurd (omega (arith, t.1))

whole_digit : (n digit kept : ℕ) (tail : Tail) → IsCut n 0 kept tail → IsCut (10 * n + digit) 0 (min (10 * kept + digit) cap) tail
whole_digit n digit kept tail (whole, rest, e, t, k) =
    let none = nothing_cut rest tail t in
    (10 * whole + digit, 0, omega (arith, e, none.0), none.1, ap (λ m. min (10 * m + digit) cap) k ∙ kept_more whole cap digit (lit< tt))

cut_digit : (n digit behind kept : ℕ) (tail next : Tail) → ((rest d : ℕ) → IsTail rest d tail → IsTail (10 * rest + digit) (10 * d) next)
    → IsCut n behind kept tail → IsCut (10 * n + digit) (behind + 1) kept next
cut_digit n digit behind kept tail next step (whole, rest, e, t, k) =
    let power : 10 ^ (behind + 1) ≡ 10 * 10 ^ behind = ap (λ k. 10 ^ k) (add-one behind) ∙ pow-suc 10 behind ∙ mul_comm (10 ^ behind) 10 in
    (whole, 10 * rest + digit, rw (power, e) (omega (arith, mul_left_comm whole 10 (10 ^ behind))), subst (λ d. IsTail (10 * rest + digit) d next) (sym power) (step rest (10 ^ behind) t), k)

pub whole_taken : (n count digit : ℕ) (before : ℤ) (old new : Cut) → 0 < old.left → new.left ≡ old.left - 1 → new.whole ≡ min (10 * old.whole + digit) cap → new.tail ≡ old.tail
    → Shows n count before old → Shows (10 * n + digit) (count + 1) before new
whole_taken n count digit before old new some left whole tail shows =
    let place = left_of (before -ℤ pos count) (subst (λ l. 0 < l) shows.left some) in
    record {
      left = left ∙ ap (λ l. l - 1) shows.left ∙ sym (ap above_zero (shift before count) ∙ place.0);
      whole =
          let cut : IsCut n 0 old.whole old.tail = subst (λ b. IsCut n b old.whole old.tail) place.1 shows.whole in
          subst (λ b. IsCut (10 * n + digit) b new.whole new.tail) (sym (ap below_zero (shift before count) ∙ place.2))
          (subst (λ w. IsCut (10 * n + digit) 0 w new.tail) (sym whole) (subst (λ t. IsCut (10 * n + digit) 0 (min (10 * old.whole + digit) cap) t) (sym tail) (whole_digit n digit old.whole old.tail cut)));
    }

pub cut_taken : (n count digit : ℕ) (before : ℤ) (old new : Cut) → old.left ≡ 0 → new.left ≡ old.left → new.whole ≡ old.whole
    → ((rest d : ℕ) → IsTail rest d old.tail → IsTail (10 * rest + digit) (10 * d) new.tail)
    → Shows n count before old → Shows (10 * n + digit) (count + 1) before new
cut_taken n count digit before old new none left whole step shows =
    let place = right_of (before -ℤ pos count) (sym shows.left ∙ none) in
    record {
      left = left ∙ none ∙ sym (ap above_zero (shift before count) ∙ place.0);
      whole =
          subst (λ b. IsCut (10 * n + digit) b new.whole new.tail) (sym (ap below_zero (shift before count) ∙ place.1))
          (subst (λ w. IsCut (10 * n + digit) (below_zero (before -ℤ pos count) + 1) w new.tail) (sym whole)
          (cut_digit n digit (below_zero (before -ℤ pos count)) old.whole old.tail new.tail step shows.whole));
    }

-- ---- zeros for the digits that are left

pub zero_more : (whole kept count : ℕ) → kept ≡ min (whole * 10 ^ count) cap → min (10 * kept) cap ≡ min (whole * 10 ^ (count + 1)) cap
zero_more whole kept count e =
    let power : whole * 10 ^ (count + 1) ≡ 10 * (whole * 10 ^ count) = ap (λ k. whole * 10 ^ k) (add-one count) ∙ ap (λ p. whole * p) (pow-suc 10 count) ∙ ap (λ p. whole * p) (mul_comm (10 ^ count) 10) ∙ mul_left_comm whole 10 (10 ^ count) in
    ap (λ m. min (10 * m) cap) e ∙ limit (whole * 10 ^ count) cap ∙ ap (λ m. min m cap) (sym power)
  where
    limit : (n most : ℕ) → min (10 * min n most) most ≡ min (10 * n) most
    limit n most = grind arith

pub no_zeros : (whole : ℕ) → whole ≤ cap → whole ≡ min (whole * 1) cap
no_zeros whole h = omega (arith, h)
