-- A number that is cut, as a decimal.
use Rattle.std.proofs.Common.{◌≡◌, ℕ, ℤ, pos, negsuc, zero, suc, ◌+◌, ◌*◌, ◌^◌, ◌<◌, ◌≤◌, ◌-ℤ◌, ◌<ℤ◌, refl, sym, ◌∙◌, ap, subst, arith, Bool, true, false, ◌⊎◌, inl, inr, mul-one, mul_comm, lit<, lit≤, le_trans, le_refl, zero-mul, le-mul_of_pos_right, pow-suc, add-mul, mul_assoc}
use Rattle.std.proofs.lemmas.Bool.{cases_lt}
use Rattle.std.proofs.Math.Nat.{one-le-pow, pow-le-pow_right}
use Rattle.std.specs.Prelude.{min, unsigned_abs, cond}
use Rattle.std.proofs.lemmas.Int.{ints}
use Rattle.number_rules.specs.Value.{with_sign, above_zero, below_zero}
use Rattle.number_rules.specs.Rounded.{steps_of_one}
use Rattle.number_rules.specs.Rounded.{Keeps, IsSteps}
use Rattle.number_rules.specs.Cut.{IsTail, Stands, IsCut, Shows, cap, rounds_up, is_exact, rounded}
use Rattle.number_rules.specs.declared.decimal.Decimal.{Decimal}
use Rattle.number_rules.specs.declared.cut.Cut.{Cut}
use Rattle.number_rules.specs.declared.cut.Tail.{Tail}
use Rattle.number_rules.specs.declared.cut.Tail.TheVariants.{Nothing, Zero}
use Rattle.number_rules.proofs.Rounding.{is_rounded, is_exactly, stands, stands_times}
use Rattle.number_rules.proofs.Cuts.{nothing_cut}

abbrev pub limit : ℕ
limit = 2 ^ 62 * steps_of_one

limit_below_cap : limit < cap
limit_below_cap = lit< tt

pub size_of_sign : (negative : Bool) (n : ℕ) → unsigned_abs (with_sign negative n) ≡ n
size_of_sign false n = refl
size_of_sign true zero = refl
size_of_sign true (suc n) = refl

rounded_from : (negative : Bool) (tail : Tail) (s : ℕ) → s ≤ rounded negative tail s
rounded_from negative tail s = one (rounds_up negative tail) s
  where
    one : (b : Bool) (s : ℕ) → s ≤ cond b (s + 1) s
    one true s = omega arith
    one false s = omega arith

-- what is kept of the size tells whether it is past the limit, and is the size where it isn't
same_or_past : (negative : Bool) (tail : Tail) (s kept size : ℕ) → kept ≡ min s cap → size ≡ rounded negative tail kept
    → (size ≡ rounded negative tail s) ⊎ ((limit < size) × (limit < rounded negative tail s))
same_or_past negative tail s kept size k e = elim (cases_lt s cap) [
  | inl less ↦ inl (e ∙ ap (rounded negative tail) (k ∙ least s cap (omega (arith, less))))
  | inr more ↦ inr (subst (λ n. limit < n) (sym e) (past kept (limit_below (k ∙ most s cap more))), past s (omega (arith, more, limit_below_cap)))
]
  where
    least : (s c : ℕ) → s ≤ c → min s c ≡ s
    least s c h = omega (arith, h)

    most : (s c : ℕ) → c ≤ s → min s c ≡ c
    most s c h = omega (arith, h)

    limit_below : {n : ℕ} → n ≡ cap → limit < n
    limit_below e = subst (λ n. limit < n) (sym e) limit_below_cap

    past : (s : ℕ) → limit < s → limit < rounded negative tail s
    past s h = omega (arith, h, rounded_from negative tail s)

-- a size as a decimal
abbrev pub Holds : Bool → ℕ → Bool → Decimal → Type 0
Holds negative size exact x =
    (limit < size → x ≡ record { far = true; near = pos 0; exact = false })
    × (size ≤ limit → x ≡ record { far = false; near = with_sign negative size; exact = exact })

kept_size : (n d s rest : ℕ) (tail : Tail) (negative : Bool) (size : ℕ) (x : Decimal) → n ≡ s * d + rest → Stands rest d tail
    → ((size ≡ rounded negative tail s) ⊎ ((limit < size) × (limit < rounded negative tail s))) → Holds negative size (is_exact tail) x → IsSteps (with_sign negative n) d x
kept_size n d s rest tail negative size x e t kept holds = (
  with_sign negative (rounded negative tail s),
  is_rounded n d s rest tail negative e t,
  elim (cases_lt limit size) [
    | inr small ↦ subst (λ y. Keeps (with_sign negative n) d (with_sign negative (rounded negative tail s)) y.far y.near y.exact) (sym (holds.1 small))
        (elim kept [
          | inl same ↦ (subst (λ m. m ≤ limit) (same ∙ sym (size_of_sign negative (rounded negative tail s))) small, ap (with_sign negative) same, is_exactly n d s rest tail negative e t)
          | inr past ↦ absurd (omega (arith, small, past.0))
        ])
    | inl large ↦ subst (λ y. Keeps (with_sign negative n) d (with_sign negative (rounded negative tail s)) y.far y.near y.exact) (sym (holds.0 large))
        (elim kept [
          | inl same ↦ (subst (λ m. limit < m) (same ∙ sym (size_of_sign negative (rounded negative tail s))) large, refl, refl)
          | inr past ↦ (subst (λ m. limit < m) (sym (size_of_sign negative (rounded negative tail s))) past.1, refl, refl)
        ])
  ],
)

-- ---- zeros for the digits that are left

times_at_least : (n p most : ℕ) → most ≤ n → 1 ≤ p → most ≤ n * p
times_at_least n p most h one = le_trans h (le-mul_of_pos_right n one)

at_most : (n most : ℕ) → most ≤ n → min n most ≡ most
at_most n most h = omega (arith, h)

pub kept_zeros : (whole kept left : ℕ) → kept ≡ min whole cap → min (kept * 10 ^ min left 38) cap ≡ min (whole * 10 ^ left) cap
kept_zeros whole kept left k = elim (cases_lt 38 left) [
  | inr few ↦ subst (λ m. min (kept * 10 ^ m) cap ≡ min (whole * 10 ^ left) cap) (sym (least left 38 few)) (elim (cases_lt whole cap) [
    | inl small ↦ ap (λ w. min (w * 10 ^ left) cap) (k ∙ least whole cap (omega (arith, small)))
    | inr large ↦
        at_most (kept * 10 ^ left) cap (times_at_least kept (10 ^ left) cap (subst (λ w. cap ≤ w) (sym (k ∙ at_most whole cap large)) (le_refl cap)) (one-le-pow left 10 (omega arith)))
        ∙ sym (at_most (whole * 10 ^ left) cap (times_at_least whole (10 ^ left) cap large (one-le-pow left 10 (omega arith))))
  ])
  | inl many ↦ subst (λ m. min (kept * 10 ^ m) cap ≡ min (whole * 10 ^ left) cap) (sym (at_most left 38 (omega (arith, many)))) (of_many whole k many)
]
  where
    least : (s c : ℕ) → s ≤ c → min s c ≡ s
    least s c h = omega (arith, h)

    positive : (w : ℕ) → 1 ≤ min (suc w) cap
    positive w = elim (cases_lt (suc w) cap) [
      | inl h ↦ subst (λ n. 1 ≤ n) (sym (least (suc w) cap (omega (arith, h)))) (omega arith)
      | inr h ↦ subst (λ n. 1 ≤ n) (sym (at_most (suc w) cap h)) (lit≤ tt)
    ]

    of_many : (whole : ℕ) → kept ≡ min whole cap → 38 < left → min (kept * 10 ^ 38) cap ≡ min (whole * 10 ^ left) cap
    of_many zero k many =
        let none : kept ≡ 0 = k ∙ least 0 cap (omega arith) in
        ap (λ w. min (w * 10 ^ 38) cap) none ∙ ap (λ n. min n cap) (zero-mul (10 ^ 38) ∙ sym (zero-mul (10 ^ left)))
    of_many (suc w) k many =
        let some : 1 ≤ kept = subst (λ n. 1 ≤ n) (sym k) (positive w) in
        at_most (kept * 10 ^ 38) cap (subst (λ n. cap ≤ n) (mul_comm cap kept) (times_at_least cap kept cap (le_refl cap) some))
        ∙ sym (at_most (suc w * 10 ^ left) cap (subst (λ n. cap ≤ n) (mul_comm (10 ^ left) (suc w)) (times_at_least (10 ^ left) (suc w) cap (pow-le-pow_right {n = 10} (omega arith) {i = 38} {j = left} (omega (arith, many))) (omega arith))))

-- with the zeros, a number is so many whole steps and the same rest
pub finished : (n whole rest : ℕ) (place : ℤ) (tail : Tail) → n ≡ whole * 10 ^ below_zero place + rest → IsTail rest (10 ^ below_zero place) tail
    → n * 10 ^ above_zero place ≡ (whole * 10 ^ above_zero place) * 10 ^ below_zero place + rest
finished n whole rest (pos left) tail e t =
    let none : rest ≡ 0 = (nothing_cut rest tail t).0 in
    let same : n ≡ whole = omega (arith, e, none) in
    ap (λ m. m * 10 ^ left) same ∙ sym (ap (λ r. (whole * 10 ^ left) * 1 + r) none ∙ all (whole * 10 ^ left))
  where
    all : (m : ℕ) → m * 1 + 0 ≡ m
    all m = omega arith
finished n whole rest (negsuc behind) tail e t = mul-one n ∙ e ∙ ap (λ w. w * 10 ^ suc behind + rest) (sym (mul-one whole))

factored : (n whole p rest f : ℕ) → n ≡ whole * p + rest → n * f ≡ whole * (p * f) + rest * f
factored n whole p rest f e = ap (λ m. m * f) e ∙ add-mul (whole * p) rest f ∙ ap (λ m. m + rest * f) (mul_assoc whole p f)

pub decided : (n count : ℕ) (before : ℤ) (cut : Cut) (negative : Bool) (steps size : ℕ) (x : Decimal) → Shows n count before cut
    → steps ≡ min (cut.whole * 10 ^ min cut.left 38) cap → size ≡ rounded negative cut.tail steps → Holds negative size (is_exact cut.tail) x
    → (f : ℕ) → 0 < f → IsSteps (with_sign negative (n * 10 ^ above_zero (before -ℤ pos count) * f)) (10 ^ below_zero (before -ℤ pos count) * f) x
decided n count before cut negative steps size x shows s z holds f some =
    let c = shows.whole in
    let place : ℤ = before -ℤ pos count in
    let whole : ℕ = c.0 * 10 ^ cut.left in
    let zeros : steps ≡ min whole cap = s ∙ kept_zeros c.0 cut.whole cut.left c.4 in
    let sum : n * 10 ^ cut.left ≡ whole * 10 ^ below_zero place + c.1 =
    subst (λ l. n * 10 ^ l ≡ (c.0 * 10 ^ l) * 10 ^ below_zero place + c.1) (sym shows.left) (finished n c.0 c.1 place cut.tail c.2 c.3) in
    subst (λ l. IsSteps (with_sign negative (n * 10 ^ l * f)) (10 ^ below_zero place * f) x) shows.left
    (kept_size (n * 10 ^ cut.left * f) (10 ^ below_zero place * f) whole (c.1 * f) cut.tail negative size x (factored (n * 10 ^ cut.left) whole (10 ^ below_zero place) c.1 f sum)
    (stands_times c.1 (10 ^ below_zero place) f cut.tail some (stands c.1 (10 ^ below_zero place) cut.tail c.3)) (same_or_past negative cut.tail whole steps size zeros z) holds)

-- before the first digit
none_whole : (kept : ℤ) → kept ≡ kept -ℤ pos 0
none_whole kept = omega (arith, ints)

pub begins_whole : (kept : ℤ) (cut : Cut) → cut.left ≡ above_zero kept → below_zero kept ≡ 0 → cut.whole ≡ 0 → cut.tail ≡ Nothing → Shows 0 0 kept cut
begins_whole kept cut l b w t = record {
  left = l ∙ ap above_zero (none_whole kept);
  whole = subst (λ k. IsCut 0 k cut.whole cut.tail) (sym b ∙ ap below_zero (none_whole kept))
      (subst (λ m. IsCut 0 0 m cut.tail) (sym w) (subst (λ m. IsCut 0 0 0 m) (sym t) (0, 0, refl, (refl, refl), refl)));
}

behind : (kept : ℤ) (m : ℕ) (cut : Cut) → kept ≡ negsuc m → cut.left ≡ 0 → cut.whole ≡ 0 → cut.tail ≡ Zero → Shows 0 0 kept cut
behind kept m cut e l w t = record {
  left = l ∙ ap above_zero (sym e ∙ none_whole kept);
  whole = subst (λ k. IsCut 0 (below_zero k) cut.whole cut.tail) (sym e ∙ none_whole kept)
      (subst (λ n. IsCut 0 (suc m) n cut.tail) (sym w) (subst (λ n. IsCut 0 (suc m) 0 n) (sym t)
      (0, 0, sym (zero_sum (10 ^ suc m)), (5 * 10 ^ m, half (10 ^ m) (10 ^ suc m) (pow-suc 10 m), some (10 ^ m) (one-le-pow m 10 (omega arith)), refl), refl)));
}
  where
    zero_sum : (p : ℕ) → 0 * p + 0 ≡ 0
    zero_sum p = omega arith

    half : (p q : ℕ) → q ≡ p * 10 → q ≡ 2 * (5 * p)
    half p q e = omega (arith, e)

    some : (p : ℕ) → 1 ≤ p → 0 < 5 * p
    some p h = omega (arith, h)

pub begins_behind : (kept : ℤ) (cut : Cut) → kept <ℤ pos 0 → cut.left ≡ 0 → cut.whole ≡ 0 → cut.tail ≡ Zero → Shows 0 0 kept cut
begins_behind (pos n) cut h l w t = absurd (omega (arith, ints, h))
begins_behind (negsuc m) cut h l w t = behind (negsuc m) m cut refl l w t
