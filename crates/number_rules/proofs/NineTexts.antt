-- The texts of whole numbers of billionths: their digits, one after the other.
use Rattle.std.proofs.Common.{◌≡◌, ◌∙◌, refl, sym, ap, ℕ, ℤ, pos, negsuc, zero, suc, ◌<ℤ◌, ◌⊎◌, inl, inr, ◌+◌, ◌-◌, ◌*◌, ◌/◌, ◌%◌, ◌^◌, ◌<◌, ◌≤◌, List, [], ◌∷◌, ◌++◌, length, take, arith, Bool, true, false, append-nil, append_assoc}
use Rattle.std.specs.Prelude.{◌==◌, if◌then◌else◌, slice_set, unsigned_abs}
use Rattle.std.specs.Char.{IsAsciiDigit}
use Rattle.std.specs.Fmt.{decimal}
use Rattle.std.specs.List.{AllByRecursion}
use Rattle.std.proofs.lemmas.Bool.Decides.{nat_tests}
use Rattle.std.proofs.lemmas.Fmt.{decimal_by_steps_wide}
use Rattle.std.proofs.lemmas.Int.{ints}
use Rattle.std.proofs.lemmas.List.{take_more_set}
use Rattle.json_tree.specs.Number.{IsDigit1To9, AreDigits, IsInt, IsFraction, IsMinusOrNone, IsNumber}
use Rattle.number_rules.specs.Nine.{billion, digits_behind, fraction_text, size_text, nine_text}

zero_is : (n : ℕ) → n ≡ 0 → (n == 0) ≡ true
zero_is n e = grind (arith, nat_tests)

some_is : (n : ℕ) → ¬ (n ≡ 0) → (n == 0) ≡ false
some_is n e = grind (arith, nat_tests)

-- where nothing is left no digit follows
pub no_digits : (more left : ℕ) → left ≡ 0 → digits_behind more left ≡ []
unfolding digits_behind
no_digits zero left e = refl
no_digits (suc more) left e = ap (λ (t : Bool). if t then [] else ((48 + 10 * left / billion) ∷ digits_behind more (10 * left % billion))) (zero_is left e)

pub no_more_digits : (left : ℕ) → digits_behind 0 left ≡ []
unfolding digits_behind
no_more_digits left = refl

-- else the next digit does
pub next_digit : (more left : ℕ) → ¬ (left ≡ 0) → digits_behind (suc more) left ≡ (48 + 10 * left / billion) ∷ digits_behind more (10 * left % billion)
unfolding digits_behind
next_digit more left some = ap (λ (t : Bool). if t then [] else ((48 + 10 * left / billion) ∷ digits_behind more (10 * left % billion))) (some_is left some)

-- a digit is written behind the others
pub digit_more : (room : List ℕ) (count n left : ℕ) (whole : List ℕ) → count < length room → ¬ (left ≡ 0) → n < 9 → take count room ++ digits_behind (9 - n) left ≡ whole
    → take (count + 1) (slice_set room count (48 + 10 * left / billion)) ++ digits_behind (9 - (n + 1)) (10 * left % billion) ≡ whole
digit_more room count n left whole below some few e =
    let next : 9 - n ≡ suc (9 - (n + 1)) = omega arith in
    ap (λ (ds : List ℕ). ds ++ digits_behind (9 - (n + 1)) (10 * left % billion)) (take_more_set room count (48 + 10 * left / billion) below)
    ∙ append_assoc (take count room) ((48 + 10 * left / billion) ∷ []) (digits_behind (9 - (n + 1)) (10 * left % billion))
    ∙ ap (λ (ds : List ℕ). take count room ++ ds) (sym (next_digit (9 - (n + 1)) left some) ∙ ap (λ (m : ℕ). digits_behind m left) (sym next)) ∙ e

pub all_written : (room : List ℕ) (count n left : ℕ) (whole : List ℕ) → left ≡ 0 → take count room ++ digits_behind n left ≡ whole → take count room ≡ whole
all_written room count n left whole none e = sym (append-nil (take count room)) ∙ ap (λ (ds : List ℕ). take count room ++ ds) (sym (no_digits n left none)) ∙ e

pub nine_written : (room : List ℕ) (count n left : ℕ) (whole : List ℕ) → n ≡ 0 → take count room ++ digits_behind n left ≡ whole → take count room ≡ whole
nine_written room count n left whole none e =
    sym (append-nil (take count room)) ∙ ap (λ (ds : List ℕ). take count room ++ ds) (sym (ap (λ (m : ℕ). digits_behind m left) none ∙ no_more_digits left)) ∙ e

pub text_below_zero : (m : ℤ) → m <ℤ pos 0 → nine_text m ≡ 45 ∷ size_text (unsigned_abs m)
text_below_zero (pos n) h = absurd (omega (arith, ints, h))
text_below_zero (negsuc n) h = refl

-- the minus is the first byte
pub behind_minus : (room : List ℕ) (text : List ℕ) → 0 < length room → take 1 (slice_set room 0 45) ++ text ≡ 45 ∷ text
behind_minus room text some = ap (λ (ds : List ℕ). ds ++ text) (take_more_set room 0 45 some)

-- ---- the text of a whole number of billionths is a number text

grows : (P : ℕ → Type 0) (xs : List ℕ) (x : ℕ) → AllByRecursion P xs → P x → AllByRecursion P (xs ++ x ∷ [])
grows P [] x h hx = (hx, tt)
grows P (y ∷ xs) x h hx = (h.0, grows P xs x h.1 hx)

-- plain digits: `0` alone, or a first digit that is no zero
AreOf : ℕ → List ℕ → Type 0
AreOf n ds = ((n ≡ 0) × (ds ≡ 48 ∷ [])) ⊎ ((0 < n) × ((first : ℕ) × (rest : List ℕ) × (ds ≡ first ∷ rest) × IsDigit1To9 first × AreDigits rest))

digits_of : (n : ℕ) → n < 10 ^ 64 → AreOf n (decimal n)
unfolding AreOf
digits_of n h = decimal_by_steps_wide AreOf one more n h
  where
    one : (m : ℕ) → m < 10 → AreOf m ((48 + m) ∷ [])
    one zero small = inl (refl, refl)
    one (suc m) small = inr (omega arith, (48 + suc m, [], refl, (omega arith, omega arith), tt))

    more : (m : ℕ) (ds : List ℕ) → 10 ≤ m → AreOf (m / 10) ds → AreOf m (ds ++ ((48 + m % 10) ∷ []))
    more m ds ten (inl h) = absurd (omega (arith, ten, h.0))
    more m ds ten (inr h) =
        let e : ds ≡ h.1.0 ∷ h.1.1 = h.1.2 in
        inr (omega (arith, ten), (h.1.0, h.1.1 ++ ((48 + m % 10) ∷ []), ap (λ (xs : List ℕ). xs ++ ((48 + m % 10) ∷ [])) e, h.1.3, grows IsAsciiDigit h.1.1 (48 + m % 10) h.1.4 (omega arith, omega arith)))

decimal_is_int : (n : ℕ) → n < 10 ^ 64 → IsInt (decimal n)
unfolding AreOf
decimal_is_int n h = elim (digits_of n h) [ inl z ↦ inl z.1 | inr d ↦ inr d.1 ]

digit_is : (left : ℕ) → left < billion → IsAsciiDigit (48 + 10 * left / billion)
digit_is left h = (omega arith, omega (arith, h))

pub digits_are : (more left : ℕ) → left < billion → AreDigits (digits_behind more left)
unfolding digits_behind
digits_are zero left h = tt
digits_are (suc more) left h = by_test (left == 0) (digits_are more (10 * left % billion) (omega arith))
  where
    by_test : (t : Bool) → AreDigits (digits_behind more (10 * left % billion)) → AreDigits (if t then [] else ((48 + 10 * left / billion) ∷ digits_behind more (10 * left % billion)))
    by_test true rest = tt
    by_test false rest = (digit_is left h, rest)

fraction_is : (rest : ℕ) → rest < billion → IsFraction (fraction_text rest) ⊎ (fraction_text rest ≡ [])
fraction_is rest h = by_test (rest == 0) refl
  where
    no_test : true ≡ false → ⊥
    no_test e = cc

    by_test : (t : Bool) → (rest == 0) ≡ t → IsFraction (if t then [] else (46 ∷ digits_behind 9 rest)) ⊎ ((if t then [] else (46 ∷ digits_behind 9 rest)) ≡ [])
    by_test true e = inr refl
    by_test false e =
        inl (
          digits_behind 9 rest,
          refl,
          (
            48 + 10 * rest / billion,
            digits_behind 8 (10 * rest % billion),
            next_digit 8 rest (λ z. no_test (sym (zero_is rest z) ∙ e)),
            digit_is rest h,
            digits_are 8 (10 * rest % billion) (omega arith),
          ),
        )

size_is_number : (minus : List ℕ) (n : ℕ) → IsMinusOrNone minus → n < 10 ^ 64 → IsNumber (minus ++ (decimal (n / billion) ++ fraction_text (n % billion)))
size_is_number minus n sign h = (
  minus,
  decimal (n / billion),
  fraction_text (n % billion),
  [],
  sym (append_assoc minus (decimal (n / billion)) (fraction_text (n % billion))) ∙ sym (append-nil _),
  sign,
  decimal_is_int (n / billion) (omega (arith, h)),
  fraction_is (n % billion) (omega arith),
  inr refl,
)

pub nine_is_number : (m : ℤ) → unsigned_abs m < 10 ^ 64 → IsNumber (nine_text m)
nine_is_number (pos n) h = size_is_number [] n (inr refl) h
nine_is_number (negsuc n) h = size_is_number (45 ∷ []) (suc n) (inl refl) h
