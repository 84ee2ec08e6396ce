-- The value of a nine-decimal text: its digits spell the number of billionths.
use Rattle.std.proofs.Common.{◌≡◌, ◌∙◌, refl, sym, ap, ap₂, subst, ℕ, ℤ, pos, negsuc, zero, suc, ◌*ℤ◌, ◌+◌, ◌-◌, ◌*◌, ◌/◌, ◌%◌, ◌^◌, ◌<◌, ◌≤◌, List, [], ◌∷◌, ◌++◌, arith, Bool, true, false, append_assoc}
use Rattle.std.proofs.Math.Nat.{pow-suc}
use Rattle.std.specs.Prelude.{◌==◌, if◌then◌else◌, neg_ℤ, unsigned_abs}
use Rattle.std.specs.Char.{is_ascii_digit}
use Rattle.std.specs.Fmt.{decimal}
use Rattle.std.specs.List.{AllByRecursion}
use Rattle.std.proofs.lemmas.Bool.Decides.{nat_tests}
use Rattle.std.proofs.lemmas.Fmt.{decimal_by_steps_wide}
use Rattle.std.proofs.lemmas.Int.{ints}
use Rattle.algebra.proofs.Integers.{integers}
use Rattle.algebra.proofs.Solvers.{ring, reads_integers}
use Rattle.json_tree.specs.Number.{AreDigits}
use Rattle.number_rules.specs.Nine.{billion, digits_behind, size_text, nine_text}
use Rattle.number_rules.specs.Value.{is_e, mantissa, exponent, with_digit, with_digits, spelled, begins_with_minus, with_sign, signed, count_digits, places, above_zero, below_zero, numerator, denominator}
use Rattle.number_rules.proofs.NineTexts.{no_digits, no_more_digits, next_digit, digits_are}

-- ---- no byte is an `e`

-- digits, points and minuses stand below the letters
abbrev IsLow : ℕ → Type 0
IsLow b = b ≤ 57

not_e : (b : ℕ) → IsLow b → is_e b ≡ false
not_e b h = grind (arith, nat_tests)

whole_mantissa : (text : List ℕ) → AllByRecursion IsLow text → mantissa text ≡ text
whole_mantissa [] h = refl
whole_mantissa (b ∷ text) h = ap (λ (t : Bool). if t then [] else (b ∷ mantissa text)) (not_e b h.0) ∙ ap (λ (xs : List ℕ). b ∷ xs) (whole_mantissa text h.1)

no_exponent : (text : List ℕ) → AllByRecursion IsLow text → exponent text ≡ []
no_exponent [] h = refl
no_exponent (b ∷ text) h = ap (λ (t : Bool). if t then text else exponent text) (not_e b h.0) ∙ no_exponent text h.1

low_both : (xs ys : List ℕ) → AllByRecursion IsLow xs → AllByRecursion IsLow ys → AllByRecursion IsLow (xs ++ ys)
low_both [] ys h k = k
low_both (x ∷ xs) ys h k = (h.0, low_both xs ys h.1 k)

-- ---- digits and what stands behind them

with_digits-append : (n : ℕ) (xs ys : List ℕ) → with_digits n (xs ++ ys) ≡ with_digits (with_digits n xs) ys
with_digits-append n [] ys = refl
with_digits-append n (x ∷ xs) ys = with_digits-append (with_digit n x) xs ys

digit_test : (d : ℕ) → d < 10 → is_ascii_digit (48 + d) ≡ true
digit_test d h = grind (arith, nat_tests)

taken : (n d : ℕ) → d < 10 → with_digit n (48 + d) ≡ 10 * n + d
taken n d h = let e : 48 + d - 48 ≡ d = omega arith in ap (λ (t : Bool). if t then 10 * n + (48 + d - 48) else n) (digit_test d h) ∙ ap (λ (x : ℕ). 10 * n + x) e

not_point : (b : ℕ) → 48 ≤ b → (b == 46) ≡ false
not_point b h = grind (arith, nat_tests)

-- what plain digits are: low bytes, no minus, no point
pub record AreHead (n : ℕ) (ds : List ℕ) : Type 0 where
  pub low : AllByRecursion IsLow ds
  pub spells : with_digits 0 ds ≡ n
  pub behind : (ys : List ℕ) → places (ds ++ ys) ≡ places ys
  pub no_minus : (ys : List ℕ) → begins_with_minus (ds ++ ys) ≡ false

head_of : (n : ℕ) → n < 10 ^ 64 → AreHead n (decimal n)
head_of n h = decimal_by_steps_wide AreHead one more n h
  where
    not_minus : (b : ℕ) → 48 ≤ b → (b == 45) ≡ false
    not_minus b h = grind (arith, nat_tests)

    one : (m : ℕ) → m < 10 → AreHead m ((48 + m) ∷ [])
    one m small = record {
      low = (omega arith, tt);
      spells = taken 0 m small ∙ omega arith;
      behind = λ ys. ap (λ (t : Bool). if t then count_digits ys else places ys) (not_point (48 + m) (omega arith));
      no_minus = λ ys. not_minus (48 + m) (omega arith);
    }

    more : (m : ℕ) (ds : List ℕ) → 10 ≤ m → AreHead (m / 10) ds → AreHead m (ds ++ ((48 + m % 10) ∷ []))
    more m ds ten before = record {
      low = low_both ds ((48 + m % 10) ∷ []) before.low (omega arith, tt);
      spells = with_digits-append 0 ds ((48 + m % 10) ∷ []) ∙ ap (λ (x : ℕ). with_digit x (48 + m % 10)) before.spells ∙ taken (m / 10) (m % 10) (omega arith) ∙ omega arith;
      behind = λ ys. ap places (append_assoc ds ((48 + m % 10) ∷ []) ys) ∙ before.behind ((48 + m % 10) ∷ ys)
          ∙ ap (λ (t : Bool). if t then count_digits ys else places ys) (not_point (48 + m % 10) (omega arith));
      no_minus = λ ys. ap begins_with_minus (append_assoc ds ((48 + m % 10) ∷ []) ys) ∙ before.no_minus ((48 + m % 10) ∷ ys);
    }

-- ---- the digits behind the point

-- how what is spelled stands to n and what is left, as the digits end only where nothing is left
abbrev Spells : ℕ → ℕ → List ℕ → Type 0
Spells n left ds = with_digits n ds * billion ≡ (n * billion + left) * 10 ^ count_digits ds

nothing_behind : (n left : ℕ) → left ≡ 0 → Spells n left []
nothing_behind n left e = omega (arith, e)

digit_behind : (n left q r : ℕ) (ds : List ℕ) → q < 10 → 10 * left ≡ q * billion + r → Spells (10 * n + q) r ds → Spells n left ((48 + q) ∷ ds)
digit_behind n left q r ds small e spells =
    let y : ℕ = 10 ^ count_digits ds in
    let one_more : count_digits ((48 + q) ∷ ds) ≡ suc (count_digits ds) = ap (λ (t : Bool). if t then 1 + count_digits ds else count_digits ds) (digit_test q small) ∙ omega arith in
    let power : 10 ^ count_digits ((48 + q) ∷ ds) ≡ y * 10 = ap (λ (c : ℕ). 10 ^ c) one_more ∙ pow-suc 10 (count_digits ds) in
    ap (λ (x : ℕ). with_digits x ds * billion) (taken n q small) ∙ spells ∙ same n left q r y e ∙ ap (λ (x : ℕ). (n * billion + left) * x) (sym power)
  where
    same : (n left q r y : ℕ) → 10 * left ≡ q * billion + r → ((10 * n + q) * billion + r) * y ≡ (n * billion + left) * (y * 10)
    same n left q r y e = omega (arith, ap (λ (t : ℕ). t * y) e)

divided_on : (left q r w x : ℕ) → 10 * left ≡ q * billion + r → left * (x * 10) ≡ w * billion → r * x ≡ (w - q * x) * billion
divided_on left q r w x e d = omega (arith, d, ap (λ (t : ℕ). t * x) e)

behind_value : (more left n w : ℕ) → left < billion → left * 10 ^ more ≡ w * billion → Spells n left (digits_behind more left)
behind_value zero left n w below d =
    subst (Spells n left) (sym (no_more_digits left)) (nothing_behind n left (omega (arith, d, below)))
behind_value (suc more) left n w below d = by_test (left == 0) refl (behind_value more (10 * left % billion) (10 * n + 10 * left / billion) (w - 10 * left / billion * 10 ^ more) (omega arith)
    (divided_on left (10 * left / billion) (10 * left % billion) w (10 ^ more) (omega arith) (ap (λ (t : ℕ). left * t) (sym (pow-suc 10 more)) ∙ d)))
  where
    is_zero : (x : ℕ) → (x == 0) ≡ true → x ≡ 0
    is_zero x e = grind (arith, nat_tests)

    is_some : (x : ℕ) → (x == 0) ≡ false → ¬ (x ≡ 0)
    is_some x e = grind (arith, nat_tests)

    by_test : (t : Bool) → (left == 0) ≡ t → Spells (10 * n + 10 * left / billion) (10 * left % billion) (digits_behind more (10 * left % billion)) → Spells n left (digits_behind (suc more) left)
    by_test true e rest = subst (Spells n left) (sym (no_digits (suc more) left (is_zero left e))) (nothing_behind n left (is_zero left e))
    by_test false e rest =
        subst (Spells n left) (sym (next_digit more left (is_some left e)))
        (digit_behind n left (10 * left / billion) (10 * left % billion) (digits_behind more (10 * left % billion)) (omega (arith, below)) (omega arith) rest)

digits_low : (ds : List ℕ) → AreDigits ds → AllByRecursion IsLow ds
digits_low [] h = tt
digits_low (d ∷ ds) h = (h.0.1, digits_low ds h.1)

-- ---- a whole number of billionths

pub record AreSize (n : ℕ) (text : List ℕ) : Type 0 where
  pub low : AllByRecursion IsLow text
  pub value : with_digits 0 text * billion ≡ n * 10 ^ places text
  pub no_minus : begins_with_minus text ≡ false

size_of : (n : ℕ) → n < 10 ^ 64 → AreSize n (size_text n)
size_of n h = by_test (n % billion == 0) refl
  where
    head : AreHead (n / billion) (decimal (n / billion))
    head = head_of (n / billion) (omega (arith, h))

    spelled_first : (ys : List ℕ) → with_digits 0 (decimal (n / billion) ++ ys) ≡ with_digits (n / billion) ys
    spelled_first ys = with_digits-append 0 (decimal (n / billion)) ys ∙ ap (λ (x : ℕ). with_digits x ys) head.spells

    is_zero : (x : ℕ) → (x == 0) ≡ true → x ≡ 0
    is_zero x e = grind (arith, nat_tests)

    by_test : (t : Bool) → (n % billion == 0) ≡ t → AreSize n (decimal (n / billion) ++ (if t then [] else (46 ∷ digits_behind 9 (n % billion))))
    by_test true e =
        let none : n % billion ≡ 0 = is_zero (n % billion) e in
        record {
          low = low_both (decimal (n / billion)) [] head.low tt;
          value = ap (λ (x : ℕ). x * billion) (spelled_first []) ∙ whole n none ∙ ap (λ (p : ℕ). n * 10 ^ p) (sym (head.behind []));
          no_minus = head.no_minus [];
        }
      where
        whole : (n : ℕ) → n % billion ≡ 0 → n / billion * billion ≡ n * 1
        whole n none = omega (arith, none)
    by_test false e =
        let ds : List ℕ = digits_behind 9 (n % billion) in
        let spells : Spells (n / billion) (n % billion) ds = behind_value 9 (n % billion) (n / billion) (n % billion) (omega arith) refl in
        record {
          low = low_both (decimal (n / billion)) (46 ∷ ds) head.low (omega arith, digits_low ds (digits_are 9 (n % billion) (omega arith)));
          value = ap (λ (x : ℕ). x * billion) (spelled_first (46 ∷ ds)) ∙ spells ∙ ap (λ (x : ℕ). x * 10 ^ count_digits ds) (joined n) ∙ ap (λ (p : ℕ). n * 10 ^ p) (sym (head.behind (46 ∷ ds)));
          no_minus = head.no_minus (46 ∷ ds);
        }
      where
        joined : (n : ℕ) → n / billion * billion + n % billion ≡ n
        joined n = omega arith

-- ---- without an exponent

numerator_is : (text : List ℕ) → AllByRecursion IsLow text → numerator text ≡ signed text *ℤ pos 1
numerator_is text low = ap₂ (λ (xs ys : List ℕ). signed xs *ℤ pos (10 ^ above_zero (signed ys))) (whole_mantissa text low) (no_exponent text low)

denominator_is : (text : List ℕ) → AllByRecursion IsLow text → denominator text ≡ 10 ^ places text
denominator_is text low = ap₂ (λ (xs ys : List ℕ). 10 ^ (below_zero (signed ys) + places xs)) (whole_mantissa text low) (no_exponent text low) ∙ ap (λ (p : ℕ). 10 ^ p) (none_more (places text))
  where
    none_more : (p : ℕ) → 0 + p ≡ p
    none_more p = omega arith

pub nine_value : (m : ℤ) → unsigned_abs m < 10 ^ 64 → numerator (nine_text m) *ℤ pos billion ≡ m *ℤ pos (denominator (nine_text m))
nine_value (pos n) h =
    let size : AreSize n (size_text n) = size_of n h in
    ap (λ (x : ℤ). x *ℤ pos billion) (numerator_is (size_text n) size.low ∙ ap (λ (t : Bool). with_sign t (spelled (size_text n)) *ℤ pos 1) size.no_minus) ∙ above (spelled (size_text n)) n (10 ^ places (size_text n)) size.value
    ∙ ap (λ (d : ℕ). pos n *ℤ pos d) (sym (denominator_is (size_text n) size.low))
  where
    above : (s n d : ℕ) → s * billion ≡ n * d → (pos s *ℤ pos 1) *ℤ pos billion ≡ pos n *ℤ pos d
    above s n d e = ap pos (omega (arith, e))
nine_value (negsuc n) h =
    let size : AreSize (suc n) (size_text (suc n)) = size_of (suc n) h in
    let low : AllByRecursion IsLow (45 ∷ size_text (suc n)) = (omega arith, size.low) in
    ap (λ (x : ℤ). x *ℤ pos billion) (numerator_is (45 ∷ size_text (suc n)) low) ∙ below (spelled (size_text (suc n))) n (10 ^ places (size_text (suc n))) size.value
    ∙ ap (λ (d : ℕ). negsuc n *ℤ pos d) (sym (denominator_is (45 ∷ size_text (suc n)) low))
  where
    below : (s n d : ℕ) → s * billion ≡ suc n * d → (neg_ℤ (pos s) *ℤ pos 1) *ℤ pos billion ≡ negsuc n *ℤ pos d
    below s n d e = minus_both (pos s) (pos (suc n)) (pos d) (ap pos e)
      where
        first : (s : ℤ) → (neg_ℤ s *ℤ pos 1) *ℤ pos 1000000000 ≡ neg_ℤ (s *ℤ pos 1000000000)
        first s = omega (arith, ints)

        last : (n d : ℤ) → neg_ℤ (n *ℤ d) ≡ neg_ℤ n *ℤ d
        last n d = ring integers (n ∷ d ∷ []) (search reads_integers depth 20) (search reads_integers depth 20) tt

        minus_both : (s n d : ℤ) → s *ℤ pos billion ≡ n *ℤ d → (neg_ℤ s *ℤ pos 1) *ℤ pos billion ≡ neg_ℤ n *ℤ d
        minus_both s n d e = first s ∙ ap neg_ℤ e ∙ last n d
