-- what the bytes of numbers are
use Rattle.std.proofs.Common.{◌≡◌, ◌≢◌, ℕ, zero, suc, ◌<◌, List, [], ◌∷◌, ◌++◌, refl, arith, ◌⊎◌, inl, inr, Some, IsTrue, Bool, true, false}
use Rattle.std.specs.List.{AllByRecursion}
use Rattle.std.specs.Char.{IsAsciiDigit}
use Rattle.std.specs.Str.{IsAscii}
use Rattle.std.proofs.lemmas.Bool.Decides.{nat_tests}
use Rattle.json_tree.specs.Number.{AreDigits, IsMinusOrNone, IsInt, AreSomeDigits, IsFraction, IsSignOrNone, IsExponent, IsNumber}
use Rattle.json_tree.specs.Scan.{at_first_digit, after_int, at_digit, next, begins_number, is_number}
use Rattle.json_tree.specs.declared.phase.Phase.{Phase}
use Rattle.json_tree.specs.declared.phase.Phase.TheVariants.{Start, Minus, Zero, Digits, Point, Fraction, Exponent, Sign, ExponentDigits}
use Rattle.json_tree.proofs.Numbers.{number_test, begins_test}

-- ASCII, and no blank, no comma and no closing bracket or brace
abbrev pub IsPlain : ℕ → Type 0
IsPlain b = (32 < b) × (b ≢ 44) × (b ≢ 93) × (b ≢ 125) × (b < 128)

plain : (b : ℕ) → (32 < b) × (b ≢ 44) × (b < 93) ⊎ ((b ≡ 101) ⊎ (b ≡ 69)) → IsPlain b
plain b (inl h) = (h.0, h.1, (λ e. omega arith), (λ e. omega arith), omega arith)
plain b (inr (inl e)) = (omega arith, (λ x. omega arith), (λ x. omega arith), (λ x. omega arith), omega arith)
plain b (inr (inr e)) = (omega arith, (λ x. omega arith), (λ x. omega arith), (λ x. omega arith), omega arith)

digit_plain : (b : ℕ) → IsAsciiDigit b → IsPlain b
digit_plain b d = plain b (inl (omega arith, (λ e. omega arith), omega arith))

plain_joined : (s t : List ℕ) → AllByRecursion IsPlain s → AllByRecursion IsPlain t → AllByRecursion IsPlain (s ++ t)
plain_joined [] t a b = b
plain_joined (x ∷ s) t a b = (a.0, plain_joined s t a.1 b)

plain_digits : (text : List ℕ) → AreDigits text → AllByRecursion IsPlain text
plain_digits [] a = tt
plain_digits (b ∷ text) a = (digit_plain b a.0, plain_digits text a.1)

plain_some_digits : (text : List ℕ) → AreSomeDigits text → AllByRecursion IsPlain text
plain_some_digits text d = rw d.2 (digit_plain d.0 d.3, plain_digits d.1 d.4)

plain_minus : (text : List ℕ) → IsMinusOrNone text → AllByRecursion IsPlain text
plain_minus text (inl e) = rw e (plain 45 (inl (omega arith, (λ e. omega arith), omega arith)), tt)
plain_minus text (inr e) = rw e tt

plain_int : (text : List ℕ) → IsInt text → AllByRecursion IsPlain text
plain_int text (inl e) = rw e (plain 48 (inl (omega arith, (λ e. omega arith), omega arith)), tt)
plain_int text (inr d) = rw d.2 (digit_plain d.0 (omega arith, omega arith), plain_digits d.1 d.4)

plain_fraction : (text : List ℕ) → IsFraction text ⊎ (text ≡ []) → AllByRecursion IsPlain text
plain_fraction text (inl f) = rw f.1 (plain 46 (inl (omega arith, (λ e. omega arith), omega arith)), plain_some_digits f.0 f.2)
plain_fraction text (inr e) = rw e tt

plain_sign : (text : List ℕ) → IsSignOrNone text → AllByRecursion IsPlain text
plain_sign text (inl e) = rw e (plain 45 (inl (omega arith, (λ e. omega arith), omega arith)), tt)
plain_sign text (inr (inl e)) = rw e (plain 43 (inl (omega arith, (λ e. omega arith), omega arith)), tt)
plain_sign text (inr (inr e)) = rw e tt

plain_exponent : (text : List ℕ) → IsExponent text ⊎ (text ≡ []) → AllByRecursion IsPlain text
plain_exponent text (inl x) = rw x.3 (plain x.0 (inr x.4), plain_joined x.1 x.2 (plain_sign x.1 x.5) (plain_some_digits x.2 x.6))
plain_exponent text (inr e) = rw e tt

pub number_plain : (text : List ℕ) → IsNumber text → AllByRecursion IsPlain text
number_plain text n =
    rw n.4 (plain_joined (n.0 ++ n.1 ++ n.2) n.3 (plain_joined (n.0 ++ n.1) n.2 (plain_joined n.0 n.1 (plain_minus n.0 n.5) (plain_int n.1 n.6)) (plain_fraction n.2 n.7)) (plain_exponent n.3 n.8))

pub empty_number : IsNumber [] → ⊥
empty_number n = let test : IsTrue (is_number []) = (number_test []).1 n in cc

last_plain : (s : List ℕ) (b : ℕ) (t : List ℕ) → AllByRecursion IsPlain ((s ++ b ∷ []) ++ t) → IsPlain b
last_plain [] b t a = a.0
last_plain (x ∷ s) b t a = last_plain s b t a.1

small_bytes : (text : List ℕ) → AllByRecursion IsPlain text → IsAscii text
small_bytes [] a i = omega arith
small_bytes (b ∷ text) a zero = a.0.4
small_bytes (b ∷ text) a (suc i) = small_bytes text a.1 i

-- the text of a number is ASCII
pub number_ascii : (text : List ℕ) → IsNumber text → IsAscii text
number_ascii text n = small_bytes text (number_plain text n)

-- no number goes on with another byte
pub number_ends : (text : List ℕ) (b : ℕ) → ¬ IsPlain b → begins_number (text ++ b ∷ []) ≡ false
number_ends text b other = by_test (begins_number (text ++ b ∷ [])) refl
  where
    by_test : (r : Bool) → begins_number (text ++ b ∷ []) ≡ r → begins_number (text ++ b ∷ []) ≡ false
    by_test false e = e
    by_test true e = let begun = (begins_test (text ++ b ∷ [])).0 e in absurd (other (last_plain text b begun.0 (number_plain _ begun.1)))

visible : (text : List ℕ) → AllByRecursion IsPlain text → AllByRecursion (λ b. 32 < b) text
visible [] a = tt
visible (b ∷ text) a = (a.0.0, visible text a.1)

-- no byte of a number is a space or a control character
pub number_bytes : (text : List ℕ) → IsNumber text → AllByRecursion (λ b. 32 < b) text
number_bytes text n = visible text (number_plain text n)

ascii_start : (b : ℕ) (after : Phase) → Some after ≡ next Start b → b < 128
ascii_start b after e = grind (arith, nat_tests)

ascii_first : (b : ℕ) (after : Phase) → Some after ≡ at_first_digit b → b < 128
ascii_first b after e = grind (arith, nat_tests)

ascii_after_int : (b : ℕ) (after : Phase) → Some after ≡ after_int b → b < 128
ascii_after_int b after e = grind (arith, nat_tests)

ascii_digits : (b : ℕ) (after : Phase) → Some after ≡ next Digits b → b < 128
ascii_digits b after e = grind (arith, nat_tests)

ascii_fraction : (b : ℕ) (after : Phase) → Some after ≡ next Fraction b → b < 128
ascii_fraction b after e = grind (arith, nat_tests)

ascii_exponent : (b : ℕ) (after : Phase) → Some after ≡ next Exponent b → b < 128
ascii_exponent b after e = grind (arith, nat_tests)

ascii_digit : (phase : Phase) (b : ℕ) (after : Phase) → Some after ≡ at_digit phase b → b < 128
ascii_digit phase b after e = grind (arith, nat_tests)

-- the bytes of numbers are ASCII
pub ascii_taken : (phase : Phase) (b : ℕ) (after : Phase) → Some after ≡ next phase b → b < 128
ascii_taken Start b after e = ascii_start b after e
ascii_taken Minus b after e = ascii_first b after e
ascii_taken Zero b after e = ascii_after_int b after e
ascii_taken Digits b after e = ascii_digits b after e
ascii_taken Point b after e = ascii_digit Fraction b after e
ascii_taken Fraction b after e = ascii_fraction b after e
ascii_taken Exponent b after e = ascii_exponent b after e
ascii_taken Sign b after e = ascii_digit ExponentDigits b after e
ascii_taken ExponentDigits b after e = ascii_digit ExponentDigits b after e
