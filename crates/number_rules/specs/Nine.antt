-- Numbers rounded to nine decimals, and the texts of these.
use Rattle.std.specs.Prelude.{◌≡◌, ℕ, ℤ, pos, negsuc, zero, suc, ◌+◌, ◌*◌, ◌/◌, ◌%◌, ◌^◌, ◌+ℤ◌, ◌-ℤ◌, ◌*ℤ◌, ◌≤◌, unsigned_abs, IsTrue, List, [], ◌∷◌, ◌++◌, ◌==◌, if◌then◌else◌}
use Rattle.std.specs.Fmt.{decimal}
use Rattle.std.specs.Ordering.{is_ge}
use Rattle.std.specs.declared.cmp.Ordering.{Ordering}
use Rattle.std.specs.declared.cmp.Ordering.TheVariants.{Less}
use Rattle.algebra.specs.LowestTerms.{Parts}
use Rattle.number_rules.specs.Rows.{sign_over}

-- a billion: a whole number has as many billionths
abbrev pub billion : ℕ
billion = 10 ^ 9

-- the sign of 2 10^9 x - h for x = (a + b√k) / q, by the whole numbers of q times that
abbrev pub sign_past : ℕ → Parts → ℤ → Ordering
sign_past k p h = sign_over k (pos (2 * billion) *ℤ p.a -ℤ h *ℤ p.q) (pos (2 * billion) *ℤ p.b)

-- m is 10^9 x rounded to a whole number, half up: 2 m - 1 <= 2 10^9 x < 2 m + 1
pub record IsNine (k : ℕ) (p : Parts) (m : ℤ) : Type 0 where
  pub not_below : IsTrue (is_ge (sign_past k p (pos 2 *ℤ m -ℤ pos 1)))
  pub below_next : sign_past k p (pos 2 *ℤ m +ℤ pos 1) ≡ Less

-- m is small enough to compute with, beside parts of at most 2^92
pub record IsInReach (p : Parts) (m : ℤ) : Type 0 where
  pub size : unsigned_abs m ≤ 2 ^ 125
  pub times : unsigned_abs m * unsigned_abs p.q ≤ 2 ^ 125

-- m is 10^9 x itself
pub record IsExactlyNine (p : Parts) (m : ℤ) : Type 0 where
  pub rational : p.b ≡ pos 0
  pub same : pos billion *ℤ p.a ≡ m *ℤ p.q

-- the digits of rest / 10^9 behind the point, until nothing is left, but no more than so many
unfoldable pub digits_behind : ℕ → ℕ → List ℕ
digits_behind zero rest = []
digits_behind (suc more) rest = if rest == 0 then [] else ((48 + 10 * rest / billion) ∷ digits_behind more (10 * rest % billion))

-- the point and these digits, where there is any
abbrev pub fraction_text : ℕ → List ℕ
fraction_text rest = if rest == 0 then [] else (46 ∷ digits_behind 9 rest)

-- n billionths in plain digits
abbrev pub size_text : ℕ → List ℕ
size_text n = decimal (n / billion) ++ fraction_text (n % billion)

-- m billionths, with a minus where that is below zero
abbrev pub nine_text : ℤ → List ℕ
nine_text (pos n) = size_text n
nine_text (negsuc n) = 45 ∷ size_text (suc n)

-- the text of a number, rounded to nine decimals
abbrev pub IsNineText : ℕ → Parts → List ℕ → Type 0
IsNineText k p text = (m : ℤ) × (IsNine k p m × (text ≡ nine_text m))
