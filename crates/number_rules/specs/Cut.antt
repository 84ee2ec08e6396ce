-- A number while its digits are taken from the first on: its whole steps, and how what is cut off
-- stands to half a step.
use Rattle.std.specs.Prelude.{Bool, true, false, not, cond, ◌≡◌, ℕ, ℤ, pos, ◌+◌, ◌*◌, ◌^◌, ◌<◌, ◌-ℤ◌, min}
use Rattle.number_rules.specs.Value.{above_zero, below_zero}
use Rattle.number_rules.specs.declared.cut.Tail.{Tail}
use Rattle.number_rules.specs.declared.cut.Tail.TheVariants.{Nothing, Zero, BelowHalf, Half, AboveHalf}
use Rattle.number_rules.specs.declared.cut.Cut.{Cut}

-- how rest, which is below d, stands to half of d. Where a digit was cut off d is even: 2 * half
abbrev pub IsTail : ℕ → ℕ → Tail → Type 0
IsTail rest d Nothing = (rest ≡ 0) × (d ≡ 1)
IsTail rest d Zero = (half : ℕ) × (d ≡ 2 * half) × (0 < half) × (rest ≡ 0)
IsTail rest d BelowHalf = (half : ℕ) × (d ≡ 2 * half) × (0 < rest) × (rest < half)
IsTail rest d Half = (half : ℕ) × (d ≡ 2 * half) × (0 < half) × (rest ≡ half)
IsTail rest d AboveHalf = (half : ℕ) × (d ≡ 2 * half) × (half < rest) × (rest < d)

-- the same of any rest and d, of which nothing more is said
abbrev pub Stands : ℕ → ℕ → Tail → Type 0
Stands rest d Nothing = (0 < d) × (rest ≡ 0)
Stands rest d Zero = (0 < d) × (rest ≡ 0)
Stands rest d BelowHalf = (0 < rest) × (2 * rest < d)
Stands rest d Half = (0 < rest) × (2 * rest ≡ d)
Stands rest d AboveHalf = (rest < d) × (d < 2 * rest)

-- past every number of steps that is read
abbrev pub cap : ℕ
cap = 10 ^ 38

-- n is so many digits, with `behind` of them behind the point
abbrev pub IsCut : ℕ → ℕ → ℕ → Tail → Type 0
IsCut n behind kept tail = (whole rest : ℕ) × (n ≡ whole * 10 ^ behind + rest) × IsTail rest (10 ^ behind) tail × (kept ≡ min whole cap)

-- of a number n with so many digits, `before` digits are to stand before the point, or zeros behind
-- it
pub record Shows (n count : ℕ) (before : ℤ) (cut : Cut) : Type 0 where
  pub left : cut.left ≡ above_zero (before -ℤ pos count)
  pub whole : IsCut n (below_zero (before -ℤ pos count)) cut.whole cut.tail

-- whether what is cut off rounds a size up: numbers are rounded half up, so sizes below zero half
-- down
abbrev pub rounds_up : Bool → Tail → Bool
rounds_up negative Nothing = false
rounds_up negative Zero = false
rounds_up negative BelowHalf = false
rounds_up negative Half = not negative
rounds_up negative AboveHalf = true

-- whether nothing but zeros is cut off
abbrev pub is_exact : Tail → Bool
is_exact Nothing = true
is_exact Zero = true
is_exact BelowHalf = false
is_exact Half = false
is_exact AboveHalf = false

-- a size, rounded
abbrev pub rounded : Bool → Tail → ℕ → ℕ
rounded negative tail size = cond (rounds_up negative tail) (size + 1) size
