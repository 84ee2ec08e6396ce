-- The table of rules: what each gives for a decimal, or why it refuses it.
use Rattle.std.specs.Prelude.{◌≡◌, ℕ, ℤ, pos, ◌+◌, ◌*◌, ◌^◌, ◌<◌, ◌≤◌, ◌+ℤ◌, ◌-ℤ◌, ◌*ℤ◌, neg_ℤ, ◌<ℤ◌, unsigned_abs, IsTrue, IsFalse, ◌⊎◌, Result, Ok, Err}
use Rattle.std.specs.Int.{div_ceil}
use Rattle.std.specs.Ordering.{is_ge, is_le}
use Rattle.std.specs.declared.cmp.Ordering.{Ordering}
use Rattle.algebra.specs.LowestTerms.{Parts, IsReduced}
use Rattle.algebra.specs.Order.{int_sign}
use Rattle.algebra.specs.Integers.{int_ops}
use Rattle.algebra.specs.Surd.{surd_sign}
use Rattle.number_rules.specs.Rounded.{IsRounded, steps_of_one}
use Rattle.number_rules.specs.declared.decimal.Decimal.{Decimal}
use Rattle.number_rules.specs.declared.unread.Unread.{Unread}
use Rattle.number_rules.specs.declared.unread.Unread.TheVariants.{Far, Fine, NoRoot, ExactText}
use Rattle.number_rules.specs.declared.unread.Row.{Row}
use Rattle.number_rules.specs.declared.unread.Row.TheVariants.{Exact, Grid, Root}

-- too far for a grid or a root
abbrev pub IsPast : Decimal → Type 0
IsPast d = IsTrue d.far ⊎ (2 ^ 30 * steps_of_one < unsigned_abs d.near)

-- the decimal's value, before lowest terms
abbrev pub decimal_parts : Decimal → Parts
decimal_parts d = record { a = d.near; b = pos 0; q = pos steps_of_one }

-- the sign of x + y√k
abbrev pub sign_over : ℕ → ℤ → ℤ → Ordering
sign_over k x y = surd_sign int_ops (pos k) int_sign (record { a = x; b = y })

-- (a + b√k) / n is at distance at most 10^-7 from near / 10^18: n 10^18 times the difference is from
-- -n 10^11 to n 10^11
pub record IsNear (k n : ℕ) (near a b : ℤ) : Type 0 where
  pub not_below : IsTrue (is_ge (sign_over k ((a *ℤ pos steps_of_one -ℤ pos n *ℤ near) +ℤ pos (n * 10 ^ 11)) (b *ℤ pos steps_of_one)))
  pub not_above : IsTrue (is_le (sign_over k ((a *ℤ pos steps_of_one -ℤ pos n *ℤ near) -ℤ pos (n * 10 ^ 11)) (b *ℤ pos steps_of_one)))

-- c stands before b in 0, 1, -1, 2, -2, ..
abbrev pub ComesBefore : ℤ → ℤ → Type 0
ComesBefore c b = (unsigned_abs c < unsigned_abs b) ⊎ ((c ≡ neg_ℤ b) × (pos 0 <ℤ c))

-- b is the first, up to 1024 in size, that has an a
pub record IsFirst (k n : ℕ) (near a b : ℤ) : Type 0 where
  pub near_enough : IsNear k n near a b
  pub within : unsigned_abs b ≤ 1024
  pub none_before : (c x : ℤ) → ComesBefore c b → ¬ IsNear k n near x c

-- by each row: the number that a decimal is read as, in lowest terms
abbrev pub Gives : ℕ → Row → Decimal → Parts → Type 0
Gives k Exact d p = IsFalse d.far × IsTrue d.exact × IsReduced (decimal_parts d) p × (unsigned_abs p.a ≤ 2 ^ 62)
Gives k (Grid n) d p = ¬ IsPast d × ((m : ℤ) × IsRounded (pos n *ℤ d.near) steps_of_one m × IsReduced (record { a = m; b = pos 0; q = pos n }) p)
Gives k (Root n) d p = ¬ IsPast d × ((a b : ℤ) × IsFirst k n d.near a b × IsReduced (record { a = a; b = b; q = pos n }) p)

-- and the cause by which it is refused
abbrev pub Refuses : ℕ → Row → Decimal → Unread → Type 0
Refuses k Exact d Far = IsTrue d.far ⊎ (IsTrue d.exact × ((p : Parts) × IsReduced (decimal_parts d) p × (2 ^ 62 < unsigned_abs p.a)))
Refuses k Exact d Fine = IsFalse d.far × IsFalse d.exact
Refuses k (Grid n) d Far = IsPast d
Refuses k (Root n) d Far = IsPast d
Refuses k (Root n) d NoRoot = ¬ IsPast d × ((a b : ℤ) → unsigned_abs b ≤ 1024 → ¬ IsNear k n d.near a b)
Refuses k Exact d NoRoot = ⊥
Refuses k Exact d ExactText = ⊥
Refuses k (Grid n) d Fine = ⊥
Refuses k (Grid n) d NoRoot = ⊥
Refuses k (Grid n) d ExactText = ⊥
Refuses k (Root n) d Fine = ⊥
Refuses k (Root n) d ExactText = ⊥

-- what a row answers for a decimal, at numbers over √k with these parts
module _ {N : Type 0} (k : ℕ) (parts : N → Parts) where
  abbrev pub Reads : Row → Decimal → Result N Unread → Type 0
  Reads row d (Ok x) = Gives k row d (parts x)
  Reads row d (Err cause) = Refuses k row d cause

-- the denominator that a row names
abbrev pub denominator_of : Row → ℕ
denominator_of Exact = 1
denominator_of (Grid n) = n
denominator_of (Root n) = n

-- how far an answer may lie from the text's value, in steps of 10^-18
abbrev pub tolerance_of : Row → ℕ
tolerance_of Exact = 0
tolerance_of (Grid n) = div_ceil steps_of_one (2 * n) + 1
tolerance_of (Root n) = 10 ^ 11 + 1

-- the number is kept where its numerator is at most 2^62 in size
module _ {N : Type 0} (parts : N → Parts) (number : N) where
  abbrev pub IsWithinWords : Result N Unread → Type 0
  IsWithinWords (Ok x) = (x ≡ number) × (unsigned_abs (parts number).a ≤ 2 ^ 62)
  IsWithinWords (Err cause) = (cause ≡ Far) × (2 ^ 62 < unsigned_abs (parts number).a)
