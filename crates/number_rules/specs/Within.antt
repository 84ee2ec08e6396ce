-- How far a number lies from the value of a text.
use Rattle.std.specs.Prelude.{ℕ, ℤ, pos, ◌+ℤ◌, ◌-ℤ◌, ◌*ℤ◌, IsTrue}
use Rattle.std.specs.Ordering.{is_ge, is_le}
use Rattle.algebra.specs.LowestTerms.{Parts}
use Rattle.number_rules.specs.Rounded.{steps_of_one}
use Rattle.number_rules.specs.Rows.{sign_over}

-- (a + b√k) / q lies at most so many steps of 10^-18 from n / d: q d 10^18 times the difference is
-- from -steps q d to steps q d
pub record IsWithin (k : ℕ) (p : Parts) (n : ℤ) (d steps : ℕ) : Type 0 where
  pub not_below : IsTrue (is_ge (sign_over k (pos steps_of_one *ℤ (p.a *ℤ pos d -ℤ n *ℤ p.q) +ℤ pos steps *ℤ (p.q *ℤ pos d)) (pos steps_of_one *ℤ (p.b *ℤ pos d))))
  pub not_above : IsTrue (is_le (sign_over k (pos steps_of_one *ℤ (p.a *ℤ pos d -ℤ n *ℤ p.q) -ℤ pos steps *ℤ (p.q *ℤ pos d)) (pos steps_of_one *ℤ (p.b *ℤ pos d))))
