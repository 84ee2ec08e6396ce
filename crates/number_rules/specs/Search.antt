-- The search for the first b: one a for each, and remainders that show where there is none.
use Rattle.std.specs.Prelude.{◌≡◌, ℕ, ℤ, pos, ◌+◌, ◌*◌, ◌<◌, ◌≤◌, ◌+ℤ◌, ◌-ℤ◌, ◌*ℤ◌, neg_ℤ, unsigned_abs, IsTrue, Option, Some, None, ◌⊎◌}
use Rattle.std.specs.Ordering.{is_ge}
use Rattle.algebra.specs.LowestTerms.{Parts, IsReduced}
use Rattle.number_rules.specs.Rounded.{steps_of_one}
use Rattle.number_rules.specs.Rows.{sign_over, IsNear, IsFirst}

-- √k lies between 1 and 2, and its fraction is this number of steps, but for less than one
pub record IsFractionOfRoot (k fraction : ℕ) : Type 0 where
  pub within : fraction < steps_of_one
  pub not_above : IsTrue (is_ge (sign_over k (pos (steps_of_one + fraction + 1)) (neg_ℤ (pos steps_of_one))))
  pub not_below : IsTrue (is_ge (sign_over k (pos 1 -ℤ pos (steps_of_one + fraction)) (pos steps_of_one)))

-- b√k in steps, but for less than |b|
abbrev pub multiple_of : ℕ → ℤ → ℤ
multiple_of fraction b = b *ℤ pos (steps_of_one + fraction)

-- what an a is a number of steps of: near enough at b, there is one that leaves less than a step
abbrev pub start : ℕ → ℤ → ℤ
start n near = (pos n *ℤ near +ℤ pos (n * 100000000000)) +ℤ pos 1024

-- z leaves this rest when whole numbers are taken off
abbrev pub IsRest : ℤ → ℕ → Type 0
IsRest z rest = (whole : ℤ) × (z ≡ whole *ℤ pos steps_of_one +ℤ pos rest) × (rest < steps_of_one)

module _ {N : Type 0} (k n : ℕ) (near : ℤ) (parts : N → Parts) where
  -- the number that stands at b, or none
  abbrev pub StandsAt : ℤ → Option N → Type 0
  StandsAt b (Some x) = (a : ℤ) × IsNear k n near a b × IsReduced (record { a = a; b = b; q = pos n }) (parts x)
  StandsAt b None = (a : ℤ) → ¬ IsNear k n near a b

  -- the number at the first of a size and its opposite, or none
  abbrev pub StandsAtSize : ℕ → Option N → Type 0
  StandsAtSize size (Some x) =
      (a b : ℤ) × IsNear k n near a b × IsReduced (record { a = a; b = b; q = pos n }) (parts x)
      × (unsigned_abs b ≡ size) × ((b ≡ pos size) ⊎ ((c : ℤ) → ¬ IsNear k n near c (pos size)))
  StandsAtSize size None = (a b : ℤ) → unsigned_abs b ≡ size → ¬ IsNear k n near a b

  -- the number at the first b, or none
  abbrev pub StandsFirst : Option N → Type 0
  StandsFirst (Some x) = (a b : ℤ) × IsFirst k n near a b × IsReduced (record { a = a; b = b; q = pos n }) (parts x)
  StandsFirst None = (a b : ℤ) → unsigned_abs b ≤ 1024 → ¬ IsNear k n near a b
