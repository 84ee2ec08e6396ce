-- Comparing x with y√k in whole numbers.
use Rattle.std.specs.Prelude.{◌≡◌, ℕ, pos, ◌+◌, ◌*◌, ◌<◌, ◌≤◌}
use Rattle.std.specs.Ordering.{ordering_reverse}
use Rattle.std.specs.declared.cmp.Ordering.{Ordering}
use Rattle.algebra.specs.Order.{int_sign}
use Rattle.algebra.specs.Integers.{int_ops}
use Rattle.algebra.specs.Surd.{surd_norm}
use Rattle.root_two.specs.declared.descent.Step.{Step}
use Rattle.root_two.specs.declared.descent.Step.TheVariants.{Settled, Turned}

-- how x stands to y√k: as x² to k y²
abbrev pub against_root : ℕ → ℕ → ℕ → Ordering
against_root k x y = int_sign (surd_norm int_ops (pos k) (record { a = pos x; b = pos y }))

-- the smaller pair stands the other way round, isn't zero, and is at most half as large
pub record IsTurned (k x y smaller_x smaller_y : ℕ) : Type 0 where
  pub reversed : against_root k x y ≡ ordering_reverse (against_root k smaller_x smaller_y)
  pub above_zero : 0 < smaller_x + smaller_y
  pub halved : 2 * (smaller_x + smaller_y) ≤ x + y

-- what a step says of x and y√k
abbrev pub Tells : ℕ → ℕ → ℕ → Step → Type 0
Tells k x y (Settled order) = against_root k x y ≡ order
Tells k x y (Turned smaller_x smaller_y) = IsTurned k x y smaller_x smaller_y
