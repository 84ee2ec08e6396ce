use Rattle.std.proofs.Common.{◌≡◌, pos, ◌-ℤ◌, ◌*ℤ◌, ◌<ℤ◌, IsTrue, false}
use Rattle.std.specs.Prelude.{unsigned_abs}
use Rattle.std.specs.Ordering.{is_ge}
use Rattle.number_rules.specs.Nine.{IsInReach, sign_past}
use Rattle.number_rules.proofs.nine.last_reached.Given as goal

abbrev pub invariant-loop-value : goal.invariant-loop-value
invariant-loop-value g l = record {
  between : l.low <ℤ l.high;
  low_within : IsInReach (g.N.Exact.parts l.value) l.low;
  high_within : IsInReach (g.N.Exact.parts l.value) l.high;
  reached : IsTrue (is_ge (sign_past g.N.Exact.ROOT (g.N.Exact.parts l.value) (pos 2 *ℤ l.low -ℤ pos 1)));
  not_reached : is_ge (sign_past g.N.Exact.ROOT (g.N.Exact.parts l.value) (pos 2 *ℤ l.high -ℤ pos 1)) ≡ false;
}

abbrev pub decreases-loop-value : goal.decreases-loop-value
decreases-loop-value g l = unsigned_abs (l.high -ℤ l.low)
