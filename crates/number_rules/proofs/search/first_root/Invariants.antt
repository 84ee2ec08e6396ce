use Rattle.std.proofs.Common.{ℤ, pos, ◌<◌, ◌-ℤ◌}
use Rattle.std.specs.Prelude.{neg_ℤ, unsigned_abs}
use Rattle.number_rules.specs.Rows.{IsNear}
use Rattle.number_rules.specs.Search.{IsRest, start, multiple_of}
use Rattle.number_rules.proofs.search.first_root.Given as goal

abbrev pub invariant-loop-size : goal.invariant-loop-size
invariant-loop-size g l = record {
  up : IsRest (start l.n l.near -ℤ multiple_of l.fraction (pos l.size)) l.up;
  down : IsRest (start l.n l.near -ℤ multiple_of l.fraction (neg_ℤ (pos l.size))) l.down;
  none : (c a : ℤ) → unsigned_abs c < l.size → ¬ IsNear g.R.Radicand.K l.n l.near a c;
}
