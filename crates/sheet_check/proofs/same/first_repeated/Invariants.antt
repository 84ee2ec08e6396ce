use Rattle.std.proofs.Common.{◌≤◌, length, map}
use Rattle.sheet_check.specs.Same.{HasFrom, IsFirstFrom}
use Rattle.sheet_check.proofs.same.first_repeated.Given as goal

abbrev pub invariant-loop-place : goal.invariant-loop-place
invariant-loop-place g l = record {
  within : l.place ≤ length l.vertices;
  later : HasFrom g.W.Whole.numbers.ring l.vertices l.place (map (λ v. v.point) l.later.keys);
  first : IsFirstFrom g.W.Whole.numbers.ring l.vertices l.place l.found;
}

abbrev pub decreases-loop-place : goal.decreases-loop-place
decreases-loop-place g l = l.place
