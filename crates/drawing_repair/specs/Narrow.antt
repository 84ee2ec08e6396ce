-- Coordinates that are so narrow that each vertex of their drawing can be written.
use Rattle.std.specs.Prelude.{ℕ, pos, ◌≤◌, ◌^◌, List, Contains}
use Rattle.algebra.specs.LowestTerms.{Parts}
use Rattle.algebra.specs.SurdSize.{larger_part}
use Rattle.exact_number.specs.Scaling.{scaled}
use Rattle.scaled_plane.specs.Scaling.{IsCommonDenominator}
use Rattle.scaled_plane.specs.declared.point.Pair.{Pair}

module _ {N : Type 0} (parts : N → Parts) where
  -- the least common denominator is at most 2^12, and no part of a coordinate, times that
  -- denominator, is larger in size than 2^15
  pub record AreNarrow (coords : List (Pair N)) : Type 0 where
    pub m : ℕ
    pub denominator : IsCommonDenominator parts coords m
    pub small : m ≤ 2 ^ 12
    pub x_within : (c : Pair N) → Contains coords c → larger_part (scaled (parts c.x) (pos m)) ≤ 2 ^ 15
    pub y_within : (c : Pair N) → Contains coords c → larger_part (scaled (parts c.y) (pos m)) ≤ 2 ^ 15
