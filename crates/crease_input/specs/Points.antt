-- points without repetition
use Rattle.std.specs.Prelude.{ℕ, Bool, not, ◌&&◌, List, [], ◌∷◌, ◌++◌, filter, if◌then◌else◌}
use Rattle.std.specs.Ordering.{int_eq}
use Rattle.std.specs.List.{list_any, position_or_len}
use Rattle.algebra.specs.LowestTerms.{Parts}
use Rattle.scaled_plane.specs.declared.point.Pair.{Pair}

-- the three whole numbers are equal
abbrev pub has_parts : Parts → Parts → Bool
has_parts p r = int_eq p.a r.a && int_eq p.b r.b && int_eq p.q r.q

module _ {N : Type 0} (parts : N → Parts) where
  -- two points are one: the parts of their coordinates are equal
  abbrev pub is_at : Pair N → Pair N → Bool
  is_at p r = has_parts (parts p.x) (parts r.x) && has_parts (parts p.y) (parts r.y)

  -- the points in the order in which each first stands there
  abbrev pub firsts : List (Pair N) → List (Pair N)
  firsts [] = []
  firsts (p ∷ points) = p ∷ filter (λ r. not (is_at p r)) (firsts points)

  -- the place of a point among vertices
  abbrev pub place_in : List (Pair N) → Pair N → ℕ
  place_in coords p = position_or_len (is_at p) coords

  -- the points with one more, unless it is among them
  abbrev pub with_point : List (Pair N) → Pair N → List (Pair N)
  with_point coords p = if list_any (is_at p) coords then coords else coords ++ p ∷ []
