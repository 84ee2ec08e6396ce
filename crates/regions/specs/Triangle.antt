-- The triangle (0, 0), (1, 0), (0, 1), as vertices and edges.
use Rattle.std.specs.Prelude.{ℕ, ℤ, pos, List, [], ◌∷◌}
use Rattle.fold_base.specs.declared.letter.Letter.TheVariants.{Border}
use Rattle.plane.specs.declared.point.Point.{Point}
use Rattle.scaled_plane.specs.declared.drawing.Edge.{Edge}

abbrev pub corner : ℤ → ℤ → Point ℤ
corner x y = record { x = x; y = y; w = pos 1 }

abbrev pub side_of : ℕ → ℕ → Edge
side_of u v = record { from = u; to = v; letter = Border }

abbrev pub corners : List (Point ℤ)
corners = corner (pos 0) (pos 0) ∷ corner (pos 1) (pos 0) ∷ corner (pos 0) (pos 1) ∷ []

abbrev pub sides : List Edge
sides = side_of 0 1 ∷ side_of 1 2 ∷ side_of 2 0 ∷ []
