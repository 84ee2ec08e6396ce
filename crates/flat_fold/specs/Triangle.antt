-- A triangle, with its one face.
use Rattle.std.specs.Prelude.{List, [], ◌∷◌}
use Rattle.fold_base.specs.declared.letter.Letter.TheVariants.{Border}
use Rattle.scaled_plane.specs.declared.drawing.Edge.{Edge}
use Rattle.scaled_plane.specs.declared.drawing.Face.{Face}

abbrev pub triangle_edges : List Edge
triangle_edges =
    record { from = 0; to = 1; letter = Border } ∷ record { from = 1; to = 2; letter = Border } ∷ record { from = 2; to = 0; letter = Border } ∷ []

abbrev pub triangle_faces : List Face
triangle_faces = record { corners = 0 ∷ 1 ∷ 2 ∷ [] } ∷ []
