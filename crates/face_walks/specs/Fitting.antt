-- Faces that ids can tell.
use Rattle.std.specs.Prelude.{ℕ, ◌<◌, ◌^◌, List, length}
use Rattle.std.specs.List.{AllByRecursion}
use Rattle.scaled_plane.specs.declared.drawing.Face.{Face}

-- the corners are among so many vertices, and no more than ids can count
abbrev pub HasCornersWithin : ℕ → Face → Type 0
HasCornersWithin vertices face = (length face.corners < 2 ^ 32) × AllByRecursion (λ corner. corner < vertices) face.corners

-- so are those of each face, and the faces are no more than ids can count
abbrev pub AreFacesWithin : ℕ → List Face → Type 0
AreFacesWithin vertices faces = (length faces < 2 ^ 32) × AllByRecursion (HasCornersWithin vertices) faces
