-- Small drawings over the whole numbers: what they are cut into, and which piece follows which.
use Prim.Native.Nat.{zero, suc}
use Rattle.std.specs.Prelude.{ℕ, ℤ, pos, List, [], ◌∷◌}
use Rattle.std.specs.List.{AllByRecursion}
use Rattle.fold_base.specs.declared.letter.Letter.{Letter}
use Rattle.fold_base.specs.declared.letter.Letter.TheVariants.{Mountain}
use Rattle.algebra.proofs.Integers.{integers}
use Rattle.plane.specs.declared.point.Point.{Point}
use Rattle.scaled_plane.specs.declared.point.Segment.{Segment}
use Rattle.scaled_plane.specs.declared.drawing.Edge.{Edge}
use Rattle.scaled_plane.specs.declared.drawing.Face.{Face}
use Rattle.scaled_plane.specs.Pieces.{AreLines, ArePieces, AreVertices}
use Rattle.scaled_plane.specs.Regions.{IsOff}
use Rattle.scaled_plane.specs.Walks.{ComesAfter}
use Rattle.regions.specs.Faces.{WalkHasAtLeft}

-- the point (x, y)
abbrev pub at : ℤ → ℤ → Point ℤ
at x y = record { x = x; y = y; w = pos 1 }

-- the point (x / w, y / w)
abbrev pub over : ℤ → ℤ → ℤ → Point ℤ
over x y w = record { x = x; y = y; w = w }

abbrev pub crease : Letter → Point ℤ → Point ℤ → Segment ℤ
crease letter p q = record { from = p; to = q; letter = letter }

-- the segment from (n, 0) to (n, 1), and such segments for all numbers below n
abbrev pub upright : ℕ → Segment ℤ
upright n = crease Mountain (at (pos n) (pos 0)) (at (pos n) (pos 1))

abbrev pub uprights : ℕ → List (Segment ℤ)
uprights zero = []
uprights (suc n) = upright n ∷ uprights n

abbrev pub edge : ℕ → ℕ → Letter → Edge
edge u v letter = record { from = u; to = v; letter = letter }

abbrev pub face : List ℕ → Face
face corners = record { corners = corners }

-- the segments have these vertices, these pieces with their letters, and these lines of the pieces
pub record AreCutInto (segments : List (Segment ℤ)) (vertices : List (Point ℤ)) (edges : List Edge) (lines : List (ℕ × ℕ)) : Type 0 where
  pub vertices_are : AreVertices integers segments vertices
  pub pieces_are : ArePieces integers segments vertices edges
  pub lines_are : AreLines integers segments vertices edges lines

-- for each u, v, w of the list: after the directed piece (u, v) comes (v, w)
pub record FollowAs (vertices : List (Point ℤ)) (edges : List Edge) (table : List (ℕ × ℕ × ℕ)) : Type 0 where
  pub each : AllByRecursion (λ t. ComesAfter integers vertices edges t.0 t.1 t.2) table

-- the point lies on no piece, and the walk through these corners has its region at the left
pub record HasRegionOf (vertices : List (Point ℤ)) (edges : List Edge) (corners : List ℕ) (q : Point ℤ) : Type 0 where
  pub off : IsOff integers vertices edges q
  pub at_left : WalkHasAtLeft integers vertices edges corners q

-- for each list of corners and point of the table: the walk has the region of the point at its left
pub record HaveRegionsOf (vertices : List (Point ℤ)) (edges : List Edge) (table : List (List ℕ × Point ℤ)) : Type 0 where
  pub each : AllByRecursion (λ t. HasRegionOf vertices edges t.0 t.1) table
