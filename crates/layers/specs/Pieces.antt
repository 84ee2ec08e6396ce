-- Directed pieces: the segments from one point to another, such as those round a face.
use Rattle.std.specs.Prelude.{◌≡◌, List, [], ◌∷◌}
use Rattle.std.specs.declared.cmp.Ordering.{Ordering}
use Rattle.std.specs.declared.cmp.Ordering.TheVariants.{Equal}
use Rattle.algebra.specs.OrderedRing.{OrderedRing}
use Rattle.plane.specs.declared.point.Point.{Point}
use Rattle.plane.specs.Lines.{side}
use Rattle.plane.specs.Segments.{IsOn, IsBetween}

pub record Piece (A : Type 0) : Type 0 where
  pub from : Point A
  pub to : Point A

abbrev pub reversed : {A : Type 0} → Piece A → Piece A
reversed s = record { from = s.to; to = s.from }

-- from the first of these corners to the second, and so on, and from the last to `first`
abbrev pub pieces_on_to : {A : Type 0} → Point A → List (Point A) → List (Piece A)
pieces_on_to first [] = []
pieces_on_to first (p ∷ []) = record { from = p; to = first } ∷ []
pieces_on_to first (p ∷ (q ∷ rest)) = record { from = p; to = q } ∷ pieces_on_to first (q ∷ rest)

-- the directed pieces round a face with these corners
abbrev pub pieces_round : {A : Type 0} → List (Point A) → List (Piece A)
pieces_round [] = []
pieces_round (p ∷ rest) = pieces_on_to p (p ∷ rest)

module _ {A : Type 0} (K : OrderedRing A) where
  -- the side of the piece's line on which p lies: `Greater` on the left, `Less` on the right
  abbrev pub side_of : Piece A → Point A → Ordering
  side_of s p = side K s.from s.to p

  -- p is a point of the piece
  abbrev pub IsOnPiece : Piece A → Point A → Type 0
  IsOnPiece s p = IsOn K s.from s.to p

  -- and none of its ends
  abbrev pub IsInMiddle : Piece A → Point A → Type 0
  IsInMiddle s p = IsBetween K s.from s.to p

  -- the piece s lies on the line of the piece l
  pub record IsAlong (l s : Piece A) : Type 0 where
    pub from_on : side_of l s.from ≡ Equal
    pub to_on : side_of l s.to ≡ Equal
