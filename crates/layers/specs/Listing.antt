-- The five kinds of crossing by a list of finitely many tests, which see faces and edges as sets of
-- points and ask nothing of single points.
use Rattle.std.specs.Prelude.{◌⊎◌, ℕ, ◌<◌}
use Rattle.std.specs.Ordering.{ordering_reverse}
use Rattle.std.specs.declared.cmp.Ordering.{Ordering}
use Rattle.fold_base.specs.declared.letter.Letter.{Letter as AnyLetter}
use Rattle.algebra.specs.OrderedRing.{OrderedRing}
use Rattle.plane.specs.declared.point.Point.{Point}
use Rattle.plane.specs.Points.{IsPoint, IsSamePoint}
use Rattle.layers.specs.declared.crossing.Strand.TheVariants.{Face, Edge}
use Rattle.layers.specs.declared.crossing.Crossing.{Crossing}
use Rattle.layers.specs.declared.crossing.Crossing.TheVariants.{Cycle, Through, Creases, Joined, Letter}
use Rattle.layers.specs.Pieces.{Piece, IsOnPiece, IsInMiddle}
use Rattle.layers.specs.Sheets.{FoldedSheet, IsInside, IsImage, HasFaces, IsCrease, IsJoin}
use Rattle.layers.specs.Orders.{LiesBetween, OneBetween}
use Rattle.layers.specs.Points.{LiesOn, LetterFits}

module _ {A : Type 0} (K : OrderedRing A) (sheet : FoldedSheet A) where
  -- some point is inside all three faces
  pub record ThreeOverlap (f g h : ℕ) : Type 0 where
    pub point : Point A
    pub is_point : IsPoint K point
    pub in_first : IsInside K sheet f point
    pub in_second : IsInside K sheet g point
    pub in_third : IsInside K sheet h point

  -- the folded edge has a point between its ends that is inside the face
  pub record EdgeEnters (e f : ℕ) : Type 0 where
    pub face : ℕ
    pub piece : Piece A
    pub image : IsImage K sheet e face piece
    pub point : Point A
    pub is_point : IsPoint K point
    pub in_middle : IsInMiddle K piece point
    pub in_face : IsInside K sheet f point

  -- the two folded edges share more than one point, where the first lies as the piece `line`
  pub record RunAlong (e d : ℕ) (line : Piece A) : Type 0 where
    pub face : ℕ
    pub image : IsImage K sheet e face line
    pub other_face : ℕ
    pub other : Piece A
    pub other_image : IsImage K sheet d other_face other
    pub start : Point A
    pub end : Point A
    pub start_is_point : IsPoint K start
    pub end_is_point : IsPoint K end
    pub start_on : IsOnPiece K line start
    pub end_on : IsOnPiece K line end
    pub start_on_other : IsOnPiece K other start
    pub end_on_other : IsOnPiece K other end
    pub different : ¬ IsSamePoint K start end

  -- the two folded edges share more than one point
  pub record RunTogether (e d : ℕ) : Type 0 where
    pub line : Piece A
    pub together : RunAlong e d line

  -- the faces f and h lie on one side of the edge e
  pub record AreBeside (e f h : ℕ) : Type 0 where
    pub face : ℕ
    pub line : Piece A
    pub image : IsImage K sheet e face line
    pub on_side : Ordering
    pub first : LiesOn K sheet line on_side f
    pub second : LiesOn K sheet line on_side h

  -- an edge with such a letter, its face f on the side s of the line and g on the side t
  pub record HasSides (Lettered : AnyLetter → Type 0) (line : Piece A) (s t : Ordering) (e f g : ℕ) : Type 0 where
    pub faces : HasFaces K sheet e f g
    pub lettered : Lettered faces.edge.letter
    pub first_side : LiesOn K sheet line s f
    pub second_side : LiesOn K sheet line t g

  module _ (above : ℕ → ℕ → Type 0) where
    -- f is above h and g below k, or the other way round
    abbrev pub Changes : ℕ → ℕ → ℕ → ℕ → Type 0
    Changes f g h k = above f h × above k g ⊎ above h f × above g k

    -- some point is inside three faces that are ranked in a ring, of which f is the least
    pub record CycleListed (f g h : ℕ) : Type 0 where
      pub least : (f < g) × (f < h)
      pub around : above f g × above g h × above h f
      pub overlap : ThreeOverlap f g h

    -- the edge enters the face, and the face is between the edge's two faces
    pub record EntersBetween (Lettered : AnyLetter → Type 0) (e h : ℕ) : Type 0 where
      pub first : ℕ
      pub second : ℕ
      pub faces : HasFaces K sheet e first second
      pub lettered : Lettered faces.edge.letter
      pub enters : EdgeEnters e h
      pub is_between : LiesBetween above h first second

    -- along a stretch of the crease e and the join d, the face that d has on the side of the faces of
    -- e is between these
    pub record ThroughListed (e d : ℕ) : Type 0 where
      pub line : Piece A
      pub together : RunAlong e d line
      pub on_side : Ordering
      pub first : ℕ
      pub second : ℕ
      pub crease : HasSides IsCrease line on_side on_side e first second
      pub near : ℕ
      pub far : ℕ
      pub join : HasSides IsJoin line on_side (ordering_reverse on_side) d near far
      pub is_between : LiesBetween above near first second

    -- along a stretch of two creases, their faces are all on one side, and of those of d one is between
    -- those of e and one isn't
    pub record CreasesListed (e d : ℕ) : Type 0 where
      pub ordered : e < d
      pub line : Piece A
      pub together : RunAlong e d line
      pub on_side : Ordering
      pub first : ℕ
      pub second : ℕ
      pub crease : HasSides IsCrease line on_side on_side e first second
      pub other_first : ℕ
      pub other_second : ℕ
      pub other_crease : HasSides IsCrease line on_side on_side d other_first other_second
      pub one_between : OneBetween above other_first other_second first second

    -- along a stretch of two joins, the face of e is above that of d on one side, and below it on the
    -- other
    pub record JoinedListed (e d : ℕ) : Type 0 where
      pub ordered : e < d
      pub line : Piece A
      pub together : RunAlong e d line
      pub upper_side : Ordering
      pub first : ℕ
      pub second : ℕ
      pub join : HasSides IsJoin line upper_side (ordering_reverse upper_side) e first second
      pub other_first : ℕ
      pub other_second : ℕ
      pub other_join : HasSides IsJoin line upper_side (ordering_reverse upper_side) d other_first other_second
      pub changes : above first other_first × above other_second second

    -- the letter doesn't fit the edge's two faces
    pub record LetterListed (e : ℕ) : Type 0 where
      pub first : ℕ
      pub second : ℕ
      pub faces : HasFaces K sheet e first second
      pub misfit : ¬ LetterFits K sheet above faces.edge.letter first second

    -- the crossing stands by the list
    abbrev pub IsListed : Crossing → Type 0
    IsListed (Cycle f g h) = CycleListed f g h
    IsListed (Through e (Face h)) = EntersBetween IsCrease e h
    IsListed (Through e (Edge d)) = ThroughListed e d
    IsListed (Creases e d) = CreasesListed e d
    IsListed (Joined e (Face h)) = EntersBetween IsJoin e h
    IsListed (Joined e (Edge d)) = JoinedListed e d
    IsListed (Letter e) = LetterListed e
