-- Walks and the regions at their left, in a plane drawing.
use Rattle.std.specs.Prelude.{◌≡◌, ℕ, ◌<◌, List, length, Contains, AllPairs}
use Rattle.algebra.specs.OrderedRing.{OrderedRing}
use Rattle.plane.specs.declared.point.Point.{Point}
use Rattle.plane.specs.Points.{IsPoint, IsSamePoint}
use Rattle.plane.specs.Segments.{MeetInEnds}
use Rattle.scaled_plane.specs.declared.drawing.Edge.{Edge}
use Rattle.scaled_plane.specs.declared.drawing.Face.{Face}
use Rattle.scaled_plane.specs.Lists.{IsRotation}
use Rattle.scaled_plane.specs.Pieces.{point_at}
use Rattle.scaled_plane.specs.WellSet.{HasEnd}
use Rattle.scaled_plane.specs.Walks.{AreJoined, IsDirectedPiece, IsFaceWalk, IsOuterWalk, IsWalk, pieces_round}
use Rattle.scaled_plane.specs.Regions.{AreInOneRegion, HasAtLeft, IsBounded, IsOff, SeesPiece}

-- the directed piece from u to v is one of the walk through these corners
abbrev pub IsOfWalk : List ℕ → ℕ → ℕ → Type 0
IsOfWalk corners u v = Contains (pieces_round corners) (u, v)

module _ {A : Type 0} (K : OrderedRing A) (vertices : List (Point A)) (edges : List Edge) where
  abbrev pub place : ℕ → Point A
  place v = point_at K vertices v

  -- different vertices, each the end of an edge, and edges that meet only in common ends
  pub record IsPlane : Type 0 where
    pub points : (p : Point A) → Contains vertices p → IsPoint K p
    pub different : AllPairs (λ p q. ¬ IsSamePoint K p q) vertices
    pub ends : (e : Edge) → Contains edges e → (e.from < length vertices) × (e.to < length vertices) × ¬ (e.from ≡ e.to)
    pub apart : AllPairs (λ e f. MeetInEnds K (place e.from) (place e.to) (place f.from) (place f.to)) edges
    pub used : (v : ℕ) → v < length vertices → (e : Edge) × Contains edges e × HasEnd e v

  -- edges lead from vertex 0 to each vertex
  abbrev pub IsConnected : Type 0
  IsConnected = (v : ℕ) → v < length vertices → AreJoined edges 0 v

  -- a directed piece of the walk has the region of q at its left
  abbrev pub WalkHasAtLeft : List ℕ → Point A → Type 0
  WalkHasAtLeft corners q = (u v : ℕ) × IsOfWalk corners u v × HasAtLeft K vertices edges u v q

  -- each directed piece has a region at its left, those of one walk have one region, and each
  -- region is at the left of a walk
  pub record WalksHaveRegions : Type 0 where
    pub seen : (u v : ℕ) → IsDirectedPiece edges u v → (p : Point A) × SeesPiece K vertices edges u v p
    pub one_region : (corners : List ℕ) → IsWalk K vertices edges corners → (p q : Point A)
        → WalkHasAtLeft corners p → WalkHasAtLeft corners q → AreInOneRegion K vertices edges p q
    pub no_region_missed : (p : Point A) → IsPoint K p → IsOff K vertices edges p
        → (corners : List ℕ) × IsWalk K vertices edges corners × WalkHasAtLeft corners p

  -- walks with one region are one walk, begun at any of its corners; the region of the outer walk
  -- isn't bounded, and those of all others are
  pub record FacesAreBounded : Type 0 where
    pub one_walk : (corners others : List ℕ) → IsWalk K vertices edges corners → IsWalk K vertices edges others
        → (q : Point A) → WalkHasAtLeft corners q → WalkHasAtLeft others q → IsRotation corners others
    pub outer : (corners : List ℕ) → IsOuterWalk K vertices edges corners
        → (q : Point A) → WalkHasAtLeft corners q → ¬ IsBounded K vertices edges q
    pub inner : (corners : List ℕ) → IsFaceWalk K vertices edges corners
        → (q : Point A) → WalkHasAtLeft corners q → IsBounded K vertices edges q

  -- The faces are the bounded regions, each once: each face has one region at its left, which is
  -- bounded, each bounded region is at the left of a face, and no two faces have one region.
  pub record AreBoundedRegions (faces : List Face) : Type 0 where
    pub some_point : (f : Face) → Contains faces f → (q : Point A) × IsPoint K q × IsOff K vertices edges q × WalkHasAtLeft f.corners q
    pub one_region : (f : Face) → Contains faces f → (p q : Point A)
        → WalkHasAtLeft f.corners p → WalkHasAtLeft f.corners q → AreInOneRegion K vertices edges p q
    pub bounded : (f : Face) → Contains faces f → (q : Point A) → WalkHasAtLeft f.corners q → IsBounded K vertices edges q
    pub every : (q : Point A) → IsPoint K q → IsOff K vertices edges q → IsBounded K vertices edges q
        → (f : Face) × Contains faces f × WalkHasAtLeft f.corners q
    pub each_once : AllPairs (λ f g. (q : Point A) → WalkHasAtLeft f.corners q → ¬ WalkHasAtLeft g.corners q) faces
