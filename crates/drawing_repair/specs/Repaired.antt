-- The drawing of segments: its vertices by exact coordinates, the pieces between them, and its
-- faces; and what keeps segments from having one.
use Rattle.std.specs.Prelude.{◌≡◌, ℕ, ℤ, ◌<◌, ◌≤◌, List, length, slice_get, Some, None}
use Rattle.std.specs.List.{AllZip}
use Rattle.std.specs.declared.alloc.AllocError.{AllocError}
use Rattle.std.specs.declared.option.Option.{Option}
use Rattle.algebra.specs.LowestTerms.{Parts}
use Rattle.algebra.specs.OrderedRing.{OrderedRing}
use Rattle.algebra.specs.Surd.{Surd}
use Rattle.algebra.specs.WholeSurds.{SurdNumbers}
use Rattle.plane.specs.declared.point.Point.{Point}
use Rattle.scaled_plane.specs.declared.drawing.Edge.{Edge}
use Rattle.scaled_plane.specs.declared.drawing.Ends.{Ends}
use Rattle.scaled_plane.specs.declared.drawing.Face.{Face}
use Rattle.scaled_plane.specs.declared.point.Pair.{Pair}
use Rattle.scaled_plane.specs.declared.point.Scaled.{Scaled}
use Rattle.scaled_plane.specs.Exact.{IsExactPoint, IsTooWideExact}
use Rattle.scaled_plane.specs.Pieces.{ArePieces, AreVertices}
use Rattle.scaled_plane.specs.Scaling.{IsFirstOf, IsScaledOf, IsTooWide}
use Rattle.scaled_plane.specs.Walks.{AreFaces, IsFirstParted}
use Rattle.regions.specs.Faces.{AreBoundedRegions, IsConnected}
use Rattle.face_walks.specs.Fitting.{AreFacesWithin}
use Rattle.drawing_repair.specs.Kept.{kept_segments}
use Rattle.drawing_repair.specs.declared.answer.Repaired.{Repaired}
use Rattle.drawing_repair.specs.declared.answer.RepairFault.{RepairFault}
use Rattle.drawing_repair.specs.declared.answer.RepairFault.TheVariants.{TooWide, TooMany, Parted, Memory}
use Rattle.drawing_repair.specs.declared.answer.Stage.TheVariants.{Input, Drawn}
use Rattle.drawing_repair.specs.declared.options.Faces.{Faces}
use Rattle.drawing_repair.specs.declared.options.Faces.TheVariants.{Find, Skip}
use Rattle.drawing_repair.specs.declared.options.Flat.{Flat}

abbrev pub IsMemory : RepairFault → Type 0
IsMemory fault = (error : AllocError) × (fault ≡ Memory error)

module _ {N W : Type 0} {k : ℕ} {surd : W → Surd ℤ} (parts : N → Parts) (numbers : SurdNumbers k surd) (points : List (Point W)) (common : ℤ) where
  -- the points by their exact coordinates over a common denominator
  abbrev pub AreExact : List (Pair N) → Type 0
  AreExact coords = AllZip (λ p c. IsExactPoint k surd p common parts c) points coords

module _ {W : Type 0} {k : ℕ} {surd : W → Surd ℤ} (numbers : SurdNumbers k surd) (points : List (Point W)) (common : ℤ) where
  -- the exact coordinates of the point at this place are too wide
  abbrev pub IsWideDrawn : ℕ → Type 0
  IsWideDrawn v = (p : Point W) × (slice_get points v ≡ Some p) × IsTooWideExact k surd p common

module _ {W : Type 0} (K : OrderedRing W) (vertices : List (Point W)) (edges : List Edge) where
  -- the face walks of a drawing that isn't parted, where they are looked for, and else none
  abbrev pub AreFacesOf : Faces → Option (List Face) → Type 0
  AreFacesOf Find (Some found) = IsConnected K vertices edges × AreFaces K vertices edges found
  AreFacesOf Find None = ⊥
  AreFacesOf Skip (Some found) = ⊥
  AreFacesOf Skip None = Unit {0}

module _ {N W : Type 0} {k : ℕ} {surd : W → Surd ℤ} (parts : N → Parts) (numbers : SurdNumbers k surd) (flat : Flat) (ends : Ends N) where
  -- all coordinates times their common denominator, and the vertices of the segments that are kept
  pub record AreCut (scaled : Scaled W) (vertices : List (Point W)) : Type 0 where
    pub points : IsScaledOf parts numbers ends.coords scaled
    pub cuts : AreVertices numbers.ring (kept_segments numbers.ring scaled.points flat ends.edges) vertices

  -- the vertices, which aren't too many, by their exact coordinates, and the pieces between them
  -- with their letters
  pub record AreDrawn (scaled : Scaled W) (vertices : List (Point W)) (drawn : Ends N) : Type 0 where
    pub cut : AreCut scaled vertices
    pub few : length vertices ≤ 16384
    pub coords : AreExact parts numbers vertices scaled.common drawn.coords
    pub pieces : ArePieces numbers.ring (kept_segments numbers.ring scaled.points flat ends.edges) vertices drawn.edges

  module _ (faces : Faces) where
    -- the answer is the drawing of the segments that are kept, with its faces
    abbrev pub IsRepaired : Repaired N → Type 0
    IsRepaired answer = (scaled : Scaled W) × (vertices : List (Point W))
        × AreDrawn scaled vertices answer.ends × AreFacesOf numbers.ring vertices answer.ends.edges faces answer.faces

    -- why there is no answer: the first of these that holds
    abbrev pub IsRefusal : RepairFault → Type 0
    IsRefusal (TooWide v Input) = IsTooWide parts ends.coords v
    IsRefusal TooMany = (scaled : Scaled W) × IsScaledOf parts numbers ends.coords scaled
        × ((vertices : List (Point W)) → AreCut scaled vertices → 16384 < length vertices)
    IsRefusal (TooWide v Drawn) = (scaled : Scaled W) × (vertices : List (Point W))
        × AreCut scaled vertices × (length vertices ≤ 16384) × IsFirstOf (IsWideDrawn numbers vertices scaled.common) v
    IsRefusal (Parted v) = (scaled : Scaled W) × (vertices : List (Point W)) × (drawn : Ends N)
        × (faces ≡ Find) × AreDrawn scaled vertices drawn × IsFirstParted drawn.edges (length vertices) v
    IsRefusal (Memory error) = ⊥

  -- The faces that are found are the face walks of the drawing, whose vertices and scale are as
  -- above; the drawing isn't parted, and they are its bounded regions, each once.
  abbrev pub HasBoundedRegions : Repaired N → Type 0
  HasBoundedRegions answer = (found : List Face) → answer.faces ≡ Some found → (scaled : Scaled W) × (vertices : List (Point W))
      × AreDrawn scaled vertices answer.ends × IsConnected numbers.ring vertices answer.ends.edges
      × AreFaces numbers.ring vertices answer.ends.edges found × AreBoundedRegions numbers.ring vertices answer.ends.edges found

-- the corners of the faces that are found are among so many vertices, and ids can tell them all
abbrev pub AreFoundWithin : ℕ → Option (List Face) → Type 0
AreFoundWithin vertices None = Unit {0}
AreFoundWithin vertices (Some found) = AreFacesWithin vertices found
