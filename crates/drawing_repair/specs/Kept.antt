-- The segments that a drawing is made of.
use Rattle.std.specs.Prelude.{◌<◌, Bool, true, false, List, filter, length, map}
use Rattle.std.specs.List.{All}
use Rattle.fold_base.specs.declared.letter.Letter.{Letter}
use Rattle.fold_base.specs.declared.letter.Letter.TheVariants as letter
use Rattle.algebra.specs.OrderedRing.{OrderedRing}
use Rattle.plane.specs.declared.point.Point.{Point}
use Rattle.scaled_plane.specs.declared.drawing.Edge.{Edge}
use Rattle.scaled_plane.specs.declared.point.Segment.{Segment}
use Rattle.scaled_plane.specs.Pieces.{point_at}
use Rattle.drawing_repair.specs.declared.options.Flat.{Flat}
use Rattle.drawing_repair.specs.declared.options.Flat.TheVariants.{Keep, Drop}

-- all segments are kept, or all but those with the letter F
abbrev pub is_kept : Flat → Letter → Bool
is_kept Keep l = true
is_kept Drop letter.Flat = false
is_kept Drop _ = true

-- the ends of each edge are among so many vertices
abbrev pub AreInRange : {X : Type 0} → List X → List Edge → Type 0
AreInRange vertices edges = All (λ e. (e.from < length vertices) × (e.to < length vertices)) edges

module _ {A : Type 0} (K : OrderedRing A) (points : List (Point A)) where
  -- the segment between the points of an edge
  abbrev pub segment_of : Edge → Segment A
  segment_of e = record { from = point_at K points e.from; to = point_at K points e.to; letter = e.letter }

  -- the segments of the edges that are kept
  abbrev pub kept_segments : Flat → List Edge → List (Segment A)
  kept_segments flat edges = map segment_of (filter (λ e. is_kept flat e.letter) edges)
