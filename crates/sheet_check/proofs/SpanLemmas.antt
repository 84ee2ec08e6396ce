-- Edges as spans, one by one.
use mathlib.Core.Path.{◌≡◌, ap, ◌∙◌}
use mathlib.Core.List.{List, [], ◌∷◌, ◌++◌}
use Rattle.std.proofs.Common.{arith, ℕ, suc, ◌<◌, ◌+◌, length}
use Rattle.std.specs.Prelude.{slice_get, slice_index_or}
use Rattle.std.proofs.lemmas.List.{get_or_default}
use Rattle.std.proofs.lemmas.Option.{slice_get-get_or}
use Rattle.algebra.specs.OrderedRing.{OrderedRing}
use Rattle.plane.specs.declared.point.Point.{Point}
use Rattle.scaled_plane.specs.declared.drawing.Edge.{Edge}
use Rattle.scaled_plane.specs.declared.point.Segment.{Segment}
use Rattle.scaled_plane.specs.Pieces.{point_at}
use Rattle.sheet_check.specs.Spans.{AreInRange, IsOfEdge, up_to}

-- the ends of an edge that is read
pub edge_within : (count : ℕ) (edges : List Edge) (i : ℕ) (d : Edge) → AreInRange count edges → i < length edges
    → ((slice_index_or edges i d).from < count) × ((slice_index_or edges i d).to < count)
edge_within count edges i d h less = h (slice_index_or edges i d) (i, less, get_or_default edges i (slice_index_or edges i d) d less)

pub of_edge : {A : Type 0} (K : OrderedRing A) (vertices : List (Point A)) (edges : List Edge) (s : Segment A) (i n : ℕ) (d : Edge) → i < length edges → n ≡ i
    → s.from ≡ point_at K vertices (slice_index_or edges i d).from → s.to ≡ point_at K vertices (slice_index_or edges i d).to → IsOfEdge K vertices edges s n
of_edge K vertices edges s i n d less e from to = record {
  edge = slice_index_or edges i d;
  is = ap (slice_get edges) e ∙ slice_get-get_or edges i d less;
  from_is = from;
  to_is = to;
}

pub up_to_more : (i : ℕ) → up_to (i + 1) ≡ up_to i ++ i ∷ []
up_to_more i = ap up_to (let e : i + 1 ≡ suc i = omega arith in e)
