-- The directions of half-edges, by points of their lines.
use Rattle.std.specs.Prelude.{◌≡◌, ℕ, ℤ, pos, ◌+◌, ◌*◌, ◌<◌, ◌≤◌, ◌^◌, List, length, slice_index_or, All}
use Rattle.algebra.specs.Surd.{Surd}
use Rattle.algebra.specs.WholeSurds.{SurdNumbers}
use Rattle.algebra.specs.OrderedRing.{OrderedRing}
use Rattle.exact_number.specs.Sizes.{whole_size}
use Rattle.plane.specs.Directions.{Direction, IsSameWay}
use Rattle.scaled_plane.specs.declared.drawing.Drawing.{Drawing}
use Rattle.scaled_plane.specs.Walks.{way}
use Rattle.face_walks.specs.declared.headings.Heading.{Heading}
use Rattle.face_walks.specs.Pairs.{edge_at}

abbrev pub direction_of : {A : Type 0} → Heading A → Direction A
direction_of h = record { x = h.x; y = h.y }

-- a difference of scaled points
pub record IsHeadingSize {A : Type 0} (surd : A → Surd ℤ) (h : Heading A) : Type 0 where
  pub x_within : whole_size (surd h.x) ≤ 3 * 2 ^ 23
  pub y_within : whole_size (surd h.y) ≤ 3 * 2 ^ 23

module _ {A : Type 0} (K : OrderedRing A) where
  -- where the half-edge h leads
  abbrev pub lead : List (Heading A) → ℕ → Direction A
  lead headings h = direction_of (slice_index_or headings h (record { x = K.int (pos 0); y = K.int (pos 0) }))

module _ {A : Type 0} {k : ℕ} {surd : A → Surd ℤ} (numbers : SurdNumbers k surd) (drawing : Drawing A) where
  abbrev pub edge_way : ℕ → ℕ → Direction A
  edge_way u v = way numbers.ring drawing.vertices drawing.edges u v

  -- each of the first n edges has the headings of its two directed pieces
  pub record AreHeadings (n : ℕ) (headings : List (Heading A)) : Type 0 where
    pub two_each : length headings ≡ 2 * n
    pub there : (i : ℕ) → i < n
        → IsSameWay numbers.ring (lead numbers.ring headings (2 * i)) (edge_way (edge_at drawing.edges i).from (edge_at drawing.edges i).to)
    pub back : (i : ℕ) → i < n
        → IsSameWay numbers.ring (lead numbers.ring headings (2 * i + 1)) (edge_way (edge_at drawing.edges i).to (edge_at drawing.edges i).from)
    pub small : All (IsHeadingSize surd) headings
