-- What the parts of a drawing's walks have, from how they are made.
use Rattle.std.proofs.Common.{◌≡◌, inl, inr, ℕ, ◌<◌, List, length, refl, sym, ap, subst, ◌∙◌, arith}
use Rattle.std.specs.Prelude.{ℤ}
use Rattle.algebra.specs.Surd.{Surd}
use Rattle.algebra.specs.WholeSurds.{SurdNumbers}
use Rattle.plane.specs.declared.point.Point.{Point}
use Rattle.plane.specs.Directions.{Differ, IsClockwise, IsSameWay, west}
use Rattle.scaled_plane.specs.declared.drawing.Drawing.{Drawing}
use Rattle.scaled_plane.specs.declared.drawing.Edge.{Edge}
use Rattle.scaled_plane.specs.Lists.{IsReached, begun, gone_on}
use Rattle.scaled_plane.specs.Walks.{AreJoined, IsDirectedPiece, IsFirstParted, IsOutside, way}
use Rattle.scaled_plane.specs.WellSet.{IsWellSet}
use Rattle.regions.specs.Faces.{IsConnected, IsPlane}
use Rattle.regions.proofs.Leftmost.{not_westwards}
use Rattle.regions.proofs.Outer.{directed_end, in_range, later_of, other_end}
use Rattle.half_edges.specs.declared.arena.HalfId.{HalfId}
use Rattle.half_edges.specs.Halves.{Halves, count}
use Rattle.face_walks.specs.declared.headings.Heading.{Heading}
use Rattle.face_walks.specs.Headings.{AreHeadings, lead}
use Rattle.face_walks.specs.Linked.{HoldsPieces, piece_at}
use Rattle.face_walks.specs.Outside.{IsLeastPoint, IsOutsideHalf}
use Rattle.face_walks.specs.Pairs.{ArePairs}
use Rattle.face_walks.specs.Rings.{AreOutgoing, AreRings, HasHalf, half_at, ring_at}
use Rattle.face_walks.specs.Searches.{IsFirstUnreached, IsReachedFrom, Leads}
use Rattle.face_walks.proofs.Bearings.{clockwise_from, differ_last}
use Rattle.face_walks.proofs.Holding.{holds}
use Rattle.face_walks.proofs.Linking.{AreLed, halves_differ, led_ways, outgoing}
use Rattle.face_walks.proofs.Settled.{plane}

abbrev Piece : Type 0
Piece = ℕ × ℕ

pub reached_by : (Step Other : ℕ → ℕ → Type 0) → ((u v : ℕ) → Step u v → Other u v) → (from v : ℕ) → IsReached Step from v → IsReached Other from v
reached_by Step Other f from v begun = begun
reached_by Step Other f from v (gone_on u r s) = gone_on u (reached_by Step Other f from u r) (f u v s)

module _ {A : Type 0} {k : ℕ} {surd : A → Surd ℤ} (numbers : SurdNumbers k surd) (drawing : Drawing A) (set : IsWellSet numbers drawing)
    (first : Halves Piece) (pairs : ArePairs drawing.edges (length drawing.edges) first) where
  abbrev E : List Edge
  E = drawing.edges

  abbrev V : List (Point A)
  V = drawing.vertices

  plane_of : IsPlane numbers.ring drawing.vertices drawing.edges
  plane_of = plane numbers drawing set

  pub held : HoldsPieces drawing.edges first
  held = holds numbers.ring drawing.vertices drawing.edges plane_of first pairs

  pub tails : (h : ℕ) → h < count first → (piece_at first h).0 < length drawing.vertices
  tails h l = in_range numbers.ring drawing.vertices drawing.edges plane_of (piece_at first h).0 (piece_at first h).1 (held.only h l)

  pub heads : (h : ℕ) → h < count first → (piece_at first h).1 < length drawing.vertices
  heads h l = directed_end numbers.ring drawing.vertices drawing.edges plane_of (piece_at first h).0 (piece_at first h).1 (held.only h l)

  -- what is reached along half-edges is joined by edges
  leads_by : (u v : ℕ) → Leads first u v → IsDirectedPiece drawing.edges u v
  leads_by u v s = subst (λ (p : Piece). IsDirectedPiece drawing.edges p.0 p.1) s.2 (held.only s.0 s.1)

  joined_of : (v : ℕ) → IsReachedFrom first 0 v → AreJoined drawing.edges 0 v
  joined_of v r = reached_by (Leads first) (IsDirectedPiece drawing.edges) leads_by 0 v r

  reached_of : (v : ℕ) → AreJoined drawing.edges 0 v → IsReachedFrom first 0 v
  reached_of v r = reached_by (IsDirectedPiece drawing.edges) (Leads first) (λ u w d. held.every u w d) 0 v r

  pub parted : (n v : ℕ) → n ≡ length drawing.vertices → IsFirstUnreached first n v → IsFirstParted drawing.edges (length drawing.vertices) v
  parted n v e p = record {
    in_range = subst (λ (m : ℕ). v < m) e p.in_range;
    parted = λ j. p.unreached (reached_of v j);
    least = λ u l. joined_of u (p.least u l);
  }

  pub connected : (n : ℕ) → n ≡ length drawing.vertices → ((v : ℕ) → v < n → IsReachedFrom first 0 v) → IsConnected numbers.ring drawing.vertices drawing.edges
  connected n e r = λ v l. joined_of v (r v (subst (λ (m : ℕ). v < m) (sym e) l))

  module _ (headings : List (Heading A)) (headed : AreHeadings numbers drawing (length drawing.edges) headings) where
    pub as_long : length headings ≡ count first
    as_long = headed.two_each ∙ sym pairs.two_each

    pub led : AreLed numbers drawing first headings
    led = led_ways numbers drawing first headings pairs headed

    pub differ : (g f : ℕ) → g < count first → f < count first → ¬ (g ≡ f) → (piece_at first g).0 ≡ (piece_at first f).0
        → Differ numbers.ring (lead numbers.ring headings g) (lead numbers.ring headings f)
    differ = halves_differ numbers drawing set first held headings led

    module _ (rings : List (List HalfId)) (as_many : length rings ≡ length drawing.vertices) (r : AreRings numbers.ring headings first (count first) rings) where
      pub out : AreOutgoing first rings
      out = outgoing numbers.ring headings first rings r

      pub heads_in : (h : ℕ) → h < count first → (piece_at first h).1 < length rings
      heads_in h l = subst (λ (n : ℕ). (piece_at first h).1 < n) (sym as_many) (heads h l)

      -- each vertex has a half-edge
      pub used : (v : ℕ) → v < length rings → 0 < length (ring_at rings v)
      used v l =
          let e = set.used v (subst (λ (n : ℕ). v < n) as_many l) in
          let d : (x : ℕ) × IsDirectedPiece drawing.edges v x
          = elim e.2 [ inl a ↦ (e.0.to, (e.0, e.1, inl (a, refl))) | inr a ↦ (e.0.from, (e.0, e.1, inr (refl, a))) ] in
          let h = held.every v d.0 d.1 in
          let has : HasHalf (ring_at rings v) h.0 = subst (λ (u : ℕ). HasHalf (ring_at rings u) h.0) (ap (λ (p : Piece). p.0) h.2) (r.every h.0 h.1) in
          let inside = has.1 in
          omega arith

      pub in_headings : (v m : ℕ) → v < length rings → m < length (ring_at rings v) → half_at (ring_at rings v) m < length headings
      in_headings v m l i = subst (λ (n : ℕ). half_at (ring_at rings v) m < n) (sym as_long) (out.in_range v m l i)

      pub apart : (v i j : ℕ) → v < length rings → i < length (ring_at rings v) → j < length (ring_at rings v)
          → ¬ (half_at (ring_at rings v) i ≡ half_at (ring_at rings v) j)
          → Differ numbers.ring (lead numbers.ring headings (half_at (ring_at rings v) i)) (lead numbers.ring headings (half_at (ring_at rings v) j))
      apart v i j l li lj other =
          differ (half_at (ring_at rings v) i) (half_at (ring_at rings v) j) (out.in_range v i l li) (out.in_range v j l lj) other
          (out.tails v i l li ∙ sym (out.tails v j l lj))

      -- the piece of a half-edge of a ring goes out of its vertex
      goes : (v m : ℕ) → v < length rings → m < length (ring_at rings v) → piece_at first (half_at (ring_at rings v) m) ≡ (v, (piece_at first (half_at (ring_at rings v) m)).1)
      goes v m l i = ap (λ (t : ℕ). (t, (piece_at first (half_at (ring_at rings v) m)).1)) (out.tails v m l i)

      pub west_differs : (v m : ℕ) → IsLeastPoint numbers.ring drawing.vertices (length drawing.vertices) v → m < length (ring_at rings v)
          → Differ numbers.ring (west numbers.ops) (lead numbers.ring headings (half_at (ring_at rings v) m))
      west_differs v m least i =
          let l : v < length rings = subst (λ (n : ℕ). v < n) (sym as_many) least.in_range in
          let h : ℕ = half_at (ring_at rings v) m in
          let below : h < count first = out.in_range v m l i in
          let x : ℕ = (piece_at first h).1 in
          let d : IsDirectedPiece drawing.edges v x = subst (λ (p : Piece). IsDirectedPiece drawing.edges p.0 p.1) (goes v m l i) (held.only h below) in
          differ_last numbers.ring (west numbers.ops) (lead numbers.ring headings h) (way numbers.ring drawing.vertices drawing.edges v x)
          (subst (λ (p : Piece). IsSameWay numbers.ring (lead numbers.ring headings h) (way numbers.ring drawing.vertices drawing.edges p.0 p.1)) (goes v m l i) (led h below))
          (not_westwards numbers.ring (way numbers.ring drawing.vertices drawing.edges v x)
          (later_of numbers.ring drawing.vertices drawing.edges plane_of v x
          (least.before x (directed_end numbers.ring drawing.vertices drawing.edges plane_of v x d) (other_end numbers.ring drawing.vertices drawing.edges plane_of v x d))))

      module _ (o : ℕ) (is : IsOutsideHalf numbers.ring drawing.vertices rings headings o) where
        l : is.vertex < length rings
        l = subst (λ (n : ℕ). is.vertex < n) (sym as_many) is.least.in_range

        pub outside_below : o < count first
        outside_below = subst (λ (h : ℕ). h < count first) is.first.has.2 (out.in_range is.vertex is.first.has.0 l is.first.has.1)

        at_vertex : piece_at first o ≡ (is.vertex, (piece_at first o).1)
        at_vertex = subst (λ (h : ℕ). piece_at first h ≡ (is.vertex, (piece_at first h).1)) is.first.has.2 (goes is.vertex is.first.has.0 l is.first.has.1)

        leads_out : IsSameWay numbers.ring (lead numbers.ring headings o) (way numbers.ring drawing.vertices drawing.edges is.vertex (piece_at first o).1)
        leads_out = subst (λ (p : Piece). IsSameWay numbers.ring (lead numbers.ring headings o) (way numbers.ring drawing.vertices drawing.edges p.0 p.1)) at_vertex (led o outside_below)

        first_of : (x : ℕ) → IsDirectedPiece drawing.edges is.vertex x → ¬ (x ≡ (piece_at first o).1)
            → IsClockwise numbers.ring (west numbers.ops) (way numbers.ring drawing.vertices drawing.edges is.vertex (piece_at first o).1)
            (way numbers.ring drawing.vertices drawing.edges is.vertex x)
        first_of x d n =
            let e = held.every is.vertex x d in
            let has : HasHalf (ring_at rings is.vertex) e.0
            = subst (λ (u : ℕ). HasHalf (ring_at rings u) e.0) (ap (λ (p : Piece). p.0) e.2) (r.every e.0 e.1) in
            let x_is : x ≡ (piece_at first e.0).1 = sym (ap (λ (p : Piece). p.1) e.2) in
            let other : ¬ (half_at (ring_at rings is.vertex) has.0 ≡ o) = λ s. n (x_is ∙ ap (λ (h : ℕ). (piece_at first h).1) (sym has.2 ∙ s)) in
            let before = is.first.before has.0 has.1 other in
            let way_e : IsSameWay numbers.ring (lead numbers.ring headings e.0) (way numbers.ring drawing.vertices drawing.edges is.vertex x)
            = subst (λ (p : Piece). IsSameWay numbers.ring (lead numbers.ring headings e.0) (way numbers.ring drawing.vertices drawing.edges p.0 p.1)) e.2 (led e.0 e.1) in
            clockwise_from numbers.ring (west numbers.ops) (lead numbers.ring headings o) (lead numbers.ring headings e.0)
            (way numbers.ring drawing.vertices drawing.edges is.vertex (piece_at first o).1) (way numbers.ring drawing.vertices drawing.edges is.vertex x)
            leads_out way_e
            (subst (λ (h : ℕ). IsClockwise numbers.ring (west numbers.ops) (lead numbers.ring headings o) (lead numbers.ring headings h)) has.2 before)

        pub outside_is : IsOutside numbers.ring drawing.vertices drawing.edges (piece_at first o).0 (piece_at first o).1
        outside_is = subst (λ (u : ℕ). IsOutside numbers.ring drawing.vertices drawing.edges u (piece_at first o).1) (sym (ap (λ (p : Piece). p.0) at_vertex)) (record {
          in_range = is.least.in_range;
          least = is.least.before;
          first = record {
            neighbour = subst (λ (p : Piece). IsDirectedPiece drawing.edges p.0 p.1) at_vertex (held.only o outside_below);
            first = λ x d skipped n. first_of x d n;
          };
        })
