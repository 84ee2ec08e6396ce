-- A directed piece of a face is a side of one edge at most.
use Rattle.std.proofs.Common.{◌≡◌, ◌∙◌, sym, refl, subst, ℕ, ℤ, List, [], ◌<◌, length, Some, None, Option, inl, inr, ◌⊎◌, arith}
use Rattle.std.specs.List.{Contains}
use Rattle.std.proofs.lemmas.Bool.{cases_lt}
use Rattle.std.proofs.lemmas.List.Elements.{Contains-append_cases}
use Rattle.algebra.specs.LowestTerms.{Parts}
use Rattle.algebra.specs.OrderedRing.{OrderedRing}
use Rattle.algebra.specs.Surd.{Surd}
use Rattle.algebra.specs.WholeSurds.{SurdNumbers}
use Rattle.fold_base.specs.declared.letter.Letter.TheVariants.{Border}
use Rattle.plane.specs.declared.point.Point.{Point}
use Rattle.plane.specs.Segments.{MeetInEnds}
use Rattle.plane.proofs.First.{same_or_not}
use Rattle.plane.proofs.Members.{in_cons, in_nil}
use Rattle.scaled_plane.specs.declared.drawing.Edge.{Edge}
use Rattle.scaled_plane.specs.declared.drawing.Ends.{Ends}
use Rattle.scaled_plane.specs.declared.drawing.Face.{Face}
use Rattle.scaled_plane.specs.Pieces.{point_at}
use Rattle.face_walks.proofs.Holding.{not_same_ends, not_turned_ends}
use Rattle.flat_fold.specs.declared.sides.Side.{Side}
use Rattle.flat_fold.specs.declared.sides.Sides.{Sides}
use Rattle.flat_fold.specs.EdgeSides.{Begins, HasSides, IsSide, KnowsSides, sides_at}
use Rattle.flat_fold.specs.Faces.{edge_at}
use Rattle.flat_fold.specs.Folded.{Layout}
use Rattle.flat_fold.specs.Sheets.{FormSheet}
use Rattle.flat_fold.proofs.SheetLaws.{edge-contains}
use Rattle.flat_fold.proofs.SheetPlane.{sheet-plane, vertex-point, vertices-apart}
use Rattle.layers.specs.Folded.{IsSideOf}
use Rattle.layers.specs.Sheets.{FaceSide, FoldedEdge}
use Rattle.folded_layers.specs.Sheets.{folded_sheet, side_there, sides_there}
use Rattle.folded_layers.proofs.Listed.{edge_is, edge_within}

-- the edge leads from u to v, or from v to u
abbrev pub IsPieceOf : Edge → ℕ → ℕ → Type 0
IsPieceOf edge u v = ((edge.from ≡ u) × (edge.to ≡ v)) ⊎ ((edge.to ≡ u) × (edge.from ≡ v))

abbrev pair : ℕ → ℕ → ℕ × ℕ
pair u v = (u, v)

some_same : {p q : ℕ × ℕ} → Some p ≡ Some q → p ≡ q
some_same e = cc

-- ---- edges with the same ends

module _ {N : Type 0} {parts : N → Parts} {W : Type 0} {k : ℕ} {surd : W → Surd ℤ} {numbers : SurdNumbers k surd} (ends : Ends N) (faces : List Face)
    (form : FormSheet parts numbers ends faces) where
  abbrev K : OrderedRing W
  K = numbers.ring

  abbrev edges : List Edge
  edges = ends.edges

  abbrev position : ℕ → Point W
  position v = point_at K form.scaled.points v

  apart : (e d : ℕ) → e < d → d < length edges
      → MeetInEnds K (position (edge_at edges e).from) (position (edge_at edges e).to) (position (edge_at edges d).from) (position (edge_at edges d).to)
  apart e d less within = (sheet-plane ends faces form).apart e d (record { from = 0; to = 0; letter = Border }) less within

  module _ (e d : ℕ) (less : e < d) (within : d < length edges) where
    abbrev first : Edge
    first = edge_at edges e

    abbrev second : Edge
    second = edge_at edges d

    there : (first.from < length form.scaled.points) × (first.to < length form.scaled.points) × ¬ (first.from ≡ first.to)
    there = (sheet-plane ends faces form).ends first (edge-contains edges e (omega (arith, less, within)))

    not_alike : second.from ≡ first.from → second.to ≡ first.to → ⊥
    not_alike from to =
        not_same_ends K (position first.from) (position first.to) (vertex-point ends faces form first.from there.0) (vertex-point ends faces form first.to there.1)
        (vertices-apart ends faces form first.from first.to there.0 there.1 there.2)
        (subst (λ (v : ℕ). MeetInEnds K (position first.from) (position first.to) (position v) (position first.to)) from
        (subst (λ (v : ℕ). MeetInEnds K (position first.from) (position first.to) (position second.from) (position v)) to (apart e d less within)))

    not_turned : second.from ≡ first.to → second.to ≡ first.from → ⊥
    not_turned from to =
        not_turned_ends K (position first.from) (position first.to) (vertex-point ends faces form first.from there.0) (vertex-point ends faces form first.to there.1)
        (vertices-apart ends faces form first.from first.to there.0 there.1 there.2)
        (subst (λ (v : ℕ). MeetInEnds K (position first.from) (position first.to) (position v) (position first.from)) from
        (subst (λ (v : ℕ). MeetInEnds K (position first.from) (position first.to) (position second.from) (position v)) to (apart e d less within)))

    not_both : (u v : ℕ) → IsPieceOf first u v → IsPieceOf second u v → ⊥
    not_both u v (inl a) (inl b) = not_alike (b.0 ∙ sym a.0) (b.1 ∙ sym a.1)
    not_both u v (inl a) (inr b) = not_turned (b.1 ∙ sym a.1) (b.0 ∙ sym a.0)
    not_both u v (inr a) (inl b) = not_turned (b.0 ∙ sym a.0) (b.1 ∙ sym a.1)
    not_both u v (inr a) (inr b) = not_alike (b.1 ∙ sym a.1) (b.0 ∙ sym a.0)

  -- each directed piece is of one edge
  one_with : (e d u v : ℕ) → e < length edges → d < length edges → IsPieceOf (edge_at edges e) u v → IsPieceOf (edge_at edges d) u v → e ≡ d
  one_with e d u v e_in d_in a b = elim (same_or_not e d) [
    | inl same ↦ same
    | inr other ↦ elim (cases_lt e d) [
      | inl less ↦ absurd (not_both e d less d_in u v a b)
      | inr more ↦ absurd (not_both d e (omega (arith, more, other)) e_in u v b a)
    ]
  ]

-- ---- the pieces that sides are

-- the side is a directed piece of the edge
pub record Begun (faces : List Face) (edge : Edge) (side : FaceSide) : Type 0 where
  pub from : ℕ
  pub to : ℕ
  pub begins : Begins faces side.face side.corner from to
  pub of_edge : IsPieceOf edge from to

module _ (faces : List Face) (edge : Edge) where
  begun_left : (l : Option Side) (side : FaceSide) → IsSide faces edge.from edge.to l → Contains (side_there l) side → Begun faces edge side
  begun_left None side a i = absurd (in_nil side i)
  begun_left (Some l) side a i = elim (in_cons (record { face = l.face; corner = l.corner }) [] side i) [
    | inl same ↦ record {
      from = edge.from;
      to = edge.to;
      begins = subst (λ (s : FaceSide). Begins faces s.face s.corner edge.from edge.to) same a;
      of_edge = inl (refl, refl);
    }
    | inr none ↦ absurd (in_nil side none)
  ]

  begun_right : (r : Option Side) (side : FaceSide) → IsSide faces edge.to edge.from r → Contains (side_there r) side → Begun faces edge side
  begun_right None side b i = absurd (in_nil side i)
  begun_right (Some r) side b i = elim (in_cons (record { face = r.face; corner = r.corner }) [] side i) [
    | inl same ↦ record {
      from = edge.to;
      to = edge.from;
      begins = subst (λ (s : FaceSide). Begins faces s.face s.corner edge.to edge.from) same b;
      of_edge = inr (refl, refl);
    }
    | inr none ↦ absurd (in_nil side none)
  ]

  begun_either : (sides : Sides) (side : FaceSide) → HasSides faces edge sides → Contains (sides_there sides) side → Begun faces edge side
  begun_either sides side has i = elim (Contains-append_cases (side_there sides.left) (side_there sides.right) side i) [
    | inl l ↦ begun_left sides.left side has.left l
    | inr r ↦ begun_right sides.right side has.right r
  ]

module _ {N : Type 0} {parts : N → Parts} {W : Type 0} {k : ℕ} {surd : W → Surd ℤ} {numbers : SurdNumbers k surd} (layout : Layout N W)
    (form : FormSheet parts numbers layout.sheet.ends layout.sheet.faces) (known : KnowsSides layout.sheet.faces layout.sheet.ends.edges layout.sides) where
  abbrev all_edges : List Edge
  all_edges = layout.sheet.ends.edges

  -- a side of an edge is a directed piece of it
  pub side-begun : (e : ℕ) (side : FaceSide) → e < length all_edges → Contains (sides_there (sides_at layout.sides e)) side → Begun layout.sheet.faces (edge_at all_edges e) side
  side-begun e side l i = begun_either layout.sheet.faces (edge_at all_edges e) (sides_at layout.sides e) side (known.each e l) i

  begun_of : (e : ℕ) (side : FaceSide) → IsSideOf numbers.ring (folded_sheet numbers.ring layout) e side → (e < length all_edges) × Begun layout.sheet.faces (edge_at all_edges e) side
  begun_of e side (edge, is, i) =
      let within = edge_within numbers.ring layout e edge is in
      (within, side-begun e side within (subst (λ (x : FoldedEdge). Contains x.sides side) (edge_is numbers.ring layout e edge is) i))

  -- a directed piece of a face is a side of one edge at most
  pub one-edge : (e d : ℕ) (side : FaceSide) → IsSideOf numbers.ring (folded_sheet numbers.ring layout) e side → IsSideOf numbers.ring (folded_sheet numbers.ring layout) d side → e ≡ d
  one-edge e d side a b =
      let at = begun_of e side a in
      let there = begun_of d side b in
      let same : pair at.1.from at.1.to ≡ pair there.1.from there.1.to = some_same (sym at.1.begins.piece ∙ there.1.begins.piece) in
      one_with layout.sheet.ends layout.sheet.faces form e d there.1.from there.1.to at.0 there.0
      (subst (λ (p : ℕ × ℕ). IsPieceOf (edge_at all_edges e) p.0 p.1) same at.1.of_edge) there.1.of_edge
