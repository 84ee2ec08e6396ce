-- No two directed pieces of a face of a sheet have a common point between their ends.
use Rattle.std.proofs.Common.{◌≡◌, ◌∙◌, ap, sym, subst, ℕ, ℤ, List, [], ◌∷◌, ◌<◌, length, map, Some, inl, inr, ◌⊎◌, arith}
use Rattle.std.specs.Prelude.{slice_get}
use Rattle.std.specs.List.{Contains}
use Rattle.std.specs.Ordering.{ordering_reverse}
use Rattle.std.specs.declared.cmp.Ordering.TheVariants.{Equal, Greater}
use Rattle.std.proofs.lemmas.Bool.{cases_lt}
use Rattle.std.proofs.lemmas.Option.{get_or_from_slice_get, slice_get_within}
use Rattle.algebra.specs.LowestTerms.{Parts}
use Rattle.algebra.specs.OrderedRing.{OrderedRing}
use Rattle.algebra.specs.Surd.{Surd}
use Rattle.algebra.specs.WholeSurds.{SurdNumbers}
use Rattle.algebra.proofs.Solvers.{multiple, no_equation, reads, ring_from_multiple}
use Rattle.layers.specs.Pieces.{Piece as PointPiece, pieces_round as point_pieces_round}
use Rattle.layers.proofs.Places.{at_place, stands_at}
use Rattle.plane.specs.declared.point.Point.{Point}
use Rattle.plane.specs.Points.{IsPoint, IsSamePoint}
use Rattle.plane.specs.Segments.{IsBetween, IsEnd}
use Rattle.plane.proofs.First.{same_or_not}
use Rattle.plane.proofs.Lines.{swapped}
use Rattle.plane.proofs.OnSegments.{between_is_on, between_turned}
use Rattle.scaled_plane.specs.declared.drawing.Edge.{Edge}
use Rattle.scaled_plane.specs.declared.drawing.Ends.{Ends}
use Rattle.scaled_plane.specs.declared.drawing.Face.{Face}
use Rattle.scaled_plane.specs.declared.sheet.SheetFlaw.TheVariants.{NotPlane}
use Rattle.scaled_plane.specs.Pieces.{point_at}
use Rattle.scaled_plane.specs.Walks.{IsDirectedPiece, IsWalk, pieces_round}
use Rattle.flat_fold.specs.Faces.{corners_at, edge_at}
use Rattle.flat_fold.specs.Sheets.{FormSheet}
use Rattle.flat_fold.proofs.ConvexFaces.{convex-face, map_in, points_round}
use Rattle.flat_fold.proofs.FewCorners.{walk-directed}
use Rattle.flat_fold.proofs.SheetLaws.{edge-place, ends-differ, face-walk, long}
use Rattle.flat_fold.proofs.SheetPlane.{vertices-apart}

module _ {A : Type 0} (K : OrderedRing A) where
  -- the shares of p would make a share of one end nothing
  not_first : (a b p : Point A) → IsBetween K a b p → IsSamePoint K p a → IsSamePoint K b a
  not_first a b p m s = record {
    same_x = cleared m.factor m.from_share m.to_share a.x a.w b.x b.w p.x p.w m.to_positive s.same_x (ap (λ (q : Point A). q.x) m.is) (ap (λ (q : Point A). q.w) m.is);
    same_y = cleared m.factor m.from_share m.to_share a.y a.w b.y b.w p.y p.w m.to_positive s.same_y (ap (λ (q : Point A). q.y) m.is) (ap (λ (q : Point A). q.w) m.is);
  }
    where
      cleared : (f s t a aw b bw p pw : A) → K.sign t ≡ Greater → K.mul p aw ≡ K.mul a pw → K.mul f p ≡ K.add (K.mul s a) (K.mul t b) → K.mul f pw ≡ K.add (K.mul s aw) (K.mul t bw)
          → K.mul b aw ≡ K.mul a bw
      cleared f s t a aw b bw p pw positive same is is_w =
          ring_from_multiple K (f ∷ s ∷ t ∷ a ∷ aw ∷ b ∷ bw ∷ p ∷ pw ∷ [])
          (multiple f (search reads depth 40 fits 50000) (search reads depth 40 fits 50000) (search reads depth 40 fits 50000) same
          (multiple (K.neg aw) (search reads depth 40 fits 50000) (search reads depth 40 fits 50000) (search reads depth 40 fits 50000) is
          (multiple a (search reads depth 40 fits 50000) (search reads depth 40 fits 50000) (search reads depth 40 fits 50000) is_w no_equation)))
          (search reads depth 40 fits 50000) (λ z. let no : Greater ≡ Equal = sym positive ∙ z in cc) (search reads depth 40 fits 50000) (search reads depth 40 fits 50000) tt

  -- a point between two different ones is neither
  pub between_no_end : (a b p : Point A) → ¬ IsSamePoint K a b → IsBetween K a b p → ¬ IsEnd K a b p
  between_no_end a b p apart m (inl s) = let e = not_first a b p m s in apart (record { same_x = sym e.same_x; same_y = sym e.same_y })
  between_no_end a b p apart m (inr s) = apart (not_first b a p (between_turned K m) s)

module _ {N : Type 0} {parts : N → Parts} {W : Type 0} {k : ℕ} {surd : W → Surd ℤ} {numbers : SurdNumbers k surd} (ends : Ends N) (faces : List Face)
    (h : FormSheet parts numbers ends faces) where
  abbrev K : OrderedRing W
  K = numbers.ring

  abbrev P : ℕ → Point W
  P v = point_at K h.scaled.points v

  ends_apart : (e : Edge) → Contains ends.edges e → ¬ IsSamePoint K (P e.from) (P e.to)
  ends_apart e i =
      let range = h.in_range e i in
      let many : length h.scaled.points ≡ length ends.coords = long ends faces h in
      let from = range.0 in
      let to = range.1 in
      vertices-apart ends faces h e.from e.to (omega (arith, from, many)) (omega (arith, to, many)) (subst (λ (x : Edge). ¬ (x.from ≡ x.to)) (edge-place ends.edges e i) (ends-differ ends faces h i.0 i.1))

  -- two edges with a common point between the ends of both are one
  beside_not : (e f : Edge) (i : Contains ends.edges e) (j : Contains ends.edges f) (p : Point W) → IsPoint K p → IsBetween K (P e.from) (P e.to) p → IsBetween K (P f.from) (P f.to) p → ¬ (i.0 < j.0)
  beside_not e f i j p point on_e on_f less =
      h.sheet (NotPlane i.0 j.0) (
        e,
        f,
        stands_at ends.edges e i,
        stands_at ends.edges f j,
        inr (less, (p, (point, between_is_on K on_e, between_is_on K on_f), λ both. between_no_end K (P e.from) (P e.to) p (ends_apart e i) on_e both.0)),
      )

  one_edge : (e f : Edge) → Contains ends.edges e → Contains ends.edges f → (p : Point W) → IsPoint K p → IsBetween K (P e.from) (P e.to) p → IsBetween K (P f.from) (P f.to) p → e ≡ f
  one_edge e f i j p point on_e on_f = elim (same_or_not i.0 j.0) [
    | inl same ↦ sym (edge-place ends.edges e i) ∙ ap (edge_at ends.edges) same ∙ edge-place ends.edges f j
    | inr other ↦ elim (cases_lt i.0 j.0) [
      | inl less ↦ absurd (beside_not e f i j p point on_e on_f less)
      | inr more ↦ absurd (beside_not f e j i p point on_f on_e (omega (arith, more, other)))
    ]
  ]

  -- the edge of a directed piece, and that p is in its middle
  on_edge : (u v : ℕ) (d : IsDirectedPiece ends.edges u v) (p : Point W) → IsBetween K (P u) (P v) p → IsBetween K (P d.0.from) (P d.0.to) p
  on_edge u v (e, i, inl s) p m = subst (λ (x : ℕ). IsBetween K (P x) (P e.to) p) (sym s.0) (subst (λ (x : ℕ). IsBetween K (P u) (P x) p) (sym s.1) m)
  on_edge u v (e, i, inr s) p m = subst (λ (x : ℕ). IsBetween K (P x) (P e.to) p) (sym s.0) (subst (λ (x : ℕ). IsBetween K (P v) (P x) p) (sym s.1) (between_turned K m))

  same_or_turned : (u v x y : ℕ) (e f : Edge) → e ≡ f → ((e.from ≡ u) × (e.to ≡ v)) ⊎ ((e.from ≡ v) × (e.to ≡ u)) → ((f.from ≡ x) × (f.to ≡ y)) ⊎ ((f.from ≡ y) × (f.to ≡ x))
      → ((u ≡ x) × (v ≡ y)) ⊎ ((u ≡ y) × (v ≡ x))
  same_or_turned u v x y e f same (inl a) (inl b) = inl (sym a.0 ∙ ap (λ (g : Edge). g.from) same ∙ b.0, sym a.1 ∙ ap (λ (g : Edge). g.to) same ∙ b.1)
  same_or_turned u v x y e f same (inl a) (inr b) = inr (sym a.0 ∙ ap (λ (g : Edge). g.from) same ∙ b.0, sym a.1 ∙ ap (λ (g : Edge). g.to) same ∙ b.1)
  same_or_turned u v x y e f same (inr a) (inl b) = inr (sym a.1 ∙ ap (λ (g : Edge). g.to) same ∙ b.1, sym a.0 ∙ ap (λ (g : Edge). g.from) same ∙ b.0)
  same_or_turned u v x y e f same (inr a) (inr b) = inl (sym a.1 ∙ ap (λ (g : Edge). g.to) same ∙ b.1, sym a.0 ∙ ap (λ (g : Edge). g.from) same ∙ b.0)

  module _ (f : ℕ) (f_in : f < length faces) where
    abbrev cs : List ℕ
    cs = corners_at faces f

    -- no face goes along a piece and back: some corner is strictly at the left of it
    not_back : (u v : ℕ) → Contains (pieces_round cs) (u, v) → Contains (pieces_round cs) (v, u) → ⊥
    not_back u v there back =
        let convex = convex-face ends faces h f f_in in
        let left = convex.solid (record { from = P u; to = P v }) (as_points u v there) in
        convex.none_outside (record { from = P v; to = P u }) left.0 (as_points v u back) left.1 (swapped K (P u) (P v) left.0 ∙ ap ordering_reverse left.2)
      where
        as_points : (a b : ℕ) → Contains (pieces_round cs) (a, b) → Contains (point_pieces_round (map P cs)) (record { from = P a; to = P b })
        as_points a b i =
            subst (λ (ps : List (PointPiece W)). Contains ps (record { from = P a; to = P b })) (sym (points_round P cs))
            (map_in (λ (q : ℕ × ℕ). record { from = P q.0; to = P q.1 }) (pieces_round cs) (a, b) i)

    -- the walk has each piece once
    twice_not : (i j u v : ℕ) → IsWalk K h.scaled.points ends.edges cs → slice_get (pieces_round cs) i ≡ Some (u, v) → slice_get (pieces_round cs) j ≡ Some (u, v) → ¬ (i < j)
    twice_not i j u v w at_i at_j less =
        w.once i j (u, v) less (slice_get_within (pieces_round cs) j (u, v) at_j)
        (get_or_from_slice_get (pieces_round cs) i (u, v) (u, v) at_i ∙ sym (get_or_from_slice_get (pieces_round cs) j (u, v) (u, v) at_j))

    pub pieces-apart : (i j u v x y : ℕ) (p : Point W) → slice_get (pieces_round cs) i ≡ Some (u, v) → slice_get (pieces_round cs) j ≡ Some (x, y) → IsPoint K p
        → IsBetween K (P u) (P v) p → IsBetween K (P x) (P y) p → i ≡ j
    pieces-apart i j u v x y p at_i at_j point on_first on_second = elim (same_or_not i j) [
      | inl same ↦ same
      | inr other ↦ absurd (face-walk ends faces h f f_in (clash other))
    ]
      where
        clash : ¬ (i ≡ j) → ¬ IsWalk K h.scaled.points ends.edges cs
        clash other w =
            let d = walk-directed K h.scaled.points ends.edges cs w u v (at_place (pieces_round cs) i (u, v) at_i) in
            let e = walk-directed K h.scaled.points ends.edges cs w x y (at_place (pieces_round cs) j (x, y) at_j) in
            let same : d.0 ≡ e.0 = one_edge d.0 e.0 d.1 e.1 p point (on_edge u v d p on_first) (on_edge x y e p on_second) in
            elim (same_or_turned u v x y d.0 e.0 same d.2 e.2) [
              | inl s ↦ (
                  let again : slice_get (pieces_round cs) j ≡ Some (u, v) = subst (λ (q : ℕ × ℕ). slice_get (pieces_round cs) j ≡ Some q) (λ t. (sym s.0 t, sym s.1 t)) at_j in
                  elim (cases_lt i j) [ inl less ↦ twice_not i j u v w at_i again less | inr more ↦ twice_not j i u v w again at_i (omega (arith, more, other)) ])
              | inr s ↦ not_back u v (at_place (pieces_round cs) i (u, v) at_i)
                  (at_place (pieces_round cs) j (v, u) (subst (λ (q : ℕ × ℕ). slice_get (pieces_round cs) j ≡ Some q) (λ t. (sym s.1 t, sym s.0 t)) at_j))
            ]
