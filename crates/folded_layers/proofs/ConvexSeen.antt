-- A convex face whose corners keep their sides, or all exchange them, is convex again.
use Rattle.std.proofs.Common.{◌≡◌, ◌∙◌, ap, sym, refl, subst, ℕ, List, map, Bool, true, false}
use Rattle.std.specs.List.{Contains}
use Rattle.std.specs.Ordering.{ordering_reverse}
use Rattle.std.specs.declared.cmp.Ordering.TheVariants.{Less, Greater}
use Rattle.algebra.specs.OrderedRing.{OrderedRing}
use Rattle.plane.specs.declared.point.Point.{Point}
use Rattle.plane.specs.Lines.{side}
use Rattle.plane.specs.Points.{IsPoint}
use Rattle.scaled_plane.specs.Walks.{pieces_round}
use Rattle.flat_fold.proofs.ConvexFaces.{in_map, map_in, points_round}
use Rattle.flat_fold.proofs.EdgePlaces.{side-corners}
use Rattle.layers.specs.Folded.{IsConvex}
use Rattle.layers.specs.Pieces.{Piece, pieces_round as point_pieces_round}
use Rattle.layers.specs.Sheets.{inner_side}
use Rattle.folded_layers.proofs.Placed.{seen, seen_once}

outer_seen : (t : Bool) → ordering_reverse (inner_side t) ≡ seen t Less
outer_seen false = refl
outer_seen true = refl

inner_seen : (t : Bool) → seen t Greater ≡ inner_side t
inner_seen false = refl
inner_seen true = refl

module _ {W : Type 0} (K : OrderedRing W) (js : List ℕ) (P Q : ℕ → Point W) (t : Bool) (points : (j : ℕ) → Contains js j → IsPoint K (Q j))
    (sides : (i j l : ℕ) → Contains js i → Contains js j → Contains js l → side K (Q i) (Q j) (Q l) ≡ seen t (side K (P i) (P j) (P l))) where
  piece_of : (s : Piece W) → Contains (point_pieces_round (map Q js)) s → (p : ℕ × ℕ) × Contains (pieces_round js) p × (record { from = Q p.0; to = Q p.1 } ≡ s)
  piece_of s i = in_map (λ (p : ℕ × ℕ). record { from = Q p.0; to = Q p.1 }) (pieces_round js) s (subst (λ (ps : List (Piece W)). Contains ps s) (points_round Q js) i)

  piece_before : (p : ℕ × ℕ) → Contains (pieces_round js) p → Contains (point_pieces_round (map P js)) (record { from = P p.0; to = P p.1 })
  piece_before p i =
      subst (λ (ps : List (Piece W)). Contains ps (record { from = P p.0; to = P p.1 })) (sym (points_round P js))
      (map_in (λ (q : ℕ × ℕ). record { from = P q.0; to = P q.1 }) (pieces_round js) p i)

  pub convex_seen : IsConvex K (record { corners = map P js; turned = false }) → IsConvex K (record { corners = map Q js; turned = t })
  convex_seen before = record {
    points = λ v i. let z = in_map Q js v i in subst (λ (q : Point W). IsPoint K q) z.2 (points z.0 z.1);
    some_corner = let z = in_map P js before.some_corner.0 before.some_corner.1 in (Q z.0, map_in Q js z.0 z.1);
    none_outside = λ s v i j e.
        let p = piece_of s i in
        let z = in_map Q js v j in
        let ends = side-corners js p.0.0 p.0.1 p.1 in
        before.none_outside (record { from = P p.0.0; to = P p.0.1 }) (P z.0) (piece_before p.0 p.1) (map_in P js z.0 z.1)
        (seen_once t (side K (P p.0.0) (P p.0.1) (P z.0)) Less
        (sym (sides p.0.0 p.0.1 z.0 ends.0 ends.1 z.1) ∙ (λ n. side K (p.2 n).from (p.2 n).to (z.2 n)) ∙ e ∙ outer_seen t));
    solid = λ s i.
        let p = piece_of s i in
        let inner = before.solid (record { from = P p.0.0; to = P p.0.1 }) (piece_before p.0 p.1) in
        let z = in_map P js inner.0 inner.1 in
        let ends = side-corners js p.0.0 p.0.1 p.1 in (
          Q z.0,
          map_in Q js z.0 z.1,
          (λ n. side K (sym p.2 n).from (sym p.2 n).to (Q z.0)) ∙ sides p.0.0 p.0.1 z.0 ends.0 ends.1 z.1
              ∙ ap (seen t) ((λ n. side K (P p.0.0) (P p.0.1) (z.2 n)) ∙ inner.2) ∙ inner_seen t,
        );
  }
