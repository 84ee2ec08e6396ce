-- Lists that have the same points, as vectors that may differ: the pieces and the walks between them are the same.
use Rattle.std.proofs.Common.{◌≡◌, ◌∙◌, ◌<◌, ap, arith, subst, sym}
use Prim.Native.Nat.{ℕ, zero, suc}
use Rattle.std.specs.List.{AllZip}
use Rattle.std.specs.Prelude.{List, [], ◌∷◌, length, slice_index_or}
use Rattle.std.specs.declared.cmp.Ordering.TheVariants.{Greater}
use Rattle.algebra.specs.OrderedRing.{OrderedRing}
use Rattle.algebra.proofs.Solvers.{multiple, no_equation, reads, ring_from, sign_of_multiple}
use Rattle.plane.specs.declared.point.Point.{Point}
use Rattle.plane.specs.Points.{IsPoint, IsSamePoint}
use Rattle.plane.specs.Segments.{IsBetween}
use Rattle.plane.proofs.Lines.{same_turned, same_vector}
use Rattle.plane.proofs.Order.{order_same, order_same_right}
use Rattle.plane.proofs.Shares.{on_same}
use Rattle.scaled_plane.specs.declared.drawing.Edge.{Edge}
use Rattle.scaled_plane.specs.declared.point.Segment.{Segment}
use Rattle.scaled_plane.specs.Pieces.{AreVertices, Covers, CoversWith, IsPieceEdge, point_at}
use Rattle.arrangement.proofs.Merging.{merged_moved}
use Rattle.arrangement.proofs.Places.{at_there}

pub zip_at : {X : Type 0} (R : X → X → Type 0) (xs ys : List X) (d : X) → AllZip R xs ys → R d d → (v : ℕ) → R (slice_index_or xs v d) (slice_index_or ys v d)
zip_at R [] [] d h r v = r
zip_at R [] (y ∷ ys) d h r v = absurd h
zip_at R (x ∷ xs) [] d h r v = absurd h
zip_at R (x ∷ xs) (y ∷ ys) d h r zero = h.0
zip_at R (x ∷ xs) (y ∷ ys) d h r (suc v) = zip_at R xs ys d h.1 r v

module _ {A : Type 0} (K : OrderedRing A) where
  -- the two lists have the same points, in one order
  pub record AreAlike (vertices others : List (Point A)) : Type 0 where
    pub long : length vertices ≡ length others
    pub points : (v : ℕ) → IsPoint K (point_at K vertices v)
    pub also_points : (v : ℕ) → IsPoint K (point_at K others v)
    pub same : (v : ℕ) → IsSamePoint K (point_at K vertices v) (point_at K others v)

  pub alike_turned : (vertices others : List (Point A)) → AreAlike vertices others → AreAlike others vertices
  alike_turned vertices others h = record {
    long = sym h.long;
    points = h.also_points;
    also_points = h.points;
    same = λ v. same_turned K (h.same v);
  }

  -- a point that lies between two lies between them by other vectors too
  between_same : (p q r s t : Point A) → IsPoint K p → IsPoint K q → IsPoint K s → IsPoint K t → IsSamePoint K p s → IsSamePoint K q t → IsBetween K p q r → IsBetween K s t r
  between_same p q r s t hp hq hs ht e f h = record {
    factor = K.mul h.factor (K.mul s.w t.w);
    from_share = K.mul h.from_share (K.mul p.w t.w);
    to_share = K.mul h.to_share (K.mul q.w s.w);
    factor_positive = three h.factor s.w t.w h.factor_positive hs ht;
    from_positive = three h.from_share p.w t.w h.from_positive hp ht;
    to_positive = three h.to_share q.w s.w h.to_positive hq hs;
    is = same_vector (scaled h.factor h.from_share h.to_share r.x p.x q.x p.w q.w s.x t.x s.w t.w (ap (λ v. v.x) h.is) e.same_x f.same_x)
        (scaled h.factor h.from_share h.to_share r.y p.y q.y p.w q.w s.y t.y s.w t.w (ap (λ v. v.y) h.is) e.same_y f.same_y)
        (scaled h.factor h.from_share h.to_share r.w p.w q.w p.w q.w s.w t.w s.w t.w (ap (λ v. v.w) h.is) (K.mul_comm p.w s.w) (K.mul_comm q.w t.w));
  }
    where
      three : (a b c : A) → K.sign a ≡ Greater → K.sign b ≡ Greater → K.sign c ≡ Greater → K.sign (K.mul a (K.mul b c)) ≡ Greater
      three a b c ha hb hc = sign_of_multiple K a (K.mul b c) ha ∙ sign_of_multiple K b c hb ∙ hc

      -- one coordinate
      scaled : (m a b x y z yw zw u v uw vw : A) → K.mul m x ≡ K.add (K.mul a y) (K.mul b z) → K.mul y uw ≡ K.mul u yw → K.mul z vw ≡ K.mul v zw
          → K.mul (K.mul m (K.mul uw vw)) x ≡ K.add (K.mul (K.mul a (K.mul yw vw)) u) (K.mul (K.mul b (K.mul zw uw)) v)
      scaled m a b x y z yw zw u v uw vw e f g =
          ring_from K (m ∷ a ∷ b ∷ x ∷ y ∷ z ∷ yw ∷ zw ∷ u ∷ v ∷ uw ∷ vw ∷ [])
          (multiple (K.mul uw vw) (search reads depth 40 fits 50000) (search reads depth 40 fits 50000) (search reads depth 40 fits 50000) e
          (multiple (K.mul a vw) (search reads depth 40 fits 50000) (search reads depth 40 fits 50000) (search reads depth 40 fits 50000) f
          (multiple (K.mul b uw) (search reads depth 40 fits 50000) (search reads depth 40 fits 50000) (search reads depth 40 fits 50000) g no_equation)))
          (search reads depth 40 fits 50000) (search reads depth 40 fits 50000) tt

  module _ (segments : List (Segment A)) (vertices others : List (Point A)) (all : AreVertices K segments others) (alike : AreAlike vertices others) where
    covers_same : (s : Segment A) (u v : ℕ) → Covers K s (point_at K vertices u) (point_at K vertices v) → Covers K s (point_at K others u) (point_at K others v)
    covers_same s u v h = record {
      proper = h.proper;
      first = on_same K (alike.points u) (alike.also_points u) (alike.same u) h.first;
      second = on_same K (alike.points v) (alike.also_points v) (alike.same v) h.second;
    }

    covers_back : (s : Segment A) (u v : ℕ) → Covers K s (point_at K others u) (point_at K others v) → Covers K s (point_at K vertices u) (point_at K vertices v)
    covers_back s u v h = record {
      proper = h.proper;
      first = on_same K (alike.also_points u) (alike.points u) (same_turned K (alike.same u)) h.first;
      second = on_same K (alike.also_points v) (alike.points v) (same_turned K (alike.same v)) h.second;
    }

    -- an edge of the drawing of the one is one of the drawing of the other
    pub edge_same : (e : Edge) → IsPieceEdge K segments vertices e → IsPieceEdge K segments others e
    edge_same e h =
        let in_range : e.to < length others = subst (λ (n : ℕ). e.to < n) alike.long h.in_range in
        let from_in_range : e.from < length others = let order = h.in_order in omega (arith, order, in_range) in
        record {
          in_order = h.in_order;
          in_range = in_range;
          piece = record {
            first = all.only _ (at_there K others e.from from_in_range);
            second = all.only _ (at_there K others e.to in_range);
            in_order = sym (order_same K _ _ _ (alike.points e.from) (alike.also_points e.from) (alike.same e.from)
                ∙ order_same_right K _ _ _ (alike.points e.to) (alike.also_points e.to) (alike.same e.to)) ∙ h.piece.in_order;
            covered = (h.piece.covered.0, h.piece.covered.1, covers_same h.piece.covered.0 e.from e.to h.piece.covered.2);
            nothing_between = λ r vertex between. h.piece.nothing_between r vertex
                (between_same _ _ r _ _ (alike.also_points e.from) (alike.also_points e.to) (alike.points e.from) (alike.points e.to)
                (same_turned K (alike.same e.from)) (same_turned K (alike.same e.to)) between);
          };
          letter = merged_moved (CoversWith K segments (point_at K vertices e.from) (point_at K vertices e.to)) (CoversWith K segments (point_at K others e.from) (point_at K others e.to))
              (λ l. (
                λ w. (w.0, w.1, covers_same w.0 e.from e.to w.2, w.3),
                λ w. (w.0, w.1, covers_back w.0 e.from e.to w.2, w.3),
              )) e.letter h.letter;
        }
