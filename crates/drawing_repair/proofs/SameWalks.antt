-- The walks of an edges' drawing are the same through lists of the same points.
use Rattle.std.proofs.Common.{◌≡◌, ◌∙◌, ◌<◌, ap, inl, inr, refl, subst, sym}
use Prim.Native.Nat.{ℕ}
use Rattle.std.specs.Prelude.{List, [], ◌∷◌, ◌++◌, pos}
use Rattle.std.specs.declared.cmp.Ordering.TheVariants.{Greater}
use Rattle.algebra.specs.OrderedRing.{OrderedRing}
use Rattle.algebra.proofs.Solvers.{multiple, no_equation, reads, ring_from, sign_of_multiple}
use Rattle.plane.specs.declared.point.Point.{Point}
use Rattle.plane.specs.Directions.{Direction, IsClockwise, direction, turn, west}
use Rattle.plane.specs.Points.{IsPoint, IsSamePoint}
use Rattle.plane.proofs.Order.{order_same, order_same_right}
use Rattle.scaled_plane.specs.declared.drawing.Edge.{Edge}
use Rattle.scaled_plane.specs.Walks.{ComesAfter, FollowOn, FollowRound, Follows, HasOutside, IsFaceWalk, IsFirstClockwise, IsOutside, IsWalk, pieces_round, way}
use Rattle.drawing_repair.proofs.SamePoints.{AreAlike, alike_turned}

module _ {A : Type 0} (K : OrderedRing A) where
  -- multiples of the two by numbers above zero are one
  record AreOneWay (d e : Direction A) : Type 0 where
    m : A
    n : A
    m_positive : K.sign m ≡ Greater
    n_positive : K.sign n ≡ Greater
    x : K.mul m d.x ≡ K.mul n e.x
    y : K.mul m d.y ≡ K.mul n e.y

  one_way_itself : (d : Direction A) → AreOneWay d d
  one_way_itself d = record { m = K.int (pos 1); n = K.int (pos 1); m_positive = K.sign_int (pos 1); n_positive = K.sign_int (pos 1); x = refl; y = refl }

  both : (a b : A) → K.sign a ≡ Greater → K.sign b ≡ Greater → K.sign (K.mul a b) ≡ Greater
  both a b ha hb = sign_of_multiple K a b ha ∙ hb

  turned_alike : (d e f g : Direction A) → AreOneWay d f → AreOneWay e g → K.sign (turn K.ops d e) ≡ K.sign (turn K.ops f g)
  turned_alike d e f g h k =
      let scaled : K.mul (K.mul h.m k.m) (turn K.ops d e) ≡ K.mul (K.mul h.n k.n) (turn K.ops f g)
      = times h.m k.m h.n k.n d.x d.y e.x e.y f.x f.y g.x g.y h.x h.y k.x k.y in
      sym (sign_of_multiple K (K.mul h.m k.m) (turn K.ops d e) (both h.m k.m h.m_positive k.m_positive)) ∙ ap K.sign scaled
      ∙ sign_of_multiple K (K.mul h.n k.n) (turn K.ops f g) (both h.n k.n h.n_positive k.n_positive)
    where
      times : (a b c d x y z w p q r s : A) → K.mul a x ≡ K.mul c p → K.mul a y ≡ K.mul c q → K.mul b z ≡ K.mul d r → K.mul b w ≡ K.mul d s
          → K.mul (K.mul a b) (K.sub (K.mul x w) (K.mul y z)) ≡ K.mul (K.mul c d) (K.sub (K.mul p s) (K.mul q r))
      times a b c d x y z w p q r s e f g h =
          ring_from K (a ∷ b ∷ c ∷ d ∷ x ∷ y ∷ z ∷ w ∷ p ∷ q ∷ r ∷ s ∷ [])
          (multiple (K.mul b w) (search reads depth 40 fits 50000) (search reads depth 40 fits 50000) (search reads depth 40 fits 50000) e
          (multiple (K.neg (K.mul b z)) (search reads depth 40 fits 50000) (search reads depth 40 fits 50000) (search reads depth 40 fits 50000) f
          (multiple (K.neg (K.mul c q)) (search reads depth 40 fits 50000) (search reads depth 40 fits 50000) (search reads depth 40 fits 50000) g
          (multiple (K.mul c p) (search reads depth 40 fits 50000) (search reads depth 40 fits 50000) (search reads depth 40 fits 50000) h no_equation))))
          (search reads depth 40 fits 50000) (search reads depth 40 fits 50000) tt

  clockwise_alike : (d e f a b c : Direction A) → AreOneWay d a → AreOneWay e b → AreOneWay f c → IsClockwise K d e f → IsClockwise K a b c
  clockwise_alike d e f a b c hd he hf t =
      let de = turned_alike d e a b hd he in
      let ef = turned_alike e f b c he hf in
      let fd = turned_alike f d c a hf hd in
      elim t [
        | inl h ↦ inl (sym de ∙ h.0, sym ef ∙ h.1)
        | inr other ↦ elim other [
          | inl h ↦ inr (inl (sym ef ∙ h.0, sym fd ∙ h.1))
          | inr h ↦ inr (inr (sym fd ∙ h.0, sym de ∙ h.1))
        ]
      ]

  -- the direction between the same points
  way_alike : (p q r s : Point A) → IsPoint K p → IsPoint K q → IsPoint K r → IsPoint K s → IsSamePoint K p r → IsSamePoint K q s
      → AreOneWay (direction K.ops p q) (direction K.ops r s)
  way_alike p q r s hp hq hr hs e f = record {
    m = K.mul r.w s.w;
    n = K.mul p.w q.w;
    m_positive = both r.w s.w hr hs;
    n_positive = both p.w q.w hp hq;
    x = coordinate p.x p.w q.x q.w r.x r.w s.x s.w e.same_x f.same_x;
    y = coordinate p.y p.w q.y q.w r.y r.w s.y s.w e.same_y f.same_y;
  }
    where
      coordinate : (a u b v c w d z : A) → K.mul a w ≡ K.mul c u → K.mul b z ≡ K.mul d v
          → K.mul (K.mul w z) (K.sub (K.mul b u) (K.mul a v)) ≡ K.mul (K.mul u v) (K.sub (K.mul d w) (K.mul c z))
      coordinate a u b v c w d z e f =
          ring_from K (a ∷ u ∷ b ∷ v ∷ c ∷ w ∷ d ∷ z ∷ [])
          (multiple (K.neg (K.mul v z)) (search reads depth 40 fits 50000) (search reads depth 40 fits 50000) (search reads depth 40 fits 50000) e
          (multiple (K.mul u w) (search reads depth 40 fits 50000) (search reads depth 40 fits 50000) (search reads depth 40 fits 50000) f no_equation))
          (search reads depth 40 fits 50000) (search reads depth 40 fits 50000) tt

  module _ (edges : List Edge) (vertices others : List (Point A)) (alike : AreAlike K vertices others) where
    ways : (u v : ℕ) → AreOneWay (way K vertices edges u v) (way K others edges u v)
    ways u v = way_alike _ _ _ _ (alike.points u) (alike.points v) (alike.also_points u) (alike.also_points v) (alike.same u) (alike.same v)

    first_alike : (d e : Direction A) (skipped : ℕ → Type 0) (v w : ℕ) → AreOneWay d e → IsFirstClockwise K vertices edges d skipped v w → IsFirstClockwise K others edges e skipped v w
    first_alike d e skipped v w one h = record {
      neighbour = h.neighbour;
      first = λ x piece not_skipped other. clockwise_alike d (way K vertices edges v w) (way K vertices edges v x) e (way K others edges v w) (way K others edges v x)
          one (ways v w) (ways v x) (h.first x piece not_skipped other);
    }

    comes_after : (u v w : ℕ) → ComesAfter K vertices edges u v w → ComesAfter K others edges u v w
    comes_after u v w h = record { piece = h.piece; next = first_alike (way K vertices edges v u) (way K others edges v u) (λ x. x ≡ u) v w (ways v u) h.next }

    follows : (p q : ℕ × ℕ) → Follows K vertices edges p q → Follows K others edges p q
    follows p q h = (h.0, comes_after p.0 p.1 q.1 h.1)

    follow_on : (p : ℕ × ℕ) (rest : List (ℕ × ℕ)) → FollowOn K vertices edges p rest → FollowOn K others edges p rest
    follow_on p [] h = tt
    follow_on p (q ∷ rest) h = (follows p q h.0, follow_on q rest h.1)

    follow_round : (pieces : List (ℕ × ℕ)) → FollowRound K vertices edges pieces → FollowRound K others edges pieces
    follow_round [] h = h
    follow_round (p ∷ rest) h = follow_on p (rest ++ p ∷ []) h

    walk_alike : (corners : List ℕ) → IsWalk K vertices edges corners → IsWalk K others edges corners
    walk_alike corners h = record { follow = follow_round (pieces_round corners) h.follow; once = h.once }

    outside_alike : (u w : ℕ) → IsOutside K vertices edges u w → IsOutside K others edges u w
    outside_alike u w h = record {
      in_range = subst (λ (n : ℕ). u < n) alike.long h.in_range;
      least = λ v below other.
          sym (order_same K _ _ _ (alike.points u) (alike.also_points u) (alike.same u) ∙ order_same_right K _ _ _ (alike.points v) (alike.also_points v) (alike.same v))
          ∙ h.least v (subst (λ (n : ℕ). v < n) (sym alike.long) below) other;
      first = first_alike (west K.ops) (west K.ops) (λ x. ⊥) u w (one_way_itself (west K.ops)) h.first;
    }

    has_outside : (corners : List ℕ) → HasOutside K vertices edges corners → HasOutside K others edges corners
    has_outside corners h = (h.0, h.1, outside_alike h.0 h.1 h.2, h.3)

  -- a face walk through the one list of points is one through the other
  pub face_walk_alike : (edges : List Edge) (vertices others : List (Point A)) → AreAlike K vertices others
      → (corners : List ℕ) → IsFaceWalk K vertices edges corners → IsFaceWalk K others edges corners
  face_walk_alike edges vertices others alike corners h = record {
    walk = walk_alike edges vertices others alike corners h.walk;
    least = h.least;
    inner = λ outside. h.inner (has_outside edges others vertices (alike_turned K vertices others alike) corners outside);
  }
