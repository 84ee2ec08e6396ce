-- The side of a line on which the inside of a convex face lies, by the sides of its corners.
use Rattle.std.proofs.Common.{◌≡◌, ◌∙◌, ap, refl, sym, subst, ◌⊎◌, inl, inr, IsTrue, Bool, true, false, List, [], ◌∷◌}
use lib.IntN.{pos}
use Rattle.std.specs.Prelude.{Contains}
use Rattle.std.specs.declared.cmp.Ordering.{Ordering}
use Rattle.std.specs.declared.cmp.Ordering.TheVariants.{Less, Equal, Greater}
use Rattle.std.specs.Ordering.{is_ge, ordering_reverse}
use Rattle.algebra.specs.OrderedRing.{OrderedRing}
use Rattle.algebra.proofs.Solvers.{reads, ring, sign_from, known, no_sign, given, sum, product, negated, square, unknown, variable, positive, negative, not_negative}
use Rattle.plane.specs.declared.point.Point.{Point}
use Rattle.plane.specs.Points.{IsPoint, IsSamePoint, combination}
use Rattle.plane.specs.Lines.{value, line, side}
use Rattle.plane.proofs.Lines.{swapped, value_combination}
use Rattle.plane.proofs.Signs.{positive_product}
use Rattle.layers.specs.Pieces.{Piece, pieces_round, side_of, IsAlong}
use Rattle.layers.specs.Sheets.{FoldedFace, IsInsideFace, inner_side}
use Rattle.layers.specs.Folded.{IsConvex}
use Rattle.layers.proofs.Convex.{centre, centre_is_point, centre_inside}
use Rattle.layers.proofs.Faces.{inward_line, inward_sign, inward_side, side_is_value}
use Rattle.layers.proofs.Places.{at_place}
use Rattle.layers.proofs.Sides.{Relined, relined}
use Rattle.layers.proofs.Signs.{flipped}
use Rattle.half_planes.specs.Faces.{InsideLiesOn}
use Rattle.half_planes.proofs.Winding.{inside_above}

-- a point on the line or on the side s
abbrev pub IsTowards : Ordering → Ordering → Type 0
IsTowards s o = (o ≡ Equal) ⊎ (o ≡ s)

left_is_ge : (o : Ordering) → IsTowards Greater o → IsTrue (is_ge o)
left_is_ge o (inl e) = cc
left_is_ge o (inr e) = cc

reversed_ge : (o : Ordering) → IsTowards Less o → IsTrue (is_ge (ordering_reverse o))
reversed_ge o (inl e) = cc
reversed_ge o (inr e) = cc

module _ {A : Type 0} (K : OrderedRing A) where
  -- ---- between a point inside and a corner all is inside

  outer_not_negative : (t : Bool) (s : Piece A) (v : Point A) → ¬ (side_of K s v ≡ ordering_reverse (inner_side t)) → IsTrue (is_ge (K.sign (value K.ops (inward_line K t s) v)))
  outer_not_negative false s v n = at (K.sign (value K.ops (inward_line K false s) v)) refl
    where
      at : (o : Ordering) → K.sign (value K.ops (inward_line K false s) v) ≡ o → IsTrue (is_ge (K.sign (value K.ops (inward_line K false s) v)))
      at Less e = absurd (n (side_is_value K s v ∙ e))
      at Equal e = cc
      at Greater e = cc
  outer_not_negative true s v n = at (K.sign (value K.ops (inward_line K true s) v)) refl
    where
      at : (o : Ordering) → K.sign (value K.ops (inward_line K true s) v) ≡ o → IsTrue (is_ge (K.sign (value K.ops (inward_line K true s) v)))
      at Less e = absurd (n (swapped K s.to s.from v ∙ ap ordering_reverse e))
      at Equal e = cc
      at Greater e = cc

  shares_positive : (s t x y : A) → K.sign s ≡ Greater → K.sign t ≡ Greater → K.sign x ≡ Greater → IsTrue (is_ge (K.sign y)) → K.sign (K.add (K.mul s x) (K.mul t y)) ≡ Greater
  shares_positive s t x y hs ht hx hy =
      sign_from K (s ∷ t ∷ x ∷ y ∷ []) (known positive (search reads depth 40 fits 50000) hs (known positive (search reads depth 40 fits 50000) ht (known positive (search reads depth 40 fits 50000) hx (known not_negative (search reads depth 40 fits 50000) hy no_sign))))
      positive (search reads depth 40 fits 50000) (sum (product (given 0) (given 2)) (product (given 1) (given 3))) tt tt

  module _ (face : FoldedFace A) (convex : IsConvex K face) where
    towards_corner : (p v : Point A) (s t : A) → IsInsideFace K face p → Contains face.corners v → K.sign s ≡ Greater → K.sign t ≡ Greater → IsInsideFace K face (combination K.ops s p t v)
    towards_corner p v s t inside there hs ht piece i =
        inward_side K face.turned piece (combination K.ops s p t v)
        (ap K.sign (value_combination K (inward_line K face.turned piece) s t p v)
        ∙ shares_positive s t (value K.ops (inward_line K face.turned piece) p) (value K.ops (inward_line K face.turned piece) v) hs ht
        (inward_sign K face.turned piece p (inside piece i)) (outer_not_negative face.turned piece v (convex.none_outside piece v i there)))

    still_point : (p v : Point A) (s t : A) → IsPoint K p → Contains face.corners v → K.sign s ≡ Greater → K.sign t ≡ Greater → IsPoint K (combination K.ops s p t v)
    still_point p v s t ip there hs ht =
        K.sign_add Greater (K.mul s p.w) (K.mul t v.w) (positive_product K s p.w hs ip) (positive_product K t v.w ht (convex.points v there))

    -- ---- a line

    module _ (a b : Point A) where
      abbrev here : Point A → A
      here v = value K.ops (line K.ops a b) v

      at_point : (p v : Point A) (s t : A) → side K a b (combination K.ops s p t v) ≡ K.sign (K.add (K.mul s (here p)) (K.mul t (here v)))
      at_point p v s t = ap K.sign (value_combination K (line K.ops a b) s t p v)

      sum_off : (x y : A) → K.sign x ≡ Equal → K.add (K.mul (K.int (pos 1)) x) (K.mul (K.int (pos 1)) y) ≡ y
      sum_off x y e = ap (λ z. K.add (K.mul (K.int (pos 1)) z) (K.mul (K.int (pos 1)) y)) (K.sign_zero x e) ∙ ring K (y ∷ []) (search reads depth 40 fits 50000) (search reads depth 40 fits 50000) tt

      -- x and y of different signs: the share y² of x and -2xy of y come to -y²x
      over_left : (x y : A) → K.sign x ≡ Greater → K.sign y ≡ Less → K.sign (K.add (K.mul (K.mul y y) x) (K.mul (K.neg (K.mul (K.int (pos 2)) (K.mul x y))) y)) ≡ Less
      over_left x y hx hy =
          sign_from K (x ∷ y ∷ []) (known positive (search reads depth 40 fits 50000) hx (known negative (search reads depth 40 fits 50000) hy no_sign)) negative (search reads depth 40 fits 50000)
          (product (product (given 1) (negated (given 1))) (given 0)) tt tt

      over_right : (x y : A) → K.sign x ≡ Less → K.sign y ≡ Greater → K.sign (K.add (K.mul (K.mul y y) x) (K.mul (K.neg (K.mul (K.int (pos 2)) (K.mul x y))) y)) ≡ Greater
      over_right x y hx hy =
          sign_from K (x ∷ y ∷ []) (known negative (search reads depth 40 fits 50000) hx (known positive (search reads depth 40 fits 50000) hy no_sign)) positive (search reads depth 40 fits 50000)
          (product (product (given 1) (negated (given 0))) (given 1)) tt tt

      square_positive : (y : A) → ¬ (K.sign y ≡ Equal) → K.sign (K.mul y y) ≡ Greater
      square_positive y n = K.sign_mul y y ∙ twice (K.sign y) n
        where
          twice : (o : Ordering) → ¬ (o ≡ Equal) → Rattle.algebra.specs.Order.product_sign o o ≡ Greater
          twice Less n = refl
          twice Equal n = absurd (n refl)
          twice Greater n = refl

      opposite_positive : (x y : A) → K.sign (K.mul x y) ≡ Less → K.sign (K.neg (K.mul (K.int (pos 2)) (K.mul x y))) ≡ Greater
      opposite_positive x y h =
          sign_from K (K.mul x y ∷ []) (known negative (search reads depth 40 fits 50000) h no_sign) positive (search reads depth 40 fits 50000)
          (negated (Rattle.algebra.proofs.Solvers.product (Rattle.algebra.proofs.Solvers.number (pos 2)) (given 0))) tt tt

      -- the inside lies on the side of each corner that isn't on the line
      pub corner_tells : (s : Ordering) (v : Point A) → Contains face.corners v → ¬ (side K a b v ≡ Equal) → ¬ (side K a b v ≡ s) → ¬ InsideLiesOn K a b face s
      corner_tells s v there off other lies = at (side K a b p) (side K a b v) refl refl
        where
          p : Point A
          p = centre K face.corners

          ip : IsPoint K p
          ip = centre_is_point K face convex

          inside : IsInsideFace K face p
          inside = centre_inside K face convex

          on : side K a b p ≡ s
          on = lies p ip inside

          moved : (t u : A) → K.sign t ≡ Greater → K.sign u ≡ Greater → K.sign (K.add (K.mul t (here p)) (K.mul u (here v))) ≡ s
          moved t u ht hu =
              sym (at_point p v t u) ∙ lies (combination K.ops t p u v) (still_point p v t u ip there ht hu) (towards_corner p v t u inside there ht hu)

          crossed : (o : Ordering) → K.sign (K.mul (here p) (here v)) ≡ Less
              → K.sign (K.add (K.mul (K.mul (here v) (here v)) (here p)) (K.mul (K.neg (K.mul (K.int (pos 2)) (K.mul (here p) (here v)))) (here v))) ≡ o → o ≡ s
          crossed o h e = sym e ∙ moved (K.mul (here v) (here v)) (K.neg (K.mul (K.int (pos 2)) (K.mul (here p) (here v)))) (square_positive (here v) off) (opposite_positive (here p) (here v) h)

          product_less : (o u : Ordering) → K.sign (here p) ≡ o → K.sign (here v) ≡ u → Rattle.algebra.specs.Order.product_sign o u ≡ Less → K.sign (K.mul (here p) (here v)) ≡ Less
          product_less o u ep ev h = K.sign_mul (here p) (here v) ∙ ap (λ x. Rattle.algebra.specs.Order.product_sign x (K.sign (here v))) ep ∙ ap (Rattle.algebra.specs.Order.product_sign o) ev ∙ h

          at : (o u : Ordering) → side K a b p ≡ o → side K a b v ≡ u → ⊥
          at Equal u ep ev = other (sym (ap K.sign (sum_off (here p) (here v) ep)) ∙ moved (K.int (pos 1)) (K.int (pos 1)) (K.sign_int (pos 1)) (K.sign_int (pos 1)))
          at o Equal ep ev = off ev
          at Greater Greater ep ev = other (ev ∙ sym ep ∙ on)
          at Less Less ep ev = other (ev ∙ sym ep ∙ on)
          at Greater Less ep ev = other (ev ∙ crossed Less (product_less Greater Less ep ev refl) (over_left (here p) (here v) ep ev))
          at Less Greater ep ev = other (ev ∙ crossed Greater (product_less Less Greater ep ev refl) (over_right (here p) (here v) ep ev))

      -- no line through two points has all corners on it
      pub some_corner_off : ¬ IsSamePoint K a b → ((v : Point A) → Contains face.corners v → side K a b v ≡ Equal) → ⊥
      some_corner_off proper all = first face.corners refl convex.some_corner.1
        where
          from_first : (p : Point A) (rest : List (Point A)) → face.corners ≡ p ∷ rest → (s : Piece A) × Contains (pieces_round face.corners) s
          from_first p [] e = (record { from = p; to = p }, subst (λ (ps : List (Point A)). Contains (pieces_round ps) (record { from = p; to = p })) (sym e) (Rattle.plane.proofs.Members.in_head (record { from = p; to = p }) []))
          from_first p (q ∷ rest) e =
              (record { from = p; to = q }, subst (λ (ps : List (Point A)). Contains (pieces_round ps) (record { from = p; to = q })) (sym e) (Rattle.plane.proofs.Members.in_head (record { from = p; to = q }) (Rattle.layers.specs.Pieces.pieces_on_to p (q ∷ rest))))

          refuted : (s : Piece A) → Contains (pieces_round face.corners) s → ⊥
          refuted s i =
              let ends = Rattle.layers.proofs.Sides.piece_ends face.corners i.0 s (Rattle.layers.proofs.Places.stands_at (pieces_round face.corners) s i) in
              let c = convex.solid s i in
              let along : IsAlong K (record { from = a; to = b }) s = record { from_on = all s.from ends.from_in; to_on = all s.to ends.to_in } in
              let r : Relined K (record { from = a; to = b }) s = relined K (record { from = a; to = b }) s c.0 along proper (λ z. Rattle.layers.proofs.Faces.inner_not_equal face.turned (sym c.2 ∙ z)) in
              told r.flip face.turned (sym (all c.0 c.1) ∙ r.is c.0 ∙ ap (flipped r.flip) c.2)
            where
              told : (flip t : Bool) → Equal ≡ flipped flip (inner_side t) → ⊥
              told false false e = cc
              told false true e = cc
              told true false e = cc
              told true true e = cc

          first : (corners : List (Point A)) → face.corners ≡ corners → Contains face.corners convex.some_corner.0 → ⊥
          first [] e i = Rattle.plane.proofs.Members.in_nil convex.some_corner.0 (subst (λ (ps : List (Point A)). Contains ps convex.some_corner.0) e i)
          first (p ∷ rest) e i = let s = from_first p rest e in refuted s.0 s.1

      -- where no corner lies on another side, and one on this, the whole inside does
      pub inside_towards : (s : Ordering) (u : Point A) → ¬ (s ≡ Equal) → ((v : Point A) → Contains face.corners v → IsTowards s (side K a b v)) → Contains face.corners u → side K a b u ≡ s → InsideLiesOn K a b face s
      inside_towards Equal u n all there on r ir inside = absurd (n refl)
      inside_towards Greater u n all there on r ir inside =
          inside_above K (line K.ops a b) r face u ir inside convex.points (λ v i. left_is_ge (side K a b v) (all v i)) there on
      inside_towards Less u n all there on r ir inside =
          swapped K b a r ∙ ap ordering_reverse
          (inside_above K (line K.ops b a) r face u ir inside convex.points
          (λ v i. let back : side K b a v ≡ ordering_reverse (side K a b v) = swapped K a b v in subst (λ o. IsTrue (is_ge o)) (sym back) (reversed_ge (side K a b v) (all v i)))
          there (swapped K a b u ∙ ap ordering_reverse on))
