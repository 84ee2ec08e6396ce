-- A stretch of a folded edge that holds a point of some open half-planes holds a seam point of
-- them.
use mathlib.Core.Path.{◌≡◌, refl, sym, ap, subst, ◌∙◌}
use mathlib.Core.List.{List, [], ◌∷◌, ◌++◌}
use mathlib.Core.Logic.{◌⊎◌, inl, inr}
use Prim.Native.Nat.{ℕ, zero, suc}
use lib.IntN.{pos}
use Rattle.std.specs.Prelude.{Some, Contains}
use Rattle.std.specs.List.{slice_get}
use Rattle.std.specs.declared.cmp.Ordering.{Ordering}
use Rattle.std.specs.declared.cmp.Ordering.TheVariants.{Less, Equal, Greater}
use Rattle.algebra.specs.OrderedRing.{OrderedRing}
use Rattle.plane.specs.Lines.{perpendicular, value, LiesIn}
use Rattle.plane.specs.Points.{x_from, y_from, combination, IsPoint, IsSamePoint}
use Rattle.plane.specs.declared.point.Point.{Point}
use Rattle.algebra.proofs.RingLaws.{equal_of_difference}
use Rattle.algebra.proofs.Solvers.{reads, ring, ring_from, multiple, no_equation, sign_from, sign_of_multiple, known, no_sign, given, sum, square, unknown, variable, positive, negative}
use Rattle.plane.specs.declared.point.Line.{Line}
use Rattle.layers.proofs.FoldedFacts.{FoldedFacts}
use Rattle.plane.proofs.Members.{in_cons, in_tail, in_nil}
use Rattle.std.proofs.lemmas.List.Elements.{Contains-append_left as in_left, Contains-append_right as in_right}
use Rattle.layers.proofs.Places.{is_head, stands_at}
use Rattle.plane.proofs.Signs.{zero_sign}
use Rattle.plane.proofs.Density.{LeadsOff, Found, dense}
use Rattle.layers.proofs.Faces.{line_of, side_is_value, all_pieces, lines_of, piece_in_all, on_own_line, from_on_own, to_on_own, inside_off}
use Rattle.plane.proofs.Lines.{flat_of_same, holds_too}
use Rattle.plane.proofs.OnSegments.{between_is_on, between_turned, between_towards, on_between, point_between}
use Rattle.layers.specs.Pieces.{Piece, IsOnPiece, IsInMiddle}
use Rattle.layers.specs.Sheets.{FoldedFace, FoldedSheet, HasPiece, IsImage}
use Rattle.layers.specs.Points.{IsSeam}

module _ {A : Type 0} (K : OrderedRing A) where
  squares_zero : (a b : A) → K.sign (K.add (K.mul a a) (K.mul b b)) ≡ Equal → K.sign a ≡ Equal
  squares_zero a b h = at (K.sign a) refl
    where
      at : (o : Ordering) → K.sign a ≡ o → K.sign a ≡ Equal
      at Less e =
          let g : K.sign (K.add (K.mul a a) (K.mul b b)) ≡ Greater = sign_from K (a ∷ b ∷ []) (known negative (search reads depth 40 fits 50000) e no_sign) positive (search reads depth 40 fits 50000) (sum (square (given 0)) (square (unknown (variable 1)))) tt tt in
          let f = sym g ∙ h in cc
      at Equal e = e
      at Greater e =
          let g : K.sign (K.add (K.mul a a) (K.mul b b)) ≡ Greater = sign_from K (a ∷ b ∷ []) (known positive (search reads depth 40 fits 50000) e no_sign) positive (search reads depth 40 fits 50000) (sum (square (given 0)) (square (unknown (variable 1)))) tt tt in
          let f = sym g ∙ h in cc

  perpendicular_ends : (p q v : Point A) → K.sub (K.mul (value K.ops (perpendicular K.ops p q v) q) p.w) (K.mul (value K.ops (perpendicular K.ops p q v) p) q.w)
      ≡ K.mul v.w (K.add (K.mul (x_from K.ops p q) (x_from K.ops p q)) (K.mul (y_from K.ops p q) (y_from K.ops p q)))
  perpendicular_ends p q v =
      ring K (p.x ∷ p.y ∷ p.w ∷ q.x ∷ q.y ∷ q.w ∷ v.x ∷ v.y ∷ v.w ∷ []) (search reads depth 60 fits 100000) (search reads depth 60 fits 100000) tt

  perpendicular_here : (a b : A) (r v : Point A) → IsSamePoint K r v
      → value K.ops (record { a = K.mul a v.w; b = K.mul b v.w; c = K.neg (K.add (K.mul a v.x) (K.mul b v.y)) }) r ≡ K.int (pos 0)
  perpendicular_here a b r v h =
      ring_from K (a ∷ b ∷ r.x ∷ r.y ∷ r.w ∷ v.x ∷ v.y ∷ v.w ∷ []) (multiple a (search reads depth 40 fits 50000) (search reads depth 40 fits 50000) (search reads depth 40 fits 50000) h.same_x (multiple b (search reads depth 40 fits 50000) (search reads depth 40 fits 50000) (search reads depth 40 fits 50000) h.same_y no_equation)) (search reads depth 40 fits 50000) (search reads depth 40 fits 50000) tt

  difference_zero : (a b x y : A) → a ≡ K.int (pos 0) → b ≡ K.int (pos 0) → K.sub (K.mul a x) (K.mul b y) ≡ K.int (pos 0)
  difference_zero a b x y e f = ring_from K (a ∷ b ∷ x ∷ y ∷ []) (multiple x (search reads depth 40 fits 50000) (search reads depth 40 fits 50000) (search reads depth 40 fits 50000) e (multiple (K.neg y) (search reads depth 40 fits 50000) (search reads depth 40 fits 50000) (search reads depth 40 fits 50000) f no_equation)) (search reads depth 40 fits 50000) (search reads depth 40 fits 50000) tt

  perpendicular_not_flat : (p q v : Point A) → IsPoint K v → ¬ IsSamePoint K p q → K.sign (value K.ops (perpendicular K.ops p q v) p) ≡ Equal → K.sign (value K.ops (perpendicular K.ops p q v) q) ≡ Equal → ⊥
  perpendicular_not_flat p q v iv n hp hq =
      n (record {
        same_x = sym (equal_of_difference K.ops K.laws (K.mul q.x p.w) (K.mul p.x q.w) (K.sign_zero (x_from K.ops p q) (squares_zero (x_from K.ops p q) (y_from K.ops p q) squares)));
        same_y = sym (equal_of_difference K.ops K.laws (K.mul q.y p.w) (K.mul p.y q.w) (K.sign_zero (y_from K.ops p q) (squares_zero (y_from K.ops p q) (x_from K.ops p q)
            (ap K.sign (K.add_comm (K.mul (y_from K.ops p q) (y_from K.ops p q)) (K.mul (x_from K.ops p q) (x_from K.ops p q))) ∙ squares))));
      })
    where
      squares : K.sign (K.add (K.mul (x_from K.ops p q) (x_from K.ops p q)) (K.mul (y_from K.ops p q) (y_from K.ops p q))) ≡ Equal
      squares =
          sym (sign_of_multiple K v.w (K.add (K.mul (x_from K.ops p q) (x_from K.ops p q)) (K.mul (y_from K.ops p q) (y_from K.ops p q))) iv)
          ∙ ap K.sign (sym (perpendicular_ends p q v) ∙ difference_zero (value K.ops (perpendicular K.ops p q v) q) (value K.ops (perpendicular K.ops p q v) p) p.w q.w
          (K.sign_zero (value K.ops (perpendicular K.ops p q v) q) hq) (K.sign_zero (value K.ops (perpendicular K.ops p q v) p) hp))
          ∙ K.sign_int (pos 0)

  -- the corners of all faces, and the perpendicular lines through them
  abbrev pub all_corners : List (FoldedFace A) → List (Point A)
  all_corners [] = []
  all_corners (f ∷ fs) = f.corners ++ all_corners fs

  in_all_corners : (fs : List (FoldedFace A)) (f : ℕ) (face : FoldedFace A) (v : Point A) → slice_get fs f ≡ Some face → Contains face.corners v → Contains (all_corners fs) v
  in_all_corners [] f face v e h = cc
  in_all_corners (x ∷ fs) zero face v e h = let same : x ≡ face = cc in in_left x.corners (all_corners fs) v (subst (λ (y : FoldedFace A). Contains y.corners v) (sym same) h)
  in_all_corners (x ∷ fs) (suc f) face v e h = in_right x.corners (all_corners fs) v (in_all_corners fs f face v e h)

  abbrev pub perpendiculars : Point A → Point A → List (Point A) → List (Line A)
  perpendiculars p q [] = []
  perpendiculars p q (v ∷ vs) = perpendicular K.ops p q v ∷ perpendiculars p q vs

  in_perpendiculars : (p q : Point A) (vs : List (Point A)) (v : Point A) → Contains vs v → Contains (perpendiculars p q vs) (perpendicular K.ops p q v)
  in_perpendiculars p q [] v h = absurd (in_nil v h)
  in_perpendiculars p q (w ∷ vs) v h = elim (in_cons w vs v h) [
    | inl e ↦ is_head (perpendicular K.ops p q w) (perpendiculars p q vs) (perpendicular K.ops p q v) (ap (λ (x : Point A). perpendicular K.ops p q x) e)
    | inr j ↦ in_tail (perpendicular K.ops p q w) (perpendiculars p q vs) (perpendicular K.ops p q v) (in_perpendiculars p q vs v j)
  ]

  -- both points lie on the line
  abbrev pub IsFlat : Point A → Point A → Line A → Type 0
  IsFlat p q l = (K.sign (value K.ops l p) ≡ Equal) × (K.sign (value K.ops l q) ≡ Equal)

  module _ (p q : Point A) where
    abbrev pub IsBetween : Point A → Type 0
    IsBetween r = IsInMiddle K (record { from = p; to = q }) r

    abbrev pub IsEnd : Point A → Type 0
    IsEnd v = (v ≡ p) ⊎ (v ≡ q)

    stay : (s : A) (r : Point A) (t : A) (v : Point A) → K.sign s ≡ Greater → K.sign t ≡ Greater → IsBetween r → IsEnd v → IsBetween (combination K.ops s r t v)
    stay s r t v hs ht h (inl e) = subst (λ w. IsBetween (combination K.ops s r t w)) (sym e) (between_towards K p q r s t hs ht h)
    stay s r t v hs ht h (inr e) = subst (λ w. IsBetween (combination K.ops s r t w)) (sym e) (between_turned K (between_towards K q p r s t hs ht (between_turned K h)))

    leads_or_flat : (l : Line A) → LeadsOff K IsBetween IsEnd stay l ⊎ IsFlat p q l
    leads_or_flat l = at (K.sign (value K.ops l p)) (K.sign (value K.ops l q)) refl refl
      where
        at : (o u : Ordering) → K.sign (value K.ops l p) ≡ o → K.sign (value K.ops l q) ≡ u → LeadsOff K IsBetween IsEnd stay l ⊎ IsFlat p q l
        at Less u e f = inl (record { way = p; is_way = inl refl; off = λ z. let g = sym e ∙ z in cc })
        at Greater u e f = inl (record { way = p; is_way = inl refl; off = λ z. let g = sym e ∙ z in cc })
        at Equal Less e f = inl (record { way = q; is_way = inr refl; off = λ z. let g = sym f ∙ z in cc })
        at Equal Greater e f = inl (record { way = q; is_way = inr refl; off = λ z. let g = sym f ∙ z in cc })
        at Equal Equal e f = inr (e, f)

  module _ (sheet : FoldedSheet A) (folded : FoldedFacts K sheet) where
    pub piece_is_proper : (f k : ℕ) (s : Piece A) → HasPiece K sheet f k s → IsPoint K s.from → ¬ IsSamePoint K s.from s.to
    piece_is_proper f k s h i same = let o = inside_off K sheet folded f k s h in o.off (zero_sign K (value K.ops (line_of K s) o.point) (flat_of_same K s.from s.to o.point i same))

    pub record SeamPoint (line : Piece A) (p q : Point A) (ms : List (Line A)) : Type 0 where
      pub point : Point A
      pub is_point : IsPoint K point
      pub between : IsInMiddle K (record { from = p; to = q }) point
      pub lies : LiesIn K ms point
      pub on_line : IsOnPiece K line point
      pub is_seam : IsSeam K sheet line point
      -- the folded edges through it hold p and q as well
      pub flat : (e f : ℕ) (s : Piece A) → IsImage K sheet e f s → IsOnPiece K s point → IsFlat p q (line_of K s)

    -- on the stretch from p to q of the folded edge e
    pub seam_point : (e f : ℕ) (line : Piece A) → IsImage K sheet e f line → IsPoint K line.from → (p q : Point A) → IsPoint K p → IsPoint K q → IsOnPiece K line p → IsOnPiece K line q → ¬ IsSamePoint K p q
        → (ms : List (Line A)) (r : Point A) → IsInMiddle K (record { from = p; to = q }) r → LiesIn K ms r → SeamPoint line p q ms
    seam_point e f line image from_point p q ip iq hp hq n ms r hr lr =
        of (dense K (IsBetween p q) (IsEnd p q) (stay p q) (IsFlat p q) (lines_of K (all_pieces K sheet.faces) ++ perpendiculars p q (all_corners sheet.faces)) ms r hr lr (λ l i. leads_or_flat p q l))
      where
        of : Found K (IsBetween p q) (IsEnd p q) (stay p q) (IsFlat p q) (lines_of K (all_pieces K sheet.faces) ++ perpendiculars p q (all_corners sheet.faces)) ms → SeamPoint line p q ms
        of d = record {
          point = d.point;
          is_point = point_between K p q d.point ip iq d.good;
          between = d.good;
          lies = d.lies;
          on_line = on;
          is_seam = record {
            is_point = point_between K p q d.point ip iq d.good;
            is_line = piece_is_proper f image.corner line image.of_face from_point;
            edge = e;
            on_edge = record { face = f; piece = line; image = image; on = on };
            off_vertices = off;
            along = λ d g s i o. record {
              from_on = side_is_value K line s.from ∙ hold s g i o s.from (from_on_own K s);
              to_on = side_is_value K line s.to ∙ hold s g i o s.to (to_on_own K s);
            };
          };
          flat = λ d g s i o. flat d g s i o;
        }
          where
            on : IsOnPiece K line d.point
            on = on_between K line.from line.to p q d.point hp hq (between_is_on K d.good)

            flat : (c g : ℕ) (s : Piece A) → IsImage K sheet c g s → IsOnPiece K s d.point → IsFlat p q (line_of K s)
            flat c g s i o =
                elim (d.off (line_of K s) (in_left (lines_of K (all_pieces K sheet.faces)) (perpendiculars p q (all_corners sheet.faces)) (line_of K s) (piece_in_all K sheet i.of_face))) [
                  | inl k ↦ absurd (k (on_own_line K s d.point o))
                  | inr h ↦ h
                ]

            off : (face : FoldedFace A) (v : Point A) → Contains sheet.faces face → Contains face.corners v → ¬ IsSamePoint K d.point v
            off face v j i same =
                elim (d.off (perpendicular K.ops p q v) (in_right (lines_of K (all_pieces K sheet.faces)) (perpendiculars p q (all_corners sheet.faces)) (perpendicular K.ops p q v) (in_perpendiculars p q (all_corners sheet.faces) v (in_all_corners sheet.faces j.0 face v (stands_at sheet.faces face j) i)))) [
                  | inl k ↦ k (zero_sign K (value K.ops (perpendicular K.ops p q v) d.point) (perpendicular_here (x_from K.ops p q) (y_from K.ops p q) d.point v same))
                  | inr h ↦ perpendicular_not_flat p q v (folded.corner_is_point j.0 face v (stands_at sheet.faces face j) i) n h.0 h.1
                ]

            hold : (s : Piece A) (g : ℕ) {c : ℕ} (i : IsImage K sheet c g s) (o : IsOnPiece K s d.point) (x : Point A) → K.sign (value K.ops (line_of K s) x) ≡ Equal → K.sign (value K.ops (line_of K line) x) ≡ Equal
            hold s g {c} i o x z =
                let h = flat c g s i o in
                let w = inside_off K sheet folded g i.corner s i.of_face in
                holds_too K (line_of K line) (line_of K s) p q x w.point n (on_own_line K line p hp) (on_own_line K line q hq) h.0 h.1 z w.off
