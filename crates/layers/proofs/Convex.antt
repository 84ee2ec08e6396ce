-- Finitely many signs at the corners of a face say that it has points inside, and that these begin
-- at the middle of each directed piece.
use mathlib.Core.Bool.{Bool, true, false}
use mathlib.Core.List.{List, [], ◌∷◌}
use mathlib.Core.Logic.{inl, inr}
use mathlib.Core.Path.{◌≡◌, refl, sym, ap, subst, ◌∙◌}
use Prim.Native.Nat.{ℕ, zero, suc}
use lib.IntN.{pos}
use Rattle.plane.proofs.Lines.{swapped as side_swapped, value_multiple, value_combination, same_of_flat, weight_line, value_weight}
use Rattle.std.specs.Prelude.{Some, Contains}
use Rattle.std.specs.List.{slice_get}
use Rattle.std.specs.declared.cmp.Ordering.{Ordering}
use Rattle.std.specs.declared.cmp.Ordering.TheVariants.{Less, Equal, Greater}
use Rattle.std.specs.Ordering.{ordering_reverse}
use Rattle.algebra.specs.OrderedRing.{OrderedRing}
use Rattle.plane.specs.declared.point.Point.{Point}
use Rattle.plane.specs.Lines.{value, LiesIn}
use Rattle.algebra.proofs.Solvers.{reads, ring, sign_from, sign_of_multiple, known, no_sign, given, sum, positive, not_negative}
use Rattle.plane.specs.declared.point.Line.{Line}
use Rattle.plane.specs.Points.{IsPoint, IsSamePoint}
use Rattle.layers.proofs.FoldedFacts.{HasInside, InsideNear}
use Rattle.plane.proofs.Members.{in_cons, in_head, in_tail, in_nil}
use Rattle.layers.proofs.Signs.{flipped}
use Rattle.layers.proofs.Faces.{side_is_value, inward_line, inward_sign, inward_side, inner_not_equal}
use Rattle.plane.proofs.Signs.{not_less_is_ge, ge_is_not_less}
use Rattle.layers.proofs.Sides.{HasEnds, piece_ends, Relined, relined}
use Rattle.layers.specs.Pieces.{Piece, pieces_round, side_of, IsInMiddle, IsAlong}
use Rattle.layers.specs.Sheets.{IsInsideFace, FoldedFace, FoldedSheet, inner_side}
use Rattle.layers.specs.Folded.{IsConvex}
use Rattle.layers.proofs.Places.{at_place, stands_at}

module _ {A : Type 0} (K : OrderedRing A) where
  not_negative_sum : (a b : A) → ¬ (K.sign a ≡ Less) → ¬ (K.sign b ≡ Less) → ¬ (K.sign (K.add a b) ≡ Less)
  not_negative_sum a b h k =
      ge_is_not_less (K.sign (K.add a b)) (sign_from K (a ∷ b ∷ []) (known not_negative (search reads depth 40 fits 50000) (not_less_is_ge (K.sign a) h) (known not_negative (search reads depth 40 fits 50000) (not_less_is_ge (K.sign b) k) no_sign)) not_negative (search reads depth 40 fits 50000) (sum (given 0) (given 1)) tt tt)

  positive_sum : (a b : A) → K.sign a ≡ Greater → ¬ (K.sign b ≡ Less) → K.sign (K.add a b) ≡ Greater
  positive_sum a b h k = sign_from K (a ∷ b ∷ []) (known positive (search reads depth 40 fits 50000) h (known not_negative (search reads depth 40 fits 50000) (not_less_is_ge (K.sign b) k) no_sign)) positive (search reads depth 40 fits 50000) (sum (given 0) (given 1)) tt tt

  -- the sum of points as vectors: their centre
  abbrev pub centre : List (Point A) → Point A
  centre [] = record { x = K.int (pos 0); y = K.int (pos 0); w = K.int (pos 0) }
  centre (p ∷ ps) = record { x = K.add p.x (centre ps).x; y = K.add p.y (centre ps).y; w = K.add p.w (centre ps).w }

  value_centre : (l : Line A) (p : Point A) (ps : List (Point A)) → value K.ops l (centre (p ∷ ps)) ≡ K.add (value K.ops l p) (value K.ops l (centre ps))
  value_centre l p ps = split (centre ps)
    where
      split : (q : Point A) → value K.ops l (record { x = K.add p.x q.x; y = K.add p.y q.y; w = K.add p.w q.w }) ≡ K.add (value K.ops l p) (value K.ops l q)
      split q = ring K (l.a ∷ l.b ∷ l.c ∷ p.x ∷ p.y ∷ p.w ∷ q.x ∷ q.y ∷ q.w ∷ []) (search reads depth 40 fits 50000) (search reads depth 40 fits 50000) tt

  value_nowhere : (l : Line A) → value K.ops l (centre []) ≡ K.int (pos 0)
  value_nowhere l = ring K (l.a ∷ l.b ∷ l.c ∷ []) (search reads depth 40 fits 50000) (search reads depth 40 fits 50000) tt

  centre_not_negative : (l : Line A) (ps : List (Point A)) → ((v : Point A) → Contains ps v → ¬ (K.sign (value K.ops l v) ≡ Less)) → ¬ (K.sign (value K.ops l (centre ps)) ≡ Less)
  centre_not_negative l [] h e = let z = sym (ap K.sign (value_nowhere l) ∙ K.sign_int (pos 0)) ∙ e in cc
  centre_not_negative l (p ∷ ps) h e =
      not_negative_sum (value K.ops l p) (value K.ops l (centre ps)) (h p (in_head p ps)) (centre_not_negative l ps (λ v i. h v (in_tail p ps v i))) (ap K.sign (sym (value_centre l p ps)) ∙ e)

  -- a line with no point on its right and one on its left has the centre on its left
  centre_positive : (l : Line A) (ps : List (Point A)) → ((v : Point A) → Contains ps v → ¬ (K.sign (value K.ops l v) ≡ Less)) → (v : Point A) → Contains ps v → K.sign (value K.ops l v) ≡ Greater → K.sign (value K.ops l (centre ps)) ≡ Greater
  centre_positive l [] h v i g = absurd (in_nil v i)
  centre_positive l (p ∷ ps) h v i g = ap K.sign (value_centre l p ps) ∙ elim (in_cons p ps v i) [
    | inl e ↦ positive_sum (value K.ops l p) (value K.ops l (centre ps)) (subst (λ (w : Point A). K.sign (value K.ops l w) ≡ Greater) (sym e) g) (centre_not_negative l ps (λ w j. h w (in_tail p ps w j)))
    | inr j ↦ ap K.sign (K.add_comm (value K.ops l p) (value K.ops l (centre ps))) ∙ positive_sum (value K.ops l (centre ps)) (value K.ops l p) (centre_positive l ps (λ w k. h w (in_tail p ps w k)) v j g) (h p (in_head p ps))
  ]

  not_less_of_greater : (a : A) → K.sign a ≡ Greater → ¬ (K.sign a ≡ Less)
  not_less_of_greater a h e = let z = sym h ∙ e in cc

  -- ---- one face

  module _ (face : FoldedFace A) (convex : IsConvex K face) where
    -- not outside is not negative on the line that has the face on its left
    inner_not_negative : (t : Bool) (s : Piece A) (v : Point A) → ¬ (side_of K s v ≡ ordering_reverse (inner_side t)) → ¬ (K.sign (value K.ops (inward_line K t s) v) ≡ Less)
    inner_not_negative false s v n e = n (side_is_value K s v ∙ e)
    inner_not_negative true s v n e =
        n (side_swapped K s.to s.from v ∙ ap ordering_reverse e)

    none_negative : (k : ℕ) (s : Piece A) → slice_get (pieces_round face.corners) k ≡ Some s → (v : Point A) → Contains face.corners v → ¬ (K.sign (value K.ops (inward_line K face.turned s) v) ≡ Less)
    none_negative k s h v i = inner_not_negative face.turned s v (convex.none_outside s v (at_place (pieces_round face.corners) k s h) i)

    pub centre_is_point : IsPoint K (centre face.corners)
    centre_is_point =
        sym (ap K.sign (value_weight K (centre face.corners)))
        ∙ centre_positive (weight_line K) face.corners (λ v i. not_less_of_greater (value K.ops (weight_line K) v) (ap K.sign (value_weight K v) ∙ convex.points v i)) convex.some_corner.0 convex.some_corner.1
        (ap K.sign (value_weight K convex.some_corner.0) ∙ convex.points convex.some_corner.0 convex.some_corner.1)

    pub centre_inside : IsInsideFace K face (centre face.corners)
    centre_inside s j =
        let h = stands_at (pieces_round face.corners) s j in
        let c = convex.solid s j in
        inward_side K face.turned s (centre face.corners) (centre_positive (inward_line K face.turned s) face.corners (none_negative j.0 s h) c.0 c.1 (inward_sign K face.turned s c.0 c.2))

    -- at a point in the middle of s, another piece has the point strictly on its inner side, or
    -- lies along s the same way
    pub data Beside (s t : Piece A) (p : Point A) : Type 0 where
      strictly : K.sign (value K.ops (inward_line K face.turned t) p) ≡ Greater → Beside s t p
      same_way : ((q : Point A) → side_of K s q ≡ side_of K t q) → Beside s t p

    -- both shares of a sum of two that aren't negative are zero where the sum is
    share_zero : (a b x y : A) → K.sign a ≡ Greater → K.sign b ≡ Greater → ¬ (K.sign x ≡ Less) → ¬ (K.sign y ≡ Less) → K.sign (K.add (K.mul a x) (K.mul b y)) ≡ Equal → K.sign x ≡ Equal
    share_zero a b x y ha hb hx hy e = at (K.sign x) refl
      where
        rest : ¬ (K.sign (K.mul b y) ≡ Less)
        rest z = hy (sym (sign_of_multiple K b y hb) ∙ z)

        at : (o : Ordering) → K.sign x ≡ o → K.sign x ≡ Equal
        at Less h = absurd (hx h)
        at Equal h = h
        at Greater h = let z = sym (positive_sum (K.mul a x) (K.mul b y) (sign_of_multiple K a x ha ∙ h) rest) ∙ e in cc

    zero_side : (b : Bool) (t : Piece A) (v : Point A) → K.sign (value K.ops (inward_line K b t) v) ≡ Equal → side_of K t v ≡ Equal
    zero_side false t v e = side_is_value K t v ∙ e
    zero_side true t v e = side_swapped K t.to t.from v ∙ ap ordering_reverse e

    proper : (l : ℕ) (t : Piece A) → slice_get (pieces_round face.corners) l ≡ Some t → ¬ IsSamePoint K t.from t.to
    proper l t h same =
        let c = convex.solid t (at_place (pieces_round face.corners) l t h) in
        let e = piece_ends face.corners l t h in
        let z = side_is_value K t c.0 ∙ ap K.sign (Rattle.plane.proofs.Lines.flat_of_same K t.from t.to c.0 (convex.points t.from e.from_in) same) ∙ K.sign_int (pos 0) in
        inner_not_equal face.turned (sym c.2 ∙ z)

    beside : (k l : ℕ) (s t : Piece A) → slice_get (pieces_round face.corners) k ≡ Some s → slice_get (pieces_round face.corners) l ≡ Some t → (p : Point A) → IsInMiddle K s p → Beside s t p
    beside k l s t hs ht p m = at (K.sign (value K.ops (inward_line K face.turned t) p)) refl
      where
        n : Line A
        n = inward_line K face.turned t

        ends : HasEnds face.corners s
        ends = piece_ends face.corners k s hs

        from_in : ¬ (K.sign (value K.ops (inward_line K face.turned t) s.from) ≡ Less)
        from_in = none_negative l t ht s.from ends.from_in

        to_in : ¬ (K.sign (value K.ops (inward_line K face.turned t) s.to) ≡ Less)
        to_in = none_negative l t ht s.to ends.to_in

        shared : K.sign (value K.ops (inward_line K face.turned t) p) ≡ K.sign (K.add (K.mul m.from_share (value K.ops (inward_line K face.turned t) s.from)) (K.mul m.to_share (value K.ops (inward_line K face.turned t) s.to)))
        shared = sym (sign_of_multiple K m.factor (value K.ops (inward_line K face.turned t) p) m.factor_positive)
            ∙ ap K.sign (sym (value_multiple K (inward_line K face.turned t) m.factor p) ∙ ap (value K.ops (inward_line K face.turned t)) m.is ∙ value_combination K (inward_line K face.turned t) m.from_share m.to_share s.from s.to)

        share_kept : ¬ (K.sign (K.mul m.from_share (value K.ops (inward_line K face.turned t) s.from)) ≡ Less)
        share_kept z = from_in (sym (sign_of_multiple K m.from_share (value K.ops (inward_line K face.turned t) s.from) m.from_positive) ∙ z)

        other_kept : ¬ (K.sign (K.mul m.to_share (value K.ops (inward_line K face.turned t) s.to)) ≡ Less)
        other_kept z = to_in (sym (sign_of_multiple K m.to_share (value K.ops (inward_line K face.turned t) s.to) m.to_positive) ∙ z)

        along : K.sign (value K.ops (inward_line K face.turned t) p) ≡ Equal → IsAlong K t s
        along e = record {
          from_on = zero_side face.turned t s.from (share_zero m.from_share m.to_share (value K.ops (inward_line K face.turned t) s.from) (value K.ops (inward_line K face.turned t) s.to) m.from_positive m.to_positive from_in to_in (sym shared ∙ e));
          to_on = zero_side face.turned t s.to (share_zero m.to_share m.from_share (value K.ops (inward_line K face.turned t) s.to) (value K.ops (inward_line K face.turned t) s.from) m.to_positive m.from_positive to_in from_in
              (ap K.sign (K.add_comm (K.mul m.to_share (value K.ops (inward_line K face.turned t) s.to)) (K.mul m.from_share (value K.ops (inward_line K face.turned t) s.from))) ∙ sym shared ∙ e));
        }

        same : K.sign (value K.ops (inward_line K face.turned t) p) ≡ Equal → Beside s t p
        same e = of (convex.solid s (at_place (pieces_round face.corners) k s hs))
          where
            of : (v : Point A) × Contains face.corners v × (side_of K s v ≡ inner_side face.turned) → Beside s t p
            of c = turn (relined K t s c.0 (along e) (proper l t ht) (λ z. inner_not_equal face.turned (sym c.2 ∙ z)))
              where
                turn : Relined K t s → Beside s t p
                turn r = by r.flip r.is
                  where
                    opposite : (b : Bool) → side_of K t c.0 ≡ ordering_reverse (inner_side b) → b ≡ face.turned → ⊥
                    opposite b z i = convex.none_outside t c.0 (at_place (pieces_round face.corners) l t ht) c.1 (z ∙ ap (λ (x : Bool). ordering_reverse (inner_side x)) i)

                    by : (b : Bool) → ((q : Point A) → side_of K t q ≡ flipped b (side_of K s q)) → Beside s t p
                    by false is_same = same_way (λ q. sym (is_same q))
                    by true is_same = absurd (opposite face.turned (is_same c.0 ∙ ap ordering_reverse c.2) refl)

        at : (o : Ordering) → K.sign (value K.ops (inward_line K face.turned t) p) ≡ o → Beside s t p
        at Less e = absurd (not_negative_sum (K.mul m.from_share (value K.ops (inward_line K face.turned t) s.from)) (K.mul m.to_share (value K.ops (inward_line K face.turned t) s.to)) share_kept other_kept (sym shared ∙ e))
        at Equal e = same e
        at Greater e = strictly e

    -- the lines of the pieces that have p strictly on their inner side
    record Near (s : Piece A) (p : Point A) (ts : List (Piece A)) : Type 0 where
      lines : List (Line A)
      holds : LiesIn K lines p
      enough : (q : Point A) → LiesIn K lines q → side_of K s q ≡ inner_side face.turned → (l : ℕ) (t : Piece A) → slice_get ts l ≡ Some t → side_of K t q ≡ inner_side face.turned

    near : (s : Piece A) (p : Point A) (ts : List (Piece A)) → ((l : ℕ) (t : Piece A) → slice_get ts l ≡ Some t → Beside s t p) → Near s p ts
    near s p [] h = record { lines = []; holds = λ m i. absurd (in_nil m i); enough = λ q i z l t e. cc }
    near s p (t ∷ ts) h = with_rest (h zero t refl) (near s p ts (λ l u e. h (suc l) u e))
      where
        with_rest : Beside s t p → Near s p ts → Near s p (t ∷ ts)
        with_rest (strictly g) r = record {
          lines = inward_line K face.turned t ∷ r.lines;
          holds = λ m i. elim (in_cons (inward_line K face.turned t) r.lines m i) [ inl e ↦ subst (λ (n : Line A). K.sign (value K.ops n p) ≡ Greater) e g | inr j ↦ r.holds m j ];
          enough = λ q i z. at q i z;
        }
          where
            at : (q : Point A) → LiesIn K (inward_line K face.turned t ∷ r.lines) q → side_of K s q ≡ inner_side face.turned → (l : ℕ) (u : Piece A) → slice_get (t ∷ ts) l ≡ Some u → side_of K u q ≡ inner_side face.turned
            at q i z zero u e = let same : t ≡ u = cc in subst (λ (w : Piece A). side_of K w q ≡ inner_side face.turned) same (inward_side K face.turned t q (i (inward_line K face.turned t) (in_head (inward_line K face.turned t) r.lines)))
            at q i z (suc l) u e = r.enough q (λ m j. i m (in_tail (inward_line K face.turned t) r.lines m j)) z l u e
        with_rest (same_way w) r = record { lines = r.lines; holds = r.holds; enough = λ q i z. at q i z }
          where
            at : (q : Point A) → LiesIn K r.lines q → side_of K s q ≡ inner_side face.turned → (l : ℕ) (u : Piece A) → slice_get (t ∷ ts) l ≡ Some u → side_of K u q ≡ inner_side face.turned
            at q i z zero u e = let same : t ≡ u = cc in subst (λ (x : Piece A). side_of K x q ≡ inner_side face.turned) same (sym (w q) ∙ z)
            at q i z (suc l) u e = r.enough q i z l u e

    -- near a point in the middle of a piece, the points on the face's side of it are inside
    pub record FaceNear (s : Piece A) (p : Point A) : Type 0 where
      pub lines : List (Line A)
      pub holds : LiesIn K lines p
      pub enough : (q : Point A) → LiesIn K lines q → side_of K s q ≡ inner_side face.turned → IsInsideFace K face q

    pub face_near : (s : Piece A) → Contains (pieces_round face.corners) s → (p : Point A) → IsInMiddle K s p → FaceNear s p
    face_near s i p m = of (near s p (pieces_round face.corners) (λ l t e. beside i.0 l s t (stands_at (pieces_round face.corners) s i) e p m))
      where
        of : Near s p (pieces_round face.corners) → FaceNear s p
        of r = record { lines = r.lines; holds = r.holds; enough = λ q lies on t j. r.enough q lies on j.0 t (stands_at (pieces_round face.corners) t j) }

    -- ---- the same in a sheet

    module _ (sheet : FoldedSheet A) (f : ℕ) (is : slice_get sheet.faces f ≡ Some face) where
      pub has_inside : HasInside K sheet f
      has_inside = record { point = centre face.corners; is_point = centre_is_point; inside = record { face = face; is = is; within = centre_inside } }

      pub inside_near : (k : ℕ) (s : Piece A) → slice_get (pieces_round face.corners) k ≡ Some s → (p : Point A) → IsInMiddle K s p → InsideNear K sheet f face.turned s p
      inside_near k s h p m = of (face_near s (at_place (pieces_round face.corners) k s h) p m)
        where
          of : FaceNear s p → InsideNear K sheet f face.turned s p
          of r = record { near = r.lines; holds = r.holds; inside = λ q iq lies on. record { face = face; is = is; within = r.enough q lies on } }
