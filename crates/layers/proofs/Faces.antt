-- Faces as open half-planes, the pieces of all faces, and generic points in open parts of the
-- plane.
use mathlib.Core.Path.{◌≡◌, refl, sym, ap, subst, ◌∙◌}
use mathlib.Core.Bool.{Bool, true, false}
use mathlib.Core.List.{List, [], ◌∷◌, ◌++◌}
use mathlib.Core.Logic.{inl, inr}
use Prim.Native.Nat.{ℕ, zero, suc}
use lib.IntN.{pos}
use Rattle.plane.proofs.Lines.{swapped as side_swapped, value_combination, value_multiple}
use Rattle.std.specs.Prelude.{Some, Contains}
use Rattle.std.specs.List.{slice_get}
use Rattle.std.specs.declared.cmp.Ordering.TheVariants.{Equal, Greater}
use Rattle.std.specs.Ordering.{ordering_reverse}
use Rattle.algebra.specs.OrderedRing.{OrderedRing}
use Rattle.plane.specs.declared.point.Point.{Point}
use Rattle.plane.specs.Lines.{value, line, LiesIn}
use Rattle.algebra.proofs.Solvers.{reads, ring, sign_of_multiple}
use Rattle.plane.specs.declared.point.Line.{Line}
use Rattle.plane.specs.Points.{IsPoint}
use Rattle.layers.proofs.FoldedFacts.{FoldedFacts}
use Rattle.plane.proofs.Members.{in_cons, in_tail, in_nil}
use Rattle.std.proofs.lemmas.List.Elements.{Contains-append_left as in_left, Contains-append_right as in_right, Contains-append_cases as in_either}
use Rattle.layers.proofs.Places.{is_head, at_place, stands_at}
use Rattle.plane.proofs.Signs.{zero_sign, positive_product}
use Rattle.plane.proofs.Density.{Found, dense}
use Rattle.layers.specs.Pieces.{Piece, pieces_round, side_of, IsOnPiece}
use Rattle.layers.specs.Sheets.{FoldedFace, FoldedSheet, inner_side, IsInside, HasPiece}
use Rattle.layers.specs.Points.{IsGeneric}

pub inner_not_equal : (t : Bool) → ¬ (inner_side t ≡ Equal)
inner_not_equal false e = cc
inner_not_equal true e = cc

module _ {A : Type 0} (K : OrderedRing A) where
  abbrev pub line_of : Piece A → Line A
  line_of s = line K.ops s.from s.to

  pub side_is_value : (s : Piece A) (p : Point A) → side_of K s p ≡ K.sign (value K.ops (line_of s) p)
  side_is_value s p = refl

  -- ---- a face as open half-planes

  -- the line of a piece that has the face on its left
  abbrev pub inward_line : Bool → Piece A → Line A
  inward_line false s = line K.ops s.from s.to
  inward_line true s = line K.ops s.to s.from

  pub inward_sign : (t : Bool) (s : Piece A) (p : Point A) → side_of K s p ≡ inner_side t → K.sign (value K.ops (inward_line t s) p) ≡ Greater
  inward_sign false s p h = sym (side_is_value s p) ∙ h
  inward_sign true s p h = side_swapped K s.from s.to p ∙ ap ordering_reverse h

  pub inward_side : (t : Bool) (s : Piece A) (p : Point A) → K.sign (value K.ops (inward_line t s) p) ≡ Greater → side_of K s p ≡ inner_side t
  inward_side false s p h = side_is_value s p ∙ h
  inward_side true s p h = side_swapped K s.to s.from p ∙ ap ordering_reverse h

  abbrev pub inward_lines : Bool → List (Piece A) → List (Line A)
  inward_lines t [] = []
  inward_lines t (s ∷ ss) = inward_line t s ∷ inward_lines t ss

  record FromPiece (t : Bool) (ss : List (Piece A)) (m : Line A) : Type 0 where
    place : ℕ
    piece : Piece A
    is_piece : slice_get ss place ≡ Some piece
    is_line : inward_line t piece ≡ m

  from_piece : (t : Bool) (ss : List (Piece A)) (m : Line A) → Contains (inward_lines t ss) m → FromPiece t ss m
  from_piece t [] m h = absurd (in_nil m h)
  from_piece t (s ∷ ss) m h = elim (in_cons (inward_line t s) (inward_lines t ss) m h) [
    | inl e ↦ record { place = zero; piece = s; is_piece = refl; is_line = e }
    | inr j ↦ let r = from_piece t ss m j in record { place = suc r.place; piece = r.piece; is_piece = r.is_piece; is_line = r.is_line }
  ]

  in_lines : (t : Bool) (ss : List (Piece A)) (k : ℕ) (s : Piece A) → slice_get ss k ≡ Some s → Contains (inward_lines t ss) (inward_line t s)
  in_lines t [] k s h = let e = h in cc
  in_lines t (r ∷ ss) zero s h = let e : r ≡ s = cc in is_head (inward_line t r) (inward_lines t ss) (inward_line t s) (ap (inward_line t) e)
  in_lines t (r ∷ ss) (suc k) s h = in_tail (inward_line t r) (inward_lines t ss) (inward_line t s) (in_lines t ss k s h)

  abbrev pub borders : FoldedFace A → List (Line A)
  borders face = inward_lines face.turned (pieces_round face.corners)

  -- the pieces of all faces
  abbrev pub all_pieces : List (FoldedFace A) → List (Piece A)
  all_pieces [] = []
  all_pieces (f ∷ fs) = pieces_round f.corners ++ all_pieces fs

  in_all_pieces : (fs : List (FoldedFace A)) (f : ℕ) (face : FoldedFace A) (k : ℕ) (s : Piece A) → slice_get fs f ≡ Some face → slice_get (pieces_round face.corners) k ≡ Some s → Contains (all_pieces fs) s
  in_all_pieces [] f face k s e h = cc
  in_all_pieces (x ∷ fs) zero face k s e h =
      let same : x ≡ face = cc in in_left (pieces_round x.corners) (all_pieces fs) s (subst (λ (y : FoldedFace A). Contains (pieces_round y.corners) s) (sym same) (at_place (pieces_round face.corners) k s h))
  in_all_pieces (x ∷ fs) (suc f) face k s e h = in_right (pieces_round x.corners) (all_pieces fs) s (in_all_pieces fs f face k s e h)

  pub record OfFace (fs : List (FoldedFace A)) (s : Piece A) : Type 0 where
    pub place : ℕ
    pub face : FoldedFace A
    pub corner : ℕ
    pub is_face : slice_get fs place ≡ Some face
    pub is_piece : slice_get (pieces_round face.corners) corner ≡ Some s

  of_face : (fs : List (FoldedFace A)) (s : Piece A) → Contains (all_pieces fs) s → OfFace fs s
  of_face [] s h = absurd (in_nil s h)
  of_face (x ∷ fs) s h = elim (in_either (pieces_round x.corners) (all_pieces fs) s h) [
    | inl i ↦ record { place = zero; face = x; corner = i.0; is_face = refl; is_piece = stands_at (pieces_round x.corners) s i }
    | inr j ↦ let r = of_face fs s j in record { place = suc r.place; face = r.face; corner = r.corner; is_face = r.is_face; is_piece = r.is_piece }
  ]

  abbrev pub lines_of : List (Piece A) → List (Line A)
  lines_of ss = inward_lines false ss

  -- ---- what a line does at the points of a piece

  times_zero : (t a : A) → K.sign a ≡ Equal → K.mul t a ≡ K.int (pos 0)
  times_zero t a h = ap (K.mul t) (K.sign_zero a h) ∙ ring K (t ∷ []) (search reads depth 20) (search reads depth 20) tt

  -- a line through both ends of a piece holds each of its points
  pub zero_on_piece : (l : Line A) (s : Piece A) (p : Point A) → IsOnPiece K s p → K.sign (value K.ops l s.from) ≡ Equal → K.sign (value K.ops l s.to) ≡ Equal → K.sign (value K.ops l p) ≡ Equal
  zero_on_piece l s p h f t =
      sym (sign_of_multiple K h.factor (value K.ops l p) h.factor_positive)
      ∙ ap K.sign (sym (value_multiple K l h.factor p) ∙ ap (value K.ops l) h.is ∙ value_combination K l h.from_share h.to_share s.from s.to
      ∙ ap (λ x. K.add x (K.mul h.to_share (value K.ops l s.to))) (times_zero h.from_share (value K.ops l s.from) f)
      ∙ ap (K.add (K.int (pos 0))) (times_zero h.to_share (value K.ops l s.to) t) ∙ K.add_zero (K.int (pos 0)))
      ∙ K.sign_int (pos 0)

  pub from_on_own : (s : Piece A) → K.sign (value K.ops (line_of s) s.from) ≡ Equal
  from_on_own s = zero_sign K (value K.ops (line_of s) s.from) (ring K (s.from.x ∷ s.from.y ∷ s.from.w ∷ s.to.x ∷ s.to.y ∷ s.to.w ∷ []) (search reads depth 40 fits 50000) (search reads depth 40 fits 50000) tt)

  pub to_on_own : (s : Piece A) → K.sign (value K.ops (line_of s) s.to) ≡ Equal
  to_on_own s = zero_sign K (value K.ops (line_of s) s.to) (ring K (s.from.x ∷ s.from.y ∷ s.from.w ∷ s.to.x ∷ s.to.y ∷ s.to.w ∷ []) (search reads depth 40 fits 50000) (search reads depth 40 fits 50000) tt)

  pub on_own_line : (s : Piece A) (p : Point A) → IsOnPiece K s p → K.sign (value K.ops (line_of s) p) ≡ Equal
  on_own_line s p h = zero_on_piece (line_of s) s p h (from_on_own s) (to_on_own s)

  module _ (sheet : FoldedSheet A) where
    pub inside_lies : {f : ℕ} {p : Point A} (h : IsInside K sheet f p) → LiesIn K (borders h.face) p
    inside_lies {f} {p} h m i =
        let r = from_piece h.face.turned (pieces_round h.face.corners) m i in
        subst (λ (n : Line A). K.sign (value K.ops n p) ≡ Greater) r.is_line (inward_sign h.face.turned r.piece p (h.within r.piece (at_place (pieces_round h.face.corners) r.place r.piece r.is_piece)))

    pub lies_inside : (f : ℕ) (face : FoldedFace A) (p : Point A) → slice_get sheet.faces f ≡ Some face → LiesIn K (borders face) p → IsInside K sheet f p
    lies_inside f face p e h = record {
      face = face;
      is = e;
      within = λ s i. inward_side face.turned s p (h (inward_line face.turned s) (in_lines face.turned (pieces_round face.corners) i.0 s (stands_at (pieces_round face.corners) s i)));
    }

    pub piece_in_all : {f k : ℕ} {s : Piece A} → HasPiece K sheet f k s → Contains (lines_of (all_pieces sheet.faces)) (line_of s)
    piece_in_all {f} {k} {s} h = let i = in_all_pieces sheet.faces f h.face k s h.is_face h.is_piece in in_lines false (all_pieces sheet.faces) i.0 s (stands_at (all_pieces sheet.faces) s i)

    module _ (folded : FoldedFacts K sheet) where
      -- a piece of a face is no single point: some point lies off its line
      pub record OffLine (l : Line A) : Type 0 where
        pub point : Point A
        pub is_point : IsPoint K point
        pub off : ¬ (K.sign (value K.ops l point) ≡ Equal)

      pub inside_off : (f k : ℕ) (s : Piece A) → HasPiece K sheet f k s → OffLine (line_of s)
      inside_off f k s h = go (folded.has_inside f h.face h.is_face)
        where
          go : Rattle.layers.proofs.FoldedFacts.HasInside K sheet f → OffLine (line_of s)
          go i =
              let same : i.inside.face ≡ h.face = let a = i.inside.is in let b = h.is_face in cc in
              let piece : slice_get (pieces_round i.inside.face.corners) k ≡ Some s = subst (λ (x : FoldedFace A). slice_get (pieces_round x.corners) k ≡ Some s) (sym same) h.is_piece in
              record { point = i.point; is_point = i.is_point; off = λ z. inner_not_equal i.inside.face.turned (sym (i.inside.within s (at_place (pieces_round i.inside.face.corners) k s piece)) ∙ side_is_value s i.point ∙ z) }

      pub line_off : (l : Line A) → Contains (lines_of (all_pieces sheet.faces)) l → OffLine l
      line_off l i =
          let r = from_piece false (all_pieces sheet.faces) l i in
          let o = of_face sheet.faces r.piece (at_place (all_pieces sheet.faces) r.place r.piece r.is_piece) in
          subst OffLine r.is_line (inside_off o.place o.corner r.piece (record { face = o.face; is_face = o.is_face; is_piece = o.is_piece }))

      pub record GenericPoint (ms : List (Line A)) : Type 0 where
        pub point : Point A
        pub is_point : IsPoint K point
        pub is_generic : IsGeneric K sheet point
        pub lies : LiesIn K ms point

      -- an intersection of open half-planes that holds a point holds a generic one
      pub generic_point : (ms : List (Line A)) (p : Point A) → IsPoint K p → LiesIn K ms p → GenericPoint ms
      generic_point ms p ip h =
          of (dense K (IsPoint K) (IsPoint K)
          (λ s q t v hs ht hq hv. K.sign_add Greater (K.mul s q.w) (K.mul t v.w) (positive_product K s q.w hs hq) (positive_product K t v.w ht hv))
          (λ l. ⊥) (lines_of (all_pieces sheet.faces)) ms p ip h (λ l i. let o = line_off l i in inl (record { way = o.point; is_way = o.is_point; off = o.off })))
        where
          of : Found K (IsPoint K) (IsPoint K) (λ s q t v hs ht hq hv. K.sign_add Greater (K.mul s q.w) (K.mul t v.w) (positive_product K s q.w hs hq) (positive_product K t v.w ht hv)) (λ l. ⊥) (lines_of (all_pieces sheet.faces)) ms → GenericPoint ms
          of r = record {
            point = r.point;
            is_point = r.good;
            is_generic = λ e t. elim (r.off (line_of t.piece) (piece_in_all t.image.of_face)) [ inl n ↦ n (on_own_line t.piece r.point t.on) | inr b ↦ b ];
            lies = r.lies;
          }
