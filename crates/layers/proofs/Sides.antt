-- The sides of a line on which faces lie, and that faces at one side of a seam point overlap.
use mathlib.Core.Path.{◌≡◌, refl, sym, ap, subst, ◌∙◌}
use mathlib.Core.Bool.{Bool, true, false}
use mathlib.Core.List.{List, [], ◌∷◌, ◌++◌}
use mathlib.Core.Logic.{◌⊎◌, inl, inr}
use Prim.Native.Nat.{ℕ, zero, suc}
use lib.IntN.{pos}
use Rattle.plane.proofs.Lines.{swapped as side_swapped, proportional, same_of_flat, times_zero}
use Rattle.std.specs.Prelude.{Some, Contains}
use Rattle.std.specs.List.{slice_get}
use Rattle.std.specs.declared.cmp.Ordering.{Ordering}
use Rattle.std.specs.declared.cmp.Ordering.TheVariants.{Equal, Greater}
use Rattle.std.specs.Ordering.{ordering_reverse}
use Rattle.algebra.specs.Order.{product_sign}
use Rattle.algebra.specs.OrderedRing.{OrderedRing}
use Rattle.plane.specs.declared.point.Point.{Point}
use Rattle.plane.specs.Lines.{determinant, value, LiesIn}
use Rattle.algebra.proofs.Solvers.{sign_of_multiple}
use Rattle.plane.specs.declared.point.Line.{Line}
use Rattle.plane.specs.Points.{combination, IsPoint, IsSamePoint}
use Rattle.layers.proofs.FoldedFacts.{FoldedFacts, HasInside, InsideNear}
use Rattle.plane.proofs.Members.{in_cons, in_tail, in_nil}
use Rattle.layers.proofs.Signs.{flipped, reverse_twice, flipped_twice, flipped_cancels, differ, equal_products}
use Rattle.plane.proofs.Signs.{positive_product}
use Rattle.plane.proofs.Density.{Nearby, nearby, value_of_nearby}
use Rattle.layers.proofs.Faces.{line_of, side_is_value, borders, inside_lies, lies_inside, inner_not_equal, zero_on_piece, inside_off}
use Rattle.layers.proofs.Cycles.{lies_in_both, lies_in_left, lies_in_right}
use Rattle.plane.proofs.OnSegments.{between_is_on, on_is_between}
use Rattle.layers.proofs.Places.{is_head, at_place}
use Rattle.layers.specs.Pieces.{Piece, reversed, pieces_on_to, pieces_round, side_of, IsOnPiece, IsInMiddle, IsAlong}
use Rattle.layers.specs.Sheets.{IsCrease, IsJoin, FoldedFace, FaceSide, FoldedEdge, FoldedSheet, inner_side, IsInside, Overlap, HasPiece, IsImage, HasFaces}
use Rattle.layers.specs.Points.{IsSeam, LiesOn, BeginsAt, IsAtSide}
use Rattle.layers.specs.Folded.{MeetThere}

module _ {A : Type 0} where
  pub record HasEnds (corners : List (Point A)) (s : Piece A) : Type 0 where
    pub from_in : Contains corners s.from
    pub to_in : Contains corners s.to

  ends_to : (first : Point A) (ps : List (Point A)) (k : ℕ) (s : Piece A) → slice_get (pieces_on_to first ps) k ≡ Some s → Contains ps s.from × (Contains ps s.to ⊎ s.to ≡ first)
  ends_to first [] k s e = cc
  ends_to first (p ∷ []) zero s e = let same : record { from = p; to = first } ≡ s = cc in (is_head p [] s.from (ap (λ (t : Piece A). t.from) same), inr (sym (ap (λ (t : Piece A). t.to) same)))
  ends_to first (p ∷ []) (suc k) s e = cc
  ends_to first (p ∷ (q ∷ rest)) zero s e = let same : record { from = p; to = q } ≡ s = cc in (is_head p (q ∷ rest) s.from (ap (λ (t : Piece A). t.from) same), inl (in_tail p (q ∷ rest) s.to (is_head q rest s.to (ap (λ (t : Piece A). t.to) same))))
  ends_to first (p ∷ (q ∷ rest)) (suc k) s e =
      let r = ends_to first (q ∷ rest) k s e in
      (in_tail p (q ∷ rest) s.from r.0, elim r.1 [ inl i ↦ inl (in_tail p (q ∷ rest) s.to i) | inr f ↦ inr f ])

  pub piece_ends : (corners : List (Point A)) (k : ℕ) (s : Piece A) → slice_get (pieces_round corners) k ≡ Some s → HasEnds corners s
  piece_ends [] k s e = cc
  piece_ends (p ∷ rest) k s e =
      let r = ends_to p (p ∷ rest) k s e in
      record { from_in = r.0; to_in = elim r.1 [ inl i ↦ i | inr f ↦ is_head p rest s.to (sym f) ] }

module _ {A : Type 0} (K : OrderedRing A) where
  pub side_reversed : (s : Piece A) (p : Point A) → side_of K (reversed s) p ≡ ordering_reverse (side_of K s p)
  side_reversed s p = side_swapped K s.from s.to p

  -- the sides of the line l are those of the piece s on it, or the other way round
  pub record Relined (l s : Piece A) : Type 0 where
    pub flip : Bool
    pub is : (q : Point A) → side_of K l q ≡ flipped flip (side_of K s q)

  pub relined : (l s : Piece A) (v : Point A) → IsAlong K l s → ¬ IsSamePoint K l.from l.to → ¬ (side_of K s v ≡ Equal) → Relined l s
  relined l s v a n off = record {
    flip = differ (side_of K l v) (side_of K s v);
    is = λ q. equal_products (side_of K l v) (side_of K s v) (side_of K s q) (side_of K l q) (products q) line_off off;
  }
    where
      along_from : K.sign (value K.ops (line_of K l) s.from) ≡ Equal
      along_from = sym (side_is_value K l s.from) ∙ a.from_on

      along_to : K.sign (value K.ops (line_of K l) s.to) ≡ Equal
      along_to = sym (side_is_value K l s.to) ∙ a.to_on

      proportion : (q : Point A) → K.mul (determinant K.ops s.from s.to q) (value K.ops (line_of K l) v) ≡ K.mul (value K.ops (line_of K l) q) (determinant K.ops s.from s.to v)
      proportion q = proportional K (line_of K l) s.from s.to q v along_from along_to

      products : (q : Point A) → product_sign (side_of K s q) (side_of K l v) ≡ product_sign (side_of K l q) (side_of K s v)
      products q =
          ap (product_sign (side_of K s q)) (side_is_value K l v) ∙ sym (K.sign_mul (determinant K.ops s.from s.to q) (value K.ops (line_of K l) v)) ∙ ap K.sign (proportion q)
          ∙ K.sign_mul (value K.ops (line_of K l) q) (determinant K.ops s.from s.to v) ∙ ap (λ o. product_sign o (side_of K s v)) (sym (side_is_value K l q))

      flat : side_of K l v ≡ Equal → (q : Point A) → determinant K.ops l.from l.to q ≡ K.int (pos 0)
      flat e q =
          K.sign_zero (value K.ops (line_of K l) q)
          (Rattle.plane.proofs.Signs.factor_zero K (value K.ops (line_of K l) q) (determinant K.ops s.from s.to v)
          (sym (proportion q) ∙ times_zero K (determinant K.ops s.from s.to q) (value K.ops (line_of K l) v) (K.sign_zero (value K.ops (line_of K l) v) (sym (side_is_value K l v) ∙ e))) off)

      line_off : ¬ (side_of K l v ≡ Equal)
      line_off e = n (same_of_flat K l.from l.to (flat e))

  module _ (sheet : FoldedSheet A) where
    pub same_face : {f k : ℕ} {s : Piece A} {p : Point A} (i : IsInside K sheet f p) (h : HasPiece K sheet f k s) → i.face ≡ h.face
    same_face i h = let a = i.is in let b = h.is_face in cc

    pub same_piece : {f k : ℕ} {s t : Piece A} → HasPiece K sheet f k s → HasPiece K sheet f k t → s ≡ t
    same_piece {f} {k} {s} {t} h j =
        let a = h.is_face in let b = j.is_face in
        let same : h.face ≡ j.face = cc in
        let c : slice_get (pieces_round j.face.corners) k ≡ Some s = subst (λ (x : FoldedFace A). slice_get (pieces_round x.corners) k ≡ Some s) same h.is_piece in
        let d = j.is_piece in cc

    -- a face lies on its own side of its pieces
    pub own_side : {f k : ℕ} {s : Piece A} (h : HasPiece K sheet f k s) → LiesOn K sheet s (inner_side h.face.turned) f
    own_side {f} {k} {s} h q iq i =
        let same = same_face i h in
        i.within s (at_place (pieces_round i.face.corners) k s (subst (λ (x : FoldedFace A). slice_get (pieces_round x.corners) k ≡ Some s) (sym same) h.is_piece)) ∙ ap (λ (x : FoldedFace A). inner_side x.turned) same

    pub lies_reversed : (s : Piece A) (o : Ordering) (f : ℕ) → LiesOn K sheet s o f → LiesOn K sheet (reversed s) (ordering_reverse o) f
    lies_reversed s o f h q iq i = side_reversed s q ∙ ap ordering_reverse (h q iq i)

    pub lies_relined : (l s : Piece A) (r : Relined l s) (o : Ordering) (f : ℕ) → LiesOn K sheet s o f → LiesOn K sheet l (flipped r.flip o) f
    lies_relined l s r o f h q iq i = r.is q ∙ ap (flipped r.flip) (h q iq i)

    pub lies_lined : (l s : Piece A) (r : Relined l s) (o : Ordering) (f : ℕ) → LiesOn K sheet l o f → LiesOn K sheet s (flipped r.flip o) f
    lies_lined l s r o f h q iq i = sym (flipped_twice r.flip (side_of K s q)) ∙ ap (flipped r.flip) (sym (r.is q) ∙ h q iq i)

    -- ---- edges and their two faces

    abbrev pub swapped : {e f g : ℕ} → HasFaces K sheet e f g → HasFaces K sheet e g f
    swapped h = record { edge = h.edge; is = h.is; first = h.second; second = h.first; either = elim h.either [ inl a ↦ inr a | inr b ↦ inl b ] }

    -- an edge is placed by its two faces alike, so each image is the piece of the one or the
    -- reversed piece of the other
    pub data ImageOf {e f g : ℕ} (h : HasFaces K sheet e f g) (m : MeetThere K sheet h) (face : ℕ) (s : Piece A) : Type 0 where
      by_first : face ≡ f → s ≡ m.piece → ImageOf h m face s
      by_second : face ≡ g → s ≡ reversed m.piece → ImageOf h m face s

    pub image_of : {e f g : ℕ} (h : HasFaces K sheet e f g) (m : MeetThere K sheet h) (face : ℕ) (s : Piece A) → IsImage K sheet e face s → ImageOf h m face s
    image_of {e} {f} {g} h m face s i = go h.either
      where
        same_edge : i.edge ≡ h.edge
        same_edge = let a = i.is in let b = h.is in cc

        its_side : FaceSide
        its_side = record { face = face; corner = i.corner }

        in_sides : Contains h.edge.sides its_side
        in_sides = subst (λ (x : FoldedEdge). Contains x.sides its_side) same_edge i.of_edge

        first_side : FaceSide
        first_side = record { face = f; corner = h.first }

        second_side : FaceSide
        second_side = record { face = g; corner = h.second }

        first : first_side ≡ its_side → ImageOf h m face s
        first e =
            let a : f ≡ face = ap (λ (x : FaceSide). x.face) e in let b : h.first ≡ i.corner = ap (λ (x : FaceSide). x.corner) e in
            by_first (sym a) (same_piece i.of_face (subst (λ x. HasPiece K sheet face x m.piece) b (subst (λ x. HasPiece K sheet x h.first m.piece) a m.in_first)))

        second : second_side ≡ its_side → ImageOf h m face s
        second e =
            let a : g ≡ face = ap (λ (x : FaceSide). x.face) e in let b : h.second ≡ i.corner = ap (λ (x : FaceSide). x.corner) e in
            by_second (sym a) (same_piece i.of_face (subst (λ x. HasPiece K sheet face x (reversed m.piece)) b (subst (λ x. HasPiece K sheet x h.second (reversed m.piece)) a m.in_second)))

        pick : (x y : FaceSide) → h.edge.sides ≡ x ∷ y ∷ [] → (x ≡ its_side) ⊎ (y ≡ its_side)
        pick x y e = elim (in_cons x (y ∷ []) its_side (subst (λ z. Contains z its_side) e in_sides)) [
          | inl a ↦ inl a
          | inr j ↦ elim (in_cons y [] its_side j) [ inl b ↦ inr b | inr k ↦ absurd (in_nil its_side k) ]
        ]

        go : (h.edge.sides ≡ first_side ∷ second_side ∷ []) ⊎ (h.edge.sides ≡ second_side ∷ first_side ∷ []) → ImageOf h m face s
        go (inl e) = elim (pick first_side second_side e) [ inl a ↦ first a | inr b ↦ second b ]
        go (inr e) = elim (pick second_side first_side e) [ inl a ↦ second a | inr b ↦ first b ]

    -- an image of a crease has both faces on one side, an image of a join one on each side
    pub record FacesBeside (turn : Ordering → Ordering) (s : Piece A) (f g : ℕ) : Type 0 where
      pub first_side : Ordering
      pub first_lies : LiesOn K sheet s first_side f
      pub second_lies : LiesOn K sheet s (turn first_side) g

    other_side : Bool → Bool → Ordering
    other_side t u = ordering_reverse (inner_side u)

    crease_side : (t u : Bool) → ¬ (t ≡ u) → ordering_reverse (inner_side u) ≡ inner_side t
    crease_side false false n = absurd (n refl)
    crease_side false true n = refl
    crease_side true false n = refl
    crease_side true true n = absurd (n refl)

    second_on_first : {e f g : ℕ} (h : HasFaces K sheet e f g) (m : MeetThere K sheet h) → LiesOn K sheet m.piece (ordering_reverse (inner_side m.in_second.face.turned)) g
    second_on_first h m q iq i =
        sym (reverse_twice (side_of K m.piece q)) ∙ ap ordering_reverse (sym (side_reversed m.piece q) ∙ own_side m.in_second q iq i)

    pub crease_beside : {e f g : ℕ} (h : HasFaces K sheet e f g) → IsCrease h.edge.letter → MeetThere K sheet h → (face : ℕ) (s : Piece A) → IsImage K sheet e face s → FacesBeside (λ o. o) s f g
    crease_beside {e} {f} {g} h c m face s i = go (image_of h m face s i)
      where
        beside : FacesBeside (λ o. o) m.piece f g
        beside = record {
          first_side = inner_side m.in_first.face.turned;
          first_lies = own_side m.in_first;
          second_lies = subst (λ o. LiesOn K sheet m.piece o g) (crease_side m.in_first.face.turned m.in_second.face.turned (m.turned_at_crease c)) (second_on_first h m);
        }

        back : FacesBeside (λ o. o) (reversed m.piece) f g
        back = record {
          first_side = ordering_reverse beside.first_side;
          first_lies = lies_reversed m.piece beside.first_side f beside.first_lies;
          second_lies = lies_reversed m.piece beside.first_side g beside.second_lies;
        }

        go : ImageOf h m face s → FacesBeside (λ o. o) s f g
        go (by_first a b) = subst (λ t. FacesBeside (λ o. o) t f g) (sym b) beside
        go (by_second a b) = subst (λ t. FacesBeside (λ o. o) t f g) (sym b) back

    pub join_beside : {e f g : ℕ} (h : HasFaces K sheet e f g) → IsJoin h.edge.letter → MeetThere K sheet h → (face : ℕ) (s : Piece A) → IsImage K sheet e face s → FacesBeside ordering_reverse s f g
    join_beside {e} {f} {g} h c m face s i = go (image_of h m face s i)
      where
        beside : FacesBeside ordering_reverse m.piece f g
        beside = record {
          first_side = inner_side m.in_first.face.turned;
          first_lies = own_side m.in_first;
          second_lies = subst (λ t. LiesOn K sheet m.piece (ordering_reverse (inner_side t)) g) (sym (m.alike_at_join c)) (second_on_first h m);
        }

        back : FacesBeside ordering_reverse (reversed m.piece) f g
        back = record {
          first_side = ordering_reverse beside.first_side;
          first_lies = lies_reversed m.piece beside.first_side f beside.first_lies;
          second_lies = lies_reversed m.piece (ordering_reverse beside.first_side) g beside.second_lies;
        }

        go : ImageOf h m face s → FacesBeside ordering_reverse s f g
        go (by_first a b) = subst (λ t. FacesBeside ordering_reverse t f g) (sym b) beside
        go (by_second a b) = subst (λ t. FacesBeside ordering_reverse t f g) (sym b) back

    module _ (folded : FoldedFacts K sheet) where
      pub piece_point : {f k : ℕ} {s : Piece A} (h : HasPiece K sheet f k s) → IsPoint K s.from × IsPoint K s.to
      piece_point {f} {k} {s} h =
          let e = piece_ends h.face.corners k s h.is_piece in
          (folded.corner_is_point f h.face s.from h.is_face e.from_in, folded.corner_is_point f h.face s.to h.is_face e.to_in)

      -- at a seam point, what is on a piece is in its middle
      pub seam_in_middle : {line : Piece A} {p : Point A} → IsSeam K sheet line p → {f k : ℕ} {s : Piece A} → HasPiece K sheet f k s → IsOnPiece K s p → IsInMiddle K s p
      seam_in_middle {line} {p} seam {f} {k} {s} h o =
          let e = piece_ends h.face.corners k s h.is_piece in
          on_is_between K o (seam.off_vertices h.face s.from (at_place sheet.faces f h.face h.is_face) e.from_in) (seam.off_vertices h.face s.to (at_place sheet.faces f h.face h.is_face) e.to_in)

      pub line_of_seam : {line : Piece A} {p : Point A} → IsSeam K sheet line p → {e f : ℕ} {s : Piece A} → IsImage K sheet e f s → IsOnPiece K s p → Relined line s
      line_of_seam {line} {p} seam {e} {f} {s} i o =
          let w = inside_off K sheet folded f i.corner s i.of_face in
          relined line s w.point (seam.along e f s i o) seam.is_line (λ z. w.off (sym (side_is_value K s w.point) ∙ z))

      -- ---- the faces at one side of a seam point

      -- near p, on this side, the points are inside of the face
      record SideNear (line : Piece A) (p : Point A) (o : Ordering) (f : ℕ) : Type 0 where
        near : List (Line A)
        holds : LiesIn K near p
        inside : (q : Point A) → IsPoint K q → LiesIn K near q → side_of K line q ≡ o → IsInside K sheet f q

      side_near : (line : Piece A) (p : Point A) (o : Ordering) (f : ℕ) → IsPoint K p → ¬ IsSamePoint K line.from line.to → IsAtSide K sheet line p o f → SideNear line p o f
      side_near line p o f ip n (inl i) = record { near = borders K i.face; holds = inside_lies K sheet i; inside = λ q iq l s. lies_inside K sheet f i.face q i.is l }
      side_near line p o f ip n (inr e) = of (folded.inside_near f e.corner e.piece e.of_face p ip e.middle) (folded.has_inside f e.of_face.face e.of_face.is_face)
        where
          of : InsideNear K sheet f e.of_face.face.turned e.piece p → HasInside K sheet f → SideNear line p o f
          of near v =
              let own : side_of K e.piece v.point ≡ inner_side e.of_face.face.turned = own_side e.of_face v.point v.is_point v.inside in
              let r : Relined line e.piece = relined line e.piece v.point e.along n (λ z. inner_not_equal e.of_face.face.turned (sym own ∙ z)) in
              record {
                near = near.near;
                holds = near.holds;
                inside = λ q iq l s. near.inside q iq l
                    (flipped_cancels r.flip (side_of K e.piece q) (inner_side e.of_face.face.turned)
                    (sym (r.is q) ∙ s ∙ sym (e.lies v.point v.is_point v.inside) ∙ r.is v.point ∙ ap (flipped r.flip) own));
              }

      -- towards a point on this side of the line both faces go on
      overlap_towards : (line : Piece A) (p : Point A) (o : Ordering) (f g : ℕ) → IsPoint K p → K.sign (value K.ops (line_of K line) p) ≡ Equal → SideNear line p o f → SideNear line p o g → (v : Point A) → IsPoint K v → side_of K line v ≡ o → Overlap K sheet f g
      overlap_towards line p o f g ip zero_here a b v iv sv = of (nearby K (a.near ++ b.near) p v (lies_in_both K a.near b.near p a.holds b.holds))
        where
          of : Nearby K (a.near ++ b.near) p v → Overlap K sheet f g
          of n =
              let q : Point A = combination K.ops n.s p n.t v in
              let iq : IsPoint K q = K.sign_add Greater (K.mul n.s p.w) (K.mul n.t v.w) (positive_product K n.s p.w n.s_positive ip) (positive_product K n.t v.w n.t_positive iv) in
              let sq : side_of K line q ≡ o = side_is_value K line q ∙ ap K.sign (value_of_nearby K (line_of K line) n.s p n.t v zero_here)
              ∙ sign_of_multiple K n.t (value K.ops (line_of K line) v) n.t_positive ∙ sym (side_is_value K line v) ∙ sv in
              record {
                point = q;
                is_point = iq;
                in_first = a.inside q iq (lies_in_left K a.near b.near q n.lies) sq;
                in_second = b.inside q iq (lies_in_right K a.near b.near q n.lies) sq;
              }

      edge_overlaps : (line : Piece A) (p : Point A) (o : Ordering) (f g : ℕ) → IsPoint K p → ¬ IsSamePoint K line.from line.to → (h : ℕ) → BeginsAt K sheet line p o h → IsAtSide K sheet line p o f → IsAtSide K sheet line p o g → Overlap K sheet f g
      edge_overlaps line p o f g ip n h e a b =
          let v = folded.has_inside h e.of_face.face e.of_face.is_face in
          let zero_here = zero_on_piece K (line_of K line) e.piece p (between_is_on K e.middle) (sym (side_is_value K line e.piece.from) ∙ e.along.from_on) (sym (side_is_value K line e.piece.to) ∙ e.along.to_on) in
          overlap_towards line p o f g ip zero_here (side_near line p o f ip n a) (side_near line p o g ip n b) v.point v.is_point (e.lies v.point v.is_point v.inside)

      -- the faces at one side of a seam point overlap pairwise
      pub overlap_at_side : (line : Piece A) (p : Point A) (o : Ordering) (f g : ℕ) → IsPoint K p → ¬ IsSamePoint K line.from line.to → IsAtSide K sheet line p o f → IsAtSide K sheet line p o g → Overlap K sheet f g
      overlap_at_side line p o f g ip n (inl a) (inl b) = record { point = p; is_point = ip; in_first = a; in_second = b }
      overlap_at_side line p o f g ip n (inl a) (inr e) = edge_overlaps line p o f g ip n g e (inl a) (inr e)
      overlap_at_side line p o f g ip n (inr e) b = edge_overlaps line p o f g ip n f e (inr e) b
