-- No crossing stands by the list exactly where each stack has one order, each seam point is clear
-- and the letters fit.
use mathlib.Core.Path.{◌≡◌, refl, sym, ap, subst, ◌∙◌}
use mathlib.Core.Bool.{Bool, true, false}
use mathlib.Core.List.{List, [], ◌∷◌}
use mathlib.Core.Logic.{◌⊎◌, inl, inr, ◌↔◌}
use Prim.Native.Nat.{ℕ, ◌<◌}
use Rattle.std.proofs.Common.{arith}
use Rattle.std.proofs.lemmas.Bool.{cases_order}
use Rattle.std.specs.Prelude.{Some, Contains}
use Rattle.std.specs.List.{slice_get}
use Rattle.std.specs.declared.cmp.Ordering.{Ordering}
use Rattle.std.specs.declared.cmp.Ordering.TheVariants.{Less, Equal, Greater}
use Rattle.std.specs.Ordering.{ordering_reverse}
use Rattle.algebra.specs.OrderedRing.{OrderedRing}
use Rattle.plane.specs.declared.point.Point.{Point}
use Rattle.plane.specs.Points.{IsPoint}
use Rattle.layers.proofs.FoldedFacts.{FoldedFacts, HasInside}
use Rattle.layers.proofs.Signs.{reverse_twice, flipped_equal}
use Rattle.layers.proofs.Faces.{side_is_value, inner_not_equal, on_own_line}
use Rattle.plane.proofs.OnSegments.{between_is_on, on_turned, between_turned}
use Rattle.layers.proofs.Places.{at_place, first_in, second_in}
use Rattle.layers.proofs.Stacks.{ordered_stack, no_ring}
use Rattle.layers.proofs.Sides.{Relined, relined, own_side, ImageOf, by_first, by_second, image_of, seam_in_middle, line_of_seam, overlap_at_side, swapped}
use Rattle.layers.proofs.FaceWise.{SeamOf, seam_of, occurs, is_listed}
use Rattle.fold_base.specs.declared.letter.Letter.{Letter as AnyLetter}
use Rattle.fold_base.specs.declared.letter.Letter.TheVariants.{Border, Mountain, Valley, Flat, Unassigned, Join, Cut}
use Rattle.layers.specs.declared.crossing.Strand.{Strand}
use Rattle.layers.specs.declared.crossing.Strand.TheVariants.{Face, Edge}
use Rattle.layers.specs.declared.crossing.Crossing.{Crossing}
use Rattle.layers.specs.declared.crossing.Crossing.TheVariants.{Cycle, Through, Creases, Joined, Letter}
use Rattle.layers.specs.Pieces.{Piece, reversed, pieces_round, side_of, IsOnPiece, IsInMiddle, IsAlong}
use Rattle.layers.specs.Sheets.{IsCrease, FoldedFace, FaceSide, FoldedEdge, FoldedSheet, inner_side, IsInside, HasPiece, HasFaces, GoesThrough, IsImage}
use Rattle.layers.specs.Orders.{NoClash, RanksOverlaps}
use Rattle.layers.specs.Points.{IsGeneric, IsSeam, LiesOn, BeginsAt, IsAtSide, IsEdgeThere, IsAcross, IsOrderly, IsClear, IsOnNormalSide, LetterFits, IsLayered}
use Rattle.layers.specs.Crossings.{Occurs}
use Rattle.layers.specs.Listing.{IsListed}
use Rattle.layers.specs.Folded.{MeetThere}
use Rattle.layers.proofs.Letters.{crease_or_fits}

not_own_reverse : (o : Ordering) → o ≡ ordering_reverse o → o ≡ Equal
not_own_reverse Less e = cc
not_own_reverse Equal e = refl
not_own_reverse Greater e = cc

same_two : {X : Type 0} (xs : List X) (a b c d : X) → (xs ≡ a ∷ b ∷ []) ⊎ (xs ≡ b ∷ a ∷ []) → (xs ≡ c ∷ d ∷ []) ⊎ (xs ≡ d ∷ c ∷ []) → (a ≡ c) ⊎ (b ≡ c)
same_two xs a b c d (inl x) (inl y) = inl (cc)
same_two xs a b c d (inl x) (inr y) = inr (cc)
same_two xs a b c d (inr x) (inl y) = inr (cc)
same_two xs a b c d (inr x) (inr y) = inl (cc)

module _ {A : Type 0} (K : OrderedRing A) (sheet : FoldedSheet A) (folded : FoldedFacts K sheet) where
  -- ---- the faces of an edge through a seam point

  along_reversed : (l s : Piece A) → IsAlong K l (reversed s) → IsAlong K l s
  along_reversed l s a = record { from_on = a.to_on; to_on = a.from_on }

  record MiddleOf (line s : Piece A) (p : Point A) : Type 0 where
    on : IsOnPiece K s p
    along : IsAlong K line s

  meets_in : {line : Piece A} {p : Point A} → IsSeam K sheet line p → {e f g : ℕ} (h : HasFaces K sheet e f g) (m : MeetThere K sheet h) → GoesThrough K sheet e p → MiddleOf line m.piece p
  meets_in {line} {p} seam {e} {f} {g} h m t = go (image_of K sheet h m t.face t.piece t.image)
    where
      a : IsAlong K line t.piece
      a = seam.along e t.face t.piece t.image t.on

      go : ImageOf K sheet h m t.face t.piece → MiddleOf line m.piece p
      go (by_first i j) = record { on = subst (λ s. IsOnPiece K s p) j t.on; along = subst (IsAlong K line) j a }
      go (by_second i j) = record { on = on_turned K (subst (λ s. IsOnPiece K s p) j t.on); along = along_reversed line m.piece (subst (IsAlong K line) j a) }

  record BothThere (line : Piece A) (p : Point A) (s t : Ordering) (f g c d : ℕ) : Type 0 where
    first_there : BeginsAt K sheet line p s f
    second_there : BeginsAt K sheet line p t g
    first_corner : first_there.corner ≡ c
    second_corner : second_there.corner ≡ d

  both_there : {Lettered : AnyLetter → Type 0} {line : Piece A} {p : Point A} {s t : Ordering} {e f g : ℕ} → IsSeam K sheet line p → (h : IsEdgeThere K sheet Lettered line p s t e f g) → MeetThere K sheet h.faces
      → BothThere line p s t f g h.faces.first h.faces.second
  both_there {Lettered} {line} {p} {s} {t} {e} {f} {g} seam h m = of (meets_in seam h.faces m h.through)
    where
      of : MiddleOf line m.piece p → BothThere line p s t f g h.faces.first h.faces.second
      of o =
          let mid : IsInMiddle K m.piece p = seam_in_middle K sheet folded seam m.in_first o.on in
          record {
            first_there = record { corner = h.faces.first; piece = m.piece; of_face = m.in_first; middle = mid; along = o.along; lies = h.first_side };
            second_there = record {
              corner = h.faces.second;
              piece = reversed m.piece;
              of_face = m.in_second;
              middle = between_turned K mid;
              along = record { from_on = o.along.to_on; to_on = o.along.from_on };
              lies = h.second_side;
            };
            first_corner = refl;
            second_corner = refl;
          }

  there : {Lettered : AnyLetter → Type 0} {line : Piece A} {p : Point A} {s t : Ordering} {e f g : ℕ} → IsSeam K sheet line p → (h : IsEdgeThere K sheet Lettered line p s t e f g) → MeetThere K sheet h.faces → BeginsAt K sheet line p s f
  there seam h m = (both_there seam h m).first_there

  -- no face lies on the line itself
  side_not_equal : {line : Piece A} {p : Point A} {o : Ordering} {f : ℕ} → IsSeam K sheet line p → BeginsAt K sheet line p o f → ¬ (o ≡ Equal)
  side_not_equal {line} {p} {o} {f} seam e z = of (folded.has_inside f e.of_face.face e.of_face.is_face)
    where
      of : HasInside K sheet f → ⊥
      of v =
          let own : side_of K e.piece v.point ≡ inner_side e.of_face.face.turned = own_side K sheet e.of_face v.point v.is_point v.inside in
          let off : ¬ (side_of K e.piece v.point ≡ Equal) = λ y. inner_not_equal e.of_face.face.turned (sym own ∙ y) in
          let r : Relined K line e.piece = relined K line e.piece v.point e.along seam.is_line off in
          off (flipped_equal r.flip (side_of K e.piece v.point) (sym (r.is v.point) ∙ e.lies v.point v.is_point v.inside ∙ z))

  -- a point on the border of a face is not inside of it
  not_inside : {line : Piece A} {p : Point A} {o : Ordering} {f : ℕ} → BeginsAt K sheet line p o f → ¬ IsInside K sheet f p
  not_inside {line} {p} {o} {f} e i =
      inner_not_equal i.face.turned (sym (i.within e.piece (at_place (pieces_round i.face.corners) e.corner e.piece (subst (λ (x : FoldedFace A). slice_get (pieces_round x.corners) e.corner ≡ Some e.piece) same e.of_face.is_piece))) ∙ side_is_value K e.piece p ∙ on_own_line K e.piece p (between_is_on K e.middle))
    where
      same : e.of_face.face ≡ i.face
      same = let a = i.is in let b = e.of_face.is_face in cc

  module _ (above : ℕ → ℕ → Type 0) (one_way : NoClash above) where
    not_above_itself : (f g : ℕ) → f ≡ g → ¬ above f g
    not_above_itself f g e h = one_way f f (subst (above f) (sym e) h) (subst (above f) (sym e) h)

    -- ---- where all is in order there is no crossing

    pub no_crossing : IsLayered K sheet above → (c : Crossing) → ¬ Occurs K sheet above c
    no_crossing l (Cycle f g h) c =
        no_ring K sheet above one_way c.point (l.orderly c.point c.is_point c.is_generic) f g h c.in_first c.in_second c.in_third c.around.0 c.around.1 c.around.2
    no_crossing l (Through e strand) c = let clear = l.clear c.line c.point c.is_seam in clear.no_face_in_arc c.arc_side e c.first c.second strand c.near c.far c.is_arc c.is_across c.is_between
    no_crossing l (Creases e d) c =
        let clear = l.clear c.line c.point c.is_seam in
        clear.no_arcs_cross c.arc_side e c.first c.second d c.other_first c.other_second c.ordered c.is_arc c.is_other_arc c.one_between
    no_crossing l (Joined e strand) c =
        let clear = l.clear c.line c.point c.is_seam in
        one_way c.other_second c.second c.changes.1 (clear.no_strands_cross c.upper_side (Edge e) strand c.first c.second c.other_first c.other_second c.is_across c.is_other_across c.changes.0)
    no_crossing l (Letter e) c = c.misfit (l.letters e c.first c.second c.faces)

    -- ---- and where there is no crossing all is in order

    module _ (ranks : RanksOverlaps K sheet above) (none : (c : Crossing) → ¬ Occurs K sheet above c) where
      no_three : (p : Point A) → IsPoint K p → IsGeneric K sheet p → (f g h : ℕ) → f < g → f < h → IsInside K sheet f p → IsInside K sheet g p → IsInside K sheet h p → above f g → above g h → ¬ above h f
      no_three p ip gp f g h lg lh i j k fg gh hf =
          none (Cycle f g h) (record { least = (lg, lh); around = (fg, gh, hf); point = p; is_point = ip; is_generic = gp; in_first = i; in_second = j; in_third = k })

      acyclic : (p : Point A) → IsPoint K p → IsGeneric K sheet p → (f g h : ℕ) → IsInside K sheet f p → IsInside K sheet g p → IsInside K sheet h p → above f g → above g h → ¬ above h f
      acyclic p ip gp f g h i j k fg gh hf = go (cases_order f g) (cases_order g h) (cases_order h f)
        where
          go : (f ≡ g) ⊎ ((f < g) ⊎ (g < f)) → (g ≡ h) ⊎ ((g < h) ⊎ (h < g)) → (h ≡ f) ⊎ ((h < f) ⊎ (f < h)) → ⊥
          go (inl e) b c = not_above_itself f g e fg
          go (inr a) (inl e) c = not_above_itself g h e gh
          go (inr a) (inr b) (inl e) = not_above_itself h f e hf
          go (inr (inl a)) (inr b) (inr (inr c)) = no_three p ip gp f g h a c i j k fg gh hf
          go (inr (inl a)) (inr b) (inr (inl c)) = no_three p ip gp h f g c (omega arith) k i j hf fg gh
          go (inr (inr a)) (inr (inl b)) (inr c) = no_three p ip gp g h f b a j k i gh hf fg
          go (inr (inr a)) (inr (inr b)) (inr c) = no_three p ip gp h f g (omega arith) b k i j hf fg gh

      orderly : (p : Point A) → IsPoint K p → IsGeneric K sheet p → IsOrderly K sheet above p
      orderly p ip gp = ordered_stack K sheet above one_way ranks p ip (acyclic p ip gp)

      -- two different faces at one side of a seam point are ranked
      ranked : {line : Piece A} {p : Point A} → IsSeam K sheet line p → (o : Ordering) (f g : ℕ) → ¬ (f ≡ g) → IsAtSide K sheet line p o f → IsAtSide K sheet line p o g → above f g ⊎ above g f
      ranked {line} {p} seam o f g n a b = ranks f g n (overlap_at_side K sheet folded line p o f g seam.is_point seam.is_line a b)

      -- ---- letters

      decide_normal : (f g : ℕ) (face : FoldedFace A) → slice_get sheet.faces g ≡ Some face → above f g ⊎ above g f → IsOnNormalSide K sheet above f g ⊎ ¬ IsOnNormalSide K sheet above f g
      decide_normal f g face e r = at face.turned refl r
        where
          same_turn : (o : IsOnNormalSide K sheet above f g) → o.other.turned ≡ face.turned
          same_turn o = let a = o.is_other in let same : o.other ≡ face = cc in ap (λ (x : FoldedFace A). x.turned) same

          clash : (t u : Bool) (x : Type 0) → t ≡ u → t ≡ false → u ≡ true → x
          clash t u x a b c = cc

          at : (t : Bool) → face.turned ≡ t → above f g ⊎ above g f → IsOnNormalSide K sheet above f g ⊎ ¬ IsOnNormalSide K sheet above f g
          at false t (inl fg) = inl (record { other = face; is_other = e; lies = inl (t, fg) })
          at false t (inr gf) = inr (λ o. elim o.lies [ inl h ↦ one_way g f gf h.1 | inr h ↦ let s = same_turn o in let u = h.0 in cc ])
          at true t (inl fg) = inr (λ o. elim o.lies [ inl h ↦ let s = same_turn o in let u = h.0 in cc | inr h ↦ one_way f g fg h.1 ])
          at true t (inr gf) = inl (record { other = face; is_other = e; lies = inr (t, gf) })

      swap_order : {f g : ℕ} → above f g ⊎ above g f → above g f ⊎ above f g
      swap_order (inl a) = inr a
      swap_order (inr b) = inl b

      letters_at : (e f g : ℕ) (h : HasFaces K sheet e f g) → IsCrease h.edge.letter → ¬ ¬ LetterFits K sheet above h.edge.letter f g → MeetThere K sheet h → (a : AnyLetter) → h.edge.letter ≡ a → LetterFits K sheet above a f g
      letters_at e f g h c n m Border l = tt
      letters_at e f g h c n m Flat l = tt
      letters_at e f g h c n m Unassigned l = tt
      letters_at e f g h c n m Join l = tt
      letters_at e f g h c n m Cut l = tt
      letters_at e f g h c n m Mountain l =
          let k : ¬ ¬ LetterFits K sheet above Mountain f g = subst (λ a. ¬ ¬ LetterFits K sheet above a f g) l n in
          ((λ o. k (λ fits. fits.0 o)), (λ o. k (λ fits. fits.1 o)))
      letters_at e f g h c n m Valley l =
          let k : ¬ ¬ LetterFits K sheet above Valley f g = subst (λ a. ¬ ¬ LetterFits K sheet above a f g) l n in
          both k (decide_normal f g m.in_second.face m.in_second.is_face r) (decide_normal g f m.in_first.face m.in_first.is_face (swap_order r))
        where
          differ : ¬ (f ≡ g)
          differ i =
              m.turned_at_crease c (let a = m.in_first.is_face in let b : slice_get sheet.faces f ≡ Some m.in_second.face = subst (λ x. slice_get sheet.faces x ≡ Some m.in_second.face) (sym i) m.in_second.is_face in
              let same : m.in_first.face ≡ m.in_second.face = cc in ap (λ (x : FoldedFace A). x.turned) same)

          r : above f g ⊎ above g f
          r = of (seam_of K sheet folded above e f g h m)
            where
              of : SeamOf K sheet folded above e → above f g ⊎ above g f
              of s = at (meets_in s.is_seam h m s.through)
                where
                  at : MiddleOf s.line m.piece s.point → above f g ⊎ above g f
                  at o = on_side (Rattle.layers.proofs.Sides.crease_beside K sheet h c m f m.piece image)
                    where
                      image : IsImage K sheet e f m.piece
                      image = record {
                        edge = h.edge;
                        is = h.is;
                        corner = h.first;
                        of_edge = first_in h;
                        of_face = m.in_first;
                      }

                      lines : Relined K s.line m.piece
                      lines = line_of_seam K sheet folded s.is_seam image o.on

                      on_side : Rattle.layers.proofs.Sides.FacesBeside K sheet (λ o. o) m.piece f g → above f g ⊎ above g f
                      on_side b =
                          let q = both_there {Lettered = IsCrease} s.is_seam (record {
                            faces = h;
                            lettered = c;
                            through = s.through;
                            first_side = Rattle.layers.proofs.Sides.lies_relined K sheet s.line m.piece lines b.first_side f b.first_lies;
                            second_side = Rattle.layers.proofs.Sides.lies_relined K sheet s.line m.piece lines b.first_side g b.second_lies;
                          }) m in
                          ranked s.is_seam (Rattle.layers.proofs.Signs.flipped lines.flip b.first_side) f g differ (inr q.first_there) (inr q.second_there)

          both : ¬ ¬ LetterFits K sheet above Valley f g → IsOnNormalSide K sheet above f g ⊎ ¬ IsOnNormalSide K sheet above f g → IsOnNormalSide K sheet above g f ⊎ ¬ IsOnNormalSide K sheet above g f → LetterFits K sheet above Valley f g
          both k (inl a) (inl b) = (a, b)
          both k (inr a) b = absurd (k (λ fits. a fits.0))
          both k (inl a) (inr b) = absurd (k (λ fits. b fits.1))

      crease_letters : (e f g : ℕ) (h : HasFaces K sheet e f g) → IsCrease h.edge.letter → LetterFits K sheet above h.edge.letter f g
      crease_letters e f g h c =
          let m = folded.crease_meets e f g h c in
          let s = seam_of K sheet folded above e f g h m in
          letters_at e f g h c (λ n. none (Letter e) (record { first = f; second = g; faces = h; misfit = n; point = s.point; line = s.line; is_seam = s.is_seam; through = s.through })) m h.edge.letter refl

      letters : (e f g : ℕ) (h : HasFaces K sheet e f g) → LetterFits K sheet above h.edge.letter f g
      letters e f g h = elim (crease_or_fits K sheet above h.edge.letter f g) [ inl c ↦ crease_letters e f g h c | inr fits ↦ fits ]

      -- ---- clear seam points

      turn_across : (line : Piece A) (p : Point A) (s : Ordering) (strand : Strand) (f g : ℕ) → IsAcross K sheet line p s strand f g → IsAcross K sheet line p (ordering_reverse s) strand g f
      turn_across line p s (Face h) f g a = (a.0, a.2, a.1)
      turn_across line p s (Edge e) f g a = record {
        faces = swapped K sheet a.faces;
        lettered = a.lettered;
        through = a.through;
        first_side = a.second_side;
        second_side = subst (λ o. LiesOn K sheet line o f) (sym (reverse_twice s)) a.first_side;
      }

      join_there : {line : Piece A} {p : Point A} → IsSeam K sheet line p → (s : Ordering) (e f g : ℕ) (a : IsAcross K sheet line p s (Edge e) f g) → BothThere line p s (ordering_reverse s) f g a.faces.first a.faces.second
      join_there seam s e f g a = both_there seam a (folded.join_meets e f g a.faces a.lettered)

      -- an edge and a face across: neither of the edge's faces is the face
      edge_over_face : {line : Piece A} {p : Point A} → IsSeam K sheet line p → (s : Ordering) (e f g h : ℕ) → IsAcross K sheet line p s (Edge e) f g → IsInside K sheet h p → above f h → above g h
      edge_over_face {line} {p} seam s e f g h a i fh = of (join_there seam s e f g a)
        where
          of : BothThere line p s (ordering_reverse s) f g a.faces.first a.faces.second → above g h
          of b = elim (ranked seam (ordering_reverse s) g h (λ z. not_inside b.second_there (subst (λ x. IsInside K sheet x p) (sym z) i)) (inr b.second_there) (inl i)) [
            | inl gh ↦ gh
            | inr hg ↦ absurd (none (Joined e (Face h)) (record { ordered = tt; point = p; line = line; is_seam = seam; upper_side = s; first = f; second = g; is_across = a; other_first = h; other_second = h; is_other_across = (i, refl, refl); changes = (fh, hg) }))
          ]

      face_over_edge : {line : Piece A} {p : Point A} → IsSeam K sheet line p → (s : Ordering) (d h k f : ℕ) → IsAcross K sheet line p s (Edge d) h k → IsInside K sheet f p → above f h → above f k
      face_over_edge {line} {p} seam s d h k f a i fh = of (join_there seam s d h k a)
        where
          of : BothThere line p s (ordering_reverse s) h k a.faces.first a.faces.second → above f k
          of b = elim (ranked seam (ordering_reverse s) f k (λ z. not_inside b.second_there (subst (λ x. IsInside K sheet x p) z i)) (inl i) (inr b.second_there)) [
            | inl fk ↦ fk
            | inr kf ↦ absurd (none (Joined d (Face f)) (record {
              ordered = tt;
              point = p;
              line = line;
              is_seam = seam;
              upper_side = ordering_reverse s;
              first = k;
              second = h;
              is_across = turn_across line p s (Edge d) h k a;
              other_first = f;
              other_second = f;
              is_other_across = (i, refl, refl);
              changes = (kf, fh);
            }))
          ]

      -- two joins across at one point have different faces on each side
      different_joins : {line : Piece A} {p : Point A} → IsSeam K sheet line p → (s : Ordering) (e d f g h k : ℕ) → ¬ (e ≡ d) → IsAcross K sheet line p s (Edge e) f g → IsAcross K sheet line p s (Edge d) h k → ¬ (g ≡ k)
      different_joins {line} {p} seam s e d f g h k n a b z = of (join_there seam s e f g a) (join_there seam s d h k b)
        where
          of : BothThere line p s (ordering_reverse s) f g a.faces.first a.faces.second → BothThere line p s (ordering_reverse s) h k b.faces.first b.faces.second → ⊥
          of x y =
              let piece : HasPiece K sheet g y.second_there.corner y.second_there.piece = subst (λ f. HasPiece K sheet f y.second_there.corner y.second_there.piece) (sym z) y.second_there.of_face in
              let corners : x.second_there.corner ≡ y.second_there.corner = folded.pieces_apart g x.second_there.corner y.second_there.corner x.second_there.piece y.second_there.piece p x.second_there.of_face piece x.second_there.middle y.second_there.middle in
              let same : a.faces.second ≡ b.faces.second = sym x.second_corner ∙ corners ∙ y.second_corner in
              let same_side : record { face = k; corner = b.faces.second } ≡ here = λ i. record { face = sym z i; corner = sym same i } in
              n (folded.one_edge e d a.faces.edge b.faces.edge (record { face = g; corner = a.faces.second }) a.faces.is b.faces.is (second_in a.faces) (subst (Contains b.faces.edge.sides) same_side (second_in b.faces)))
            where
              here : FaceSide
              here = record { face = g; corner = a.faces.second }

      clear : (line : Piece A) (p : Point A) → IsSeam K sheet line p → IsClear K sheet above line p
      clear line p seam = record {
        no_face_in_arc = λ s e f g strand h k arc across between. none (Through e strand) (record { point = p; line = line; is_seam = seam; arc_side = s; first = f; second = g; is_arc = arc; near = h; far = k; is_across = across; is_between = between });
        no_arcs_cross = λ s e f g d h k lt arc other one. none (Creases e d) (record { ordered = lt; point = p; line = line; is_seam = seam; arc_side = s; first = f; second = g; is_arc = arc; other_first = h; other_second = k; is_other_arc = other; one_between = one });
        no_strands_cross = strands;
      }
        where
          strands : (s : Ordering) (strand other : Strand) (f g h k : ℕ) → IsAcross K sheet line p s strand f g → IsAcross K sheet line p s other h k → above f h → above g k
          strands s (Face a) (Face b) f g h k x y fh = let e : f ≡ g = x.1 ∙ sym x.2 in let d : h ≡ k = y.1 ∙ sym y.2 in subst (above g) d (subst (λ z. above z h) e fh)
          strands s (Edge e) (Face b) f g h k x y fh = subst (above g) (sym y.2) (edge_over_face seam s e f g b x y.0 (subst (above f) y.1 fh))
          strands s (Face a) (Edge d) f g h k x y fh = subst (λ z. above z k) (sym x.2) (face_over_edge seam s d h k a y x.0 (subst (λ z. above z h) x.1 fh))
          strands s (Edge e) (Edge d) f g h k x y fh = go (cases_order e d)
            where
              same_edge : e ≡ d → above g k
              same_edge z =
                  elim (same_two x.faces.edge.sides (record { face = f; corner = x.faces.first }) (record { face = g; corner = x.faces.second }) (record { face = h; corner = y.faces.first }) (record { face = k; corner = y.faces.second }) x.faces.either
                  (subst (λ (o : FoldedEdge). (o.sides ≡ record { face = h; corner = y.faces.first } ∷ record { face = k; corner = y.faces.second } ∷ []) ⊎ (o.sides ≡ record { face = k; corner = y.faces.second } ∷ record { face = h; corner = y.faces.first } ∷ [])) (sym edges) y.faces.either)) [
                    | inl same ↦ absurd (not_above_itself f h (ap (λ (o : FaceSide). o.face) same) fh)
                    | inr same ↦ absurd (on_both (ap (λ (o : FaceSide). o.face) same) (join_there seam s e f g x) (join_there seam s d h k y))
                  ]
                where
                  edges : x.faces.edge ≡ y.faces.edge
                  edges = let a = x.faces.is in let b : slice_get sheet.edges e ≡ Some y.faces.edge = subst (λ i. slice_get sheet.edges i ≡ Some y.faces.edge) (sym z) y.faces.is in cc

                  on_both : g ≡ h → BothThere line p s (ordering_reverse s) f g x.faces.first x.faces.second → BothThere line p s (ordering_reverse s) h k y.faces.first y.faces.second → ⊥
                  on_both i a b = of (folded.has_inside g a.second_there.of_face.face a.second_there.of_face.is_face)
                    where
                      of : HasInside K sheet g → ⊥
                      of v = side_not_equal seam b.first_there (not_own_reverse s (sym (y.first_side v.point v.is_point (subst (λ j. IsInside K sheet j v.point) i v.inside)) ∙ x.second_side v.point v.is_point v.inside))

              order : ¬ (e ≡ d) → above g k ⊎ above k g
              order n = at (join_there seam s e f g x) (join_there seam s d h k y)
                where
                  at : BothThere line p s (ordering_reverse s) f g x.faces.first x.faces.second → BothThere line p s (ordering_reverse s) h k y.faces.first y.faces.second → above g k ⊎ above k g
                  at a b = ranked seam (ordering_reverse s) g k (different_joins seam s e d f g h k n x y) (inr a.second_there) (inr b.second_there)

              go : (e ≡ d) ⊎ ((e < d) ⊎ (d < e)) → above g k
              go (inl z) = same_edge z
              go (inr (inl lt)) = elim (order (λ z. omega arith)) [
                | inl gk ↦ gk
                | inr kg ↦ absurd (none (Joined e (Edge d)) (record { ordered = lt; point = p; line = line; is_seam = seam; upper_side = s; first = f; second = g; is_across = x; other_first = h; other_second = k; is_other_across = y; changes = (fh, kg) }))
              ]
              go (inr (inr gt)) = elim (order (λ z. omega arith)) [
                | inl gk ↦ gk
                | inr kg ↦ absurd (none (Joined d (Edge e)) (record {
                  ordered = gt;
                  point = p;
                  line = line;
                  is_seam = seam;
                  upper_side = ordering_reverse s;
                  first = k;
                  second = h;
                  is_across = turn_across line p s (Edge d) h k y;
                  other_first = g;
                  other_second = f;
                  is_other_across = turn_across line p s (Edge e) f g x;
                  changes = (kg, fh);
                }))
              ]

      pub layered : IsLayered K sheet above
      layered = record { orderly = orderly; clear = clear; letters = letters }

    -- the whole
    pub layered_where_none_listed : RanksOverlaps K sheet above → ((c : Crossing) → ¬ IsListed K sheet above c) ↔ IsLayered K sheet above
    layered_where_none_listed ranks = ((λ none. layered ranks (λ c o. none c (is_listed K sheet folded above c o))), (λ l c h. no_crossing l c (occurs K sheet folded above c h)))
