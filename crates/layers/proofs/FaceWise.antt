-- Each kind of crossing stands by the list exactly where it occurs at some point.
use mathlib.Core.Path.{◌≡◌, refl, sym, subst, ◌∙◌}
use mathlib.Core.List.{List, []}
use mathlib.Core.Logic.{inl, inr, ◌↔◌}
use Prim.Native.Nat.{ℕ}
use lib.IntN.{pos}
use Rattle.std.specs.declared.cmp.Ordering.{Ordering}
use Rattle.std.specs.declared.cmp.Ordering.TheVariants.{Equal}
use Rattle.std.specs.Ordering.{ordering_reverse}
use Rattle.algebra.specs.OrderedRing.{OrderedRing}
use Rattle.plane.specs.declared.point.Point.{Point}
use Rattle.plane.specs.declared.point.Line.{Line}
use Rattle.plane.specs.Lines.{value, LiesIn}
use Rattle.plane.specs.Points.{combination, IsPoint}
use Rattle.layers.proofs.Places.{at_place, first_in}
use Rattle.layers.proofs.FoldedFacts.{FoldedFacts}
use Rattle.plane.proofs.Members.{in_nil}
use Rattle.layers.proofs.Signs.{flipped, reverse_twice, flipped_reverse, flipped_equal}
use Rattle.layers.proofs.Faces.{line_of, side_is_value, borders, inside_lies, lies_inside, zero_on_piece, OffLine, inside_off}
use Rattle.plane.proofs.OnSegments.{between_is_on, mediant, on_between, from_is_on, to_is_on}
use Rattle.layers.proofs.Cycles.{cycle_occurs, cycle_listed}
use Rattle.layers.proofs.Seams.{SeamPoint, seam_point, piece_is_proper}
use Rattle.layers.proofs.Sides.{Relined, lies_lined, FacesBeside, crease_beside, join_beside, piece_point, seam_in_middle, line_of_seam, piece_ends, swapped}
use Rattle.layers.proofs.Together.{SecondPoint, second_point}
use Rattle.fold_base.specs.declared.letter.Letter.{Letter as AnyLetter}
use Rattle.layers.specs.declared.crossing.Strand.{Strand}
use Rattle.layers.specs.declared.crossing.Strand.TheVariants.{Face, Edge}
use Rattle.layers.specs.declared.crossing.Crossing.{Crossing}
use Rattle.layers.specs.declared.crossing.Crossing.TheVariants.{Cycle, Through, Creases, Joined, Letter}
use Rattle.layers.specs.Pieces.{Piece, side_of, IsInMiddle, IsAlong}
use Rattle.layers.specs.Sheets.{IsCrease, IsJoin, FoldedSheet, IsInside, IsImage, HasFaces, GoesThrough}
use Rattle.layers.specs.Orders.{LiesBetween}
use Rattle.layers.specs.Points.{IsSeam, LiesOn, IsEdgeThere}
use Rattle.layers.specs.Crossings.{ThroughOccurs, CreasesOccurs, JoinedOccurs, LetterOccurs, Occurs}
use Rattle.layers.specs.Listing.{EdgeEnters, RunAlong, HasSides, EntersBetween, ThroughListed, CreasesListed, JoinedListed, LetterListed, IsListed}
use Rattle.layers.specs.Folded.{MeetThere}
use Rattle.layers.proofs.Letters.{misfit_is_crease}

module _ {A : Type 0} (K : OrderedRing A) (sheet : FoldedSheet A) (folded : FoldedFacts K sheet) where
  -- a seam point in the middle of an image of an edge, in open half-planes that hold a point there
  pub seam_in_image : (e f : ℕ) (s : Piece A) (i : IsImage K sheet e f s) (ms : List (Line A)) (r : Point A) → IsInMiddle K s r → LiesIn K ms r → SeamPoint K sheet folded s s.from s.to ms
  seam_in_image e f s i ms r h l =
      let ends = piece_point K sheet folded i.of_face in
      seam_point K sheet folded e f s i ends.0 s.from s.to ends.0 ends.1 (from_is_on K s.from s.to) (to_is_on K s.from s.to) (piece_is_proper K sheet folded f i.corner s i.of_face ends.0) ms r h l

  -- a seam point of two edges that run together
  pub seam_together : (e d : ℕ) (line : Piece A) (t : RunAlong K sheet e d line) → SeamPoint K sheet folded line t.start t.end []
  seam_together e d line t =
      let ends = piece_point K sheet folded t.image.of_face in
      seam_point K sheet folded e t.face line t.image ends.0 t.start t.end t.start_is_point t.end_is_point t.start_on t.end_on t.different [] (combination K.ops (K.int (pos 1)) t.start (K.int (pos 1)) t.end) (mediant K t.start t.end)
      (λ m i. absurd (in_nil m i))

  other_through : (e d : ℕ) (line : Piece A) (t : RunAlong K sheet e d line) (r : SeamPoint K sheet folded line t.start t.end []) → GoesThrough K sheet d r.point
  other_through e d line t r = record { face = t.other_face; piece = t.other; image = t.other_image; on = on_between K t.other.from t.other.to t.start t.end r.point t.start_on_other t.end_on_other (between_is_on K r.between) }

  first_through : (e d : ℕ) (line : Piece A) (t : RunAlong K sheet e d line) (r : SeamPoint K sheet folded line t.start t.end []) → GoesThrough K sheet e r.point
  first_through e d line t r = record { face = t.face; piece = line; image = t.image; on = r.on_line }

  strand_edge : {Lettered : AnyLetter → Type 0} {line : Piece A} {p : Point A} {s t : Ordering} {e f g : ℕ} → HasSides K sheet Lettered line s t e f g → GoesThrough K sheet e p → IsEdgeThere K sheet Lettered line p s t e f g
  strand_edge h through = record { faces = h.faces; lettered = h.lettered; through = through; first_side = h.first_side; second_side = h.second_side }

  -- two edges through one seam point run together
  run_together : {line : Piece A} {p : Point A} → IsSeam K sheet line p → (e d : ℕ) (a : GoesThrough K sheet e p) (b : GoesThrough K sheet d p) → RunAlong K sheet e d a.piece
  run_together {line} {p} seam e d a b = of (second_point K (line_of K line) a.piece b.piece p w.point seam.is_point ae.0 ae.1 be.0 be.1
      (zero_on_piece K (line_of K line) a.piece p a.on (sym (side_is_value K line a.piece.from) ∙ aa.from_on) (sym (side_is_value K line a.piece.to) ∙ aa.to_on))
      (sym (side_is_value K line a.piece.from) ∙ aa.from_on) (sym (side_is_value K line a.piece.to) ∙ aa.to_on) (sym (side_is_value K line b.piece.from) ∙ ba.from_on) (sym (side_is_value K line b.piece.to) ∙ ba.to_on)
      off
      (seam.off_vertices a.image.of_face.face a.piece.from (at_place sheet.faces a.face a.image.of_face.face a.image.of_face.is_face) (piece_ends a.image.of_face.face.corners a.image.corner a.piece a.image.of_face.is_piece).from_in)
      (seam.off_vertices b.image.of_face.face b.piece.from (at_place sheet.faces b.face b.image.of_face.face b.image.of_face.is_face) (piece_ends b.image.of_face.face.corners b.image.corner b.piece b.image.of_face.is_piece).from_in)
      (seam_in_middle K sheet folded seam a.image.of_face a.on) (seam_in_middle K sheet folded seam b.image.of_face b.on))
    where
      ae : IsPoint K a.piece.from × IsPoint K a.piece.to
      ae = piece_point K sheet folded a.image.of_face

      be : IsPoint K b.piece.from × IsPoint K b.piece.to
      be = piece_point K sheet folded b.image.of_face

      aa : IsAlong K line a.piece
      aa = seam.along e a.face a.piece a.image a.on

      ba : IsAlong K line b.piece
      ba = seam.along d b.face b.piece b.image b.on

      w : OffLine K sheet folded (line_of K a.piece)
      w = inside_off K sheet folded a.face a.image.corner a.piece a.image.of_face

      off : ¬ (K.sign (value K.ops (line_of K line) w.point) ≡ Equal)
      off z =
          let r = line_of_seam K sheet folded seam a.image a.on in
          w.off (sym (side_is_value K a.piece w.point) ∙ flipped_equal r.flip (side_of K a.piece w.point) (sym (r.is w.point) ∙ side_is_value K line w.point ∙ z))

      of : SecondPoint K a.piece b.piece p → RunAlong K sheet e d a.piece
      of q = record {
        face = a.face;
        image = a.image;
        other_face = b.face;
        other = b.piece;
        other_image = b.image;
        start = p;
        end = q.point;
        start_is_point = seam.is_point;
        end_is_point = q.is_point;
        start_on = a.on;
        end_on = q.on_first;
        start_on_other = b.on;
        end_on_other = q.on_second;
        different = q.different;
      }

  -- ---- from the list to points

  pub crease_sides : {e f g : ℕ} (h : HasFaces K sheet e f g) → IsCrease h.edge.letter → (face : ℕ) (s : Piece A) → IsImage K sheet e face s → FacesBeside K sheet (λ o. o) s f g
  crease_sides {e} {f} {g} h c face s i = crease_beside K sheet h c (folded.crease_meets e f g h c) face s i

  pub join_sides : {e f g : ℕ} (h : HasFaces K sheet e f g) → IsJoin h.edge.letter → (face : ℕ) (s : Piece A) → IsImage K sheet e face s → FacesBeside K sheet ordering_reverse s f g
  join_sides {e} {f} {g} h c face s i = join_beside K sheet h c (folded.join_meets e f g h c) face s i

  seam_entering : {e h : ℕ} (n : EdgeEnters K sheet e h) → SeamPoint K sheet folded n.piece n.piece.from n.piece.to (borders K n.in_face.face)
  seam_entering {e} {h} n = seam_in_image e n.face n.piece n.image (borders K n.in_face.face) n.point n.in_middle (inside_lies K sheet n.in_face)

  -- the face that is entered has the seam point inside
  entered : {e h : ℕ} (n : EdgeEnters K sheet e h) (r : SeamPoint K sheet folded n.piece n.piece.from n.piece.to (borders K n.in_face.face)) → IsInside K sheet h r.point
  entered {e} {h} n r = lies_inside K sheet h n.in_face.face r.point n.in_face.is r.lies

  entering : {e h : ℕ} (n : EdgeEnters K sheet e h) (r : SeamPoint K sheet folded n.piece n.piece.from n.piece.to (borders K n.in_face.face)) → GoesThrough K sheet e r.point
  entering n r = record { face = n.face; piece = n.piece; image = n.image; on = r.on_line }

  module _ (above : ℕ → ℕ → Type 0) where
    crease_enters_occurs : (e h : ℕ) → EntersBetween K sheet above IsCrease e h → ThroughOccurs K sheet above e (Face h)
    crease_enters_occurs e h b = of (seam_entering b.enters) (crease_sides b.faces b.lettered b.enters.face b.enters.piece b.enters.image)
      where
        of : SeamPoint K sheet folded b.enters.piece b.enters.piece.from b.enters.piece.to (borders K b.enters.in_face.face) → FacesBeside K sheet (λ o. o) b.enters.piece b.first b.second → ThroughOccurs K sheet above e (Face h)
        of r s = record {
          point = r.point;
          line = b.enters.piece;
          is_seam = r.is_seam;
          arc_side = s.first_side;
          first = b.first;
          second = b.second;
          is_arc = record { faces = b.faces; lettered = b.lettered; through = entering b.enters r; first_side = s.first_lies; second_side = s.second_lies };
          near = h;
          far = h;
          is_across = (entered b.enters r, refl, refl);
          is_between = b.is_between;
        }

    join_enters_occurs : (e h : ℕ) → EntersBetween K sheet above IsJoin e h → JoinedOccurs K sheet above e (Face h)
    join_enters_occurs e h b = of (seam_entering b.enters) (join_sides b.faces b.lettered b.enters.face b.enters.piece b.enters.image) b.is_between
      where
        of : SeamPoint K sheet folded b.enters.piece b.enters.piece.from b.enters.piece.to (borders K b.enters.in_face.face) → FacesBeside K sheet ordering_reverse b.enters.piece b.first b.second → LiesBetween above h b.first b.second → JoinedOccurs K sheet above e (Face h)
        of r s (inl c) = record {
          ordered = tt;
          point = r.point;
          line = b.enters.piece;
          is_seam = r.is_seam;
          upper_side = ordering_reverse s.first_side;
          first = b.second;
          second = b.first;
          is_across = record {
            faces = swapped K sheet b.faces;
            lettered = b.lettered;
            through = entering b.enters r;
            first_side = s.second_lies;
            second_side = subst (λ o. LiesOn K sheet b.enters.piece o b.first) (sym (reverse_twice s.first_side)) s.first_lies;
          };
          other_first = h;
          other_second = h;
          is_other_across = (entered b.enters r, refl, refl);
          changes = (c.1, c.0);
        }
        of r s (inr c) = record {
          ordered = tt;
          point = r.point;
          line = b.enters.piece;
          is_seam = r.is_seam;
          upper_side = s.first_side;
          first = b.first;
          second = b.second;
          is_across = record { faces = b.faces; lettered = b.lettered; through = entering b.enters r; first_side = s.first_lies; second_side = s.second_lies };
          other_first = h;
          other_second = h;
          is_other_across = (entered b.enters r, refl, refl);
          changes = (c.1, c.0);
        }

    through_occurs : (e d : ℕ) → ThroughListed K sheet above e d → ThroughOccurs K sheet above e (Edge d)
    through_occurs e d b = of (seam_together e d b.line b.together)
      where
        of : SeamPoint K sheet folded b.line b.together.start b.together.end [] → ThroughOccurs K sheet above e (Edge d)
        of r = record {
          point = r.point;
          line = b.line;
          is_seam = r.is_seam;
          arc_side = b.on_side;
          first = b.first;
          second = b.second;
          is_arc = strand_edge b.crease (first_through e d b.line b.together r);
          near = b.near;
          far = b.far;
          is_across = strand_edge b.join (other_through e d b.line b.together r);
          is_between = b.is_between;
        }

    creases_occurs : (e d : ℕ) → CreasesListed K sheet above e d → CreasesOccurs K sheet above e d
    creases_occurs e d b = of (seam_together e d b.line b.together)
      where
        of : SeamPoint K sheet folded b.line b.together.start b.together.end [] → CreasesOccurs K sheet above e d
        of r = record {
          ordered = b.ordered;
          point = r.point;
          line = b.line;
          is_seam = r.is_seam;
          arc_side = b.on_side;
          first = b.first;
          second = b.second;
          is_arc = strand_edge b.crease (first_through e d b.line b.together r);
          other_first = b.other_first;
          other_second = b.other_second;
          is_other_arc = strand_edge b.other_crease (other_through e d b.line b.together r);
          one_between = b.one_between;
        }

    joined_occurs : (e d : ℕ) → JoinedListed K sheet above e d → JoinedOccurs K sheet above e (Edge d)
    joined_occurs e d b = of (seam_together e d b.line b.together)
      where
        of : SeamPoint K sheet folded b.line b.together.start b.together.end [] → JoinedOccurs K sheet above e (Edge d)
        of r = record {
          ordered = b.ordered;
          point = r.point;
          line = b.line;
          is_seam = r.is_seam;
          upper_side = b.upper_side;
          first = b.first;
          second = b.second;
          is_across = strand_edge b.join (first_through e d b.line b.together r);
          other_first = b.other_first;
          other_second = b.other_second;
          is_other_across = strand_edge b.other_join (other_through e d b.line b.together r);
          changes = b.changes;
        }

    -- a crease has a seam point
    pub record SeamOf (e : ℕ) : Type 0 where
      pub point : Point A
      pub line : Piece A
      pub is_seam : IsSeam K sheet line point
      pub through : GoesThrough K sheet e point

    pub seam_of : (e f g : ℕ) (h : HasFaces K sheet e f g) → MeetThere K sheet h → SeamOf e
    seam_of e f g h m =
        of (seam_in_image e f m.piece image [] (combination K.ops (K.int (pos 1)) m.piece.from (K.int (pos 1)) m.piece.to) (mediant K m.piece.from m.piece.to) (λ l i. absurd (in_nil l i)))
      where
        image : IsImage K sheet e f m.piece
        image = record {
          edge = h.edge;
          is = h.is;
          corner = h.first;
          of_edge = first_in h;
          of_face = m.in_first;
        }

        of : SeamPoint K sheet folded m.piece m.piece.from m.piece.to [] → SeamOf e
        of r = record { point = r.point; line = m.piece; is_seam = r.is_seam; through = record { face = f; piece = m.piece; image = image; on = r.on_line } }

    letter_occurs : (e : ℕ) → LetterListed K sheet above e → LetterOccurs K sheet above e
    letter_occurs e b =
        let s = seam_of e b.first b.second b.faces (folded.crease_meets e b.first b.second b.faces (misfit_is_crease K sheet above b.faces.edge.letter b.first b.second b.misfit)) in
        record { first = b.first; second = b.second; faces = b.faces; misfit = b.misfit; point = s.point; line = s.line; is_seam = s.is_seam; through = s.through }

    pub occurs : (c : Crossing) → IsListed K sheet above c → Occurs K sheet above c
    occurs (Cycle f g h) b = cycle_occurs K sheet folded above f g h b
    occurs (Through e (Face h)) b = crease_enters_occurs e h b
    occurs (Through e (Edge d)) b = through_occurs e d b
    occurs (Creases e d) b = creases_occurs e d b
    occurs (Joined e (Face h)) b = join_enters_occurs e h b
    occurs (Joined e (Edge d)) b = joined_occurs e d b
    occurs (Letter e) b = letter_occurs e b

    -- ---- from points to the list

    enters_here : {line : Piece A} {p : Point A} → IsSeam K sheet line p → {e h : ℕ} → GoesThrough K sheet e p → IsInside K sheet h p → EdgeEnters K sheet e h
    enters_here {line} {p} seam t i = record {
      face = t.face;
      piece = t.piece;
      image = t.image;
      point = p;
      is_point = seam.is_point;
      in_middle = seam_in_middle K sheet folded seam t.image.of_face t.on;
      in_face = i;
    }

    -- the sides of the seam's line are those of an edge through it
    lined : {Lettered : AnyLetter → Type 0} {line : Piece A} {p : Point A} {s t : Ordering} {e f g : ℕ} (l : Piece A) (r : Relined K line l) → IsEdgeThere K sheet Lettered line p s t e f g
        → HasSides K sheet Lettered l (flipped r.flip s) (flipped r.flip t) e f g
    lined {Lettered} {line} {p} {s} {t} {e} {f} {g} l r h = record {
      faces = h.faces;
      lettered = h.lettered;
      first_side = lies_lined K sheet line l r s f h.first_side;
      second_side = lies_lined K sheet line l r t g h.second_side;
    }

    through_listed : (e : ℕ) (strand : Strand) → ThroughOccurs K sheet above e strand → IsListed K sheet above (Through e strand)
    through_listed e (Face h) b = record {
      first = b.first;
      second = b.second;
      faces = b.is_arc.faces;
      lettered = b.is_arc.lettered;
      enters = enters_here b.is_seam b.is_arc.through b.is_across.0;
      is_between = subst (λ x. LiesBetween above x b.first b.second) b.is_across.1 b.is_between;
    }
    through_listed e (Edge d) b =
        let r : Relined K b.line b.is_arc.through.piece = line_of_seam K sheet folded b.is_seam b.is_arc.through.image b.is_arc.through.on in
        record {
          line = b.is_arc.through.piece;
          together = run_together b.is_seam e d b.is_arc.through b.is_across.through;
          on_side = flipped r.flip b.arc_side;
          first = b.first;
          second = b.second;
          crease = lined b.is_arc.through.piece r b.is_arc;
          near = b.near;
          far = b.far;
          join = subst (λ o. HasSides K sheet IsJoin b.is_arc.through.piece (flipped r.flip b.arc_side) o d b.near b.far) (flipped_reverse r.flip b.arc_side) (lined b.is_arc.through.piece r b.is_across);
          is_between = b.is_between;
        }

    creases_listed : (e d : ℕ) → CreasesOccurs K sheet above e d → CreasesListed K sheet above e d
    creases_listed e d b =
        let r : Relined K b.line b.is_arc.through.piece = line_of_seam K sheet folded b.is_seam b.is_arc.through.image b.is_arc.through.on in
        record {
          ordered = b.ordered;
          line = b.is_arc.through.piece;
          together = run_together b.is_seam e d b.is_arc.through b.is_other_arc.through;
          on_side = flipped r.flip b.arc_side;
          first = b.first;
          second = b.second;
          crease = lined b.is_arc.through.piece r b.is_arc;
          other_first = b.other_first;
          other_second = b.other_second;
          other_crease = lined b.is_arc.through.piece r b.is_other_arc;
          one_between = b.one_between;
        }

    joined_listed : (e : ℕ) (strand : Strand) → JoinedOccurs K sheet above e strand → IsListed K sheet above (Joined e strand)
    joined_listed e (Face h) b = record {
      first = b.first;
      second = b.second;
      faces = b.is_across.faces;
      lettered = b.is_across.lettered;
      enters = enters_here b.is_seam b.is_across.through b.is_other_across.0;
      is_between = inr (subst (λ x. above x b.second) b.is_other_across.2 b.changes.1, subst (above b.first) b.is_other_across.1 b.changes.0);
    }
    joined_listed e (Edge d) b =
        let r : Relined K b.line b.is_across.through.piece = line_of_seam K sheet folded b.is_seam b.is_across.through.image b.is_across.through.on in
        record {
          ordered = b.ordered;
          line = b.is_across.through.piece;
          together = run_together b.is_seam e d b.is_across.through b.is_other_across.through;
          upper_side = flipped r.flip b.upper_side;
          first = b.first;
          second = b.second;
          join = subst (λ o. HasSides K sheet IsJoin b.is_across.through.piece (flipped r.flip b.upper_side) o e b.first b.second) (flipped_reverse r.flip b.upper_side) (lined b.is_across.through.piece r b.is_across);
          other_first = b.other_first;
          other_second = b.other_second;
          other_join = subst (λ o. HasSides K sheet IsJoin b.is_across.through.piece (flipped r.flip b.upper_side) o d b.other_first b.other_second) (flipped_reverse r.flip b.upper_side) (lined b.is_across.through.piece r b.is_other_across);
          changes = b.changes;
        }

    pub is_listed : (c : Crossing) → Occurs K sheet above c → IsListed K sheet above c
    is_listed (Cycle f g h) b = cycle_listed K sheet above f g h b
    is_listed (Through e strand) b = through_listed e strand b
    is_listed (Creases e d) b = creases_listed e d b
    is_listed (Joined e strand) b = joined_listed e strand b
    is_listed (Letter e) b = record { first = b.first; second = b.second; faces = b.faces; misfit = b.misfit }

    -- face-wise equals pointwise
    pub listed_where_occurs : (c : Crossing) → IsListed K sheet above c ↔ Occurs K sheet above c
    listed_where_occurs c = (occurs c, is_listed c)
