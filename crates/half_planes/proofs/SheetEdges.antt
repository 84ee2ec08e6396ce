-- Edges of a sheet by their places, the piece as which an edge lies, and what edges and faces have
-- in common.
use Rattle.std.proofs.Common.{◌≡◌, ◌∙◌, ap, sym, subst, refl, ◌⊎◌, inl, inr, ℕ, ◌+◌, ◌<◌, List, [], ◌∷◌, length, slice_get, Option, Some, None, ◌↔◌}
use Rattle.std.specs.Prelude.{Contains}
use Rattle.std.proofs.lemmas.Option.{slice_get-get_or, get_or_from_slice_get}
use Rattle.fold_base.specs.declared.letter.Letter.{Letter}
use Rattle.fold_base.specs.declared.letter.Letter.TheVariants.{Border, Mountain, Valley, Flat, Unassigned, Cut, Join}
use Rattle.algebra.specs.OrderedRing.{OrderedRing}
use Rattle.plane.specs.declared.point.Point.{Point}
use Rattle.plane.specs.Points.{IsSamePoint}
use Rattle.plane.specs.Segments.{IsOn}
use Rattle.plane.proofs.Lines.{flat_of_same}
use Rattle.plane.proofs.Signs.{zero_sign}
use Rattle.plane.proofs.Members.{in_cons, in_head, in_nil}
use Rattle.plane.proofs.OnSegments.{on_turned, between_turned}
use Rattle.layers.specs.Pieces.{Piece, pieces_round, reversed, IsOnPiece, IsInMiddle}
use Rattle.layers.specs.Sheets.{FoldedEdge, FoldedSheet, FaceSide as NumberedSide, HasPiece, HasFaces, IsImage, IsCrease, IsJoin}
use Rattle.layers.specs.Folded.{IsConvex, IsFolded, MeetThere}
use Rattle.layers.specs.Listing.{EdgeEnters, RunTogether}
use Rattle.layers.proofs.Faces.{inner_not_equal}
use Rattle.layers.proofs.Places.{at_place}
use Rattle.layers.proofs.Sides.{ImageOf, image_of, same_piece, piece_ends}
use Rattle.half_planes.specs.declared.sheet.FaceSide.{FaceSide}
use Rattle.half_planes.specs.declared.sheet.EdgeSides.{EdgeSides}
use Rattle.half_planes.specs.Faces.{EntersFace, RunTogether as SegmentsRunTogether}
use Rattle.half_planes.specs.Views.{face_at, edge_at, numbered, with_second, side_list, AreSided, LiesAs}
use Rattle.half_planes.proofs.Borders.{round_at}
use Rattle.half_planes.proofs.SheetFaces.{face_is, inside_at, inside_of}

pub first_of : (first : NumberedSide) (second : Option FaceSide) → Contains (with_second first second) first
first_of first None = in_head first []
first_of first (Some second) = in_head first (numbered second ∷ [])

-- a letter of an edge between two faces
meeting_letter : (l : Letter) → ¬ (l ≡ Cut) → ¬ (l ≡ Border) → IsCrease l ⊎ IsJoin l
meeting_letter Border uncut inner = absurd (inner refl)
meeting_letter Mountain uncut inner = inl tt
meeting_letter Valley uncut inner = inl tt
meeting_letter Flat uncut inner = inr tt
meeting_letter Unassigned uncut inner = inl tt
meeting_letter Join uncut inner = inr tt
meeting_letter Cut uncut inner = absurd (uncut refl)

module _ {A : Type 0} (sheet : FoldedSheet A) where
  pub edge_is : (e : ℕ) → e < length sheet.edges → slice_get sheet.edges e ≡ Some (edge_at sheet e)
  edge_is e within = slice_get-get_or sheet.edges e (record { letter = Border; sides = [] }) within

  pub is_edge : (e : ℕ) (edge : FoldedEdge) → slice_get sheet.edges e ≡ Some edge → edge_at sheet e ≡ edge
  is_edge e edge read = get_or_from_slice_get sheet.edges e edge (record { letter = Border; sides = [] }) read

module _ {A : Type 0} (K : OrderedRing A) (sheet : FoldedSheet A) where
  -- the piece of a face between two of its corners
  pub piece_at : (f k j : ℕ) (a b : Point A) → f < length sheet.faces → slice_get (face_at sheet f).corners k ≡ Some a → slice_get (face_at sheet f).corners j ≡ Some b
      → (k + 1 ≡ length (face_at sheet f).corners → j ≡ 0) → (k + 1 < length (face_at sheet f).corners → j ≡ k + 1) → HasPiece K sheet f k (record { from = a; to = b })
  piece_at f k j a b within read_a read_b last other =
      record { face = face_at sheet f; is_face = face_is sheet f within; is_piece = round_at (face_at sheet f).corners k j a b read_a read_b last other }

  pub convex_at : IsFolded K sheet → (f : ℕ) → f < length sheet.faces → IsConvex K (face_at sheet f)
  convex_at folded f within = folded.convex (face_at sheet f) (at_place sheet.faces f (face_at sheet f) (face_is sheet f within))

  -- a piece of a convex face has two ends
  pub two_ends : IsFolded K sheet → (f k : ℕ) (s : Piece A) → HasPiece K sheet f k s → ¬ IsSamePoint K s.from s.to
  two_ends folded f k s h same =
      let convex = folded.convex h.face (at_place sheet.faces f h.face h.is_face) in
      let ends = piece_ends h.face.corners k s h.is_piece in
      let c = convex.solid s (at_place (pieces_round h.face.corners) k s h.is_piece) in
      inner_not_equal h.face.turned (sym c.2 ∙ zero_sign K _ (flat_of_same K s.from s.to c.0 (convex.points s.from ends.from_in) same))

  module _ (folded : IsFolded K sheet) (sided : AreSided sheet) (e : ℕ) (within : e < length sheet.edges) (uncut : ¬ ((edge_at sheet e).letter ≡ Cut))
      (sides : EdgeSides) (are : (edge_at sheet e).sides ≡ side_list sides) where
    first_in : Contains (edge_at sheet e).sides (numbered sides.first)
    first_in = subst (λ (xs : List NumberedSide). Contains xs (numbered sides.first)) (sym are) (first_of (numbered sides.first) sides.second)

    pub first_face : sides.first.face < length sheet.faces
    first_face = sided.has_face e (numbered sides.first) within first_in

    pub first_corner : sides.first.corner < length (face_at sheet sides.first.face).corners
    first_corner = sided.has_corner e (numbered sides.first) within first_in

    module _ (s : Piece A) (piece : HasPiece K sheet sides.first.face sides.first.corner s) where
      first_image : IsImage K sheet e sides.first.face s
      first_image = record { edge = edge_at sheet e; is = edge_is sheet e within; corner = sides.first.corner; of_edge = first_in; of_face = piece }

      -- another image by the same side
      by_side : (f : ℕ) (t : Piece A) (i : IsImage K sheet e f t) → numbered sides.first ≡ record { face = f; corner = i.corner } → t ≡ s
      by_side f t i same =
          let face : f ≡ sides.first.face = sym (ap (λ (x : NumberedSide). x.face) same) in
          let corner : i.corner ≡ sides.first.corner = sym (ap (λ (x : NumberedSide). x.corner) same) in
          same_piece K sheet (subst (λ k. HasPiece K sheet sides.first.face k t) corner (subst (λ g. HasPiece K sheet g i.corner t) face i.of_face)) piece

      in_sides : (f : ℕ) (t : Piece A) (i : IsImage K sheet e f t) → Contains (side_list sides) (record { face = f; corner = i.corner })
      in_sides f t i =
          subst (λ (xs : List NumberedSide). Contains xs (record { face = f; corner = i.corner })) are
          (subst (λ (x : FoldedEdge). Contains x.sides (record { face = f; corner = i.corner })) (sym (is_edge sheet e i.edge i.is)) i.of_edge)

      meets : (second : FaceSide) → sides.second ≡ Some second → (f : ℕ) (t : Piece A) → IsImage K sheet e f t → (t ≡ s) ⊎ (t ≡ reversed s)
      meets second is f t i = told (image_of K sheet faces there f t i)
        where
          two : (edge_at sheet e).sides ≡ numbered sides.first ∷ numbered second ∷ []
          two = are ∙ ap (with_second (numbered sides.first)) is

          inner : ¬ ((edge_at sheet e).letter ≡ Border)
          inner border = let one = sym (ap length two) ∙ sided.one_at_border e within border in cc

          faces : HasFaces K sheet e sides.first.face second.face
          faces = record { edge = edge_at sheet e; is = edge_is sheet e within; first = sides.first.corner; second = second.corner; either = inl two }

          there : MeetThere K sheet faces
          there = folded.meet e sides.first.face second.face faces (meeting_letter (edge_at sheet e).letter uncut inner)

          first_is : s ≡ there.piece
          first_is = same_piece K sheet piece there.in_first

          told : ImageOf K sheet faces there f t → (t ≡ s) ⊎ (t ≡ reversed s)
          told (ImageOf.by_first same is) = inl (is ∙ sym first_is)
          told (ImageOf.by_second same is) = inr (is ∙ ap reversed (sym first_is))

      alike : (f : ℕ) (t : Piece A) → IsImage K sheet e f t → (t ≡ s) ⊎ (t ≡ reversed s)
      alike f t i = by sides.second refl
        where
          by : (second : Option FaceSide) → sides.second ≡ second → (t ≡ s) ⊎ (t ≡ reversed s)
          by None none =
              let only = subst (λ (o : Option FaceSide). Contains (with_second (numbered sides.first) o) (record { face = f; corner = i.corner })) none (in_sides f t i) in
              elim (in_cons (numbered sides.first) [] (record { face = f; corner = i.corner }) only) [ inl same ↦ inl (by_side f t i same) | inr more ↦ absurd (in_nil (record { face = f; corner = i.corner }) more) ]
          by (Some second) some = meets second some f t i

      pub first_lies : LiesAs K sheet e s
      first_lies = record { face = sides.first.face; image = first_image; alike = alike }

  -- ---- edges that lie as one piece

  -- what is told of some image of an edge is told of the piece as which it lies, if it's told of a
  -- piece and of its reverse alike
  as_piece : {P : Piece A → Type 0} → (e : ℕ) (s : Piece A) → LiesAs K sheet e s → ((t : Piece A) → P (reversed t) → P t) → (f : ℕ) (t : Piece A) → IsImage K sheet e f t → P t → P s
  as_piece {P} e s lies turned f t i p = elim (lies.alike f t i) [ inl same ↦ subst P same p | inr back ↦ turned s (subst P back p) ]

  pub enters : (e f : ℕ) (a b : Point A) → LiesAs K sheet e (record { from = a; to = b }) → f < length sheet.faces → (EntersFace K a b (face_at sheet f) ↔ EdgeEnters K sheet e f)
  enters e f a b lies within = (
    λ h. record { face = lies.face; piece = record { from = a; to = b }; image = lies.image; point = h.0; is_point = h.1; in_middle = h.2; in_face = inside_of K sheet f within h.0 h.3 },
    λ h. (
      h.point,
      h.is_point,
      as_piece {P = λ t. IsInMiddle K t h.point} e (record { from = a; to = b }) lies (λ t m. between_turned K m) h.face h.piece h.image h.in_middle,
      inside_at K sheet f h.point h.in_face,
    ),
  )

  pub together : (e d : ℕ) (a b x y : Point A) → LiesAs K sheet e (record { from = a; to = b }) → LiesAs K sheet d (record { from = x; to = y })
      → (SegmentsRunTogether K a b x y ↔ RunTogether K sheet e d)
  together e d a b x y first second = (
    λ h. record {
      line = record { from = a; to = b };
      together = record {
        face = first.face;
        image = first.image;
        other_face = second.face;
        other = record { from = x; to = y };
        other_image = second.image;
        start = h.0;
        end = h.1;
        start_is_point = h.2.0;
        end_is_point = h.3.0;
        start_on = h.2.1;
        end_on = h.3.1;
        start_on_other = h.2.2;
        end_on_other = h.3.2;
        different = h.4;
      };
    },
    λ h. let r = h.together in
        let on : (q : Point A) → IsOnPiece K h.line q → IsOn K a b q = λ q o. as_piece {P = λ t. IsOnPiece K t q} e (record { from = a; to = b }) first (λ t m. on_turned K m) r.face h.line r.image o in
        let on_other : (q : Point A) → IsOnPiece K r.other q → IsOn K x y q = λ q o. as_piece {P = λ t. IsOnPiece K t q} d (record { from = x; to = y }) second (λ t m. on_turned K m) r.other_face r.other r.other_image o in (
          r.start,
          r.end,
          (r.start_is_point, on r.start r.start_on, on_other r.start r.start_on_other),
          (r.end_is_point, on r.end r.end_on, on_other r.end r.end_on_other),
          r.different,
        ),
  )
