-- The two faces of a crease or a join place it as one piece, in opposite directions.
use Rattle.std.proofs.Common.{◌≡◌, ◌∙◌, ap, sym, subst, ℕ, ℤ, List, [], ◌∷◌, ◌++◌, ◌<◌, ◌+◌, length, Some, None, Option, Bool, true, false, inl, inr, ◌⊎◌, arith, add-one}
use Rattle.std.specs.Prelude.{slice_get, not, if◌then◌else◌}
use Rattle.std.specs.Option.{option_map}
use Rattle.std.proofs.lemmas.Bool.{cases_lt}
use Rattle.std.proofs.lemmas.Option.{slice_get-map}
use Rattle.algebra.specs.LowestTerms.{Parts}
use Rattle.algebra.specs.OrderedField.{OrderedField}
use Rattle.algebra.specs.OrderedRing.{OrderedRing}
use Rattle.algebra.specs.Surd.{Surd}
use Rattle.algebra.specs.WholeSurds.{SurdNumbers}
use Rattle.fold_base.specs.declared.letter.Letter.{Letter}
use Rattle.fold_base.specs.declared.letter.Letter.TheVariants.{Border, Mountain, Valley, Flat, Unassigned, Cut, Join}
use Rattle.plane.specs.declared.point.Point.{Point}
use Rattle.scaled_plane.specs.declared.drawing.Edge.{Edge}
use Rattle.scaled_plane.specs.declared.drawing.Face.{Face}
use Rattle.scaled_plane.specs.declared.point.Pair.{Pair}
use Rattle.scaled_plane.specs.Pieces.{point_at}
use Rattle.scaled_plane.specs.Walks.{pieces_round}
use Rattle.flat_fold.specs.declared.sides.Side.{Side}
use Rattle.flat_fold.specs.EdgeSides.{Begins, HasSides, IsSide, sides_at}
use Rattle.flat_fold.specs.Faces.{IsPassable, Leads, corners_at, edge_at}
use Rattle.flat_fold.specs.Folded.{IsFolded, Layout}
use Rattle.flat_fold.specs.Folding.{Agree, is_crease}
use Rattle.flat_fold.specs.Images.{IsNumberOf, corner_at, map_at, place_by}
use Rattle.flat_fold.specs.Sheets.{FormSheet}
use Rattle.flat_fold.proofs.ConvexFaces.{points_round}
use Rattle.flat_fold.proofs.EdgeLaws.{corner-next, maps-agree}
use Rattle.flat_fold.proofs.OneFolding.{one-number}
use Rattle.flat_fold.proofs.SheetLaws.{foldable-sheet}
use Rattle.flat_fold.proofs.SideLaws.{begins-along, begins-corner, begins-first, piece-comes_back, piece-goes_on}
use Rattle.layers.specs.Folded.{MeetThere}
use Rattle.layers.specs.Pieces.{Piece, reversed}
use Rattle.layers.specs.Sheets.{FaceSide, FoldedEdge, FoldedFace, HasFaces, HasPiece, IsCrease, IsJoin}
use Rattle.folded_layers.specs.Sheets.{folded_edge, folded_face, folded_sheet, side_there}
use Rattle.folded_layers.proofs.Listed.{edge_is, edge_within, face_is, face_there, turned_is}

abbrev pair : ℕ → ℕ → ℕ × ℕ
pair i j = (i, j)

-- ---- letters

is_passable : (letter : Letter) → IsCrease letter ⊎ IsJoin letter → IsPassable letter
is_passable Border (inl h) = h
is_passable Border (inr h) = h
is_passable Cut (inl h) = h
is_passable Cut (inr h) = h
is_passable Mountain h = tt
is_passable Valley h = tt
is_passable Flat h = tt
is_passable Unassigned h = tt
is_passable Join h = tt

other_turn : (m n : Bool) → n ≡ not m → m ≡ n → ⊥
other_turn true n e same = cc
other_turn false n e same = cc

turned_apart : (letter : Letter) (m n : Bool) → n ≡ (if is_crease letter then not m else m) → IsCrease letter → ¬ (m ≡ n)
turned_apart Border m n e h = λ same. h
turned_apart Cut m n e h = λ same. h
turned_apart Flat m n e h = λ same. h
turned_apart Join m n e h = λ same. h
turned_apart Mountain m n e h = other_turn m n e
turned_apart Valley m n e h = other_turn m n e
turned_apart Unassigned m n e h = other_turn m n e

turned_alike : (letter : Letter) (m n : Bool) → n ≡ (if is_crease letter then not m else m) → IsJoin letter → m ≡ n
turned_alike Border m n e h = absurd h
turned_alike Cut m n e h = absurd h
turned_alike Mountain m n e h = absurd h
turned_alike Valley m n e h = absurd h
turned_alike Unassigned m n e h = absurd h
turned_alike Flat m n e h = sym e
turned_alike Join m n e h = sym e

-- ---- both sides of an edge

module _ (faces : List Face) where
  both_begin : (u v : ℕ) (l r : Option Side) (x y : FaceSide) → IsSide faces u v l → IsSide faces v u r → side_there l ++ side_there r ≡ x ∷ y ∷ []
      → Begins faces x.face x.corner u v × Begins faces y.face y.corner v u
  both_begin u v None None x y a b e = absurd (cc)
  both_begin u v None (Some r) x y a b e = absurd (cc)
  both_begin u v (Some l) None x y a b e = absurd (cc)
  both_begin u v (Some l) (Some r) x y a b e =
      let first : record { face = l.face; corner = l.corner } ≡ x = cc in
      let second : record { face = r.face; corner = r.corner } ≡ y = cc in
      (subst (λ (s : FaceSide). Begins faces s.face s.corner u v) first a, subst (λ (s : FaceSide). Begins faces s.face s.corner v u) second b)

-- ---- where a face lays a directed piece

module _ {N : Type 0} {parts : N → Parts} {W : Type 0} {k : ℕ} {surd : W → Surd ℤ} {numbers : SurdNumbers k surd} (F : OrderedField N) (layout : Layout N W)
    (form : FormSheet parts numbers layout.sheet.ends layout.sheet.faces) (folded : IsFolded parts F numbers layout) where
  abbrev K : OrderedRing W
  K = numbers.ring

  abbrev edges : List Edge
  edges = layout.sheet.ends.edges

  abbrev faces : List Face
  faces = layout.sheet.faces

  abbrev image : ℕ → Point W
  image i = point_at K layout.scaled.points i

  abbrev laid_at : ℕ → ℕ → Pair N
  laid_at f v = place_by F layout.sheet.ends.coords faces layout.maps f v

  abbrev IsImageOf : ℕ → ℕ → Pair N → Type 0
  IsImageOf i v a = IsNumberOf F layout.origins layout.images i v a

  -- the face f lays the directed piece from u to v, which begins at its corner c, from the image first to the image second
  record IsLaid (f c u v : ℕ) : Type 0 where
    first : ℕ
    second : ℕ
    from : IsImageOf first u (laid_at f u)
    to : IsImageOf second v (laid_at f v)
    piece : slice_get (pieces_round (corners_at layout.corners f)) c ≡ Some (first, second)

  laid : (f c u v : ℕ) → Begins faces f c u v → IsLaid f c u v
  laid f c u v b =
      let within : c < length (corners_at faces f) = begins-corner faces f c u v b in
      let long : length (corners_at layout.corners f) ≡ length (corners_at faces f) = folded.corners_are.all_corners f in
      let next = corner-next (corners_at faces f) c u v b.piece in
      let here : IsImageOf (corner_at layout.corners f c) u (laid_at f u)
      = subst (λ (w : ℕ). IsImageOf (corner_at layout.corners f c) w (laid_at f w)) (begins-first faces f c u v 0 b) (folded.corners_are.each f c b.is_face within) in
      elim (cases_lt (c + 1) (length (corners_at faces f))) [
        | inl more ↦ (
            let second : corner_at faces f (c + 1) ≡ v = ap (λ (j : ℕ). corner_at faces f j) (add-one c) ∙ next.0 (omega (arith, more)) in
            record {
              first = corner_at layout.corners f c;
              second = corner_at layout.corners f (c + 1);
              from = here;
              to = subst (λ (w : ℕ). IsImageOf (corner_at layout.corners f (c + 1)) w (laid_at f w)) second (folded.corners_are.each f (c + 1) b.is_face more);
              piece = piece-goes_on (corners_at layout.corners f) c 0 0 (omega (arith, more, long));
            })
        | inr last ↦ (
            let second : corner_at faces f 0 ≡ v = next.1 (omega (arith, last, within)) in
            record {
              first = corner_at layout.corners f c;
              second = corner_at layout.corners f 0;
              from = here;
              to = subst (λ (w : ℕ). IsImageOf (corner_at layout.corners f 0) w (laid_at f w)) second (folded.corners_are.each f 0 b.is_face (omega (arith, within)));
              piece = piece-comes_back (corners_at layout.corners f) c 0 0 (omega (arith, within, long)) (omega (arith, last, long));
            })
      ]

  abbrev piece_of : ℕ → ℕ → Piece W
  piece_of i j = record { from = image i; to = image j }

  -- a directed piece of the face as its layers see it
  has_piece : (f c i j : ℕ) → f < length faces → slice_get (pieces_round (corners_at layout.corners f)) c ≡ Some (i, j) → HasPiece K (folded_sheet K layout) f c (piece_of i j)
  has_piece f c i j l is = record {
    face = folded_face K layout f;
    is_face = face_there K layout f l;
    is_piece =
        ap (λ (ps : List (Piece W)). slice_get ps c) (points_round image (corners_at layout.corners f))
        ∙ slice_get-map (λ (p : ℕ × ℕ). piece_of p.0 p.1) (pieces_round (corners_at layout.corners f)) c
        ∙ ap (λ (o : Option (ℕ × ℕ)). option_map (λ (p : ℕ × ℕ). piece_of p.0 p.1) o) is;
  }

  -- where a face is turned, its map is
  turned_by : {f c : ℕ} {s : Piece W} (h : HasPiece K (folded_sheet K layout) f c s) → h.face.turned ≡ (map_at F layout.maps f).turned
  turned_by {f} h = ap (λ (x : FoldedFace W). x.turned) (face_is K layout f h.face h.is_face) ∙ turned_is F layout.maps f

  -- ---- the two faces of an edge

  -- f and g lay the piece from u to v alike, which begins at the corner c of f, and backwards at the corner d of g
  module _ (f g c d u v : ℕ) (there : Begins faces f c u v) (back : Begins faces g d v u) (first : laid_at f u ≡ laid_at g u) (second : laid_at f v ≡ laid_at g v) where
    one_image : (laid f c u v there).first ≡ (laid g d v u back).second
    one_image =
        let here = laid f c u v there in
        let other = laid g d v u back in
        one-number F layout.sheet.ends.coords faces layout.maps layout.origins layout.images folded.folding.images_are here.first other.second u (laid_at g u)
        (subst (λ (a : Pair N). IsImageOf here.first u a) first here.from) other.to

    other_image : (laid f c u v there).second ≡ (laid g d v u back).first
    other_image =
        let here = laid f c u v there in
        let other = laid g d v u back in
        one-number F layout.sheet.ends.coords faces layout.maps layout.origins layout.images folded.folding.images_are here.second other.first v (laid_at g v)
        (subst (λ (a : Pair N). IsImageOf here.second v a) second here.to) other.from

    in_first : HasPiece K (folded_sheet K layout) f c (piece_of (laid f c u v there).first (laid f c u v there).second)
    in_first = has_piece f c (laid f c u v there).first (laid f c u v there).second there.is_face (laid f c u v there).piece

    in_second : HasPiece K (folded_sheet K layout) g d (reversed (piece_of (laid f c u v there).first (laid f c u v there).second))
    in_second =
        let same : pair (laid g d v u back).first (laid g d v u back).second ≡ pair (laid f c u v there).second (laid f c u v there).first = λ n. (sym other_image n, sym one_image n) in
        has_piece g d (laid f c u v there).second (laid f c u v there).first back.is_face ((laid g d v u back).piece ∙ ap Some same)

  meet_at : (e f g : ℕ) (there : HasFaces K (folded_sheet K layout) e f g) → (u v : ℕ) → Begins faces f there.first u v → Begins faces g there.second v u
      → laid_at f u ≡ laid_at g u → laid_at f v ≡ laid_at g v
      → (map_at F layout.maps g).turned ≡ (if is_crease there.edge.letter then not (map_at F layout.maps f).turned else (map_at F layout.maps f).turned)
      → MeetThere K (folded_sheet K layout) there
  meet_at e f g at u v there back first second turned =
      let in_f = in_first f g at.first at.second u v there back first second in
      let in_g = in_second f g at.first at.second u v there back first second in
      record {
        piece = piece_of (laid f at.first u v there).first (laid f at.first u v there).second;
        in_first = in_f;
        in_second = in_g;
        turned_at_crease = λ crease same. turned_apart at.edge.letter (map_at F layout.maps f).turned (map_at F layout.maps g).turned turned crease (sym (turned_by in_f) ∙ same ∙ turned_by in_g);
        alike_at_join = λ join. turned_by in_f ∙ turned_alike at.edge.letter (map_at F layout.maps f).turned (map_at F layout.maps g).turned turned join ∙ sym (turned_by in_g);
      }

  -- the two faces of a crease or a join meet at it
  pub edges-meet : (e f g : ℕ) (there : HasFaces K (folded_sheet K layout) e f g) → IsCrease there.edge.letter ⊎ IsJoin there.edge.letter → MeetThere K (folded_sheet K layout) there
  edges-meet e f g there letter = elim there.either [ inl is ↦ forth is | inr is ↦ back is ]
    where
      within : e < length edges
      within = edge_within K layout e there.edge there.is

      same : there.edge ≡ folded_edge K layout e
      same = edge_is K layout e there.edge there.is

      has : HasSides faces (edge_at edges e) (sides_at layout.sides e)
      has = folded.sides_are.each e within

      passable : IsPassable (edge_at edges e).letter
      passable = subst (λ (x : FoldedEdge). IsPassable x.letter) same (is_passable there.edge.letter letter)

      agree : Leads edges faces e f g → Agree F layout.sheet.ends.coords (edge_at edges e) (map_at F layout.maps f) (map_at F layout.maps g)
      agree l = maps-agree F layout.sheet.ends.coords edges faces (foldable-sheet layout.sheet.ends faces form F) layout.maps folded.folding.maps_are e f g l

      turn_of : Leads edges faces e f g → (map_at F layout.maps g).turned ≡ (if is_crease there.edge.letter then not (map_at F layout.maps f).turned else (map_at F layout.maps f).turned)
      turn_of l = (agree l).turned ∙ ap (λ (x : FoldedEdge). if is_crease x.letter then not (map_at F layout.maps f).turned else (map_at F layout.maps f).turned) (sym same)

      are : (x y : FaceSide) → there.edge.sides ≡ x ∷ y ∷ [] → Begins faces x.face x.corner (edge_at edges e).from (edge_at edges e).to × Begins faces y.face y.corner (edge_at edges e).to (edge_at edges e).from
      are x y is = both_begin faces (edge_at edges e).from (edge_at edges e).to (sides_at layout.sides e).left (sides_at layout.sides e).right x y has.left has.right
          (sym (ap (λ (z : FoldedEdge). z.sides) same) ∙ is)

      forth : there.edge.sides ≡ record { face = f; corner = there.first } ∷ record { face = g; corner = there.second } ∷ [] → MeetThere K (folded_sheet K layout) there
      forth is =
          let both = are (record { face = f; corner = there.first }) (record { face = g; corner = there.second }) is in
          let leads : Leads edges faces e f g = record {
            is_edge = within;
            passable = passable;
            between = inl (begins-along faces edges f there.first (edge_at edges e).from (edge_at edges e).to both.0, begins-along faces edges g there.second (edge_at edges e).to (edge_at edges e).from both.1);
          } in
          meet_at e f g there (edge_at edges e).from (edge_at edges e).to both.0 both.1 (agree leads).from (agree leads).to (turn_of leads)

      back : there.edge.sides ≡ record { face = g; corner = there.second } ∷ record { face = f; corner = there.first } ∷ [] → MeetThere K (folded_sheet K layout) there
      back is =
          let both = are (record { face = g; corner = there.second }) (record { face = f; corner = there.first }) is in
          let leads : Leads edges faces e f g = record {
            is_edge = within;
            passable = passable;
            between = inr (begins-along faces edges f there.first (edge_at edges e).to (edge_at edges e).from both.1, begins-along faces edges g there.second (edge_at edges e).from (edge_at edges e).to both.0);
          } in
          meet_at e f g there (edge_at edges e).to (edge_at edges e).from both.1 both.0 (agree leads).to (agree leads).from (turn_of leads)
