-- The faces of a folded sheet are convex, and no two directed pieces of one share a point between their ends: as in the sheet,
-- since a map keeps the sides of corners, or exchanges them all, and keeps sums of multiples.
use Rattle.std.proofs.Common.{◌≡◌, ◌∙◌, ap, sym, refl, subst, ℕ, ℤ, List, ◌<◌, ◌+◌, length, map, Some, false, pos, arith}
use Rattle.std.specs.Prelude.{slice_get, slice_index_or}
use Rattle.std.specs.List.{Contains, range_with_len}
use Rattle.std.specs.Option.{option_map}
use Rattle.std.specs.declared.cmp.Ordering.TheVariants.{Greater}
use Rattle.std.proofs.lemmas.List.{map-id}
use Rattle.std.proofs.lemmas.List.FromFn.{get_or-range_with_len, length-range_with_len}
use Rattle.std.proofs.lemmas.Option.{slice_get-map}
use Rattle.algebra.specs.LowestTerms.{Parts}
use Rattle.algebra.specs.OrderedField.{OrderedField}
use Rattle.algebra.specs.OrderedRing.{OrderedRing}
use Rattle.algebra.specs.Surd.{Surd}
use Rattle.algebra.specs.WholeSurds.{SurdNumbers}
use Rattle.plane.specs.declared.point.Point.{Point}
use Rattle.plane.specs.Lines.{side}
use Rattle.plane.specs.Points.{IsPoint, combination, origin}
use Rattle.plane.specs.Segments.{IsBetween}
use Rattle.plane.proofs.OnSegments.{point_between}
use Rattle.plane.proofs.Signs.{positive_product}
use Rattle.scaled_plane.specs.declared.drawing.Face.{Face}
use Rattle.scaled_plane.specs.declared.point.Pair.{Pair}
use Rattle.scaled_plane.specs.Pieces.{point_at}
use Rattle.scaled_plane.specs.Walks.{pieces_round}
use Rattle.flat_fold.specs.declared.motion.Motion.{Motion}
use Rattle.flat_fold.specs.Faces.{corners_at}
use Rattle.flat_fold.specs.Folded.{IsFolded, Layout}
use Rattle.flat_fold.specs.Folding.{point}
use Rattle.flat_fold.specs.Images.{corner_at, map_at}
use Rattle.flat_fold.specs.Motions.{IsIsometry, place}
use Rattle.flat_fold.specs.Sheets.{FormSheet}
use Rattle.flat_fold.proofs.ConvexFaces.{convex-face, points_round}
use Rattle.flat_fold.proofs.EdgePlaces.{side-corners}
use Rattle.flat_fold.proofs.FoldedLaws.{scaled-at}
use Rattle.flat_fold.proofs.SheetLaws.{corners-in_range, long}
use Rattle.flat_fold.proofs.SheetPlane.{vertex-point}
use Rattle.layers.specs.Folded.{IsConvex}
use Rattle.layers.specs.Pieces.{IsInMiddle, Piece, pieces_round as point_pieces_round}
use Rattle.layers.specs.Sheets.{FoldedFace}
use Rattle.layers.proofs.Places.{at_place, stands_at}
use Rattle.folded_layers.specs.Sheets.{folded_face, folded_sheet}
use Rattle.folded_layers.proofs.Balances.{AreBalanced, balanced_by, other_between, sum_between}
use Rattle.folded_layers.proofs.ByPlaces.{both_by, by_places, mapped_at, pieces_named}
use Rattle.folded_layers.proofs.ConvexSeen.{convex_seen}
use Rattle.folded_layers.proofs.Embeddings.{balanced_here, balanced_there, side_is, vector}
use Rattle.folded_layers.proofs.FaceFacts.{FacesLieWell}
use Rattle.folded_layers.proofs.Isometries.{map-isometry}
use Rattle.folded_layers.proofs.Listed.{face_is, face_within, turned_is}
use Rattle.folded_layers.proofs.Numbers.{AreNumbers, common-positive, embeds, number, vector-scaled}
use Rattle.folded_layers.proofs.Placed.{balanced_before, scaled_up, seen, sides_seen}
use Rattle.folded_layers.proofs.SheetPieces.{pieces-apart}

module _ {N : Type 0} {parts : N → Parts} {F : OrderedField N} {W : Type 0} {k : ℕ} {surd : W → Surd ℤ} {numbers : SurdNumbers k surd} (are : AreNumbers parts F numbers)
    (layout : Layout N W) (form : FormSheet parts numbers layout.sheet.ends layout.sheet.faces) (is : IsFolded parts F numbers layout) (f : ℕ) (f_in : f < length layout.sheet.faces) where
  abbrev K : OrderedRing W
  K = numbers.ring

  abbrev faces : List Face
  faces = layout.sheet.faces

  abbrev coords : List (Pair N)
  coords = layout.sheet.ends.coords

  -- how many corners the face has
  abbrev many : ℕ
  many = length (corners_at faces f)

  abbrev placing : Motion N
  placing = map_at F layout.maps f

  isometry : IsIsometry F placing
  isometry = map-isometry F layout.sheet.ends faces form layout.maps is.folding.maps_are f f_in

  -- a corner in the sheet, its place there, and the corner after folding
  abbrev unfolded : ℕ → Point W
  unfolded j = point_at K form.scaled.points (corner_at faces f j)

  abbrev spot : ℕ → Pair N
  spot j = point F coords (corner_at faces f j)

  abbrev folded : ℕ → Point W
  folded j = point_at K layout.scaled.points (corner_at layout.corners f j)

  abbrev c : N
  c = F.int (pos form.is_scaled.m)

  abbrev d : N
  d = F.int (pos is.scaled_is.m)

  abbrev as_vector : Point W → Point N
  as_vector = vector K F.ring (number parts F numbers are) (embeds parts F numbers are)

  abbrev as_number : W → N
  as_number = number parts F numbers are

  unfolded_is : (j : ℕ) → j < many → as_vector (unfolded j) ≡ scaled_up F c (spot j)
  unfolded_is j j_in = vector-scaled parts F numbers are coords form.scaled form.is_scaled (corner_at faces f j) (corners-in_range layout.sheet.ends faces form f j 0 f_in j_in)

  folded_is : (j : ℕ) → j < many → as_vector (folded j) ≡ scaled_up F d (place F placing (spot j))
  folded_is j j_in =
      let image = is.corners_are.each f j f_in j_in in
      vector-scaled parts F numbers are layout.images layout.scaled is.scaled_is (corner_at layout.corners f j) image.within ∙ ap (scaled_up F d) image.place

  c_positive : F.sign c ≡ Greater
  c_positive = common-positive parts F numbers are coords form.scaled form.is_scaled

  d_positive : F.sign d ≡ Greater
  d_positive = common-positive parts F numbers are layout.images layout.scaled is.scaled_is

  -- corners lie on the sides of pieces where they did, or on the other sides
  side_seen : (i j l : ℕ) → i < many → j < many → l < many → side K (folded i) (folded j) (folded l) ≡ seen placing.turned (side K (unfolded i) (unfolded j) (unfolded l))
  side_seen i j l i_in j_in l_in =
      side_is K F.ring (number parts F numbers are) (embeds parts F numbers are) (folded i) (folded j) (folded l)
      ∙ (λ t. side F.ring (folded_is i i_in t) (folded_is j j_in t) (folded_is l l_in t))
      ∙ sides_seen F placing isometry c d c_positive d_positive (spot i) (spot j) (spot l)
      ∙ ap (seen placing.turned) (
      (λ t. side F.ring (sym (unfolded_is i i_in) t) (sym (unfolded_is j j_in) t) (sym (unfolded_is l l_in) t))
      ∙ sym (side_is K F.ring (number parts F numbers are) (embeds parts F numbers are) (unfolded i) (unfolded j) (unfolded l))
      )

  -- ---- the corners by their places

  abbrev js : List ℕ
  js = range_with_len 0 many

  within : (j : ℕ) → Contains js j → j < many
  within j i =
      let long : length js ≡ many = length-range_with_len 0 many in
      let at : slice_index_or js i.0 j ≡ 0 + i.0 = get_or-range_with_len 0 many i.0 j (let l = i.1 in omega (arith, l, long)) in
      let l = i.1 in
      let is_j = i.2 in
      omega (arith, l, long, at, is_j)

  folded_corners : map folded js ≡ (folded_face K layout f).corners
  folded_corners = sym (by_places (point_at K layout.scaled.points) (corners_at layout.corners f) many (is.corners_are.all_corners f))

  unfolded_corners : map (point_at K form.scaled.points) (corners_at faces f) ≡ map unfolded js
  unfolded_corners = by_places (point_at K form.scaled.points) (corners_at faces f) many refl

  corner_vertex : (j : ℕ) → j < many → corner_at faces f j < length form.scaled.points
  corner_vertex j j_in =
      let vertex = corners-in_range layout.sheet.ends faces form f j 0 f_in j_in in
      let all : length form.scaled.points ≡ length coords = long layout.sheet.ends faces form in
      omega (arith, vertex, all)

  unfolded_point : (j : ℕ) → j < many → IsPoint K (unfolded j)
  unfolded_point j j_in = vertex-point layout.sheet.ends faces form (corner_at faces f j) (corner_vertex j j_in)

  folded_point : (j : ℕ) → j < many → IsPoint K (folded j)
  folded_point j j_in =
      let image = is.corners_are.each f j f_in j_in in
      ap K.sign (scaled-at parts F numbers layout.images layout.scaled is.scaled_is (corner_at layout.corners f j) (origin K.ops) image.within).w ∙ K.sign_int (pos 1)

  pub convex : IsConvex K (folded_face K layout f)
  convex =
      subst (λ (face : FoldedFace W). IsConvex K face) (λ n. record { corners = folded_corners n; turned = sym (turned_is F layout.maps f) n })
      (convex_seen K js unfolded folded placing.turned (λ j i. folded_point j (within j i)) (λ i j l i_in j_in l_in. side_seen i j l (within i i_in) (within j j_in) (within l l_in))
      (subst (λ (corners : List (Point W)). IsConvex K (record { corners = corners; turned = false })) unfolded_corners (convex-face layout.sheet.ends faces form f f_in)))

  -- ---- the pieces by their places

  corners_named : corners_at faces f ≡ map (corner_at faces f) js
  corners_named = sym (map-id (corners_at faces f)) ∙ by_places (λ (v : ℕ). v) (corners_at faces f) many refl

  piece_places : (n : ℕ) (s : Piece W) → slice_get (point_pieces_round (folded_face K layout f).corners) n ≡ Some s
      → (q : ℕ × ℕ) × (slice_get (pieces_round js) n ≡ Some q) × (record { from = folded q.0; to = folded q.1 } ≡ s)
  piece_places n s e =
      mapped_at (λ (q : ℕ × ℕ). record { from = folded q.0; to = folded q.1 }) (pieces_round js) n s
      (subst (λ (ps : List (Piece W)). slice_get ps n ≡ Some s) (points_round folded js)
      (subst (λ (corners : List (Point W)). slice_get (point_pieces_round corners) n ≡ Some s) (sym folded_corners) e))

  piece_named : (n : ℕ) (q : ℕ × ℕ) → slice_get (pieces_round js) n ≡ Some q → slice_get (pieces_round (corners_at faces f)) n ≡ Some (corner_at faces f q.0, corner_at faces f q.1)
  piece_named n q e =
      ap (λ (ps : List (ℕ × ℕ)). slice_get ps n) (ap pieces_round corners_named ∙ pieces_named (corner_at faces f) js)
      ∙ slice_get-map (both_by (corner_at faces f)) (pieces_round js) n ∙ ap (option_map (both_by (corner_at faces f))) e

  places_within : (n : ℕ) (q : ℕ × ℕ) → slice_get (pieces_round js) n ≡ Some q → (q.0 < many) × (q.1 < many)
  places_within n q e =
      let ends = side-corners js q.0 q.1 (at_place (pieces_round js) n q e) in
      (within q.0 ends.0, within q.1 ends.1)

  -- sums of multiples of corners that are one after folding are one in the sheet
  balanced_unfolded : (s t u v : W) (i i' j j' : ℕ) → i < many → i' < many → j < many → j' < many
      → AreBalanced K s t u v (folded i) (folded i') (folded j) (folded j') → AreBalanced K s t u v (unfolded i) (unfolded i') (unfolded j) (unfolded j')
  balanced_unfolded s t u v i i' j j' i_in i'_in j_in j'_in e =
      balanced_here K F.ring (number parts F numbers are) (embeds parts F numbers are) s t u v (unfolded i) (unfolded i') (unfolded j) (unfolded j')
      (subst (λ (z : Point N × Point N × Point N × Point N). AreBalanced F.ring (as_number s) (as_number t) (as_number u) (as_number v) z.0 z.1 z.2 z.3)
      (λ n. (sym (unfolded_is i i_in) n, sym (unfolded_is i' i'_in) n, sym (unfolded_is j j_in) n, sym (unfolded_is j' j'_in) n))
      (balanced_before F c d d_positive (as_number s) (as_number t) (as_number u) (as_number v) (spot i) (spot i') (spot j) (spot j') placing isometry
      (subst (λ (z : Point N × Point N × Point N × Point N). AreBalanced F.ring (as_number s) (as_number t) (as_number u) (as_number v) z.0 z.1 z.2 z.3)
      (λ n. (folded_is i i_in n, folded_is i' i'_in n, folded_is j j_in n, folded_is j' j'_in n))
      (balanced_there K F.ring (number parts F numbers are) (embeds parts F numbers are) s t u v (folded i) (folded i') (folded j) (folded j') e))))

  pub pieces_apart : (n l : ℕ) (s t : Piece W) (p : Point W) → slice_get (point_pieces_round (folded_face K layout f).corners) n ≡ Some s
      → slice_get (point_pieces_round (folded_face K layout f).corners) l ≡ Some t → IsInMiddle K s p → IsInMiddle K t p → n ≡ l
  pieces_apart n l s t p at_n at_l in_s in_t =
      let q = piece_places n s at_n in
      let r = piece_places l t at_l in
      let q_in = places_within n q.0 q.1 in
      let r_in = places_within l r.0 r.1 in
      let a : IsBetween K (folded q.0.0) (folded q.0.1) p = subst (λ (z : Piece W). IsBetween K z.from z.to p) (sym q.2) in_s in
      let b : IsBetween K (folded r.0.0) (folded r.0.1) p = subst (λ (z : Piece W). IsBetween K z.from z.to p) (sym r.2) in_t in
      let first : W = K.mul b.factor a.from_share in
      let second : W = K.mul b.factor a.to_share in
      let third : W = K.mul a.factor b.from_share in
      let fourth : W = K.mul a.factor b.to_share in
      let balanced = balanced_unfolded first second third fourth q.0.0 q.0.1 r.0.0 r.0.1 q_in.0 q_in.1 r_in.0 r_in.1
      (balanced_by K (folded q.0.0) (folded q.0.1) (folded r.0.0) (folded r.0.1) p a b) in
      let before : IsBetween K (unfolded q.0.0) (unfolded q.0.1) (combination K.ops first (unfolded q.0.0) second (unfolded q.0.1))
      = sum_between K first second (unfolded q.0.0) (unfolded q.0.1) (positive_product K b.factor a.from_share b.factor_positive a.from_positive) (positive_product K b.factor a.to_share b.factor_positive a.to_positive) in
      pieces-apart layout.sheet.ends faces form f f_in n l (corner_at faces f q.0.0) (corner_at faces f q.0.1) (corner_at faces f r.0.0) (corner_at faces f r.0.1)
      (combination K.ops first (unfolded q.0.0) second (unfolded q.0.1)) (piece_named n q.0 q.1) (piece_named l r.0 r.1)
      (point_between K (unfolded q.0.0) (unfolded q.0.1) (combination K.ops first (unfolded q.0.0) second (unfolded q.0.1)) (unfolded_point q.0.0 q_in.0) (unfolded_point q.0.1 q_in.1) before)
      before
      (other_between K first second third fourth (unfolded q.0.0) (unfolded q.0.1) (unfolded r.0.0) (unfolded r.0.1)
      (positive_product K a.factor b.from_share a.factor_positive b.from_positive) (positive_product K a.factor b.to_share a.factor_positive b.to_positive) balanced)

module _ {N : Type 0} {parts : N → Parts} {F : OrderedField N} {W : Type 0} {k : ℕ} {surd : W → Surd ℤ} {numbers : SurdNumbers k surd} (are : AreNumbers parts F numbers)
    (layout : Layout N W) (form : FormSheet parts numbers layout.sheet.ends layout.sheet.faces) (is : IsFolded parts F numbers layout) where
  pub faces-lie : FacesLieWell numbers.ring (folded_sheet numbers.ring layout)
  faces-lie = record {
    convex = λ face i.
        let at = stands_at (folded_sheet numbers.ring layout).faces face i in
        subst (λ (x : FoldedFace W). IsConvex numbers.ring x) (sym (face_is numbers.ring layout i.0 face at)) (convex are layout form is i.0 (face_within numbers.ring layout i.0 face at));
    pieces_apart = λ f n l s t p in_first in_second in_s in_t.
        let f_in = face_within numbers.ring layout f in_first.face in_first.is_face in
        pieces_apart are layout form is f f_in n l s t p
        (subst (λ (x : FoldedFace W). slice_get (point_pieces_round x.corners) n ≡ Some s) (face_is numbers.ring layout f in_first.face in_first.is_face) in_first.is_piece)
        (subst (λ (x : FoldedFace W). slice_get (point_pieces_round x.corners) l ≡ Some t) (face_is numbers.ring layout f in_second.face in_second.is_face) in_second.is_piece) in_s in_t;
  }
