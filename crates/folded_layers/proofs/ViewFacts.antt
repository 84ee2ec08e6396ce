-- What a view of a folded sheet may rely on: its faces, edges and corners are few, its corners are scaled points, and the sides of
-- its edges are directed pieces of faces, of which a border has one.
use Rattle.std.proofs.Common.{◌≡◌, ◌∙◌, ap, sym, refl, subst, ℕ, ℤ, List, [], ◌<◌, ◌^◌, length, map, Some, None, false, Option, inl, inr, arith}
use Rattle.std.specs.Prelude.{slice_get, slice_index_or}
use Rattle.std.specs.Option.{option_map}
use Rattle.std.specs.List.{All, Contains}
use Rattle.std.specs.Ordering.{ordering_reverse}
use Rattle.std.proofs.lemmas.List.{get_or_default, length-map}
use Rattle.std.proofs.lemmas.List.Elements.{All-from_get_or, All-map}
use Rattle.std.proofs.lemmas.List.FromFn.{length-map-range_with_len}
use Rattle.std.proofs.lemmas.Option.{get_or_from_slice_get, slice_get-get_or, slice_get-map}
use Rattle.algebra.specs.LowestTerms.{Parts}
use Rattle.algebra.specs.OrderedField.{OrderedField}
use Rattle.algebra.specs.OrderedRing.{OrderedRing}
use Rattle.algebra.specs.Surd.{Surd}
use Rattle.algebra.specs.WholeSurds.{SurdNumbers}
use Rattle.fold_base.specs.declared.letter.Letter.TheVariants.{Border}
use Rattle.plane.specs.declared.point.Point.{Point}
use Rattle.plane.specs.Points.{origin}
use Rattle.scaled_plane.specs.declared.drawing.Edge.{Edge}
use Rattle.scaled_plane.specs.declared.drawing.Ends.{Ends}
use Rattle.scaled_plane.specs.declared.drawing.Face.{Face}
use Rattle.scaled_plane.specs.declared.point.Pair.{Pair}
use Rattle.scaled_plane.specs.Drawn.{IsScaledPoint}
use Rattle.scaled_plane.specs.Pieces.{point_at}
use Rattle.scaled_plane.specs.Scaling.{IsScaledWith}
use Rattle.scaled_plane.specs.Walks.{pieces_round}
use Rattle.flat_fold.specs.declared.sides.Side.{Side}
use Rattle.flat_fold.specs.declared.sides.Sides.{Sides}
use Rattle.flat_fold.specs.EdgeSides.{HasSides, IsSide, sides_at}
use Rattle.flat_fold.specs.Faces.{LiesAlong, corners_at, edge_at}
use Rattle.flat_fold.specs.Folded.{IsFolded, Layout}
use Rattle.flat_fold.specs.Images.{corner_at, map_at, place_by}
use Rattle.flat_fold.specs.Sheets.{FormSheet, unfolded_face}
use Rattle.flat_fold.proofs.ConvexFaces.{convex-face, map_in, points_round}
use Rattle.flat_fold.proofs.FoldedLaws.{scaled-at}
use Rattle.flat_fold.proofs.SheetLaws.{face-has, few-corners, one_number}
use Rattle.flat_fold.proofs.SheetSides.{border-one_face, some-side}
use Rattle.flat_fold.proofs.SideLaws.{begins-along, begins-corner}
use Rattle.layers.specs.Folded.{IsConvex}
use Rattle.layers.specs.Pieces.{Piece, pieces_round as point_pieces}
use Rattle.layers.specs.Sheets.{FaceSide, FoldedEdge, FoldedFace, FoldedSheet}
use Rattle.layers.proofs.Sides.{side_reversed}
use Rattle.half_planes.specs.Views.{AreSided, face_at, edge_at as view_edge_at}
use Rattle.folded_layers.specs.Known.{HasLayers}
use Rattle.folded_layers.specs.Sheets.{folded_edge, folded_face, folded_sheet, sides_there}
use Rattle.folded_layers.proofs.Listed.{edge_there, face_there, turned_is}
use Rattle.folded_layers.proofs.SidesOnce.{Begun, side-begun}

-- ---- a border has one side

module _ {N : Type 0} {parts : N → Parts} {W : Type 0} {k : ℕ} {surd : W → Surd ℤ} {numbers : SurdNumbers k surd} (ends : Ends N) (faces : List Face)
    (form : FormSheet parts numbers ends faces) where
  abbrev K : OrderedRing W
  K = numbers.ring

  abbrev edges : List Edge
  edges = ends.edges

  abbrev position : ℕ → Point W
  position v = point_at K form.scaled.points v

  abbrev piece : ℕ → ℕ → Piece W
  piece u v = record { from = position u; to = position v }

  has_piece : (f u v : ℕ) → LiesAlong edges faces f u v → Contains (point_pieces (map position (corners_at faces f))) (piece u v)
  has_piece f u v a =
      subst (λ (ps : List (Piece W)). Contains ps (piece u v)) (sym (points_round position (corners_at faces f)))
      (map_in (λ (p : ℕ × ℕ). piece p.0 p.1) (pieces_round (corners_at faces f)) (u, v) a)

  -- a convex face doesn't have a directed piece and its reverse
  not_back : (f u v : ℕ) → f < length faces → LiesAlong edges faces f u v → LiesAlong edges faces f v u → ⊥
  not_back f u v l a b =
      let convex : IsConvex K (unfolded_face K form.scaled.points (corners_at faces f)) = convex-face ends faces form f l in
      let inner = convex.solid (piece u v) (has_piece f u v a) in
      convex.none_outside (piece v u) inner.0 (has_piece f v u b) inner.1 (side_reversed K (piece u v) inner.0 ∙ ap ordering_reverse inner.2)

  -- so an edge with the letter B isn't a side of faces twice
  pub border-one_side : (e : ℕ) → e < length edges → (edge_at edges e).letter ≡ Border → (sides : Sides) → HasSides faces (edge_at edges e) sides
      → ¬ ((sides.left ≡ None) × (sides.right ≡ None)) → length (sides_there sides) ≡ 1
  border-one_side e l letter sides has some = by sides.left sides.right has.left has.right some
    where
      by : (left right : Option Side) → IsSide faces (edge_at edges e).from (edge_at edges e).to left → IsSide faces (edge_at edges e).to (edge_at edges e).from right
          → ¬ ((left ≡ None) × (right ≡ None)) → length (sides_there (record { left = left; right = right })) ≡ 1
      by None None a b n = absurd (n (refl, refl))
      by (Some left) None a b n = refl
      by None (Some right) a b n = refl
      by (Some left) (Some right) a b n =
          let edge = edge_at edges e in
          let there = begins-along faces edges left.face left.corner edge.from edge.to a in
          let back = begins-along faces edges right.face right.corner edge.to edge.from b in
          let same : right.face ≡ left.face
          = border-one_face ends faces form e l letter right.face left.face
          (corners_at faces right.face, face-has faces right.face b.is_face, inr back) (corners_at faces left.face, face-has faces left.face a.is_face, inl there) in
          absurd (not_back left.face edge.from edge.to a.is_face there (subst (λ (f : ℕ). LiesAlong edges faces f edge.to edge.from) same back))

-- ---- faces and edges by their places

-- the corners of a face that is read of a list
pub corners-read : (faces read : List Face) (f : ℕ) (face : Face) → read ≡ faces → f < length faces → (slice_index_or read f face).corners ≡ corners_at faces f
corners-read faces read f face same l =
    ap (λ (xs : List Face). (slice_index_or xs f face).corners) same ∙ ap (λ (x : Face). x.corners) (get_or_default faces f face (record { corners = [] }) l)

module _ {N W : Type 0} (K : OrderedRing W) (layout : Layout N W) where
  pub faces-many : length (folded_sheet K layout).faces ≡ length layout.sheet.faces
  faces-many = length-map-range_with_len (folded_face K layout) 0 (length layout.sheet.faces)

  pub edges-many : length (folded_sheet K layout).edges ≡ length layout.sheet.ends.edges
  edges-many = length-map-range_with_len (folded_edge K layout) 0 (length layout.sheet.ends.edges)

  pub face-at : (f : ℕ) → f < length layout.sheet.faces → face_at (folded_sheet K layout) f ≡ folded_face K layout f
  face-at f l = get_or_from_slice_get (folded_sheet K layout).faces f (folded_face K layout f) (record { corners = []; turned = false }) (face_there K layout f l)

  pub edge-at : (e : ℕ) → e < length layout.sheet.ends.edges → view_edge_at (folded_sheet K layout) e ≡ folded_edge K layout e
  edge-at e l = get_or_from_slice_get (folded_sheet K layout).edges e (folded_edge K layout e) (record { letter = Border; sides = [] }) (edge_there K layout e l)

  -- a face that is shown is one of the sheet, and an edge too
  pub face-in : (f : ℕ) → f < length (folded_sheet K layout).faces → f < length layout.sheet.faces
  face-in f l = let many = faces-many in omega (arith, l, many)

  pub edge-in : (e : ℕ) → e < length (folded_sheet K layout).edges → e < length layout.sheet.ends.edges
  edge-in e l = let many = edges-many in omega (arith, l, many)

  pub turned-as : (F : OrderedField N) (f : ℕ) → f < length layout.sheet.faces → (face_at (folded_sheet K layout) f).turned ≡ (map_at F layout.maps f).turned
  turned-as F f l = ap (λ (x : FoldedFace W). x.turned) (face-at f l) ∙ turned_is F layout.maps f

module _ {N : Type 0} {parts : N → Parts} {W : Type 0} {k : ℕ} {surd : W → Surd ℤ} {numbers : SurdNumbers k surd} (F : OrderedField N) (layout : Layout N W)
    (known : HasLayers parts F numbers layout) where
  abbrev form : FormSheet parts numbers layout.sheet.ends layout.sheet.faces
  form = known.form

  abbrev folded : IsFolded parts F numbers layout
  folded = known.folding

  abbrev sheet : FoldedSheet W
  sheet = folded_sheet numbers.ring layout

  -- ---- corners

  image-scaled : (f c : ℕ) → f < length layout.sheet.faces → c < length (corners_at layout.sheet.faces f)
      → IsScaledWith parts numbers layout.scaled.common (place_by F layout.sheet.ends.coords layout.sheet.faces layout.maps f (corner_at layout.sheet.faces f c)) (point_at numbers.ring layout.scaled.points (corner_at layout.corners f c))
  image-scaled f c l m =
      let number = folded.corners_are.each f c l m in
      subst (λ (a : Pair N). IsScaledWith parts numbers layout.scaled.common a (point_at numbers.ring layout.scaled.points (corner_at layout.corners f c))) number.place
      (scaled-at parts F numbers layout.images layout.scaled folded.scaled_is (corner_at layout.corners f c) (origin numbers.ring.ops) number.within)

  -- as many corners as in the sheet, where a face is
  pub corners-many : (f : ℕ) → f < length layout.sheet.faces → length (face_at sheet f).corners ≡ length (corners_at layout.sheet.faces f)
  corners-many f l =
      ap (λ (x : FoldedFace W). length x.corners) (face-at numbers.ring layout f l)
      ∙ length-map (corners_at layout.corners f) (λ i. point_at numbers.ring layout.scaled.points i) ∙ folded.corners_are.all_corners f

  pub corners-few : (f : ℕ) → f < length layout.sheet.faces → length (face_at sheet f).corners < 2 ^ 30
  corners-few f l =
      let many = corners-many f l in
      let few = few-corners layout.sheet.ends layout.sheet.faces form f l in
      omega (arith, many, few)

  pub corners-scaled : (f : ℕ) → f < length layout.sheet.faces → All (IsScaledPoint numbers) (face_at sheet f).corners
  corners-scaled f l =
      subst (λ (x : FoldedFace W). All (IsScaledPoint numbers) x.corners) (sym (face-at numbers.ring layout f l))
      (All-map (IsScaledPoint numbers) (λ i. point_at numbers.ring layout.scaled.points i) (corners_at layout.corners f)
      (All-from_get_or (λ i. IsScaledPoint numbers (point_at numbers.ring layout.scaled.points i)) (corners_at layout.corners f) 0 (λ c m.
      let long : length (corners_at layout.corners f) ≡ length (corners_at layout.sheet.faces f) = folded.corners_are.all_corners f in
      let at = image-scaled f c l (omega (arith, m, long)) in
      record { whole = at.w; x_within = at.x_within; y_within = at.y_within })))

  -- one point is a place times the common denominator
  one-point : (a : Pair N) (common : ℤ) (p q : Point W) → IsScaledWith parts numbers common a p → IsScaledWith parts numbers common a q → p ≡ q
  one-point a common p q h k =
      let x : p.x ≡ q.x = one_number numbers p.x q.x (h.x ∙ sym k.x) in
      let y : p.y ≡ q.y = one_number numbers p.y q.y (h.y ∙ sym k.y) in
      let w : p.w ≡ q.w = h.w ∙ sym k.w in
      λ t. record { x = x t; y = y t; w = w t }

  -- so the corner of a folded face is where the face lays its corner, times the common denominator
  pub corner-is : (f c : ℕ) → f < length layout.sheet.faces → c < length (corners_at layout.sheet.faces f) → (p : Point W)
      → IsScaledWith parts numbers layout.scaled.common (place_by F layout.sheet.ends.coords layout.sheet.faces layout.maps f (corner_at layout.sheet.faces f c)) p
      → slice_get (face_at sheet f).corners c ≡ Some p
  corner-is f c l m p h =
      let long : length (corners_at layout.corners f) ≡ length (corners_at layout.sheet.faces f) = folded.corners_are.all_corners f in
      let there : slice_get (corners_at layout.corners f) c ≡ Some (corner_at layout.corners f c) = slice_get-get_or (corners_at layout.corners f) c 0 (omega (arith, m, long)) in
      ap (λ (x : FoldedFace W). slice_get x.corners c) (face-at numbers.ring layout f l)
      ∙ slice_get-map (λ i. point_at numbers.ring layout.scaled.points i) (corners_at layout.corners f) c
      ∙ ap (λ (o : Option ℕ). option_map (λ i. point_at numbers.ring layout.scaled.points i) o) there
      ∙ ap Some (one-point (place_by F layout.sheet.ends.coords layout.sheet.faces layout.maps f (corner_at layout.sheet.faces f c)) layout.scaled.common
      (point_at numbers.ring layout.scaled.points (corner_at layout.corners f c)) p (image-scaled f c l m) h)

  -- ---- sides

  has_side : (e : ℕ) (side : FaceSide) → e < length layout.sheet.ends.edges → Contains (view_edge_at sheet e).sides side → Begun layout.sheet.faces (edge_at layout.sheet.ends.edges e) side
  has_side e side l i = side-begun layout form folded.sides_are e side l (subst (λ (x : FoldedEdge). Contains x.sides side) (edge-at numbers.ring layout e l) i)

  pub sides-fit : AreSided sheet
  sides-fit = record {
    has_face = λ e side l i.
        let there : side.face < length layout.sheet.faces = (has_side e side (edge-in numbers.ring layout e l) i).begins.is_face in
        let many = faces-many numbers.ring layout in
        omega (arith, there, many);
    has_corner = λ e side l i.
        let begun = has_side e side (edge-in numbers.ring layout e l) i in
        let there : side.corner < length (corners_at layout.sheet.faces side.face) = begins-corner layout.sheet.faces side.face side.corner begun.from begun.to begun.begins in
        let many = corners-many side.face begun.begins.is_face in
        omega (arith, there, many);
    one_at_border = λ e l border.
        let at = edge-in numbers.ring layout e l in
        let has = folded.sides_are.each e at in
        ap (λ (x : FoldedEdge). length x.sides) (edge-at numbers.ring layout e at)
        ∙ border-one_side layout.sheet.ends layout.sheet.faces form e at (sym (ap (λ (x : FoldedEdge). x.letter) (edge-at numbers.ring layout e at)) ∙ border)
        (sides_at layout.sides e) has (some-side layout.sheet.ends layout.sheet.faces form e at (sides_at layout.sides e) has);
  }
