-- A sheet can be folded: what folding asks of vertices, edges and faces follows from the table of what keeps them from being a
-- sheet.
use Rattle.std.proofs.Common.{◌≡◌, ◌∙◌, ap, sym, refl, subst, ℕ, ℤ, pos, List, [], ◌∷◌, ◌++◌, ◌<◌, ◌≤◌, length, Some, inl, inr, ◌⊎◌, arith}
use Rattle.std.specs.Prelude.{slice_get, slice_index_or}
use Rattle.std.specs.List.{AllZip, Contains}
use Rattle.std.specs.declared.cmp.Ordering.TheVariants.{Equal}
use Rattle.std.proofs.lemmas.Bool.{cases_lt}
use Rattle.std.proofs.lemmas.List.{get_or_default}
use Prim.Native.Nat.{zero, suc}
use Rattle.std.proofs.lemmas.Option.{get_or_from_slice_get, slice_get-get_or, slice_get_cases, slice_get_within}
use Rattle.std.proofs.lemmas.Slice.Zip.{AllZip-long}
use Rattle.algebra.specs.LowestTerms.{Parts}
use Rattle.algebra.specs.Integers.{int_ops}
use Rattle.algebra.specs.Order.{int_sign}
use Rattle.algebra.specs.Surd.{Surd, surd_sign, surd_sub}
use Rattle.algebra.specs.WholeSurds.{SurdNumbers}
use Rattle.algebra.specs.OrderedField.{OrderedField}
use Rattle.algebra.specs.OrderedRing.{OrderedRing}
use Rattle.algebra.proofs.Solvers.{ring, ring_from, multiple, no_equation, reads}
use Rattle.exact_number.specs.Scaling.{scaled}
use Rattle.fold_base.specs.declared.letter.Letter.{Letter}
use Rattle.fold_base.specs.declared.letter.Letter.TheVariants.{Border, Mountain, Valley, Flat, Unassigned, Cut, Join}
use Rattle.plane.specs.declared.point.Point.{Point}
use Rattle.plane.specs.Points.{origin}
use Rattle.plane.proofs.First.{same_or_not}
use Rattle.scaled_plane.specs.declared.drawing.Edge.{Edge}
use Rattle.scaled_plane.specs.declared.drawing.Ends.{Ends}
use Rattle.scaled_plane.specs.declared.drawing.Face.{Face}
use Rattle.scaled_plane.specs.declared.point.Pair.{Pair}
use Rattle.scaled_plane.specs.declared.sheet.SheetFlaw.TheVariants.{SameVertex, NotPlane, EmptySheet, FaceWrong, FaceMissing, Severed}
use Rattle.scaled_plane.specs.Lists.{IsReached, IsRotation}
use Rattle.scaled_plane.specs.Lists.IsReached.{begun, gone_on}
use Rattle.scaled_plane.specs.Pieces.{point_at}
use Rattle.scaled_plane.specs.Scaling.{IsScaledWith}
use Rattle.scaled_plane.specs.Sheets.{AreBeside, HasFace, HasSide}
use Rattle.scaled_plane.specs.Walks.{IsDirectedPiece, IsFaceWalk, IsWalk as IsWalkOf, pieces_round}
use Rattle.regions.proofs.Rotations.{one_walk_round, rotated_back, rotated_walk}
use Rattle.flat_fold.specs.EdgeSides.{Begins}
use Rattle.flat_fold.specs.Faces.{IsBetween, IsPassable, IsSevered, IsWalk, Leads, LiesAlong, corners_at, edge_at}
use Rattle.flat_fold.specs.Folding.{IsFoldable, point}
use Rattle.flat_fold.specs.Sheets.{FormSheet}
use Rattle.flat_fold.proofs.FewCorners.{walk-directed, walk-short}
use Rattle.flat_fold.proofs.FoldingLaws.{in_range}
use Rattle.flat_fold.proofs.SideLaws.{begins-along, begins-first, length-pieces}
use Rattle.flat_fold.proofs.Walks.{walk-append}

-- ---- lists by places

pub zipped_at : {X Y : Type 0} (R : X → Y → Type 0) (xs : List X) (ys : List Y) (i : ℕ) (d : X) (e : Y) → AllZip R xs ys → i < length xs
    → R (slice_index_or xs i d) (slice_index_or ys i e)
zipped_at R [] ys i d e z l = absurd (omega (arith, l))
zipped_at R (x ∷ xs) [] i d e z l = absurd z
zipped_at R (x ∷ xs) (y ∷ ys) zero d e z l = z.0
zipped_at R (x ∷ xs) (y ∷ ys) (suc i) d e z l = zipped_at R xs ys i d e z.1 (omega (arith, l))

pub edge-get : (edges : List Edge) (e : ℕ) → e < length edges → slice_get edges e ≡ Some (edge_at edges e)
edge-get edges e l = slice_get-get_or edges e (record { from = 0; to = 0; letter = Border }) l

pub edge-contains : (edges : List Edge) (e : ℕ) → e < length edges → Contains edges (edge_at edges e)
edge-contains edges e l = (e, l, get_or_default edges e (edge_at edges e) (record { from = 0; to = 0; letter = Border }) l)

pub edge-place : (edges : List Edge) (edge : Edge) (h : Contains edges edge) → edge_at edges h.0 ≡ edge
edge-place edges edge h = get_or_default edges h.0 (record { from = 0; to = 0; letter = Border }) edge h.1 ∙ h.2

pub face-has : (faces : List Face) (f : ℕ) → f < length faces → HasFace faces f (corners_at faces f)
face-has faces f l = (slice_index_or faces f (record { corners = [] }), slice_get-get_or faces f (record { corners = [] }) l, refl)

pub has-face : (faces : List Face) (f : ℕ) (corners : List ℕ) → HasFace faces f corners → (f < length faces) × (corners_at faces f ≡ corners)
has-face faces f corners h =
    (slice_get_within faces f h.0 h.1, ap (λ (w : Face). w.corners) (get_or_from_slice_get faces f h.0 (record { corners = [] }) h.1) ∙ h.2)

-- ---- numbers with one pair of parts are one

module _ {W : Type 0} {k : ℕ} {surd : W → Surd ℤ} (numbers : SurdNumbers k surd) where
  abbrev R : OrderedRing W
  R = numbers.ring

  no_more : (x y : W) → surd x ≡ surd y → R.sign (R.sub x y) ≡ Equal
  no_more x y e =
      let same : surd (R.sub x y) ≡ surd (R.sub y y) = numbers.difference_is x y ∙ ap (λ (s : Surd ℤ). surd_sub int_ops (pos k) s (surd y)) e ∙ sym (numbers.difference_is y y) in
      let zero : R.sub y y ≡ R.int (pos 0) = ring R (y ∷ []) (search reads depth 40 fits 50000) (search reads depth 40 fits 50000) tt in
      numbers.sign_is (R.sub x y) ∙ ap (λ (s : Surd ℤ). surd_sign int_ops (pos k) int_sign s) same ∙ sym (numbers.sign_is (R.sub y y)) ∙ ap R.sign zero ∙ R.sign_int (pos 0)

  pub one_number : (x y : W) → surd x ≡ surd y → x ≡ y
  one_number x y e = ring_from R (x ∷ y ∷ []) (multiple (R.int (pos 1)) (search reads depth 40 fits 50000) (search reads depth 40 fits 50000) (search reads depth 40 fits 50000) (R.sign_zero (R.sub x y) (no_more x y e)) no_equation) (search reads depth 40 fits 50000) (search reads depth 40 fits 50000) tt

-- ---- sheets

module _ {N : Type 0} {parts : N → Parts} {W : Type 0} {k : ℕ} {surd : W → Surd ℤ} {numbers : SurdNumbers k surd} (ends : Ends N) (faces : List Face)
    (h : FormSheet parts numbers ends faces) where
  abbrev K : OrderedRing W
  K = numbers.ring

  abbrev edges : List Edge
  edges = ends.edges

  abbrev vertices : List (Point W)
  vertices = h.scaled.points

  pub ends-in_range : (e : ℕ) → e < length edges → ((edge_at edges e).from < length ends.coords) × ((edge_at edges e).to < length ends.coords)
  ends-in_range e l = h.in_range (edge_at edges e) (edge-contains edges e l)

  pub long : length vertices ≡ length ends.coords
  long = AllZip-long (IsScaledWith parts numbers (pos h.is_scaled.m)) ends.coords vertices h.is_scaled.points

  pub ends-differ : (e : ℕ) → e < length edges → ¬ ((edge_at edges e).from ≡ (edge_at edges e).to)
  ends-differ e l same = h.sheet (NotPlane e e) (edge_at edges e, edge_at edges e, edge-get edges e l, edge-get edges e l, inl (refl, same))

  -- vertices at one place are one vertex
  one_place : (F : OrderedField N) (u v : ℕ) → u < v → v < length ends.coords → ¬ (point F ends.coords u ≡ point F ends.coords v)
  one_place F u v less within same =
      let size : length vertices ≡ length ends.coords = long in
      let P = IsScaledWith parts numbers (pos h.is_scaled.m) in
      let zero : Pair N = record { x = F.int (pos 0); y = F.int (pos 0) } in
      let at_u = zipped_at P ends.coords vertices u zero (origin K.ops) h.is_scaled.points (omega (arith, less, within)) in
      let at_v = zipped_at P ends.coords vertices v zero (origin K.ops) h.is_scaled.points within in
      let x_same : (point_at K vertices u).x ≡ (point_at K vertices v).x
      = one_number numbers _ _ (at_u.x ∙ ap (λ (c : Pair N). scaled (parts c.x) (pos h.is_scaled.m)) same ∙ sym at_v.x) in
      let y_same : (point_at K vertices u).y ≡ (point_at K vertices v).y
      = one_number numbers _ _ (at_u.y ∙ ap (λ (c : Pair N). scaled (parts c.y) (pos h.is_scaled.m)) same ∙ sym at_v.y) in
      let w_same : (point_at K vertices u).w ≡ (point_at K vertices v).w = at_u.w ∙ sym at_v.w in
      h.sheet (SameVertex u v) (
        less,
        omega (arith, within, size),
        record {
          same_x = ap (λ (a : W). K.mul a (point_at K vertices v).w) x_same ∙ ap (λ (a : W). K.mul (point_at K vertices v).x a) (sym w_same);
          same_y = ap (λ (a : W). K.mul a (point_at K vertices v).w) y_same ∙ ap (λ (a : W). K.mul (point_at K vertices v).y a) (sym w_same);
        },
      )

  pub ends-apart : (F : OrderedField N) (e : ℕ) → e < length edges → ¬ (point F ends.coords (edge_at edges e).from ≡ point F ends.coords (edge_at edges e).to)
  ends-apart F e l same =
      let within = ends-in_range e l in
      elim (cases_lt (edge_at edges e).from (edge_at edges e).to) [
        | inl less ↦ one_place F _ _ less within.1 same
        | inr more ↦ one_place F _ _ (omega (arith, more, λ (s : (edge_at edges e).from ≡ (edge_at edges e).to). ends-differ e l s)) within.0 (sym same)
      ]

  -- each face is a walk
  pub face-walk : (f : ℕ) → f < length faces → ¬ ¬ IsWalkOf K vertices edges (corners_at faces f)
  face-walk f l none =
      h.sheet (FaceWrong f)
      (corners_at faces f, face-has faces f l, inl (λ walk is turned. none (rotated_walk K vertices edges walk (corners_at faces f) (rotated_back (corners_at faces f) walk turned) is.walk)))

  -- two faces with one directed piece are one face
  later_not : (u v f g : ℕ) → g < f → LiesAlong edges faces f u v → LiesAlong edges faces g u v → ⊥
  later_not u v f g less a b =
      let f_in : f < length faces = in_range edges faces f u v a in
      let g_in : g < length faces = in_range edges faces g u v b in
      face-walk f f_in (λ w. face-walk g g_in (λ z.
      h.sheet (FaceWrong f) (
        corners_at faces f,
        face-has faces f f_in,
        inr (g, less, corners_at faces g, face-has faces g g_in, one_walk_round K vertices edges (corners_at faces f) (corners_at faces g) w z u v a b),
      )))

  pub one-face : (u v f g : ℕ) → LiesAlong edges faces f u v → LiesAlong edges faces g u v → f ≡ g
  one-face u v f g a b = elim (same_or_not f g) [
    | inl same ↦ same
    | inr other ↦ elim (cases_lt g f) [
      | inl less ↦ absurd (later_not u v f g less a b)
      | inr more ↦ absurd (later_not u v g f (omega (arith, more, other)) b a)
    ]
  ]

  -- a walk round a face has two corners
  pub two-corners : (corners : List ℕ) → IsWalkOf K vertices edges corners → (u v : ℕ) × (rest : List ℕ) × (corners ≡ u ∷ v ∷ rest)
  two-corners [] w = absurd w.follow
  two-corners (u ∷ []) w =
      let d = w.follow.0.1.piece in
      let there = edge-place edges d.0 d.1 in
      absurd (ends-differ d.1.0 d.1.1 (elim d.2 [
        | inl s ↦ ap (λ (x : Edge). x.from) there ∙ s.0 ∙ sym s.1 ∙ sym (ap (λ (x : Edge). x.to) there)
        | inr s ↦ ap (λ (x : Edge). x.from) there ∙ s.0 ∙ sym s.1 ∙ sym (ap (λ (x : Edge). x.to) there)
      ]))
  two-corners (u ∷ (v ∷ rest)) w = (u, v, rest, refl)

  -- each walk that isn't the outer one is a face
  pub walk-listed : (corners : List ℕ) → IsFaceWalk K vertices edges corners → ¬ ((f : ℕ) (face : List ℕ) → HasFace faces f face → ¬ IsRotation face corners)
  walk-listed corners w none =
      let two = two-corners corners w.walk in
      h.sheet (FaceMissing two.0 two.1)
      (two.2, subst (λ (c : List ℕ). IsFaceWalk K vertices edges c) two.3 w, λ f face has. subst (λ (c : List ℕ). ¬ IsRotation face c) two.3 (none f face has))

  pub some-face : 0 < length faces
  some-face = elim (cases_lt 0 (length faces)) [
    | inl some ↦ some
    | inr none ↦ absurd (h.sheet EmptySheet (λ corners w. walk-listed corners w (λ f face has. absurd (let within : f < length faces = (has-face faces f face has).0 in omega (arith, within, none)))))
  ]

  -- a face has a side of an edge: it lies along it, or along it backwards
  pub along : (f : ℕ) (edge : Edge) → HasSide faces f edge → LiesAlong edges faces f edge.from edge.to ⊎ LiesAlong edges faces f edge.to edge.from
  along f edge s =
      let is = (has-face faces f s.0 s.1).1 in
      elim s.2 [
        | inl i ↦ inl (subst (λ (c : List ℕ). Contains (pieces_round c) (edge.from, edge.to)) (sym is) i)
        | inr i ↦ inr (subst (λ (c : List ℕ). Contains (pieces_round c) (edge.to, edge.from)) (sym is) i)
      ]

  passable : (letter : Letter) → ¬ (letter ≡ Border) → ¬ (letter ≡ Cut) → IsPassable letter
  passable Border b c = b refl
  passable Cut b c = c refl
  passable Mountain b c = tt
  passable Valley b c = tt
  passable Unassigned b c = tt
  passable Flat b c = tt
  passable Join b c = tt

  -- beside each other are one face, or two between which an edge leads
  beside-leads : (f g : ℕ) → AreBeside faces edges f g → (f ≡ g) ⊎ ((e : ℕ) × Leads edges faces e f g)
  beside-leads f g (edge, i, border, cut, s, t) =
      let there : edge_at edges i.0 ≡ edge = edge-place edges edge i in
      let leads : IsBetween edges faces edge f g → (f ≡ g) ⊎ ((e : ℕ) × Leads edges faces e f g)
      = λ b. inr (
        i.0,
        record {
          is_edge = i.1;
          passable = subst (λ (x : Edge). IsPassable x.letter) (sym there) (passable edge.letter border cut);
          between = subst (λ (x : Edge). IsBetween edges faces x f g) (sym there) b;
        },
      ) in
      elim (along f edge s) [
        | inl a ↦ elim (along g edge t) [
          | inl b ↦ inl (one-face edge.from edge.to f g a b)
          | inr b ↦ leads (inl (a, b))
        ]
        | inr a ↦ elim (along g edge t) [
          | inl b ↦ leads (inr (a, b))
          | inr b ↦ inl (one-face edge.to edge.from f g a b)
        ]
      ]

  walked : (F : OrderedField N) (f : ℕ) → IsReached (AreBeside faces edges) 0 f → (es : List ℕ) × IsWalk edges faces 0 es f
  walked F f begun = ([], refl)
  walked F f (gone_on g before step) =
      let w : (es : List ℕ) × IsWalk edges faces 0 es g = walked F g before in
      elim (beside-leads g f step) [
        | inl same ↦ (w.0, subst (λ (x : ℕ). IsWalk edges faces 0 w.0 x) same w.1)
        | inr l ↦ (w.0 ++ l.0 ∷ [], walk-append F ends.coords edges faces 0 g f w.0 (l.0 ∷ []) w.1 (f, l.1, refl))
      ]

  pub not-severed : (F : OrderedField N) (f : ℕ) → f < length faces → ¬ IsSevered edges faces f
  not-severed F f l severed = h.sheet (Severed f) (l, λ r. severed (walked F f r))

  pub foldable-sheet : (F : OrderedField N) → IsFoldable F ends.coords edges faces
  foldable-sheet F = record {
    apart = λ e f g l. ends-apart F e l.is_edge;
    one_face = one-face;
    some_face = some-face;
    reached = not-severed F;
    ends = ends-in_range;
  }

  -- ---- corners

  -- a face has at most 4,096 corners, which are vertices
  pub few-corners : (f : ℕ) → f < length faces → length (corners_at faces f) ≤ 4096
  few-corners f l =
      elim (cases_lt 4096 (length (corners_at faces f))) [
        | inl more ↦ absurd (face-walk f l (λ w.
            let short = walk-short K vertices edges (corners_at faces f) w in
            let few = h.few_edges in
            omega (arith, more, short, few)))
        | inr most ↦ most
      ]

  piece-in_range : (u v : ℕ) → IsDirectedPiece edges u v → u < length ends.coords
  piece-in_range u v d =
      elim d.2 [
        | inl s ↦ subst (λ (x : ℕ). x < length ends.coords) s.0 (h.in_range d.0 d.1).0
        | inr s ↦ subst (λ (x : ℕ). x < length ends.coords) s.1 (h.in_range d.0 d.1).1
      ]

  pub along-in_range : (f u v : ℕ) → LiesAlong edges faces f u v → u < length ends.coords
  along-in_range f u v a = elim (cases_lt u (length ends.coords)) [
    | inl less ↦ less
    | inr more ↦ absurd (face-walk f (in_range edges faces f u v a) (λ w.
        let less = piece-in_range u v (walk-directed K vertices edges (corners_at faces f) w u v a) in
        omega (arith, more, less)))
  ]

  pub corners-in_range : (f k d : ℕ) → f < length faces → k < length (corners_at faces f) → slice_index_or (corners_at faces f) k d < length ends.coords
  corners-in_range f k d l m =
      let long = length-pieces (corners_at faces f) in
      let at = slice_get_cases (pieces_round (corners_at faces f)) k in
      elim at.1 [
        | inl there ↦ (
            let b : Begins faces f k there.0.0 there.0.1 = record { is_face = l; piece = there.2 } in
            subst (λ (x : ℕ). x < length ends.coords) (sym (begins-first faces f k there.0.0 there.0.1 d b)) (along-in_range f there.0.0 there.0.1 (begins-along faces edges f k there.0.0 there.0.1 b)))
        | inr past ↦ (let none = past.0 in absurd (omega (arith, m, long, none)))
      ]
