-- Each edge of a sheet is a side of some face: of one where its letter is B, and else of two.
use Rattle.std.proofs.Common.{◌≡◌, ◌∙◌, ap, sym, refl, subst, ℕ, ℤ, zero, suc, List, [], ◌∷◌, ◌++◌, ◌<◌, length, Some, None, Option, inl, inr, ◌⊎◌, arith}
use Rattle.std.specs.Prelude.{slice_get, slice_index_or}
use Rattle.std.specs.List.{Contains}
use Rattle.std.specs.Ordering.{ordering_reverse}
use Rattle.std.specs.declared.cmp.Ordering.TheVariants.{Less, Equal, Greater}
use Rattle.std.proofs.lemmas.Bool.{cases_lt}
use Rattle.std.proofs.lemmas.List.{get_or_default}
use Rattle.std.proofs.lemmas.Option.{slice_get_read}
use Rattle.algebra.specs.LowestTerms.{Parts}
use Rattle.algebra.specs.OrderedRing.{OrderedRing}
use Rattle.algebra.specs.Surd.{Surd}
use Rattle.algebra.specs.WholeSurds.{SurdNumbers}
use Rattle.fold_base.specs.declared.letter.Letter.TheVariants.{Border}
use Rattle.plane.specs.declared.point.Point.{Point}
use Rattle.plane.specs.Directions.{west}
use Rattle.plane.specs.Points.{point_order}
use Rattle.plane.proofs.First.{same_or_not}
use Rattle.plane.proofs.Members.{in_cons, in_head, in_nil, in_tail}
use Rattle.plane.proofs.Order.{order_turned}
use Rattle.plane.proofs.Turning.{clockwise_apart, clockwise_once}
use Rattle.scaled_plane.specs.declared.drawing.Edge.{Edge}
use Rattle.scaled_plane.specs.declared.drawing.Ends.{Ends}
use Rattle.scaled_plane.specs.declared.drawing.Face.{Face}
use Rattle.scaled_plane.specs.declared.sheet.SheetFlaw.TheVariants.{SameVertex, Loose, NotPlane, Parted, EmptySheet, FaceWrong, FaceMissing, NotConvex, BorderWrong, Pinched, Severed}
use Rattle.scaled_plane.specs.Lists.{IsReached, IsRotation}
use Rattle.scaled_plane.specs.Lists.IsReached.{begun, gone_on}
use Rattle.scaled_plane.specs.Pieces.{point_at}
use Rattle.scaled_plane.specs.Sheets.{HasFace, HasOneFace, HasSide}
use Rattle.scaled_plane.specs.Walks.{AreJoined, ComesAfter, FollowOn, FollowRound, Follows, HasOutside, IsDirectedPiece, IsFaceWalk, IsOuterWalk, IsOutside, IsWalk, pieces_round, way}
use Rattle.scaled_plane.proofs.After.{piece_back}
use Rattle.regions.specs.Faces.{IsOfWalk, IsPlane}
use Rattle.regions.proofs.Cycles.{walk_through}
use Rattle.regions.proofs.Outer.{in_range}
use Rattle.regions.proofs.Partition.{least_walk}
use Rattle.regions.proofs.Rotations.{of_rotated, one_least, one_walk_round, rotated_back}
use Rattle.regions.proofs.Rounds.{last_first, some_piece}
use Rattle.flat_fold.specs.declared.sides.Side.{Side}
use Rattle.flat_fold.specs.declared.sides.Sides.{Sides}
use Rattle.flat_fold.specs.EdgeSides.{HasSides, IsSide}
use Rattle.flat_fold.specs.Faces.{LiesAlong, corners_at, edge_at}
use Rattle.flat_fold.specs.Sheets.{FormSheet}
use Rattle.flat_fold.proofs.FewCorners.{walk-directed}
use Rattle.flat_fold.proofs.SheetLaws.{along, edge-contains, edge-get, face-has, has-face, one-face, walk-listed}
use Rattle.flat_fold.proofs.SheetPlane.{sheet-connected, sheet-plane}
use Rattle.flat_fold.proofs.SideLaws.{along-side, length-pieces, piece-first, side-along}

abbrev Piece : Type 0
Piece = ℕ × ℕ

-- ---- lists in which a number stands twice

parted : (cs : List ℕ) (i v d : ℕ) → i < length cs → slice_index_or cs i d ≡ v → (a c : List ℕ) × (length a ≡ i) × (cs ≡ a ++ v ∷ c)
parted [] i v d l e = absurd (omega (arith, l))
parted (u ∷ cs) zero v d l e = ([], cs, refl, ap (λ x. x ∷ cs) e)
parted (u ∷ cs) (suc i) v d l e =
    let r = parted cs i v d (omega (arith, l)) e in
    (u ∷ r.0, r.1, ap suc r.2, ap (λ (xs : List ℕ). u ∷ xs) r.3)

stands_twice : (cs : List ℕ) (i j v d : ℕ) → i < j → j < length cs → slice_index_or cs i d ≡ v → slice_index_or cs j d ≡ v → (a b c : List ℕ) × (cs ≡ a ++ v ∷ b ++ v ∷ c)
stands_twice [] i j v d less within e f = absurd (omega (arith, within))
stands_twice (u ∷ cs) zero zero v d less within e f = absurd (omega (arith, less))
stands_twice (u ∷ cs) (suc i) zero v d less within e f = absurd (omega (arith, less))
stands_twice (u ∷ cs) zero (suc j) v d less within e f =
    let r = parted cs j v d (omega (arith, within)) f in
    ([], r.0, r.1, ap (λ x. x ∷ cs) e ∙ ap (λ (xs : List ℕ). v ∷ xs) r.3)
stands_twice (u ∷ cs) (suc i) (suc j) v d less within e f =
    let r = stands_twice cs i j v d (omega (arith, less)) (omega (arith, within)) e f in
    (u ∷ r.0, r.1, r.2, ap (λ (xs : List ℕ). u ∷ xs) r.3)

module _ {N : Type 0} {parts : N → Parts} {W : Type 0} {k : ℕ} {surd : W → Surd ℤ} {numbers : SurdNumbers k surd} (ends : Ends N) (faces : List Face)
    (h : FormSheet parts numbers ends faces) where
  abbrev K : OrderedRing W
  K = numbers.ring

  abbrev edges : List Edge
  edges = ends.edges

  abbrev vertices : List (Point W)
  vertices = h.scaled.points

  abbrev plane : IsPlane K vertices edges
  plane = sheet-plane ends faces h

  -- ---- what comes next in a walk

  next_on : (p last : Piece) (xs : List Piece) → FollowOn K vertices edges p (xs ++ last ∷ []) → (q : Piece) → Contains (p ∷ xs) q
      → (y : Piece) × Contains (xs ++ last ∷ []) y × Follows K vertices edges q y
  next_on p last [] f q i = elim (in_cons p [] q i) [
    | inl e ↦ (last, in_head last [], subst (λ (t : Piece). Follows K vertices edges t last) e f.0)
    | inr none ↦ absurd (in_nil q none)
  ]
  next_on p last (x ∷ xs) f q i = elim (in_cons p (x ∷ xs) q i) [
    | inl e ↦ (x, in_head x (xs ++ last ∷ []), subst (λ (t : Piece). Follows K vertices edges t x) e f.0)
    | inr j ↦ (let r = next_on x last xs f.1 q j in (r.0, in_tail x (xs ++ last ∷ []) r.0 r.1, r.2))
  ]

  next_round : (ps : List Piece) → FollowRound K vertices edges ps → (q : Piece) → Contains ps q → (y : Piece) × Contains ps y × Follows K vertices edges q y
  next_round [] f q i = absurd f
  next_round (p ∷ rest) f q i = let r = next_on p p rest f q i in (r.0, last_first p rest r.0 r.1, r.2)

  -- ---- the outer walk

  outside_once : (u w x y : ℕ) → IsOutside K vertices edges u w → IsOutside K vertices edges x y → (u ≡ x) × (w ≡ y)
  outside_once u w x y a b = (least, first)
    where
      least : u ≡ x
      least = elim (same_or_not u x) [
        | inl same ↦ same
        | inr other ↦
            let before : point_order K (point_at K vertices u) (point_at K vertices x) ≡ Less = a.least x b.in_range (λ e. other (sym e)) in
            let after : point_order K (point_at K vertices x) (point_at K vertices u) ≡ Less = b.least u a.in_range other in
            let both : Less ≡ Greater = sym after ∙ order_turned K (point_at K vertices u) (point_at K vertices x) ∙ ap ordering_reverse before in
            absurd (cc)
      ]

      at : (z : ℕ) → IsOutside K vertices edges u z → w ≡ z
      at z c = elim (same_or_not w z) [
        | inl same ↦ same
        | inr other ↦ absurd (clockwise_once K (west K.ops) (way K vertices edges u w) (way K vertices edges u z)
            (a.first.first z c.first.neighbour (λ n. n) (λ e. other (sym e))) (c.first.first w a.first.neighbour (λ n. n) other))
      ]

      first : w ≡ y
      first = at y (subst (λ (t : ℕ). IsOutside K vertices edges t y) (sym least) b)

  one_outer : (c d : List ℕ) → IsOuterWalk K vertices edges c → IsOuterWalk K vertices edges d → c ≡ d
  one_outer c d a b =
      let o : (u w : ℕ) × IsOutside K vertices edges u w × Contains (pieces_round c) (u, w) = a.outer in
      let p : (u w : ℕ) × IsOutside K vertices edges u w × Contains (pieces_round d) (u, w) = b.outer in
      let same = outside_once p.0 p.1 o.0 o.1 p.2 o.2 in
      let there : Contains (pieces_round d) (o.0, o.1) = subst (λ (t : Piece). Contains (pieces_round d) t) (λ i. (same.0 i, same.1 i)) p.3 in
      one_least c d a.least b.least (one_walk_round K vertices edges c d a.walk b.walk o.0 o.1 o.3 there)

  -- a piece that no face lies along is one of the outer walk
  not_inner : (u v : ℕ) → IsDirectedPiece edges u v → ((f : ℕ) → ¬ LiesAlong edges faces f u v) → ¬ ¬ ((c : List ℕ) × IsOuterWalk K vertices edges c × IsOfWalk c u v)
  not_inner u v d none outer =
      let w = walk_through K vertices edges plane u v d in
      let l = least_walk K vertices edges w.0 w.1 in
      let of : IsOfWalk l.0 u v = of_rotated K vertices edges w.0 l.0 l.1 u v w.2 in
      walk-listed ends faces h l.0 (record { walk = l.3; least = l.2; inner = λ o. outer (l.0, record { walk = l.3; least = l.2; outer = o }, of) })
      (λ f face has rotated.
      none f (subst (λ (c : List ℕ). Contains (pieces_round c) (u, v)) (sym (has-face faces f face has).1) (of_rotated K vertices edges l.0 face (rotated_back face l.0 rotated) u v of)))

  -- the outer walk leaves each vertex once
  leaves_once : (c : List ℕ) → IsOuterWalk K vertices edges c → (v x y : ℕ) → Contains (pieces_round c) (v, x) → Contains (pieces_round c) (v, y) → x ≡ y
  leaves_once c o v x y i j = elim (same_or_not x y) [
    | inl same ↦ same
    | inr other ↦ elim (same_or_not i.0 j.0) [
      | inl one ↦ absurd (other (ap (λ (p : Piece). p.1) (sym i.2 ∙ read_as (pieces_round c) i.0 j.0 (v, x) (v, y) one i.1 ∙ j.2)))
      | inr places ↦ elim (cases_lt i.0 j.0) [
        | inl less ↦ absurd (twice i.0 j.0 x y less i.1 j.1 i.2 j.2)
        | inr more ↦ absurd (twice j.0 i.0 y x (omega (arith, more, places)) j.1 i.1 j.2 i.2)
      ]
    ]
  ]
    where
      read_as : (ps : List Piece) (m n : ℕ) (p q : Piece) → m ≡ n → m < length ps → slice_index_or ps m p ≡ slice_index_or ps n q
      read_as ps m n p q e l = get_or_default ps m p q l ∙ ap (λ (t : ℕ). slice_index_or ps t q) e

      twice : (m n a b : ℕ) → m < n → m < length (pieces_round c) → n < length (pieces_round c) → slice_index_or (pieces_round c) m (v, a) ≡ (v, a) → slice_index_or (pieces_round c) n (v, b) ≡ (v, b) → ⊥
      twice m n a b less in_m in_n is_a is_b =
          let all = length-pieces c in
          let get_a = slice_get_read (pieces_round c) (length (pieces_round c)) m (v, a) refl in_m (sym is_a) in
          let get_b = slice_get_read (pieces_round c) (length (pieces_round c)) n (v, b) refl in_n (sym is_b) in
          let r = stands_twice c m n v 0 less (omega (arith, in_n, all)) (piece-first c m v a 0 get_a) (piece-first c n v b 0 get_b) in
          h.sheet (Pinched v) (r.0, r.1, r.2, subst (λ (cs : List ℕ). IsOuterWalk K vertices edges cs) r.3 o)

  -- where both of its directed pieces are of the outer walk, one comes after the other
  turns_back : (c : List ℕ) → IsOuterWalk K vertices edges c → (u v : ℕ) → IsOfWalk c u v → IsOfWalk c v u → ComesAfter K vertices edges u v u
  turns_back c o u v i j =
      let r = next_round (pieces_round c) o.walk.follow (u, v) i in
      let there : Contains (pieces_round c) (v, r.0.1) = subst (λ (t : ℕ). Contains (pieces_round c) (t, r.0.1)) (sym r.2.0) r.1 in
      subst (λ (t : ℕ). ComesAfter K vertices edges u v t) (leaves_once c o v r.0.1 u there j) r.2.1

  -- then the edge ends at v, which has no other neighbour
  no_other : (u v : ℕ) → ComesAfter K vertices edges u v u → (x : ℕ) → IsDirectedPiece edges v x → x ≡ u
  no_other u v a x d = elim (same_or_not x u) [
    | inl same ↦ same
    | inr other ↦ absurd (clockwise_apart K (way K vertices edges v u) (way K vertices edges v x) (a.next.first x d other other))
  ]

  -- .. so it is the whole drawing, and no walk is a face
  module _ (c : List ℕ) (o : IsOuterWalk K vertices edges c) (u v : ℕ) (i : IsOfWalk c u v) (j : IsOfWalk c v u) (u_in : u < length vertices) where
    abbrev IsEndOf : ℕ → Type 0
    IsEndOf x = (x ≡ u) ⊎ (x ≡ v)

    step : (w x : ℕ) → IsDirectedPiece edges w x → IsEndOf w → IsEndOf x
    step w x d (inl at) = inr (no_other v u (turns_back c o v u j i) x (subst (λ (t : ℕ). IsDirectedPiece edges t x) at d))
    step w x d (inr at) = inl (no_other u v (turns_back c o u v i j) x (subst (λ (t : ℕ). IsDirectedPiece edges t x) at d))

    back : {x : ℕ} → AreJoined edges 0 x → IsEndOf x → IsEndOf 0
    back begun at = at
    back (gone_on {v = x} w before d) at = back before (step x w (piece_back edges w x d) at)

    onward : {x : ℕ} → AreJoined edges 0 x → IsEndOf 0 → IsEndOf x
    onward begun at = at
    onward (gone_on {v = x} w before d) at = step w x d (onward before at)

    all_ends : (x : ℕ) → x < length vertices → IsEndOf x
    all_ends x l = onward (sheet-connected ends faces h x l) (back (sheet-connected ends faces h u u_in) (inl refl))

    of_outer : (p : Piece) → IsDirectedPiece edges p.0 p.1 → Contains (pieces_round c) p
    of_outer p d = at (all_ends p.0 (in_range K vertices edges plane p.0 p.1 d))
      where
        at : IsEndOf p.0 → Contains (pieces_round c) p
        at (inl first) =
            let second = no_other v u (turns_back c o v u j i) p.1 (subst (λ (t : ℕ). IsDirectedPiece edges t p.1) first d) in
            subst (λ (t : Piece). Contains (pieces_round c) t) (λ n. (sym first n, sym second n)) i
        at (inr first) =
            let second = no_other u v (turns_back c o u v i j) p.1 (subst (λ (t : ℕ). IsDirectedPiece edges t p.1) first d) in
            subst (λ (t : Piece). Contains (pieces_round c) t) (λ n. (sym first n, sym second n)) j

    no_face : (corners : List ℕ) → ¬ IsFaceWalk K vertices edges corners
    no_face corners w =
        let p = some_piece K vertices edges plane (pieces_round corners) w.walk.follow in
        let there = of_outer p.0 (walk-directed K vertices edges corners w.walk p.0.0 p.0.1 p.1) in
        let same : corners ≡ c = one_least corners c w.least o.least (one_walk_round K vertices edges corners c w.walk o.walk p.0.0 p.0.1 p.1 there) in
        w.inner (subst (λ (cs : List ℕ). HasOutside K vertices edges cs) (sym same) o.outer)

    nothing : ⊥
    nothing = h.sheet EmptySheet no_face

  -- each edge is a side of some face
  pub edge-has_side : (e : ℕ) → e < length edges → ¬ ((f : ℕ) → ¬ LiesAlong edges faces f (edge_at edges e).from (edge_at edges e).to × ¬ LiesAlong edges faces f (edge_at edges e).to (edge_at edges e).from)
  edge-has_side e l none =
      let u = (edge_at edges e).from in
      let v = (edge_at edges e).to in
      let there : IsDirectedPiece edges u v = (edge_at edges e, edge-contains edges e l, inl (refl, refl)) in
      let back : IsDirectedPiece edges v u = (edge_at edges e, edge-contains edges e l, inr (refl, refl)) in
      not_inner u v there (λ f. (none f).0) (λ a. not_inner v u back (λ f. (none f).1) (λ b.
      nothing a.0 a.1 u v a.2 (subst (λ (cs : List ℕ). IsOfWalk cs v u) (one_outer b.0 a.0 b.1 a.1) b.2) (in_range K vertices edges plane u v there)))

  -- ---- how many faces an edge has

  side_of : (f : ℕ) (edge : Edge) → f < length faces → LiesAlong edges faces f edge.from edge.to ⊎ LiesAlong edges faces f edge.to edge.from → HasSide faces f edge
  side_of f edge l a = (corners_at faces f, face-has faces f l, a)

  -- .. two, where its letter isn't B
  pub other-face : (e : ℕ) → e < length edges → ¬ ((edge_at edges e).letter ≡ Border) → (f : ℕ) → f < length faces → LiesAlong edges faces f (edge_at edges e).from (edge_at edges e).to
      → ¬ ((g : ℕ) → ¬ LiesAlong edges faces g (edge_at edges e).to (edge_at edges e).from)
  other-face e l letter f f_in a none =
      h.sheet (BorderWrong e) (
        edge_at edges e,
        edge-get edges e l,
        inr (
          letter,
          (
            f,
            side_of f (edge_at edges e) f_in (inl a),
            λ g s. elim (along ends faces h g (edge_at edges e) s) [
              | inl b ↦ one-face ends faces h _ _ g f b a
              | inr b ↦ absurd (none g b)
            ],
          ),
        ),
      )

  pub other-face_back : (e : ℕ) → e < length edges → ¬ ((edge_at edges e).letter ≡ Border) → (f : ℕ) → f < length faces → LiesAlong edges faces f (edge_at edges e).to (edge_at edges e).from
      → ¬ ((g : ℕ) → ¬ LiesAlong edges faces g (edge_at edges e).from (edge_at edges e).to)
  other-face_back e l letter f f_in a none =
      h.sheet (BorderWrong e) (
        edge_at edges e,
        edge-get edges e l,
        inr (
          letter,
          (
            f,
            side_of f (edge_at edges e) f_in (inr a),
            λ g s. elim (along ends faces h g (edge_at edges e) s) [
              | inl b ↦ absurd (none g b)
              | inr b ↦ one-face ends faces h _ _ g f b a
            ],
          ),
        ),
      )

  -- .. and else one
  pub border-one_face : (e : ℕ) → e < length edges → (edge_at edges e).letter ≡ Border → (f g : ℕ) → HasSide faces f (edge_at edges e) → HasSide faces g (edge_at edges e) → f ≡ g
  border-one_face e l letter f g a b = elim (same_or_not f g) [
    | inl same ↦ same
    | inr other ↦ absurd (h.sheet (BorderWrong e) (edge_at edges e, edge-get edges e l, inl (letter, λ one. other (one.2 f a ∙ sym (one.2 g b)))))
  ]

  -- ---- the same of the sides that are found

  pub some-side : (e : ℕ) → e < length edges → (sides : Sides) → HasSides faces (edge_at edges e) sides → ¬ ((sides.left ≡ None) × (sides.right ≡ None))
  some-side e l sides has n =
      edge-has_side e l (λ f. (along-side faces edges _ _ sides.left n.0 has.left f, along-side faces edges _ _ sides.right n.1 has.right f))

  pub both-sides : (e : ℕ) → e < length edges → ¬ ((edge_at edges e).letter ≡ Border) → (sides : Sides) → HasSides faces (edge_at edges e) sides → ¬ (sides.left ≡ None) × ¬ (sides.right ≡ None)
  both-sides e l letter sides has = (
    λ no_left. some-side e l sides has (no_left, right_none (sides.right) refl has.right (along-side faces edges _ _ sides.left no_left has.left)),
    λ no_right. some-side e l sides has (left_none (sides.left) refl has.left (along-side faces edges _ _ sides.right no_right has.right), no_right),
  )
    where
      right_none : (o : Option Side) → sides.right ≡ o → IsSide faces (edge_at edges e).to (edge_at edges e).from o → ((f : ℕ) → ¬ LiesAlong edges faces f (edge_at edges e).from (edge_at edges e).to) → sides.right ≡ None
      right_none None is s none = is
      right_none (Some side) is s none = absurd (other-face_back e l letter side.face s.is_face (side-along faces edges _ _ (Some side) side refl s) none)

      left_none : (o : Option Side) → sides.left ≡ o → IsSide faces (edge_at edges e).from (edge_at edges e).to o → ((f : ℕ) → ¬ LiesAlong edges faces f (edge_at edges e).to (edge_at edges e).from) → sides.left ≡ None
      left_none None is s none = is
      left_none (Some side) is s none = absurd (other-face e l letter side.face s.is_face (side-along faces edges _ _ (Some side) side refl s) none)
