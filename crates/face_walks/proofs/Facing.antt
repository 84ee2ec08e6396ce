-- The cycles of a linked arena are the faces of its drawing, and its outer walk.
use Rattle.std.proofs.Common.{◌≡◌, inl, inr, ℕ, suc, ◌<◌, List, [], ◌∷◌, length, refl, sym, ap, subst, ◌∙◌, arith}
use Rattle.std.specs.Prelude.{Contains, IsTrue, slice_index, slice_index_or}
use Rattle.std.specs.Cmp.Lexicographic.{slice_cmp}
use Rattle.std.specs.List.{AllByRecursion}
use Rattle.std.specs.List.Sorted.{IsStrictlySortedBy}
use Rattle.std.specs.Ordering.{is_le, nat_cmp, on, ordering_reverse, ordering_then}
use Rattle.std.specs.declared.cmp.Ordering.{Ordering}
use Rattle.std.specs.declared.cmp.Ordering.TheVariants.{Less, Equal, Greater}
use Rattle.std.proofs.lemmas.Cmp.{nat_list_cmp_total, tied_itself}
use Rattle.std.proofs.lemmas.List.{get_or_default}
use Rattle.algebra.specs.OrderedRing.{OrderedRing}
use Rattle.plane.specs.declared.point.Point.{Point}
use Rattle.plane.specs.Directions.{west}
use Rattle.plane.proofs.Members.{in_head}
use Rattle.plane.proofs.Order.{order_turned}
use Rattle.plane.proofs.Turning.{clockwise_once}
use Rattle.scaled_plane.specs.declared.drawing.Edge.{Edge}
use Rattle.scaled_plane.specs.declared.drawing.Face.{Face}
use Rattle.scaled_plane.specs.Pieces.{point_at}
use Rattle.scaled_plane.specs.Walks.{AreFaces, FollowRound, HasOutside, IsDirectedPiece, IsFaceWalk, IsLeastRotation, IsOuterWalk, IsOutside, IsWalk, pieces_round, way}
use Rattle.regions.specs.Faces.{IsOfWalk, IsPlane}
use Rattle.regions.proofs.Outer.{other_end}
use Rattle.regions.proofs.Rotations.{of_rotated, one_least, one_walk_round, rotated_back, rotated_walk, same_from}
use Rattle.half_edges.specs.Halves.{Halves, count}
use Rattle.face_walks.specs.Found.{AreCycles, IsFrom, corners_in}
use Rattle.face_walks.specs.Linked.{IsLinked, piece_at}
use Rattle.face_walks.specs.Orders.{piece_order}
use Rattle.face_walks.proofs.CycleWalks.{cycle_walk, cycle_within, first_piece, half_of, piece_in}
use Rattle.face_walks.proofs.Finding.{equal_pieces}
use Rattle.face_walks.proofs.RingLists.{same_or_not}

abbrev Piece : Type 0
Piece = ℕ × ℕ

-- ---- lists in order

all_after : {X : Type 0} (order : X → X → Ordering) (x : X) (xs : List X) → ((k : ℕ) (d : X) → k < length xs → order x (slice_index_or xs k d) ≡ Less) → AllByRecursion (λ y. order x y ≡ Less) xs
all_after order x [] h = tt
all_after order x (y ∷ ys) h = (h 0 y (omega arith), all_after order x ys (λ k d l. h (suc k) d (omega (arith, l))))

pub sorted_by_places : {X : Type 0} (order : X → X → Ordering) (xs : List X)
    → ((j k : ℕ) (d : X) → j < k → k < length xs → order (slice_index_or xs j d) (slice_index_or xs k d) ≡ Less) → IsStrictlySortedBy order xs
unfolding IsStrictlySortedBy
sorted_by_places order [] h = tt
sorted_by_places order (x ∷ xs) h = (
  all_after order x xs (λ k d l. h 0 (suc k) d (omega arith) (omega (arith, l))),
  sorted_by_places order xs (λ j k d l m. h (suc j) (suc k) d (omega (arith, l)) (omega (arith, m))),
)

then_less : (a b o : Ordering) → ordering_then a b ≡ Less → ordering_then a (ordering_then b o) ≡ Less
then_less Less b o h = refl
then_less Equal Less o h = refl
then_less Equal Equal o h = absurd (cc)
then_less Equal Greater o h = absurd (cc)
then_less Greater b o h = absurd (cc)

-- two lists of corners stand in the order of their first two
less_by_pieces : (p q : Piece) (xs ys : List ℕ) → piece_order p q ≡ Less → slice_cmp nat_cmp (p.0 ∷ p.1 ∷ xs) (q.0 ∷ q.1 ∷ ys) ≡ Less
less_by_pieces p q xs ys h = then_less (nat_cmp p.0 q.0) (nat_cmp p.1 q.1) (slice_cmp nat_cmp xs ys) h

module _ {A : Type 0} (K : OrderedRing A) (vertices : List (Point A)) (edges : List Edge) (plane : IsPlane K vertices edges)
    (arena : Halves Piece) (linked : IsLinked K vertices edges arena) where
  abbrev Walk : List ℕ → Type 0
  Walk c = IsWalk K vertices edges c

  -- ---- how a walk begins

  some_piece : (c : List ℕ) → Walk c → (q : Piece) × (rest : List Piece) × (pieces_round c ≡ q ∷ rest)
  some_piece c w = by (pieces_round c) w.follow refl
    where
      by : (ps : List Piece) → FollowRound K vertices edges ps → pieces_round c ≡ ps → (q : Piece) × (rest : List Piece) × (pieces_round c ≡ q ∷ rest)
      by [] f e = absurd f
      by (p ∷ rest) f e = (p, rest, e)

  first_directed : (ps : List Piece) (q : Piece) (rest : List Piece) → FollowRound K vertices edges ps → ps ≡ q ∷ rest → IsDirectedPiece edges q.0 q.1
  first_directed ps q rest f e = by rest (subst (λ (xs : List Piece). FollowRound K vertices edges xs) e f)
    where
      by : (rest : List Piece) → FollowRound K vertices edges (q ∷ rest) → IsDirectedPiece edges q.0 q.1
      by [] f = f.0.1.piece
      by (p ∷ rest) f = f.0.1.piece

  -- a walk has two corners or more, since no piece leads from a vertex to itself
  first_two : (c : List ℕ) → Walk c → (q : Piece) (rest : List Piece) → pieces_round c ≡ q ∷ rest → (xs : List ℕ) × (c ≡ q.0 ∷ q.1 ∷ xs)
  first_two [] w q rest e = absurd (cc)
  first_two (u ∷ []) w q rest e =
      let d : IsDirectedPiece edges u u = first_directed (pieces_round (u ∷ [])) (u, u) [] w.follow refl in
      absurd (other_end K vertices edges plane u u d refl)
  first_two (u ∷ v ∷ more) w q rest e =
      let p : (u, v) ≡ q = cc in
      let first : u ≡ q.0 = ap (λ (r : Piece). r.0) p in
      let second : v ≡ q.1 = ap (λ (r : Piece). r.1) p in
      (more, λ i. first i ∷ second i ∷ more)

  module _ (corners : List ℕ) (half : ℕ) (cycle : List ℕ) (from : IsFrom arena corners half cycle) where
    walk : Walk corners
    walk = subst (λ (c : List ℕ). Walk c) (sym from.corners_are) (cycle_walk K vertices edges arena linked half from.in_range cycle from.is)

    begins : (rest : List Piece) × (pieces_round corners ≡ piece_at arena half ∷ rest)
    begins = subst (λ (c : List ℕ). (rest : List Piece) × (pieces_round c ≡ piece_at arena half ∷ rest)) (sym from.corners_are)
        (first_piece K vertices edges arena linked half from.in_range cycle from.is)

    has_piece : (h : ℕ) → Contains cycle h → Contains (pieces_round corners) (piece_at arena h)
    has_piece h i = subst (λ (c : List ℕ). Contains (pieces_round c) (piece_at arena h)) (sym from.corners_are)
        (piece_in K vertices edges arena linked half from.in_range cycle from.is h i)

    half_with : (p : Piece) → Contains (pieces_round corners) p → (x : ℕ) × Contains cycle x × (piece_at arena x ≡ p)
    half_with p i = half_of K vertices edges arena linked half from.in_range cycle from.is p (subst (λ (c : List ℕ). Contains (pieces_round c) p) from.corners_are i)

    starts : (xs : List ℕ) × (corners ≡ (piece_at arena half).0 ∷ (piece_at arena half).1 ∷ xs)
    starts = first_two corners walk (piece_at arena half) begins.0 begins.1

    below_by : (other : List ℕ) → Walk other → (q : Piece) (ys : List Piece) → pieces_round other ≡ q ∷ ys
        → (o : Ordering) → piece_order (piece_at arena half) q ≡ o → ¬ (o ≡ Greater) → IsTrue (is_le (slice_cmp nat_cmp corners other))
    below_by other w q ys e Less h n =
        let ours = starts in
        let theirs = first_two other w q ys e in
        let less : slice_cmp nat_cmp corners other ≡ Less
        = ap (λ (c : List ℕ). slice_cmp nat_cmp c other) ours.1
        ∙ ap (λ (c : List ℕ). slice_cmp nat_cmp ((piece_at arena half).0 ∷ (piece_at arena half).1 ∷ ours.0) c) theirs.1
        ∙ less_by_pieces (piece_at arena half) q ours.0 theirs.0 h in
        subst (λ (o : Ordering). IsTrue (is_le o)) (sym less) refl
    below_by other w q ys e Equal h n =
        let same : piece_at arena half ≡ q = equal_pieces (piece_at arena half) q h in
        let one : corners ≡ other = same_from K vertices edges corners other q begins.0 ys walk w
        (begins.1 ∙ ap (λ (p : Piece). p ∷ begins.0) same) e in
        subst (λ (c : List ℕ). IsTrue (is_le (slice_cmp nat_cmp corners c))) one
        (subst (λ (o : Ordering). IsTrue (is_le o)) (sym (tied_itself nat_list_cmp_total corners)) refl)
    below_by other w q ys e Greater h n = absurd (n refl)

    -- it is begun at its least rotation
    least : IsLeastRotation corners
    least other r =
        let w : Walk other = rotated_walk K vertices edges corners other r walk in
        let p = some_piece other w in
        let i : Contains (pieces_round other) p.0 = subst (λ (ps : List Piece). Contains ps p.0) (sym p.2) (in_head p.0 p.1) in
        let j : IsOfWalk corners p.0.0 p.0.1 = of_rotated K vertices edges other corners (rotated_back corners other r) p.0.0 p.0.1 i in
        let g = half_with p.0 j in
        below_by other w p.0 p.1 p.2 (piece_order (piece_at arena half) p.0) refl
        (subst (λ (q : Piece). ¬ (piece_order (piece_at arena half) q ≡ Greater)) g.2 (from.least g.0 g.1))

  -- ---- the outside

  one_outside : (u w v z : ℕ) → IsOutside K vertices edges u w → IsOutside K vertices edges v z → (u ≡ v) × (w ≡ z)
  one_outside u w v z o p = elim (same_or_not v u) [
    | inl e ↦ (sym e, same_first (subst (λ (x : ℕ). IsOutside K vertices edges x z) e p))
    | inr n ↦
        let one = o.least v p.in_range n in
        let two = p.least u o.in_range (λ e. n (sym e)) in
        absurd (let no : Less ≡ ordering_reverse Less = sym two ∙ order_turned K (point_at K vertices u) (point_at K vertices v) ∙ ap ordering_reverse one in cc)
  ]
    where
      same_first : IsOutside K vertices edges u z → w ≡ z
      same_first q = elim (same_or_not w z) [
        | inl e ↦ e
        | inr n ↦ absurd (clockwise_once K (west K.ops) (way K vertices edges u w) (way K vertices edges u z)
            (o.first.first z q.first.neighbour (λ e. e) (λ e. n (sym e))) (q.first.first w o.first.neighbour (λ e. e) n))
      ]

  module _ (outside : ℕ) (in_range : outside < count arena) (out : IsOutside K vertices edges (piece_at arena outside).0 (piece_at arena outside).1)
      (faces : List Face) (outer : List ℕ) (c : AreCycles arena outside faces outer) where
    -- a walk that has the outside has the half-edge outside
    on_outside : (corners : List ℕ) (half : ℕ) (cycle : List ℕ) → IsFrom arena corners half cycle → HasOutside K vertices edges corners → Contains cycle outside
    on_outside corners half cycle from h =
        let one = one_outside h.0 h.1 (piece_at arena outside).0 (piece_at arena outside).1 h.2 out in
        let g = half_with corners half cycle from (h.0, h.1) h.3 in
        let same : piece_at arena g.0 ≡ piece_at arena outside = g.2 ∙ (λ i. (one.0 i, one.1 i)) in
        let below : g.0 < count arena = cycle_within arena linked.holds.is_arena half cycle from.in_range from.is g.0 g.1 in
        subst (λ (x : ℕ). Contains cycle x) (linked.holds.once g.0 outside below in_range same) g.1

    pub outer_walk : IsOuterWalk K vertices edges outer
    outer_walk =
        let o = c.outer_is in
        record {
          walk = walk outer o.0 o.1 o.2;
          least = least outer o.0 o.1 o.2;
          outer = ((piece_at arena outside).0, (piece_at arena outside).1, out, has_piece outer o.0 o.1 o.2 outside o.3);
        }

    face_walk : (k : ℕ) → k < length faces → IsFaceWalk K vertices edges (corners_in faces k)
    face_walk k l =
        let f = c.face k l in
        record {
          walk = walk (corners_in faces k) (slice_index c.begins k) f.0 f.1;
          least = least (corners_in faces k) (slice_index c.begins k) f.0 f.1;
          inner = λ h. f.2 (on_outside (corners_in faces k) (slice_index c.begins k) f.0 f.1 h);
        }

    in_order : (j k : ℕ) → j < k → k < length faces → slice_cmp nat_cmp (corners_in faces j) (corners_in faces k) ≡ Less
    in_order j k l m =
        let f = c.face j (omega arith) in
        let g = c.face k m in
        let ours = starts (corners_in faces j) (slice_index c.begins j) f.0 f.1 in
        let theirs = starts (corners_in faces k) (slice_index c.begins k) g.0 g.1 in
        ap (λ (x : List ℕ). slice_cmp nat_cmp x (corners_in faces k)) ours.1
        ∙ ap (λ (x : List ℕ). slice_cmp nat_cmp ((piece_at arena (slice_index c.begins j)).0 ∷ (piece_at arena (slice_index c.begins j)).1 ∷ ours.0) x) theirs.1
        ∙ less_by_pieces (piece_at arena (slice_index c.begins j)) (piece_at arena (slice_index c.begins k)) ours.0 theirs.0 (c.sorted j k l m)

    -- a walk that is begun at its least rotation is each such walk that has a piece of it
    same_walk : (x y : List ℕ) → Walk x → IsLeastRotation x → Walk y → IsLeastRotation y → (q : Piece) → Contains (pieces_round x) q → Contains (pieces_round y) q → x ≡ y
    same_walk x y wx lx wy ly q i j = one_least x y lx ly (one_walk_round K vertices edges x y wx wy q.0 q.1 i j)

    abbrev no_corners : Face
    no_corners = record { corners = [] }

    listed : (x : Face) → IsFaceWalk K vertices edges x.corners → (y : Face) × Contains faces y × (x ≡ y)
    listed x f =
        let p = some_piece x.corners f.walk in
        let i : Contains (pieces_round x.corners) p.0 = subst (λ (ps : List Piece). Contains ps p.0) (sym p.2) (in_head p.0 p.1) in
        let h = linked.holds.every p.0.0 p.0.1 (first_directed (pieces_round x.corners) p.0 p.1 f.walk.follow p.2) in
        elim (c.every h.0 h.1) [
          | inl o ↦
              let j : Contains (pieces_round outer) p.0 = subst (λ (q : Piece). Contains (pieces_round outer) q) h.2 (has_piece outer o.0 o.1 o.2 h.0 o.3) in
              let same : x.corners ≡ outer = same_walk x.corners outer f.walk f.least (walk outer o.0 o.1 o.2) (least outer o.0 o.1 o.2) p.0 i j in
              absurd (f.inner (subst (λ (cs : List ℕ). HasOutside K vertices edges cs) (sym same) outer_walk.outer))
          | inr o ↦
              let k : ℕ = o.0 in
              let l : k < length faces = o.1 in
              let on = o.2 in
              let j : Contains (pieces_round (corners_in faces k)) p.0
              = subst (λ (q : Piece). Contains (pieces_round (corners_in faces k)) q) h.2 (has_piece (corners_in faces k) on.0 on.1 on.2 h.0 on.3) in
              let face = face_walk k l in
              let same : x.corners ≡ corners_in faces k = same_walk x.corners (corners_in faces k) f.walk f.least face.walk face.least p.0 i j in
              (slice_index_or faces k no_corners, (k, l, get_or_default faces k (slice_index_or faces k no_corners) no_corners l), λ i. record { corners = same i })
        ]

    pub are_faces : AreFaces K vertices edges faces
    are_faces = record {
      sorted = sorted_by_places (on (λ f. f.corners) (slice_cmp nat_cmp)) faces (λ j k d l m.
          let lj : j < length faces = omega arith in
          ap (λ (f : Face). slice_cmp nat_cmp f.corners (slice_index_or faces k d).corners) (get_or_default faces j d no_corners lj)
          ∙ ap (λ (f : Face). slice_cmp nat_cmp (corners_in faces j) f.corners) (get_or_default faces k d no_corners m)
          ∙ in_order j k l m);
      only = λ x i. subst (λ (f : Face). IsFaceWalk K vertices edges f.corners) (get_or_default faces i.0 no_corners x i.1 ∙ i.2) (face_walk i.0 i.1);
      every = listed;
    }
