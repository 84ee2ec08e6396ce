-- The faces are the bounded regions, in the words of drawings.
use Prim.Native.Nat.{ℕ, zero, suc}
use mathlib.Core.Path.{◌≡◌, sym, subst, ap, ◌∙◌}
use mathlib.Core.List.{List, [], ◌∷◌}
use Rattle.std.proofs.Common.{arith, get_or}
use Rattle.std.proofs.lemmas.Cmp.{nat_list_cmp_total, tied_itself}
use Rattle.std.proofs.lemmas.List.Elements.{Contains-get_or}
use Rattle.std.proofs.lemmas.List.Kept.{AllPairs-cons}
use Rattle.std.specs.Prelude.{All, AllPairs, Contains}
use Rattle.std.specs.Cmp.Lexicographic.{slice_cmp}
use Rattle.std.specs.List.{AllByRecursion}
use Rattle.std.specs.List.Sorted.{IsStrictlySortedBy}
use Rattle.std.specs.Ordering.{nat_cmp, on}
use Rattle.std.specs.declared.cmp.Ordering.{Ordering}
use Rattle.std.specs.declared.cmp.Ordering.TheVariants.{Less, Equal}
use Rattle.algebra.specs.OrderedRing.{OrderedRing}
use Rattle.plane.specs.declared.point.Point.{Point}
use Rattle.plane.specs.Points.{IsPoint}
use Rattle.plane.specs.Segments.{middle}
use Rattle.scaled_plane.specs.declared.drawing.Edge.{Edge}
use Rattle.scaled_plane.specs.declared.drawing.Face.{Face}
use Rattle.scaled_plane.specs.Lists.{IsReached, begun, gone_on, IsRotation}
use Rattle.scaled_plane.specs.Regions.{IsOff as IsOffAll, HasAtLeft, IsBounded as IsBoxed, SeesPiece}
use Rattle.scaled_plane.specs.Walks.{AreFaces, IsDirectedPiece, IsFaceWalk, IsLeastRotation, IsOuterWalk, IsOutside, IsWalk, pieces_round}
use Rattle.regions.specs.Faces.{IsPlane as IsPlaneDrawing, IsConnected as IsJoinedDrawing, IsOfWalk, WalkHasAtLeft, WalksHaveRegions, FacesAreBounded, AreBoundedRegions}
use Rattle.regions.proofs.Drawings.{Piece, piece, Among, IsDirected, IsPlane, IsConnected, Route, arrived, via}
use Rattle.regions.proofs.Regions.{LeftOf, OneRegion, IsBounded}
use Rattle.regions.proofs.Walks.{OneWalk, same}
use Rattle.regions.proofs.Directions.{directed_back, on_first, on_first_share}
use Rattle.regions.proofs.Tracing.{region_then, region_back}
use Rattle.regions.proofs.Outermost.{IsOuter}
use Rattle.regions.proofs.AlongWalks.{one_region as region_of_walk}
use Rattle.regions.proofs.InnerPoints.{some_left, middle_inner}
use Rattle.regions.proofs.Reaching.{every_region}
use Rattle.regions.proofs.Growing.{one_walk_of_connected}
use Rattle.regions.proofs.Outside.{outer_unbounded, inner_bounded as inside_bounded}
use Rattle.regions.proofs.Different.{OneLeft}
use Rattle.regions.proofs.Pieces.{place, ps, piece_of, pieces_of, among_pieces, directed, directed_piece, off_pieces, region_of, region_on, bounded_of, bounded_on, left_of, sees_of, is_plane}
use Rattle.regions.proofs.Rounds.{linked_back, some_piece, all_linked, all_directed, walk_holds}
use Rattle.regions.proofs.Cycles.{walk_through}
use Rattle.regions.proofs.Leftmost.{some_outside}
use Rattle.regions.proofs.Partition.{least_walk}
use Rattle.regions.proofs.Rotations.{of_rotated, one_least, one_walk_round}
use Rattle.regions.proofs.Outer.{in_range, outer_piece}

-- ---- sorted lists

at_each : {X : Type 0} (P : X → Type 0) (xs : List X) → AllByRecursion P xs → All P xs
at_each P [] h k d l = absurd (omega (arith, l))
at_each P (x ∷ xs) h zero d l = h.0
at_each P (x ∷ xs) h (suc k) d l = at_each P xs h.1 k d (omega (arith, l))

sorted_pairs : {X : Type 0} (order : X → X → Ordering) (xs : List X) → IsStrictlySortedBy order xs → AllPairs (λ x y. order x y ≡ Less) xs
unfolding IsStrictlySortedBy
sorted_pairs order [] h = λ i j d l within. absurd (omega (arith, within))
sorted_pairs order (x ∷ xs) h = AllPairs-cons (λ x y. order x y ≡ Less) x xs (at_each (λ y. order x y ≡ Less) xs h.0) (sorted_pairs order xs h.1)

different_lists : {xs ys : List ℕ} → slice_cmp nat_cmp xs ys ≡ Less → ¬ (xs ≡ ys)
different_lists {xs} {ys} l e = absurd (let no : Less ≡ Equal = sym l ∙ ap (λ (zs : List ℕ). slice_cmp nat_cmp xs zs) (sym e) ∙ tied_itself nat_list_cmp_total xs in cc)

-- ---- routes

route_then : {pieces : List Piece} {u v w : ℕ} → Route pieces u v → Route pieces v w → Route pieces u w
route_then arrived k = k
route_then (via s r) k = via s (route_then r k)

route_back : {pieces : List Piece} {u v : ℕ} → Route pieces u v → Route pieces v u
route_back arrived = arrived
route_back {pieces} (via {u} {v} s r) = route_then (route_back r) (via (directed_back pieces (piece u v) s) arrived)

route_of : (es : List Edge) (u : ℕ) {v : ℕ} → IsReached (IsDirectedPiece es) u v → Route (pieces_of es) u v
route_of es u begun = arrived
route_of es u (gone_on {v} w r s) = route_then (route_of es u r) (via (directed es w v s) arrived)

module _ {A : Type 0} (K : OrderedRing A) (vertices : List (Point A)) (edges : List Edge) (h : IsPlaneDrawing K vertices edges) where
  abbrev at : ℕ → Point A
  at v = place K vertices edges v

  abbrev all : List Piece
  all = ps K vertices edges

  plane : IsPlane K at all
  plane = is_plane K vertices edges h

  -- edges between joined vertices
  connected : IsJoinedDrawing K vertices edges → IsConnected all
  connected joined u v hu hv =
      route_then (route_back (route_of edges 0 (joined u (in_range K vertices edges h u hu.0 (directed_piece edges u hu.0 hu.1)))))
      (route_of edges 0 (joined v (in_range K vertices edges h v hv.0 (directed_piece edges v hv.0 hv.1))))

  of_edge : (e : Edge) → Contains edges e → Among all (piece_of e)
  of_edge e i = among_pieces edges e i

  left_point : (d : Piece) → IsDirected all d → (p : Point A) × LeftOf K at all d p
  left_point d hd = some_left K at all plane d hd (middle_inner K at all plane d hd)

  -- a point that sees a piece is in its region
  itself : (d : Piece) → IsDirected all d → (p : Point A) → LeftOf K at all d p → OneRegion K at all p p
  itself d hd p k = region_of_walk K at all plane d d hd same p p k k

  -- and off all pieces
  off_all : (u v : ℕ) (p : Point A) → SeesPiece K vertices edges u v p → IsOffAll K vertices edges p
  off_all u v p s e i = s.clear e i p (on_first K p (middle K.ops (at u) (at v))) (on_first_share K p (middle K.ops (at u) (at v)))

  point_of_walk : (corners : List ℕ) → IsWalk K vertices edges corners
      → (q : Point A) × IsPoint K q × IsOffAll K vertices edges q × WalkHasAtLeft K vertices edges corners q
  point_of_walk corners w =
      let first : (x : ℕ × ℕ) × Contains (pieces_round corners) x = some_piece K vertices edges h (pieces_round corners) w.follow in
      let u : ℕ = first.0.0 in
      let v : ℕ = first.0.1 in
      let d : IsDirected all (piece u v) = all_directed K vertices edges h (pieces_round corners) w.follow first.0 first.1 in
      let r : (p : Point A) × LeftOf K at all (piece u v) p = left_point (piece u v) d in
      let sees : SeesPiece K vertices edges u v r.0 = sees_of K vertices edges u v r.0 r.1 in (
        r.0,
        sees.point,
        off_all u v r.0 sees,
        (u, v, first.1, (r.0, sees, region_on K vertices edges (itself (piece u v) d r.0 r.1))),
      )

  module _ (e : Edge) (here : Contains edges e) where
    -- two points that see pieces of one walk
    seen_together : (corners : List ℕ) → IsWalk K vertices edges corners → (u v x y : ℕ) → IsOfWalk corners u v → IsOfWalk corners x y
        → (p q : Point A) → SeesPiece K vertices edges u v p → SeesPiece K vertices edges x y q → OneRegion K at all p q
    seen_together corners w u v x y i j p q sp sq =
        region_of_walk K at all plane (piece u v) (piece x y) (all_directed K vertices edges h (pieces_round corners) w.follow (u, v) i)
        (all_linked K vertices edges h (pieces_round corners) w.follow (u, v) (x, y) i j)
        p q (left_of K vertices edges u v p sp) (left_of K vertices edges x y q sq)

    one_region : (corners : List ℕ) → IsWalk K vertices edges corners → (p q : Point A)
        → WalkHasAtLeft K vertices edges corners p → WalkHasAtLeft K vertices edges corners q → OneRegion K at all p q
    one_region corners w p q l k =
        region_then K at all (region_back K at all (region_of K vertices edges l.3.2))
        (region_then K at all (seen_together corners w l.0 l.1 k.0 k.1 l.2 k.2 l.3.0 k.3.0 l.3.1 k.3.1) (region_of K vertices edges k.3.2))

    pub regions_of_walks : WalksHaveRegions K vertices edges
    regions_of_walks = record {
      seen = λ u v d.
          let r : (p : Point A) × LeftOf K at all (piece u v) p = left_point (piece u v) (directed edges u v d) in
          (r.0, sees_of K vertices edges u v r.0 r.1);
      one_region = λ corners w p q l k. region_on K vertices edges (one_region corners w p q l k);
      no_region_missed = λ p hp off.
          let r : (d : Piece) × IsDirected all d × ((q : Point A) × LeftOf K at all d q × OneRegion K at all p q)
          = every_region K at all plane (piece_of e) (of_edge e here) p hp (off_pieces K vertices edges p off) in
          let w : (corners : List ℕ) × IsWalk K vertices edges corners × IsOfWalk corners r.0.tail r.0.head
          = walk_through K vertices edges h r.0.tail r.0.head (directed_piece edges r.0.tail r.0.head r.1) in (
            w.0,
            w.1,
            (r.0.tail, r.0.head, w.2, (r.2.0, sees_of K vertices edges r.0.tail r.0.head r.2.0 r.2.1, region_on K vertices edges (region_back K at all r.2.2))),
          );
    }

    module _ (joined : IsJoinedDrawing K vertices edges) where
      walk_of : (d f : Piece) → IsDirected all d → IsDirected all f → OneLeft K at all d f → OneWalk K at all d f
      walk_of = one_walk_of_connected K at all plane (connected joined) (piece_of e) (of_edge e here)

      -- a bounded region is so at each of its points
      bounded_too : {p q : Point A} → OneRegion K at all p q → IsBounded K at all p → IsBounded K at all q
      bounded_too one b = (b.0, b.1, b.2, λ r k. b.3 r (region_then K at all one k))

      -- two pieces with one region are of one walk
      linked : (u v x y : ℕ) → IsDirected all (piece u v) → IsDirected all (piece x y) → (q : Point A)
          → HasAtLeft K vertices edges u v q → HasAtLeft K vertices edges x y q → OneWalk K at all (piece u v) (piece x y)
      linked u v x y d f q l k =
          walk_of (piece u v) (piece x y) d f (
            l.0,
            k.0,
            left_of K vertices edges u v l.0 l.1,
            left_of K vertices edges x y k.0 k.1,
            region_then K at all (region_of K vertices edges l.2) (region_back K at all (region_of K vertices edges k.2)),
          )

      one_walk : (corners others : List ℕ) → IsWalk K vertices edges corners → IsWalk K vertices edges others
          → (q : Point A) → WalkHasAtLeft K vertices edges corners q → WalkHasAtLeft K vertices edges others q → IsRotation corners others
      one_walk corners others w z q l k =
          let across : OneWalk K at all (piece k.0 k.1) (piece l.0 l.1)
          = linked k.0 k.1 l.0 l.1
          (all_directed K vertices edges h (pieces_round others) z.follow (k.0, k.1) k.2)
          (all_directed K vertices edges h (pieces_round corners) w.follow (l.0, l.1) l.2) q k.3 l.3 in
          one_walk_round K vertices edges corners others w z l.0 l.1 l.2 (walk_holds K vertices edges h (pieces_round others) z.follow across k.2)

      outer_not_bounded : (corners : List ℕ) → IsOuterWalk K vertices edges corners
          → (q : Point A) → WalkHasAtLeft K vertices edges corners q → ¬ IsBoxed K vertices edges q
      outer_not_bounded corners w q l b =
          let o = w.outer in
          let first : IsOuter K at all (piece o.0 o.1) = outer_piece K vertices edges h o.0 o.1 o.2 in
          let r : (p : Point A) × LeftOf K at all (piece o.0 o.1) p = left_point (piece o.0 o.1) first.1 in
          outer_unbounded K at all plane (piece o.0 o.1) first r.0 r.1
          (bounded_too (one_region corners w.walk q r.0 l (o.0, o.1, o.3, (r.0, sees_of K vertices edges o.0 o.1 r.0 r.1, region_on K vertices edges (itself (piece o.0 o.1) first.1 r.0 r.1))))
          (bounded_of K vertices edges q b))

      inner_bounded : (corners : List ℕ) → IsFaceWalk K vertices edges corners
          → (q : Point A) → WalkHasAtLeft K vertices edges corners q → IsBoxed K vertices edges q
      inner_bounded corners w q l =
          let o : (u w : ℕ) × IsOutside K vertices edges u w = some_outside K vertices edges h (omega (arith, (h.ends e here).0)) in
          let first : IsOuter K at all (piece o.0 o.1) = outer_piece K vertices edges h o.0 o.1 o.2 in
          bounded_on K vertices edges q (bounded_too (region_of K vertices edges l.3.2)
          (inside_bounded K at all plane (piece o.0 o.1) first walk_of (piece l.0 l.1) l.3.0
          (all_directed K vertices edges h (pieces_round corners) w.walk.follow (l.0, l.1) l.2)
          (λ one. w.inner (o.0, o.1, o.2, walk_holds K vertices edges h (pieces_round corners) w.walk.follow (linked_back one) l.2))
          (left_of K vertices edges l.0 l.1 l.3.0 l.3.1)))

      pub bounded_faces : FacesAreBounded K vertices edges
      bounded_faces = record { one_walk = one_walk; outer = outer_not_bounded; inner = inner_bounded }

      -- ---- a list of the faces

      one_face : (f g : List ℕ) → IsFaceWalk K vertices edges f → IsFaceWalk K vertices edges g → (q : Point A)
          → WalkHasAtLeft K vertices edges f q → WalkHasAtLeft K vertices edges g q → f ≡ g
      one_face f g w z q l k = one_least f g w.least z.least (one_walk f g w.walk z.walk q l k)

      -- a walk with a bounded region at its left is a face, begun at its least corner
      face_of : (corners : List ℕ) → IsWalk K vertices edges corners → (q : Point A) → WalkHasAtLeft K vertices edges corners q → IsBoxed K vertices edges q
          → (first : List ℕ) × IsFaceWalk K vertices edges first × WalkHasAtLeft K vertices edges first q
      face_of corners w q l b =
          let r : (first : List ℕ) × IsRotation corners first × IsLeastRotation first × IsWalk K vertices edges first = least_walk K vertices edges corners w in
          let left : WalkHasAtLeft K vertices edges r.0 q = (l.0, l.1, of_rotated K vertices edges corners r.0 r.1 l.0 l.1 l.2, l.3) in (
            r.0,
            record { walk = r.3; least = r.2; inner = λ o. outer_not_bounded r.0 (record { walk = r.3; least = r.2; outer = o }) q left b },
            left,
          )

      pub listed_faces : (faces : List Face) → AreFaces K vertices edges faces → AreBoundedRegions K vertices edges faces
      listed_faces faces are = record {
        some_point = λ f i. point_of_walk f.corners (are.only f i).walk;
        one_region = λ f i. regions_of_walks.one_region f.corners (are.only f i).walk;
        bounded = λ f i q l. inner_bounded f.corners (are.only f i) q l;
        every = λ q hq off b.
            let w : (corners : List ℕ) × IsWalk K vertices edges corners × WalkHasAtLeft K vertices edges corners q = regions_of_walks.no_region_missed q hq off in
            let r : (first : List ℕ) × IsFaceWalk K vertices edges first × WalkHasAtLeft K vertices edges first q = face_of w.0 w.1 q w.2 b in
            let f : (g : Face) × Contains faces g × (record { corners = r.0 } ≡ g) = are.every (record { corners = r.0 }) r.1 in
            (f.0, f.1, subst (λ (g : Face). WalkHasAtLeft K vertices edges g.corners q) f.2 r.2);
        each_once = λ i j d below within q l k. different_lists (sorted_pairs (on (λ (f : Face). f.corners) (slice_cmp nat_cmp)) faces are.sorted i j d below within) (one_face (get_or faces i d).corners (get_or faces j d).corners
            (are.only (get_or faces i d) (Contains-get_or faces i d (omega (arith, below, within)))) (are.only (get_or faces j d) (Contains-get_or faces j d within)) q l k);
      }
