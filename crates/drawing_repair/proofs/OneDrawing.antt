-- Segments have one drawing, or one reason why they have none, and not both.
use Rattle.std.proofs.Common.{◌≡◌, ◌∙◌, ◌<◌, ◌≤◌, ap, arith, inl, inr, refl, subst, sym}
use Prim.Native.Nat.{ℕ, zero, suc}
use Rattle.std.specs.Cmp.{IsTotalOrder}
use Rattle.std.proofs.lemmas.Cmp.{nat_cmp_total, nat_list_cmp_total, on_total, then_total}
use Rattle.std.proofs.lemmas.Slice.Zip.{AllZip-long}
use Rattle.std.specs.List.{AllZip}
use Rattle.std.specs.Ordering.{nat_cmp, on}
use Rattle.std.specs.Cmp.Lexicographic.{slice_cmp}
use Rattle.std.specs.Prelude.{ℤ, pos, ◌<ℤ◌, List, [], ◌∷◌, Contains, length, slice_get, slice_index_or, Some, None}
use Rattle.std.specs.declared.option.Option.{Option}
use Rattle.std.specs.declared.cmp.Ordering.TheVariants.{Less, Equal}
use Rattle.algebra.specs.LowestTerms.{Parts}
use Rattle.algebra.specs.NumberField.{HoldsNumbers}
use Rattle.algebra.specs.OrderedRing.{OrderedRing}
use Rattle.algebra.specs.Surd.{Surd}
use Rattle.algebra.specs.WholeSurds.{HoldsSurds, SurdNumbers}
use Rattle.plane.specs.declared.point.Point.{Point}
use Rattle.plane.specs.Points.{IsPoint, IsSamePoint, origin, point_order}
use Rattle.plane.proofs.Lines.{same_refl, same_through, same_turned}
use Rattle.plane.proofs.Members.{in_head, in_tail}
use Rattle.plane.proofs.Order.{equal_of_same, order_chain, order_same_right}
use Rattle.regions.specs.Faces.{IsConnected}
use Rattle.scaled_plane.specs.declared.drawing.Edge.{Edge}
use Rattle.scaled_plane.specs.declared.drawing.Ends.{Ends}
use Rattle.scaled_plane.specs.declared.drawing.Face.{Face}
use Rattle.scaled_plane.specs.declared.point.Pair.{Pair}
use Rattle.scaled_plane.specs.declared.point.Scaled.{Scaled}
use Rattle.scaled_plane.specs.declared.point.Segment.{Segment}
use Rattle.scaled_plane.specs.Exact.{IsExactPoint, IsTooWideExact}
use Rattle.scaled_plane.specs.Pieces.{ArePieces, AreVertices, IsPieceEdge, edge_order}
use Rattle.scaled_plane.specs.Scaling.{IsFirstOf, IsScaledOf, IsTooWide}
use Rattle.scaled_plane.specs.Walks.{AreFaces, AreJoined, IsFaceWalk, IsFirstParted}
use Rattle.arrangement.proofs.Zipped.{in_of_place}
use Rattle.std.proofs.lemmas.Int.{ints}
use Rattle.drawing_repair.specs.Kept.{kept_segments}
use Rattle.drawing_repair.specs.Repaired.{AreCut, AreDrawn, AreExact, AreFacesOf, IsRefusal, IsRepaired, IsWideDrawn}
use Rattle.drawing_repair.specs.declared.answer.Repaired.{Repaired}
use Rattle.drawing_repair.specs.declared.answer.RepairFault.{RepairFault}
use Rattle.drawing_repair.specs.declared.answer.RepairFault.TheVariants.{TooWide, TooMany, Parted, Memory}
use Rattle.drawing_repair.specs.declared.answer.Stage.TheVariants.{Input, Drawn}
use Rattle.drawing_repair.specs.declared.options.Faces.{Faces}
use Rattle.drawing_repair.specs.declared.options.Faces.TheVariants.{Find, Skip}
use Rattle.drawing_repair.specs.declared.options.Flat.{Flat}
use Rattle.drawing_repair.proofs.Exact.{not_wide}
use Rattle.drawing_repair.proofs.OneScaling.{not_too_wide, one_first, one_scaling}
use Rattle.drawing_repair.proofs.Ordered.{IsOrderOf, equal_lists, one_list, same_list}
use Rattle.drawing_repair.proofs.Quotients.{one_quotient, quotient_moved}
use Rattle.drawing_repair.proofs.SamePoints.{AreAlike, alike_turned, edge_same, zip_at}
use Rattle.drawing_repair.proofs.SameWalks.{face_walk_alike}

-- ---- the same points

pub all_at : {X : Type 0} (P : X → Type 0) (xs : List X) (d : X) → ((x : X) → Contains xs x → P x) → P d → (v : ℕ) → P (slice_index_or xs v d)
all_at P [] d all h v = h
all_at P (x ∷ xs) d all h zero = all x (in_head x xs)
all_at P (x ∷ xs) d all h (suc v) = all_at P xs d (λ y c. all y (in_tail x xs y c)) h v

zip_get : {X : Type 0} (R : X → X → Type 0) (xs ys : List X) (v : ℕ) (x : X) → AllZip R xs ys → slice_get xs v ≡ Some x → (y : X) × (slice_get ys v ≡ Some y) × R x y
zip_get R [] ys v x h e = absurd (cc)
zip_get R (w ∷ xs) [] v x h e = absurd h
zip_get R (w ∷ xs) (y ∷ ys) zero x h e = let is : w ≡ x = cc in (y, refl, subst (λ z. R z y) is h.0)
zip_get R (w ∷ xs) (y ∷ ys) (suc v) x h e = zip_get R xs ys v x h.1 e

module _ {A : Type 0} (K : OrderedRing A) where
  points_in_order : IsOrderOf (point_order K) (IsSamePoint K) (IsPoint K)
  points_in_order = record {
    turned = λ x y h. same_turned K h;
    through = λ x y z good h j. same_through K x y z good h j;
    respects = λ x y z gx gy same less. order_same_right K x y z gx gy same ∙ less;
    apart = λ x y less same. (let no : Less ≡ Equal = sym less ∙ equal_of_same K x y same in cc);
    one_way = λ x y gx gy h j. (let no : Less ≡ Equal = sym (order_chain K x y x gx gy gx h j) ∙ equal_of_same K x x (same_refl K x) in cc);
  }

  points_good : (segments : List (Segment A)) (vertices : List (Point A)) → AreVertices K segments vertices → (p : Point A) → Contains vertices p → IsPoint K p
  points_good segments vertices all p c = (all.only p c).0

  -- the vertices of the same segments are the same points
  vertices_zip : (segments : List (Segment A)) (vertices others : List (Point A)) → AreVertices K segments vertices → AreVertices K segments others → AllZip (IsSamePoint K) vertices others
  vertices_zip segments vertices others all also =
      one_list (point_order K) (IsSamePoint K) (IsPoint K) points_in_order vertices others all.sorted also.sorted
      (points_good segments vertices all) (points_good segments others also)
      (λ p c. also.every p (all.only p c)) (λ p c. all.every p (also.only p c))

  vertices_alike : (segments : List (Segment A)) (vertices others : List (Point A)) → AreVertices K segments vertices → AreVertices K segments others → AreAlike K vertices others
  vertices_alike segments vertices others all also =
      let zip = vertices_zip segments vertices others all also in
      record {
        long = sym (AllZip-long (IsSamePoint K) vertices others zip);
        points = all_at (IsPoint K) vertices (origin K.ops) (points_good segments vertices all) (K.sign_int (pos 1));
        also_points = all_at (IsPoint K) others (origin K.ops) (points_good segments others also) (K.sign_int (pos 1));
        same = zip_at (IsSamePoint K) vertices others (origin K.ops) zip (same_refl K (origin K.ops));
      }

  -- so they have the same pieces
  edges_total : IsTotalOrder edge_order
  edges_total = then_total (on_total (λ (e : Edge). e.from) nat_cmp_total) (on_total (λ (e : Edge). e.to) nat_cmp_total)

  one_edges : (segments : List (Segment A)) (vertices others : List (Point A)) (edges more : List Edge) → AreVertices K segments vertices → AreVertices K segments others
      → ArePieces K segments vertices edges → ArePieces K segments others more → edges ≡ more
  one_edges segments vertices others edges more all also pieces others_pieces =
      let alike = vertices_alike segments vertices others all also in
      equal_lists edges more (same_list edge_order edges_total (IsPieceEdge K segments vertices) (IsPieceEdge K segments others) edges more
      (edge_same K segments vertices others also alike) (edge_same K segments others vertices all (alike_turned K vertices others alike)) pieces others_pieces)

  -- and the same faces
  faces_total : IsTotalOrder (on (λ (f : Face). f.corners) (slice_cmp nat_cmp))
  faces_total = on_total (λ (f : Face). f.corners) nat_list_cmp_total

  one_faces : (edges : List Edge) (vertices others : List (Point A)) (faces more : List Face) → AreAlike K vertices others → AreFaces K vertices edges faces → AreFaces K others edges more → faces ≡ more
  one_faces edges vertices others faces more alike all also =
      equal_lists faces more (same_list (on (λ (f : Face). f.corners) (slice_cmp nat_cmp)) faces_total (λ f. IsFaceWalk K vertices edges f.corners) (λ f. IsFaceWalk K others edges f.corners) faces more
      (λ f h. face_walk_alike K edges vertices others alike f.corners h) (λ f h. face_walk_alike K edges others vertices (alike_turned K vertices others alike) f.corners h) all also)

  one_found : (faces : Faces) (edges : List Edge) (vertices others : List (Point A)) (found more : Option (List Face)) → AreAlike K vertices others
      → AreFacesOf K vertices edges faces found → AreFacesOf K others edges faces more → found ≡ more
  one_found Skip edges vertices others None None alike h j = refl
  one_found Skip edges vertices others None (Some more) alike h j = absurd j
  one_found Skip edges vertices others (Some found) more alike h j = absurd h
  one_found Find edges vertices others None more alike h j = absurd h
  one_found Find edges vertices others (Some found) None alike h j = absurd j
  one_found Find edges vertices others (Some found) (Some more) alike h j = ap Some (one_faces edges vertices others found more alike h.1 j.1)

-- ---- their exact coordinates

module _ {N W : Type 0} {k j : ℕ} {surd : W → Surd ℤ} (parts : N → Parts) (numbers : SurdNumbers k surd) (holds : HoldsNumbers j parts) (common : ℤ) (positive : pos 0 <ℤ common) where
  one_pair : (p q : Point W) (c d : Pair N) → IsPoint numbers.ring p → IsPoint numbers.ring q → IsSamePoint numbers.ring p q → IsExactPoint k surd p common parts c → IsExactPoint k surd q common parts d → c ≡ d
  one_pair p q c d hp hq same h i =
      let x : c.x ≡ d.x = holds.once c.x d.x (one_quotient numbers common positive p.x p.w q.x q.w (parts c.x) (parts d.x) hp hq same.same_x h.x i.x) in
      let y : c.y ≡ d.y = holds.once c.y d.y (one_quotient numbers common positive p.y p.w q.y q.w (parts c.y) (parts d.y) hp hq same.same_y h.y i.y) in
      λ t. record { x = x t; y = y t }

  one_coords : (ps qs : List (Point W)) (cs ds : List (Pair N)) → ((p : Point W) → Contains ps p → IsPoint numbers.ring p) → ((p : Point W) → Contains qs p → IsPoint numbers.ring p)
      → AllZip (IsSamePoint numbers.ring) ps qs → AreExact parts numbers ps common cs → AreExact parts numbers qs common ds → cs ≡ ds
  one_coords [] [] [] [] gp gq same h i = refl
  one_coords [] [] [] (d ∷ ds) gp gq same h i = absurd i
  one_coords [] [] (c ∷ cs) ds gp gq same h i = absurd h
  one_coords [] (q ∷ qs) cs ds gp gq same h i = absurd same
  one_coords (p ∷ ps) [] cs ds gp gq same h i = absurd same
  one_coords (p ∷ ps) (q ∷ qs) [] ds gp gq same h i = absurd h
  one_coords (p ∷ ps) (q ∷ qs) (c ∷ cs) [] gp gq same h i = absurd i
  one_coords (p ∷ ps) (q ∷ qs) (c ∷ cs) (d ∷ ds) gp gq same h i =
      let first : c ≡ d = one_pair p q c d (gp p (in_head p ps)) (gq q (in_head q qs)) same.0 h.0 i.0 in
      let rest : cs ≡ ds = one_coords ps qs cs ds (λ x t. gp x (in_tail p ps x t)) (λ x t. gq x (in_tail q qs x t)) same.1 h.1 i.1 in cc

  -- a point that is too wide is so by every vector
  wide_moved : (p q : Point W) → IsPoint numbers.ring p → IsPoint numbers.ring q → IsSamePoint numbers.ring p q → IsTooWideExact k surd p common → IsTooWideExact k surd q common
  wide_moved p q hp hq same wide = (
    wide.0,
    elim wide.1 [
      | inl of_x ↦ inl (quotient_moved numbers common positive p.x p.w q.x q.w wide.0 hp hq same.same_x of_x)
      | inr of_y ↦ inr (quotient_moved numbers common positive p.y p.w q.y q.w wide.0 hp hq same.same_y of_y)
    ],
    wide.2,
  )

  -- where all points have exact coordinates, none is too wide
  none_wide : (ps : List (Point W)) (cs : List (Pair N)) → ((p : Point W) → Contains ps p → IsPoint numbers.ring p) → AreExact parts numbers ps common cs → (v : ℕ) → ¬ IsWideDrawn numbers ps common v
  none_wide [] cs good h v wide = let e = wide.1 in absurd (cc)
  none_wide (p ∷ ps) [] good h v wide = absurd h
  none_wide (p ∷ ps) (c ∷ cs) good h zero wide =
      let is : p ≡ wide.0 = (let e = wide.1 in cc) in
      not_wide parts numbers common positive p c (good p (in_head p ps)) h.0 (subst (λ q. IsTooWideExact k surd q common) (sym is) wide.2)
  none_wide (p ∷ ps) (c ∷ cs) good h (suc v) wide = none_wide ps cs (λ q t. good q (in_tail p ps q t)) h.1 v wide

-- ---- one answer, or one reason

module _ {N W : Type 0} {k j : ℕ} {surd : W → Surd ℤ} (parts : N → Parts) (numbers : SurdNumbers k surd) (holds : HoldsNumbers j parts) (ring_holds : HoldsSurds k surd)
    (flat : Flat) (ends : Ends N) where
  abbrev IsCut : Scaled W → List (Point W) → Type 0
  IsCut scaled vertices = AreCut parts numbers flat ends scaled vertices

  abbrev IsDrawing : Scaled W → List (Point W) → Ends N → Type 0
  IsDrawing scaled vertices drawn = AreDrawn parts numbers flat ends scaled vertices drawn

  abbrev segments_of : Scaled W → List (Segment W)
  segments_of scaled = kept_segments numbers.ring scaled.points flat ends.edges

  common_positive : (scaled : Scaled W) → IsScaledOf parts numbers ends.coords scaled → pos 0 <ℤ scaled.common
  common_positive scaled of = subst (λ z. pos 0 <ℤ z) (sym of.is) (let above = of.denominator.positive in omega (arith, ints, above))

  -- scaled points are one, so what is said of others is said of these
  cut_there : (s t : Scaled W) (vertices others : List (Point W)) → IsCut s vertices → IsCut t others → IsCut s others
  cut_there s t vertices others h i = subst (λ x. IsCut x others) (sym (one_scaling parts numbers ring_holds ends.coords s t h.points i.points)) i

  drawn_there : (s t : Scaled W) (vertices others : List (Point W)) (drawn : Ends N) → IsCut s vertices → IsDrawing t others drawn → IsDrawing s others drawn
  drawn_there s t vertices others drawn h i = subst (λ x. IsDrawing x others drawn) (sym (one_scaling parts numbers ring_holds ends.coords s t h.points i.cut.points)) i

  alike : (s t : Scaled W) (vertices others : List (Point W)) → IsCut s vertices → IsCut t others → AreAlike numbers.ring vertices others
  alike s t vertices others h i = vertices_alike numbers.ring (segments_of s) vertices others h.cuts (cut_there s t vertices others h i).cuts

  one_drawn : (s t : Scaled W) (vertices others : List (Point W)) (a b : Ends N) → IsDrawing s vertices a → IsDrawing t others b → a ≡ b
  one_drawn s t vertices others a b h i =
      let also = drawn_there s t vertices others b h.cut i in
      let coords : a.coords ≡ b.coords
      = one_coords parts numbers holds s.common (common_positive s h.cut.points) vertices others a.coords b.coords
      (points_good numbers.ring (segments_of s) vertices h.cut.cuts) (points_good numbers.ring (segments_of s) others also.cut.cuts)
      (vertices_zip numbers.ring (segments_of s) vertices others h.cut.cuts also.cut.cuts) h.coords also.coords in
      let edges : a.edges ≡ b.edges
      = one_edges numbers.ring (segments_of s) vertices others a.edges b.edges h.cut.cuts also.cut.cuts h.pieces also.pieces in
      λ t. record { coords = coords t; edges = edges t }

  pub one_answer : (faces : Faces) (a b : Repaired N) → IsRepaired parts numbers flat ends faces a → IsRepaired parts numbers flat ends faces b → a ≡ b
  one_answer faces a b h i =
      let drawn : a.ends ≡ b.ends = one_drawn h.0 i.0 h.1 i.1 a.ends b.ends h.2 i.2 in
      let found : a.faces ≡ b.faces
      = one_found numbers.ring faces a.ends.edges h.1 i.1 a.faces b.faces (alike h.0 i.0 h.1 i.1 h.2.cut i.2.cut) h.3
      (subst (λ (edges : List Edge). AreFacesOf numbers.ring i.1 edges faces b.faces) (sym (ap (λ (e : Ends N). e.edges) drawn)) i.3) in
      λ t. record { ends = drawn t; faces = found t }

  -- ---- reasons that exclude each other

  abbrev Many : Type 0
  Many = (scaled : Scaled W) × IsScaledOf parts numbers ends.coords scaled × ((vertices : List (Point W)) → IsCut scaled vertices → 16384 < length vertices)

  abbrev Wide : ℕ → Type 0
  Wide v = (scaled : Scaled W) × (vertices : List (Point W)) × IsCut scaled vertices × (length vertices ≤ 16384) × IsFirstOf (IsWideDrawn numbers vertices scaled.common) v

  many_or_few : Many → (scaled : Scaled W) (vertices : List (Point W)) → IsCut scaled vertices → length vertices ≤ 16384 → ⊥
  many_or_few many scaled vertices cut few =
      let there : IsCut many.0 vertices = subst (λ x. IsCut x vertices) (sym (one_scaling parts numbers ring_holds ends.coords many.0 scaled many.1 cut.points)) cut in
      let large = many.2 vertices there in omega (arith, large, few)

  wide_there : (s t : Scaled W) (vertices others : List (Point W)) → IsCut s vertices → IsCut t others → (v : ℕ) → IsWideDrawn numbers vertices s.common v → IsWideDrawn numbers others t.common v
  wide_there s t vertices others h i v wide =
      let same : s ≡ t = one_scaling parts numbers ring_holds ends.coords s t h.points i.points in
      let also = cut_there s t vertices others h i in
      let other = zip_get (IsSamePoint numbers.ring) vertices others v wide.0 (vertices_zip numbers.ring (segments_of s) vertices others h.cuts also.cuts) wide.1 in
      let here = points_good numbers.ring (segments_of s) vertices h.cuts wide.0 (in_of_place vertices v wide.0 wide.1) in
      let there = points_good numbers.ring (segments_of s) others also.cuts other.0 (in_of_place others v other.0 other.1) in (
        other.0,
        other.1,
        subst (λ (x : Scaled W). IsTooWideExact k surd other.0 x.common) same
            (wide_moved parts numbers holds s.common (common_positive s h.points) wide.0 other.0 here there other.2 wide.2),
      )

  wide_or_drawn : (v : ℕ) → Wide v → (scaled : Scaled W) (vertices : List (Point W)) (drawn : Ends N) → IsDrawing scaled vertices drawn → ⊥
  wide_or_drawn v wide scaled vertices drawn h =
      none_wide parts numbers holds scaled.common (common_positive scaled h.cut.points) vertices drawn.coords (points_good numbers.ring (segments_of scaled) vertices h.cut.cuts) h.coords v
      (wide_there wide.0 scaled wide.1 vertices wide.2 h.cut v wide.4.0)

  abbrev IsReason : Faces → RepairFault → Type 0
  IsReason faces fault = IsRefusal parts numbers flat ends faces fault

  one_wide : (u v : ℕ) → Wide u → Wide v → u ≡ v
  one_wide u v h i =
      one_first (IsWideDrawn numbers h.1 h.0.common) (IsWideDrawn numbers i.1 i.0.common)
      (wide_there h.0 i.0 h.1 i.1 h.2 i.2) (wide_there i.0 h.0 i.1 h.1 i.2 h.2) u v h.4 i.4

  one_input : (u v : ℕ) → IsTooWide parts ends.coords u → IsTooWide parts ends.coords v → u ≡ v
  one_input u v (inl h) (inl i) = one_first _ _ (λ w p. p) (λ w p. p) u v h i
  one_input u v (inl h) (inr i) = absurd (i.0 u h.0)
  one_input u v (inr h) (inl i) = absurd (h.0 v i.0)
  one_input u v (inr h) (inr i) = one_first _ _ (λ w p. p) (λ w p. p) u v h.1 i.1

  input_or_scaled : (v : ℕ) → IsTooWide parts ends.coords v → (scaled : Scaled W) → IsScaledOf parts numbers ends.coords scaled → ⊥
  input_or_scaled v wide scaled of = not_too_wide parts numbers holds ends.coords scaled of v wide

  least_parted : (edges : List Edge) (m n u v : ℕ) → IsFirstParted edges m u → IsFirstParted edges n v → u ≡ v
  least_parted edges m n u v h i =
      one_first (λ w. ¬ AreJoined edges 0 w) (λ w. ¬ AreJoined edges 0 w) (λ w p. p) (λ w p. p) u v
      (h.parted, λ w less apart. apart (h.least w less)) (i.parted, λ w less apart. apart (i.least w less))

  pub one_reason : (faces : Faces) (e f : RepairFault) → IsReason faces e → IsReason faces f → e ≡ f
  one_reason faces (TooWide u Input) (TooWide v Input) h i = ap (λ w. TooWide w Input) (one_input u v h i)
  one_reason faces (TooWide u Input) (TooWide v Drawn) h i = absurd (input_or_scaled u h i.0 i.2.points)
  one_reason faces (TooWide u Input) TooMany h i = absurd (input_or_scaled u h i.0 i.1)
  one_reason faces (TooWide u Input) (Parted v) h i = absurd (input_or_scaled u h i.0 i.4.cut.points)
  one_reason faces (TooWide u Input) (Memory error) h i = absurd i
  one_reason faces (TooWide u Drawn) (TooWide v Input) h i = absurd (input_or_scaled v i h.0 h.2.points)
  one_reason faces (TooWide u Drawn) (TooWide v Drawn) h i = ap (λ w. TooWide w Drawn) (one_wide u v h i)
  one_reason faces (TooWide u Drawn) TooMany h i = absurd (many_or_few i h.0 h.1 h.2 h.3)
  one_reason faces (TooWide u Drawn) (Parted v) h i = absurd (wide_or_drawn u h i.0 i.1 i.2 i.4)
  one_reason faces (TooWide u Drawn) (Memory error) h i = absurd i
  one_reason faces TooMany (TooWide v Input) h i = absurd (input_or_scaled v i h.0 h.1)
  one_reason faces TooMany (TooWide v Drawn) h i = absurd (many_or_few h i.0 i.1 i.2 i.3)
  one_reason faces TooMany TooMany h i = refl
  one_reason faces TooMany (Parted v) h i = absurd (many_or_few h i.0 i.1 i.4.cut i.4.few)
  one_reason faces TooMany (Memory error) h i = absurd i
  one_reason faces (Parted u) (TooWide v Input) h i = absurd (input_or_scaled v i h.0 h.4.cut.points)
  one_reason faces (Parted u) (TooWide v Drawn) h i = absurd (wide_or_drawn v i h.0 h.1 h.2 h.4)
  one_reason faces (Parted u) TooMany h i = absurd (many_or_few i h.0 h.1 h.4.cut h.4.few)
  one_reason faces (Parted u) (Parted v) h i =
      ap Parted (least_parted h.2.edges (length h.1) (length i.1) u v h.5
      (subst (λ (drawn : Ends N). IsFirstParted drawn.edges (length i.1) v) (sym (one_drawn h.0 i.0 h.1 i.1 h.2 i.2 h.4 i.4)) i.5))
  one_reason faces (Parted u) (Memory error) h i = absurd i
  one_reason faces (Memory error) f h i = absurd h

  connected : (faces : Faces) (vertices : List (Point W)) (edges : List Edge) (found : Option (List Face)) → faces ≡ Find → AreFacesOf numbers.ring vertices edges faces found → IsConnected numbers.ring vertices edges
  connected Skip vertices edges found e h = absurd (cc)
  connected Find vertices edges None e h = absurd h
  connected Find vertices edges (Some found) e h = h.0

  pub not_both : (faces : Faces) (a : Repaired N) (f : RepairFault) → IsRepaired parts numbers flat ends faces a → IsReason faces f → ⊥
  not_both faces a (TooWide v Input) h i = input_or_scaled v i h.0 h.2.cut.points
  not_both faces a (TooWide v Drawn) h i = wide_or_drawn v i h.0 h.1 a.ends h.2
  not_both faces a TooMany h i = many_or_few i h.0 h.1 h.2.cut h.2.few
  not_both faces a (Parted v) h i =
      let joined : IsConnected numbers.ring h.1 a.ends.edges = connected faces h.1 a.ends.edges a.faces i.3 h.3 in
      let drawn : i.2 ≡ a.ends = one_drawn i.0 h.0 i.1 h.1 i.2 a.ends i.4 h.2 in
      let long : length i.1 ≡ length h.1 = (alike i.0 h.0 i.1 h.1 i.4.cut h.2.cut).long in
      i.5.parted (subst (λ (drawn : Ends N). AreJoined drawn.edges 0 v) (sym drawn) (joined v (subst (λ (n : ℕ). v < n) long i.5.in_range)))
  not_both faces a (Memory error) h i = i
