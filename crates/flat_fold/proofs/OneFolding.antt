-- A sheet is folded in one way: its faces have one map each, and its vertices one list of images.
use Rattle.std.proofs.Common.{◌≡◌, ◌∙◌, ap, sym, refl, subst, ℕ, zero, suc, List, [], ◌∷◌, ◌<◌, ◌≤◌, length, ℤ, Option, Some, None, inl, inr, ◌⊎◌, pos, arith}
use Rattle.std.specs.Prelude.{slice_index_or}
use Rattle.std.proofs.lemmas.Bool.{cases_lt}
use Rattle.std.proofs.lemmas.List.{ext_get_or}
use Rattle.std.proofs.lemmas.Option.{get_or_from_slice_get, slice_get_within}
use Rattle.algebra.specs.LowestTerms.{Parts}
use Rattle.algebra.specs.OrderedField.{OrderedField}
use Rattle.algebra.specs.Surd.{Surd}
use Rattle.algebra.specs.WholeSurds.{SurdNumbers}
use Rattle.scaled_plane.specs.declared.drawing.Edge.{Edge}
use Rattle.scaled_plane.specs.Walks.{pieces_round}
use Rattle.scaled_plane.specs.declared.drawing.Ends.{Ends}
use Rattle.scaled_plane.specs.declared.drawing.Face.{Face}
use Rattle.scaled_plane.specs.declared.point.Pair.{Pair}
use Rattle.flat_fold.specs.declared.images.Origin.{Origin}
use Rattle.flat_fold.specs.declared.motion.Motion.{Motion}
use Rattle.flat_fold.specs.Computed.{Computed, ComputedField, Fits}
use Rattle.flat_fold.specs.declared.sides.Side.{Side}
use Rattle.flat_fold.specs.declared.sides.Sides.{Sides}
use Rattle.flat_fold.specs.EdgeSides.{Begins, IsSide, KnowsSides, sides_at}
use Rattle.flat_fold.specs.Faces.{corners_at, edge_at}
use Rattle.flat_fold.specs.Folded.{AreFaceMaps, IsFirstPlacePast, IsFolding}
use Rattle.flat_fold.specs.Folding.{IsFoldable}
use Rattle.flat_fold.specs.Images.{AreImages, AreNumbers, Gives, IsBefore, IsNumberOf, corner_at, image_at, map_at, origin_at, place_by}
use Rattle.flat_fold.specs.Motions.{identity}
use Rattle.flat_fold.proofs.FoldingLaws.{same_or_not, same_turn_or_not}
use Rattle.flat_fold.specs.Sheets.{FormSheet}
use Rattle.flat_fold.proofs.OnePathMaps.{neither_before}
use Rattle.flat_fold.proofs.SheetLaws.{face-walk, one-face}
use Rattle.flat_fold.proofs.SideLaws.{begins-along}

-- ---- maps

decided : {X : Type 0} {x y : X} → (x ≡ y) ⊎ ¬ (x ≡ y) → ¬ ¬ (x ≡ y) → x ≡ y
decided (inl e) some = e
decided (inr n) some = absurd (some n)

module _ {A : Type 0} (F : OrderedField A) where
  -- two numbers that can't differ are one, and so are two maps
  same_number : (x y : A) → ¬ ¬ (x ≡ y) → x ≡ y
  same_number x y = decided (same_or_not F x y _ refl)

  same_motion : (m n : Motion A) → ¬ ¬ (m ≡ n) → m ≡ n
  same_motion m n some =
      let c : m.c ≡ n.c = same_number m.c n.c (λ no. some (λ e. no (ap (λ (k : Motion A). k.c) e))) in
      let s : m.s ≡ n.s = same_number m.s n.s (λ no. some (λ e. no (ap (λ (k : Motion A). k.s) e))) in
      let p : m.p ≡ n.p = same_number m.p n.p (λ no. some (λ e. no (ap (λ (k : Motion A). k.p) e))) in
      let r : m.r ≡ n.r = same_number m.r n.r (λ no. some (λ e. no (ap (λ (k : Motion A). k.r) e))) in
      let turned : m.turned ≡ n.turned = decided (same_turn_or_not F m.turned n.turned) (λ no. some (λ e. no (ap (λ (k : Motion A). k.turned) e))) in
      λ i. record { c = c i; s = s i; p = p i; r = r i; turned = turned i }

  -- each face is reached by a walk, whose map it has
  pub one-maps : (coords : List (Pair A)) (edges : List Edge) (faces : List Face) → IsFoldable F coords edges faces → (maps others : List (Motion A))
      → AreFaceMaps F coords edges faces maps → AreFaceMaps F coords edges faces others → maps ≡ others
  one-maps coords edges faces foldable maps others a b =
      ext_get_or (identity F) maps others (a.long ∙ sym b.long) (λ f l.
      let within : f < length faces = subst (λ (n : ℕ). f < n) a.long l in
      same_motion (map_at F maps f) (map_at F others f) (λ no. foldable.reached f within (λ w. no (a.walk f w.0 within w.1 ∙ sym (b.walk f w.0 within w.1)))))

-- ---- images

before-not_back : (o p : Origin) → IsBefore o p → IsBefore p o → ⊥
before-not_back o p (inl x) (inl y) = omega (arith, x, y)
before-not_back o p (inl x) (inr y) = let e = y.0 in omega (arith, x, e)
before-not_back o p (inr x) (inl y) = let e = x.0 in omega (arith, y, e)
before-not_back o p (inr x) (inr y) = let a = x.1 in let b = y.1 in omega (arith, a, b)

not_before : (o p : Origin) → o ≡ p → ¬ IsBefore o p
not_before o p e h = let again : IsBefore p o = subst (λ (q : Origin). IsBefore q o) e (subst (λ (q : Origin). IsBefore o q) (sym e) h) in before-not_back o p h again

module _ {A : Type 0} (F : OrderedField A) (coords : List (Pair A)) (faces : List Face) (maps : List (Motion A)) where
  abbrev Are : List Origin → List (Pair A) → Type 0
  Are origins images = AreImages F coords faces maps origins images

  -- the image of the number i, of those that are given first, is that of the number j among the others
  pub record IsSameImage (origins others : List Origin) (images places : List (Pair A)) (i j : ℕ) : Type 0 where
    pub within : j < length places
    pub origin : origin_at others j ≡ origin_at origins i
    pub place : image_at F places j ≡ image_at F images i

  module _ (origins others : List Origin) (images places : List (Pair A)) (a : Are origins images) (b : Are others places) where
    -- a vertex and a place of it have one least face
    same_origin : (i j : ℕ) → i < length images → j < length places → (origin_at others j).vertex ≡ (origin_at origins i).vertex → image_at F places j ≡ image_at F images i
        → origin_at others j ≡ origin_at origins i
    same_origin i j l m vertex place =
        let here = (a.each i l).given in
        let there = (b.each j m).given in
        let here' : Gives F coords faces maps (origin_at origins i).face (origin_at others j).vertex (image_at F places j)
        = subst (λ v. Gives F coords faces maps (origin_at origins i).face v (image_at F places j)) (sym vertex)
        (subst (λ (p : Pair A). Gives F coords faces maps (origin_at origins i).face (origin_at origins i).vertex p) (sym place) here) in
        let there' : Gives F coords faces maps (origin_at others j).face (origin_at origins i).vertex (image_at F images i)
        = subst (λ v. Gives F coords faces maps (origin_at others j).face v (image_at F images i)) vertex
        (subst (λ (p : Pair A). Gives F coords faces maps (origin_at others j).face (origin_at others j).vertex p) place there) in
        let most : (origin_at others j).face ≤ (origin_at origins i).face = (b.each j m).least (origin_at origins i).face here' in
        let least : (origin_at origins i).face ≤ (origin_at others j).face = (a.each i l).least (origin_at others j).face there' in
        let face : (origin_at others j).face ≡ (origin_at origins i).face = omega (arith, most, least) in
        λ t. record { vertex = vertex t; face = face t }

    found : (i : ℕ) → i < length images → (j : ℕ) × IsSameImage origins others images places i j
    found i l =
        let at = b.all (origin_at origins i).face (origin_at origins i).vertex (image_at F images i) (a.each i l).given in
        (at.0, record { within = at.1.within; origin = same_origin i at.0 l at.1.within at.1.vertex at.1.place; place = at.1.place })

    -- it stands no earlier there
    no-earlier : (i j : ℕ) → i < length images → j < length places → origin_at others j ≡ origin_at origins i → i ≤ j
    no-earlier zero j l m e = omega arith
    no-earlier (suc i) j l m e =
        let less : i < length images = omega (arith, l) in
        let before = found i less in
        let reached : i ≤ before.0 = no-earlier i before.0 less before.1.within before.1.origin in
        let order : IsBefore (origin_at origins i) (origin_at origins (suc i)) = a.in_order i (suc i) (omega arith) l in
        elim (cases_lt before.0 j) [
          | inl later ↦ omega (arith, reached, later)
          | inr behind ↦ absurd (elim (cases_lt j before.0) [
            | inl sooner ↦ before-not_back (origin_at origins i) (origin_at origins (suc i)) order
                (subst (λ (q : Origin). IsBefore q (origin_at origins i)) e (subst (λ (q : Origin). IsBefore (origin_at others j) q) before.1.origin (b.in_order j before.0 sooner before.1.within)))
            | inr ahead ↦ (
                let same : before.0 ≡ j = omega (arith, behind, ahead) in
                not_before (origin_at origins i) (origin_at origins (suc i)) (sym before.1.origin ∙ ap (λ k. origin_at others k) same ∙ e) order
                )
          ])
        ]

  module _ (origins others : List Origin) (images places : List (Pair A)) (a : Are origins images) (b : Are others places) where
    -- .. and no later
    same_place : (i : ℕ) → i < length images → IsSameImage origins others images places i i
    same_place i l =
        let at = found origins others images places a b i l in
        let low : i ≤ at.0 = no-earlier origins others images places a b i at.0 l at.1.within at.1.origin in
        let high : at.0 ≤ i = no-earlier others origins places images b a at.0 i at.1.within l (sym at.1.origin) in
        let same : at.0 ≡ i = omega (arith, low, high) in
        subst (λ j. IsSameImage origins others images places i j) same at.1

  no-longer : (origins others : List Origin) (images places : List (Pair A)) → Are origins images → Are others places → length images ≤ length places
  no-longer origins others images places a b = elim (cases_lt (length places) (length images)) [
    | inl more ↦ absurd (let at = (same_place origins others images places a b (length places) more).within in omega (arith, at))
    | inr most ↦ most
  ]

  module _ (origins others : List Origin) (images places : List (Pair A)) (a : Are origins images) (b : Are others places) where
    long : length images ≡ length places
    long = let x = no-longer origins others images places a b in let y = no-longer others origins places images b a in omega (arith, x, y)

    pub one-images : images ≡ places
    one-images = ext_get_or (record { x = F.int (pos 0); y = F.int (pos 0) }) images places long (λ i l. sym (same_place origins others images places a b i l).place)

    pub one-origins : origins ≡ others
    one-origins = ext_get_or (record { vertex = 0; face = 0 }) origins others (a.long ∙ long ∙ sym b.long)
        (λ i l. sym (same_place origins others images places a b i (subst (λ n. i < n) a.long l)).origin)

  -- ---- faces by their images

  module _ (origins : List Origin) (images : List (Pair A)) (a : Are origins images) where
    pub one-number : (i j v : ℕ) (p : Pair A) → IsNumberOf F origins images i v p → IsNumberOf F origins images j v p → i ≡ j
    one-number i j v p h k =
        let same : origin_at origins j ≡ origin_at origins i
        = same_origin origins origins images images a a i j h.within k.within (k.vertex ∙ sym h.vertex) (k.place ∙ sym h.place) in
        neither_before i j
        (λ less. not_before (origin_at origins i) (origin_at origins j) (sym same) (a.in_order i j less k.within))
        (λ less. not_before (origin_at origins j) (origin_at origins i) same (a.in_order j i less h.within))

    pub one-corners : (numbers others : List Face) → AreNumbers F coords faces maps origins images numbers → AreNumbers F coords faces maps origins images others → numbers ≡ others
    one-corners numbers others h k = ext_get_or (record { corners = [] }) numbers others (h.all_faces ∙ sym k.all_faces) (λ f l.
        let within : f < length faces = subst (λ n. f < n) h.all_faces l in
        let corners : corners_at numbers f ≡ corners_at others f
        = ext_get_or 0 (corners_at numbers f) (corners_at others f) (h.all_corners f ∙ sym (k.all_corners f)) (λ c m.
        let there : c < length (corners_at faces f) = subst (λ n. c < n) (h.all_corners f) m in
        one-number (corner_at numbers f c) (corner_at others f c) (corner_at faces f c) (place_by F coords faces maps f (corner_at faces f c)) (h.each f c within there) (k.each f c within there)) in
        λ i. record { corners = corners i })

-- ---- places past their range

module _ {A : Type 0} (K : ComputedField A) (coords : List (Pair A)) (edges : List Edge) (faces : List Face) where
  -- the first corner whose place overflows is one
  pub one-face_past : (f k g j : ℕ) → IsFirstPlacePast K coords edges faces f k → IsFirstPlacePast K coords edges faces g j → f ≡ g
  one-face_past f k g j h i =
      neither_before f g
      (λ less. h.past (i.earlier_faces f k less h.map h.is_map h.corner))
      (λ less. i.past (h.earlier_faces g j less i.map i.is_map i.corner))

  pub one-place_past : (f k g j : ℕ) → IsFirstPlacePast K coords edges faces f k → IsFirstPlacePast K coords edges faces g j → corner_at faces f k ≡ corner_at faces g j
  one-place_past f k g j h i =
      let face : f ≡ g = one-face_past f k g j h i in
      let other : IsFirstPlacePast K coords edges faces f j = subst (λ e. IsFirstPlacePast K coords edges faces e j) (sym face) i in
      let corner : k ≡ j
      = neither_before k j
      (λ less. h.past (other.earlier_corners k less h.map h.is_map h.corner))
      (λ less. other.past (h.earlier_corners j less other.map other.is_map other.corner)) in
      λ t. corner_at faces (face t) (corner t)

-- ---- the whole folding

module _ {A : Type 0} (F : OrderedField A) (coords : List (Pair A)) (edges : List Edge) (faces : List Face) (foldable : IsFoldable F coords edges faces) where
  pub one-folding : (maps : List (Motion A)) (origins : List Origin) (images : List (Pair A)) (maps' : List (Motion A)) (origins' : List Origin) (images' : List (Pair A))
      → IsFolding F coords edges faces maps origins images → IsFolding F coords edges faces maps' origins' images' → (maps ≡ maps') × (origins ≡ origins') × (images ≡ images')
  one-folding maps origins images maps' origins' images' a b =
      let same : maps ≡ maps' = one-maps F coords edges faces foldable maps maps' a.maps_are b.maps_are in
      let moved : AreImages F coords faces maps origins' images' = subst (λ (ms : List (Motion A)). AreImages F coords faces ms origins' images') (sym same) b.images_are in
      (same, one-origins F coords faces maps origins origins' images images' a.images_are moved, one-images F coords faces maps origins origins' images images' a.images_are moved)

-- ---- the sides of edges

module _ {N : Type 0} {parts : N → Parts} {W : Type 0} {k : ℕ} {surd : W → Surd ℤ} {numbers : SurdNumbers k surd} (ends : Ends N) (faces : List Face)
    (h : FormSheet parts numbers ends faces) where
  -- a directed piece begins at one corner of a face
  one-corner : (f i j u v : ℕ) → Begins faces f i u v → Begins faces f j u v → i ≡ j
  one-corner f i j u v a b =
      neither_before i j
      (λ less. face-walk ends faces h f a.is_face (λ w. w.once i j (u, v) less (slice_get_within (pieces_round (corners_at faces f)) j (u, v) b.piece) (there i a ∙ sym (there j b))))
      (λ less. face-walk ends faces h f a.is_face (λ w. w.once j i (u, v) less (slice_get_within (pieces_round (corners_at faces f)) i (u, v) a.piece) (there j b ∙ sym (there i a))))
    where
      there : (c : ℕ) → Begins faces f c u v → slice_index_or (pieces_round (corners_at faces f)) c (u, v) ≡ (u, v)
      there c x = get_or_from_slice_get (pieces_round (corners_at faces f)) c (u, v) (u, v) x.piece

  one-side_of : (u v : ℕ) (s t : Option Side) → IsSide faces u v s → IsSide faces u v t → s ≡ t
  one-side_of u v None None a b = refl
  one-side_of u v None (Some t) a b = absurd (a t.face t.corner b)
  one-side_of u v (Some s) None a b = absurd (b s.face s.corner a)
  one-side_of u v (Some s) (Some t) a b =
      let face : s.face ≡ t.face
      = one-face ends faces h u v s.face t.face (begins-along faces ends.edges s.face s.corner u v a) (begins-along faces ends.edges t.face t.corner u v b) in
      let corner : s.corner ≡ t.corner = one-corner s.face s.corner t.corner u v a (subst (λ f. Begins faces f t.corner u v) (sym face) b) in
      λ i. Some (record { face = face i; corner = corner i })

  pub one-sides : (sides others : List Sides) → KnowsSides faces ends.edges sides → KnowsSides faces ends.edges others → sides ≡ others
  one-sides sides others a b = ext_get_or (record { left = None; right = None }) sides others (a.long ∙ sym b.long) (λ e l.
      let within : e < length ends.edges = subst (λ n. e < n) a.long l in
      let here = a.each e within in
      let there = b.each e within in
      let edge : Edge = edge_at ends.edges e in
      let left = one-side_of (edge_at ends.edges e).from (edge_at ends.edges e).to (sides_at sides e).left (sides_at others e).left here.left there.left in
      let right = one-side_of (edge_at ends.edges e).to (edge_at ends.edges e).from (sides_at sides e).right (sides_at others e).right here.right there.right in
      λ i. record { left = left i; right = right i })
