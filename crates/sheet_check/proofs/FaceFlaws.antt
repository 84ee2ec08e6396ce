-- The first flaw, where no line of the table before its own holds.
use Rattle.std.proofs.Common.{◌≡◌, ◌∙◌, ap, sym, refl, subst, ℕ, List, [], ◌∷◌, ◌<◌, ◌≤◌, ◌+◌, length, inl, inr, ◌⊎◌, arith, Some}
use Rattle.std.specs.Prelude.{slice_index_or}
use Rattle.std.specs.Cmp.{nat_cmp_is}
use Rattle.std.specs.Cmp.Lexicographic.{slice_cmp}
use Rattle.std.specs.Ordering.{nat_cmp, on, ordering_reverse, ordering_then}
use Rattle.std.specs.declared.cmp.Ordering.{Ordering}
use Rattle.std.specs.declared.cmp.Ordering.TheVariants.{Less, Equal, Greater}
use Rattle.std.proofs.lemmas.Bool.{cases_lt}
use Rattle.std.proofs.lemmas.Cmp.{nat_list_cmp_total}
use Rattle.std.proofs.lemmas.List.{get_or_default}
use Rattle.std.proofs.lemmas.Map.Keys.{Less-from_sorted}
use Rattle.algebra.specs.OrderedRing.{OrderedRing}
use Rattle.plane.specs.declared.point.Point.{Point}
use Rattle.plane.proofs.First.{same_or_not}
use Rattle.scaled_plane.specs.declared.drawing.Edge.{Edge}
use Rattle.scaled_plane.specs.declared.drawing.Face.{Face}
use Rattle.scaled_plane.specs.declared.sheet.SheetFlaw.{SheetFlaw}
use Rattle.scaled_plane.specs.declared.sheet.SheetFlaw.TheVariants.{NotPlane, FaceWrong, FaceMissing, NotConvex, BorderWrong, Pinched, Severed}
use Rattle.scaled_plane.specs.Lists.{IsRotation}
use Rattle.scaled_plane.specs.Scaling.{IsFirstOf}
use Rattle.scaled_plane.specs.Sheets.{HasFlaw, IsFirstFlaw, line_of}
use Rattle.scaled_plane.specs.Walks.{AreFaces, IsFaceWalk, IsWalk}
use Rattle.flat_fold.specs.Faces.{corners_at}
use Rattle.flat_fold.proofs.SheetLaws.{edge-get, edge-place, face-has, has-face}
use Rattle.sheet_check.specs.Listed.{AreRight, IsMissing, IsWrong}
use Rattle.sheet_check.specs.Passed.{HasNoneBefore}
use Rattle.sheet_check.proofs.FaceWalks.{walk_at}
use Rattle.sheet_check.proofs.Refusals.{HasIdsBefore, first_of_line, one_passed}

module _ {A : Type 0} (K : OrderedRing A) (vertices : List (Point A)) (edges : List Edge) (faces : List Face) where
  abbrev Has : SheetFlaw → Type 0
  Has flaw = HasFlaw K vertices edges faces flaw

  -- ---- each line

  id_less : (m n : ℕ) → (m < n) ⊎ ((m ≡ n) × (0 < 0)) → m < n
  id_less m n (inl less) = less
  id_less m n (inr (same, none)) = absurd (omega (arith, none))

  pub wrong_first : (f : ℕ) → HasNoneBefore K vertices edges faces 5 → IsFirstOf (λ g. Has (FaceWrong g)) f → IsFirstFlaw K vertices edges faces (FaceWrong f)
  wrong_first f before (has, least) = first_of_line K vertices edges faces (FaceWrong f) has before by
    where
      by : (other : SheetFlaw) → line_of other ≡ 5 → HasIdsBefore other (FaceWrong f) → ¬ Has other
      by (FaceWrong g) same less = least g (id_less g f less)
      by other same less = absurd (omega (arith, same))

  pub convex_first : (f v : ℕ) → HasNoneBefore K vertices edges faces 7 → Has (NotConvex f v) → ((g w : ℕ) → g < f → ¬ Has (NotConvex g w)) → IsFirstFlaw K vertices edges faces (NotConvex f v)
  convex_first f v before has least = first_of_line K vertices edges faces (NotConvex f v) has before by
    where
      by : (other : SheetFlaw) → line_of other ≡ 7 → HasIdsBefore other (NotConvex f v) → ¬ Has other
      by (NotConvex g w) same less = least g w (id_less g f less)
      by other same less = absurd (omega (arith, same))

  pub border_first : (n : ℕ) → HasNoneBefore K vertices edges faces 8 → IsFirstOf (λ m. Has (BorderWrong m)) n → IsFirstFlaw K vertices edges faces (BorderWrong n)
  border_first n before (has, least) = first_of_line K vertices edges faces (BorderWrong n) has before by
    where
      by : (other : SheetFlaw) → line_of other ≡ 8 → HasIdsBefore other (BorderWrong n) → ¬ Has other
      by (BorderWrong m) same less = least m (id_less m n less)
      by other same less = absurd (omega (arith, same))

  pub pinched_first : (v : ℕ) → HasNoneBefore K vertices edges faces 9 → IsFirstOf (λ u. Has (Pinched u)) v → IsFirstFlaw K vertices edges faces (Pinched v)
  pinched_first v before (has, least) = first_of_line K vertices edges faces (Pinched v) has before by
    where
      by : (other : SheetFlaw) → line_of other ≡ 9 → HasIdsBefore other (Pinched v) → ¬ Has other
      by (Pinched u) same less = least u (id_less u v less)
      by other same less = absurd (omega (arith, same))

  pub severed_first : (f : ℕ) → HasNoneBefore K vertices edges faces 10 → IsFirstOf (λ g. Has (Severed g)) f → IsFirstFlaw K vertices edges faces (Severed f)
  severed_first f before (has, least) = first_of_line K vertices edges faces (Severed f) has before by
    where
      by : (other : SheetFlaw) → line_of other ≡ 10 → HasIdsBefore other (Severed f) → ¬ Has other
      by (Severed g) same less = least g (id_less g f less)
      by other same less = absurd (omega (arith, same))

  -- ---- the lines that are passed

  pub wrong_passed : HasNoneBefore K vertices edges faces 5 → ((f : ℕ) → ¬ Has (FaceWrong f)) → HasNoneBefore K vertices edges faces 6
  wrong_passed before none = one_passed K vertices edges faces 5 before by
    where
      by : (flaw : SheetFlaw) → line_of flaw ≡ 5 → ¬ Has flaw
      by (FaceWrong f) same = none f
      by other same = absurd (omega (arith, same))

  pub missing_passed : HasNoneBefore K vertices edges faces 6 → ((u v : ℕ) → ¬ Has (FaceMissing u v)) → HasNoneBefore K vertices edges faces 7
  missing_passed before none = one_passed K vertices edges faces 6 before by
    where
      by : (flaw : SheetFlaw) → line_of flaw ≡ 6 → ¬ Has flaw
      by (FaceMissing u v) same = none u v
      by other same = absurd (omega (arith, same))

  pub convex_passed : HasNoneBefore K vertices edges faces 7 → ((f v : ℕ) → ¬ Has (NotConvex f v)) → HasNoneBefore K vertices edges faces 8
  convex_passed before none = one_passed K vertices edges faces 7 before by
    where
      by : (flaw : SheetFlaw) → line_of flaw ≡ 7 → ¬ Has flaw
      by (NotConvex f v) same = none f v
      by other same = absurd (omega (arith, same))

  pub border_passed : HasNoneBefore K vertices edges faces 8 → ((n : ℕ) → ¬ Has (BorderWrong n)) → HasNoneBefore K vertices edges faces 9
  border_passed before none = one_passed K vertices edges faces 8 before by
    where
      by : (flaw : SheetFlaw) → line_of flaw ≡ 8 → ¬ Has flaw
      by (BorderWrong n) same = none n
      by other same = absurd (omega (arith, same))

  pub pinched_passed : HasNoneBefore K vertices edges faces 9 → ((v : ℕ) → ¬ Has (Pinched v)) → HasNoneBefore K vertices edges faces 10
  pinched_passed before none = one_passed K vertices edges faces 9 before by
    where
      by : (flaw : SheetFlaw) → line_of flaw ≡ 9 → ¬ Has flaw
      by (Pinched v) same = none v
      by other same = absurd (omega (arith, same))

  pub severed_passed : HasNoneBefore K vertices edges faces 10 → ((f : ℕ) → ¬ Has (Severed f)) → HasNoneBefore K vertices edges faces 11
  severed_passed before none = one_passed K vertices edges faces 10 before by
    where
      by : (flaw : SheetFlaw) → line_of flaw ≡ 10 → ¬ Has flaw
      by (Severed f) same = none f
      by other same = absurd (omega (arith, same))

  -- ---- faces against the walks

  module _ (walks : List Face) (h : AreFaces K vertices edges walks) where
    -- each face walk stands in the list
    walk_place : (corners : List ℕ) → IsFaceWalk K vertices edges corners → (w : ℕ) × (w < length walks) × (corners_at walks w ≡ corners)
    walk_place corners is =
        let face : Face = record { corners = corners } in
        let found = h.every face is in
        let place : ℕ = found.1.0 in
        (place, found.1.1, ap (λ (x : Face). x.corners) (get_or_default walks place (record { corners = [] }) found.0 found.1.1 ∙ found.1.2 ∙ sym found.2))

    pub face_wrong : (f : ℕ) → IsWrong walks faces f → Has (FaceWrong f)
    face_wrong f w = (
      corners_at faces f,
      face-has faces f w.in_range,
      elim w.wrong [
        | inl none ↦ inl (λ walk is r. (let p = walk_place walk is in none p.0 p.1 (subst (λ (c : List ℕ). IsRotation (corners_at faces f) c) (sym p.2) r)))
        | inr again ↦ inr (again.0, again.1, corners_at faces again.0, face-has faces again.0 (let l = again.1 in let m = w.in_range in omega (arith, l, m)), again.2)
      ],
    )

    pub face_wrong_back : (f : ℕ) → Has (FaceWrong f) → IsWrong walks faces f
    face_wrong_back f (corners, has, wrong) =
        let at = has-face faces f corners has in
        record {
          in_range = at.0;
          wrong = elim wrong [
            | inl none ↦ inl (λ w l r. none (corners_at walks w) (walk_at K vertices edges walks h w l) (subst (λ (c : List ℕ). IsRotation c (corners_at walks w)) at.1 r))
            | inr again ↦ inr (
              again.0,
              again.1,
              subst (λ (c : List ℕ). IsRotation c (corners_at faces again.0)) (sym at.1)
                  (subst (λ (c : List ℕ). IsRotation corners c) (sym (has-face faces again.0 again.2 again.3).1) again.4),
            )
          ];
        }

    pub wrong_is_first : (f : ℕ) → IsFirstOf (IsWrong walks faces) f → IsFirstOf (λ g. Has (FaceWrong g)) f
    wrong_is_first f (wrong, least) = (face_wrong f wrong, λ g less has. least g less (face_wrong_back g has))

    -- a walk that no face goes round
    face_missing : (w u v : ℕ) (rest : List ℕ) → IsMissing walks faces w → corners_at walks w ≡ u ∷ v ∷ rest → Has (FaceMissing u v)
    face_missing w u v rest m is = (
      rest,
      subst (λ (c : List ℕ). IsFaceWalk K vertices edges c) is (walk_at K vertices edges walks h w m.in_range),
      λ f corners has r.
          let at = has-face faces f corners has in
          m.missing f at.0 (subst (λ (c : List ℕ). IsRotation (corners_at faces f) c) (sym is) (subst (λ (c : List ℕ). IsRotation c (u ∷ v ∷ rest)) (sym at.1) r)),
    )

    missing_back : (u v : ℕ) (has : Has (FaceMissing u v)) → (w : ℕ) × IsMissing walks faces w × (corners_at walks w ≡ u ∷ v ∷ has.0)
    missing_back u v (rest, is, none) =
        let p = walk_place (u ∷ v ∷ rest) is in (
          p.0,
          record { in_range = p.1; missing = λ f l r. none f (corners_at faces f) (face-has faces f l) (subst (λ (c : List ℕ). IsRotation (corners_at faces f) c) p.2 r) },
          p.2,
        )

    pub none_missing : ((w : ℕ) → ¬ IsMissing walks faces w) → (u v : ℕ) → ¬ Has (FaceMissing u v)
    none_missing none u v has = let m = missing_back u v has in none m.0 m.1

    two_less : (x y u v : ℕ) (o : Ordering) → (x < u) ⊎ ((x ≡ u) × (y < v)) → ordering_then (nat_cmp x u) (ordering_then (nat_cmp y v) o) ≡ Less
    two_less x y u v o (inl less) = ap (λ (c : Ordering). ordering_then c (ordering_then (nat_cmp y v) o)) (sym (nat_cmp_is x u Less less))
    two_less x y u v o (inr (same, less)) =
        ap (λ (c : Ordering). ordering_then c (ordering_then (nat_cmp y v) o)) (sym (nat_cmp_is x u Equal same)) ∙ ap (λ (c : Ordering). ordering_then c o) (sym (nat_cmp_is y v Less less))

    -- the first that is missing has the least two corners
    missing_least : (w u v : ℕ) (rest : List ℕ) → IsFirstOf (IsMissing walks faces) w → corners_at walks w ≡ u ∷ v ∷ rest
        → (x y : ℕ) → (x < u) ⊎ ((x ≡ u) × (y < v)) → ¬ Has (FaceMissing x y)
    missing_least w u v rest (missing, first) is x y less has =
        let m = missing_back x y has in
        let below : slice_cmp nat_cmp (corners_at walks m.0) (corners_at walks w) ≡ Less
        = ap (λ (c : List ℕ). slice_cmp nat_cmp c (corners_at walks w)) m.2 ∙ ap (λ (c : List ℕ). slice_cmp nat_cmp (x ∷ y ∷ has.0) c) is
        ∙ two_less x y u v (slice_cmp nat_cmp has.0 rest) less in
        elim (cases_lt m.0 w) [
          | inl earlier ↦ first m.0 earlier m.1
          | inr later ↦ elim (same_or_not m.0 w) [
            | inl same ↦
                let again : slice_cmp nat_cmp (corners_at walks w) (corners_at walks w) ≡ Less = subst (λ (z : ℕ). slice_cmp nat_cmp (corners_at walks z) (corners_at walks w) ≡ Less) same below in
                let turned : slice_cmp nat_cmp (corners_at walks w) (corners_at walks w) ≡ ordering_reverse Less
                = nat_list_cmp_total.antisymm (corners_at walks w) (corners_at walks w) ∙ ap ordering_reverse again in
                let no : Less ≡ Greater = sym again ∙ turned in absurd (cc)
            | inr other ↦
                let range = m.1.in_range in
                let above : slice_cmp nat_cmp (corners_at walks w) (corners_at walks m.0) ≡ Less
                = Less-from_sorted (on (λ (z : Face). z.corners) (slice_cmp nat_cmp)) walks w m.0 (record { corners = [] }) h.sorted (omega (arith, later, other)) range in
                let turned : slice_cmp nat_cmp (corners_at walks m.0) (corners_at walks w) ≡ Greater
                = nat_list_cmp_total.antisymm (corners_at walks m.0) (corners_at walks w) ∙ ap ordering_reverse above in
                let no : Less ≡ Greater = sym below ∙ turned in absurd (cc)
          ]
        ]

    pub missing_first : (w u v : ℕ) (rest : List ℕ) → HasNoneBefore K vertices edges faces 6 → IsFirstOf (IsMissing walks faces) w → corners_at walks w ≡ u ∷ v ∷ rest
        → IsFirstFlaw K vertices edges faces (FaceMissing u v)
    missing_first w u v rest before first is = first_of_line K vertices edges faces (FaceMissing u v) (face_missing w u v rest first.0 is) before by
      where
        by : (other : SheetFlaw) → line_of other ≡ 6 → HasIdsBefore other (FaceMissing u v) → ¬ Has other
        by (FaceMissing x y) same less = missing_least w u v rest first is x y less
        by other same less = absurd (omega (arith, same))

    -- a face walk has two corners or more, since no edge leads from a vertex to itself
    pub two_corners : HasNoneBefore K vertices edges faces 5 → (w : ℕ) → w < length walks → (u v : ℕ) × (rest : List ℕ) × (corners_at walks w ≡ u ∷ v ∷ rest)
    two_corners before w l = by (corners_at walks w) (walk_at K vertices edges walks h w l).walk
      where
        by : (c : List ℕ) → IsWalk K vertices edges c → (u v : ℕ) × (rest : List ℕ) × (c ≡ u ∷ v ∷ rest)
        by [] walk = absurd walk.follow
        by (u ∷ []) walk =
            let d = walk.follow.0.1.piece in
            let there = edge-place edges d.0 d.1 in
            let e = edge-get edges d.1.0 d.1.1 in
            absurd (before (NotPlane d.1.0 d.1.0) (omega arith) (
              d.0,
              d.0,
              e ∙ ap (λ (x : Edge). Some x) there,
              e ∙ ap (λ (x : Edge). Some x) there,
              inl (
                refl,
                elim d.2 [
                  | inl s ↦ s.0 ∙ sym s.1
                  | inr s ↦ s.0 ∙ sym s.1
                ],
              ),
            ))
        by (u ∷ (v ∷ rest)) walk = (u, v, rest, refl)

    -- ---- what becomes of the faces

    none_wrong : AreRight walks faces → (f : ℕ) → ¬ Has (FaceWrong f)
    none_wrong right f has = right.right f (face_wrong_back f has)

    pub walks_wrong : HasNoneBefore K vertices edges faces 5 → (f : ℕ) → IsFirstOf (IsWrong walks faces) f → IsFirstFlaw K vertices edges faces (FaceWrong f)
    walks_wrong before f first = wrong_first f before (wrong_is_first f first)

    pub walks_missing : HasNoneBefore K vertices edges faces 5 → AreRight walks faces → (w u v : ℕ) → IsFirstOf (IsMissing walks faces) w
        → u ≡ slice_index_or (corners_at walks w) 0 0 → v ≡ slice_index_or (corners_at walks w) 1 0 → IsFirstFlaw K vertices edges faces (FaceMissing u v)
    walks_missing before right w u v first u_is v_is =
        let two = two_corners before w first.0.in_range in
        let first_is : two.0 ≡ u = sym (u_is ∙ ap (λ (c : List ℕ). slice_index_or c 0 0) two.3) in
        let second_is : two.1 ≡ v = sym (v_is ∙ ap (λ (c : List ℕ). slice_index_or c 1 0) two.3) in
        subst (λ (x : ℕ). IsFirstFlaw K vertices edges faces (FaceMissing x v)) first_is
        (subst (λ (y : ℕ). IsFirstFlaw K vertices edges faces (FaceMissing two.0 y)) second_is
        (missing_first w two.0 two.1 two.2 (wrong_passed before (none_wrong right)) first two.3))

    pub walks_passed : HasNoneBefore K vertices edges faces 5 → AreRight walks faces → ((w : ℕ) → ¬ IsMissing walks faces w) → HasNoneBefore K vertices edges faces 7
    walks_passed before right none = missing_passed (wrong_passed before (none_wrong right)) (none_missing none)

    pub long_enough : HasNoneBefore K vertices edges faces 5 → (w : ℕ) → w < length walks → 2 ≤ length (corners_at walks w)
    long_enough before w l =
        let two = two_corners before w l in
        subst (λ (c : List ℕ). 2 ≤ length c) (sym two.3) (omega arith)
