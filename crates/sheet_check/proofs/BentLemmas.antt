-- Corners at which a face is bent, by their places and by what stands before and after them.
use Rattle.std.proofs.Common.{◌≡◌, ◌∙◌, ap, sym, refl, subst, ℕ, List, [], ◌∷◌, ◌++◌, ◌<◌, ◌≤◌, ◌+◌, ◌-◌, length, true, false, inl, inr, arith, take, drop, suc}
use Rattle.std.specs.Prelude.{Contains, slice_index}
use Rattle.std.specs.Ordering.{is_lt}
use Rattle.std.specs.declared.cmp.Ordering.{Ordering}
use Rattle.std.specs.declared.cmp.Ordering.TheVariants.{Less, Equal, Greater}
use Rattle.std.proofs.lemmas.Bool.{cases_lt}
use Rattle.std.proofs.lemmas.List.{append_assoc, length-append, length-take-le, length-drop, take-append-drop, take_at, drop_at, take_all, take_more, drop_more, get_or_at, get_or_default, get_or_append_left, get_or-append_right, get_or-drop, get_or-take}
use Rattle.algebra.specs.OrderedRing.{OrderedRing}
use Rattle.arrangement.proofs.Looping.{in_more}
use Rattle.plane.specs.declared.point.Point.{Point}
use Rattle.plane.specs.Lines.{side}
use Rattle.scaled_plane.specs.declared.drawing.Edge.{Edge}
use Rattle.scaled_plane.specs.declared.drawing.Face.{Face}
use Rattle.scaled_plane.specs.declared.sheet.SheetFlaw.TheVariants.{NotConvex}
use Rattle.scaled_plane.specs.Pieces.{point_at}
use Rattle.scaled_plane.specs.Sheets.{HasFlaw, IsBentAt, IsFirstBent}
use Rattle.flat_fold.specs.Faces.{corners_at}
use Rattle.flat_fold.proofs.SheetLaws.{face-has, has-face}
use Rattle.sheet_check.specs.Bent.{HasRight, IsBentPlace, IsFirstBentFace, IsFirstBentPlace, corner_after, corner_before, others_at}

-- ---- the corners before and after a place

module _ (corners : List ℕ) (k : ℕ) (in_range : k < length corners) (two : 2 ≤ length corners) where
  behind : length (drop (k + 1) corners) ≡ length corners - (k + 1)
  behind = length-drop (k + 1) corners

  ahead : length (take k corners) ≡ k
  ahead = length-take-le k corners (omega (arith, in_range))

  pub others-long : length (others_at corners k) ≡ length corners - 1
  others-long = let e = length-append (drop (k + 1) corners) (take k corners) in let f = behind in let g = ahead in omega (arith, e, f, g, in_range)

  pub before-first : k ≡ 0 → slice_index corners (length corners - 1) ≡ corner_before corners k
  before-first e =
      let f = behind in
      let within : length corners - 2 < length (drop (k + 1) corners) = omega (arith, f, e, two) in
      let place : k + 1 + (length corners - 2) ≡ length corners - 1 = omega (arith, e, two) in
      sym (get_or_append_left (drop (k + 1) corners) (take k corners) 0 (length corners - 2) within
      ∙ get_or-drop (k + 1) corners (length corners - 2) 0 ∙ ap (λ (j : ℕ). slice_index corners j) place)

  pub before-next : ¬ (k ≡ 0) → slice_index corners (k - 1) ≡ corner_before corners k
  before-next n =
      let f = behind in
      let past : length corners - (k + 1) ≤ length corners - 2 = omega (arith, n, two) in
      let place : length corners - 2 - (length corners - (k + 1)) ≡ k - 1 = omega (arith, n, two, in_range) in
      let less : k - 1 < k = omega (arith, n) in
      sym (get_or-append_right (drop (k + 1) corners) (take k corners) (length corners - (k + 1)) (length corners - 2) 0 f past
      ∙ ap (λ (j : ℕ). slice_index (take k corners) j) place ∙ get_or-take k corners (k - 1) 0 less)

  -- the corner before is one of the corners
  pub before-in : Contains corners (corner_before corners k)
  before-in = elim (cases_lt 0 k) [
    | inl more ↦ at (k - 1) (omega (arith, more, in_range)) (before-next (λ none. omega (arith, more, none)))
    | inr none ↦ at (length corners - 1) (omega (arith, two)) (before-first (omega (arith, none)))
  ]
    where
      at : (j : ℕ) → j < length corners → slice_index corners j ≡ corner_before corners k → Contains corners (corner_before corners k)
      at j l e = subst (λ (x : ℕ). Contains corners x) e (j, l, get_or_default corners j (slice_index corners j) 0 l)

-- ---- a corner lies to the right of a line

less_of : (o : Ordering) → is_lt o ≡ true → o ≡ Less
less_of Less e = refl
less_of Equal e = absurd (cc)
less_of Greater e = absurd (cc)

not_less : (o : Ordering) → is_lt o ≡ false → ¬ (o ≡ Less)
not_less o e same = let no : true ≡ false = sym (ap is_lt same) ∙ e in absurd (cc)

module _ {A : Type 0} (K : OrderedRing A) (vertices : List (Point A)) (corners : List ℕ) (b c : ℕ) where
  abbrev IsRight : ℕ → Type 0
  IsRight z = side K (point_at K vertices b) (point_at K vertices c) (point_at K vertices z) ≡ Less

  side_by : (z : ℕ) (from to third : Point A) (o : Ordering) → from ≡ point_at K vertices b → to ≡ point_at K vertices c → third ≡ point_at K vertices z → o ≡ side K from to third
      → side K (point_at K vertices b) (point_at K vertices c) (point_at K vertices z) ≡ o
  side_by z from to third o from_is to_is third_is o_is =
      sym (o_is ∙ ap (λ (p : Point A). side K p to third) from_is ∙ ap (λ (p : Point A). side K (point_at K vertices b) p third) to_is
      ∙ ap (λ (p : Point A). side K (point_at K vertices b) (point_at K vertices c) p) third_is)

  pub right_at : (i : ℕ) → i < length corners → (from to third : Point A) (o : Ordering) → from ≡ point_at K vertices b → to ≡ point_at K vertices c
      → third ≡ point_at K vertices (slice_index corners i) → o ≡ side K from to third → is_lt o ≡ true → HasRight K vertices corners b c
  right_at i l from to third o from_is to_is third_is o_is on = (
    slice_index corners i,
    (i, l, get_or_default corners i (slice_index corners i) 0 l),
    side_by (slice_index corners i) from to third o from_is to_is third_is o_is ∙ less_of o on,
  )

  pub none_more : (i : ℕ) → i < length corners → (from to third : Point A) (o : Ordering) → from ≡ point_at K vertices b → to ≡ point_at K vertices c
      → third ≡ point_at K vertices (slice_index corners i) → o ≡ side K from to third → is_lt o ≡ false
      → ((z : ℕ) → Contains (take i corners) z → ¬ IsRight z) → (z : ℕ) → Contains (take (i + 1) corners) z → ¬ IsRight z
  none_more i l from to third o from_is to_is third_is o_is off before z there right =
      let v : ℕ = slice_index corners i in
      elim (in_more corners i v z l (get_or_default corners i 0 v l) there) [
        | inl earlier ↦ before z earlier right
        | inr here ↦ not_less o off (sym (side_by v from to third o from_is to_is third_is o_is) ∙ subst (λ (x : ℕ). IsRight x) (sym here) right)
      ]

-- ---- a face is bent at a place

module _ {A : Type 0} (K : OrderedRing A) (vertices : List (Point A)) where
  module _ (corners : List ℕ) where
    pub bent_at : (k : ℕ) → IsBentPlace K vertices corners k → IsBentAt K vertices corners (take k corners) (slice_index corners k) (drop (k + 1) corners)
    bent_at k h =
        let R : List ℕ = others_at corners k in
        let long : length R ≡ length corners - 1 = others-long corners k h.in_range h.two in
        let two = h.two in
        let last : length corners - 2 < length R = omega (arith, long, two) in
        let first : 0 < length R = omega (arith, long, two) in
        let all : length R ≤ length corners - 2 + 1 = omega (arith, long, two) in
        record {
          is = sym (take-append-drop k corners) ∙ ap (λ (xs : List ℕ). take k corners ++ xs) (drop_more corners k 0 h.in_range);
          b = corner_before corners k;
          d = corner_after corners k;
          others = take (length corners - 2) R;
          to_d = drop 1 R;
          ends_in_b = sym (take_all (length corners - 2 + 1) R all) ∙ take_more R (length corners - 2) 0 last;
          begins_with_d = drop_more R 0 0 first;
          bent = h.bent;
        }

    pub bent_back : (before : List ℕ) (c : ℕ) (after : List ℕ) → IsBentAt K vertices corners before c after → IsBentPlace K vertices corners (length before)
    bent_back before c after h = record {
      in_range = omega (arith, long);
      two = omega (arith, long, rest_long, of_b);
      bent = elim h.bent [
        | inl same ↦ inl (is_b ∙ same ∙ sym is_d)
        | inr right ↦ inr (
          right.0,
          right.1,
          ap (λ (x : ℕ). side K (point_at K vertices x) (point_at K vertices (slice_index corners (length before))) (point_at K vertices right.0)) is_b
              ∙ ap (λ (x : ℕ). side K (point_at K vertices h.b) (point_at K vertices x) (point_at K vertices right.0)) is_c ∙ right.2,
        )
      ];
    }
      where
        long : length corners ≡ length before + suc (length after)
        long = ap (λ (xs : List ℕ). length xs) h.is ∙ length-append before (c ∷ after)

        rest_long : length (after ++ before) ≡ length after + length before
        rest_long = length-append after before

        of_b : length (after ++ before) ≡ length h.others + 1
        of_b = ap (λ (xs : List ℕ). length xs) h.ends_in_b ∙ length-append h.others (h.b ∷ [])

        is_c : slice_index corners (length before) ≡ c
        is_c = ap (λ (xs : List ℕ). slice_index xs (length before)) h.is ∙ get_or_at before c after 0 (length before) refl

        joined : corners ≡ (before ++ c ∷ []) ++ after
        joined = h.is ∙ sym (append_assoc before (c ∷ []) after)

        front_long : length (before ++ c ∷ []) ≡ length before + 1
        front_long = length-append before (c ∷ [])

        rest_is : others_at corners (length before) ≡ after ++ before
        rest_is =
            ap (λ (xs : List ℕ). xs ++ take (length before) corners) (ap (λ (xs : List ℕ). drop (length before + 1) xs) joined ∙ drop_at (before ++ c ∷ []) after (length before + 1) front_long)
            ∙ ap (λ (xs : List ℕ). after ++ xs) (ap (λ (xs : List ℕ). take (length before) xs) h.is ∙ take_at before (c ∷ after) (length before) refl)

        place : length h.others ≡ length corners - 2
        place = omega (arith, long, rest_long, of_b)

        is_b : corner_before corners (length before) ≡ h.b
        is_b = ap (λ (xs : List ℕ). slice_index xs (length corners - 2)) (rest_is ∙ h.ends_in_b) ∙ get_or_at h.others h.b [] 0 (length corners - 2) place

        is_d : corner_after corners (length before) ≡ h.d
        is_d = ap (λ (xs : List ℕ). slice_index xs 0) (rest_is ∙ h.begins_with_d)

    pub first_bent_at : (k : ℕ) → IsFirstBentPlace K vertices corners k → IsFirstBent K vertices corners (slice_index corners k)
    first_bent_at k h = (
      take k corners,
      drop (k + 1) corners,
      bent_at k h.bent,
      λ sooner later z less bent.
          let l = h.bent.in_range in
          let long : length (take k corners) ≡ k = length-take-le k corners (omega (arith, l)) in
          h.before (length sooner) (omega (arith, less, long)) (bent_back sooner z later bent),
    )

  module _ (edges : List Edge) (faces : List Face) where
    pub not_convex : (f c : ℕ) → IsFirstBentFace K vertices faces f c → HasFlaw K vertices edges faces (NotConvex f c)
    not_convex f c h = (
      corners_at faces f,
      face-has faces f h.in_range,
      subst (λ (v : ℕ). IsFirstBent K vertices (corners_at faces f) v) h.is (first_bent_at (corners_at faces f) h.place h.bent),
    )

    pub not_bent : (f v : ℕ) → ((k : ℕ) → ¬ IsBentPlace K vertices (corners_at faces f) k) → ¬ HasFlaw K vertices edges faces (NotConvex f v)
    not_bent f v none (corners, has, (before, after, bent, first)) =
        none (length before) (subst (λ (cs : List ℕ). IsBentPlace K vertices cs (length before)) (sym (has-face faces f corners has).1) (bent_back corners before v after bent))

    pub none_bent : ((f k : ℕ) → f < length faces → ¬ IsBentPlace K vertices (corners_at faces f) k) → (f v : ℕ) → ¬ HasFlaw K vertices edges faces (NotConvex f v)
    none_bent none f v has = let there = has-face faces f has.0 has.1 in not_bent f v (λ k. none f k there.0) has
