-- The images of an edge are the different pairs at which its faces lay its ends.
use Rattle.std.proofs.Common.{◌≡◌, ◌∙◌, ap, sym, refl, subst, ℕ, zero, suc, List, [], ◌∷◌, ◌++◌, ◌<◌, ◌≤◌, ◌+◌, length, map, Bool, true, false, Option, Some, None, inl, inr, ◌⊎◌, arith}
use Rattle.std.specs.Prelude.{slice_get, slice_index_or, nat_eq, nat_lt, ◌&&◌, if◌then◌else◌}
use Rattle.std.proofs.lemmas.Bool.{cases_lt}
use Rattle.std.proofs.lemmas.Bool.Decides.{nat_tests}
use Rattle.std.proofs.lemmas.List.{ext_get_or, get_or-map, length-map}
use Rattle.std.proofs.lemmas.Option.{get_or_from_slice_get}
use Rattle.algebra.specs.OrderedField.{OrderedField}
use Rattle.scaled_plane.specs.declared.drawing.Edge.{Edge}
use Rattle.scaled_plane.specs.declared.drawing.Face.{Face}
use Rattle.scaled_plane.specs.declared.point.Pair.{Pair}
use Rattle.scaled_plane.specs.Walks.{pieces_round}
use Rattle.flat_fold.specs.declared.images.Origin.{Origin}
use Rattle.flat_fold.specs.declared.motion.Motion.{Motion}
use Rattle.flat_fold.specs.declared.sides.Side.{Side}
use Rattle.flat_fold.specs.EdgeImages.{AreEdgeImages, along, both, edge_images, end_images, image_of, swapped}
use Rattle.flat_fold.specs.LaidEdges.{AreImagesOf, AreLaid, LaysEdge, LaysFirst, pair_at, pairs_of, with_letters}
use Rattle.flat_fold.specs.declared.sides.Sides.{Sides}
use Rattle.flat_fold.specs.EdgeSides.{Begins, IsSide, KnowsSides, sides_at}
use Rattle.flat_fold.specs.Faces.{LiesAlong, corners_at, edge_at}
use Rattle.flat_fold.specs.Folded.{HasEdge, Layout}
use Rattle.flat_fold.specs.Images.{AreImages, AreNumbers, IsNumberOf, corner_at, place_by}
use Rattle.flat_fold.proofs.OneFolding.{one-number}
use Rattle.flat_fold.proofs.SideLaws.{along-begins, begins-along, begins-corner, piece-comes_back, piece-goes_on}

-- ---- tests

is-one : (p q : ℕ × ℕ) → (nat_eq p.0 q.0 && nat_eq p.1 q.1) ≡ true → (p.0 ≡ q.0) × (p.1 ≡ q.1)
is-one p q h = both-of p.0 q.0 p.1 q.1 h
  where
    both-of : (a b c d : ℕ) → (nat_eq a b && nat_eq c d) ≡ true → (a ≡ b) × (c ≡ d)
    both-of a b c d h = (grind (arith, nat_tests), grind (arith, nat_tests))

is-other : (p q : ℕ × ℕ) → (nat_eq p.0 q.0 && nat_eq p.1 q.1) ≡ false → ¬ (p ≡ q)
is-other p q h same = differs p.0 q.0 p.1 q.1 h (ap (λ (r : ℕ × ℕ). r.0) same) (ap (λ (r : ℕ × ℕ). r.1) same)
  where
    differs : (a b c d : ℕ) → (nat_eq a b && nat_eq c d) ≡ false → a ≡ b → c ≡ d → ⊥
    differs a b c d h x y = grind (arith, nat_tests)

is-less : (a b : ℕ) → nat_lt a b ≡ true → a ≤ b
is-less a b h = grind (arith, nat_tests)

is-no-less : (a b : ℕ) → nat_lt a b ≡ false → b ≤ a
is-no-less a b h = grind (arith, nat_tests)

-- ---- the ends of a piece

some-same : {X : Type 0} {x y : X} → Some x ≡ Some y → x ≡ y
some-same e = cc

-- a piece leads from its corner to one and the same other corner, in each list as long
next-corner : (corners : List ℕ) (k : ℕ) → k < length corners
    → (j : ℕ) × (j < length corners) × ((xs : List ℕ) → length xs ≡ length corners → slice_get (pieces_round xs) k ≡ Some (slice_index_or xs k 0, slice_index_or xs j 0))
next-corner corners k l = elim (cases_lt (k + 1) (length corners)) [
  | inl more ↦ (k + 1, more, λ xs long. piece-goes_on xs k 0 0 (omega (arith, more, long)))
  | inr last ↦ (0, omega (arith, l), λ xs long. piece-comes_back xs k 0 0 (omega (arith, l, long)) (omega (arith, last, long)))
]

module _ {A : Type 0} (F : OrderedField A) (coords : List (Pair A)) (edges : List Edge) (faces : List Face) (maps : List (Motion A)) (origins : List Origin) (images : List (Pair A))
    (are : AreImages F coords faces maps origins images) where
  -- ---- one pair, or two

  module _ (e : ℕ) where
    one-pair : (f g : ℕ) (p q : ℕ × ℕ) → f ≡ g → LaysEdge F coords edges faces maps origins images e f p → LaysEdge F coords edges faces maps origins images e g q → p ≡ q
    one-pair f g p q same a b =
        let u = (edge_at edges e).from in
        let v = (edge_at edges e).to in
        let from : p.0 ≡ q.0 = one-number F coords faces maps origins images are p.0 q.0 u (place_by F coords faces maps f u) a.from
        (subst (λ (h : ℕ). IsNumberOf F origins images q.0 (edge_at edges e).from (place_by F coords faces maps h (edge_at edges e).from)) (sym same) b.from) in
        let to : p.1 ≡ q.1 = one-number F coords faces maps origins images are p.1 q.1 v (place_by F coords faces maps f v) a.to
        (subst (λ (h : ℕ). IsNumberOf F origins images q.1 (edge_at edges e).to (place_by F coords faces maps h (edge_at edges e).to)) (sym same) b.to) in
        λ i. (from i, to i)

    single : (f : ℕ) (p : ℕ × ℕ) → LaysEdge F coords edges faces maps origins images e f p
        → ((h : ℕ) → HasEdge edges faces h e → (f ≤ h) × LaysEdge F coords edges faces maps origins images e h p) → AreImagesOf F coords edges faces maps origins images e (p ∷ [])
    single f p a every = record {
      given = given;
      all = λ h has. (0, omega arith, (every h has).1);
      in_order = λ i j g h less l b c. absurd (omega (arith, less, l));
    }
      where
        given : (k : ℕ) → k < length (p ∷ []) → (f : ℕ) × LaysFirst F coords edges faces maps origins images e f (pair_at (p ∷ []) k)
        given zero l = (f, record { lays = a; least = λ g b. (every g b.face).0 })
        given (suc k) l = absurd (omega (arith, l))

    double : (f g : ℕ) (p q : ℕ × ℕ) → f < g → LaysFirst F coords edges faces maps origins images e f p → LaysFirst F coords edges faces maps origins images e g q
        → ((h : ℕ) → HasEdge edges faces h e → (h ≡ f) ⊎ (h ≡ g)) → AreImagesOf F coords edges faces maps origins images e (p ∷ q ∷ [])
    double f g p q less first second every = record { given = given; all = all; in_order = order }
      where
        given : (k : ℕ) → k < length (p ∷ q ∷ []) → (f : ℕ) × LaysFirst F coords edges faces maps origins images e f (pair_at (p ∷ q ∷ []) k)
        given zero l = (f, first)
        given (suc zero) l = (g, second)
        given (suc (suc k)) l = absurd (omega (arith, l))

        all : (h : ℕ) → HasEdge edges faces h e → (k : ℕ) × (k < length (p ∷ q ∷ [])) × LaysEdge F coords edges faces maps origins images e h (pair_at (p ∷ q ∷ []) k)
        all h has = elim (every h has) [
          | inl is ↦ (0, omega arith, subst (λ (x : ℕ). LaysEdge F coords edges faces maps origins images e x p) (sym is) first.lays)
          | inr is ↦ (1, omega arith, subst (λ (x : ℕ). LaysEdge F coords edges faces maps origins images e x q) (sym is) second.lays)
        ]

        order : (i j h k : ℕ) → i < j → j < length (p ∷ q ∷ []) → LaysFirst F coords edges faces maps origins images e h (pair_at (p ∷ q ∷ []) i)
            → LaysFirst F coords edges faces maps origins images e k (pair_at (p ∷ q ∷ []) j) → h < k
        order zero zero h k l m a b = absurd (omega (arith, l))
        order zero (suc zero) h k l m a b = let low = a.least f first.lays in let high = second.least k b.lays in omega (arith, low, high, less)
        order zero (suc (suc j)) h k l m a b = absurd (omega (arith, m))
        order (suc i) zero h k l m a b = absurd (omega (arith, l))
        order (suc i) (suc zero) h k l m a b = absurd (omega (arith, l))
        order (suc i) (suc (suc j)) h k l m a b = absurd (omega (arith, m))

    -- two faces, the second no lesser than the first, are all that have the edge
    two-pairs : (f g : ℕ) (p q : ℕ × ℕ) → f ≤ g → LaysEdge F coords edges faces maps origins images e f p → LaysEdge F coords edges faces maps origins images e g q
        → ((h : ℕ) → HasEdge edges faces h e → (h ≡ f) ⊎ (h ≡ g)) → AreImagesOf F coords edges faces maps origins images e (both p q)
    two-pairs f g p q low a b every = by (nat_eq p.0 q.0 && nat_eq p.1 q.1) refl
      where
        by : (t : Bool) → (nat_eq p.0 q.0 && nat_eq p.1 q.1) ≡ t → AreImagesOf F coords edges faces maps origins images e (if t then p ∷ [] else p ∷ q ∷ [])
        by true is =
            let equal = is-one p q is in
            let same : q ≡ p = λ i. (sym equal.0 i, sym equal.1 i) in
            single f p a (λ h has. elim (every h has) [
              | inl there ↦ (omega (arith, there), subst (λ (x : ℕ). LaysEdge F coords edges faces maps origins images e x p) (sym there) a)
              | inr back ↦ (
                omega (arith, back, low),
                subst (λ (x : ℕ). LaysEdge F coords edges faces maps origins images e x p) (sym back) (subst (λ (r : ℕ × ℕ). LaysEdge F coords edges faces maps origins images e g r) same b),
              )
            ])
        by false is =
            let other = is-other p q is in
            let apart : f < g = elim (cases_lt f g) [
              | inl less ↦ less
              | inr most ↦ absurd (other (let same : f ≡ g = omega (arith, low, most) in one-pair f g p q same a b))
            ] in
            double f g p q apart
            (record { lays = a; least = λ h c. elim (every h c.face) [ inl there ↦ omega (arith, there) | inr back ↦ omega (arith, back, low) ] })
            (record { lays = b; least = λ h c. elim (every h c.face) [ inl there ↦ absurd (other (one-pair f h p q (sym there) a c)) | inr back ↦ omega (arith, back) ] })
            every

  -- ---- the faces at both sides

  module _ (numbers : List Face) (known : AreNumbers F coords faces maps origins images numbers) where
    piece-numbers : (side : Side) (u v : ℕ) → Begins faces side.face side.corner u v
        → IsNumberOf F origins images (along numbers side).0 u (place_by F coords faces maps side.face u) × IsNumberOf F origins images (along numbers side).1 v (place_by F coords faces maps side.face v)
    piece-numbers side u v b =
        let corner : side.corner < length (corners_at faces side.face) = begins-corner faces side.face side.corner u v b in
        let next = next-corner (corners_at faces side.face) side.corner corner in
        let here : (corner_at faces side.face side.corner, corner_at faces side.face next.0) ≡ (u, v) = some-same (sym (next.2 (corners_at faces side.face) refl) ∙ b.piece) in
        let by : along numbers side ≡ (corner_at numbers side.face side.corner, corner_at numbers side.face next.0)
        = get_or_from_slice_get (pieces_round (corners_at numbers side.face)) side.corner (corner_at numbers side.face side.corner, corner_at numbers side.face next.0) (0, 0)
        (next.2 (corners_at numbers side.face) (known.all_corners side.face)) in (
          at side.corner corner u (along numbers side).0 (ap (λ (p : ℕ × ℕ). p.0) here) (ap (λ (p : ℕ × ℕ). p.0) by),
          at next.0 next.1 v (along numbers side).1 (ap (λ (p : ℕ × ℕ). p.1) here) (ap (λ (p : ℕ × ℕ). p.1) by),
        )
      where
        at : (k : ℕ) → k < length (corners_at faces side.face) → (w i : ℕ) → corner_at faces side.face k ≡ w → i ≡ corner_at numbers side.face k → IsNumberOf F origins images i w (place_by F coords faces maps side.face w)
        at k l w i is same =
            subst (λ (j : ℕ). IsNumberOf F origins images j w (place_by F coords faces maps side.face w)) (sym same)
            (subst (λ (x : ℕ). IsNumberOf F origins images (corner_at numbers side.face k) x (place_by F coords faces maps side.face x)) is (known.each side.face k b.is_face l))

    module _ (one : (u v f g : ℕ) → LiesAlong edges faces f u v → LiesAlong edges faces g u v → f ≡ g) (e : ℕ) where
      lays-left : (s : Side) → Begins faces s.face s.corner (edge_at edges e).from (edge_at edges e).to → LaysEdge F coords edges faces maps origins images e s.face (along numbers s)
      lays-left s b =
          let ends = piece-numbers s (edge_at edges e).from (edge_at edges e).to b in
          record { face = inl (begins-along faces edges s.face s.corner (edge_at edges e).from (edge_at edges e).to b); from = ends.0; to = ends.1 }

      lays-right : (s : Side) → Begins faces s.face s.corner (edge_at edges e).to (edge_at edges e).from → LaysEdge F coords edges faces maps origins images e s.face (swapped (along numbers s))
      lays-right s b =
          let ends = piece-numbers s (edge_at edges e).to (edge_at edges e).from b in
          record { face = inr (begins-along faces edges s.face s.corner (edge_at edges e).to (edge_at edges e).from b); from = ends.1; to = ends.0 }

      at-left : (s : Side) → Begins faces s.face s.corner (edge_at edges e).from (edge_at edges e).to → (h : ℕ) → LiesAlong edges faces h (edge_at edges e).from (edge_at edges e).to → h ≡ s.face
      at-left s b h there = one (edge_at edges e).from (edge_at edges e).to h s.face there (begins-along faces edges s.face s.corner (edge_at edges e).from (edge_at edges e).to b)

      at-right : (s : Side) → Begins faces s.face s.corner (edge_at edges e).to (edge_at edges e).from → (h : ℕ) → LiesAlong edges faces h (edge_at edges e).to (edge_at edges e).from → h ≡ s.face
      at-right s b h back = one (edge_at edges e).to (edge_at edges e).from h s.face back (begins-along faces edges s.face s.corner (edge_at edges e).to (edge_at edges e).from b)

      pub images-of : (l r : Option Side) → IsSide faces (edge_at edges e).from (edge_at edges e).to l → IsSide faces (edge_at edges e).to (edge_at edges e).from r → ¬ ((l ≡ None) × (r ≡ None))
          → AreImagesOf F coords edges faces maps origins images e (end_images numbers l r)
      images-of None None a b some = absurd (some (refl, refl))
      images-of (Some l) None a b some = single e l.face (along numbers l) (lays-left l a) (λ h has. elim has [
        | inl there ↦ (let same = at-left l a h there in (omega (arith, same), subst (λ (x : ℕ). LaysEdge F coords edges faces maps origins images e x (along numbers l)) (sym same) (lays-left l a)))
        | inr back ↦ absurd (let begins = along-begins faces edges h (edge_at edges e).to (edge_at edges e).from back in b h begins.0 begins.1)
      ])
      images-of None (Some r) a b some = single e r.face (swapped (along numbers r)) (lays-right r b) (λ h has. elim has [
        | inl there ↦ absurd (let begins = along-begins faces edges h (edge_at edges e).from (edge_at edges e).to there in a h begins.0 begins.1)
        | inr back ↦ (let same = at-right r b h back in (omega (arith, same), subst (λ (x : ℕ). LaysEdge F coords edges faces maps origins images e x (swapped (along numbers r))) (sym same) (lays-right r b)))
      ])
      images-of (Some l) (Some r) a b some = by (nat_lt r.face l.face) refl
        where
          by : (t : Bool) → nat_lt r.face l.face ≡ t
              → AreImagesOf F coords edges faces maps origins images e (if t then both (swapped (along numbers r)) (along numbers l) else both (along numbers l) (swapped (along numbers r)))
          by true is = two-pairs e r.face l.face (swapped (along numbers r)) (along numbers l) (is-less r.face l.face is) (lays-right r b) (lays-left l a)
              (λ h has. elim has [ inl there ↦ inr (at-left l a h there) | inr back ↦ inl (at-right r b h back) ])
          by false is = two-pairs e l.face r.face (along numbers l) (swapped (along numbers r)) (is-no-less r.face l.face is) (lays-left l a) (lays-right r b)
              (λ h has. elim has [ inl there ↦ inl (at-left l a h there) | inr back ↦ inr (at-right r b h back) ])

  -- ---- there is one such list of pairs

  abbrev Are : ℕ → List (ℕ × ℕ) → Type 0
  Are e pairs = AreImagesOf F coords edges faces maps origins images e pairs

  abbrev First : ℕ → ℕ → ℕ × ℕ → Type 0
  First e f pair = LaysFirst F coords edges faces maps origins images e f pair

  module _ (e : ℕ) (ps qs : List (ℕ × ℕ)) (a : Are e ps) (b : Are e qs) where
    pair-found : (i : ℕ) → i < length ps → (j : ℕ) × (j < length qs) × (pair_at qs j ≡ pair_at ps i)
    pair-found i l =
        let by = a.given i l in
        let at = b.all by.0 by.1.lays.face in
        (at.0, at.1, one-pair e by.0 by.0 (pair_at qs at.0) (pair_at ps i) refl at.2 by.1.lays)

    pair-no_earlier : (i j : ℕ) → i < length ps → j < length qs → pair_at qs j ≡ pair_at ps i → i ≤ j
    pair-no_earlier zero j l m same = omega arith
    pair-no_earlier (suc i) j l m same =
        let less : i < length ps = omega (arith, l) in
        let before = pair-found i less in
        let reached : i ≤ before.0 = pair-no_earlier i before.0 less before.1 before.2 in
        let f = (a.given i less).0 in
        let g = (a.given (suc i) l).0 in
        let first : First e f (pair_at ps i) = (a.given i less).1 in
        let second : First e g (pair_at ps (suc i)) = (a.given (suc i) l).1 in
        let order : f < g = a.in_order i (suc i) f g (omega arith) l first second in
        elim (cases_lt before.0 j) [
          | inl later ↦ omega (arith, reached, later)
          | inr behind ↦ absurd (elim (cases_lt j before.0) [
            | inl sooner ↦ (
                let back : g < f = b.in_order j before.0 g f sooner before.1 (subst (λ (p : ℕ × ℕ). First e g p) (sym same) second) (subst (λ (p : ℕ × ℕ). First e f p) (sym before.2) first) in
                omega (arith, order, back)
                )
            | inr ahead ↦ (
                let here : before.0 ≡ j = omega (arith, behind, ahead) in
                let one : pair_at ps i ≡ pair_at ps (suc i) = sym before.2 ∙ ap (λ (k : ℕ). pair_at qs k) here ∙ same in
                let again : f < f = a.in_order i (suc i) f f (omega arith) l first (subst (λ (p : ℕ × ℕ). First e f p) one first) in
                omega (arith, again)
                )
          ])
        ]

  module _ (e : ℕ) (ps qs : List (ℕ × ℕ)) (a : Are e ps) (b : Are e qs) where
    same-pair : (i : ℕ) → i < length ps → (i < length qs) × (pair_at qs i ≡ pair_at ps i)
    same-pair i l =
        let at = pair-found e ps qs a b i l in
        let low : i ≤ at.0 = pair-no_earlier e ps qs a b i at.0 l at.1 at.2 in
        let high : at.0 ≤ i = pair-no_earlier e qs ps b a at.0 i at.1 l (sym at.2) in
        let same : at.0 ≡ i = omega (arith, low, high) in
        subst (λ (j : ℕ). (j < length qs) × (pair_at qs j ≡ pair_at ps i)) same (at.1, at.2)

  few-pairs : (e : ℕ) (ps qs : List (ℕ × ℕ)) → Are e ps → Are e qs → length ps ≤ length qs
  few-pairs e ps qs a b = elim (cases_lt (length qs) (length ps)) [
    | inl more ↦ absurd (let at = (same-pair e ps qs a b (length qs) more).0 in omega (arith, at))
    | inr most ↦ most
  ]

  one-pairs : (e : ℕ) (ps qs : List (ℕ × ℕ)) → Are e ps → Are e qs → ps ≡ qs
  one-pairs e ps qs a b =
      let x = few-pairs e ps qs a b in
      let y = few-pairs e qs ps b a in
      ext_get_or (0, 0) ps qs (omega (arith, x, y)) (λ i l. sym (same-pair e ps qs a b i l).1)

-- ---- all edges

module _ (corners : List Face) where
  abbrev side-pairs : Sides → List (ℕ × ℕ)
  side-pairs s = end_images corners s.left s.right

  by-sides : (edges : List Edge) (sides : List Sides) → edge_images corners edges sides ≡ with_letters edges (map side-pairs sides)
  by-sides [] sides = refl
  by-sides (edge ∷ edges) [] = refl
  by-sides (edge ∷ edges) (s ∷ sides) = ap (λ (rest : List Edge). map (image_of edge.letter) (side-pairs s) ++ rest) (by-sides edges sides)

module _ {N W : Type 0} (F : OrderedField N) (layout : Layout N W)
    (are : AreImages F layout.sheet.ends.coords layout.sheet.faces layout.maps layout.origins layout.images)
    (known : AreNumbers F layout.sheet.ends.coords layout.sheet.faces layout.maps layout.origins layout.images layout.corners)
    (knows : KnowsSides layout.sheet.faces layout.sheet.ends.edges layout.sides)
    (one : (u v f g : ℕ) → LiesAlong layout.sheet.ends.edges layout.sheet.faces f u v → LiesAlong layout.sheet.ends.edges layout.sheet.faces g u v → f ≡ g)
    (some : (e : ℕ) → e < length layout.sheet.ends.edges → ¬ (((sides_at layout.sides e).left ≡ None) × ((sides_at layout.sides e).right ≡ None))) where
  each : (e : ℕ) → e < length layout.sheet.ends.edges
      → AreImagesOf F layout.sheet.ends.coords layout.sheet.ends.edges layout.sheet.faces layout.maps layout.origins layout.images e (pairs_of (map (side-pairs layout.corners) layout.sides) e)
  each e l =
      subst (λ (ps : List (ℕ × ℕ)). AreImagesOf F layout.sheet.ends.coords layout.sheet.ends.edges layout.sheet.faces layout.maps layout.origins layout.images e ps)
      (sym (get_or-map (side-pairs layout.corners) layout.sides e (record { left = None; right = None }) [] (subst (λ n. e < n) (sym knows.long) l)))
      (images-of F layout.sheet.ends.coords layout.sheet.ends.edges layout.sheet.faces layout.maps layout.origins layout.images are layout.corners known one e
      (sides_at layout.sides e).left (sides_at layout.sides e).right (knows.each e l).left (knows.each e l).right (some e l))

  pub laid-by_sides : (images : List Edge) → AreEdgeImages layout images → AreLaid F layout images
  laid-by_sides images h = record {
    pairs = map (side-pairs layout.corners) layout.sides;
    long = length-map layout.sides (side-pairs layout.corners) ∙ knows.long;
    each = each;
    are = h ∙ by-sides layout.corners layout.sheet.ends.edges layout.sides;
  }

  pub sides-by_laid : (images : List Edge) → AreLaid F layout images → AreEdgeImages layout images
  sides-by_laid images h =
      let long : length h.pairs ≡ length (map (side-pairs layout.corners) layout.sides) = h.long ∙ sym (length-map layout.sides (side-pairs layout.corners) ∙ knows.long) in
      let same : h.pairs ≡ map (side-pairs layout.corners) layout.sides
      = ext_get_or [] h.pairs (map (side-pairs layout.corners) layout.sides) long (λ e l.
      let within : e < length layout.sheet.ends.edges = subst (λ n. e < n) h.long l in
      one-pairs F layout.sheet.ends.coords layout.sheet.ends.edges layout.sheet.faces layout.maps layout.origins layout.images are e
      (pairs_of h.pairs e) (pairs_of (map (side-pairs layout.corners) layout.sides) e) (h.each e within) (each e within)) in
      h.are ∙ ap (λ (ps : List (List (ℕ × ℕ))). with_letters layout.sheet.ends.edges ps) same ∙ sym (by-sides layout.corners layout.sheet.ends.edges layout.sides)
