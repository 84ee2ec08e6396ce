-- Numbers that come twice, number by number, and the outer walk.
use Rattle.std.proofs.Common.{◌≡◌, ◌∙◌, ap, sym, refl, subst, ℕ, List, [], ◌∷◌, ◌++◌, ◌<◌, ◌+◌, length, Bool, true, false, Option, Some, None, inl, inr, ◌⊎◌, arith, zero, suc, min}
use Rattle.std.specs.Prelude.{Contains, slice_index, slice_index_or}
use Rattle.std.specs.Ordering.{ordering_reverse}
use Rattle.std.specs.declared.cmp.Ordering.TheVariants.{Less, Greater}
use Rattle.std.proofs.lemmas.Bool.{cases_lt}
use Rattle.std.proofs.lemmas.List.{append_assoc, length-append, length-set, get_or_at, get_or-set_same, get_or-set_other}
use Rattle.plane.proofs.First.{same_or_not}
use Rattle.algebra.specs.OrderedRing.{OrderedRing}
use Rattle.plane.specs.declared.point.Point.{Point}
use Rattle.plane.specs.Directions.{west}
use Rattle.plane.specs.Points.{point_order}
use Rattle.plane.proofs.Order.{order_turned}
use Rattle.plane.proofs.Turning.{clockwise_once}
use Rattle.scaled_plane.specs.declared.drawing.Edge.{Edge}
use Rattle.scaled_plane.specs.declared.drawing.Face.{Face}
use Rattle.scaled_plane.specs.declared.sheet.SheetFlaw.TheVariants.{Pinched}
use Rattle.scaled_plane.specs.Pieces.{point_at}
use Rattle.scaled_plane.specs.Sheets.{HasFlaw}
use Rattle.scaled_plane.specs.Walks.{IsOuterWalk, IsOutside, pieces_round, way}
use Rattle.regions.proofs.Rotations.{one_least, one_walk_round}
use Rattle.sheet_check.specs.Listed.{is_marked}
use Rattle.sheet_check.specs.Twice.{AreSeen, ComesTwice, IsLeastTwice, Notes, least_of}

-- ---- one number more

module _ (corners : List ℕ) (n v : ℕ) (is : slice_index corners n ≡ v) where
  twice_then : (u : ℕ) → ComesTwice corners n u → ComesTwice corners (n + 1) u
  twice_then u (i, j, less, within, a, b) = (i, j, less, omega (arith, within), a, b)

  abbrev StoodBefore : ℕ → Type 0
  StoodBefore u = (u ≡ v) × (i : ℕ) × (i < n) × (slice_index corners i ≡ u)

  twice_cases : (u : ℕ) → ComesTwice corners (n + 1) u → ComesTwice corners n u ⊎ StoodBefore u
  twice_cases u (i, j, less, within, a, b) = elim (cases_lt j n) [
    | inl earlier ↦ inl (i, j, less, earlier, a, b)
    | inr last ↦ (let same : j ≡ n = omega (arith, within, last) in inr (sym b ∙ ap (λ (x : ℕ). slice_index corners x) same ∙ is, i, omega (arith, less, same), a))
  ]

  module _ (old : List Bool) (found : Option ℕ) (h : AreSeen corners n old found) where
    every_then : (new : List Bool) → ((x : ℕ) → is_marked old x ≡ true → is_marked new x ≡ true) → is_marked new v ≡ true → (i : ℕ) → i < n + 1 → is_marked new (slice_index corners i) ≡ true
    every_then new kept here i l = elim (cases_lt i n) [
      | inl earlier ↦ kept (slice_index corners i) (h.every i earlier)
      | inr last ↦ (let same : i ≡ n = omega (arith, l, last) in ap (λ (x : ℕ). is_marked new x) (ap (λ (x : ℕ). slice_index corners x) same ∙ is) ∙ here)
    ]

    only_then : (x : ℕ) → is_marked old x ≡ true → (i : ℕ) × (i < n + 1) × (slice_index corners i ≡ x)
    only_then x e = let there = h.only x e in let l = there.1 in (there.0, omega (arith, l), there.2)

    -- where v stood before, it comes twice
    module _ (on : is_marked old v ≡ true) where
      now_twice : ComesTwice corners (n + 1) v
      now_twice = let there = h.only v on in let l = there.1 in (there.0, n, there.1, omega arith, there.2, is)

      least_now : (f : Option ℕ) → IsLeastTwice corners n f → IsLeastTwice corners (n + 1) (least_of v f)
      least_now None none = (
        now_twice,
        λ u less t. elim (twice_cases u t) [
          | inl earlier ↦ none u earlier
          | inr last ↦ (let same = last.0 in omega (arith, less, same))
        ],
      )
      least_now (Some w) (twice, low) = elim (cases_lt v w) [
        | inl less ↦
            let is_min : min v w ≡ v = grind (arith, less) in
            subst (λ (m : ℕ). ComesTwice corners (n + 1) m × ((u : ℕ) → u < m → ¬ ComesTwice corners (n + 1) u)) (sym is_min) (
              now_twice,
              λ u below t. elim (twice_cases u t) [
                | inl earlier ↦ low u (omega (arith, below, less)) earlier
                | inr last ↦ (let same = last.0 in omega (arith, below, same))
              ],
            )
        | inr more ↦
            let is_min : min v w ≡ w = grind (arith, more) in
            subst (λ (m : ℕ). ComesTwice corners (n + 1) m × ((u : ℕ) → u < m → ¬ ComesTwice corners (n + 1) u)) (sym is_min) (
              twice_then w twice,
              λ u below t. elim (twice_cases u t) [
                | inl earlier ↦ low u below earlier
                | inr last ↦ (let same = last.0 in omega (arith, below, same, more))
              ],
            )
      ]

    -- where it didn't, nothing new comes twice
    module _ (off : is_marked old v ≡ false) where
      not_before : (u : ℕ) → ¬ StoodBefore u
      not_before u (same, i, l, e) =
          let on : is_marked old v ≡ true = ap (λ (x : ℕ). is_marked old x) (sym same ∙ sym e) ∙ h.every i l in
          let no : true ≡ false = sym on ∙ off in
          absurd (cc)

      least_still : (f : Option ℕ) → IsLeastTwice corners n f → IsLeastTwice corners (n + 1) f
      least_still None none = λ u t. elim (twice_cases u t) [ inl earlier ↦ none u earlier | inr last ↦ not_before u last ]
      least_still (Some w) (twice, low) = (twice_then w twice, λ u less t. elim (twice_cases u t) [ inl earlier ↦ low u less earlier | inr last ↦ not_before u last ])

    pub seen_more : (new : List Bool) (found' : Option ℕ) → v < length old → Notes v old new found found' → AreSeen corners (n + 1) new found'
    seen_more new found' within (inl (on, kept, least)) = record {
      only = λ x e. only_then x (subst (λ (m : List Bool). is_marked m x ≡ true) kept e);
      every = every_then new (λ x e. subst (λ (m : List Bool). is_marked m x ≡ true) (sym kept) e) (subst (λ (m : List Bool). is_marked m v ≡ true) (sym kept) on);
      least = subst (λ (f : Option ℕ). IsLeastTwice corners (n + 1) f) (sym least) (least_now on found h.least);
    }
    seen_more new found' within (inr (off, put, same)) =
        let here : is_marked new v ≡ true = ap (λ (m : List Bool). is_marked m v) put ∙ get_or-set_same old v true false within in
        let elsewhere : (x : ℕ) → ¬ (x ≡ v) → is_marked new x ≡ is_marked old x = λ x other. ap (λ (m : List Bool). is_marked m x) put ∙ get_or-set_other old v x true false other in
        record {
          only = λ x e. elim (same_or_not x v) [
            | inl at ↦ (n, omega arith, is ∙ sym at)
            | inr other ↦ only_then x (sym (elsewhere x other) ∙ e)
          ];
          every = every_then new (λ x e. elim (same_or_not x v) [ inl at ↦ ap (λ (y : ℕ). is_marked new y) at ∙ here | inr other ↦ elsewhere x other ∙ e ]) here;
          least = subst (λ (f : Option ℕ). IsLeastTwice corners (n + 1) f) (sym same) (least_still off found h.least);
        }

pub notes_long : (v : ℕ) (old new : List Bool) (found found' : Option ℕ) → Notes v old new found found' → length new ≡ length old
notes_long v old new found found' (inl (on, kept, least)) = ap (λ (m : List Bool). length m) kept
notes_long v old new found found' (inr (off, put, same)) = ap (λ (m : List Bool). length m) put ∙ length-set old v true

-- ---- lists in which a number stands twice

parted : (cs : List ℕ) (i v d : ℕ) → i < length cs → slice_index_or cs i d ≡ v → (a c : List ℕ) × (length a ≡ i) × (cs ≡ a ++ v ∷ c)
parted [] i v d l e = absurd (omega (arith, l))
parted (u ∷ cs) zero v d l e = ([], cs, refl, ap (λ x. x ∷ cs) e)
parted (u ∷ cs) (suc i) v d l e =
    let r = parted cs i v d (omega (arith, l)) e in
    (u ∷ r.0, r.1, ap suc r.2, ap (λ (xs : List ℕ). u ∷ xs) r.3)

stands_twice : (cs : List ℕ) (i j v d : ℕ) → i < j → j < length cs → slice_index_or cs i d ≡ v → slice_index_or cs j d ≡ v → (a b c : List ℕ) × (cs ≡ a ++ v ∷ b ++ v ∷ c)
stands_twice [] i j v d less within e f = absurd (omega (arith, within))
stands_twice (u ∷ cs) zero zero v d less within e f = absurd (omega (arith, less))
stands_twice (u ∷ cs) (suc i) zero v d less within e f = absurd (omega (arith, less))
stands_twice (u ∷ cs) zero (suc j) v d less within e f =
    let r = parted cs j v d (omega (arith, within)) f in
    ([], r.0, r.1, ap (λ x. x ∷ cs) e ∙ ap (λ (xs : List ℕ). v ∷ xs) r.3)
stands_twice (u ∷ cs) (suc i) (suc j) v d less within e f =
    let r = stands_twice cs i j v d (omega (arith, less)) (omega (arith, within)) e f in
    (u ∷ r.0, r.1, r.2, ap (λ (xs : List ℕ). u ∷ xs) r.3)

by_places : (v : ℕ) (a b c : List ℕ) → ComesTwice (a ++ v ∷ b ++ v ∷ c) (length (a ++ v ∷ b ++ v ∷ c)) v
by_places v a b c =
    let long : length ((a ++ v ∷ b) ++ v ∷ c) ≡ length (a ++ v ∷ b) + length (v ∷ c) = length-append (a ++ v ∷ b) (v ∷ c) in
    let front : length (a ++ v ∷ b) ≡ length a + length (v ∷ b) = length-append a (v ∷ b) in
    let first : slice_index ((a ++ v ∷ b) ++ v ∷ c) (length a) ≡ v
    = ap (λ (xs : List ℕ). slice_index xs (length a)) (append_assoc a (v ∷ b) (v ∷ c)) ∙ get_or_at a v (b ++ v ∷ c) 0 (length a) refl in
    let second : slice_index ((a ++ v ∷ b) ++ v ∷ c) (length (a ++ v ∷ b)) ≡ v = get_or_at (a ++ v ∷ b) v c 0 (length (a ++ v ∷ b)) refl in
    (length a, length (a ++ v ∷ b), omega (arith, front), omega (arith, long), first, second)

-- ---- the outer walk

module _ {A : Type 0} (K : OrderedRing A) (vertices : List (Point A)) (edges : List Edge) where
  outside_once : (u w x y : ℕ) → IsOutside K vertices edges u w → IsOutside K vertices edges x y → (u ≡ x) × (w ≡ y)
  outside_once u w x y a b = (least, first)
    where
      least : u ≡ x
      least = elim (same_or_not u x) [
        | inl same ↦ same
        | inr other ↦
            let before : point_order K (point_at K vertices u) (point_at K vertices x) ≡ Less = a.least x b.in_range (λ e. other (sym e)) in
            let after : point_order K (point_at K vertices x) (point_at K vertices u) ≡ Less = b.least u a.in_range other in
            let both : Less ≡ Greater = sym after ∙ order_turned K (point_at K vertices u) (point_at K vertices x) ∙ ap ordering_reverse before in
            absurd (cc)
      ]

      at : (z : ℕ) → IsOutside K vertices edges u z → w ≡ z
      at z c = elim (same_or_not w z) [
        | inl same ↦ same
        | inr other ↦ absurd (clockwise_once K (west K.ops) (way K vertices edges u w) (way K vertices edges u z)
            (a.first.first z c.first.neighbour (λ n. n) (λ e. other (sym e))) (c.first.first w a.first.neighbour (λ n. n) other))
      ]

      first : w ≡ y
      first = at y (subst (λ (t : ℕ). IsOutside K vertices edges t y) (sym least) b)

  one_outer : (c d : List ℕ) → IsOuterWalk K vertices edges c → IsOuterWalk K vertices edges d → c ≡ d
  one_outer c d a b =
      let o : (u w : ℕ) × IsOutside K vertices edges u w × Contains (pieces_round c) (u, w) = a.outer in
      let p : (u w : ℕ) × IsOutside K vertices edges u w × Contains (pieces_round d) (u, w) = b.outer in
      let same = outside_once p.0 p.1 o.0 o.1 p.2 o.2 in
      let there : Contains (pieces_round d) (o.0, o.1) = subst (λ (t : ℕ × ℕ). Contains (pieces_round d) t) (λ i. (same.0 i, same.1 i)) p.3 in
      one_least c d a.least b.least (one_walk_round K vertices edges c d a.walk b.walk o.0 o.1 o.3 there)

  module _ (faces : List Face) (outer : List ℕ) (o : IsOuterWalk K vertices edges outer) where
    pub pinched : (v : ℕ) → ComesTwice outer (length outer) v → HasFlaw K vertices edges faces (Pinched v)
    pinched v (i, j, less, within, a, b) =
        let r = stands_twice outer i j v 0 less within a b in
        (r.0, r.1, r.2, subst (λ (cs : List ℕ). IsOuterWalk K vertices edges cs) r.3 o)

    pub pinched_back : (v : ℕ) → HasFlaw K vertices edges faces (Pinched v) → ComesTwice outer (length outer) v
    pinched_back v (a, b, c, is) =
        let same : (a ++ v ∷ b ++ v ∷ c) ≡ outer = one_outer _ _ is o in
        subst (λ (cs : List ℕ). ComesTwice cs (length cs) v) same (by_places v a b c)
