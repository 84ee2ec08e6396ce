-- The drawing of a sheet is plane, connected and well set, and each of its edges is a side of some face.
use Rattle.std.proofs.Common.{◌≡◌, ◌∙◌, ap, sym, refl, subst, ℕ, ℤ, zero, suc, pos, List, [], ◌∷◌, ◌<◌, ◌^◌, length, map, inl, inr, ◌⊎◌, arith}
use Rattle.std.specs.Prelude.{Some, slice_get, slice_index_or}
use Rattle.std.specs.List.{AllZip, Contains}
use Rattle.std.specs.declared.cmp.Ordering.{Ordering}
use Rattle.std.specs.declared.cmp.Ordering.TheVariants.{Less, Equal, Greater}
use Rattle.std.proofs.lemmas.Bool.{cases_lt}
use Rattle.std.proofs.lemmas.List.{get_or_default}
use Rattle.std.proofs.lemmas.Option.{slice_get-get_or}
use Rattle.algebra.specs.LowestTerms.{Parts}
use Rattle.algebra.specs.OrderedRing.{OrderedRing}
use Rattle.algebra.specs.Surd.{Surd}
use Rattle.algebra.specs.WholeSurds.{SurdNumbers}
use Rattle.algebra.proofs.Solvers.{ring, reads}
use Rattle.plane.specs.declared.point.Point.{Point}
use Rattle.plane.specs.Lines.{determinant, side}
use Rattle.plane.specs.Points.{IsPoint, IsSamePoint, origin, point_order}
use Rattle.plane.specs.Segments.{IsEnd, IsOn}
use Rattle.plane.proofs.First.{same_or_not}
use Rattle.plane.proofs.Members.{in_cons, in_head, in_nil, in_tail}
use Rattle.plane.proofs.Order.{equal_of_same, same_of_equal}
use Rattle.scaled_plane.specs.declared.drawing.Edge.{Edge}
use Rattle.scaled_plane.specs.declared.drawing.Ends.{Ends}
use Rattle.scaled_plane.specs.declared.drawing.Face.{Face}
use Rattle.scaled_plane.specs.declared.point.Pair.{Pair}
use Rattle.scaled_plane.specs.declared.point.Scaled.{Scaled}
use Rattle.scaled_plane.specs.declared.sheet.SheetFlaw.TheVariants.{SameVertex, Loose, NotPlane, Parted}
use Rattle.scaled_plane.specs.Drawn.{IsDrawn, IsScaledPoint}
use Rattle.scaled_plane.specs.Pieces.{point_at}
use Rattle.scaled_plane.specs.Scaling.{IsScaledOf, IsScaledWith}
use Rattle.scaled_plane.specs.Sheets.{HasFlaw}
use Rattle.scaled_plane.specs.WellSet.{HasEnd, IsWellSet, LiesAlong}
use Rattle.regions.specs.Faces.{IsConnected, IsPlane}
use Rattle.flat_fold.specs.Sheets.{FormSheet, drawing_of, own_line}
use Rattle.flat_fold.proofs.Joined.{joined-or_not}
use Rattle.flat_fold.proofs.SheetLaws.{long}

zipped_right : {X Y : Type 0} (R : X → Y → Type 0) (xs : List X) (ys : List Y) (i : ℕ) (e : Y) → AllZip R xs ys → i < length ys → (x : X) × R x (slice_index_or ys i e)
zipped_right R [] [] i e z l = absurd (omega (arith, l))
zipped_right R [] (y ∷ ys) i e z l = absurd z
zipped_right R (x ∷ xs) [] i e z l = absurd z
zipped_right R (x ∷ xs) (y ∷ ys) zero e z l = (x, z.0)
zipped_right R (x ∷ xs) (y ∷ ys) (suc i) e z l = zipped_right R xs ys i e z.1 (omega (arith, l))

-- some edge ends at the vertex, or none does
end-or_none : (es : List Edge) (v : ℕ) → ((e : Edge) × Contains es e × HasEnd e v) ⊎ ((e : Edge) → Contains es e → ¬ HasEnd e v)
end-or_none [] v = inr (λ e i n. in_nil e i)
end-or_none (e ∷ es) v = at (same_or_not e.from v) (same_or_not e.to v) (end-or_none es v)
  where
    at : (e.from ≡ v) ⊎ ¬ (e.from ≡ v) → (e.to ≡ v) ⊎ ¬ (e.to ≡ v) → ((f : Edge) × Contains es f × HasEnd f v) ⊎ ((f : Edge) → Contains es f → ¬ HasEnd f v)
        → ((f : Edge) × Contains (e ∷ es) f × HasEnd f v) ⊎ ((f : Edge) → Contains (e ∷ es) f → ¬ HasEnd f v)
    at (inl a) b c = inl (e, in_head e es, inl a)
    at (inr a) (inl b) c = inl (e, in_head e es, inr b)
    at (inr a) (inr b) (inl c) = inl (c.0, in_tail e es c.0 c.1, c.2)
    at (inr a) (inr b) (inr c) = inr (λ f i n. elim (in_cons e es f i) [
      | inl same ↦ elim (subst (λ (g : Edge). HasEnd g v) (sym same) n) [ inl x ↦ a x | inr x ↦ b x ]
      | inr j ↦ c f j n
    ])

module _ {A : Type 0} (K : OrderedRing A) where
  same-or_not : (p q : Point A) → IsSamePoint K p q ⊎ ¬ IsSamePoint K p q
  same-or_not p q = at (point_order K p q) refl
    where
      at : (o : Ordering) → point_order K p q ≡ o → IsSamePoint K p q ⊎ ¬ IsSamePoint K p q
      at Equal e = inl (same_of_equal K p q e)
      at Less e = inr (λ s. let no : Less ≡ Equal = sym e ∙ equal_of_same K p q s in cc)
      at Greater e = inr (λ s. let no : Greater ≡ Equal = sym e ∙ equal_of_same K p q s in cc)

  end-or_not : (a b p : Point A) → IsEnd K a b p ⊎ ¬ IsEnd K a b p
  end-or_not a b p = elim (same-or_not p a) [
    | inl s ↦ inl (inl s)
    | inr n ↦ elim (same-or_not p b) [
      | inl s ↦ inl (inr s)
      | inr m ↦ inr (λ h. elim h [ inl s ↦ n s | inr s ↦ m s ])
    ]
  ]

  -- both ends of a line lie on it
  on_from : (a b : Point A) → side K a b a ≡ Equal
  on_from a b =
      let zero : determinant K.ops a b a ≡ K.int (pos 0) = ring K (a.x ∷ a.y ∷ a.w ∷ b.x ∷ b.y ∷ b.w ∷ []) (search reads depth 40 fits 50000) (search reads depth 40 fits 50000) tt in
      ap K.sign zero ∙ K.sign_int (pos 0)

  on_to : (a b : Point A) → side K a b b ≡ Equal
  on_to a b =
      let zero : determinant K.ops a b b ≡ K.int (pos 0) = ring K (a.x ∷ a.y ∷ a.w ∷ b.x ∷ b.y ∷ b.w ∷ []) (search reads depth 40 fits 50000) (search reads depth 40 fits 50000) tt in
      ap K.sign zero ∙ K.sign_int (pos 0)

-- ---- vertices and edges of which no line of the table up to plane edges holds

module _ {W : Type 0} {k : ℕ} {surd : W → Surd ℤ} (numbers : SurdNumbers k surd) (vertices : List (Point W)) (edges : List Edge) where
  abbrev K : OrderedRing W
  K = numbers.ring

  abbrev position : ℕ → Point W
  position v = point_at K vertices v

  -- scaled vertices and few edges between them, and none of the first three flaws
  pub record IsPlaneSet : Type 0 where
    pub few : length edges < 2 ^ 30
    pub scaled : (v : ℕ) → v < length vertices → IsScaledPoint numbers (position v)
    pub in_range : (e : Edge) → Contains edges e → (e.from < length vertices) × (e.to < length vertices)
    pub different : (low high : ℕ) → ¬ HasFlaw K vertices edges [] (SameVertex low high)
    pub used : (v : ℕ) → ¬ HasFlaw K vertices edges [] (Loose v)
    pub plane : (low high : ℕ) → ¬ HasFlaw K vertices edges [] (NotPlane low high)

  module _ (h : IsPlaneSet) where
    set-point : (v : ℕ) → v < length vertices → IsPoint K (position v)
    set-point v l = ap K.sign (h.scaled v l).whole ∙ K.sign_int (pos 1)

    of_vertices : (P : Point W → Type 0) → ((v : ℕ) → v < length vertices → P (position v)) → (p : Point W) → Contains vertices p → P p
    of_vertices P each p i = subst P (get_or_default vertices i.0 (origin K.ops) p i.1 ∙ i.2) (each i.0 i.1)

    vertices-differ : (i j : ℕ) (d : Point W) → i < j → j < length vertices → ¬ IsSamePoint K (slice_index_or vertices i d) (slice_index_or vertices j d)
    vertices-differ i j d less within s =
        h.different i j (
          less,
          within,
          subst (λ (q : Point W). IsSamePoint K (position i) q) (get_or_default vertices j d (origin K.ops) within)
              (subst (λ (p : Point W). IsSamePoint K p (slice_index_or vertices j d)) (get_or_default vertices i d (origin K.ops) (omega (arith, less, within))) s),
        )

    edge-ends : (e : Edge) → Contains edges e → (e.from < length vertices) × (e.to < length vertices) × ¬ (e.from ≡ e.to)
    edge-ends e i =
        let r = h.in_range e i in
        let read : slice_get edges i.0 ≡ Some e = slice_get-get_or edges i.0 e i.1 ∙ ap Some i.2 in (
          r.0,
          r.1,
          λ same. h.plane i.0 i.0 (e, e, read, read, inl (refl, same)),
        )

    edges-apart : (i j : ℕ) (d : Edge) → i < j → j < length edges → (p : Point W) → IsPoint K p
        → IsOn K (position (slice_index_or edges i d).from) (position (slice_index_or edges i d).to) p → IsOn K (position (slice_index_or edges j d).from) (position (slice_index_or edges j d).to) p
        → IsEnd K (position (slice_index_or edges i d).from) (position (slice_index_or edges i d).to) p × IsEnd K (position (slice_index_or edges j d).from) (position (slice_index_or edges j d).to) p
    edges-apart i j d less within p point on_first on_second =
        let e = slice_index_or edges i d in
        let f = slice_index_or edges j d in
        let meet : ¬ (IsEnd K (position e.from) (position e.to) p × IsEnd K (position f.from) (position f.to) p) → ⊥
        = λ n. h.plane i j (e, f, slice_get-get_or edges i d (omega (arith, less, within)), slice_get-get_or edges j d within, inr (less, (p, (point, on_first, on_second), n))) in (
          elim (end-or_not K (position e.from) (position e.to) p) [ inl x ↦ x | inr n ↦ absurd (meet (λ b. n b.0)) ],
          elim (end-or_not K (position f.from) (position f.to) p) [ inl x ↦ x | inr n ↦ absurd (meet (λ b. n b.1)) ],
        )

    vertex-used : (v : ℕ) → v < length vertices → (e : Edge) × Contains edges e × HasEnd e v
    vertex-used v l = elim (end-or_none edges v) [ inl some ↦ some | inr none ↦ absurd (h.used v (l, none)) ]

    pub set-plane : IsPlane K vertices edges
    set-plane = record {
      points = of_vertices (IsPoint K) set-point;
      different = vertices-differ;
      ends = edge-ends;
      apart = edges-apart;
      used = vertex-used;
    }

    lines-along : (es : List Edge) → ((e : Edge) → Contains es e → Contains edges e) → AllZip (LiesAlong numbers (drawing_of vertices edges)) es (map own_line es)
    lines-along [] sub = tt
    lines-along (e ∷ es) sub =
        let r = edge-ends e (sub e (in_head e es)) in (
          record {
            first_in_range = r.0;
            second_in_range = r.1;
            different = r.2;
            first_scaled = h.scaled e.from r.0;
            second_scaled = h.scaled e.to r.1;
            from_on = on_from K (position e.from) (position e.to);
            to_on = on_to K (position e.from) (position e.to);
          },
          lines-along es (λ f i. sub f (in_tail e es f i)),
        )

    pub set-well_set : IsWellSet numbers (drawing_of vertices edges)
    set-well_set = record {
      few = h.few;
      points = of_vertices (λ p. IsPoint K p × IsDrawn numbers p) (λ v l. (set-point v l, inl (h.scaled v l)));
      different = vertices-differ;
      ends = edge-ends;
      plane = edges-apart;
      used = vertex-used;
      lines = lines-along edges (λ e i. i);
    }

-- the points to which coordinates are scaled are scaled points
pub scaled-points : {N : Type 0} (parts : N → Parts) {W : Type 0} {k : ℕ} {surd : W → Surd ℤ} (numbers : SurdNumbers k surd) (coords : List (Pair N)) (s : Scaled W)
    → IsScaledOf parts numbers coords s → (v : ℕ) → v < length s.points → IsScaledPoint numbers (point_at numbers.ring s.points v)
scaled-points parts numbers coords s h v l =
    let at = zipped_right (IsScaledWith parts numbers (pos h.m)) coords s.points v (origin numbers.ring.ops) h.points l in
    record { whole = at.1.w; x_within = at.1.x_within; y_within = at.1.y_within }

module _ {N : Type 0} {parts : N → Parts} {W : Type 0} {k : ℕ} {surd : W → Surd ℤ} {numbers : SurdNumbers k surd} (ends : Ends N) (faces : List Face)
    (h : FormSheet parts numbers ends faces) where
  abbrev vertices_of : List (Point W)
  vertices_of = h.scaled.points

  pub vertex-scaled : (v : ℕ) → v < length vertices_of → IsScaledPoint numbers (point_at numbers.ring vertices_of v)
  vertex-scaled v l = scaled-points parts numbers ends.coords h.scaled h.is_scaled v l

  pub sheet-set : IsPlaneSet numbers vertices_of ends.edges
  sheet-set = record {
    few = let few = h.few_edges in omega (arith, few);
    scaled = vertex-scaled;
    in_range = λ e i. let many = long ends faces h in let from = (h.in_range e i).0 in let to = (h.in_range e i).1 in (omega (arith, from, many), omega (arith, to, many));
    different = λ low high f. h.sheet (SameVertex low high) f;
    used = λ v f. h.sheet (Loose v) f;
    plane = λ low high f. h.sheet (NotPlane low high) f;
  }

  pub vertex-point : (v : ℕ) → v < length vertices_of → IsPoint numbers.ring (point_at numbers.ring vertices_of v)
  vertex-point v l = ap numbers.ring.sign (vertex-scaled v l).whole ∙ numbers.ring.sign_int (pos 1)

  -- different vertices lie at different places
  pub vertices-apart : (u v : ℕ) → u < length vertices_of → v < length vertices_of → ¬ (u ≡ v)
      → ¬ IsSamePoint numbers.ring (point_at numbers.ring vertices_of u) (point_at numbers.ring vertices_of v)
  vertices-apart u v in_u in_v other s = elim (cases_lt u v) [
    | inl less ↦ h.sheet (SameVertex u v) (less, in_v, s)
    | inr more ↦ h.sheet (SameVertex v u) (omega (arith, more, other), in_u, record { same_x = sym s.same_x; same_y = sym s.same_y })
  ]

  pub sheet-plane : IsPlane numbers.ring vertices_of ends.edges
  sheet-plane = set-plane numbers vertices_of ends.edges sheet-set

  pub sheet-connected : IsConnected numbers.ring vertices_of ends.edges
  sheet-connected v l = elim (joined-or_not ends.edges 0 v) [ inl j ↦ j | inr n ↦ absurd (h.sheet (Parted v) (l, n)) ]

  pub sheet-well_set : IsWellSet numbers (drawing_of vertices_of ends.edges)
  sheet-well_set = set-well_set numbers vertices_of ends.edges sheet-set
