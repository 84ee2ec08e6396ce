-- A half-edge put at its place into a ring.
use Rattle.std.proofs.Common.{◌≡◌, ◌⊎◌, inl, inr, ℕ, ◌+◌, ◌-◌, ◌<◌, ◌≤◌, List, [], length, sym, ap, subst, ◌∙◌, arith}
use Rattle.std.specs.Prelude.{slice_set}
use Rattle.std.specs.List.{insert}
use Rattle.std.proofs.lemmas.List.{get_or-set_same, get_or-set_other, length-set}
use Rattle.std.proofs.lemmas.List.Edits.{length-insert, get_or-insert_below, get_or-insert_at, get_or-insert_above}
use Rattle.algebra.specs.OrderedRing.{OrderedRing}
use Rattle.plane.specs.Directions.{Differ}
use Rattle.plane.proofs.Around.{clockwise_either}
use Rattle.plane.proofs.Turning.{clockwise_chain}
use Rattle.half_edges.specs.declared.arena.HalfId.{HalfId}
use Rattle.half_edges.specs.Halves.{Halves}
use Rattle.face_walks.specs.declared.headings.Heading.{Heading}
use Rattle.face_walks.specs.Headings.{lead}
use Rattle.face_walks.specs.Linked.{piece_at}
use Rattle.face_walks.specs.Rings.{AreApart, AreRings, HasHalf, IsPlaceFor, IsRing, Turns, half_at, ring_at}

pub same_or_not : (m n : ℕ) → (m ≡ n) ⊎ (¬ (m ≡ n))
same_or_not m n = grind arith

module _ (ring : List HalfId) (h : HalfId) (place : ℕ) (in_ring : place ≤ length ring) where
  abbrev grown : List HalfId
  grown = insert ring place h

  -- where what stands in the new ring at a place stood: before the new half-edge, as it, or behind it
  abbrev Was : ℕ → ℕ → Type 0
  Was k g = ((k < place) × (g ≡ half_at ring k)) ⊎ (((k ≡ place) × (g ≡ h.0)) ⊎ ((place < k) × (g ≡ half_at ring (k - 1))))

  where_is : (k : ℕ) → (k < place) ⊎ ((k ≡ place) ⊎ (place < k))
  where_is k = grind arith

  was : (k : ℕ) → Was k (half_at grown k)
  was k = elim (where_is k) [
    | inl l ↦ inl (l, ap (λ (x : HalfId). x.0) (get_or-insert_below ring place h (record { 0 = 0 }) k l in_ring))
    | inr (inl e) ↦ inr (inl (e, ap (λ (i : ℕ). half_at grown i) e ∙ ap (λ (x : HalfId). x.0) (get_or-insert_at ring place h (record { 0 = 0 }) in_ring)))
    | inr (inr l) ↦
        let back : k ≡ (k - 1) + 1 = omega arith in
        inr (inr (
          l,
          ap (λ (i : ℕ). half_at grown i) back
              ∙ ap (λ (x : HalfId). x.0) (get_or-insert_above ring place h (record { 0 = 0 }) (k - 1) (omega arith) in_ring),
        ))
  ]

  longer : length grown ≡ length ring + 1
  longer = length-insert ring place h in_ring

  has_new : HasHalf grown h.0
  has_new = (place, omega (arith, longer), ap (λ (x : HalfId). x.0) (get_or-insert_at ring place h (record { 0 = 0 }) in_ring))

  keeps : (g : ℕ) → HasHalf ring g → HasHalf grown g
  keeps g has = elim (le_or (has.0)) [
    | inl l ↦ (has.0, omega (arith, longer, has.1), ap (λ (x : HalfId). x.0) (get_or-insert_below ring place h (record { 0 = 0 }) has.0 l in_ring) ∙ has.2)
    | inr m ↦ (has.0 + 1, omega (arith, longer, has.1), ap (λ (x : HalfId). x.0) (get_or-insert_above ring place h (record { 0 = 0 }) has.0 m in_ring) ∙ has.2)
  ]
    where
      le_or : (k : ℕ) → (k < place) ⊎ (place ≤ k)
      le_or k = grind arith

  -- each half-edge of the new ring is of the old one or the new one
  all_of : (P : ℕ → Type 0) → ((k : ℕ) → k < length ring → P (half_at ring k)) → P h.0 → (k : ℕ) → k < length grown → P (half_at grown k)
  all_of P old new k l = elim (was k) [
    | inl w ↦ subst (λ (g : ℕ). P g) (sym w.1) (old k (omega (arith, w.0, in_ring)))
    | inr (inl w) ↦ subst (λ (g : ℕ). P g) (sym w.1) new
    | inr (inr w) ↦ subst (λ (g : ℕ). P g) (sym w.1) (old (k - 1) (omega (arith, w.0, l, longer)))
  ]

  module _ {A : Type 0} (K : OrderedRing A) (headings : List (Heading A)) (r : IsRing K headings ring) (new : (k : ℕ) → k < length ring → ¬ (half_at ring k ≡ h.0))
      (p : IsPlaceFor K headings ring h.0 place) where
    once_by : (i j g f : ℕ) → i < j → j < length ring + 1 → Was i g → Was j f → ¬ (g ≡ f)
    once_by i j g f l m (inl w) (inl v) e = r.once i j l (omega (arith, v.0, in_ring)) (sym w.1 ∙ e ∙ v.1)
    once_by i j g f l m (inl w) (inr (inl v)) e = new i (omega (arith, w.0, in_ring)) (sym w.1 ∙ e ∙ v.1)
    once_by i j g f l m (inl w) (inr (inr v)) e = r.once i (j - 1) (omega (arith, w.0, v.0)) (omega (arith, m, v.0)) (sym w.1 ∙ e ∙ v.1)
    once_by i j g f l m (inr (inl w)) (inl v) e = absurd (omega (arith, l, w.0, v.0))
    once_by i j g f l m (inr (inl w)) (inr (inl v)) e = absurd (omega (arith, l, w.0, v.0))
    once_by i j g f l m (inr (inl w)) (inr (inr v)) e = new (j - 1) (omega (arith, m, v.0)) (sym v.1 ∙ sym e ∙ w.1)
    once_by i j g f l m (inr (inr w)) (inl v) e = absurd (omega (arith, l, w.0, v.0))
    once_by i j g f l m (inr (inr w)) (inr (inl v)) e = absurd (omega (arith, l, w.0, v.0))
    once_by i j g f l m (inr (inr w)) (inr (inr v)) e = r.once (i - 1) (j - 1) (omega (arith, l, w.0, v.0)) (omega (arith, m, v.0)) (sym w.1 ∙ e ∙ v.1)

    abbrev T : ℕ → ℕ → Type 0
    T g f = Turns K headings (half_at ring 0) g f

    at : (g f g' f' : ℕ) → g ≡ g' → f ≡ f' → T g' f' → T g f
    at g f g' f' e e' t = subst (λ (x : ℕ). T x f) (sym e) (subst (λ (x : ℕ). T g' x) (sym e') t)

    turns_by : (j k g f : ℕ) → 0 < j → j < k → k < length ring + 1 → Was j g → Was k f → T g f
    turns_by j k g f z l m (inl w) (inl v) = at g f (half_at ring j) (half_at ring k) w.1 v.1 (r.clockwise j k z l (omega (arith, v.0, in_ring)))
    turns_by j k g f z l m (inl w) (inr (inl v)) = at g f (half_at ring j) h.0 w.1 v.1 (p.before j z w.0)
    turns_by j k g f z l m (inl w) (inr (inr v)) =
        at g f (half_at ring j) (half_at ring (k - 1)) w.1 v.1 (r.clockwise j (k - 1) z (omega (arith, w.0, v.0)) (omega (arith, m, v.0)))
    turns_by j k g f z l m (inr (inl w)) (inl v) = absurd (omega (arith, l, w.0, v.0))
    turns_by j k g f z l m (inr (inl w)) (inr (inl v)) = absurd (omega (arith, l, w.0, v.0))
    turns_by j k g f z l m (inr (inl w)) (inr (inr v)) =
        at g f h.0 (half_at ring (k - 1)) w.1 v.1 (p.behind (k - 1) (omega (arith, v.0)) (omega (arith, m, v.0)))
    turns_by j k g f z l m (inr (inr w)) (inl v) = absurd (omega (arith, l, w.0, v.0))
    turns_by j k g f z l m (inr (inr w)) (inr (inl v)) = absurd (omega (arith, l, w.0, v.0))
    turns_by j k g f z l m (inr (inr w)) (inr (inr v)) =
        let some : 0 < place = p.not_first (omega (arith, w.0, l, m)) in
        at g f (half_at ring (j - 1)) (half_at ring (k - 1)) w.1 v.1
        (r.clockwise (j - 1) (k - 1) (omega (arith, some, w.0)) (omega (arith, l, w.0)) (omega (arith, m, v.0)))

    first_stays : 0 < length ring → half_at grown 0 ≡ half_at ring 0
    first_stays l = ap (λ (x : HalfId). x.0) (get_or-insert_below ring place h (record { 0 = 0 }) 0 (p.not_first l) in_ring)

    pub ring_grown : IsRing K headings grown
    ring_grown = record {
      once = λ i j l m. once_by i j (half_at grown i) (half_at grown j) l (omega (arith, m, longer)) (was i) (was j);
      clockwise = λ j k z l m.
          let some : 0 < length ring = omega (arith, z, l, m, longer) in
          subst (λ (x : ℕ). Turns K headings x (half_at grown j) (half_at grown k)) (sym (first_stays some))
          (turns_by j k (half_at grown j) (half_at grown k) z l (omega (arith, m, longer)) (was j) (was k));
    }

-- ---- where it is put

module _ {A : Type 0} (K : OrderedRing A) (headings : List (Heading A)) (ring : List HalfId) (h : ℕ) where
  abbrev First : ℕ → ℕ → Type 0
  First g f = Turns K headings (half_at ring 0) g f

  -- the half-edges before a place come before h, those from another place on behind it
  pub record AreParted (low high : ℕ) : Type 0 where
    pub some : 0 < low
    pub in_order : low ≤ high
    pub in_ring : high ≤ length ring
    pub before : (k : ℕ) → 0 < k → k < low → First (half_at ring k) h
    pub behind : (k : ℕ) → high ≤ k → k < length ring → First h (half_at ring k)

  pub parted_first : 0 < length ring → AreParted 1 (length ring)
  parted_first l = record {
    some = omega arith;
    in_order = omega arith;
    in_ring = omega arith;
    before = λ k z m. absurd (omega (arith, z, m));
    behind = λ k m n. absurd (omega (arith, m, n));
  }

  pub parted_there : (low high : ℕ) → AreParted low high → high ≤ low → IsPlaceFor K headings ring h low
  parted_there low high p l = record {
    in_ring = omega (arith, p.in_order, p.in_ring);
    not_first = λ z. p.some;
    before = p.before;
    behind = λ k a b. p.behind k (omega (arith, a, l)) b;
  }

  pub parted_none : length ring ≡ 0 → IsPlaceFor K headings ring h 0
  parted_none e = record {
    in_ring = omega arith;
    not_first = λ z. absurd (omega (arith, e, z));
    before = λ k z m. absurd (omega (arith, z, m));
    behind = λ k a b. absurd (omega (arith, e, b));
  }

  module _ (r : IsRing K headings ring) (apart : AreApart K headings ring h) where
    pub parted_above : (low high middle : ℕ) → AreParted low high → low ≤ middle → middle < high → First (half_at ring middle) h → AreParted (middle + 1) high
    parted_above low high middle p l m t = record {
      some = omega arith;
      in_order = omega arith;
      in_ring = p.in_ring;
      before = λ k z n. elim (below k n) [
        | inl e ↦ subst (λ (i : ℕ). First (half_at ring i) h) (sym e) t
        | inr b ↦
            clockwise_chain K (lead K headings (half_at ring 0)) (lead K headings (half_at ring k)) (lead K headings (half_at ring middle)) (lead K headings h)
            (r.clockwise k middle z b (omega (arith, m, p.in_ring))) t
      ];
      behind = p.behind;
    }
      where
        below : (k : ℕ) → k < middle + 1 → (k ≡ middle) ⊎ (k < middle)
        below k n = grind arith

    pub parted_below : (low high middle : ℕ) → AreParted low high → low ≤ middle → middle < high → ¬ First (half_at ring middle) h → AreParted low middle
    parted_below low high middle p l m n = record {
      some = p.some;
      in_order = l;
      in_ring = omega (arith, m, p.in_ring);
      before = p.before;
      behind = λ k a b. elim (above k a) [
        | inl e ↦ subst (λ (i : ℕ). First h (half_at ring i)) (sym e) here
        | inr c ↦
            clockwise_chain K (lead K headings (half_at ring 0)) (lead K headings h) (lead K headings (half_at ring middle)) (lead K headings (half_at ring k))
            here (r.clockwise middle k (omega (arith, p.some, l)) c b)
      ];
    }
      where
        above : (k : ℕ) → middle ≤ k → (k ≡ middle) ⊎ (middle < k)
        above k a = grind arith

        here : First h (half_at ring middle)
        here =
            let inside : middle < length ring = omega (arith, m, p.in_ring) in
            let z : 0 < middle = omega (arith, p.some, l) in
            elim (clockwise_either K (lead K headings (half_at ring 0)) (lead K headings h) (lead K headings (half_at ring middle))
            (apart.to_new 0 (omega (arith, inside))) (apart.from_new middle inside) (apart.within middle 0 inside (omega (arith, inside)) (omega (arith, z)))) [
              | inl t ↦ t
              | inr t ↦ absurd (n t)
            ]

-- ---- the rings of all vertices

module _ {A : Type 0} (K : OrderedRing A) (headings : List (Heading A)) (arena : Halves (ℕ × ℕ)) (n : ℕ) (rings : List (List HalfId)) (r : AreRings K headings arena n rings) where
  tail : ℕ → ℕ
  tail h = (piece_at arena h).0

  module _ (total : ℕ) (below : n < total) (v : ℕ) (from : (piece_at arena n).0 ≡ v) (in_range : v < length rings)
      (differ : (g h : ℕ) → g < total → h < total → ¬ (g ≡ h) → (piece_at arena g).0 ≡ (piece_at arena h).0 → Differ K (lead K headings g) (lead K headings h)) where
    abbrev ring : List HalfId
    ring = ring_at rings v

    earlier : (k : ℕ) → k < length ring → half_at ring k < n
    earlier k l = (r.only v k in_range l).0

    same_tail : (k : ℕ) → k < length ring → (piece_at arena (half_at ring k)).0 ≡ v
    same_tail k l = (r.only v k in_range l).1

    two_differ : (i j : ℕ) → i < length ring → j < length ring → (i ≡ j) ⊎ ¬ (i ≡ j) → ¬ (i ≡ j) → ¬ (half_at ring i ≡ half_at ring j)
    two_differ i j li lj c n' = elim (lt_or i j) [
      | inl l ↦ (r.ring v in_range).once i j l lj
      | inr (inl l) ↦ λ e. (r.ring v in_range).once j i l li (sym e)
      | inr (inr e) ↦ absurd (n' e)
    ]
      where
        lt_or : (i j : ℕ) → (i < j) ⊎ ((j < i) ⊎ (i ≡ j))
        lt_or i j = grind arith

    pub apart : AreApart K headings ring n
    apart = record {
      new = λ k l e. let m = earlier k l in omega (arith, m, e);
      to_new = λ k l. let m = earlier k l in differ (half_at ring k) n (omega (arith, m, below)) below (λ e. omega (arith, m, e)) (same_tail k l ∙ sym from);
      from_new = λ k l. let m = earlier k l in differ n (half_at ring k) below (omega (arith, m, below)) (λ e. omega (arith, m, e)) (from ∙ sym (same_tail k l));
      within = λ i j li lj other.
          let mi = earlier i li in
          let mj = earlier j lj in
          differ (half_at ring i) (half_at ring j) (omega (arith, mi, below)) (omega (arith, mj, below)) (two_differ i j li lj (same_or_not i j) other)
          (same_tail i li ∙ sym (same_tail j lj));
    }

    module _ (place : ℕ) (p : IsPlaceFor K headings ring n place) where
      abbrev longer_ring : List HalfId
      longer_ring = insert ring place (record { 0 = n })

      abbrev grown_rings : List (List HalfId)
      grown_rings = slice_set rings v longer_ring

      at_v : ring_at grown_rings v ≡ longer_ring
      at_v = get_or-set_same rings v longer_ring [] in_range

      at_other : (u : ℕ) → ¬ (u ≡ v) → ring_at grown_rings u ≡ ring_at rings u
      at_other u n' = get_or-set_other rings v u longer_ring [] n'

      pub as_many : length grown_rings ≡ length rings
      as_many = length-set rings v longer_ring

      abbrev Only : ℕ → ℕ → Type 0
      Only u g = (g < n + 1) × ((piece_at arena g).0 ≡ u)

      only_v : (k : ℕ) → k < length longer_ring → Only v (half_at longer_ring k)
      only_v = all_of ring (record { 0 = n }) place p.in_ring (Only v)
          (λ k l. let m = earlier k l in (omega (arith, m), same_tail k l)) (omega arith, from)

      pub rings_grown : AreRings K headings arena (n + 1) grown_rings
      rings_grown = record {
        ring = λ u l. elim (same_or_not u v) [
          | inl e ↦ subst (λ (w : ℕ). IsRing K headings (ring_at grown_rings w)) (sym e)
              (subst (λ (x : List HalfId). IsRing K headings x) (sym at_v)
              (ring_grown ring (record { 0 = n }) place p.in_ring K headings (r.ring v in_range) apart.new p))
          | inr m ↦ subst (λ (x : List HalfId). IsRing K headings x) (sym (at_other u m)) (r.ring u (omega (arith, l, as_many)))
        ];
        only = λ u k l m. elim (same_or_not u v) [
          | inl e ↦ subst (λ (w : ℕ). Only w (half_at (ring_at grown_rings w) k)) (sym e)
              (subst (λ (x : List HalfId). Only v (half_at x k)) (sym at_v)
              (only_v k (subst (λ (x : List HalfId). k < length x) at_v (subst (λ (w : ℕ). k < length (ring_at grown_rings w)) e m))))
          | inr o ↦ subst (λ (x : List HalfId). Only u (half_at x k)) (sym (at_other u o))
              (let old = r.only u k (omega (arith, l, as_many)) (subst (λ (x : List HalfId). k < length x) (at_other u o) m) in
              let wider : half_at (ring_at rings u) k < n + 1 = omega (arith, old.0) in
              (wider, old.1))
        ];
        every = λ h l. elim (below_or h l) [
          | inr e ↦ subst (λ (g : ℕ). HasHalf (ring_at grown_rings (piece_at arena g).0) g) (sym e)
              (subst (λ (w : ℕ). HasHalf (ring_at grown_rings w) n) (sym from)
              (subst (λ (x : List HalfId). HasHalf x n) (sym at_v) (has_new ring (record { 0 = n }) place p.in_ring)))
          | inl m ↦ elim (same_or_not (piece_at arena h).0 v) [
            | inl e ↦ subst (λ (w : ℕ). HasHalf (ring_at grown_rings w) h) (sym e)
                (subst (λ (x : List HalfId). HasHalf x h) (sym at_v)
                (keeps ring (record { 0 = n }) place p.in_ring h (subst (λ (w : ℕ). HasHalf (ring_at rings w) h) e (r.every h m))))
            | inr o ↦ subst (λ (x : List HalfId). HasHalf x h) (sym (at_other (piece_at arena h).0 o)) (r.every h m)
          ]
        ];
      }
        where
          below_or : (h : ℕ) → h < n + 1 → (h < n) ⊎ (h ≡ n)
          below_or h l = grind arith
