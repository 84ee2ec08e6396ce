-- Half-edges that are led on round the rings of vertices follow each other as directed pieces do.
use Rattle.std.proofs.Common.{◌≡◌, ◌⊎◌, inl, inr, ℕ, ◌+◌, ◌-◌, ◌*◌, ◌<◌, List, length, get_or, refl, sym, ap, subst, ◌∙◌, arith}
use Rattle.std.specs.Prelude.{ℤ}
use Rattle.algebra.specs.OrderedRing.{OrderedRing}
use Rattle.algebra.specs.Surd.{Surd}
use Rattle.algebra.specs.WholeSurds.{SurdNumbers}
use Rattle.plane.specs.Directions.{Differ, Direction, IsClockwise, IsSameWay}
use Rattle.plane.proofs.Turning.{clockwise_chain, clockwise_turned}
use Rattle.scaled_plane.specs.declared.drawing.Drawing.{Drawing}
use Rattle.scaled_plane.specs.declared.drawing.Edge.{Edge}
use Rattle.scaled_plane.specs.WellSet.{IsWellSet}
use Rattle.scaled_plane.specs.Walks.{ComesAfter, Follows, IsDirectedPiece, way}
use Rattle.regions.proofs.Leftmost.{neighbours_differ}
use Rattle.regions.proofs.Outer.{in_range}
use Rattle.half_edges.specs.declared.arena.HalfId.{HalfId}
use Rattle.half_edges.specs.Halves.{Halves, IsArena, count, next_of, twin_of}
use Rattle.face_walks.specs.declared.headings.Heading.{Heading}
use Rattle.face_walks.specs.Headings.{AreHeadings, lead}
use Rattle.face_walks.specs.Linked.{HoldsPieces, IsLinked, piece_at, reverse_of}
use Rattle.face_walks.specs.Links.{LeadRound}
use Rattle.face_walks.specs.Pairs.{ArePairs}
use Rattle.face_walks.specs.Rings.{AreOutgoing, AreRings, HasHalf, IsRing, Turns, half_at, ring_at}
use Rattle.face_walks.proofs.Bearings.{clockwise_ways, differ_same}
use Rattle.face_walks.proofs.Holding.{half_cases}
use Rattle.face_walks.proofs.LinkLists.{twin_twin, twin_within}
use Rattle.face_walks.proofs.Settled.{plane}

abbrev Piece : Type 0
Piece = ℕ × ℕ

-- ---- headings of half-edges

module _ {A : Type 0} {k : ℕ} {surd : A → Surd ℤ} (numbers : SurdNumbers k surd) (drawing : Drawing A) where
  abbrev way_of : Halves Piece → ℕ → Direction A
  way_of arena h = way numbers.ring drawing.vertices drawing.edges (piece_at arena h).0 (piece_at arena h).1

  -- each half-edge's heading leads the way of its directed piece
  abbrev pub AreLed : Halves Piece → List (Heading A) → Type 0
  AreLed arena headings = (h : ℕ) → h < count arena → IsSameWay numbers.ring (lead numbers.ring headings h) (way_of arena h)

  pub led_ways : (arena : Halves Piece) (headings : List (Heading A)) → ArePairs drawing.edges (length drawing.edges) arena
      → AreHeadings numbers drawing (length drawing.edges) headings → AreLed arena headings
  led_ways arena headings p a h l =
      let c = half_cases h (length drawing.edges) (subst (λ (n : ℕ). h < n) p.two_each l) in
      elim c.2 [
        | inl e ↦ subst (λ (g : ℕ). IsSameWay numbers.ring (lead numbers.ring headings g) (way_of arena g)) (sym e)
            (subst (λ (q : Piece). IsSameWay numbers.ring (lead numbers.ring headings (2 * c.0)) (way numbers.ring drawing.vertices drawing.edges q.0 q.1)) (sym (p.there c.0 c.1)) (a.there c.0 c.1))
        | inr e ↦ subst (λ (g : ℕ). IsSameWay numbers.ring (lead numbers.ring headings g) (way_of arena g)) (sym e)
            (subst (λ (q : Piece). IsSameWay numbers.ring (lead numbers.ring headings (2 * c.0 + 1)) (way numbers.ring drawing.vertices drawing.edges q.0 q.1)) (sym (p.back c.0 c.1)) (a.back c.0 c.1))
      ]

  module _ (h : IsWellSet numbers drawing) (arena : Halves Piece) (holds : HoldsPieces drawing.edges arena) (headings : List (Heading A)) (led : AreLed arena headings) where
    -- half-edges of one vertex lead different ways
    pub halves_differ : (g f : ℕ) → g < count arena → f < count arena → ¬ (g ≡ f) → (piece_at arena g).0 ≡ (piece_at arena f).0
        → Differ numbers.ring (lead numbers.ring headings g) (lead numbers.ring headings f)
    halves_differ g f lg lf other same =
        differ_same numbers.ring (lead numbers.ring headings g) (way_of arena g) (lead numbers.ring headings f) (way_of arena f) (led g lg) (led f lf)
        (subst (λ (v : ℕ). Differ numbers.ring (way_of arena g) (way numbers.ring drawing.vertices drawing.edges v (piece_at arena f).1)) same
        (neighbours_differ numbers.ring drawing.vertices drawing.edges (plane numbers drawing h) (piece_at arena g).0 (piece_at arena g).1 (piece_at arena f).1
        (holds.only g lg) (subst (λ (v : ℕ). IsDirectedPiece drawing.edges v (piece_at arena f).1) (sym same) (holds.only f lf))
        (λ e. other (holds.once g f lg lf (λ i. (same i, e i))))))

pub outgoing : {A : Type 0} (K : OrderedRing A) (headings : List (Heading A)) (arena : Halves Piece) (rings : List (List HalfId))
    → AreRings K headings arena (count arena) rings → AreOutgoing arena rings
outgoing K headings arena rings r = record {
  in_range = λ v k l m. (r.only v k l m).0;
  tails = λ v k l m. (r.only v k l m).1;
  once = λ v i j l. (r.ring v l).once i j;
  every = r.every;
}

-- ---- the next of a ring is the first clockwise

module _ {A : Type 0} (K : OrderedRing A) (headings : List (Heading A)) (ring : List HalfId) (r : IsRing K headings ring) where
  abbrev T : ℕ → ℕ → ℕ → Type 0
  T i j k = Turns K headings (half_at ring i) (half_at ring j) (half_at ring k)

  round : (i j k : ℕ) → T i j k → T j k i
  round i j k t = clockwise_turned K (lead K headings (half_at ring i)) (lead K headings (half_at ring j)) (lead K headings (half_at ring k)) t

  -- three in the order of the ring
  in_order : (i j k : ℕ) → i < j → j < k → k < length ring → (i ≡ 0) ⊎ (0 < i) → T i j k
  in_order i j k a b c (inl e) = subst (λ (m : ℕ). T m j k) (sym e) (r.clockwise j k (omega (arith, a)) b c)
  in_order i j k a b c (inr z) =
      let first : T 0 i j = r.clockwise i j z a (omega arith) in
      let second : T 0 j k = r.clockwise j k (omega arith) b c in
      -- from j on k comes before 0, and 0 before i
      round k i j (round j k i (chain (round 0 j k second) (round i j 0 (round 0 i j first))))
    where
      chain : T j k 0 → T j 0 i → T j k i
      chain s t = clockwise_chain K (lead K headings (half_at ring j)) (lead K headings (half_at ring k)) (lead K headings (half_at ring 0)) (lead K headings (half_at ring i)) s t

  ordered : (i j k : ℕ) → i < j → j < k → k < length ring → T i j k
  ordered i j k a b c = in_order i j k a b c (zero_or i)
    where
      zero_or : (m : ℕ) → (m ≡ 0) ⊎ (0 < m)
      zero_or m = grind arith

  -- from one in the ring, the next comes before each other
  pub next_first : (i m : ℕ) → i + 1 < length ring → m < length ring → ¬ (m ≡ i) → ¬ (m ≡ i + 1) → T i (i + 1) m
  next_first i m l lm n n' = elim (lt_or m i) [
    | inl b ↦ round m i (i + 1) (ordered m i (i + 1) b (omega arith) l)
    | inr (inl b) ↦ ordered i (i + 1) m (omega arith) (omega (arith, b, n')) lm
    | inr (inr e) ↦ absurd (n e)
  ]
    where
      lt_or : (a b : ℕ) → (a < b) ⊎ ((b < a) ⊎ (a ≡ b))
      lt_or a b = grind arith

  -- and from the last the first
  pub round_first : (m : ℕ) → m < length ring → ¬ (m ≡ 0) → ¬ (m ≡ length ring - 1) → T (length ring - 1) 0 m
  round_first m l n n' =
      round m (length ring - 1) 0 (round 0 m (length ring - 1) (ordered 0 m (length ring - 1) (omega (arith, n)) (omega (arith, n')) (omega (arith, l))))

-- ---- what holds of half-edges by their pieces alone

pub holds_same : (edges : List Edge) (first arena : Halves Piece) → IsArena arena → arena.payloads ≡ first.payloads → count arena ≡ count first
    → HoldsPieces edges first → HoldsPieces edges arena
holds_same edges first arena is payloads as_many h =
    let same : (g : ℕ) → piece_at first g ≡ piece_at arena g = λ g. ap (λ (ps : List Piece). get_or ps g (0, 0)) (sym payloads) in
    let below : (g : ℕ) → g < count arena → g < count first = λ g l. subst (λ (n : ℕ). g < n) as_many l in
    record {
      is_arena = is;
      only = λ g l. subst (λ (q : Piece). IsDirectedPiece edges q.0 q.1) (same g) (h.only g (below g l));
      every = λ u v d. let e = h.every u v d in (e.0, subst (λ (n : ℕ). e.0 < n) (sym as_many) e.1, sym (same e.0) ∙ e.2);
      once = λ g f lg lf e. h.once g f (below g lg) (below f lf) (same g ∙ e ∙ sym (same f));
      reversed = λ g l. sym (same (twin_of g)) ∙ h.reversed g (below g l) ∙ ap reverse_of (same g);
    }

module _ {A : Type 0} {k : ℕ} {surd : A → Surd ℤ} (numbers : SurdNumbers k surd) (drawing : Drawing A) (set : IsWellSet numbers drawing)
    (first : Halves Piece) (holds : HoldsPieces drawing.edges first) (headings : List (Heading A)) (led : AreLed numbers drawing first headings)
    (rings : List (List HalfId)) (as_many : length rings ≡ length drawing.vertices) (r : AreRings numbers.ring headings first (count first) rings) where
  abbrev K : OrderedRing A
  K = numbers.ring

  abbrev to : ℕ → ℕ → Direction A
  to v u = way numbers.ring drawing.vertices drawing.edges v u

  abbrev After : ℕ → ℕ → ℕ → Type 0
  After u v w = ComesAfter numbers.ring drawing.vertices drawing.edges u v w

  abbrev FollowsOn : Piece → Piece → Type 0
  FollowsOn p q = Follows numbers.ring drawing.vertices drawing.edges p q

  tail_in : (h : ℕ) → h < count first → (piece_at first h).0 < length rings
  tail_in h l = subst (λ (n : ℕ). (piece_at first h).0 < n) (sym as_many)
      (in_range numbers.ring drawing.vertices drawing.edges (plane numbers drawing set) (piece_at first h).0 (piece_at first h).1 (holds.only h l))

  module _ (v : ℕ) (lv : v < length rings) where
    abbrev ring : List HalfId
    ring = ring_at rings v

    below : (m : ℕ) → m < length ring → half_at ring m < count first
    below m l = (r.only v m lv l).0

    -- the directed piece goes out of v
    goes_out : (m : ℕ) → m < length ring → piece_at first (half_at ring m) ≡ (v, (piece_at first (half_at ring m)).1)
    goes_out m l = ap (λ (t : ℕ). (t, (piece_at first (half_at ring m)).1)) (r.only v m lv l).1

    leads : (m : ℕ) → m < length ring → IsSameWay numbers.ring (lead numbers.ring headings (half_at ring m)) (to v (piece_at first (half_at ring m)).1)
    leads m l = subst (λ (q : Piece). IsSameWay numbers.ring (lead numbers.ring headings (half_at ring m)) (to q.0 q.1)) (goes_out m l) (led (half_at ring m) (below m l))

    module _ (m j : ℕ) (lm : m < length ring) (lj : j < length ring)
        (turns : (n : ℕ) → n < length ring → ¬ (n ≡ m) → ¬ (n ≡ j) → Turns numbers.ring headings (half_at ring m) (half_at ring j) (half_at ring n)) where
      u : ℕ
      u = (piece_at first (half_at ring m)).1

      w : ℕ
      w = (piece_at first (half_at ring j)).1

      -- it comes in by the twin
      comes_in : piece_at first (twin_of (half_at ring m)) ≡ ((piece_at first (half_at ring m)).1, v)
      comes_in = holds.reversed (half_at ring m) (below m lm) ∙ ap reverse_of (goes_out m lm)

      first_of : (x : ℕ) → IsDirectedPiece drawing.edges v x → ¬ (x ≡ (piece_at first (half_at ring m)).1) → ¬ (x ≡ (piece_at first (half_at ring j)).1)
          → IsClockwise numbers.ring (to v (piece_at first (half_at ring m)).1) (to v (piece_at first (half_at ring j)).1) (to v x)
      first_of x d nm nj =
          let e = holds.every v x d in
          let at_v : (piece_at first e.0).0 ≡ v = ap (λ (q : Piece). q.0) e.2 in
          let at_x : (piece_at first e.0).1 ≡ x = ap (λ (q : Piece). q.1) e.2 in
          let has : HasHalf ring e.0 = subst (λ (t : ℕ). HasHalf (ring_at rings t) e.0) at_v (r.every e.0 e.1) in
          let other : (i : ℕ) → half_at ring i ≡ half_at ring has.0 → x ≡ (piece_at first (half_at ring i)).1
          = λ i s. sym at_x ∙ ap (λ (g : ℕ). (piece_at first g).1) (sym has.2 ∙ sym s) in
          let t = turns has.0 has.1 (λ i. nm (other m (ap (λ (n : ℕ). half_at ring n) (sym i)))) (λ i. nj (other j (ap (λ (n : ℕ). half_at ring n) (sym i)))) in
          subst (λ (y : ℕ). IsClockwise numbers.ring (to v (piece_at first (half_at ring m)).1) (to v (piece_at first (half_at ring j)).1) (to v y))
          (sym (other has.0 refl))
          (clockwise_ways numbers.ring (lead numbers.ring headings (half_at ring m)) (lead numbers.ring headings (half_at ring j)) (lead numbers.ring headings (half_at ring has.0))
          (to v (piece_at first (half_at ring m)).1) (to v (piece_at first (half_at ring j)).1) (to v (piece_at first (half_at ring has.0)).1)
          (leads m lm) (leads j lj) (leads has.0 has.1) t)

      after : After (piece_at first (half_at ring m)).1 v (piece_at first (half_at ring j)).1
      after = record {
        piece = subst (λ (q : Piece). IsDirectedPiece drawing.edges q.0 q.1) comes_in
            (holds.only (twin_of (half_at ring m)) (twin_within (half_at ring m) (count first) holds.is_arena.in_pairs (below m lm)));
        next = record {
          neighbour = subst (λ (q : Piece). IsDirectedPiece drawing.edges q.0 q.1) (goes_out j lj) (holds.only (half_at ring j) (below j lj));
          first = first_of;
        };
      }

      pub follow_at : FollowsOn (piece_at first (twin_of (half_at ring m))) (piece_at first (half_at ring j))
      follow_at = subst (λ (p : Piece). FollowsOn p (piece_at first (half_at ring j))) (sym comes_in)
          (subst (λ (q : Piece). FollowsOn ((piece_at first (half_at ring m)).1, v) q) (sym (goes_out j lj)) (refl, after))

  module _ (arena : Halves Piece) (is : IsArena arena) (payloads : arena.payloads ≡ first.payloads) (count_is : count arena ≡ count first)
      (led_on : LeadRound arena rings (length rings)) where
    same : (g : ℕ) → piece_at first g ≡ piece_at arena g
    same g = ap (λ (ps : List Piece). get_or ps g (0, 0)) (sym payloads)

    -- what comes in by the twin of a half-edge of a ring
    follows_in : (v m : ℕ) → v < length rings → m < length (ring_at rings v)
        → FollowsOn (piece_at first (twin_of (half_at (ring_at rings v) m))) (piece_at first (next_of arena (twin_of (half_at (ring_at rings v) m))))
    follows_in v m lv lm = elim (last_or m (length (ring_at rings v)) lm) [
      | inl l ↦ subst (λ (f : ℕ). FollowsOn (piece_at first (twin_of (half_at (ring_at rings v) m))) (piece_at first f)) (sym ((led_on.led v lv).on m l))
          (follow_at v lv m (m + 1) lm l (λ n ln a b. next_first numbers.ring headings (ring_at rings v) (r.ring v lv) m n l ln a b))
      | inr e ↦ subst (λ (f : ℕ). FollowsOn (piece_at first (twin_of (half_at (ring_at rings v) m))) (piece_at first f))
          (sym (ap (λ (i : ℕ). next_of arena (twin_of (half_at (ring_at rings v) i))) e ∙ (led_on.led v lv).round (omega (arith, lm))))
          (follow_at v lv m 0 lm (omega (arith, lm)) (λ n ln a b.
          subst (λ (i : ℕ). Turns numbers.ring headings (half_at (ring_at rings v) i) (half_at (ring_at rings v) 0) (half_at (ring_at rings v) n)) (sym e)
          (round_first numbers.ring headings (ring_at rings v) (r.ring v lv) n ln b (λ z. a (z ∙ sym e)))))
    ]
      where
        last_or : (i n : ℕ) → i < n → (i + 1 < n) ⊎ (i ≡ n - 1)
        last_or i n l = grind arith

    pub linked : IsLinked numbers.ring drawing.vertices drawing.edges arena
    linked = record {
      holds = holds_same drawing.edges first arena is payloads count_is holds;
      follow = λ h l.
          let lf : h < count first = subst (λ (n : ℕ). h < n) count_is l in
          let g : ℕ = twin_of h in
          let lg : g < count first = twin_within h (count first) holds.is_arena.in_pairs lf in
          let has = r.every g lg in
          let twin : twin_of (half_at (ring_at rings (piece_at first g).0) has.0) ≡ h = ap twin_of has.2 ∙ twin_twin h in
          let on = follows_in (piece_at first g).0 has.0 (tail_in g lg) has.1 in
          let here : FollowsOn (piece_at first h) (piece_at first (next_of arena h))
          = subst (λ (f : ℕ). FollowsOn (piece_at first f) (piece_at first (next_of arena f))) twin on in
          subst (λ (p : Piece). FollowsOn p (piece_at arena (next_of arena h))) (same h)
          (subst (λ (q : Piece). FollowsOn (piece_at first h) q) (same (next_of arena h)) here);
    }
