-- The cycles of a linked arena are the walks of its drawing.
use Rattle.std.proofs.Common.{◌≡◌, ◌⊎◌, inl, inr, ℕ, suc, ◌+◌, ◌-◌, ◌<◌, List, [], ◌∷◌, ◌++◌, Bool, true, length, get_or, map, refl, sym, ap, subst, ◌∙◌, arith}
use Rattle.std.specs.Prelude.{AllPairs, Contains, slice_index}
use Rattle.std.proofs.lemmas.List.{get_or-map, get_or_default, length-map}
use Rattle.algebra.specs.OrderedRing.{OrderedRing}
use Rattle.plane.specs.declared.point.Point.{Point}
use Rattle.plane.proofs.Members.{in_cons, in_head, in_tail, in_nil}
use Rattle.scaled_plane.specs.declared.drawing.Edge.{Edge}
use Rattle.scaled_plane.specs.Walks.{FollowOn, FollowRound, Follows, IsWalk, pieces_on_to, pieces_round}
use Rattle.half_edges.specs.Cycles.{IsCycle}
use Rattle.half_edges.specs.Halves.{Halves, IsArena, count, next_of}
use Rattle.face_walks.specs.Linked.{IsLinked, piece_at}
use Rattle.face_walks.specs.Searches.{is_seen}

abbrev pub Piece : Type 0
Piece = ℕ × ℕ

module _ (arena : Halves Piece) where
  -- the corners that half-edges go out of
  abbrev pub corners_of : List ℕ → List ℕ
  corners_of cycle = map (λ h. (piece_at arena h).0) cycle

  abbrev pub pieces_of : List ℕ → List Piece
  pieces_of cycle = map (λ h. piece_at arena h) cycle

  -- from g over these, each next after the one before, one comes to h
  abbrev pub Goes : ℕ → List ℕ → ℕ → Type 0
  Goes g [] h = next_of arena g ≡ h
  Goes g (f ∷ rest) h = (next_of arena g ≡ f) × Goes f rest h

  goes_by : (g : ℕ) (rest : List ℕ) (h : ℕ) → ((k : ℕ) → k + 1 < length (g ∷ rest) → slice_index (g ∷ rest) (k + 1) ≡ next_of arena (slice_index (g ∷ rest) k))
      → next_of arena (slice_index (g ∷ rest) (length rest)) ≡ h → Goes g rest h
  goes_by g [] h each back = back
  goes_by g (f ∷ rest) h each back = (
    sym (each 0 (omega arith)),
    goes_by f rest h (λ k l. shifted k (omega (arith, l))) back,
  )
    where
      shifted : (k : ℕ) → suc k + 1 < length (g ∷ f ∷ rest) → slice_index (f ∷ rest) (k + 1) ≡ next_of arena (slice_index (f ∷ rest) k)
      shifted k l = ap (λ (i : ℕ). slice_index (g ∷ f ∷ rest) i) (let e : suc (k + 1) ≡ suc k + 1 = omega arith in e) ∙ each (suc k) l

  pub cycle_goes : (h : ℕ) (cycle : List ℕ) → IsCycle arena h cycle → (rest : List ℕ) × (cycle ≡ h ∷ rest) × Goes h rest h
  cycle_goes h [] c = absurd (let s = c.some in omega arith)
  cycle_goes h (g ∷ rest) c = (
    rest,
    ap (λ (x : ℕ). x ∷ rest) c.first,
    subst (λ (x : ℕ). Goes x rest h) c.first
        (goes_by g rest h c.each (ap (λ (i : ℕ). next_of arena (slice_index (g ∷ rest) i)) (let e : length rest ≡ length (g ∷ rest) - 1 = omega arith in e) ∙ c.back)),
  )

  module _ (is : IsArena arena) where
    all_within : (g : ℕ) (rest : List ℕ) (h : ℕ) → g < count arena → Goes g rest h → (x : ℕ) → Contains (g ∷ rest) x → x < count arena
    all_within g [] h l goes x i = elim (in_cons g [] x i) [
      | inl e ↦ subst (λ (y : ℕ). y < count arena) e l
      | inr j ↦ absurd (in_nil x j)
    ]
    all_within g (f ∷ rest) h l goes x i = elim (in_cons g (f ∷ rest) x i) [
      | inl e ↦ subst (λ (y : ℕ). y < count arena) e l
      | inr j ↦ all_within f rest h (subst (λ (y : ℕ). y < count arena) goes.0 (is.within g l)) goes.1 x j
    ]

    -- ---- marks

    module _ (seen : List Bool) (closed : (h : ℕ) → h < count arena → is_seen seen h ≡ true → is_seen seen (next_of arena h) ≡ true) where
      seen_on : (g : ℕ) (rest : List ℕ) (h : ℕ) → g < count arena → Goes g rest h → is_seen seen g ≡ true → is_seen seen h ≡ true
      seen_on g [] h l goes s = subst (λ (x : ℕ). is_seen seen x ≡ true) goes (closed g l s)
      seen_on g (f ∷ rest) h l goes s =
          seen_on f rest h (subst (λ (y : ℕ). y < count arena) goes.0 (is.within g l)) goes.1 (subst (λ (x : ℕ). is_seen seen x ≡ true) goes.0 (closed g l s))

      -- where h isn't seen, no half-edge is that leads to it
      pub none_seen : (g : ℕ) (rest : List ℕ) (h : ℕ) → g < count arena → Goes g rest h → ¬ (is_seen seen h ≡ true) → (x : ℕ) → Contains (g ∷ rest) x → ¬ (is_seen seen x ≡ true)
      none_seen g [] h l goes n x i s = elim (in_cons g [] x i) [
        | inl e ↦ n (seen_on g [] h l goes (subst (λ (y : ℕ). is_seen seen y ≡ true) (sym e) s))
        | inr j ↦ in_nil x j
      ]
      none_seen g (f ∷ rest) h l goes n x i s = elim (in_cons g (f ∷ rest) x i) [
        | inl e ↦ n (seen_on g (f ∷ rest) h l goes (subst (λ (y : ℕ). is_seen seen y ≡ true) (sym e) s))
        | inr j ↦ none_seen f rest h (subst (λ (y : ℕ). y < count arena) goes.0 (is.within g l)) goes.1 n x j s
      ]

    -- the half-edge after one of a cycle is one of it
    next_in : (g : ℕ) (rest : List ℕ) (h : ℕ) → Goes g rest h → (x : ℕ) → Contains (g ∷ rest) x → (next_of arena x ≡ h) ⊎ Contains rest (next_of arena x)
    next_in g [] h goes x i = elim (in_cons g [] x i) [
      | inl e ↦ inl (subst (λ (y : ℕ). next_of arena y ≡ h) e goes)
      | inr j ↦ absurd (in_nil x j)
    ]
    next_in g (f ∷ rest) h goes x i = elim (in_cons g (f ∷ rest) x i) [
      | inl e ↦ inr (subst (λ (y : ℕ). Contains (f ∷ rest) (next_of arena y)) e (subst (λ (y : ℕ). Contains (f ∷ rest) y) (sym goes.0) (in_head f rest)))
      | inr j ↦ elim (next_in f rest h goes.1 x j) [
        | inl e ↦ inl e
        | inr k ↦ inr (in_tail f rest (next_of arena x) k)
      ]
    ]

    pub cycle_closed : (h : ℕ) (cycle : List ℕ) → IsCycle arena h cycle → (x : ℕ) → Contains cycle x → Contains cycle (next_of arena x)
    cycle_closed h cycle c x i =
        let r = cycle_goes h cycle c in
        let j : Contains (h ∷ r.0) x = subst (λ (xs : List ℕ). Contains xs x) r.1 i in
        subst (λ (xs : List ℕ). Contains xs (next_of arena x)) (sym r.1)
        (elim (next_in h r.0 h r.2 x j) [
          | inl e ↦ subst (λ (y : ℕ). Contains (h ∷ r.0) y) (sym e) (in_head h r.0)
          | inr k ↦ in_tail h r.0 (next_of arena x) k
        ])

    pub cycle_within : (h : ℕ) (cycle : List ℕ) → h < count arena → IsCycle arena h cycle → (x : ℕ) → Contains cycle x → x < count arena
    cycle_within h cycle l c x i =
        let r = cycle_goes h cycle c in
        all_within h r.0 h l r.2 x (subst (λ (xs : List ℕ). Contains xs x) r.1 i)

    pub cycle_unseen : (seen : List Bool) → ((g : ℕ) → g < count arena → is_seen seen g ≡ true → is_seen seen (next_of arena g) ≡ true)
        → (h : ℕ) (cycle : List ℕ) → h < count arena → IsCycle arena h cycle → ¬ (is_seen seen h ≡ true) → (x : ℕ) → Contains cycle x → ¬ (is_seen seen x ≡ true)
    cycle_unseen seen closed h cycle l c n x i =
        let r = cycle_goes h cycle c in
        none_seen seen closed h r.0 h l r.2 n x (subst (λ (xs : List ℕ). Contains xs x) r.1 i)

module _ {A : Type 0} (K : OrderedRing A) (vertices : List (Point A)) (edges : List Edge) (arena : Halves Piece) (linked : IsLinked K vertices edges arena) where
  abbrev After : Piece → Piece → Type 0
  After p q = Follows K vertices edges p q

  is : IsArena arena
  is = linked.holds.is_arena

  pieces_on : (a g : ℕ) (rest : List ℕ) (h : ℕ) → g < count arena → Goes arena g rest h → (piece_at arena h).0 ≡ a
      → pieces_on_to a (corners_of arena (g ∷ rest)) ≡ pieces_of arena (g ∷ rest)
  pieces_on a g [] h l goes e =
      let head : (piece_at arena g).1 ≡ a = (linked.follow g l).0 ∙ ap (λ (x : ℕ). (piece_at arena x).0) goes ∙ e in
      λ i. ((piece_at arena g).0, sym head i) ∷ []
  pieces_on a g (f ∷ rest) h l goes e =
      let head : (piece_at arena g).1 ≡ (piece_at arena f).0 = (linked.follow g l).0 ∙ ap (λ (x : ℕ). (piece_at arena x).0) goes.0 in
      let later : pieces_on_to a (corners_of arena (f ∷ rest)) ≡ pieces_of arena (f ∷ rest)
      = pieces_on a f rest h (subst (λ (y : ℕ). y < count arena) goes.0 (is.within g l)) goes.1 e in
      λ i. ((piece_at arena g).0, sym head i) ∷ later i

  follow_on : (g : ℕ) (rest : List ℕ) (h : ℕ) → g < count arena → Goes arena g rest h → FollowOn K vertices edges (piece_at arena g) (pieces_of arena rest ++ piece_at arena h ∷ [])
  follow_on g [] h l goes = (subst (λ (x : ℕ). After (piece_at arena g) (piece_at arena x)) goes (linked.follow g l), tt)
  follow_on g (f ∷ rest) h l goes = (
    subst (λ (x : ℕ). After (piece_at arena g) (piece_at arena x)) goes.0 (linked.follow g l),
    follow_on f rest h (subst (λ (y : ℕ). y < count arena) goes.0 (is.within g l)) goes.1,
  )

  module _ (h : ℕ) (l : h < count arena) (cycle : List ℕ) (c : IsCycle arena h cycle) where
    pub pieces_are : pieces_round (corners_of arena cycle) ≡ pieces_of arena cycle
    pieces_are =
        let r = cycle_goes arena h cycle c in
        subst (λ (xs : List ℕ). pieces_round (corners_of arena xs) ≡ pieces_of arena xs) (sym r.1) (pieces_on (piece_at arena h).0 h r.0 h l r.2 refl)

    pub follow_round : FollowRound K vertices edges (pieces_round (corners_of arena cycle))
    follow_round =
        let r = cycle_goes arena h cycle c in
        subst (λ (ps : List Piece). FollowRound K vertices edges ps) (sym pieces_are)
        (subst (λ (xs : List ℕ). FollowRound K vertices edges (pieces_of arena xs)) (sym r.1) (follow_on h r.0 h l r.2))

    in_cycle : (k : ℕ) → k < length cycle → Contains cycle (get_or cycle k 0)
    in_cycle k m = (k, m, get_or_default cycle k (get_or cycle k 0) 0 m)

    apart : AllPairs (λ p q. ¬ (p ≡ q)) (pieces_of arena cycle)
    apart i j d a b e =
        let lj : j < length cycle = subst (λ (n : ℕ). j < n) (length-map cycle (λ h. piece_at arena h)) b in
        let li : i < length cycle = omega arith in
        let same : piece_at arena (get_or cycle i 0) ≡ piece_at arena (get_or cycle j 0)
        = sym (get_or-map (λ h. piece_at arena h) cycle i 0 d li) ∙ e ∙ get_or-map (λ h. piece_at arena h) cycle j 0 d lj in
        c.once i j 0 a lj (linked.holds.once (get_or cycle i 0) (get_or cycle j 0) (cycle_within arena is h cycle l c (get_or cycle i 0) (in_cycle i li))
        (cycle_within arena is h cycle l c (get_or cycle j 0) (in_cycle j lj)) same)

    pub cycle_walk : IsWalk K vertices edges (corners_of arena cycle)
    cycle_walk = record {
      follow = follow_round;
      once = subst (λ (ps : List Piece). AllPairs (λ p q. ¬ (p ≡ q)) ps) (sym pieces_are) apart;
    }

    -- the directed pieces of the walk are those of the half-edges
    pub piece_in : (x : ℕ) → Contains cycle x → Contains (pieces_round (corners_of arena cycle)) (piece_at arena x)
    piece_in x i = subst (λ (ps : List Piece). Contains ps (piece_at arena x)) (sym pieces_are) (
      i.0,
      subst (λ (n : ℕ). i.0 < n) (sym (length-map cycle (λ h. piece_at arena h))) i.1,
      get_or-map (λ h. piece_at arena h) cycle i.0 x (piece_at arena x) i.1 ∙ ap (λ (y : ℕ). piece_at arena y) i.2,
    )

    pub half_of : (p : Piece) → Contains (pieces_round (corners_of arena cycle)) p → (x : ℕ) × Contains cycle x × (piece_at arena x ≡ p)
    half_of p i =
        let j : Contains (pieces_of arena cycle) p = subst (λ (ps : List Piece). Contains ps p) pieces_are i in
        let m : j.0 < length cycle = subst (λ (n : ℕ). j.0 < n) (length-map cycle (λ h. piece_at arena h)) j.1 in
        (get_or cycle j.0 0, in_cycle j.0 m, sym (get_or-map (λ h. piece_at arena h) cycle j.0 0 p m) ∙ j.2)

    -- it begins with that of h
    pub first_piece : (rest : List Piece) × (pieces_round (corners_of arena cycle) ≡ piece_at arena h ∷ rest)
    first_piece =
        let r = cycle_goes arena h cycle c in
        (pieces_of arena r.0, pieces_are ∙ ap (λ (xs : List ℕ). pieces_of arena xs) r.1)
