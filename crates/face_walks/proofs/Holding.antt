-- An arena with a pair of half-edges for each edge of a plane drawing holds each directed piece once.
use Rattle.std.proofs.Common.{◌≡◌, ◌⊎◌, inl, inr, ℕ, ◌+◌, ◌*◌, ◌/◌, ◌%◌, ◌<◌, List, length, refl, sym, ap, subst, ◌∙◌, arith}
use lib.IntN.{pos}
use Rattle.std.specs.Prelude.{Contains}
use Rattle.std.proofs.lemmas.List.{get_or_default}
use Rattle.std.proofs.lemmas.List.Elements.{Contains-get_or}
use Rattle.fold_base.specs.declared.letter.Letter.TheVariants.{Border}
use Rattle.algebra.specs.OrderedRing.{OrderedRing}
use Rattle.plane.specs.declared.point.Point.{Point}
use Rattle.plane.specs.Points.{IsPoint, IsSamePoint, combination}
use Rattle.plane.specs.Segments.{IsEnd, IsOn, MeetInEnds}
use Rattle.plane.proofs.Lines.{once, same_turned}
use Rattle.plane.proofs.OnSegments.{mediant, on_turned, point_between}
use Rattle.plane.proofs.Signs.{greater_ge}
use Rattle.scaled_plane.specs.declared.drawing.Edge.{Edge}
use Rattle.scaled_plane.specs.Walks.{IsDirectedPiece}
use Rattle.regions.specs.Faces.{IsPlane, place}
use Rattle.regions.proofs.InnerPoints.{inner_not_first, inner_not_second}
use Rattle.regions.proofs.Pieces.{same_vertex, vertex_point}
use Rattle.half_edges.specs.Halves.{Halves, count, twin_of}
use Rattle.face_walks.specs.Linked.{HoldsPieces, piece_at, reverse_of}
use Rattle.face_walks.specs.Pairs.{ArePairs, edge_at}
use Rattle.face_walks.proofs.LinkLists.{even_or_odd}

abbrev pub Piece : Type 0
Piece = ℕ × ℕ

-- the edge of a half-edge, which goes there or back
pub half_cases : (h n : ℕ) → h < 2 * n → (i : ℕ) × (i < n) × ((h ≡ 2 * i) ⊎ (h ≡ 2 * i + 1))
half_cases h n l = (h / 2, omega arith, by (h % 2) refl)
  where
    by : (r : ℕ) → h % 2 ≡ r → (h ≡ 2 * (h / 2)) ⊎ (h ≡ 2 * (h / 2) + 1)
    by r e = grind arith

module _ {A : Type 0} (K : OrderedRing A) where
  module _ (a b : Point A) (ha : IsPoint K a) (hb : IsPoint K b) (apart : ¬ IsSamePoint K a b) where
    x : Point A
    x = combination K.ops (K.int (pos 1)) a (K.int (pos 1)) b

    on : IsOn K a b (combination K.ops (K.int (pos 1)) a (K.int (pos 1)) b)
    on = record {
      factor = K.int (pos 1);
      from_share = K.int (pos 1);
      to_share = K.int (pos 1);
      factor_positive = K.sign_int (pos 1);
      from_not_negative = greater_ge (K.sign_int (pos 1));
      to_not_negative = greater_ge (K.sign_int (pos 1));
      is = sym (once K (combination K.ops (K.int (pos 1)) a (K.int (pos 1)) b));
    }

    no_end : IsEnd K a b (combination K.ops (K.int (pos 1)) a (K.int (pos 1)) b) → ⊥
    unfolding on
    no_end (inl s) = inner_not_first K apart on (K.sign_int (pos 1)) (same_turned K s)
    no_end (inr s) = inner_not_second K apart on (K.sign_int (pos 1)) (same_turned K s)

    is_point : IsPoint K (combination K.ops (K.int (pos 1)) a (K.int (pos 1)) b)
    is_point = point_between K a b (combination K.ops (K.int (pos 1)) a (K.int (pos 1)) b) ha hb (mediant K a b)

    -- no two edges that meet only in ends have the same ends
    pub not_same_ends : ¬ MeetInEnds K a b a b
    not_same_ends m = no_end (m (combination K.ops (K.int (pos 1)) a (K.int (pos 1)) b) is_point on on).0

    pub not_turned_ends : ¬ MeetInEnds K a b b a
    not_turned_ends m = no_end (m (combination K.ops (K.int (pos 1)) a (K.int (pos 1)) b) is_point on (on_turned K on)).0

  module _ (vertices : List (Point A)) (edges : List Edge) (h : IsPlane K vertices edges) where
    abbrev at : ℕ → Point A
    at v = place K vertices edges v

    abbrev e : ℕ → Edge
    e i = edge_at edges i

    has : (i : ℕ) → i < length edges → Contains edges (e i)
    has i l = Contains-get_or edges i (record { from = 0; to = 0; letter = Border }) l

    ends_apart : (i : ℕ) → i < length edges → ¬ IsSamePoint K (at (e i).from) (at (e i).to)
    ends_apart i l s =
        let ends = h.ends (e i) (has i l) in
        ends.2 (same_vertex K vertices edges h (e i).from (e i).to ends.0 ends.1 s)

    from_point : (i : ℕ) → i < length edges → IsPoint K (at (e i).from)
    from_point i l = vertex_point K vertices edges h (e i).from (h.ends (e i) (has i l)).0

    to_point : (i : ℕ) → i < length edges → IsPoint K (at (e i).to)
    to_point i l = vertex_point K vertices edges h (e i).to (h.ends (e i) (has i l)).1

    meet : (i j : ℕ) → i < j → j < length edges → MeetInEnds K (at (e i).from) (at (e i).to) (at (e j).from) (at (e j).to)
    meet i j l m = h.apart i j (record { from = 0; to = 0; letter = Border }) l m

    alike : (i j : ℕ) → i < j → j < length edges → (e i).from ≡ (e j).from → (e i).to ≡ (e j).to → ⊥
    alike i j l m f t =
        let li : i < length edges = omega arith in
        not_same_ends (at (e i).from) (at (e i).to) (from_point i li) (to_point i li) (ends_apart i li)
        (subst (λ (v : ℕ). MeetInEnds K (at (e i).from) (at (e i).to) (at v) (at (e i).to)) (sym f)
        (subst (λ (v : ℕ). MeetInEnds K (at (e i).from) (at (e i).to) (at (e j).from) (at v)) (sym t) (meet i j l m)))

    crossed : (i j : ℕ) → i < j → j < length edges → (e i).from ≡ (e j).to → (e i).to ≡ (e j).from → ⊥
    crossed i j l m f t =
        let li : i < length edges = omega arith in
        not_turned_ends (at (e i).from) (at (e i).to) (from_point i li) (to_point i li) (ends_apart i li)
        (subst (λ (v : ℕ). MeetInEnds K (at (e i).from) (at (e i).to) (at v) (at (e i).from)) (sym t)
        (subst (λ (v : ℕ). MeetInEnds K (at (e i).from) (at (e i).to) (at (e j).from) (at v)) (sym f) (meet i j l m)))

    lt_or : (i j : ℕ) → (i < j) ⊎ ((j < i) ⊎ (i ≡ j))
    lt_or i j = grind arith

    same_edge : (i j : ℕ) → i < length edges → j < length edges → (e i).from ≡ (e j).from → (e i).to ≡ (e j).to → i ≡ j
    same_edge i j li lj f t = elim (lt_or i j) [
      | inl l ↦ absurd (alike i j l lj f t)
      | inr (inl l) ↦ absurd (alike j i l li (sym f) (sym t))
      | inr (inr s) ↦ s
    ]

    no_reverse : (i j : ℕ) → i < length edges → j < length edges → (e i).from ≡ (e j).to → (e i).to ≡ (e j).from → ⊥
    no_reverse i j li lj f t = elim (lt_or i j) [
      | inl l ↦ crossed i j l lj f t
      | inr (inl l) ↦ crossed j i l li (sym t) (sym f)
      | inr (inr s) ↦ (h.ends (e j) (has j lj)).2 (subst (λ (k : ℕ). (e k).from ≡ (e j).to) s f)
    ]

    module _ (arena : Halves Piece) (p : ArePairs edges (length edges) arena) where
      cases : (g : ℕ) → g < count arena → (i : ℕ) × (i < length edges) × ((g ≡ 2 * i) ⊎ (g ≡ 2 * i + 1))
      cases g l = half_cases g (length edges) (subst (λ (n : ℕ). g < n) p.two_each l)

      -- a half-edge carries its edge there or back
      abbrev Carries : ℕ → ℕ → Type 0
      Carries g i = ((g ≡ 2 * i) × (piece_at arena g ≡ ((e i).from, (e i).to))) ⊎ ((g ≡ 2 * i + 1) × (piece_at arena g ≡ ((e i).to, (e i).from)))

      carries : (g : ℕ) → g < count arena → (i : ℕ) × (i < length edges) × Carries g i
      carries g l =
          let c = cases g l in (
            c.0,
            c.1,
            elim c.2 [
              | inl s ↦ inl (s, ap (λ (k : ℕ). piece_at arena k) s ∙ p.there c.0 c.1)
              | inr s ↦ inr (s, ap (λ (k : ℕ). piece_at arena k) s ∙ p.back c.0 c.1)
            ],
          )

      only_by : (g i : ℕ) → i < length edges → Carries g i → IsDirectedPiece edges (piece_at arena g).0 (piece_at arena g).1
      only_by g i l (inl c) = (e i, has i l, inl (sym (ap (λ (q : Piece). q.0) c.1), sym (ap (λ (q : Piece). q.1) c.1)))
      only_by g i l (inr c) = (e i, has i l, inr (sym (ap (λ (q : Piece). q.1) c.1), sym (ap (λ (q : Piece). q.0) c.1)))

      once_by : (g f i j : ℕ) → i < length edges → j < length edges → Carries g i → Carries f j → piece_at arena g ≡ piece_at arena f → g ≡ f
      once_by g f i j li lj (inl c) (inl d) s =
          let k : i ≡ j = same_edge i j li lj (ap (λ (r : Piece). r.0) (sym c.1 ∙ s ∙ d.1)) (ap (λ (r : Piece). r.1) (sym c.1 ∙ s ∙ d.1)) in
          omega (arith, c.0, d.0, k)
      once_by g f i j li lj (inl c) (inr d) s =
          absurd (no_reverse i j li lj (ap (λ (r : Piece). r.0) (sym c.1 ∙ s ∙ d.1)) (ap (λ (r : Piece). r.1) (sym c.1 ∙ s ∙ d.1)))
      once_by g f i j li lj (inr c) (inl d) s =
          absurd (no_reverse i j li lj (ap (λ (r : Piece). r.1) (sym c.1 ∙ s ∙ d.1)) (ap (λ (r : Piece). r.0) (sym c.1 ∙ s ∙ d.1)))
      once_by g f i j li lj (inr c) (inr d) s =
          let k : i ≡ j = same_edge i j li lj (ap (λ (r : Piece). r.1) (sym c.1 ∙ s ∙ d.1)) (ap (λ (r : Piece). r.0) (sym c.1 ∙ s ∙ d.1)) in
          omega (arith, c.0, d.0, k)

      reversed_by : (g i : ℕ) → i < length edges → Carries g i → piece_at arena (twin_of g) ≡ reverse_of (piece_at arena g)
      reversed_by g i l (inl c) =
          let other : twin_of g ≡ 2 * i + 1 = elim (even_or_odd g) [ inl t ↦ t.1 ∙ (omega (arith, c.0)) | inr t ↦ absurd (omega (arith, c.0, t.0)) ] in
          ap (λ (k : ℕ). piece_at arena k) other ∙ p.back i l ∙ sym (ap reverse_of c.1)
      reversed_by g i l (inr c) =
          let other : twin_of g ≡ 2 * i = elim (even_or_odd g) [ inl t ↦ absurd (omega (arith, c.0, t.0)) | inr t ↦ t.1 ∙ (omega (arith, c.0)) ] in
          ap (λ (k : ℕ). piece_at arena k) other ∙ p.there i l ∙ sym (ap reverse_of c.1)

      edge_is : (q : Edge) (i : Contains edges q) → e i.0 ≡ q
      edge_is q i = get_or_default edges i.0 (record { from = 0; to = 0; letter = Border }) q i.1 ∙ i.2

      pub holds : HoldsPieces edges arena
      holds = record {
        is_arena = p.is_arena;
        only = λ g l. let c = carries g l in only_by g c.0 c.1 c.2;
        every = λ u v d.
            let i : ℕ = d.1.0 in
            let s : e i ≡ d.0 = edge_is d.0 d.1 in
            elim d.2 [
              | inl t ↦ (
                2 * i,
                omega (arith, d.1.1, p.two_each),
                p.there i d.1.1 ∙ ap (λ (q : Edge). (q.from, q.to)) s ∙ (λ k. (t.0 k, t.1 k)),
              )
              | inr t ↦ (
                2 * i + 1,
                omega (arith, d.1.1, p.two_each),
                p.back i d.1.1 ∙ ap (λ (q : Edge). (q.to, q.from)) s ∙ (λ k. (t.1 k, t.0 k)),
              )
            ];
        once = λ g f lg lf s.
            let c = carries g lg in
            let d = carries f lf in
            once_by g f c.0 d.0 c.1 d.1 c.2 d.2 s;
        reversed = λ g l. let c = carries g l in reversed_by g c.0 c.1 c.2;
      }
