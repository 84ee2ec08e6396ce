-- A connected drawing is grown, piece by piece, from any of its pieces.
use Prim.Native.Nat.{ℕ}
use mathlib.Core.Path.{◌≡◌, refl, sym, ap, subst}
use mathlib.Core.List.{List, [], ◌∷◌}
use mathlib.Core.Logic.{◌⊎◌, inl, inr}
use native.Mathlib.Decide.{ℕ_discrete}
use Rattle.algebra.specs.OrderedRing.{OrderedRing}
use Rattle.plane.specs.declared.point.Point.{Point}
use Rattle.regions.proofs.Drawings.{Piece, piece, reversed, Among, IsDirected, IsVertex, Route, arrived, via, IsConnected, IsPlane}
use Rattle.regions.proofs.Walks.{Follows, OneWalk, same, onward, back}
use Rattle.regions.proofs.Regions.{LeftOf, OneRegion, straight, bent}
use Rattle.regions.proofs.InnerPoints.{ends, meet_in_ends}
use Rattle.regions.proofs.Sides.{IsGrown, first, grown}
use Rattle.regions.proofs.Different.{OneLeft, different}

equal_or_not : (e f : Piece) → (e ≡ f) ⊎ ¬ (e ≡ f)
equal_or_not e f = elim (ℕ_discrete e.tail f.tail) [
  | no n ↦ inr (λ h. n (ap (λ d. d.tail) h))
  | yes t ↦ elim (ℕ_discrete e.head f.head) [
    | no n ↦ inr (λ h. n (ap (λ d. d.head) h))
    | yes h ↦ inl (λ i. record { tail = t i; head = h i })
  ]
]

among_or_not : (ps : List Piece) (e : Piece) → Among ps e ⊎ ¬ Among ps e
among_or_not [] e = inr (λ i. i)
among_or_not (f ∷ ps) e = elim (equal_or_not f e) [
  | inl h ↦ inl (inl h)
  | inr n ↦ elim (among_or_not ps e) [
    | inl i ↦ inl (inr i)
    | inr m ↦ inr (elim [ inl h ↦ n h | inr i ↦ m i ])
  ]
]

some_vertex : {ps : List Piece} → IsGrown ps → (v : ℕ) × IsVertex ps v
some_vertex (first e) = (e.tail, (e.head, inl (inl refl)))
some_vertex (grown g e h) = (e.tail, (e.head, inl (inl refl)))

directed_among : (ps qs : List Piece) → ((f : Piece) → Among ps f → Among qs f) → (d : Piece) → IsDirected ps d → IsDirected qs d
directed_among ps qs h d (inl i) = inl (h d i)
directed_among ps qs h d (inr i) = inr (h (reversed d) i)

module _ {A : Type 0} (K : OrderedRing A) (place : ℕ → Point A) (ps : List Piece) (plane : IsPlane K place ps) (connected : IsConnected ps) where
  -- a part of the drawing that is grown
  record Part : Type 0 where
    pieces : List Piece
    is_grown : IsGrown pieces
    is_plane : IsPlane K place pieces
    inside : (f : Piece) → Among pieces f → Among ps f

  abbrev Keeps : Part → Part → Type 0
  Keeps P Q = (f : Piece) → Among P.pieces f → Among Q.pieces f

  add : (P : Part) (e : Piece) → Among ps e → IsVertex P.pieces e.tail ⊎ IsVertex P.pieces e.head → (Q : Part) × Keeps P Q × Among Q.pieces e
  add P e i h = elim (among_or_not P.pieces e) [
    | inl j ↦ (P, (λ f k. k), j)
    | inr n ↦ (
      record {
        pieces = e ∷ P.pieces;
        is_grown = grown P.is_grown e h;
        is_plane = (
          (ends K place ps plane e i).tail_point,
          (ends K place ps plane e i).head_point,
          (ends K place ps plane e i).different,
          (λ f j. elim (meet_in_ends K place ps plane e f i (P.inside f j)) [
            | inl equal ↦ absurd (n (subst (λ f. Among P.pieces f) (sym equal) j))
            | inr m ↦ m
          ]),
          P.is_plane,
        );
        inside = λ f. elim [ inl equal ↦ subst (λ f. Among ps f) equal i | inr j ↦ P.inside f j ];
      },
      (λ f j. inr j),
      inl refl,
    )
  ]

  -- the pieces of a route are added
  add_route : {u w : ℕ} → Route ps u w → (P : Part) → IsVertex P.pieces u → (Q : Part) × Keeps P Q × IsVertex Q.pieces w
  add_route arrived P h = (P, (λ f i. i), h)
  add_route (via {u} {v} (inl i) r) P h =
      let a : (Q : Part) × Keeps P Q × Among Q.pieces (piece u v) = add P (piece u v) i (inl h) in
      let b : (Q : Part) × Keeps a.0 Q × IsVertex Q.pieces _ = add_route r a.0 (u, inr a.2) in
      (b.0, (λ f j. b.1 f (a.1 f j)), b.2)
  add_route (via {u} {v} (inr i) r) P h =
      let a : (Q : Part) × Keeps P Q × Among Q.pieces (piece v u) = add P (piece v u) i (inr h) in
      let b : (Q : Part) × Keeps a.0 Q × IsVertex Q.pieces _ = add_route r a.0 (u, inl a.2) in
      (b.0, (λ f j. b.1 f (a.1 f j)), b.2)

  -- all of these pieces are added
  add_all : (fs : List Piece) → ((f : Piece) → Among fs f → Among ps f) → (P : Part) → (Q : Part) × Keeps P Q × ((f : Piece) → Among fs f → Among Q.pieces f)
  add_all [] sub P = (P, (λ f i. i), λ f i. absurd i)
  add_all (g ∷ fs) sub P =
      let v : (v : ℕ) × IsVertex P.pieces v = some_vertex P.is_grown in
      let route : Route ps v.0 g.tail = connected v.0 g.tail (v.1.0, directed_among P.pieces ps P.inside (piece v.0 v.1.0) v.1.1) (g.head, inl (sub g (inl refl))) in
      let a : (Q : Part) × Keeps P Q × IsVertex Q.pieces g.tail = add_route route P v.1 in
      let b : (Q : Part) × Keeps a.0 Q × Among Q.pieces g = add a.0 g (sub g (inl refl)) (inl a.2) in
      let c : (Q : Part) × Keeps b.0 Q × ((f : Piece) → Among fs f → Among Q.pieces f) = add_all fs (λ f i. sub f (inr i)) b.0 in
      (c.0, (λ f i. c.1 f (b.1 f (a.1 f i))), λ f. elim [ inl equal ↦ subst (λ f. Among c.0.pieces f) equal (c.1 g b.2) | inr i ↦ c.2 f i ])

  module _ (e : Piece) (here : Among ps e) where
    whole : (Q : Part) × ((f : Piece) → Among ps f → Among Q.pieces f)
    whole =
        let r : (Q : Part) × _ × ((f : Piece) → Among ps f → Among Q.pieces f) = add_all ps (λ f i. i) (record {
          pieces = e ∷ [];
          is_grown = first e;
          is_plane = ((ends K place ps plane e here).tail_point, (ends K place ps plane e here).head_point, (ends K place ps plane e here).different, (λ f i. absurd i), tt);
          inside = λ f. elim [ inl equal ↦ subst (λ f. Among ps f) equal here | inr i ↦ absurd i ];
        }) in
        (r.0, r.2)

    abbrev qs : List Piece
    qs = whole.0.pieces

    region_of_part : {p q : Point A} → OneRegion K place ps p q → OneRegion K place qs p q
    region_of_part (straight hp hq c) = straight hp hq (λ f i. c f (whole.0.inside f i))
    region_of_part (bent hp c l) = bent hp (λ f i. c f (whole.0.inside f i)) (region_of_part l)

    left_of_part : (d : Piece) (p : Point A) → LeftOf K place ps d p → LeftOf K place qs d p
    left_of_part d p l = record { point = l.point; left = l.left; clear = λ f i. l.clear f (whole.0.inside f i) }

    follows_in_whole : {d f : Piece} → Follows K place qs d f → Follows K place ps d f
    follows_in_whole {d} {f} h = record {
      before = directed_among qs ps whole.0.inside d h.before;
      after = directed_among qs ps whole.0.inside f h.after;
      turns_at = h.turns_at;
      next = λ x i. h.next x (directed_among ps qs whole.1 (piece d.head x) i);
    }

    walk_in_whole : {d f : Piece} → OneWalk K place qs d f → OneWalk K place ps d f
    walk_in_whole same = same
    walk_in_whole (onward h w) = onward (follows_in_whole h) (walk_in_whole w)
    walk_in_whole (back h w) = back (follows_in_whole h) (walk_in_whole w)

    -- directed pieces of a connected drawing that have one region at their left are in one walk
    pub one_walk_of_connected : (d f : Piece) → IsDirected ps d → IsDirected ps f → OneLeft K place ps d f → OneWalk K place ps d f
    one_walk_of_connected d f hd hf j =
        walk_in_whole (different K place whole.0.is_grown whole.0.is_plane d f (directed_among ps qs whole.1 d hd) (directed_among ps qs whole.1 f hf)
        (j.0, j.1, left_of_part d j.0 j.2, left_of_part f j.1 j.3, region_of_part j.4))
