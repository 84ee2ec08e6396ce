-- The outside of a drawing: its least vertex, and the first neighbour of that clockwise from the direction of smaller x.
use Prim.Native.Nat.{ℕ, zero, suc, ◌<◌}
use mathlib.Core.Path.{◌≡◌, refl, sym, ap, subst, ◌∙◌}
use mathlib.Core.List.{List, [], ◌∷◌}
use mathlib.Core.Logic.{◌⊎◌, inl, inr}
use Rattle.std.proofs.Common.{arith}
use Rattle.std.specs.Prelude.{length}
use Rattle.std.specs.Ordering.{ordering_reverse}
use Rattle.std.specs.declared.cmp.Ordering.{Ordering}
use Rattle.std.specs.declared.cmp.Ordering.TheVariants.{Less, Equal, Greater}
use Rattle.algebra.specs.OrderedRing.{OrderedRing}
use Rattle.algebra.proofs.Solvers.{reads, sign_from, known, no_sign, positive, negative, given, negated}
use Rattle.plane.specs.declared.point.Point.{Point}
use Rattle.plane.specs.Points.{point_order, IsSamePoint}
use Rattle.plane.specs.Segments.{MeetInEnds}
use Rattle.plane.specs.Directions.{Direction, turn, west, Differ}
use Rattle.plane.proofs.First.{same_or_not, IsOne, some_first, ComesFirst}
use Rattle.plane.proofs.Lines.{same_turned}
use Rattle.plane.proofs.Members.{in_cons, in_head, in_tail, in_nil}
use Rattle.plane.proofs.Neighbours.{ways_differ}
use Rattle.plane.proofs.Order.{order_turned, order_chain, same_of_equal}
use Rattle.scaled_plane.specs.declared.drawing.Edge.{Edge}
use Rattle.scaled_plane.specs.Walks.{IsDirectedPiece, IsOutside, way}
use Rattle.regions.specs.Faces.{IsPlane as IsPlaneDrawing}
use Rattle.regions.proofs.Drawings.{Piece}
use Rattle.regions.proofs.Directions.{only_vertex}
use Rattle.regions.proofs.Pieces.{place, ps, directed, is_plane, vertex_point, same_vertex}
use Rattle.regions.proofs.Outer.{in_range, directed_end, other_end, later_of}

-- the numbers of which something holds, as a list
abbrev Listed : (ℕ → Type 0) → Type 0
Listed P = (xs : List ℕ) × ((y : ℕ) → IsOne y xs → P y) × ((y : ℕ) → P y → IsOne y xs)

with_one : (C : Type 0) → C ⊎ ¬ C → (x : ℕ) (P : ℕ → Type 0) → Listed P → Listed (λ y. (C × (y ≡ x)) ⊎ P y)
with_one C (inl c) x P l = (x ∷ l.0, (λ y. elim [ inl e ↦ inl (c, e) | inr i ↦ inr (l.1 y i) ]), (λ y. elim [ inl e ↦ inl e.1 | inr p ↦ inr (l.2 y p) ]))
with_one C (inr n) x P l = (l.0, (λ y i. inr (l.1 y i)), (λ y. elim [ inl e ↦ absurd (n e.0) | inr p ↦ l.2 y p ]))

neighbours : (u : ℕ) (es : List Edge) → Listed (IsDirectedPiece es u)
neighbours u [] = ([], (λ y i. absurd i), λ y p. absurd (in_nil p.0 p.1))
neighbours u (e ∷ es) =
    let l : Listed (λ y. ((e.from ≡ u) × (y ≡ e.to)) ⊎ (((e.to ≡ u) × (y ≡ e.from)) ⊎ IsDirectedPiece es u y))
    = with_one (e.from ≡ u) (same_or_not e.from u) e.to (λ y. ((e.to ≡ u) × (y ≡ e.from)) ⊎ IsDirectedPiece es u y)
    (with_one (e.to ≡ u) (same_or_not e.to u) e.from (IsDirectedPiece es u) (neighbours u es)) in (
      l.0,
      (λ y i. elim (l.1 y i) [
        | inl s ↦ (e, in_head e es, inl (s.0, sym s.1))
        | inr r ↦ elim r [
          | inl s ↦ (e, in_head e es, inr (sym s.1, s.0))
          | inr p ↦ (p.0, in_tail e es p.0 p.1, p.2)
        ]
      ]),
      λ y p. l.2 y (elim (in_cons e es p.0 p.1) [
        | inl s ↦ elim (subst (λ (f : Edge). ((f.from ≡ u) × (f.to ≡ y)) ⊎ ((f.from ≡ y) × (f.to ≡ u))) (sym s) p.2) [
          | inl q ↦ inl (q.0, sym q.1)
          | inr q ↦ inr (inl (q.1, sym q.0))
        ]
        | inr j ↦ inr (inr (p.0, j, p.2))
      ]),
    )

module _ {A : Type 0} (K : OrderedRing A) where
  -- a direction that leads right, or straight up, differs from the west
  pub not_westwards : (d : Direction A) → (K.sign d.x ≡ Greater) ⊎ ((K.sign d.x ≡ Equal) × (K.sign d.y ≡ Greater)) → Differ K (west K.ops) d
  not_westwards d (inl h) level =
      sign_from K (d.x ∷ d.y ∷ []) (known positive (search reads depth 40 fits 50000) h no_sign) negative (search reads depth 40 fits 50000) (negated (given 0)) tt tt
  not_westwards d (inr h) level =
      let low : K.sign (turn K.ops (west K.ops) d) ≡ Less
      = sign_from K (d.x ∷ d.y ∷ []) (known positive (search reads depth 40 fits 50000) h.1 no_sign) negative (search reads depth 40 fits 50000) (negated (given 0)) tt tt in
      absurd (let no : Less ≡ Equal = sym low ∙ level in cc)

module _ {A : Type 0} (K : OrderedRing A) (vertices : List (Point A)) (edges : List Edge) (h : IsPlaneDrawing K vertices edges) where
  abbrev at : ℕ → Point A
  at v = place K vertices edges v

  abbrev all : List Piece
  all = ps K vertices edges

  abbrev Before : ℕ → ℕ → Type 0
  Before u v = point_order K (at u) (at v) ≡ Less

  abbrev LeastBelow : ℕ → Type 0
  LeastBelow n = (u : ℕ) × (u < n) × ((v : ℕ) → v < n → ¬ (v ≡ u) → Before u v)

  one_more : (n : ℕ) → n < length vertices → (r : LeastBelow n) (o : Ordering) → point_order K (at r.0) (at n) ≡ o → LeastBelow (suc n)
  one_more n l r Less k = (
    r.0,
    omega (arith, r.1),
    λ v below other. elim (same_or_not v n) [
      | inl e ↦ subst (λ (y : ℕ). Before r.0 y) (sym e) k
      | inr m ↦ r.2 v (omega (arith, below, m)) other
    ],
  )
  one_more n l r Equal k =
      let e : r.0 ≡ n = same_vertex K vertices edges h r.0 n (omega (arith, r.1, l)) l (same_of_equal K (at r.0) (at n) k) in
      absurd (omega (arith, e, r.1))
  one_more n l r Greater k =
      let back : Before n r.0 = order_turned K (at r.0) (at n) ∙ ap ordering_reverse k in (
        n,
        omega arith,
        λ v below other. elim (same_or_not v r.0) [
          | inl e ↦ subst (λ (y : ℕ). Before n y) (sym e) back
          | inr m ↦
              let under : v < n = omega (arith, below, other) in
              order_chain K (at n) (at r.0) (at v) (vertex_point K vertices edges h n l) (vertex_point K vertices edges h r.0 (omega (arith, r.1, l)))
              (vertex_point K vertices edges h v (omega (arith, under, l))) back (r.2 v under m)
        ],
      )

  least_below : (n : ℕ) → suc n < suc (length vertices) → LeastBelow (suc n)
  least_below zero l = (0, omega arith, λ v below other. absurd (other (omega (arith, below))))
  least_below (suc n) l =
      let r : LeastBelow (suc n) = least_below n (omega (arith, l)) in
      one_more (suc n) (omega (arith, l)) r (point_order K (at r.0) (at (suc n))) refl

  least_vertex : (n : ℕ) → length vertices ≡ n → 0 < n → LeastBelow n
  least_vertex zero e l = absurd (omega (arith, l))
  least_vertex (suc n) e l = least_below n (omega (arith, e))

  -- two neighbours lead different ways
  pub neighbours_differ : (u x y : ℕ) → IsDirectedPiece edges u x → IsDirectedPiece edges u y → ¬ (x ≡ y) → Differ K (way K vertices edges u x) (way K vertices edges u y)
  neighbours_differ u x y hx hy n =
      let iu : u < length vertices = in_range K vertices edges h u x hx in
      let ix : x < length vertices = directed_end K vertices edges h u x hx in
      let iy : y < length vertices = directed_end K vertices edges h u y hy in
      let meet : MeetInEnds K (at u) (at x) (at u) (at y)
      = λ p hp on_x on_y. let s : IsSamePoint K (at u) p = only_vertex K at all (is_plane K vertices edges h) u x y (directed edges u x hx) (directed edges u y hy) n p hp on_x on_y in
      (inl (same_turned K s), inl (same_turned K s)) in
      ways_differ K (at u) (at x) (at y) (vertex_point K vertices edges h u iu) (vertex_point K vertices edges h x ix) (vertex_point K vertices edges h y iy)
      (λ s. other_end K vertices edges h u x hx (sym (same_vertex K vertices edges h u x iu ix s)))
      (λ s. other_end K vertices edges h u y hy (sym (same_vertex K vertices edges h u y iu iy s)))
      (λ s. n (same_vertex K vertices edges h x y ix iy s)) meet

  module _ (u : ℕ) (iu : u < length vertices) (least : (v : ℕ) → v < length vertices → ¬ (v ≡ u) → Before u v) where
    abbrev First : ℕ → List ℕ → Type 0
    First w xs = ComesFirst K (west K.ops) (way K vertices edges u) (IsDirectedPiece edges u)
        (λ x p. not_westwards K (way K vertices edges u x) (later_of K vertices edges h u x (least x (directed_end K vertices edges h u x p) (other_end K vertices edges h u x p))))
        (neighbours_differ u) w xs

    some_neighbour : (x : ℕ) × IsDirectedPiece edges u x
    some_neighbour =
        let r = h.used u iu in
        elim r.2 [ inl e ↦ (r.0.to, (r.0, r.1, inl (e, refl))) | inr e ↦ (r.0.from, (r.0, r.1, inr (refl, e))) ]

    first_of : (xs : List ℕ) → ((y : ℕ) → IsOne y xs → IsDirectedPiece edges u y) → (x : ℕ) → IsOne x xs → (w : ℕ) × First w xs
    first_of [] ones x i = absurd i
    first_of (y ∷ rest) ones x i =
        some_first K (west K.ops) (way K vertices edges u) (IsDirectedPiece edges u)
        (λ x p. not_westwards K (way K vertices edges u x) (later_of K vertices edges h u x (least x (directed_end K vertices edges h u x p) (other_end K vertices edges h u x p))))
        (neighbours_differ u) y rest ones

    outside_at : (w : ℕ) × IsOutside K vertices edges u w
    outside_at =
        let l : Listed (IsDirectedPiece edges u) = neighbours u edges in
        let some : (x : ℕ) × IsDirectedPiece edges u x = some_neighbour in
        let f : (w : ℕ) × First w l.0 = first_of l.0 l.1 some.0 (l.2 some.0 some.1) in (
          f.0,
          record {
            in_range = iu;
            least = least;
            first = record { neighbour = f.1.has; first = λ x p skipped other. f.1.before x (l.2 x p) other };
          },
        )

  pub some_outside : 0 < length vertices → (u w : ℕ) × IsOutside K vertices edges u w
  some_outside l =
      let r : LeastBelow (length vertices) = least_vertex (length vertices) refl l in
      let o : (w : ℕ) × IsOutside K vertices edges r.0 w = outside_at r.0 r.1 r.2 in
      (r.0, o.0, o.1)
