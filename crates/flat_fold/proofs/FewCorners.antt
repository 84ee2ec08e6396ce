-- A walk round a face has at most two corners for each edge: each directed piece stands in it once.
use Rattle.std.proofs.Common.{◌≡◌, ap, sym, refl, subst, ℕ, List, [], ◌∷◌, ◌++◌, ◌≤◌, ◌*◌, length, Bool, true, false, inl, inr, ◌⊎◌, arith, ◌==◌}
use Rattle.std.specs.Prelude.{AllPairs, get_or}
use Rattle.std.specs.Bool.{Decides}
use Rattle.std.specs.List.{Contains}
use Rattle.std.specs.Ordering.{eq_of_both, on}
use Rattle.std.specs.Cmp.{IsEquivalence}
use Rattle.std.proofs.lemmas.Bool.Decides.{Decides-and, Decides-eqb}
use Rattle.std.proofs.lemmas.Cmp.{and_equiv, nat_eq_equiv, on_equiv}
use Rattle.std.proofs.lemmas.Map.Keys.{IsDistinct-from_apart}
use Rattle.std.proofs.lemmas.Map.Made.{is_member-Decides, length-le_from_is_member}
use Rattle.algebra.specs.OrderedRing.{OrderedRing}
use Rattle.plane.specs.declared.point.Point.{Point}
use Rattle.plane.proofs.Members.{in_cons, in_head, in_nil, in_tail}
use Rattle.scaled_plane.specs.Walks.{FollowOn, FollowRound, IsDirectedPiece, IsWalk, pieces_round}
use Rattle.scaled_plane.specs.declared.drawing.Edge.{Edge}
use Rattle.flat_fold.proofs.SideLaws.{length-pieces}

abbrev Piece : Type 0
Piece = ℕ × ℕ

-- ---- pairs by their equality

abbrev same : Piece → Piece → Bool
same = eq_of_both (on (λ (p : Piece). p.0) (λ x y. x == y)) (on (λ (p : Piece). p.1) (λ x y. x == y))

same_laws : IsEquivalence same
same_laws = and_equiv (on_equiv (λ (p : Piece). p.0) nat_eq_equiv) (on_equiv (λ (p : Piece). p.1) nat_eq_equiv)

same_decides : (p q : Piece) → Decides (same p q) (p ≡ q)
same_decides p q =
    let both = Decides-and (p.0 == q.0) (p.1 == q.1) (Decides-eqb p.0 q.0) (Decides-eqb p.1 q.1) in
    (λ e. let ends = both.0 e in λ k. (ends.0 k, ends.1 k), λ e. both.1 (ap (λ (r : Piece). r.0) e, ap (λ (r : Piece). r.1) e))

not_true : (b : Bool) → ¬ (b ≡ true) → b ≡ false
not_true true n = absurd (n refl)
not_true false n = refl

-- pieces of which none stands twice are no more than those that hold them all
no_more_than : (xs ys : List Piece) → AllPairs (λ p q. ¬ (p ≡ q)) xs → ((p : Piece) → Contains xs p → Contains ys p) → length xs ≤ length ys
no_more_than xs ys once within =
    length-le_from_is_member same_laws xs ys
    (IsDistinct-from_apart same xs (λ i j d l m. not_true (same (get_or xs i d) (get_or xs j d)) (λ e. once i j d l m ((same_decides (get_or xs i d) (get_or xs j d)).0 e))))
    (λ q e. (is_member-Decides same_decides ys q).1 (within q ((is_member-Decides same_decides xs q).0 e)))

-- ---- the directed pieces of a drawing

both_ways : List Edge → List Piece
both_ways [] = []
both_ways (e ∷ es) = (e.from, e.to) ∷ (e.to, e.from) ∷ both_ways es

length-both_ways : (es : List Edge) → length (both_ways es) ≡ 2 * length es
unfolding both_ways
length-both_ways [] = refl
length-both_ways (e ∷ es) = let rest = length-both_ways es in omega (arith, rest)

in_both_ways : (es : List Edge) (u v : ℕ) → IsDirectedPiece es u v → Contains (both_ways es) (u, v)
unfolding both_ways
in_both_ways [] u v p = absurd (in_nil p.0 p.1)
in_both_ways (e ∷ es) u v p = elim (in_cons e es p.0 p.1) [
  | inr j ↦ in_tail (e.from, e.to) ((e.to, e.from) ∷ both_ways es) (u, v) (in_tail (e.to, e.from) (both_ways es) (u, v) (in_both_ways es u v (p.0, j, p.2)))
  | inl s ↦ elim (subst (λ (f : Edge). ((f.from ≡ u) × (f.to ≡ v)) ⊎ ((f.from ≡ v) × (f.to ≡ u))) (sym s) p.2) [
    | inl q ↦ subst (λ (t : Piece). Contains ((e.from, e.to) ∷ (e.to, e.from) ∷ both_ways es) t) (λ k. (q.0 k, q.1 k)) (in_head (e.from, e.to) ((e.to, e.from) ∷ both_ways es))
    | inr q ↦ in_tail (e.from, e.to) ((e.to, e.from) ∷ both_ways es) (u, v)
        (subst (λ (t : Piece). Contains ((e.to, e.from) ∷ both_ways es) t) (λ k. (q.1 k, q.0 k)) (in_head (e.to, e.from) (both_ways es)))
  ]
]

module _ {A : Type 0} (K : OrderedRing A) (vertices : List (Point A)) (edges : List Edge) where
  directed_on : (p last : Piece) (xs : List Piece) → FollowOn K vertices edges p (xs ++ last ∷ []) → (q : Piece) → Contains (p ∷ xs) q → IsDirectedPiece edges q.0 q.1
  directed_on p last [] f q i = elim (in_cons p [] q i) [
    | inl e ↦ subst (λ (t : Piece). IsDirectedPiece edges t.0 t.1) e f.0.1.piece
    | inr none ↦ absurd (in_nil q none)
  ]
  directed_on p last (x ∷ xs) f q i = elim (in_cons p (x ∷ xs) q i) [
    | inl e ↦ subst (λ (t : Piece). IsDirectedPiece edges t.0 t.1) e f.0.1.piece
    | inr j ↦ directed_on x last xs f.1 q j
  ]

  directed_round : (ps : List Piece) → FollowRound K vertices edges ps → (q : Piece) → Contains ps q → IsDirectedPiece edges q.0 q.1
  directed_round [] f q i = absurd f
  directed_round (p ∷ rest) f q i = directed_on p p rest f q i

  -- the pieces of a walk are edges, or edges backwards
  pub walk-directed : (corners : List ℕ) → IsWalk K vertices edges corners → (u v : ℕ) → Contains (pieces_round corners) (u, v) → IsDirectedPiece edges u v
  walk-directed corners w u v i = directed_round (pieces_round corners) w.follow (u, v) i

  pub walk-short : (corners : List ℕ) → IsWalk K vertices edges corners → length corners ≤ 2 * length edges
  walk-short corners w =
      let most : length (pieces_round corners) ≤ length (both_ways edges)
      = no_more_than (pieces_round corners) (both_ways edges) w.once (λ p i. in_both_ways edges p.0 p.1 (walk-directed corners w p.0 p.1 i)) in
      let long = length-pieces corners in
      let all = length-both_ways edges in
      omega (arith, most, long, all)
