-- Which piece follows which, by tests.
use mathlib.Core.Path.{◌≡◌, subst}
use mathlib.Core.Bool.{Bool, true}
use mathlib.Core.List.{List, [], ◌∷◌}
use mathlib.Core.Logic.{◌⊎◌, inl, inr}
use Prim.Native.Nat.{ℕ}
use Rattle.std.proofs.lemmas.Bool.Decides.{Decides-and, Decides-or, Decides-eqb}
use Rattle.std.specs.Bool.{Decides}
use Rattle.std.specs.List.{AllByRecursion}
use Rattle.std.specs.Prelude.{◌&&◌, ◌||◌, not, nat_eq}
use Rattle.std.specs.Ordering.{is_lt}
use Rattle.algebra.specs.OrderedRing.{OrderedRing}
use Rattle.plane.specs.declared.point.Point.{Point}
use Rattle.plane.specs.Directions.{Direction, IsClockwise, IsRightOf, turn}
use Rattle.scaled_plane.specs.declared.drawing.Edge.{Edge}
use Rattle.scaled_plane.specs.Walks.{ComesAfter, IsDirectedPiece, way}
use Rattle.drawing_examples.proofs.Cutting.{not_is}
use Rattle.drawing_examples.proofs.Lists.{and_first, and_second, every, every_of, or_either, some, some_decides}
use Rattle.drawing_examples.proofs.Tests.{less_decides}

module _ {A : Type 0} (K : OrderedRing A) where
  abbrev right : Direction A → Direction A → Bool
  right d e = is_lt (K.sign (turn K.ops d e))

  right_decides : (d e : Direction A) → Decides (right d e) (IsRightOf K d e)
  right_decides d e = less_decides (K.sign (turn K.ops d e))

  abbrev pub clockwise : Direction A → Direction A → Direction A → Bool
  clockwise d e f = (right d e && right e f) || ((right e f && right f d) || (right f d && right d e))

  pub clockwise_decides : (d e f : Direction A) → Decides (clockwise d e f) (IsClockwise K d e f)
  clockwise_decides d e f =
      Decides-or (right d e && right e f) ((right e f && right f d) || (right f d && right d e)) (Decides-and (right d e) (right e f) (right_decides d e) (right_decides e f))
      (Decides-or (right e f && right f d) (right f d && right d e) (Decides-and (right e f) (right f d) (right_decides e f) (right_decides f d))
      (Decides-and (right f d) (right d e) (right_decides f d) (right_decides d e)))

  module _ (vertices : List (Point A)) (edges : List Edge) where
    abbrev pub joins : ℕ → ℕ → Edge → Bool
    joins u v e = (nat_eq e.from u && nat_eq e.to v) || (nat_eq e.from v && nat_eq e.to u)

    pub joined : (u v : ℕ) → some (joins u v) edges ≡ true → IsDirectedPiece edges u v
    joined u v h =
        (some_decides (joins u v) (λ e. ((e.from ≡ u) × (e.to ≡ v)) ⊎ ((e.from ≡ v) × (e.to ≡ u))) edges
        (λ e i. Decides-or (nat_eq e.from u && nat_eq e.to v) (nat_eq e.from v && nat_eq e.to u)
        (Decides-and (nat_eq e.from u) (nat_eq e.to v) (Decides-eqb e.from u) (Decides-eqb e.to v))
        (Decides-and (nat_eq e.from v) (nat_eq e.to u) (Decides-eqb e.from v) (Decides-eqb e.to u)))).0 h

    -- x is u or w, or comes later clockwise
    abbrev later : ℕ → ℕ → ℕ → ℕ → Bool
    later u v w x = nat_eq x u || (nat_eq x w || clockwise (way K vertices edges v u) (way K vertices edges v w) (way K vertices edges v x))

    abbrev all_later : ℕ → ℕ → ℕ → Edge → Bool
    all_later u v w e = (not (nat_eq e.from v) || later u v w e.to) && (not (nat_eq e.to v) || later u v w e.from)

    abbrev pub comes_after : ℕ → ℕ → ℕ → Bool
    comes_after u v w = some (joins u v) edges && (some (joins v w) edges && every (all_later u v w) edges)

    is_later : (u v w x : ℕ) → later u v w x ≡ true → ¬ (x ≡ u) → ¬ (x ≡ w)
        → IsClockwise K (way K vertices edges v u) (way K vertices edges v w) (way K vertices edges v x)
    is_later u v w x h not_u not_w =
        elim (or_either (nat_eq x u) (nat_eq x w || clockwise (way K vertices edges v u) (way K vertices edges v w) (way K vertices edges v x)) h) [
          | inl e ↦ absurd (not_u ((Decides-eqb x u).0 e))
          | inr f ↦ elim (or_either (nat_eq x w) (clockwise (way K vertices edges v u) (way K vertices edges v w) (way K vertices edges v x)) f) [
            | inl e ↦ absurd (not_w ((Decides-eqb x w).0 e))
            | inr g ↦ (clockwise_decides (way K vertices edges v u) (way K vertices edges v w) (way K vertices edges v x)).0 g
          ]
        ]

    pub where_at : (n v : ℕ) (b : Bool) → n ≡ v → (not (nat_eq n v) || b) ≡ true → b ≡ true
    where_at n v b e h = elim (or_either (not (nat_eq n v)) b h) [ inl f ↦ absurd (not_is (nat_eq n v) f ((Decides-eqb n v).1 e)) | inr g ↦ g ]

    pub after_is : (u v w : ℕ) → comes_after u v w ≡ true → ComesAfter K vertices edges u v w
    after_is u v w h =
        let rest = and_second (some (joins u v) edges) (some (joins v w) edges && every (all_later u v w) edges) h in
        record {
          piece = joined u v (and_first (some (joins u v) edges) (some (joins v w) edges && every (all_later u v w) edges) h);
          next = record {
            neighbour = joined v w (and_first (some (joins v w) edges) (every (all_later u v w) edges) rest);
            first = λ x piece not_u not_w.
                let e = piece.0 in
                let both = every_of (all_later u v w) edges (and_second (some (joins v w) edges) (every (all_later u v w) edges) rest) e piece.1 in
                let out = and_first (not (nat_eq e.from v) || later u v w e.to) (not (nat_eq e.to v) || later u v w e.from) both in
                let in_turn = and_second (not (nat_eq e.from v) || later u v w e.to) (not (nat_eq e.to v) || later u v w e.from) both in
                elim piece.2 [
                  | inl ends ↦ is_later u v w x (subst (λ (y : ℕ). later u v w y ≡ true) ends.1 (where_at e.from v (later u v w e.to) ends.0 out)) not_u not_w
                  | inr ends ↦ is_later u v w x (subst (λ (y : ℕ). later u v w y ≡ true) ends.0 (where_at e.to v (later u v w e.from) ends.1 in_turn)) not_u not_w
                ];
          };
        }

    abbrev pub table_fits : List (ℕ × ℕ × ℕ) → Bool
    table_fits [] = true
    table_fits (t ∷ rest) = comes_after t.0 t.1 t.2 && table_fits rest

    pub table_is : (table : List (ℕ × ℕ × ℕ)) → table_fits table ≡ true → AllByRecursion (λ t. ComesAfter K vertices edges t.0 t.1 t.2) table
    table_is [] h = tt
    table_is (t ∷ rest) h = (after_is t.0 t.1 t.2 (and_first (comes_after t.0 t.1 t.2) (table_fits rest) h), table_is rest (and_second (comes_after t.0 t.1 t.2) (table_fits rest) h))
