-- The least of some points, and the first of some half-edges clockwise from a direction.
use Rattle.std.proofs.Common.{◌≡◌, ◌⊎◌, inl, inr, ℕ, ◌+◌, ◌<◌, List, length, refl, sym, ap, subst, ◌∙◌, arith}
use Rattle.std.specs.Prelude.{AllPairs}
use Rattle.std.specs.Ordering.{ordering_reverse}
use Rattle.std.specs.declared.cmp.Ordering.{Ordering}
use Rattle.std.specs.declared.cmp.Ordering.TheVariants.{Less, Equal, Greater}
use Rattle.algebra.specs.OrderedRing.{OrderedRing}
use Rattle.plane.specs.declared.point.Point.{Point}
use Rattle.plane.specs.Directions.{Differ, Direction, IsClockwise}
use Rattle.plane.specs.Points.{IsPoint, IsSamePoint, origin, point_order}
use Rattle.plane.proofs.Around.{clockwise_either}
use Rattle.plane.proofs.Lines.{same_turned}
use Rattle.plane.proofs.Order.{order_chain, order_turned, same_of_equal}
use Rattle.plane.proofs.Turning.{clockwise_chain}
use Rattle.scaled_plane.specs.Pieces.{point_at}
use Rattle.half_edges.specs.declared.arena.HalfId.{HalfId}
use Rattle.face_walks.specs.declared.headings.Heading.{Heading}
use Rattle.face_walks.specs.Headings.{lead}
use Rattle.face_walks.specs.Outside.{IsFirstFrom, IsLeastPoint}
use Rattle.face_walks.specs.Rings.{half_at}
use Rattle.face_walks.proofs.Bearings.{turned_differ}
use Rattle.face_walks.proofs.RingLists.{same_or_not}

below_or : (v n : ℕ) → v < n + 1 → (v < n) ⊎ (v ≡ n)
below_or v n l = grind arith

module _ {A : Type 0} (K : OrderedRing A) (vertices : List (Point A)) (points : (v : ℕ) → v < length vertices → IsPoint K (point_at K vertices v))
    (different : AllPairs (λ p q. ¬ IsSamePoint K p q) vertices) where
  abbrev at : ℕ → Point A
  at v = point_at K vertices v

  pub least_first : 0 < length vertices → IsLeastPoint K vertices 1 0
  least_first l = record { in_range = omega arith; before = λ v m n. absurd (n (omega (arith, m))) }

  module _ (n least : ℕ) (p : IsLeastPoint K vertices n least) (inside : n < length vertices) where
    by_order : (o : Ordering) → point_order K (at n) (at least) ≡ o → ¬ (o ≡ Less) → point_order K (at least) (at n) ≡ Less
    by_order Less e n' = absurd (n' refl)
    by_order Equal e n' = absurd (different least n (origin K.ops) p.in_range inside (same_turned K (same_of_equal K (at n) (at least) e)))
    by_order Greater e n' = order_turned K (at n) (at least) ∙ ap ordering_reverse e

    pub least_kept : ¬ (point_order K (at n) (at least) ≡ Less) → IsLeastPoint K vertices (n + 1) least
    least_kept not = record {
      in_range = let l = p.in_range in omega arith;
      before = λ v l other. elim (below_or v n l) [
        | inl m ↦ p.before v m other
        | inr e ↦ subst (λ (u : ℕ). point_order K (at least) (at u) ≡ Less) (sym e) (by_order (point_order K (at n) (at least)) refl not)
      ];
    }

    pub least_taken : point_order K (at n) (at least) ≡ Less → IsLeastPoint K vertices (n + 1) n
    least_taken less = record {
      in_range = omega arith;
      before = λ v l other. elim (below_or v n l) [
        | inr e ↦ absurd (other e)
        | inl m ↦ elim (same_or_not v least) [
          | inl e ↦ subst (λ (u : ℕ). point_order K (at n) (at u) ≡ Less) (sym e) less
          | inr o ↦
              let low = p.in_range in
              order_chain K (at n) (at least) (at v) (points n inside) (points least (omega arith)) (points v (omega arith)) less (p.before v m o)
        ]
      ];
    }

module _ {A : Type 0} (K : OrderedRing A) (headings : List (Heading A)) (d : Direction A) (ring : List HalfId)
    (differ : (k : ℕ) → k < length ring → Differ K d (lead K headings (half_at ring k)))
    (apart : (i j : ℕ) → i < length ring → j < length ring → ¬ (half_at ring i ≡ half_at ring j)
    → Differ K (lead K headings (half_at ring i)) (lead K headings (half_at ring j))) where
  abbrev Before : ℕ → ℕ → Type 0
  Before g f = IsClockwise K d (lead K headings g) (lead K headings f)

  pub first_begun : 0 < length ring → IsFirstFrom K headings d ring 0 (half_at ring 0)
  first_begun l = record { has = (0, l, refl); before = λ k m n. absurd (omega (arith, m)) }

  module _ (n first : ℕ) (p : IsFirstFrom K headings d ring n first) (inside : n < length ring) where
    differ_first : Differ K d (lead K headings first)
    differ_first = subst (λ (g : ℕ). Differ K d (lead K headings g)) p.has.2 (differ p.has.0 p.has.1)

    later : ¬ Before (half_at ring n) first → ¬ (half_at ring n ≡ first) → Before first (half_at ring n)
    later not other =
        let between : Differ K (lead K headings first) (lead K headings (half_at ring n))
        = subst (λ (g : ℕ). Differ K (lead K headings g) (lead K headings (half_at ring n))) p.has.2 (apart p.has.0 n p.has.1 inside (λ e. other (sym e ∙ p.has.2))) in
        elim (clockwise_either K d (lead K headings first) (lead K headings (half_at ring n)) differ_first between (turned_differ K d (lead K headings (half_at ring n)) (differ n inside))) [
          | inl t ↦ t
          | inr t ↦ absurd (not t)
        ]

    pub first_kept : ¬ Before (half_at ring n) first → IsFirstFrom K headings d ring (n + 1) first
    first_kept not = record {
      has = p.has;
      before = λ k l other. elim (below_or k n l) [
        | inl m ↦ p.before k m other
        | inr e ↦ subst (λ (i : ℕ). ¬ (half_at ring i ≡ first) → Before first (half_at ring i)) (sym e) (later not) other
      ];
    }

    pub first_taken : Before (half_at ring n) first → IsFirstFrom K headings d ring (n + 1) (half_at ring n)
    first_taken t = record {
      has = (n, inside, refl);
      before = λ k l other. elim (below_or k n l) [
        | inr e ↦ absurd (other (ap (λ (i : ℕ). half_at ring i) e))
        | inl m ↦ elim (same_or_not (half_at ring k) first) [
          | inl e ↦ subst (λ (g : ℕ). Before (half_at ring n) g) (sym e) t
          | inr o ↦ clockwise_chain K d (lead K headings (half_at ring n)) (lead K headings first) (lead K headings (half_at ring k)) t (p.before k m o)
        ]
      ];
    }
