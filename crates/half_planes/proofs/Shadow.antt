-- Both ways of the elimination: a point in all the half-planes has its x among the places that the lines ask for, and over each
-- such place there is one.
use Rattle.std.proofs.Common.{◌≡◌, List, [], ◌∷◌}
use Rattle.std.specs.List.{All, Contains}
use Rattle.std.specs.declared.cmp.Ordering.TheVariants.{Less, Equal, Greater}
use Rattle.std.proofs.lemmas.List.Elements.{All-contains, All-contains_itself}
use Rattle.algebra.specs.OrderedRing.{OrderedRing}
use Rattle.plane.specs.declared.point.Point.{Point}
use Rattle.algebra.proofs.Solvers.{reads, sign_from, known, no_sign, positive, negative, at_zero, given, sum, product, negated, unknown, variable}
use Rattle.plane.specs.Lines.{IsAbove}
use Rattle.half_planes.specs.HalfPlanes.{HalfPlanesMeet}
use Rattle.half_planes.specs.Bounds.{Place, IsPlace, Holds, gap}
use Rattle.half_planes.specs.declared.bound.Bound.{Bound}
use Rattle.half_planes.specs.Elimination.{level, under, Clears, IsShadow}
use Rattle.plane.specs.declared.point.Line.{Line}
use Rattle.half_planes.proofs.Tightest.{Common, common}

module _ {A : Type 0} (K : OrderedRing A) where
  -- the x of a point
  abbrev pub below : Point A → Place A
  below p = record { x = p.x; weight = p.w }

  level_holds : (l : Line A) (p : Point A) → K.sign l.b ≡ Equal → IsAbove K l p → Holds K (level l) (below p)
  level_holds l p flat inside =
      sign_from K (l.a ∷ l.b ∷ l.c ∷ p.x ∷ p.y ∷ p.w ∷ [])
      (known positive (search reads depth 40 fits 50000) inside (known at_zero (search reads depth 20) flat no_sign))
      positive (search reads depth 40 fits 50000) (sum (given 0) (negated (product (given 1) (unknown (variable 4))))) tt tt

  under_holds : (l u : Line A) (p : Point A) → K.sign l.b ≡ Greater → K.sign u.b ≡ Less → IsAbove K l p → IsAbove K u p → Holds K (under K.ops l u) (below p)
  under_holds l u p hl hu inside_l inside_u =
      sign_from K (l.a ∷ l.b ∷ l.c ∷ u.a ∷ u.b ∷ u.c ∷ p.x ∷ p.y ∷ p.w ∷ [])
      (known positive (search reads depth 20) hl (known negative (search reads depth 20) hu
      (known positive (search reads depth 40 fits 50000) inside_l (known positive (search reads depth 40 fits 50000) inside_u no_sign))))
      positive (search reads depth 40 fits 50000) (sum (product (given 0) (given 3)) (product (negated (given 1)) (given 2))) tt tt

  pub shadow_of_point : (lines : List (Line A)) (p : Point A) → All (λ l. IsAbove K l p) lines → IsShadow K lines (below p)
  shadow_of_point lines p inside k d within = record {
    alone = λ flat. level_holds _ p flat (inside k d within);
    with_each = λ hl j e j_within hu. under_holds _ _ p hl hu (inside k d within) (inside j e j_within);
  }

  module _ (lines : List (Line A)) (p : Place A) (h : IsPlace K p) (shadow : IsShadow K lines p) where
    -- what a line asks of y over the place
    abbrev over : Line A → Bound A
    over l = record { slope = l.b; offset = K.add (K.mul l.a p.x) (K.mul l.c p.weight) }

    clears : (l : Line A) → Contains lines l → Clears K lines l p
    clears l there = All-contains (λ l. Clears K lines l p) lines l shadow there

    over_apart : (l u : Line A) → Contains lines l → Contains lines u → K.sign l.b ≡ Greater → K.sign u.b ≡ Less → K.sign (gap K.ops (over l) (over u)) ≡ Greater
    over_apart l u hl hu lower upper =
        let holds : Holds K (under K.ops l u) p = All-contains (λ u. K.sign u.b ≡ Less → Holds K (under K.ops l u) p) lines u ((clears l hl).with_each lower) hu upper in
        sign_from K (l.a ∷ l.b ∷ l.c ∷ u.a ∷ u.b ∷ u.c ∷ p.x ∷ p.weight ∷ []) (known positive (search reads depth 40 fits 50000) holds no_sign)
        positive (search reads depth 40 fits 50000) (given 0) tt tt

    at : Common K over (Contains lines) lines
    at = common K over (Contains lines) lines (All-contains_itself lines) (λ l there flat. (clears l there).alone flat) over_apart

    lies_in : (l : Line A) (q : Place A) → Holds K (over l) q → IsAbove K l (record { x = K.mul p.x q.weight; y = q.x; w = K.mul p.weight q.weight })
    lies_in l q holds =
        sign_from K (l.a ∷ l.b ∷ l.c ∷ p.x ∷ p.weight ∷ q.x ∷ q.weight ∷ []) (known positive (search reads depth 40 fits 50000) holds no_sign)
        positive (search reads depth 40 fits 50000) (given 0) tt tt

    weighted : (q : Place A) → IsPlace K q → K.sign (K.mul p.weight q.weight) ≡ Greater
    weighted q hq =
        sign_from K (p.weight ∷ q.weight ∷ []) (known positive (search reads depth 20) h (known positive (search reads depth 20) hq no_sign))
        positive (search reads depth 20) (product (given 0) (given 1)) tt tt

    pub point_over_shadow : HalfPlanesMeet K lines
    point_over_shadow = (
      record { x = K.mul p.x at.place.weight; y = at.place.x; w = K.mul p.weight at.place.weight },
      weighted at.place at.is_place,
      λ l there. lies_in l at.place (All-contains (λ m. Holds K (over m) at.place) lines l at.all_hold there),
    )
