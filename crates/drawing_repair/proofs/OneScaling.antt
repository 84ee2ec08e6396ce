-- Coordinates are scaled in one way, or are too wide at one vertex, and not both.
use Rattle.std.proofs.Common.{◌≡◌, ◌⊎◌, ◌∙◌, ◌<◌, ◌≤◌, ◌^◌, ap, arith, inl, inr, refl, subst, sym}
use Prim.Native.Nat.{ℕ, zero, suc, ◌%◌, ◌/◌, ◌*◌}
use Rattle.std.proofs.Math.Nat.{le_of_dvd, mod-lt}
use Rattle.std.proofs.lemmas.Int.{ints}
use Rattle.std.proofs.lemmas.Nat.Gcd.{IsGcd-from_mod, IsGcd-from_zero}
use Rattle.std.specs.Int.{IsGcd}
use Rattle.std.specs.List.{AllZip}
use Rattle.std.specs.Prelude.{ℤ, pos, ◌<ℤ◌, List, [], ◌∷◌, Contains, length, slice_index_or, take, unsigned_abs}
use Rattle.algebra.specs.LowestTerms.{Parts}
use Rattle.algebra.specs.NumberField.{HoldsNumbers}
use Rattle.algebra.specs.Surd.{Surd}
use Rattle.algebra.specs.SurdSize.{larger_part}
use Rattle.algebra.specs.WholeSurds.{HoldsSurds, SurdNumbers}
use Rattle.plane.specs.declared.point.Point.{Point}
use Rattle.plane.proofs.Lines.{same_vector}
use Rattle.plane.proofs.Members.{in_cons, in_head, in_nil, in_tail}
use Rattle.scaled_plane.specs.declared.point.Pair.{Pair}
use Rattle.scaled_plane.specs.declared.point.Scaled.{Scaled}
use Rattle.scaled_plane.specs.Multiples.{IsLeastMultiple}
use Rattle.scaled_plane.specs.Scaling.{DividesMultiples, IsFirstOf, IsScaledOf, IsScaledWith, IsTooWide}
use Rattle.scaled_plane.proofs.Denominators.{divides_none, divides_pair, divides_taken, not_passing}
use Rattle.scaled_plane.proofs.Multiples.{least_multiple, multiple_of_first, multiple_of_second, multiple_positive}
use Rattle.scaled_plane.proofs.Widths.{one_denominator}
use Rattle.arrangement.proofs.Zipped.{in_of_place, of_first}

-- ---- the first of numbers is one

less_same_or_more : (u v : ℕ) → (u < v) ⊎ ((u ≡ v) ⊎ (v < u))
less_same_or_more zero zero = inr (inl refl)
less_same_or_more zero (suc v) = inl (omega arith)
less_same_or_more (suc u) zero = inr (inr (omega arith))
less_same_or_more (suc u) (suc v) =
    elim (less_same_or_more u v) [ inl h ↦ inl (omega (arith, h)) | inr other ↦ elim other [ inl e ↦ inr (inl (ap suc e)) | inr h ↦ inr (inr (omega (arith, h))) ] ]

pub one_first : (P Q : ℕ → Type 0) → ((v : ℕ) → P v → Q v) → ((v : ℕ) → Q v → P v) → (u v : ℕ) → IsFirstOf P u → IsFirstOf Q v → u ≡ v
one_first P Q to from u v h k =
    elim (less_same_or_more u v) [
      | inl less ↦ absurd (k.1 u less (to u h.0))
      | inr other ↦ elim other [ inl e ↦ e | inr more ↦ absurd (h.1 v more (from v k.0)) ]
    ]

from_taken : {X : Type 0} (n : ℕ) (xs : List X) (y : X) → Contains (take n xs) y → Contains xs y
from_taken zero xs y c = absurd (in_nil y c)
from_taken (suc n) [] y c = c
from_taken (suc n) (x ∷ xs) y c = elim (in_cons x (take n xs) y c) [
  | inl e ↦ subst (Contains (x ∷ xs)) e (in_head x xs)
  | inr d ↦ in_tail x xs y (from_taken n xs y d)
]

-- ---- least common multiples exist

some_gcd : (fuel a b : ℕ) → b < fuel → (g : ℕ) × IsGcd a b g
some_gcd zero a b h = absurd (omega (arith, h))
some_gcd (suc fuel) a zero h = (a, IsGcd-from_zero a zero refl)
some_gcd (suc fuel) a (suc b) h =
    let below : a % suc b < suc b = mod-lt a (omega arith) in
    let next = some_gcd fuel (suc b) (a % suc b) (omega (arith, h, below)) in (next.0, IsGcd-from_mod a (suc b) next.0 next.1)

some_multiple : (a b : ℕ) → 0 < a → 0 < b → (m : ℕ) × IsLeastMultiple a b m
some_multiple a b ha hb =
    let g = some_gcd (suc b) a b (omega arith) in (
      a / g.0 * b,
      record {
        positive = multiple_positive a b g.0 ha hb g.1;
        of_first = multiple_of_first a b g.0 g.1;
        of_second = multiple_of_second a b g.0;
        least = λ n. least_multiple a b g.0 n ha g.1;
      },
    )

above_zero : (z : ℤ) → pos 0 <ℤ z → 0 < unsigned_abs z
above_zero z h = omega (arith, ints, h)

module _ {N : Type 0} {j : ℕ} (parts : N → Parts) (holds : HoldsNumbers j parts) (coords : List (Pair N)) where
  divisor : (x : N) → 0 < unsigned_abs (parts x).q
  divisor x = above_zero (parts x).q (holds.is_number x).lowest.positive

  -- the coordinates of the first vertices have a common denominator
  some_denominator : (v : ℕ) → v ≤ length coords → (m : ℕ) × DividesMultiples parts (take v coords) m
  some_denominator zero h = (1, divides_none parts)
  some_denominator (suc v) h =
      let before = some_denominator v (omega (arith, h)) in
      let there = in_range_is coords v (omega (arith, h)) in
      let c = there.0 in
      let first = some_multiple before.0 (unsigned_abs (parts c.x).q) before.1.positive (divisor c.x) in
      let second = some_multiple first.0 (unsigned_abs (parts c.y).q) first.1.positive (divisor c.y) in
      (second.0, divides_taken parts coords v c before.0 second.0 (omega (arith, h)) there.1 before.1 (divides_pair parts before.0 first.0 second.0 c first.1 second.1))
    where
      in_range_is : {X : Type 0} (xs : List X) (v : ℕ) → v < length xs → (x : X) × (x ≡ slice_index_or xs v x)
      in_range_is [] v h = absurd (omega (arith, h))
      in_range_is (x ∷ xs) zero h = (x, refl)
      in_range_is (x ∷ xs) (suc v) h = in_range_is xs v (omega (arith, h))

-- ---- scaled points

module _ {N W : Type 0} {k : ℕ} {surd : W → Surd ℤ} (parts : N → Parts) (numbers : SurdNumbers k surd) where
  same_points : HoldsSurds k surd → (m : ℤ) (coords : List (Pair N)) (ps qs : List (Point W)) → AllZip (IsScaledWith parts numbers m) coords ps → AllZip (IsScaledWith parts numbers m) coords qs → ps ≡ qs
  same_points holds m [] [] [] h j = refl
  same_points holds m [] [] (q ∷ qs) h j = absurd j
  same_points holds m [] (p ∷ ps) qs h j = absurd h
  same_points holds m (c ∷ coords) [] qs h j = absurd h
  same_points holds m (c ∷ coords) (p ∷ ps) [] h j = absurd j
  same_points holds m (c ∷ coords) (p ∷ ps) (q ∷ qs) h j =
      let first : p ≡ q = same_vector (holds.once p.x q.x (h.0.x ∙ sym j.0.x)) (holds.once p.y q.y (h.0.y ∙ sym j.0.y)) (h.0.w ∙ sym j.0.w) in
      let rest : ps ≡ qs = same_points holds m coords ps qs h.1 j.1 in cc

  pub one_scaling : HoldsSurds k surd → (coords : List (Pair N)) (s t : Scaled W) → IsScaledOf parts numbers coords s → IsScaledOf parts numbers coords t → s ≡ t
  one_scaling holds coords s t h j =
      let e : h.m ≡ j.m = one_denominator parts coords h.m j.m h.denominator j.denominator in
      let common : s.common ≡ t.common = h.is ∙ ap pos e ∙ sym j.is in
      let points : s.points ≡ t.points
      = same_points holds (pos h.m) coords s.points t.points h.points (subst (λ (n : ℕ). AllZip (IsScaledWith parts numbers (pos n)) coords t.points) (sym e) j.points) in
      λ i. record { common = common i; points = points i }

  -- what is scaled isn't too wide
  pub not_too_wide : {j : ℕ} → HoldsNumbers j parts → (coords : List (Pair N)) (s : Scaled W) → IsScaledOf parts numbers coords s → (v : ℕ) → ¬ IsTooWide parts coords v
  not_too_wide holds coords s of v (inl first) = not_passing parts coords v some.0 some.1 small first.0
    where
      some : (m : ℕ) × DividesMultiples parts (take (suc v) coords) m
      some = some_denominator parts holds coords (suc v) (let less = first.0.0 in omega (arith, less))

      small : some.0 ≤ 2 ^ 24
      small =
          let le : some.0 ≤ of.m
          = le_of_dvd of.denominator.positive (some.1.least of.m (λ c there. of.denominator.multiple c (from_taken (suc v) coords c there))) in
          let within = of.within in omega (arith, le, within)
  not_too_wide holds coords s of v (inr h) =
      let wide = h.1.0 of.m of.denominator in
      let point = of_first (IsScaledWith parts numbers (pos of.m)) coords s.points of.points wide.0 (in_of_place coords v wide.0 wide.1) in
      let p = point.0 in
      let is = point.2 in
      elim wide.2 [
        | inl large ↦ let le = subst (λ (z : Surd ℤ). larger_part z ≤ 2 ^ 22) is.x is.x_within in omega (arith, le, large)
        | inr large ↦ let le = subst (λ (z : Surd ℤ). larger_part z ≤ 2 ^ 22) is.y is.y_within in omega (arith, le, large)
      ]
