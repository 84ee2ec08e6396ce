-- A triangle is a connected plane drawing.
use Prim.Native.Nat.{ℕ, zero, suc, ◌<◌}
use mathlib.Core.Path.{◌≡◌, refl, sym, subst, ◌∙◌}
use mathlib.Core.List.{[], ◌∷◌}
use mathlib.Core.Logic.{◌⊎◌, inl, inr}
use lib.IntN.{ℤ, pos}
use Rattle.std.proofs.Common.{arith}
use Rattle.std.specs.Prelude.{AllPairs, Contains, IsTrue}
use Rattle.std.specs.Ordering.{is_ge}
use Rattle.std.specs.declared.cmp.Ordering.{Ordering}
use Rattle.std.specs.declared.cmp.Ordering.TheVariants.{Less, Equal, Greater}
use Rattle.algebra.specs.OrderedRing.{OrderedRing}
use Rattle.algebra.proofs.Integers.{integers}
use Rattle.algebra.proofs.Solvers.{reads, sign_from, known, no_sign, given, sum, product, at_zero, any_sign}
use Rattle.plane.specs.declared.point.Point.{Point}
use Rattle.plane.specs.declared.point.Line.{Line}
use Rattle.plane.specs.Points.{IsPoint, IsSamePoint}
use Rattle.plane.specs.Lines.{value, determinant, line}
use Rattle.plane.specs.Segments.{IsOn, MeetInEnds}
use Rattle.plane.proofs.Lines.{from_x, from_x_itself, from_y, from_y_itself, same_by_lines, same_turned, signs_of_same, at_first, at_second}
use Rattle.plane.proofs.Members.{in_cons, in_head, in_tail, in_nil}
use Rattle.plane.proofs.OnSegments.{on_turned, sign_on}
use Rattle.scaled_plane.specs.declared.drawing.Edge.{Edge}
use Rattle.scaled_plane.specs.Lists.{begun, gone_on}
use Rattle.scaled_plane.specs.WellSet.{HasEnd}
use Rattle.regions.specs.Faces.{IsPlane, IsConnected, place}
use Rattle.regions.specs.Triangle.{corner, corners, side_of, sides}
use Rattle.regions.proofs.InnerPoints.{far_zero}

module _ {A : Type 0} (K : OrderedRing A) where
  zero_or_greater : (s : Ordering) → IsTrue (is_ge s) → (s ≡ Equal) ⊎ (s ≡ Greater)
  zero_or_greater Less h = absurd (cc)
  zero_or_greater Equal h = inl refl
  zero_or_greater Greater h = inr refl

  zero_there : (L : Line A) {v b x : Point A} (on : IsOn K v b x) → K.sign (value K.ops L v) ≡ Equal → K.sign on.to_share ≡ Equal → K.sign (value K.ops L x) ≡ Equal
  zero_there L {v} {b} on hv hf =
      sym (sign_on K L on)
      ∙ sign_from K (on.from_share ∷ on.to_share ∷ value K.ops L v ∷ value K.ops L b ∷ []) (known at_zero (search reads depth 40 fits 50000) hv (known at_zero (search reads depth 40 fits 50000) hf (known any_sign {a = on.from_share} (search reads depth 40 fits 50000) tt (known any_sign {a = value K.ops L b} (search reads depth 40 fits 50000) tt no_sign))))
      at_zero (search reads depth 40 fits 50000) (sum (product (given 2) (given 0)) (product (given 1) (given 3))) tt tt

  -- a point of two segments from v that aren't in line is v
  only_there : (v a b x : Point A) → ¬ (K.sign (determinant K.ops v a b) ≡ Equal) → IsOn K v a x → IsOn K v b x → IsSamePoint K x v
  only_there v a b x apart on_a on_b = same_turned K (elim (zero_or_greater (K.sign on_b.to_share) on_b.to_not_negative) [
    | inl z ↦ same_by_lines K (zero_there (from_x K v) on_b (from_x_itself K v) z, zero_there (from_y K v) on_b (from_y_itself K v) z)
    | inr g ↦ absurd (apart (far_zero K on_b.from_share on_b.to_share (determinant K.ops v a v) (determinant K.ops v a b) g (at_first K v a) (sign_on K (line K.ops v a) on_b ∙ in_line)))
  ])
    where
      in_line : K.sign (determinant K.ops v a x) ≡ Equal
      in_line =
          sym (sign_on K (line K.ops v a) on_a)
          ∙ sign_from K (on_a.from_share ∷ on_a.to_share ∷ determinant K.ops v a v ∷ determinant K.ops v a a ∷ [])
          (known at_zero (search reads depth 40 fits 50000) (at_first K v a) (known at_zero (search reads depth 40 fits 50000) (at_second K v a) (known any_sign {a = on_a.from_share} (search reads depth 40 fits 50000) tt (known any_sign {a = on_a.to_share} (search reads depth 40 fits 50000) tt no_sign))))
          at_zero (search reads depth 40 fits 50000) (sum (product (given 2) (given 0)) (product (given 3) (given 1))) tt tt

  module _ (v a b : Point A) (apart : ¬ (K.sign (determinant K.ops v a b) ≡ Equal)) where
    to_from : MeetInEnds K a v v b
    to_from x hx on_a on_b = let s : IsSamePoint K x v = only_there v a b x apart (on_turned K on_a) on_b in (inr s, inl s)

    from_to : MeetInEnds K v a b v
    from_to x hx on_a on_b = let s : IsSamePoint K x v = only_there v a b x apart on_a (on_turned K on_b) in (inl s, inr s)

three_pairs : {X : Type 0} (R : X → X → Type 0) (a b c : X) → R a b → R a c → R b c → AllPairs R (a ∷ b ∷ c ∷ [])
three_pairs R a b c ab ac bc zero zero d l within = absurd (omega (arith, l))
three_pairs R a b c ab ac bc zero (suc zero) d l within = ab
three_pairs R a b c ab ac bc zero (suc (suc zero)) d l within = ac
three_pairs R a b c ab ac bc zero (suc (suc (suc j))) d l within = absurd (omega (arith, within))
three_pairs R a b c ab ac bc (suc zero) zero d l within = absurd (omega (arith, l))
three_pairs R a b c ab ac bc (suc zero) (suc zero) d l within = absurd (omega (arith, l))
three_pairs R a b c ab ac bc (suc zero) (suc (suc zero)) d l within = bc
three_pairs R a b c ab ac bc (suc zero) (suc (suc (suc j))) d l within = absurd (omega (arith, within))
three_pairs R a b c ab ac bc (suc (suc i)) zero d l within = absurd (omega (arith, l))
three_pairs R a b c ab ac bc (suc (suc i)) (suc zero) d l within = absurd (omega (arith, l))
three_pairs R a b c ab ac bc (suc (suc i)) (suc (suc zero)) d l within = absurd (omega (arith, l))
three_pairs R a b c ab ac bc (suc (suc i)) (suc (suc (suc j))) d l within = absurd (omega (arith, within))

each_of_three : {X : Type 0} (P : X → Type 0) (a b c : X) → P a → P b → P c → (x : X) → Contains (a ∷ b ∷ c ∷ []) x → P x
each_of_three P a b c pa pb pc x i = elim (in_cons a (b ∷ c ∷ []) x i) [
  | inl e ↦ subst P e pa
  | inr j ↦ elim (in_cons b (c ∷ []) x j) [
    | inl e ↦ subst P e pb
    | inr k ↦ elim (in_cons c [] x k) [ inl e ↦ subst P e pc | inr m ↦ absurd (in_nil x m) ]
  ]
]

differs : {s : Ordering} → s ≡ Greater → ¬ (s ≡ Equal)
differs h e = absurd (cc)

below_differs : {s : Ordering} → s ≡ Less → ¬ (s ≡ Equal)
below_differs h e = absurd (cc)

abbrev first : Point ℤ
first = corner (pos 0) (pos 0)

abbrev second : Point ℤ
second = corner (pos 1) (pos 0)

abbrev third : Point ℤ
third = corner (pos 0) (pos 1)

in_second : {X : Type 0} (a b c : X) → Contains (a ∷ b ∷ c ∷ []) b
in_second a b c = in_tail a (b ∷ c ∷ []) b (in_head b (c ∷ []))

in_third : {X : Type 0} (a b c : X) → Contains (a ∷ b ∷ c ∷ []) c
in_third a b c = in_tail a (b ∷ c ∷ []) c (in_tail b (c ∷ []) c (in_head c []))

used : (v : ℕ) → v < 3 → (e : Edge) × Contains sides e × HasEnd e v
used zero l = (side_of 0 1, in_head (side_of 0 1) (side_of 1 2 ∷ side_of 2 0 ∷ []), inl refl)
used (suc zero) l = (side_of 1 2, in_second (side_of 0 1) (side_of 1 2) (side_of 2 0), inl refl)
used (suc (suc zero)) l = (side_of 2 0, in_third (side_of 0 1) (side_of 1 2) (side_of 2 0), inl refl)
used (suc (suc (suc v))) l = absurd (omega (arith, l))

abbrev IsSet : Edge → Type 0
IsSet e = (e.from < 3) × (e.to < 3) × ¬ (e.from ≡ e.to)

pub triangle_plane : IsPlane integers corners sides
triangle_plane = record {
  points = each_of_three (IsPoint integers) first second third refl refl refl;
  different = three_pairs (λ p q. ¬ IsSamePoint integers p q) first second third
      (λ s. differs refl (signs_of_same integers s).0) (λ s. differs refl (signs_of_same integers s).1) (λ s. below_differs refl (signs_of_same integers s).0);
  ends = each_of_three IsSet (side_of 0 1) (side_of 1 2) (side_of 2 0)
      (omega arith, omega arith, λ e. omega (arith, e)) (omega arith, omega arith, λ e. omega (arith, e)) (omega arith, omega arith, λ e. omega (arith, e));
  apart = three_pairs (λ e f. MeetInEnds integers (place integers corners sides e.from) (place integers corners sides e.to) (place integers corners sides f.from) (place integers corners sides f.to)) (side_of 0 1) (side_of 1 2) (side_of 2 0)
      (to_from integers second first third (below_differs refl)) (from_to integers first second third (differs refl)) (to_from integers third second first (below_differs refl));
  used = used;
}

pub triangle_connected : IsConnected integers corners sides
triangle_connected zero l = begun
triangle_connected (suc zero) l = gone_on 0 begun (side_of 0 1, in_head (side_of 0 1) (side_of 1 2 ∷ side_of 2 0 ∷ []), inl (refl, refl))
triangle_connected (suc (suc zero)) l = gone_on 0 begun (side_of 2 0, in_third (side_of 0 1) (side_of 1 2) (side_of 2 0), inr (refl, refl))
triangle_connected (suc (suc (suc v))) l = absurd (omega (arith, l))
