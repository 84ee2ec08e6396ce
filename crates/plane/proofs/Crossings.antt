-- Two closed segments share a point exactly where the ends of each lie not strictly on one side of the other's line, if the
-- second's ends don't both lie on the first's line; and then the point is the crossing of the lines, and no other.
use mathlib.Core.Path.{◌≡◌, refl, sym, ap, subst, ◌∙◌}
use mathlib.Core.List.{[], ◌∷◌}
use lib.IntN.{pos, negsuc}
use Rattle.std.specs.Prelude.{IsTrue, ◌↔◌}
use Rattle.std.specs.Ordering.{is_ge, is_le, ordering_reverse, match_ordering}
use Rattle.std.specs.declared.cmp.Ordering.{Ordering}
use Rattle.std.specs.declared.cmp.Ordering.TheVariants.{Less, Equal, Greater}
use Rattle.algebra.specs.OrderedRing.{OrderedRing}
use Rattle.algebra.proofs.Solvers.{reads, ring, ring_from, multiple, no_equation, sign_from, known, no_sign, positive, negative, at_zero, given, sum, product, negated, sign_neg}
use Rattle.plane.specs.declared.point.Point.{Point}
use Rattle.plane.specs.declared.point.Line.{Line}
use Rattle.plane.specs.Points.{IsPoint, IsSamePoint, combination, opposite_vector}
use Rattle.plane.specs.Lines.{AreApart, side, line, meeting, determinant, as_point, crossing}
use Rattle.plane.specs.Directions.{direction, turn, AreParallel}
use Rattle.plane.specs.Segments.{IsOn, IsOnBoth, SegmentsMeet}
use Rattle.plane.proofs.Lines.{determinant_turned, swapped}
use Rattle.plane.proofs.Shares.{multiples_positive, combination_point, side_of_on, combination_on, sum_of_shares}
use Rattle.plane.proofs.OnSegments.{on_turned, sign_on}
use Rattle.plane.proofs.Signs.{greater_not_zero}

module _ {A : Type 0} (K : OrderedRing A) where
  -- ---- common points lie so

  apart_by : (s t c d : A) (o p : Ordering) → K.sign c ≡ o → K.sign d ≡ p → IsTrue (is_ge (K.sign s)) → IsTrue (is_ge (K.sign t)) → K.sign (K.add s t) ≡ Greater
      → K.sign (K.add (K.mul s c) (K.mul t d)) ≡ Equal → AreApart o p
  apart_by s t c d Less Less hc hd hs ht h e =
      let below : K.sign (K.add (K.mul s (K.neg c)) (K.mul t (K.neg d))) ≡ Greater
      = multiples_positive K s t (K.neg c) (K.neg d) (sign_neg K c ∙ ap ordering_reverse hc) (sign_neg K d ∙ ap ordering_reverse hd) hs ht h in
      let opposite : K.sign (K.add (K.mul s (K.neg c)) (K.mul t (K.neg d))) ≡ Equal
      = sign_from K (s ∷ t ∷ c ∷ d ∷ []) (known at_zero (search reads depth 40 fits 50000) e no_sign) at_zero (search reads depth 40 fits 50000) (negated (given 0)) tt tt in
      absurd (greater_not_zero below opposite)
  apart_by s t c d Less Equal hc hd hs ht h e = refl
  apart_by s t c d Less Greater hc hd hs ht h e = refl
  apart_by s t c d Equal p hc hd hs ht h e = refl
  apart_by s t c d Greater Less hc hd hs ht h e = refl
  apart_by s t c d Greater Equal hc hd hs ht h e = refl
  apart_by s t c d Greater Greater hc hd hs ht h e =
      absurd (greater_not_zero (multiples_positive K s t c d hc hd hs ht h) e)

  -- where a point of the segment cd lies on the line ab, the points c and d aren't strictly on one side of it
  pub apart_of_on : (a b c d p : Point A) → IsPoint K c → IsPoint K d → IsPoint K p → side K a b p ≡ Equal → IsOn K c d p
      → AreApart (side K a b c) (side K a b d)
  apart_of_on a b c d p hc hd hp e h =
      apart_by h.from_share h.to_share (determinant K.ops a b c) (determinant K.ops a b d) (side K a b c) (side K a b d) refl refl h.from_not_negative h.to_not_negative (sum_of_shares K hp h)
      (sign_on K (line K.ops a b) h ∙ e)

  -- ---- the crossing

  -- the crossing of the lines ab and cd as a sum of multiples of c and d, and of b and a: up to a sign
  abbrev pub crossing_along : Point A → Point A → Point A → Point A → Point A
  crossing_along a b c d = combination K.ops (determinant K.ops a b d) c (K.neg (determinant K.ops a b c)) d

  abbrev pub crossing_across : Point A → Point A → Point A → Point A → Point A
  crossing_across a b c d = combination K.ops (determinant K.ops a c d) b (K.neg (determinant K.ops b c d)) a

  -- four vectors in space: both are one vector
  pub along_across : (a b c d : Point A) → crossing_along a b c d ≡ crossing_across a b c d
  along_across a b c d =
      let xs = a.x ∷ a.y ∷ a.w ∷ b.x ∷ b.y ∷ b.w ∷ c.x ∷ c.y ∷ c.w ∷ d.x ∷ d.y ∷ d.w ∷ [] in
      let in_x : (crossing_along a b c d).x ≡ (crossing_across a b c d).x = ring K xs (search reads depth 40 fits 50000) (search reads depth 40 fits 50000) tt in
      let in_y : (crossing_along a b c d).y ≡ (crossing_across a b c d).y = ring K xs (search reads depth 40 fits 50000) (search reads depth 40 fits 50000) tt in
      let in_w : (crossing_along a b c d).w ≡ (crossing_across a b c d).w = ring K xs (search reads depth 40 fits 50000) (search reads depth 40 fits 50000) tt in
      λ i. record { x = in_x i; y = in_y i; w = in_w i }

  -- its weight is how far the second direction turns from the first
  pub weight_is_turn : (a b c d : Point A) → (crossing_across a b c d).w ≡ turn K.ops (direction K.ops a b) (direction K.ops c d)
  weight_is_turn a b c d =
      ring K (a.x ∷ a.y ∷ a.w ∷ b.x ∷ b.y ∷ b.w ∷ c.x ∷ c.y ∷ c.w ∷ d.x ∷ d.y ∷ d.w ∷ []) (search reads depth 40 fits 50000) (search reads depth 40 fits 50000) tt

  -- a point of both lines is the crossing
  pub only_crossing : (a b c d p : Point A) → side K a b p ≡ Equal → side K c d p ≡ Equal → IsSamePoint K p (crossing_across a b c d)
  only_crossing a b c d p on_first on_second =
      let xs = a.x ∷ a.y ∷ a.w ∷ b.x ∷ b.y ∷ b.w ∷ c.x ∷ c.y ∷ c.w ∷ d.x ∷ d.y ∷ d.w ∷ p.x ∷ p.y ∷ p.w ∷ [] in
      let first : determinant K.ops a b p ≡ K.int (pos 0) = K.sign_zero (determinant K.ops a b p) on_first in
      let second : determinant K.ops c d p ≡ K.int (pos 0) = K.sign_zero (determinant K.ops c d p) on_second in
      record {
        same_x = ring_from K xs
            (multiple (K.sub (K.mul c.w d.x) (K.mul c.x d.w)) (search reads depth 40 fits 50000) (search reads depth 40 fits 50000) (search reads depth 40 fits 50000) first
            (multiple (K.sub (K.mul a.x b.w) (K.mul a.w b.x)) (search reads depth 40 fits 50000) (search reads depth 40 fits 50000) (search reads depth 40 fits 50000) second no_equation)) (search reads depth 40 fits 50000) (search reads depth 40 fits 50000) tt;
        same_y = ring_from K xs
            (multiple (K.sub (K.mul c.w d.y) (K.mul c.y d.w)) (search reads depth 40 fits 50000) (search reads depth 40 fits 50000) (search reads depth 40 fits 50000) first
            (multiple (K.sub (K.mul a.y b.w) (K.mul a.w b.y)) (search reads depth 40 fits 50000) (search reads depth 40 fits 50000) (search reads depth 40 fits 50000) second no_equation)) (search reads depth 40 fits 50000) (search reads depth 40 fits 50000) tt;
      }

  -- a vector with a weight above zero that is a sum of multiples of b and a, by e and less f, lies between a and b, where e and
  -- f are apart
  across_by : (a b : Point A) (e f : A) (o p : Ordering) → K.sign e ≡ o → K.sign f ≡ p → IsPoint K a → IsPoint K b → AreApart o p
      → K.sign (K.add (K.mul e b.w) (K.mul (K.neg f) a.w)) ≡ Greater
      → IsTrue (is_ge o) × IsTrue (is_ge (ordering_reverse p)) × (K.sign (K.add e (K.neg f)) ≡ Greater)
  across_by a b e f Less Less he hf ha hb h w = absurd (cc)
  across_by a b e f Less Equal he hf ha hb h w =
      let below = sign_from K (a.w ∷ b.w ∷ e ∷ f ∷ []) (known positive (search reads depth 40 fits 50000) ha (known positive (search reads depth 40 fits 50000) hb (known negative (search reads depth 40 fits 50000) he (known at_zero (search reads depth 40 fits 50000) hf no_sign))))
      negative {a = K.add (K.mul e b.w) (K.mul (K.neg f) a.w)} (search reads depth 40 fits 50000) (sum (product (given 2) (given 1)) (product (negated (given 3)) (given 0))) tt tt in absurd (cc)
  across_by a b e f Less Greater he hf ha hb h w =
      let below = sign_from K (a.w ∷ b.w ∷ e ∷ f ∷ []) (known positive (search reads depth 40 fits 50000) ha (known positive (search reads depth 40 fits 50000) hb (known negative (search reads depth 40 fits 50000) he (known positive (search reads depth 40 fits 50000) hf no_sign))))
      negative {a = K.add (K.mul e b.w) (K.mul (K.neg f) a.w)} (search reads depth 40 fits 50000) (sum (product (given 2) (given 1)) (product (negated (given 3)) (given 0))) tt tt in absurd (cc)
  across_by a b e f Equal Less he hf ha hb h w =
      (refl, refl, sign_from K (e ∷ f ∷ []) (known at_zero (search reads depth 40 fits 50000) he (known negative (search reads depth 40 fits 50000) hf no_sign)) positive (search reads depth 40 fits 50000) (sum (given 0) (negated (given 1))) tt tt)
  across_by a b e f Equal Equal he hf ha hb h w =
      let zero = sign_from K (a.w ∷ b.w ∷ e ∷ f ∷ []) (known positive (search reads depth 40 fits 50000) ha (known positive (search reads depth 40 fits 50000) hb (known at_zero (search reads depth 40 fits 50000) he (known at_zero (search reads depth 40 fits 50000) hf no_sign))))
      at_zero {a = K.add (K.mul e b.w) (K.mul (K.neg f) a.w)} (search reads depth 40 fits 50000) (sum (product (given 2) (given 1)) (product (negated (given 3)) (given 0))) tt tt in absurd (cc)
  across_by a b e f Equal Greater he hf ha hb h w =
      let below = sign_from K (a.w ∷ b.w ∷ e ∷ f ∷ []) (known positive (search reads depth 40 fits 50000) ha (known positive (search reads depth 40 fits 50000) hb (known at_zero (search reads depth 40 fits 50000) he (known positive (search reads depth 40 fits 50000) hf no_sign))))
      negative {a = K.add (K.mul e b.w) (K.mul (K.neg f) a.w)} (search reads depth 40 fits 50000) (sum (product (given 2) (given 1)) (product (negated (given 3)) (given 0))) tt tt in absurd (cc)
  across_by a b e f Greater Less he hf ha hb h w =
      (refl, refl, sign_from K (e ∷ f ∷ []) (known positive (search reads depth 40 fits 50000) he (known negative (search reads depth 40 fits 50000) hf no_sign)) positive (search reads depth 40 fits 50000) (sum (given 0) (negated (given 1))) tt tt)
  across_by a b e f Greater Equal he hf ha hb h w =
      (refl, refl, sign_from K (e ∷ f ∷ []) (known positive (search reads depth 40 fits 50000) he (known at_zero (search reads depth 40 fits 50000) hf no_sign)) positive (search reads depth 40 fits 50000) (sum (given 0) (negated (given 1))) tt tt)
  across_by a b e f Greater Greater he hf ha hb h w = absurd (cc)

  below_above : (c d : A) (o p : Ordering) → K.sign c ≡ o → K.sign d ≡ p → IsTrue (is_le o) → IsTrue (is_ge p) → ¬ ((o ≡ Equal) × (p ≡ Equal))
      → IsTrue (is_ge (ordering_reverse o)) × (K.sign (K.add d (K.neg c)) ≡ Greater)
  below_above c d Less Less hc hd h k n = absurd (cc)
  below_above c d Less Equal hc hd h k n =
      (refl, sign_from K (c ∷ d ∷ []) (known negative (search reads depth 40 fits 50000) hc (known at_zero (search reads depth 40 fits 50000) hd no_sign)) positive (search reads depth 40 fits 50000) (sum (given 1) (negated (given 0))) tt tt)
  below_above c d Less Greater hc hd h k n =
      (refl, sign_from K (c ∷ d ∷ []) (known negative (search reads depth 40 fits 50000) hc (known positive (search reads depth 40 fits 50000) hd no_sign)) positive (search reads depth 40 fits 50000) (sum (given 1) (negated (given 0))) tt tt)
  below_above c d Equal Less hc hd h k n = absurd (cc)
  below_above c d Equal Equal hc hd h k n = absurd (n (refl, refl))
  below_above c d Equal Greater hc hd h k n =
      (refl, sign_from K (c ∷ d ∷ []) (known at_zero (search reads depth 40 fits 50000) hc (known positive (search reads depth 40 fits 50000) hd no_sign)) positive (search reads depth 40 fits 50000) (sum (given 1) (negated (given 0))) tt tt)
  below_above c d Greater p hc hd h k n = absurd (cc)

  -- where c lies right of the line ab or on it, and d left of it or on it, not both on it, and a and b are apart from the line
  -- cd, the crossing is a point of both segments
  pub crossing_on_both : (a b c d : Point A) → IsPoint K a → IsPoint K b → IsPoint K c → IsPoint K d
      → IsTrue (is_le (side K a b c)) → IsTrue (is_ge (side K a b d)) → ¬ ((side K a b c ≡ Equal) × (side K a b d ≡ Equal))
      → AreApart (side K c d a) (side K c d b)
      → IsPoint K (crossing_across a b c d) × IsOn K a b (crossing_across a b c d) × IsOn K c d (crossing_across a b c d)
  crossing_on_both a b c d ha hb hc hd c_right d_left not_both apart =
      let C = determinant K.ops a b c in
      let D = determinant K.ops a b d in
      let e = determinant K.ops a c d in
      let f = determinant K.ops b c d in
      let signs = below_above C D (K.sign C) (K.sign D) refl refl c_right d_left not_both in
      let c_from_zero : IsTrue (is_ge (K.sign (K.neg C))) = subst (λ (o : Ordering). IsTrue (is_ge o)) (sym (sign_neg K C)) signs.0 in
      let along : IsOn K c d (crossing_along a b c d) = combination_on K c d D (K.neg C) d_left c_from_zero in
      let point : IsPoint K (crossing_across a b c d)
      = subst (IsPoint K) (along_across a b c d) (combination_point K c d D (K.neg C) hc hd d_left c_from_zero signs.1) in
      let turned : AreApart (K.sign e) (K.sign f)
      = subst (λ (o : Ordering). AreApart o (K.sign f)) (ap K.sign (sym (determinant_turned K a c d)))
      (subst (λ (o : Ordering). AreApart (side K c d a) o) (ap K.sign (sym (determinant_turned K b c d))) apart) in
      let across = across_by a b e f (K.sign e) (K.sign f) refl refl ha hb turned point in
      let f_from_zero : IsTrue (is_ge (K.sign (K.neg f))) = subst (λ (o : Ordering). IsTrue (is_ge o)) (sym (sign_neg K f)) across.1 in (
        point,
        on_turned K (combination_on K b a e (K.neg f) across.0 f_from_zero),
        subst (IsOn K c d) (along_across a b c d) along,
      )

  -- ---- the crossing as a point

  -- the meeting of the two lines is that vector
  pub meeting_is : (a b c d : Point A) → meeting K.ops (line K.ops a b) (line K.ops c d) ≡ crossing_across a b c d
  meeting_is a b c d =
      let xs = a.x ∷ a.y ∷ a.w ∷ b.x ∷ b.y ∷ b.w ∷ c.x ∷ c.y ∷ c.w ∷ d.x ∷ d.y ∷ d.w ∷ [] in
      let in_x : (meeting K.ops (line K.ops a b) (line K.ops c d)).x ≡ (crossing_across a b c d).x = ring K xs (search reads depth 40 fits 50000) (search reads depth 40 fits 50000) tt in
      let in_y : (meeting K.ops (line K.ops a b) (line K.ops c d)).y ≡ (crossing_across a b c d).y = ring K xs (search reads depth 40 fits 50000) (search reads depth 40 fits 50000) tt in
      let in_w : (meeting K.ops (line K.ops a b) (line K.ops c d)).w ≡ (crossing_across a b c d).w = ring K xs (search reads depth 40 fits 50000) (search reads depth 40 fits 50000) tt in
      λ i. record { x = in_x i; y = in_y i; w = in_w i }

  pub crossing_is : (a b c d : Point A) → as_point K (crossing_across a b c d) ≡ crossing K a b c d
  crossing_is a b c d = ap (as_point K) (sym (meeting_is a b c d))

  pub as_point_positive : (p : Point A) → IsPoint K p → as_point K p ≡ p
  as_point_positive p h = rw h refl

  pub as_point_negative : (p : Point A) → K.sign p.w ≡ Less → as_point K p ≡ opposite_vector K.ops p
  as_point_negative p h = rw h refl

  -- the other way round, the crossing is the opposite vector
  pub across_swapped : (a b c d : Point A) → opposite_vector K.ops (crossing_across a b c d) ≡ crossing_across a b d c
  across_swapped a b c d =
      let xs = a.x ∷ a.y ∷ a.w ∷ b.x ∷ b.y ∷ b.w ∷ c.x ∷ c.y ∷ c.w ∷ d.x ∷ d.y ∷ d.w ∷ [] in
      let in_x : (opposite_vector K.ops (crossing_across a b c d)).x ≡ (crossing_across a b d c).x = ring K xs (search reads depth 40 fits 50000) (search reads depth 40 fits 50000) tt in
      let in_y : (opposite_vector K.ops (crossing_across a b c d)).y ≡ (crossing_across a b d c).y = ring K xs (search reads depth 40 fits 50000) (search reads depth 40 fits 50000) tt in
      let in_w : (opposite_vector K.ops (crossing_across a b c d)).w ≡ (crossing_across a b d c).w = ring K xs (search reads depth 40 fits 50000) (search reads depth 40 fits 50000) tt in
      λ i. record { x = in_x i; y = in_y i; w = in_w i }

  apart_reversed : (o p : Ordering) → AreApart o p → AreApart (ordering_reverse o) (ordering_reverse p)
  apart_reversed Less Less h = absurd (cc)
  apart_reversed Less Equal h = refl
  apart_reversed Less Greater h = refl
  apart_reversed Equal p h = refl
  apart_reversed Greater Less h = refl
  apart_reversed Greater Equal h = refl
  apart_reversed Greater Greater h = absurd (cc)

  negative_of_reversed : (o : Ordering) → ordering_reverse o ≡ Greater → o ≡ Less
  negative_of_reversed Less h = refl
  negative_of_reversed Equal h = absurd (cc)
  negative_of_reversed Greater h = absurd (cc)

  module _ (a b c d : Point A) (ha : IsPoint K a) (hb : IsPoint K b) (hc : IsPoint K c) (hd : IsPoint K d) (other : AreApart (side K c d a) (side K c d b)) where
    forward : IsTrue (is_le (side K a b c)) → IsTrue (is_ge (side K a b d)) → ¬ ((side K a b c ≡ Equal) × (side K a b d ≡ Equal)) → IsOnBoth K a b c d (crossing K a b c d)
    forward h k n =
        let both = crossing_on_both a b c d ha hb hc hd h k n other in
        subst (IsOnBoth K a b c d) (sym (as_point_positive (crossing_across a b c d) both.0) ∙ crossing_is a b c d) both

    backward : IsTrue (is_ge (side K a b c)) → IsTrue (is_le (side K a b d)) → ¬ ((side K a b c ≡ Equal) × (side K a b d ≡ Equal)) → IsOnBoth K a b c d (crossing K a b c d)
    backward h k n =
        let turned : AreApart (side K d c a) (side K d c b)
        = subst (λ (o : Ordering). AreApart o (side K d c b)) (sym (swapped K c d a))
        (subst (λ (o : Ordering). AreApart (ordering_reverse (side K c d a)) o) (sym (swapped K c d b)) (apart_reversed (side K c d a) (side K c d b) other)) in
        let both = crossing_on_both a b d c ha hb hd hc k h (λ e. n (e.1, e.0)) turned in
        let forth = crossing_across a b c d in
        let below : K.sign forth.w ≡ Less
        = negative_of_reversed (K.sign forth.w) (sym (sign_neg K forth.w) ∙ ap (λ (p : Point A). K.sign p.w) (across_swapped a b c d) ∙ both.0) in
        let is : crossing_across a b d c ≡ crossing K a b c d = sym (across_swapped a b c d) ∙ sym (as_point_negative forth below) ∙ crossing_is a b c d in
        subst (IsOnBoth K a b c d) is (both.0, both.1, on_turned K both.2)

    meet_by : (o p : Ordering) → side K a b c ≡ o → side K a b d ≡ p → ¬ ((o ≡ Equal) × (p ≡ Equal)) → AreApart o p → IsOnBoth K a b c d (crossing K a b c d)
    meet_by Less Less ho hp n h = absurd (cc)
    meet_by Less Equal ho hp n h = forward (rw ho refl) (rw hp refl) (λ e. absurd (let no : Less ≡ Equal = sym ho ∙ e.0 in cc))
    meet_by Less Greater ho hp n h = forward (rw ho refl) (rw hp refl) (λ e. absurd (let no : Less ≡ Equal = sym ho ∙ e.0 in cc))
    meet_by Equal Less ho hp n h = backward (rw ho refl) (rw hp refl) (λ e. absurd (let no : Less ≡ Equal = sym hp ∙ e.1 in cc))
    meet_by Equal Equal ho hp n h = absurd (n (refl, refl))
    meet_by Equal Greater ho hp n h = forward (rw ho refl) (rw hp refl) (λ e. absurd (let no : Greater ≡ Equal = sym hp ∙ e.1 in cc))
    meet_by Greater Less ho hp n h = backward (rw ho refl) (rw hp refl) (λ e. absurd (let no : Greater ≡ Equal = sym ho ∙ e.0 in cc))
    meet_by Greater Equal ho hp n h = backward (rw ho refl) (rw hp refl) (λ e. absurd (let no : Greater ≡ Equal = sym ho ∙ e.0 in cc))
    meet_by Greater Greater ho hp n h = absurd (cc)

  -- segments whose ends are apart both ways meet in the crossing, unless all four ends lie on one line
  pub meet_in_crossing : (a b c d : Point A) → IsPoint K a → IsPoint K b → IsPoint K c → IsPoint K d
      → ¬ ((side K a b c ≡ Equal) × (side K a b d ≡ Equal)) → AreApart (side K a b c) (side K a b d) → AreApart (side K c d a) (side K c d b)
      → IsOnBoth K a b c d (crossing K a b c d)
  meet_in_crossing a b c d ha hb hc hd n h other = meet_by a b c d ha hb hc hd other (side K a b c) (side K a b d) refl refl n h

  -- Two closed segments share a point exactly where the ends of each are apart from the line of the other.
  pub share_point : (a b c d : Point A) → IsPoint K a → IsPoint K b → IsPoint K c → IsPoint K d
      → ¬ ((side K a b c ≡ Equal) × (side K a b d ≡ Equal))
      → SegmentsMeet K a b c d ↔ (AreApart (side K a b c) (side K a b d) × AreApart (side K c d a) (side K c d b))
  share_point a b c d ha hb hc hd n = (
    λ h. (
      apart_of_on a b c d h.0 hc hd h.1 (side_of_on K h.2) h.3,
      apart_of_on c d a b h.0 ha hb h.1 (side_of_on K h.3) h.2,
    ),
    λ h. let met = meet_in_crossing a b c d ha hb hc hd n h.0 h.1 in (crossing K a b c d, met.0, met.1, met.2),
  )

  -- ---- no other point

  negated_same : (p q : Point A) → IsSamePoint K p q → IsSamePoint K p (opposite_vector K.ops q)
  negated_same p q h = record {
    same_x = ring_from K (p.x ∷ p.w ∷ q.x ∷ q.w ∷ []) (multiple (K.int (negsuc 0)) (search reads depth 40 fits 50000) (search reads depth 40 fits 50000) (search reads depth 40 fits 50000) h.same_x no_equation) (search reads depth 40 fits 50000) (search reads depth 40 fits 50000) tt;
    same_y = ring_from K (p.y ∷ p.w ∷ q.y ∷ q.w ∷ []) (multiple (K.int (negsuc 0)) (search reads depth 40 fits 50000) (search reads depth 40 fits 50000) (search reads depth 40 fits 50000) h.same_y no_equation) (search reads depth 40 fits 50000) (search reads depth 40 fits 50000) tt;
  }

  same_by : (p q : Point A) (o : Ordering) → K.sign q.w ≡ o → IsSamePoint K p q → IsSamePoint K p (match_ordering o (opposite_vector K.ops q) q q)
  same_by p q Less e h = negated_same p q h
  same_by p q Equal e h = h
  same_by p q Greater e h = h

  -- a point of both lines is their crossing
  pub on_lines_crossing : (a b c d p : Point A) → side K a b p ≡ Equal → side K c d p ≡ Equal → IsSamePoint K p (crossing K a b c d)
  on_lines_crossing a b c d p h k = subst (IsSamePoint K p) (crossing_is a b c d) (same_by p (crossing_across a b c d) (K.sign (crossing_across a b c d).w) refl (only_crossing a b c d p h k))

  -- a common point is the crossing
  pub common_is_crossing : (a b c d p : Point A) → IsPoint K a → IsPoint K b → IsPoint K c → IsPoint K d → IsOnBoth K a b c d p → IsSamePoint K p (crossing K a b c d)
  common_is_crossing a b c d p ha hb hc hd h =
      on_lines_crossing a b c d p (side_of_on K h.1) (side_of_on K h.2)

  -- ---- as it is computed

  meeting_turned : (l m : Line A) → meeting K.ops m l ≡ opposite_vector K.ops (meeting K.ops l m)
  meeting_turned l m =
      let xs = l.a ∷ l.b ∷ l.c ∷ m.a ∷ m.b ∷ m.c ∷ [] in
      let in_x : (meeting K.ops m l).x ≡ (opposite_vector K.ops (meeting K.ops l m)).x = ring K xs (search reads depth 40 fits 50000) (search reads depth 40 fits 50000) tt in
      let in_y : (meeting K.ops m l).y ≡ (opposite_vector K.ops (meeting K.ops l m)).y = ring K xs (search reads depth 40 fits 50000) (search reads depth 40 fits 50000) tt in
      let in_w : (meeting K.ops m l).w ≡ (opposite_vector K.ops (meeting K.ops l m)).w = ring K xs (search reads depth 40 fits 50000) (search reads depth 40 fits 50000) tt in
      λ i. record { x = in_x i; y = in_y i; w = in_w i }

  -- where the meeting of two lines has a weight below zero, that of the lines the other way round is the same point
  pub meeting_back : (l m : Line A) → K.sign (meeting K.ops l m).w ≡ Less → meeting K.ops m l ≡ as_point K (meeting K.ops l m)
  meeting_back l m h = meeting_turned l m ∙ sym (as_point_negative (meeting K.ops l m) h)

  -- ---- lines that aren't parallel

  reversed_negative : (o : Ordering) → o ≡ Less → ordering_reverse o ≡ Greater
  reversed_negative o e = ap ordering_reverse e

  positive_point : (p : Point A) (o : Ordering) → K.sign p.w ≡ o → ¬ (o ≡ Equal) → IsPoint K (match_ordering o (opposite_vector K.ops p) p p)
  positive_point p Less e n = sign_neg K p.w ∙ reversed_negative (K.sign p.w) e
  positive_point p Equal e n = absurd (n refl)
  positive_point p Greater e n = e

  -- the crossing of lines that aren't parallel is a point
  pub crossing_point : (a b c d : Point A) → ¬ AreParallel K a b c d → IsPoint K (crossing K a b c d)
  crossing_point a b c d n =
      let m = meeting K.ops (line K.ops a b) (line K.ops c d) in
      let weight : m.w ≡ turn K.ops (direction K.ops a b) (direction K.ops c d)
      = ring K (a.x ∷ a.y ∷ a.w ∷ b.x ∷ b.y ∷ b.w ∷ c.x ∷ c.y ∷ c.w ∷ d.x ∷ d.y ∷ d.w ∷ []) (search reads depth 40 fits 50000) (search reads depth 40 fits 50000) tt in
      positive_point m (K.sign m.w) refl (λ e. n (sym (ap K.sign weight) ∙ e))

  as_point_on : (a b p : Point A) (o : Ordering) → determinant K.ops a b p ≡ K.int (pos 0) → side K a b (match_ordering o (opposite_vector K.ops p) p p) ≡ Equal
  as_point_on a b p Less e =
      let zero : determinant K.ops a b (opposite_vector K.ops p) ≡ K.int (pos 0)
      = ring_from K (a.x ∷ a.y ∷ a.w ∷ b.x ∷ b.y ∷ b.w ∷ p.x ∷ p.y ∷ p.w ∷ []) (multiple (K.int (negsuc 0)) (search reads depth 40 fits 50000) (search reads depth 40 fits 50000) (search reads depth 40 fits 50000) e no_equation) (search reads depth 40 fits 50000) (search reads depth 40 fits 50000) tt in
      ap K.sign zero ∙ K.sign_int (pos 0)
  as_point_on a b p Equal e = ap K.sign e ∙ K.sign_int (pos 0)
  as_point_on a b p Greater e = ap K.sign e ∙ K.sign_int (pos 0)

  -- and lies on both
  pub crossing_on_first : (a b c d : Point A) → side K a b (crossing K a b c d) ≡ Equal
  crossing_on_first a b c d =
      let m = meeting K.ops (line K.ops a b) (line K.ops c d) in
      let zero : determinant K.ops a b m ≡ K.int (pos 0)
      = ring K (a.x ∷ a.y ∷ a.w ∷ b.x ∷ b.y ∷ b.w ∷ c.x ∷ c.y ∷ c.w ∷ d.x ∷ d.y ∷ d.w ∷ []) (search reads depth 40 fits 50000) (search reads depth 40 fits 50000) tt in
      as_point_on a b m (K.sign m.w) zero

  pub crossing_on_second : (a b c d : Point A) → side K c d (crossing K a b c d) ≡ Equal
  crossing_on_second a b c d =
      let m = meeting K.ops (line K.ops a b) (line K.ops c d) in
      let zero : determinant K.ops c d m ≡ K.int (pos 0)
      = ring K (a.x ∷ a.y ∷ a.w ∷ b.x ∷ b.y ∷ b.w ∷ c.x ∷ c.y ∷ c.w ∷ d.x ∷ d.y ∷ d.w ∷ []) (search reads depth 40 fits 50000) (search reads depth 40 fits 50000) tt in
      as_point_on c d m (K.sign m.w) zero

  -- parallel lines have no crossing
  pub parallel_apart : (a b c d : Point A) → IsPoint K (crossing K a b c d) → ¬ AreParallel K a b c d
  parallel_apart a b c d point parallel =
      let m = meeting K.ops (line K.ops a b) (line K.ops c d) in
      let weight : m.w ≡ turn K.ops (direction K.ops a b) (direction K.ops c d)
      = ring K (a.x ∷ a.y ∷ a.w ∷ b.x ∷ b.y ∷ b.w ∷ c.x ∷ c.y ∷ c.w ∷ d.x ∷ d.y ∷ d.w ∷ []) (search reads depth 40 fits 50000) (search reads depth 40 fits 50000) tt in
      let level : K.sign m.w ≡ Equal = ap K.sign weight ∙ parallel in
      let is : as_point K m ≡ m = rw level refl in
      greater_not_zero (subst (IsPoint K) is point) level
