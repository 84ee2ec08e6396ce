-- The ways from a vertex along two edges that meet in ends alone differ.
use mathlib.Core.Path.{◌≡◌, refl, sym, ap, subst, ◌∙◌}
use mathlib.Core.List.{[], ◌∷◌}
use lib.IntN.{pos}
use Rattle.std.proofs.Common.{inl, inr}
use Rattle.std.specs.Prelude.{IsTrue}
use Rattle.std.specs.Ordering.{ordering_then, is_ge}
use Rattle.std.specs.declared.cmp.Ordering.{Ordering}
use Rattle.std.specs.declared.cmp.Ordering.TheVariants.{Less, Equal, Greater}
use Rattle.algebra.specs.OrderedRing.{OrderedRing}
use Rattle.algebra.proofs.Solvers.{reads, ring_from, multiple, no_equation, sign_from, known, no_sign, positive, negative, not_negative, at_zero, given, sum, product, negated}
use Rattle.plane.proofs.Shares.{on_by_shares}
use Rattle.plane.proofs.OnSegments.{to_is_on}
use Rattle.plane.specs.declared.point.Point.{Point}
use Rattle.plane.specs.Points.{IsPoint, IsSamePoint, point_order, y_from}
use Rattle.plane.specs.Directions.{direction, turn, Differ, along}
use Rattle.plane.specs.Segments.{IsOn, MeetInEnds}
use Rattle.plane.proofs.Lines.{same_turned}
use Rattle.plane.proofs.Order.{same_of_equal}
use Rattle.plane.proofs.Ways.{squares_by}

module _ {A : Type 0} (K : OrderedRing A) where
  -- the way to another point isn't zero
  length_of_way : (v p : Point A) → ¬ IsSamePoint K v p → K.sign (along K.ops (direction K.ops v p) (direction K.ops v p)) ≡ Greater
  length_of_way v p n =
      let d = direction K.ops v p in
      squares_by K d.x d.y (K.sign d.x) (K.sign d.y) refl refl (λ z.
      let same : point_order K p v ≡ Equal = ap (λ (o : Ordering). ordering_then o (K.sign (y_from K.ops v p))) z.0 ∙ z.1 in
      n (same_turned K (same_of_equal K p v same)))

  module _ (v p q : Point A) (hv : IsPoint K v) (hp : IsPoint K p) (hq : IsPoint K q) (p_other : ¬ IsSamePoint K v p) (q_other : ¬ IsSamePoint K v q)
      (apart : ¬ IsSamePoint K p q) (meet : MeetInEnds K v p v q) (level : K.sign (turn K.ops (direction K.ops v p) (direction K.ops v q)) ≡ Equal) where
    zero : turn K.ops (direction K.ops v p) (direction K.ops v q) ≡ K.int (pos 0)
    zero = K.sign_zero (turn K.ops (direction K.ops v p) (direction K.ops v q)) level

    -- where they lead the same way and p isn't further, p lies on the edge to q, and is no end of it
    nearer : K.sign (along K.ops (direction K.ops v p) (direction K.ops v q)) ≡ Greater
        → IsTrue (is_ge (K.sign (K.sub (K.mul (along K.ops (direction K.ops v p) (direction K.ops v q)) p.w) (K.mul (along K.ops (direction K.ops v p) (direction K.ops v p)) q.w)))) → ⊥
    nearer ahead short =
        let d = direction K.ops v p in
        let e = direction K.ops v q in
        let xs = v.x ∷ v.y ∷ v.w ∷ p.x ∷ p.y ∷ p.w ∷ q.x ∷ q.y ∷ q.w ∷ [] in
        let long : K.sign (K.mul v.w (along K.ops d d)) ≡ Greater
        = sign_from K xs (known positive (search reads depth 40 fits 50000) hv (known positive (search reads depth 40 fits 50000) (length_of_way v p p_other) no_sign)) positive (search reads depth 40 fits 50000) (product (given 0) (given 1)) tt tt in
        let on : IsOn K v q p = on_by_shares K hv hq hp (record {
          s = K.sub (K.mul (along K.ops d e) p.w) (K.mul (along K.ops d d) q.w);
          t = K.mul v.w (along K.ops d d);
          s_from_zero = short;
          t_from_zero = subst (λ (o : Ordering). IsTrue (is_ge o)) (sym long) refl;
          not_both_zero = sign_from K xs (known not_negative (search reads depth 40 fits 50000) short (known positive (search reads depth 40 fits 50000) long no_sign)) positive (search reads depth 40 fits 50000) (sum (given 0) (given 1)) tt tt;
          is = record {
            same_x = ring_from K xs (multiple (K.mul p.w d.y) (search reads depth 40 fits 50000) (search reads depth 40 fits 50000) (search reads depth 40 fits 50000) zero no_equation) (search reads depth 40 fits 50000) (search reads depth 40 fits 50000) tt;
            same_y = ring_from K xs (multiple (K.neg (K.mul p.w d.x)) (search reads depth 40 fits 50000) (search reads depth 40 fits 50000) (search reads depth 40 fits 50000) zero no_equation) (search reads depth 40 fits 50000) (search reads depth 40 fits 50000) tt;
          };
        }) in
        elim (meet p hp (to_is_on K v p) on).1 [ inl s ↦ p_other (same_turned K s) | inr s ↦ apart s ]

    -- and where p is further, so is q on the edge to p
    further : K.sign (along K.ops (direction K.ops v p) (direction K.ops v q)) ≡ Greater
        → K.sign (K.sub (K.mul (along K.ops (direction K.ops v p) (direction K.ops v q)) p.w) (K.mul (along K.ops (direction K.ops v p) (direction K.ops v p)) q.w)) ≡ Less → ⊥
    further ahead past =
        let d = direction K.ops v p in
        let e = direction K.ops v q in
        let xs = v.x ∷ v.y ∷ v.w ∷ p.x ∷ p.y ∷ p.w ∷ q.x ∷ q.y ∷ q.w ∷ [] in
        let over : K.sign (K.sub (K.mul (along K.ops d d) q.w) (K.mul (along K.ops d e) p.w)) ≡ Greater
        = sign_from K xs (known negative (search reads depth 40 fits 50000) past no_sign) positive (search reads depth 40 fits 50000) (negated (given 0)) tt tt in
        let long : K.sign (K.mul v.w (along K.ops d e)) ≡ Greater
        = sign_from K xs (known positive (search reads depth 40 fits 50000) hv (known positive (search reads depth 40 fits 50000) ahead no_sign)) positive (search reads depth 40 fits 50000) (product (given 0) (given 1)) tt tt in
        let on : IsOn K v p q = on_by_shares K hv hp hq (record {
          s = K.sub (K.mul (along K.ops d d) q.w) (K.mul (along K.ops d e) p.w);
          t = K.mul v.w (along K.ops d e);
          s_from_zero = subst (λ (o : Ordering). IsTrue (is_ge o)) (sym over) refl;
          t_from_zero = subst (λ (o : Ordering). IsTrue (is_ge o)) (sym long) refl;
          not_both_zero = sign_from K xs (known positive (search reads depth 40 fits 50000) over (known positive (search reads depth 40 fits 50000) long no_sign)) positive (search reads depth 40 fits 50000) (sum (given 0) (given 1)) tt tt;
          is = record {
            same_x = ring_from K xs (multiple (K.neg (K.mul q.w d.y)) (search reads depth 40 fits 50000) (search reads depth 40 fits 50000) (search reads depth 40 fits 50000) zero no_equation) (search reads depth 40 fits 50000) (search reads depth 40 fits 50000) tt;
            same_y = ring_from K xs (multiple (K.mul q.w d.x) (search reads depth 40 fits 50000) (search reads depth 40 fits 50000) (search reads depth 40 fits 50000) zero no_equation) (search reads depth 40 fits 50000) (search reads depth 40 fits 50000) tt;
          };
        }) in
        elim (meet q hq on (to_is_on K v q)).0 [ inl s ↦ q_other (same_turned K s) | inr s ↦ apart (same_turned K s) ]

    not_ahead_by : (o : Ordering) → K.sign (K.sub (K.mul (along K.ops (direction K.ops v p) (direction K.ops v q)) p.w) (K.mul (along K.ops (direction K.ops v p) (direction K.ops v p)) q.w)) ≡ o
        → K.sign (along K.ops (direction K.ops v p) (direction K.ops v q)) ≡ Greater → ⊥
    not_ahead_by Less e ahead = further ahead e
    not_ahead_by Equal e ahead = nearer ahead (subst (λ (o : Ordering). IsTrue (is_ge o)) (sym e) refl)
    not_ahead_by Greater e ahead = nearer ahead (subst (λ (o : Ordering). IsTrue (is_ge o)) (sym e) refl)

    -- parallel ways that aren't zero aren't at right angles
    not_square : K.sign (along K.ops (direction K.ops v p) (direction K.ops v q)) ≡ Equal → ⊥
    not_square square =
        let d = direction K.ops v p in
        let e = direction K.ops v q in
        let xs = v.x ∷ v.y ∷ v.w ∷ p.x ∷ p.y ∷ p.w ∷ q.x ∷ q.y ∷ q.w ∷ [] in
        let both : K.sign (K.mul (along K.ops d d) (along K.ops e e)) ≡ Greater
        = sign_from K xs (known positive (search reads depth 40 fits 50000) (length_of_way v p p_other) (known positive (search reads depth 40 fits 50000) (length_of_way v q q_other) no_sign)) positive (search reads depth 40 fits 50000) (product (given 0) (given 1)) tt tt in
        let none : K.sign (K.mul (along K.ops d d) (along K.ops e e)) ≡ Equal
        = sign_from K xs (known at_zero (search reads depth 40 fits 50000) level (known at_zero (search reads depth 40 fits 50000) square no_sign)) at_zero (search reads depth 40 fits 50000) (sum (product (given 0) (given 0)) (product (given 1) (given 1))) tt tt in
        absurd (let no : Greater ≡ Equal = sym both ∙ none in cc)

    opposite_by : (o : Ordering) → K.sign (along K.ops (direction K.ops v p) (direction K.ops v q)) ≡ o → K.sign (along K.ops (direction K.ops v p) (direction K.ops v q)) ≡ Less
    opposite_by Less e = e
    opposite_by Equal e = absurd (not_square e)
    opposite_by Greater e =
        absurd (not_ahead_by (K.sign (K.sub (K.mul (along K.ops (direction K.ops v p) (direction K.ops v q)) p.w) (K.mul (along K.ops (direction K.ops v p) (direction K.ops v p)) q.w))) refl e)

  pub ways_differ : (v p q : Point A) → IsPoint K v → IsPoint K p → IsPoint K q → ¬ IsSamePoint K v p → ¬ IsSamePoint K v q → ¬ IsSamePoint K p q
      → MeetInEnds K v p v q → Differ K (direction K.ops v p) (direction K.ops v q)
  ways_differ v p q hv hp hq p_other q_other apart meet level =
      opposite_by v p q hv hp hq p_other q_other apart meet level (K.sign (along K.ops (direction K.ops v p) (direction K.ops v q))) refl
