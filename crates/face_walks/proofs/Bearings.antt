-- The direction of an edge is that of its line, one way or the other.
use mathlib.Core.Path.{◌≡◌, refl, sym, ap, subst, ◌∙◌}
use mathlib.Core.List.{[], ◌∷◌}
use Rattle.std.specs.Ordering.{ordering_reverse}
use Rattle.std.specs.declared.cmp.Ordering.{Ordering}
use Rattle.std.specs.declared.cmp.Ordering.TheVariants.{Less, Equal, Greater}
use Rattle.algebra.specs.OrderedRing.{OrderedRing}
use Rattle.algebra.proofs.Solvers.{reads, ring, ring_from, multiple, no_equation, sign_of_multiple, sign_neg, sign_from, known, no_sign, at_zero, any_sign, given, sum, product}
use Rattle.plane.specs.declared.point.Point.{Point}
use Rattle.plane.specs.Points.{IsSamePoint, point_order}
use Rattle.plane.specs.Lines.{side}
use Rattle.plane.specs.Directions.{Direction, direction, turn, along, IsClockwise, IsSameWay, Differ}
use Rattle.plane.proofs.Lines.{swapped}
use Rattle.plane.proofs.Order.{order_turned, same_of_equal}
use Rattle.plane.proofs.Turning.{clockwise_turned}
use Rattle.plane.proofs.Ways.{clockwise_same, squares_by, turn_same, way_along}

module _ {A : Type 0} (K : OrderedRing A) where
  opposite_ways : (a b p q : Point A) → IsSameWay K (direction K.ops a b) (direction K.ops p q) → IsSameWay K (direction K.ops b a) (direction K.ops q p)
  opposite_ways a b p q h = (
    ap K.sign (ring K (a.x ∷ a.y ∷ a.w ∷ b.x ∷ b.y ∷ b.w ∷ p.x ∷ p.y ∷ p.w ∷ q.x ∷ q.y ∷ q.w ∷ []) (search reads depth 40 fits 50000) (search reads depth 40 fits 50000) tt) ∙ h.0,
    ap K.sign (ring K (a.x ∷ a.y ∷ a.w ∷ b.x ∷ b.y ∷ b.w ∷ p.x ∷ p.y ∷ p.w ∷ q.x ∷ q.y ∷ q.w ∷ []) (search reads depth 40 fits 50000) (search reads depth 40 fits 50000) tt) ∙ h.1,
  )

  module _ (a b p q : Point A) (on_p : side K a b p ≡ Equal) (on_q : side K a b q ≡ Equal) (apart : ¬ IsSamePoint K a b) (differ : ¬ IsSamePoint K p q) where
    back_p : side K b a p ≡ Equal
    back_p = swapped K a b p ∙ ap ordering_reverse on_p

    back_q : side K b a q ≡ Equal
    back_q = swapped K a b q ∙ ap ordering_reverse on_q

    before : (u v : Point A) → point_order K u v ≡ Greater → point_order K v u ≡ Less
    before u v e = order_turned K u v ∙ ap ordering_reverse e

    alike_by : (o s : Ordering) → point_order K a b ≡ o → point_order K p q ≡ s → o ≡ s → IsSameWay K (direction K.ops a b) (direction K.ops p q)
    alike_by Less Less e f same = way_along K a b p q on_p on_q e f
    alike_by Less Equal e f same = absurd (cc)
    alike_by Less Greater e f same = absurd (cc)
    alike_by Equal s e f same = absurd (apart (same_of_equal K a b e))
    alike_by Greater Less e f same = absurd (cc)
    alike_by Greater Equal e f same = absurd (cc)
    alike_by Greater Greater e f same = opposite_ways b a q p (way_along K b a q p back_q back_p (before a b e) (before p q f))

    unlike_by : (o s : Ordering) → point_order K a b ≡ o → point_order K p q ≡ s → ¬ (o ≡ s) → IsSameWay K (direction K.ops b a) (direction K.ops p q)
    unlike_by Less Less e f other = absurd (other refl)
    unlike_by Less Equal e f other = absurd (differ (same_of_equal K p q f))
    unlike_by Less Greater e f other = opposite_ways a b q p (way_along K a b q p on_q on_p e (before p q f))
    unlike_by Equal s e f other = absurd (apart (same_of_equal K a b e))
    unlike_by Greater Less e f other = way_along K b a p q back_p back_q (before a b e) f
    unlike_by Greater Equal e f other = absurd (differ (same_of_equal K p q f))
    unlike_by Greater Greater e f other = absurd (other refl)

    -- where the ends stand in the order of the line's points
    pub alike : point_order K a b ≡ point_order K p q → IsSameWay K (direction K.ops a b) (direction K.ops p q) × IsSameWay K (direction K.ops b a) (direction K.ops q p)
    alike e =
        let there = alike_by (point_order K a b) (point_order K p q) refl refl e in
        (there, opposite_ways a b p q there)

    -- and where they don't
    pub unlike : ¬ (point_order K a b ≡ point_order K p q) → IsSameWay K (direction K.ops b a) (direction K.ops p q) × IsSameWay K (direction K.ops a b) (direction K.ops q p)
    unlike n =
        let there = unlike_by (point_order K a b) (point_order K p q) refl refl n in
        (there, opposite_ways b a p q there)

  -- ---- directions that lead the same way

  turned : (d e : Direction A) → K.sign (turn K.ops e d) ≡ ordering_reverse (K.sign (turn K.ops d e))
  turned d e = ap K.sign (ring K (d.x ∷ d.y ∷ e.x ∷ e.y ∷ []) (search reads depth 40 fits 50000) (search reads depth 40 fits 50000) tt) ∙ sign_neg K (turn K.ops d e)

  along_turned : (d e : Direction A) → K.sign (along K.ops e d) ≡ K.sign (along K.ops d e)
  along_turned d e = ap K.sign (ring K (d.x ∷ d.y ∷ e.x ∷ e.y ∷ []) (search reads depth 40 fits 50000) (search reads depth 40 fits 50000) tt)

  -- a direction that leads some way isn't zero
  not_zero : (d e : Direction A) → IsSameWay K d e → K.sign (along K.ops d d) ≡ Greater
  not_zero d e h =
      squares_by K d.x d.y (K.sign d.x) (K.sign d.y) refl refl (λ z.
      let zero = sign_from K (d.x ∷ d.y ∷ e.x ∷ e.y ∷ []) (known at_zero (search reads depth 40 fits 50000) z.0 (known at_zero (search reads depth 40 fits 50000) z.1 (known any_sign {a = e.x} (search reads depth 40 fits 50000) tt (known any_sign {a = e.y} (search reads depth 40 fits 50000) tt no_sign))))
      at_zero {a = along K.ops d e} (search reads depth 40 fits 50000) (sum (product (given 0) (given 2)) (product (given 1) (given 3))) tt tt in
      absurd (let no : Greater ≡ Equal = sym h.1 ∙ zero in cc))

  along_same : (d e f : Direction A) → IsSameWay K d e → K.sign (turn K.ops d f) ≡ Equal → K.sign (along K.ops e f) ≡ K.sign (along K.ops d f)
  along_same d e f h level =
      let scaled : K.mul (along K.ops d d) (along K.ops e f) ≡ K.mul (along K.ops d e) (along K.ops d f)
      = ring_from K (d.x ∷ d.y ∷ e.x ∷ e.y ∷ f.x ∷ f.y ∷ [])
      (multiple (turn K.ops d e) (search reads depth 40 fits 50000) (search reads depth 40 fits 50000) (search reads depth 40 fits 50000) (K.sign_zero (turn K.ops d f) level) no_equation) (search reads depth 40 fits 50000) (search reads depth 40 fits 50000) tt in
      sym (sign_of_multiple K (along K.ops d d) (along K.ops e f) (not_zero d e h)) ∙ ap K.sign scaled ∙ sign_of_multiple K (along K.ops d e) (along K.ops d f) h.1

  -- where the ways of two directions differ, so do they
  differ_first : (d e f : Direction A) → IsSameWay K d e → Differ K e f → Differ K d f
  differ_first d e f h differ level = sym (along_same d e f h level) ∙ differ (turn_same K d e f h ∙ level)

  pub turned_differ : (d e : Direction A) → Differ K d e → Differ K e d
  turned_differ d e h level = along_turned d e ∙ h (turned e d ∙ ap ordering_reverse level)

  pub differ_same : (d e f g : Direction A) → IsSameWay K d e → IsSameWay K f g → Differ K e g → Differ K d f
  differ_same d e f g h k differ =
      differ_first d e f h (turned_differ f e (differ_first f g e k (turned_differ e g differ)))

  pub differ_last : (d e f : Direction A) → IsSameWay K e f → Differ K d f → Differ K d e
  differ_last d e f h differ = turned_differ e d (differ_first e f d h (turned_differ d f differ))

  pub clockwise_from : (d e f b c : Direction A) → IsSameWay K e b → IsSameWay K f c → IsClockwise K d e f → IsClockwise K d b c
  clockwise_from d e f b c hb hc t =
      clockwise_turned K c d b (clockwise_same K f c d b hc
      (clockwise_turned K b f d (clockwise_same K e b f d hb
      (clockwise_turned K d e f t))))

  -- the clockwise order of directions is that of their ways
  pub clockwise_ways : (d e f a b c : Direction A) → IsSameWay K d a → IsSameWay K e b → IsSameWay K f c → IsClockwise K d e f → IsClockwise K a b c
  clockwise_ways d e f a b c ha hb hc t =
      clockwise_turned K c a b (clockwise_same K f c a b hc
      (clockwise_turned K b f a (clockwise_same K e b f a hb
      (clockwise_turned K a e f (clockwise_same K d a e f ha t)))))

  -- ---- the headings of a line in the order of two of its points

  module _ (a b p q : Point A) (on_p : side K a b p ≡ Equal) (on_q : side K a b q ≡ Equal) (apart : ¬ IsSamePoint K a b) (differ : ¬ IsSamePoint K p q)
      (d e : Direction A) (d_is : d ≡ direction K.ops a b) (e_is : e ≡ direction K.ops b a)
      (o s : Ordering) (o_is : o ≡ point_order K a b) (s_is : s ≡ point_order K p q) where
    pub in_order : o ≡ s → IsSameWay K d (direction K.ops p q) × IsSameWay K e (direction K.ops q p)
    in_order h =
        let ways = alike a b p q on_p on_q apart differ (sym o_is ∙ h ∙ s_is) in (
          subst (λ (f : Direction A). IsSameWay K f (direction K.ops p q)) (sym d_is) ways.0,
          subst (λ (f : Direction A). IsSameWay K f (direction K.ops q p)) (sym e_is) ways.1,
        )

    pub out_of_order : ¬ (o ≡ s) → IsSameWay K e (direction K.ops p q) × IsSameWay K d (direction K.ops q p)
    out_of_order n =
        let ways = unlike a b p q on_p on_q apart differ (λ h. n (o_is ∙ h ∙ sym s_is)) in (
          subst (λ (f : Direction A). IsSameWay K f (direction K.ops p q)) (sym e_is) ways.0,
          subst (λ (f : Direction A). IsSameWay K f (direction K.ops q p)) (sym d_is) ways.1,
        )
