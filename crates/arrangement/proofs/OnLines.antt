-- Points of one line in their order, and lines that are parallel and share a point.
use mathlib.Core.Path.{◌≡◌, refl, sym, ap, ◌∙◌}
use mathlib.Core.List.{[], ◌∷◌}
use mathlib.Core.Logic.{◌⊎◌, inl, inr}
use lib.IntN.{pos}
use Rattle.std.specs.Prelude.{IsTrue}
use Rattle.std.specs.Ordering.{is_le, ordering_reverse}
use Rattle.std.specs.declared.cmp.Ordering.{Ordering}
use Rattle.std.specs.declared.cmp.Ordering.TheVariants.{Less, Equal, Greater}
use Rattle.algebra.specs.OrderedRing.{OrderedRing}
use Rattle.algebra.proofs.Solvers.{reads, ring, ring_from, ring_from_multiple, multiple, no_equation}
use Rattle.algebra.proofs.Solvers.{sign_of_multiple}
use Rattle.plane.specs.declared.point.Point.{Point}
use Rattle.plane.specs.declared.point.Line.{Line}
use Rattle.plane.specs.Points.{IsPoint, IsSamePoint, point_order}
use Rattle.plane.specs.Lines.{line, side, value}
use Rattle.plane.specs.Segments.{IsBetween}
use Rattle.plane.specs.Directions.{AreParallel, direction, turn}
use Rattle.plane.proofs.Along.{between_of_on, in_line, on_of_between}
use Rattle.plane.proofs.Lines.{from_x, from_x_itself, from_y, from_y_itself, lines_of_same, same_by_lines, same_turned, swapped}
use Rattle.plane.proofs.OnSegments.{between_is_on, between_turned, on_is_between, sign_between}
use Rattle.plane.proofs.Order.{equal_of_same, order_chain, order_same, order_same_right, order_turned, same_of_equal}
use Rattle.plane.proofs.Signs.{greater_not_zero, less_le, zero_is, zero_sign}

module _ {A : Type 0} (K : OrderedRing A) where
  -- p stands before q
  abbrev pub Before : Point A → Point A → Type 0
  Before p q = point_order K p q ≡ Less

  -- p stands before q, or is q
  abbrev pub Upto : Point A → Point A → Type 0
  Upto p q = IsTrue (is_le (point_order K p q))

  pub apart : (p q : Point A) → Before p q → ¬ IsSamePoint K p q
  apart p q less e = absurd (let no : Less ≡ Equal = sym less ∙ equal_of_same K p q e in cc)

  pub turned_order : (p q : Point A) → point_order K p q ≡ Greater → Before q p
  turned_order p q e = order_turned K p q ∙ ap ordering_reverse e

  -- two points are one, or one of them stands before the other
  pub three_orders : (p q : Point A) → Before p q ⊎ (IsSamePoint K p q ⊎ Before q p)
  three_orders p q = by_cases (point_order K p q) refl
    where
      by_cases : (o : Ordering) → point_order K p q ≡ o → Before p q ⊎ (IsSamePoint K p q ⊎ Before q p)
      by_cases Less e = inl e
      by_cases Equal e = inr (inl (same_of_equal K p q e))
      by_cases Greater e = inr (inr (turned_order p q e))

  not_both : (o : Ordering) → IsTrue (is_le o) → ordering_reverse o ≡ Less → ⊥
  not_both Less h e = absurd (cc)
  not_both Equal h e = absurd (cc)
  not_both Greater h e = absurd (cc)

  pub upto_not_before : (p q : Point A) → Upto p q → ¬ Before q p
  upto_not_before p q le less = not_both (point_order K p q) le (sym (order_turned K p q) ∙ less)

  pub upto_then : (p q r : Point A) → IsPoint K p → IsPoint K q → IsPoint K r → Upto p q → Before q r → Before p r
  upto_then p q r hp hq hr le less = elim (three_orders p q) [
    | inl h ↦ order_chain K p q r hp hq hr h less
    | inr (inl e) ↦ order_same K p q r hp hq e ∙ less
    | inr (inr h) ↦ absurd (upto_not_before p q le h)
  ]

  pub then_upto : (p q r : Point A) → IsPoint K p → IsPoint K q → IsPoint K r → Before p q → Upto q r → Before p r
  then_upto p q r hp hq hr less le = elim (three_orders q r) [
    | inl h ↦ order_chain K p q r hp hq hr less h
    | inr (inl e) ↦ sym (order_same_right K q r p hq hr e) ∙ less
    | inr (inr h) ↦ absurd (upto_not_before q r le h)
  ]

  -- ---- between

  -- a line that is zero at p and at a point between p and q is zero at q
  zero_at_end : (l : Line A) {p q r : Point A} → IsBetween K p q r → K.sign (value K.ops l p) ≡ Equal → K.sign (value K.ops l r) ≡ Equal → K.sign (value K.ops l q) ≡ Equal
  zero_at_end l {p} {q} {r} h at_p at_r =
      sym (sign_of_multiple K h.to_share (value K.ops l q) h.to_positive)
      ∙ ap K.sign (ring K (h.from_share ∷ h.to_share ∷ value K.ops l q ∷ []) (search reads depth 40 fits 50000) (search reads depth 40 fits 50000) tt)
      ∙ sym (ap (λ v. K.sign (K.add (K.mul h.from_share v) (K.mul h.to_share (value K.ops l q)))) (zero_is K at_p))
      ∙ sym (sign_between K l h) ∙ at_r

  -- a point between two different points is neither of them
  not_first : {p q r : Point A} → ¬ IsSamePoint K p q → IsBetween K p q r → ¬ IsSamePoint K p r
  not_first {p} {q} {r} n h same =
      let at_r = lines_of_same K same in
      n (same_by_lines K (zero_at_end (from_x K p) h (from_x_itself K p) at_r.0, zero_at_end (from_y K p) h (from_y_itself K p) at_r.1))

  -- and stands between them
  pub order_of_between : (p q r : Point A) → IsPoint K p → IsPoint K q → IsPoint K r → Before p q → IsBetween K p q r → Before p r × Before r q
  order_of_between p q r hp hq hr less h = (first (three_orders p r), second (three_orders r q))
    where
      stands : Upto p r × Upto r q
      stands = between_of_on K p q r hp hq hr less (between_is_on K h)

      n : ¬ IsSamePoint K p q
      n = apart p q less

      first : Before p r ⊎ (IsSamePoint K p r ⊎ Before r p) → Before p r
      first (inl e) = e
      first (inr (inl e)) = absurd (not_first n h e)
      first (inr (inr e)) = absurd (upto_not_before p r stands.0 e)

      second : Before r q ⊎ (IsSamePoint K r q ⊎ Before q r) → Before r q
      second (inl e) = e
      second (inr (inl e)) = absurd (not_first (λ f. n (same_turned K f)) (between_turned K h) (same_turned K e))
      second (inr (inr e)) = absurd (upto_not_before r q stands.1 e)

  -- three points of a line
  pub line_of_three : (a b p q r : Point A) → ¬ IsSamePoint K a b → side K a b p ≡ Equal → side K a b q ≡ Equal → side K a b r ≡ Equal → side K p q r ≡ Equal
  line_of_three a b p q r n hp hq hr = elim (three_orders a b) [
    | inl h ↦ in_line K a b p q r h hp hq hr
    | inr (inl e) ↦ absurd (n e)
    | inr (inr h) ↦ in_line K b a p q r h (back p hp) (back q hq) (back r hr)
  ]
    where
      back : (v : Point A) → side K a b v ≡ Equal → side K b a v ≡ Equal
      back v e = swapped K a b v ∙ ap ordering_reverse e

  -- of three points of a line the middle one in order lies between the others
  pub between_on_line : (a b p q r : Point A) → IsPoint K p → IsPoint K q → IsPoint K r → ¬ IsSamePoint K a b → side K a b p ≡ Equal → side K a b q ≡ Equal → side K a b r ≡ Equal
      → Before p r → Before r q → IsBetween K p q r
  between_on_line a b p q r hp hq hr n on_p on_q on_r first second =
      let less = order_chain K p r q hp hr hq first second in
      let on = on_of_between K p q r hp hq hr (line_of_three a b p q r n on_p on_q on_r) (less_le first, less_le second) less in
      on_is_between K on (λ e. apart p r first (same_turned K e)) (λ e. apart r q second e)

  -- ---- parallel lines

  -- two lines that are parallel and share a point are one: what the second goes through, the first goes through
  one_line : (l m : Line A) (x y : Point A) → IsPoint K x → ¬ ((K.sign m.a ≡ Equal) × (K.sign m.b ≡ Equal)) → K.sub (K.mul l.a m.b) (K.mul l.b m.a) ≡ K.int (pos 0)
      → value K.ops l x ≡ K.int (pos 0) → value K.ops m x ≡ K.int (pos 0) → value K.ops m y ≡ K.int (pos 0) → value K.ops l y ≡ K.int (pos 0)
  one_line l m x y hx n parallel on_l on_m at_y = by_cases (K.sign m.a) (K.sign m.b) refl refl
    where
      by_b : K.sub (K.mul l.b m.c) (K.mul l.c m.b) ≡ K.int (pos 0)
      by_b = ring_from_multiple K (l.a ∷ l.b ∷ l.c ∷ m.a ∷ m.b ∷ m.c ∷ x.x ∷ x.y ∷ x.w ∷ [])
          (multiple l.b (search reads depth 40 fits 50000) (search reads depth 40 fits 50000) (search reads depth 40 fits 50000) on_m
          (multiple (K.neg m.b) (search reads depth 40 fits 50000) (search reads depth 40 fits 50000) (search reads depth 40 fits 50000) on_l
          (multiple x.x (search reads depth 40 fits 50000) (search reads depth 40 fits 50000) (search reads depth 40 fits 50000) parallel no_equation)))
          (search reads depth 40 fits 50000) (greater_not_zero hx) (search reads depth 40 fits 50000) (search reads depth 40 fits 50000) tt

      by_a : K.sub (K.mul l.a m.c) (K.mul l.c m.a) ≡ K.int (pos 0)
      by_a = ring_from_multiple K (l.a ∷ l.b ∷ l.c ∷ m.a ∷ m.b ∷ m.c ∷ x.x ∷ x.y ∷ x.w ∷ [])
          (multiple l.a (search reads depth 40 fits 50000) (search reads depth 40 fits 50000) (search reads depth 40 fits 50000) on_m
          (multiple (K.neg m.a) (search reads depth 40 fits 50000) (search reads depth 40 fits 50000) (search reads depth 40 fits 50000) on_l
          (multiple (K.neg x.y) (search reads depth 40 fits 50000) (search reads depth 40 fits 50000) (search reads depth 40 fits 50000) parallel no_equation)))
          (search reads depth 40 fits 50000) (greater_not_zero hx) (search reads depth 40 fits 50000) (search reads depth 40 fits 50000) tt

      at_a : ¬ (K.sign m.a ≡ Equal) → value K.ops l y ≡ K.int (pos 0)
      at_a e = ring_from_multiple K (l.a ∷ l.b ∷ l.c ∷ m.a ∷ m.b ∷ m.c ∷ y.x ∷ y.y ∷ y.w ∷ [])
          (multiple l.a (search reads depth 40 fits 50000) (search reads depth 40 fits 50000) (search reads depth 40 fits 50000) at_y
          (multiple (K.neg y.y) (search reads depth 40 fits 50000) (search reads depth 40 fits 50000) (search reads depth 40 fits 50000) parallel
          (multiple (K.neg y.w) (search reads depth 40 fits 50000) (search reads depth 40 fits 50000) (search reads depth 40 fits 50000) by_a no_equation)))
          (search reads depth 40 fits 50000) e (search reads depth 40 fits 50000) (search reads depth 40 fits 50000) tt

      at_b : ¬ (K.sign m.b ≡ Equal) → value K.ops l y ≡ K.int (pos 0)
      at_b e = ring_from_multiple K (l.a ∷ l.b ∷ l.c ∷ m.a ∷ m.b ∷ m.c ∷ y.x ∷ y.y ∷ y.w ∷ [])
          (multiple l.b (search reads depth 40 fits 50000) (search reads depth 40 fits 50000) (search reads depth 40 fits 50000) at_y
          (multiple y.x (search reads depth 40 fits 50000) (search reads depth 40 fits 50000) (search reads depth 40 fits 50000) parallel
          (multiple (K.neg y.w) (search reads depth 40 fits 50000) (search reads depth 40 fits 50000) (search reads depth 40 fits 50000) by_b no_equation)))
          (search reads depth 40 fits 50000) e (search reads depth 40 fits 50000) (search reads depth 40 fits 50000) tt

      by_cases : (o p : Ordering) → K.sign m.a ≡ o → K.sign m.b ≡ p → value K.ops l y ≡ K.int (pos 0)
      by_cases Less p e f = at_a (λ z. absurd (let no : Less ≡ Equal = sym e ∙ z in cc))
      by_cases Greater p e f = at_a (λ z. absurd (let no : Greater ≡ Equal = sym e ∙ z in cc))
      by_cases Equal Less e f = at_b (λ z. absurd (let no : Less ≡ Equal = sym f ∙ z in cc))
      by_cases Equal Greater e f = at_b (λ z. absurd (let no : Greater ≡ Equal = sym f ∙ z in cc))
      by_cases Equal Equal e f = absurd (n (e, f))

  -- a line through two different points has a direction
  has_direction : (c d : Point A) → ¬ IsSamePoint K c d → ¬ ((K.sign (line K.ops c d).a ≡ Equal) × (K.sign (line K.ops c d).b ≡ Equal))
  has_direction c d n h = n (record {
    same_x = ring_from K (c.x ∷ c.y ∷ c.w ∷ d.x ∷ d.y ∷ d.w ∷ []) (multiple (K.neg (K.int (pos 1))) (search reads depth 40 fits 50000) (search reads depth 40 fits 50000) (search reads depth 40 fits 50000) (zero_is K h.1) no_equation) (search reads depth 40 fits 50000) (search reads depth 40 fits 50000) tt;
    same_y = ring_from K (c.x ∷ c.y ∷ c.w ∷ d.x ∷ d.y ∷ d.w ∷ []) (multiple (K.int (pos 1)) (search reads depth 40 fits 50000) (search reads depth 40 fits 50000) (search reads depth 40 fits 50000) (zero_is K h.0) no_equation) (search reads depth 40 fits 50000) (search reads depth 40 fits 50000) tt;
  })

  -- the line of a segment goes through each point of a parallel segment with which it shares a point
  pub on_other_line : (a b c d x y : Point A) → IsPoint K x → ¬ IsSamePoint K c d → AreParallel K a b c d → side K a b x ≡ Equal → side K c d x ≡ Equal → side K c d y ≡ Equal
      → side K a b y ≡ Equal
  on_other_line a b c d x y hx n parallel on_first on_second at_y =
      let turned : K.sub (K.mul (line K.ops a b).a (line K.ops c d).b) (K.mul (line K.ops a b).b (line K.ops c d).a) ≡ turn K.ops (direction K.ops a b) (direction K.ops c d)
      = ring K (a.x ∷ a.y ∷ a.w ∷ b.x ∷ b.y ∷ b.w ∷ c.x ∷ c.y ∷ c.w ∷ d.x ∷ d.y ∷ d.w ∷ []) (search reads depth 40 fits 50000) (search reads depth 40 fits 50000) tt in
      zero_sign K (value K.ops (line K.ops a b) y)
      (one_line (line K.ops a b) (line K.ops c d) x y hx (has_direction c d n) (turned ∙ zero_is K parallel) (zero_is K on_first) (zero_is K on_second) (zero_is K at_y))
