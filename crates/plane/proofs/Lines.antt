-- Lines as linear functions, determinants of three points, and what two lines have to do with each other.
use mathlib.Core.Path.{◌≡◌, refl, sym, ap, ◌∙◌}
use mathlib.Core.List.{[], ◌∷◌}
use lib.IntN.{pos, negsuc}
use Rattle.std.specs.declared.cmp.Ordering.{Ordering}
use Rattle.std.specs.declared.cmp.Ordering.TheVariants.{Less, Equal, Greater}
use Rattle.std.specs.Ordering.{ordering_reverse}
use Rattle.algebra.specs.OrderedRing.{OrderedRing}
use Rattle.algebra.proofs.RingLaws.{equal_of_difference}
use Rattle.algebra.proofs.Solvers.{ring, ring_from, ring_from_multiple, multiple, no_equation, reads, sign_neg, sign_of_multiple}
use Rattle.plane.specs.declared.point.Point.{Point}
use Rattle.plane.specs.declared.point.Line.{Line}
use Rattle.plane.specs.Points.{combination, multiple_of, x_from, y_from, IsPoint, IsSamePoint}
use Rattle.plane.specs.Lines.{value, line, opposite_line, determinant, side}
use Rattle.plane.proofs.Signs.{zero_sign, factor_zero}

pub same_vector : {A : Type 0} {p q : Point A} → p.x ≡ q.x → p.y ≡ q.y → p.w ≡ q.w → p ≡ q
same_vector h k e = λ i. record { x = h i; y = k i; w = e i }

module _ {A : Type 0} (K : OrderedRing A) where
  one_times : (a : A) → a ≡ K.mul (K.int (pos 1)) a
  one_times a = ring K (a ∷ []) (search reads depth 20) (search reads depth 20) tt

  pub once : (p : Point A) → p ≡ multiple_of K.ops (K.int (pos 1)) p
  once p = same_vector (one_times p.x) (one_times p.y) (one_times p.w)

  -- ---- values

  pub value_combination : (l : Line A) (s t : A) (p q : Point A) → value K.ops l (combination K.ops s p t q) ≡ K.add (K.mul s (value K.ops l p)) (K.mul t (value K.ops l q))
  value_combination l s t p q = ring K (l.a ∷ l.b ∷ l.c ∷ s ∷ t ∷ p.x ∷ p.y ∷ p.w ∷ q.x ∷ q.y ∷ q.w ∷ []) (search reads depth 40 fits 50000) (search reads depth 40 fits 50000) tt

  pub value_multiple : (l : Line A) (m : A) (p : Point A) → value K.ops l (multiple_of K.ops m p) ≡ K.mul m (value K.ops l p)
  value_multiple l m p = ring K (l.a ∷ l.b ∷ l.c ∷ m ∷ p.x ∷ p.y ∷ p.w ∷ []) (search reads depth 40 fits 50000) (search reads depth 40 fits 50000) tt

  pub value_opposite : (l : Line A) (p : Point A) → value K.ops (opposite_line K.ops l) p ≡ K.neg (value K.ops l p)
  value_opposite l p = ring K (l.a ∷ l.b ∷ l.c ∷ p.x ∷ p.y ∷ p.w ∷ []) (search reads depth 40 fits 50000) (search reads depth 40 fits 50000) tt

  pub sign_opposite : (l : Line A) (p : Point A) → K.sign (value K.ops (opposite_line K.ops l) p) ≡ ordering_reverse (K.sign (value K.ops l p))
  sign_opposite l p = ap K.sign (value_opposite l p) ∙ sign_neg K (value K.ops l p)

  -- the weight is a line's value too, and so is how far a point lies right of another, or above it
  abbrev pub weight_line : Line A
  weight_line = record { a = K.int (pos 0); b = K.int (pos 0); c = K.int (pos 1) }

  abbrev pub from_x : Point A → Line A
  from_x a = record { a = a.w; b = K.int (pos 0); c = K.neg a.x }

  abbrev pub from_y : Point A → Line A
  from_y a = record { a = K.int (pos 0); b = a.w; c = K.neg a.y }

  abbrev pub to_x : Point A → Line A
  to_x b = opposite_line K.ops (from_x b)

  pub value_weight : (p : Point A) → value K.ops weight_line p ≡ p.w
  value_weight p = ring K (p.x ∷ p.y ∷ p.w ∷ []) (search reads depth 40 fits 50000) (search reads depth 40 fits 50000) tt

  pub value_from_x : (a p : Point A) → value K.ops (from_x a) p ≡ x_from K.ops a p
  value_from_x a p = ring K (a.x ∷ a.y ∷ a.w ∷ p.x ∷ p.y ∷ p.w ∷ []) (search reads depth 40 fits 50000) (search reads depth 40 fits 50000) tt

  pub value_from_y : (a p : Point A) → value K.ops (from_y a) p ≡ y_from K.ops a p
  value_from_y a p = ring K (a.x ∷ a.y ∷ a.w ∷ p.x ∷ p.y ∷ p.w ∷ []) (search reads depth 40 fits 50000) (search reads depth 40 fits 50000) tt

  pub value_to_x : (b p : Point A) → value K.ops (to_x b) p ≡ x_from K.ops p b
  value_to_x b p = ring K (b.x ∷ b.y ∷ b.w ∷ p.x ∷ p.y ∷ p.w ∷ []) (search reads depth 40 fits 50000) (search reads depth 40 fits 50000) tt

  pub x_back : (a b : Point A) → K.sign (x_from K.ops b a) ≡ ordering_reverse (K.sign (x_from K.ops a b))
  x_back a b = ap K.sign (ring K (a.x ∷ a.y ∷ a.w ∷ b.x ∷ b.y ∷ b.w ∷ []) (search reads depth 40 fits 50000) (search reads depth 40 fits 50000) tt) ∙ sign_neg K (x_from K.ops a b)

  pub y_back : (a b : Point A) → K.sign (y_from K.ops b a) ≡ ordering_reverse (K.sign (y_from K.ops a b))
  y_back a b = ap K.sign (ring K (a.x ∷ a.y ∷ a.w ∷ b.x ∷ b.y ∷ b.w ∷ []) (search reads depth 40 fits 50000) (search reads depth 40 fits 50000) tt) ∙ sign_neg K (y_from K.ops a b)

  pub x_itself : (a : Point A) → x_from K.ops a a ≡ K.int (pos 0)
  x_itself a = ring K (a.x ∷ a.y ∷ a.w ∷ []) (search reads depth 40 fits 50000) (search reads depth 40 fits 50000) tt

  pub y_itself : (a : Point A) → y_from K.ops a a ≡ K.int (pos 0)
  y_itself a = ring K (a.x ∷ a.y ∷ a.w ∷ []) (search reads depth 40 fits 50000) (search reads depth 40 fits 50000) tt

  -- ---- determinants

  pub determinant_turned : (p q r : Point A) → determinant K.ops p q r ≡ determinant K.ops q r p
  determinant_turned p q r = ring K (p.x ∷ p.y ∷ p.w ∷ q.x ∷ q.y ∷ q.w ∷ r.x ∷ r.y ∷ r.w ∷ []) (search reads depth 40 fits 50000) (search reads depth 40 fits 50000) tt

  pub determinant_swapped : (p q r : Point A) → determinant K.ops q p r ≡ K.neg (determinant K.ops p q r)
  determinant_swapped p q r = ring K (p.x ∷ p.y ∷ p.w ∷ q.x ∷ q.y ∷ q.w ∷ r.x ∷ r.y ∷ r.w ∷ []) (search reads depth 40 fits 50000) (search reads depth 40 fits 50000) tt

  pub determinant_swapped_last : (p q r : Point A) → determinant K.ops p r q ≡ K.neg (determinant K.ops p q r)
  determinant_swapped_last p q r = ring K (p.x ∷ p.y ∷ p.w ∷ q.x ∷ q.y ∷ q.w ∷ r.x ∷ r.y ∷ r.w ∷ []) (search reads depth 40 fits 50000) (search reads depth 40 fits 50000) tt

  pub determinant_first : (p q : Point A) → determinant K.ops p q p ≡ K.int (pos 0)
  determinant_first p q = ring K (p.x ∷ p.y ∷ p.w ∷ q.x ∷ q.y ∷ q.w ∷ []) (search reads depth 40 fits 50000) (search reads depth 40 fits 50000) tt

  pub determinant_second : (p q : Point A) → determinant K.ops p q q ≡ K.int (pos 0)
  determinant_second p q = ring K (p.x ∷ p.y ∷ p.w ∷ q.x ∷ q.y ∷ q.w ∷ []) (search reads depth 40 fits 50000) (search reads depth 40 fits 50000) tt

  pub swapped : (p q x : Point A) → side K q p x ≡ ordering_reverse (side K p q x)
  swapped p q x = ap K.sign (determinant_swapped p q x) ∙ sign_neg K (determinant K.ops p q x)

  pub swapped_last : (p q x : Point A) → side K p x q ≡ ordering_reverse (side K p q x)
  swapped_last p q x = ap K.sign (determinant_swapped_last p q x) ∙ sign_neg K (determinant K.ops p q x)

  pub at_first : (p q : Point A) → side K p q p ≡ Equal
  at_first p q = zero_sign K (determinant K.ops p q p) (determinant_first p q)

  pub at_second : (p q : Point A) → side K p q q ≡ Equal
  at_second p q = zero_sign K (determinant K.ops p q q) (determinant_second p q)

  -- four points: the sums of p and q, and of a and b, that are one vector, the common point of the lines pq and ab
  pub exchange : (p q a b : Point A)
      → combination K.ops (determinant K.ops a q b) p (determinant K.ops a b p) q ≡ combination K.ops (determinant K.ops p q b) a (determinant K.ops q p a) b
  exchange p q a b =
      same_vector
      (ring K (p.x ∷ p.y ∷ p.w ∷ q.x ∷ q.y ∷ q.w ∷ a.x ∷ a.y ∷ a.w ∷ b.x ∷ b.y ∷ b.w ∷ []) (search reads depth 40 fits 50000) (search reads depth 40 fits 50000) tt)
      (ring K (p.x ∷ p.y ∷ p.w ∷ q.x ∷ q.y ∷ q.w ∷ a.x ∷ a.y ∷ a.w ∷ b.x ∷ b.y ∷ b.w ∷ []) (search reads depth 40 fits 50000) (search reads depth 40 fits 50000) tt)
      (ring K (p.x ∷ p.y ∷ p.w ∷ q.x ∷ q.y ∷ q.w ∷ a.x ∷ a.y ∷ a.w ∷ b.x ∷ b.y ∷ b.w ∷ []) (search reads depth 40 fits 50000) (search reads depth 40 fits 50000) tt)

  -- how the line through u and v and any other line go together
  pub exchange_values : (l : Line A) (u v q r : Point A)
      → K.sub (K.mul (determinant K.ops u v q) (value K.ops l r)) (K.mul (value K.ops l q) (determinant K.ops u v r))
      ≡ K.sub (K.mul (value K.ops l u) (determinant K.ops v q r)) (K.mul (value K.ops l v) (determinant K.ops u q r))
  exchange_values l u v q r =
      ring K (l.a ∷ l.b ∷ l.c ∷ u.x ∷ u.y ∷ u.w ∷ v.x ∷ v.y ∷ v.w ∷ q.x ∷ q.y ∷ q.w ∷ r.x ∷ r.y ∷ r.w ∷ []) (search reads depth 60 fits 100000) (search reads depth 60 fits 100000) tt

  zero_both : (a b x y : A) → a ≡ K.int (pos 0) → b ≡ K.int (pos 0) → K.sub (K.mul a x) (K.mul b y) ≡ K.int (pos 0)
  zero_both a b x y e f =
      ring_from K (a ∷ b ∷ x ∷ y ∷ []) (multiple x (search reads depth 40 fits 50000) (search reads depth 40 fits 50000) (search reads depth 40 fits 50000) e (multiple (K.neg y) (search reads depth 40 fits 50000) (search reads depth 40 fits 50000) (search reads depth 40 fits 50000) f no_equation)) (search reads depth 40 fits 50000) (search reads depth 40 fits 50000) tt

  -- where the line goes through u and v, its values are proportional to the determinants with them
  pub proportional : (l : Line A) (u v q r : Point A) → K.sign (value K.ops l u) ≡ Equal → K.sign (value K.ops l v) ≡ Equal
      → K.mul (determinant K.ops u v q) (value K.ops l r) ≡ K.mul (value K.ops l q) (determinant K.ops u v r)
  proportional l u v q r hu hv =
      equal_of_difference K.ops K.laws (K.mul (determinant K.ops u v q) (value K.ops l r)) (K.mul (value K.ops l q) (determinant K.ops u v r))
      (exchange_values l u v q r ∙ zero_both (value K.ops l u) (value K.ops l v) (determinant K.ops v q r) (determinant K.ops u q r) (K.sign_zero (value K.ops l u) hu) (K.sign_zero (value K.ops l v) hv))

  pub times_zero : (t a : A) → a ≡ K.int (pos 0) → K.mul t a ≡ K.int (pos 0)
  times_zero t a e = ring_from K (t ∷ a ∷ []) (multiple t (search reads depth 40 fits 50000) (search reads depth 40 fits 50000) (search reads depth 40 fits 50000) e no_equation) (search reads depth 40 fits 50000) (search reads depth 40 fits 50000) tt

  pub zero_times : (a t : A) → a ≡ K.int (pos 0) → K.mul a t ≡ K.int (pos 0)
  zero_times a t e = ring_from K (t ∷ a ∷ []) (multiple t (search reads depth 40 fits 50000) (search reads depth 40 fits 50000) (search reads depth 40 fits 50000) e no_equation) (search reads depth 40 fits 50000) (search reads depth 40 fits 50000) tt

  -- ---- one point

  pub same_refl : (p : Point A) → IsSamePoint K p p
  same_refl p = record { same_x = refl; same_y = refl }

  pub same_turned : {p q : Point A} → IsSamePoint K p q → IsSamePoint K q p
  same_turned h = record { same_x = sym h.same_x; same_y = sym h.same_y }

  pub same_through : (p q r : Point A) → IsPoint K q → IsSamePoint K p q → IsSamePoint K q r → IsSamePoint K p r
  same_through p q r hq h k = record {
    same_x = ring_from_multiple K (p.x ∷ p.w ∷ q.x ∷ q.w ∷ r.x ∷ r.w ∷ []) (multiple r.w (search reads depth 40 fits 50000) (search reads depth 40 fits 50000) (search reads depth 40 fits 50000) h.same_x (multiple p.w (search reads depth 40 fits 50000) (search reads depth 40 fits 50000) (search reads depth 40 fits 50000) k.same_x no_equation)) (search reads depth 40 fits 50000) (λ e. let f = sym hq ∙ e in cc) (search reads depth 40 fits 50000) (search reads depth 40 fits 50000) tt;
    same_y = ring_from_multiple K (p.y ∷ p.w ∷ q.y ∷ q.w ∷ r.y ∷ r.w ∷ []) (multiple r.w (search reads depth 40 fits 50000) (search reads depth 40 fits 50000) (search reads depth 40 fits 50000) h.same_y (multiple p.w (search reads depth 40 fits 50000) (search reads depth 40 fits 50000) (search reads depth 40 fits 50000) k.same_y no_equation)) (search reads depth 40 fits 50000) (λ e. let f = sym hq ∙ e in cc) (search reads depth 40 fits 50000) (search reads depth 40 fits 50000) tt;
  }

  pub same_by_signs : {p q : Point A} → (K.sign (x_from K.ops p q) ≡ Equal) × (K.sign (y_from K.ops p q) ≡ Equal) → IsSamePoint K p q
  same_by_signs {p} {q} h = record {
    same_x = ring_from K (p.x ∷ p.w ∷ q.x ∷ q.w ∷ []) (multiple (K.int (negsuc 0)) (search reads depth 40 fits 50000) (search reads depth 40 fits 50000) (search reads depth 40 fits 50000) (K.sign_zero (x_from K.ops p q) h.0) no_equation) (search reads depth 40 fits 50000) (search reads depth 40 fits 50000) tt;
    same_y = ring_from K (p.y ∷ p.w ∷ q.y ∷ q.w ∷ []) (multiple (K.int (negsuc 0)) (search reads depth 40 fits 50000) (search reads depth 40 fits 50000) (search reads depth 40 fits 50000) (K.sign_zero (y_from K.ops p q) h.1) no_equation) (search reads depth 40 fits 50000) (search reads depth 40 fits 50000) tt;
  }

  pub signs_of_same : {p q : Point A} → IsSamePoint K p q → (K.sign (x_from K.ops p q) ≡ Equal) × (K.sign (y_from K.ops p q) ≡ Equal)
  signs_of_same {p} {q} h =
      let x : x_from K.ops p q ≡ K.int (pos 0) = ring_from K (p.x ∷ p.w ∷ q.x ∷ q.w ∷ []) (multiple (K.int (negsuc 0)) (search reads depth 40 fits 50000) (search reads depth 40 fits 50000) (search reads depth 40 fits 50000) h.same_x no_equation) (search reads depth 40 fits 50000) (search reads depth 40 fits 50000) tt in
      let y : y_from K.ops p q ≡ K.int (pos 0) = ring_from K (p.y ∷ p.w ∷ q.y ∷ q.w ∷ []) (multiple (K.int (negsuc 0)) (search reads depth 40 fits 50000) (search reads depth 40 fits 50000) (search reads depth 40 fits 50000) h.same_y no_equation) (search reads depth 40 fits 50000) (search reads depth 40 fits 50000) tt in
      (zero_sign K (x_from K.ops p q) x, zero_sign K (y_from K.ops p q) y)

  -- the same by the upright and the level line through p
  pub from_x_itself : (a : Point A) → K.sign (value K.ops (from_x a) a) ≡ Equal
  from_x_itself a = zero_sign K (value K.ops (from_x a) a) (value_from_x a a ∙ x_itself a)

  pub from_y_itself : (a : Point A) → K.sign (value K.ops (from_y a) a) ≡ Equal
  from_y_itself a = zero_sign K (value K.ops (from_y a) a) (value_from_y a a ∙ y_itself a)

  pub to_x_itself : (a : Point A) → K.sign (value K.ops (to_x a) a) ≡ Equal
  to_x_itself a = zero_sign K (value K.ops (to_x a) a) (value_to_x a a ∙ x_itself a)

  pub same_by_lines : {p q : Point A} → (K.sign (value K.ops (from_x p) q) ≡ Equal) × (K.sign (value K.ops (from_y p) q) ≡ Equal) → IsSamePoint K p q
  same_by_lines {p} {q} h = same_by_signs (ap K.sign (sym (value_from_x p q)) ∙ h.0, ap K.sign (sym (value_from_y p q)) ∙ h.1)

  pub lines_of_same : {p q : Point A} → IsSamePoint K p q → (K.sign (value K.ops (from_x p) q) ≡ Equal) × (K.sign (value K.ops (from_y p) q) ≡ Equal)
  lines_of_same {p} {q} h = let s = signs_of_same h in (ap K.sign (value_from_x p q) ∙ s.0, ap K.sign (value_from_y p q) ∙ s.1)

  -- a line has one sign at one point
  pub sign_at_same : (l : Line A) (p q : Point A) → IsPoint K p → IsPoint K q → IsSamePoint K p q → K.sign (value K.ops l p) ≡ K.sign (value K.ops l q)
  sign_at_same l p q hp hq h =
      let scaled : K.mul q.w (value K.ops l p) ≡ K.mul p.w (value K.ops l q)
      = ring_from K (l.a ∷ l.b ∷ l.c ∷ p.x ∷ p.y ∷ p.w ∷ q.x ∷ q.y ∷ q.w ∷ []) (multiple l.a (search reads depth 40 fits 50000) (search reads depth 40 fits 50000) (search reads depth 40 fits 50000) h.same_x (multiple l.b (search reads depth 40 fits 50000) (search reads depth 40 fits 50000) (search reads depth 40 fits 50000) h.same_y no_equation)) (search reads depth 40 fits 50000) (search reads depth 40 fits 50000) tt in
      sym (sign_of_multiple K q.w (value K.ops l p) hq) ∙ ap K.sign scaled ∙ sign_of_multiple K p.w (value K.ops l q) hp

  unit_x : Point A
  unit_x = record { x = K.int (pos 1); y = K.int (pos 0); w = K.int (pos 0) }

  unit_y : Point A
  unit_y = record { x = K.int (pos 0); y = K.int (pos 1); w = K.int (pos 0) }

  -- where every point lies on the line through p and q, these are the same
  pub same_of_flat : (p q : Point A) → ((y : Point A) → determinant K.ops p q y ≡ K.int (pos 0)) → IsSamePoint K p q
  unfolding unit_x unit_y
  same_of_flat p q h = record {
    same_x = ring_from K (p.x ∷ p.y ∷ p.w ∷ q.x ∷ q.y ∷ q.w ∷ []) (multiple (K.neg (K.int (pos 1))) (search reads depth 40 fits 50000) (search reads depth 40 fits 50000) (search reads depth 40 fits 50000) (h unit_y) no_equation) (search reads depth 40 fits 50000) (search reads depth 40 fits 50000) tt;
    same_y = ring_from K (p.x ∷ p.y ∷ p.w ∷ q.x ∷ q.y ∷ q.w ∷ []) (multiple (K.int (pos 1)) (search reads depth 40 fits 50000) (search reads depth 40 fits 50000) (search reads depth 40 fits 50000) (h unit_x) no_equation) (search reads depth 40 fits 50000) (search reads depth 40 fits 50000) tt;
  }

  -- where p and q are the same, every point lies on the line through them
  pub flat_of_same : (p q y : Point A) → IsPoint K p → IsSamePoint K p q → value K.ops (line K.ops p q) y ≡ K.int (pos 0)
  flat_of_same p q y ip h =
      ring_from_multiple K (p.x ∷ p.y ∷ p.w ∷ q.x ∷ q.y ∷ q.w ∷ y.x ∷ y.y ∷ y.w ∷ [])
      (multiple (K.sub (K.mul p.w y.x) (K.mul p.x y.w)) (search reads depth 40 fits 50000) (search reads depth 40 fits 50000) (search reads depth 40 fits 50000) h.same_y
      (multiple (K.sub (K.mul p.y y.w) (K.mul p.w y.y)) (search reads depth 40 fits 50000) (search reads depth 40 fits 50000) (search reads depth 40 fits 50000) h.same_x no_equation))
      (search reads depth 40 fits 50000) (λ e. let f = sym ip ∙ e in cc) (search reads depth 40 fits 50000) (search reads depth 40 fits 50000) tt

  -- where a line m that isn't everywhere zero holds two different points p and q, and c, each line l through p and q holds c too
  pub holds_too : (l m : Line A) (p q c v : Point A) → ¬ IsSamePoint K p q → K.sign (value K.ops l p) ≡ Equal → K.sign (value K.ops l q) ≡ Equal
      → K.sign (value K.ops m p) ≡ Equal → K.sign (value K.ops m q) ≡ Equal → K.sign (value K.ops m c) ≡ Equal → ¬ (K.sign (value K.ops m v) ≡ Equal) → K.sign (value K.ops l c) ≡ Equal
  holds_too l m p q c v n lp lq mp mq mc mv = at (K.sign (value K.ops l c)) refl
    where
      in_line : K.sign (determinant K.ops p q c) ≡ Equal
      in_line = factor_zero K (determinant K.ops p q c) (value K.ops m v) (proportional m p q c v mp mq ∙ zero_times (value K.ops m c) (determinant K.ops p q v) (K.sign_zero (value K.ops m c) mc)) mv

      flat : ¬ (K.sign (value K.ops l c) ≡ Equal) → (y : Point A) → determinant K.ops p q y ≡ K.int (pos 0)
      flat k y =
          K.sign_zero (determinant K.ops p q y) (factor_zero K (determinant K.ops p q y) (value K.ops l c)
          (K.mul_comm (determinant K.ops p q y) (value K.ops l c) ∙ sym (proportional l p q c y lp lq) ∙ zero_times (determinant K.ops p q c) (value K.ops l y) (K.sign_zero (determinant K.ops p q c) in_line)) k)

      at : (o : Ordering) → K.sign (value K.ops l c) ≡ o → K.sign (value K.ops l c) ≡ Equal
      at Less e = absurd (n (same_of_flat p q (flat (λ z. let f = sym e ∙ z in cc))))
      at Equal e = e
      at Greater e = absurd (n (same_of_flat p q (flat (λ z. let f = sym e ∙ z in cc))))
