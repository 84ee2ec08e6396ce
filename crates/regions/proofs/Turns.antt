-- The order of directions clockwise from one of them, through a full turn.
use Prim.Native.Nat.{ℕ}
use mathlib.Core.Path.{◌≡◌, refl, sym, ap, ◌∙◌, subst, subst₂}
use mathlib.Core.List.{List, [], ◌∷◌}
use mathlib.Core.Logic.{◌⊎◌, inl, inr}
use lib.IntN.{pos}
use native.Mathlib.Decide.{ℕ_discrete}
use Rattle.std.specs.declared.cmp.Ordering.{Ordering}
use Rattle.std.specs.declared.cmp.Ordering.TheVariants.{Less, Equal, Greater}
use Rattle.std.specs.Ordering.{ordering_reverse}
use Rattle.algebra.specs.OrderedRing.{OrderedRing}
use Rattle.plane.specs.declared.point.Point.{Point}
use Rattle.plane.specs.Lines.{determinant}
use Rattle.algebra.proofs.Solvers.{ring, ring_from, multiple, no_equation, reads, sign_from_multiple, known, no_sign, given, sum, product, negated, positive, negative, at_zero, sign_neg}
use Rattle.regions.proofs.Drawings.{Piece, piece, IsDirected, IsPlane}
use Rattle.plane.proofs.Lines.{same_turned, at_first, at_second, swapped, swapped_last}
use Rattle.plane.proofs.Signs.{zero_is}
use Rattle.regions.proofs.InnerPoints.{Ends, directed_ends, beside, beside_left}
use Rattle.std.proofs.Common.{arith, ◌<◌, lt_trans, ◌≤◌}
use Rattle.regions.proofs.Walks.{part_of_turn, ComesBefore}
use Rattle.regions.proofs.Directions.{part_same, part_other, opposite_side}
use Rattle.std.proofs.lemmas.Bool.{cases_lt}

module _ {A : Type 0} (K : OrderedRing A) where
  opposite_greater : (a : A) → K.sign a ≡ Less → K.sign (K.neg a) ≡ Greater
  opposite_greater a h = sign_neg K a ∙ ap ordering_reverse h

  -- signs of the six turns between four directions
  module _ (yv xw yx vw yw vx : A) (e : K.mul yv xw ≡ K.sub (K.mul yx vw) (K.mul yw vx)) where
    abbrev xs : List A
    xs = yv ∷ xw ∷ yx ∷ vw ∷ yw ∷ vx ∷ []

    zero : K.sign (K.sub (K.mul yv xw) (K.sub (K.mul yx vw) (K.mul yw vx))) ≡ Equal
    zero = ap K.sign (ring_from K (yv ∷ xw ∷ yx ∷ vw ∷ yw ∷ vx ∷ []) (multiple (K.int (pos 1)) (search reads depth 40 fits 50000) (search reads depth 40 fits 50000) (search reads depth 40 fits 50000) e no_equation) (search reads depth 40 fits 50000) (search reads depth 40 fits 50000) tt) ∙ K.sign_int (pos 0)

    all_right : K.sign yv ≡ Less → K.sign yx ≡ Less → K.sign vw ≡ Less → K.sign yw ≡ Less → K.sign vx ≡ Greater → K.sign xw ≡ Less
    all_right h_yv h_yx h_vw h_yw h_vx =
        sign_from_multiple K xs
        (known at_zero (search reads depth 40 fits 50000) zero (known negative (search reads depth 40 fits 50000) h_yv (known negative (search reads depth 40 fits 50000) h_yx (known negative (search reads depth 40 fits 50000) h_vw (known negative (search reads depth 40 fits 50000) h_yw (known positive (search reads depth 40 fits 50000) h_vx no_sign))))))
        negative (search reads depth 40 fits 50000) (opposite_greater yv h_yv) (search reads depth 40 fits 50000) (sum (sum (negated (given 0)) (negated (product (given 2) (given 3)))) (product (given 4) (given 5))) tt tt

    all_left : K.sign yv ≡ Greater → K.sign yx ≡ Greater → K.sign vw ≡ Less → K.sign yw ≡ Greater → K.sign vx ≡ Greater → K.sign xw ≡ Less
    all_left h_yv h_yx h_vw h_yw h_vx =
        sign_from_multiple K xs
        (known at_zero (search reads depth 40 fits 50000) zero (known positive (search reads depth 40 fits 50000) h_yv (known positive (search reads depth 40 fits 50000) h_yx (known negative (search reads depth 40 fits 50000) h_vw (known positive (search reads depth 40 fits 50000) h_yw (known positive (search reads depth 40 fits 50000) h_vx no_sign))))))
        negative (search reads depth 40 fits 50000) h_yv (search reads depth 40 fits 50000) (sum (sum (given 0) (product (given 2) (given 3))) (negated (product (given 4) (given 5)))) tt tt

    inside_right : K.sign yv ≡ Less → K.sign xw ≡ Less → K.sign vw ≡ Less → K.sign yw ≡ Less → K.sign vx ≡ Less → K.sign yx ≡ Less
    inside_right h_yv h_xw h_vw h_yw h_vx =
        sign_from_multiple K xs
        (known at_zero (search reads depth 40 fits 50000) zero (known negative (search reads depth 40 fits 50000) h_yv (known negative (search reads depth 40 fits 50000) h_xw (known negative (search reads depth 40 fits 50000) h_vw (known negative (search reads depth 40 fits 50000) h_yw (known negative (search reads depth 40 fits 50000) h_vx no_sign))))))
        negative (search reads depth 40 fits 50000) (opposite_greater vw h_vw) (search reads depth 40 fits 50000) (sum (sum (given 0) (negated (product (given 1) (given 2)))) (negated (product (given 4) (given 5)))) tt tt

    inside_left : K.sign yv ≡ Greater → K.sign xw ≡ Less → K.sign vw ≡ Less → K.sign yw ≡ Greater → K.sign vx ≡ Less → K.sign yx ≡ Greater
    inside_left h_yv h_xw h_vw h_yw h_vx =
        sign_from_multiple K xs
        (known at_zero (search reads depth 40 fits 50000) zero (known positive (search reads depth 40 fits 50000) h_yv (known negative (search reads depth 40 fits 50000) h_xw (known negative (search reads depth 40 fits 50000) h_vw (known positive (search reads depth 40 fits 50000) h_yw (known negative (search reads depth 40 fits 50000) h_vx no_sign))))))
        positive (search reads depth 40 fits 50000) (opposite_greater vw h_vw) (search reads depth 40 fits 50000) (sum (sum (given 0) (negated (product (given 1) (given 2)))) (negated (product (given 4) (given 5)))) tt tt

    round_back : K.sign yv ≡ Less → K.sign yx ≡ Greater → K.sign vw ≡ Greater → K.sign yw ≡ Greater → K.sign vx ≡ Less → K.sign xw ≡ Less
    round_back h_yv h_yx h_vw h_yw h_vx =
        sign_from_multiple K xs
        (known at_zero (search reads depth 40 fits 50000) zero (known negative (search reads depth 40 fits 50000) h_yv (known positive (search reads depth 40 fits 50000) h_yx (known positive (search reads depth 40 fits 50000) h_vw (known positive (search reads depth 40 fits 50000) h_yw (known negative (search reads depth 40 fits 50000) h_vx no_sign))))))
        negative (search reads depth 40 fits 50000) (opposite_greater yv h_yv) (search reads depth 40 fits 50000) (sum (sum (negated (given 0)) (negated (product (given 2) (given 3)))) (product (given 4) (given 5))) tt tt

-- ---- the part of a turn, with what it tells

module _ {A : Type 0} (K : OrderedRing A) (place : ℕ → Point A) (ps : List Piece) (plane : IsPlane K place ps) (c : ℕ) where
  -- where vx lies of vu, at the vertex c
  abbrev pub turn_of : ℕ → ℕ → Ordering
  turn_of u x = K.sign (determinant K.ops (place c) (place u) (place x))

  abbrev pub IsNear : ℕ → Type 0
  IsNear x = IsDirected ps (piece c x)

  abbrev pub part : ℕ → ℕ → ℕ
  part u x = part_of_turn K place c u x

  abbrev pub Before : ℕ → ℕ → ℕ → Type 0
  Before u x w = ComesBefore K place c u x w

  turn_back : (u x : ℕ) → turn_of x u ≡ ordering_reverse (turn_of u x)
  turn_back u x = swapped_last K (place c) (place u) (place x)

  turn_self : (u : ℕ) → turn_of u u ≡ Equal
  turn_self u = at_second K (place c) (place u)

  -- opposite directions
  turn_opposite : (u x : ℕ) → IsNear u → IsNear x → ¬ (x ≡ u) → turn_of u x ≡ Equal → (z : ℕ) → turn_of x z ≡ ordering_reverse (turn_of u z)
  turn_opposite u x hu hx n h z =
      let from : Ends K place (piece c u) = directed_ends K place ps plane (piece c u) hu in
      opposite_side K place ps plane c u x hu hx (λ e. n (sym e)) h (beside K (place u) (place c) (place c))
      (swapped K (place u) (place c) (beside K (place u) (place c) (place c))
      ∙ ap ordering_reverse (beside_left K (place u) (place c) (place c) (λ s. from.different (same_turned K s)) (zero_is K (at_second K (place u) (place c)))))
      (place z)

  data View (u x : ℕ) : Type 0 where
    own : x ≡ u → part u x ≡ 3 → View u x
    right : ¬ (x ≡ u) → turn_of u x ≡ Less → part u x ≡ 0 → View u x
    ahead : ¬ (x ≡ u) → turn_of u x ≡ Equal → part u x ≡ 1 → View u x
    left : ¬ (x ≡ u) → turn_of u x ≡ Greater → part u x ≡ 2 → View u x

  view : (u x : ℕ) → View u x
  view u x = elim (ℕ_discrete x u) [
    | yes e ↦ own e (part_same K place c u x e)
    | no n ↦ by_sign n (turn_of u x) refl
  ]
    where
      by_sign : ¬ (x ≡ u) → (s : Ordering) → turn_of u x ≡ s → View u x
      by_sign n Less h = right n h (part_other K place c u x Less n h)
      by_sign n Equal h = ahead n h (part_other K place c u x Equal n h)
      by_sign n Greater h = left n h (part_other K place c u x Greater n h)

  by_parts : (u x w : ℕ) {a b : ℕ} → part u x ≡ a → part u w ≡ b → Before u x w → (a < b) ⊎ ((a ≡ b) × (turn_of x w ≡ Less))
  by_parts u x w {a} {b} ex ew h =
      subst₂ (λ a b. (a < b) ⊎ ((a ≡ b) × (turn_of x w ≡ Less))) ex ew h

  earlier : (u x w : ℕ) {a b : ℕ} → part u x ≡ a → part u w ≡ b → a < b → Before u x w
  earlier u x w {a} {b} ex ew h = inl (subst₂ (λ a b. a < b) (sym ex) (sym ew) h)

  beside_it : (u x w : ℕ) {a : ℕ} → part u x ≡ a → part u w ≡ a → turn_of x w ≡ Less → Before u x w
  beside_it u x w ex ew h = inr (ex ∙ sym ew, h)

  -- ---- three directions at c: [y v] [x w] = [y x] [v w] - [y w] [v x]

  abbrev det : ℕ → ℕ → A
  det a b = determinant K.ops (place c) (place a) (place b)

  exchange_turns : (y v w x : ℕ) → K.mul (det y v) (det x w) ≡ K.sub (K.mul (det y x) (det v w)) (K.mul (det y w) (det v x))
  exchange_turns y v w x = ring K ((place c).x ∷ (place c).y ∷ (place c).w ∷ (place y).x ∷ (place y).y ∷ (place y).w ∷ (place v).x ∷ (place v).y ∷ (place v).w ∷ (place w).x ∷ (place w).y ∷ (place w).w
      ∷ (place x).x ∷ (place x).y ∷ (place x).w ∷ []) (search reads depth 40 fits 50000) (search reads depth 40 fits 50000) tt

  -- ---- the order

  to_greater : {u x : ℕ} → turn_of u x ≡ Less → turn_of x u ≡ Greater
  to_greater {u} {x} h = turn_back u x ∙ ap ordering_reverse h

  to_less : {u x : ℕ} → turn_of u x ≡ Greater → turn_of x u ≡ Less
  to_less {u} {x} h = turn_back u x ∙ ap ordering_reverse h

  pub never_itself : (u x : ℕ) → ¬ Before u x x
  never_itself u x (inl h) = omega arith
  never_itself u x (inr h) = let e : turn_of x x ≡ Equal = turn_self x in absurd (cc)

  -- nothing comes before itself from u on, nor does u before another
  pub own_last : (u x : ℕ) → ¬ Before u u x
  own_last u x h = by_view (view u x)
    where
      own_part : part u u ≡ 3
      own_part = part_same K place c u u refl

      by_view : View u x → ⊥
      by_view (own e p) = elim (by_parts u u x own_part p h) [ inl l ↦ omega arith | inr g ↦ (let z : turn_of u x ≡ Equal = subst (λ x. turn_of u x ≡ Equal) (sym e) (turn_self u) in let g' : turn_of u x ≡ Less = g.1 in absurd (cc)) ]
      by_view (right n s p) = elim (by_parts u u x own_part p h) [ inl l ↦ omega arith | inr g ↦ omega (arith, g.0) ]
      by_view (ahead n s p) = elim (by_parts u u x own_part p h) [ inl l ↦ omega arith | inr g ↦ omega (arith, g.0) ]
      by_view (left n s p) = elim (by_parts u u x own_part p h) [ inl l ↦ omega arith | inr g ↦ omega (arith, g.0) ]

  differ : {m a b : ℕ} → m ≡ a → m ≡ b → ¬ (a ≡ b) → ⊥
  differ e f n = n (sym e ∙ f)

  is_right : (u x : ℕ) → part u x ≡ 0 → turn_of u x ≡ Less
  is_right u x e = by_view (view u x)
    where
      by_view : View u x → turn_of u x ≡ Less
      by_view (own g p) = absurd (differ p e (λ e. omega arith))
      by_view (right n h p) = h
      by_view (ahead n h p) = absurd (differ p e (λ e. omega arith))
      by_view (left n h p) = absurd (differ p e (λ e. omega arith))

  is_ahead : (u x : ℕ) → part u x ≡ 1 → (¬ (x ≡ u)) × (turn_of u x ≡ Equal)
  is_ahead u x e = by_view (view u x)
    where
      by_view : View u x → (¬ (x ≡ u)) × (turn_of u x ≡ Equal)
      by_view (own g p) = absurd (differ p e (λ e. omega arith))
      by_view (right n h p) = absurd (differ p e (λ e. omega arith))
      by_view (ahead n h p) = (n, h)
      by_view (left n h p) = absurd (differ p e (λ e. omega arith))

  is_left : (u x : ℕ) → part u x ≡ 2 → turn_of u x ≡ Greater
  is_left u x e = by_view (view u x)
    where
      by_view : View u x → turn_of u x ≡ Greater
      by_view (own g p) = absurd (differ p e (λ e. omega arith))
      by_view (right n h p) = absurd (differ p e (λ e. omega arith))
      by_view (ahead n h p) = absurd (differ p e (λ e. omega arith))
      by_view (left n h p) = h

  is_own : (u x : ℕ) → part u x ≡ 3 → x ≡ u
  is_own u x e = by_view (view u x)
    where
      by_view : View u x → x ≡ u
      by_view (own g p) = g
      by_view (right n h p) = absurd (differ p e (λ e. omega arith))
      by_view (ahead n h p) = absurd (differ p e (λ e. omega arith))
      by_view (left n h p) = absurd (differ p e (λ e. omega arith))

  not_equal_less : {s : Ordering} → s ≡ Equal → s ≡ Less → ⊥
  not_equal_less e h = absurd (cc)

  -- of two opposite directions to u neither is right of the other; nor is u of itself
  ahead_both : (u x v : ℕ) → IsNear u → IsNear x → part u x ≡ 1 → part u v ≡ 1 → ¬ (turn_of x v ≡ Less)
  ahead_both u x v hu hx ex ev h =
      not_equal_less (turn_opposite u x hu hx (is_ahead u x ex).0 (is_ahead u x ex).1 v ∙ ap ordering_reverse (is_ahead u v ev).1) h

  own_both : (u x v : ℕ) → part u x ≡ 3 → part u v ≡ 3 → ¬ (turn_of x v ≡ Less)
  own_both u x v ex ev h = not_equal_less (subst (λ v. turn_of x v ≡ Equal) (is_own u x ex ∙ sym (is_own u v ev)) (turn_self x)) h

  -- of three, in one part of the turn
  same_part : (u x v w : ℕ) → IsNear u → IsNear x → View u v → part u x ≡ part u v → part u v ≡ part u w → turn_of x v ≡ Less → turn_of v w ≡ Less → turn_of x w ≡ Less
  same_part u x v w hu hx (own e p) ex ew s t = absurd (own_both u x v (ex ∙ p) p s)
  same_part u x v w hu hx (right n g p) ex ew s t =
      all_right K (det u v) (det x w) (det u x) (det v w) (det u w) (det v x) (exchange_turns u v w x)
      g (is_right u x (ex ∙ p)) t (is_right u w (sym ew ∙ p)) (to_greater s)
  same_part u x v w hu hx (ahead n g p) ex ew s t = absurd (ahead_both u x v hu hx (ex ∙ p) p s)
  same_part u x v w hu hx (left n g p) ex ew s t =
      all_left K (det u v) (det x w) (det u x) (det v w) (det u w) (det v x) (exchange_turns u v w x)
      g (is_left u x (ex ∙ p)) t (is_left u w (sym ew ∙ p)) (to_greater s)

  pub before_then : (u x v w : ℕ) → IsNear u → IsNear x → Before u x v → Before u v w → Before u x w
  before_then u x v w hu hx (inl h) (inl k) = inl (lt_trans h k)
  before_then u x v w hu hx (inl h) (inr k) = inl (subst (λ n. part u x < n) k.0 h)
  before_then u x v w hu hx (inr h) (inl k) = inl (subst (λ n. n < part u w) (sym h.0) k)
  before_then u x v w hu hx (inr h) (inr k) = inr (h.0 ∙ k.0, same_part u x v w hu hx (view u v) h.0 k.0 h.1 k.1)

  -- ---- what comes between v and w as seen from v does so as seen from u

  -- the directions that come before w from v on, where w is right of v
  before_right : (v x w : ℕ) → turn_of v w ≡ Less → Before v x w → (turn_of v x ≡ Less) × (turn_of x w ≡ Less)
  before_right v x w h k = by_view (view v w)
    where
      by_view : View v w → (turn_of v x ≡ Less) × (turn_of x w ≡ Less)
      by_view (own e p) = absurd (not_equal_less (subst (λ w. turn_of v w ≡ Equal) (sym e) (turn_self v)) h)
      by_view (right n g p) = elim (by_parts v x w refl p k) [ inl l ↦ absurd (omega arith) | inr l ↦ (is_right v x l.0, l.1) ]
      by_view (ahead n g p) = absurd (not_equal_less g h)
      by_view (left n g p) = absurd (cc)

  part_right : (u x : ℕ) → turn_of u x ≡ Less → part u x ≡ 0
  part_right u x h = part_other K place c u x Less (λ e. not_equal_less (subst (λ x. turn_of u x ≡ Equal) (sym e) (turn_self u)) h) h

  part_left : (u x : ℕ) → turn_of u x ≡ Greater → part u x ≡ 2
  part_left u x h = part_other K place c u x Greater (λ e. let z : turn_of u x ≡ Equal = subst (λ x. turn_of u x ≡ Equal) (sym e) (turn_self u) in absurd (cc)) h

  reversed_greater : (s : Ordering) → ordering_reverse s ≡ Greater → s ≡ Less
  reversed_greater Less h = refl
  reversed_greater Equal h = absurd (cc)
  reversed_greater Greater h = absurd (cc)

  reversed_less : (s : Ordering) → ordering_reverse s ≡ Less → s ≡ Greater
  reversed_less Less h = absurd (cc)
  reversed_less Equal h = absurd (cc)
  reversed_less Greater h = refl

  -- the parts of the turn in which two directions lie leave no order but one
  no_order : (u x w : ℕ) {a b : ℕ} → part u x ≡ a → part u w ≡ b → b < a → ¬ Before u x w
  no_order u x w ex ew h k = elim (by_parts u x w ex ew k) [ inl l ↦ omega arith | inr l ↦ omega (arith, l.0) ]

  same_order : (u x w : ℕ) {a : ℕ} → part u x ≡ a → part u w ≡ a → Before u x w → turn_of x w ≡ Less
  same_order u x w ex ew k = elim (by_parts u x w ex ew k) [ inl l ↦ absurd (omega arith) | inr l ↦ l.1 ]

  module _ (y v w x : ℕ) (hy : IsNear y) (hv : IsNear v) (hw : IsNear w) (hx : IsNear x) (first : Before y v w) (second : Before v x w) where
    -- w is y itself
    to_own : w ≡ y → part y w ≡ 3 → Before y x w
    to_own e q = by_view (view y x)
      where
        by_view : View y x → Before y x w
        by_view (own f p) = absurd (never_itself v w (subst (λ x. Before v x w) (f ∙ sym e) second))
        by_view (right n g p) = earlier y x w p q (omega arith)
        by_view (ahead n g p) = earlier y x w p q (omega arith)
        by_view (left n g p) = earlier y x w p q (omega arith)

    -- v right of y, and w left of it
    not_y : turn_of y v ≡ Less → turn_of y w ≡ Greater → ¬ (x ≡ y)
    not_y yv yw e = by_view (view v w)
      where
        second_y : Before v y w
        second_y = subst (λ x. Before v x w) e second

        part_y : part v y ≡ 2
        part_y = part_left v y (to_greater yv)

        by_view : View v w → ⊥
        by_view (own f p) = let z : turn_of y v ≡ Greater = subst (λ w. turn_of y w ≡ Greater) f yw in absurd (cc)
        by_view (right n g p) = no_order v y w part_y p (omega arith) second_y
        by_view (ahead n g p) = no_order v y w part_y p (omega arith) second_y
        by_view (left n g p) = let z : turn_of y w ≡ Less = same_order v y w part_y p second_y in absurd (cc)

    right_of_w : turn_of y v ≡ Less → turn_of y w ≡ Greater → turn_of y x ≡ Greater → turn_of x w ≡ Less
    right_of_w yv yw yx = by_view (view v w) (view v x)
      where
        by_view : View v w → View v x → turn_of x w ≡ Less
        by_view (own f p) s = let z : turn_of y v ≡ Greater = subst (λ w. turn_of y w ≡ Greater) f yw in absurd (cc)
        by_view (right n g p) s = (before_right v x w g second).1
        by_view (ahead n g p) (own f q) = absurd (no_order v x w q p (omega arith) second)
        by_view (ahead n g p) (right m r q) = to_less_of (turn_opposite v w hv hw n g x ∙ ap ordering_reverse r)
          where
            to_less_of : turn_of w x ≡ Greater → turn_of x w ≡ Less
            to_less_of h = turn_back w x ∙ ap ordering_reverse h
        by_view (ahead n g p) (ahead m r q) = same_order v x w q p second
        by_view (ahead n g p) (left m r q) = absurd (no_order v x w q p (omega arith) second)
        by_view (left n g p) (own f q) = absurd (no_order v x w q p (omega arith) second)
        by_view (left n g p) (right m r q) =
            round_back K (det y v) (det x w) (det y x) (det v w) (det y w) (det v x) (exchange_turns y v w x) yv yx g yw r
        by_view (left n g p) (ahead m r q) = turn_opposite v x hv hx m r w ∙ ap ordering_reverse g
        by_view (left n g p) (left m r q) = same_order v x w q p second

    right_then_left : turn_of y v ≡ Less → turn_of y w ≡ Greater → part y w ≡ 2 → Before y x w
    right_then_left yv yw q = by_view (view y x)
      where
        by_view : View y x → Before y x w
        by_view (own f p) = absurd (not_y yv yw f)
        by_view (right n g p) = earlier y x w p q (omega arith)
        by_view (ahead n g p) = earlier y x w p q (omega arith)
        by_view (left n g p) = beside_it y x w p q (right_of_w yv yw g)

    by_views : View y v → View y w → Before y x w
    by_views r (own e q) = to_own e q
    by_views (own e p) (right n g q) = absurd (no_order y v w p q (omega arith) first)
    by_views (own e p) (ahead n g q) = absurd (no_order y v w p q (omega arith) first)
    by_views (own e p) (left n g q) = absurd (no_order y v w p q (omega arith) first)
    by_views (right m r p) (right n g q) =
        let vw : turn_of v w ≡ Less = same_order y v w p q first in
        let s : (turn_of v x ≡ Less) × (turn_of x w ≡ Less) = before_right v x w vw second in
        let yx : turn_of y x ≡ Less = inside_right K (det y v) (det x w) (det y x) (det v w) (det y w) (det v x) (exchange_turns y v w x) r s.1 vw g s.0 in
        beside_it y x w (part_right y x yx) q s.1
    by_views (right m r p) (ahead n g q) =
        let vw : turn_of v w ≡ Less = turn_back w v ∙ ap ordering_reverse (turn_opposite y w hy hw n g v ∙ ap ordering_reverse r) in
        let s : (turn_of v x ≡ Less) × (turn_of x w ≡ Less) = before_right v x w vw second in
        let yx : turn_of y x ≡ Less = reversed_greater (turn_of y x) (sym (turn_opposite y w hy hw n g x) ∙ turn_back x w ∙ ap ordering_reverse s.1) in
        earlier y x w (part_right y x yx) q (omega arith)
    by_views (right m r p) (left n g q) = right_then_left r g q
    by_views (ahead m r p) (right n g q) = absurd (no_order y v w p q (omega arith) first)
    by_views (ahead m r p) (ahead n g q) = absurd (ahead_both y v w hy hv p q (same_order y v w p q first))
    by_views (ahead m r p) (left n g q) =
        let vw : turn_of v w ≡ Less = turn_opposite y v hy hv m r w ∙ ap ordering_reverse g in
        let s : (turn_of v x ≡ Less) × (turn_of x w ≡ Less) = before_right v x w vw second in
        let yx : turn_of y x ≡ Greater = reversed_less (turn_of y x) (sym (turn_opposite y v hy hv m r x) ∙ s.0) in
        beside_it y x w (part_left y x yx) q s.1
    by_views (left m r p) (right n g q) = absurd (no_order y v w p q (omega arith) first)
    by_views (left m r p) (ahead n g q) = absurd (no_order y v w p q (omega arith) first)
    by_views (left m r p) (left n g q) =
        let vw : turn_of v w ≡ Less = same_order y v w p q first in
        let s : (turn_of v x ≡ Less) × (turn_of x w ≡ Less) = before_right v x w vw second in
        let yx : turn_of y x ≡ Greater = inside_left K (det y v) (det x w) (det y x) (det v w) (det y w) (det v x) (exchange_turns y v w x) r s.1 vw g s.0 in
        beside_it y x w (part_left y x yx) q s.1

    -- what comes between v and w, seen from v, comes before w, seen from y, where v does
    pub between : Before y x w
    between = by_views (view y v) (view y w)

  pub before_or_not : (u x w : ℕ) → Before u x w ⊎ ¬ Before u x w
  before_or_not u x w = by_part (cases_lt (part u x) (part u w)) (ℕ_discrete (part u x) (part u w)) (less_or_not (turn_of x w))
    where
      less_or_not : (s : Ordering) → (s ≡ Less) ⊎ ¬ (s ≡ Less)
      less_or_not Less = inl refl
      less_or_not Equal = inr (λ h. absurd (cc))
      less_or_not Greater = inr (λ h. absurd (cc))

      by_part : (part u x < part u w) ⊎ (part u w ≤ part u x) → Dec (part u x ≡ part u w) → (turn_of x w ≡ Less) ⊎ ¬ (turn_of x w ≡ Less) → Before u x w ⊎ ¬ Before u x w
      by_part (inl h) d s = inl (inl h)
      by_part (inr h) (yes e) (inl s) = inl (inr (e, s))
      by_part (inr h) (yes e) (inr s) = inr (elim [ inl l ↦ omega arith | inr l ↦ s l.1 ])
      by_part (inr h) (no n) s = inr (elim [ inl l ↦ omega arith | inr l ↦ n l.0 ])

  -- ---- two directions of which neither comes before the other are one

  opposite_at : (u x : ℕ) → IsNear u → IsNear x → ¬ (x ≡ u) → turn_of u x ≡ Equal → (p : Point A)
      → K.sign (determinant K.ops (place c) (place x) p) ≡ ordering_reverse (K.sign (determinant K.ops (place c) (place u) p))
  opposite_at u x hu hx n h p =
      let from : Ends K place (piece c u) = directed_ends K place ps plane (piece c u) hu in
      opposite_side K place ps plane c u x hu hx (λ e. n (sym e)) h (beside K (place u) (place c) (place c))
      (swapped K (place u) (place c) (beside K (place u) (place c) (place c))
      ∙ ap ordering_reverse (beside_left K (place u) (place c) (place c) (λ s. from.different (same_turned K s)) (zero_is K (at_second K (place u) (place c))))) p

  reversed_once : (s t : Ordering) → s ≡ t → s ≡ ordering_reverse t → s ≡ Equal
  reversed_once Less Less h k = absurd (cc)
  reversed_once Less Equal h k = absurd (cc)
  reversed_once Less Greater h k = absurd (cc)
  reversed_once Equal t h k = refl
  reversed_once Greater Less h k = absurd (cc)
  reversed_once Greater Equal h k = absurd (cc)
  reversed_once Greater Greater h k = absurd (cc)

  reversed_twice : (s : Ordering) → ordering_reverse (ordering_reverse s) ≡ s
  reversed_twice Less = refl
  reversed_twice Equal = refl
  reversed_twice Greater = refl

  less_not_equal : {s : Ordering} → s ≡ Less → s ≡ Equal → ⊥
  less_not_equal h e = absurd (cc)

  greater_not_equal : {s : Ordering} → s ≡ Greater → s ≡ Equal → ⊥
  greater_not_equal h e = absurd (cc)

  not_in_line : (y w z : ℕ) → IsNear y → IsNear w → IsNear z → part y w ≡ part y z → ¬ (w ≡ z) → ¬ (turn_of w z ≡ Equal)
  not_in_line y w z hy hw hz e n h = by_view (view y w)
    where
      turned : turn_of y z ≡ ordering_reverse (turn_of y w)
      turned =
          turn_back z y ∙ ap ordering_reverse (turn_opposite w z hw hz (λ g. n (sym g)) h y) ∙ ap (λ s. ordering_reverse (ordering_reverse s)) (turn_back y w)
          ∙ ap (λ s. s) (reversed_twice (ordering_reverse (turn_of y w)))

      by_view : View y w → ⊥
      by_view (own g p) = n (g ∙ sym (is_own y z (sym e ∙ p)))
      by_view (right m g p) = less_not_equal (is_right y z (sym e ∙ p)) (reversed_once (turn_of y z) (turn_of y w) (is_right y z (sym e ∙ p) ∙ sym g) turned)
      by_view (left m g p) = greater_not_equal (is_left y z (sym e ∙ p)) (reversed_once (turn_of y z) (turn_of y w) (is_left y z (sym e ∙ p) ∙ sym g) turned)
      by_view (ahead m g p) =
          let from : Ends K place (piece c y) = directed_ends K place ps plane (piece c y) hy in
          let b : Point A = beside K (place c) (place y) (place c) in
          let s : Ordering = K.sign (determinant K.ops (place c) (place y) b) in
          let z_w : K.sign (determinant K.ops (place c) (place z) b) ≡ s
          = opposite_at w z hw hz (λ g. n (sym g)) h b ∙ ap ordering_reverse (opposite_at y w hy hw m g b) ∙ reversed_twice s in
          let z_y : K.sign (determinant K.ops (place c) (place z) b) ≡ ordering_reverse s = opposite_at y z hy hz (is_ahead y z (sym e ∙ p)).0 (is_ahead y z (sym e ∙ p)).1 b in
          greater_not_equal (z_w ∙ beside_left K (place c) (place y) (place c) from.different (zero_is K (at_first K (place c) (place y)))) (reversed_once (K.sign (determinant K.ops (place c) (place z) b)) s z_w z_y)

  pub one_first : (y w z : ℕ) → IsNear y → IsNear w → IsNear z → ¬ Before y w z → ¬ Before y z w → w ≡ z
  one_first y w z hy hw hz n m = elim (ℕ_discrete w z) [
    | yes e ↦ e
    | no d ↦ absurd (by_turn d (turn_of w z) refl)
  ]
    where
      parts_equal : part y w ≡ part y z
      parts_equal = elim (cases_lt (part y w) (part y z)) [
        | inl h ↦ absurd (n (inl h))
        | inr h ↦ elim (cases_lt (part y z) (part y w)) [ inl k ↦ absurd (m (inl k)) | inr k ↦ omega arith ]
      ]

      by_turn : ¬ (w ≡ z) → (s : Ordering) → turn_of w z ≡ s → ⊥
      by_turn d Less h = n (inr (parts_equal, h))
      by_turn d Greater h = m (inr (sym parts_equal, to_less h))
      by_turn d Equal h = not_in_line y w z hy hw hz parts_equal d h

  -- ---- the same order by the three turns between three directions, of which two are to the right

  abbrev pub IsClockwise : ℕ → ℕ → ℕ → Type 0
  IsClockwise u w x =
      ((turn_of u w ≡ Less) × (turn_of w x ≡ Less)) ⊎ ((turn_of w x ≡ Less) × (turn_of x u ≡ Less)) ⊎ ((turn_of x u ≡ Less) × (turn_of u w ≡ Less))

  module _ (u w x : ℕ) (hu : IsNear u) (hw : IsNear w) (hx : IsNear x) (w_other : ¬ (w ≡ u)) (x_other : ¬ (x ≡ u)) where
    two_signs : {s t : Ordering} {B : Type 0} → s ≡ Less → s ≡ t → ¬ (t ≡ Less) → B
    two_signs h k n = absurd (n (sym k ∙ h))

    pub clockwise_before : IsClockwise u w x → Before u w x
    clockwise_before h = by_views (view u w) (view u x) h
      where
        by_views : View u w → View u x → IsClockwise u w x → Before u w x
        by_views (own e p) r h = absurd (w_other e)
        by_views r (own e p) h = absurd (x_other e)
        by_views (right n g p) (right m k q) (inl h) = beside_it u w x p q h.1
        by_views (right n g p) (right m k q) (inr (inl h)) = two_signs h.1 (to_greater k) (λ e. absurd (cc))
        by_views (right n g p) (right m k q) (inr (inr h)) = two_signs h.0 (to_greater k) (λ e. absurd (cc))
        by_views (right n g p) (ahead m k q) h = earlier u w x p q (omega arith)
        by_views (right n g p) (left m k q) h = earlier u w x p q (omega arith)
        by_views (ahead n g p) s (inl h) = two_signs h.0 g (λ e. absurd (cc))
        by_views (ahead n g p) s (inr (inr h)) = two_signs h.1 g (λ e. absurd (cc))
        by_views (ahead n g p) s (inr (inl h)) = earlier u w x p (part_left u x (reversed_less (turn_of u x) (sym (turn_back u x) ∙ h.1))) (omega arith)
        by_views (left n g p) s (inl h) = two_signs h.0 g (λ e. absurd (cc))
        by_views (left n g p) s (inr (inr h)) = two_signs h.1 g (λ e. absurd (cc))
        by_views (left n g p) s (inr (inl h)) = beside_it u w x p (part_left u x (reversed_less (turn_of u x) (sym (turn_back u x) ∙ h.1))) h.0

    pub before_clockwise : Before u w x → IsClockwise u w x
    before_clockwise h = by_views (view u w) (view u x)
      where
        by_views : View u w → View u x → IsClockwise u w x
        by_views (own e p) r = absurd (w_other e)
        by_views r (own e p) = absurd (x_other e)
        by_views (right n g p) (right m k q) = inl (g, same_order u w x p q h)
        by_views (right n g p) (ahead m k q) = inl (g, turn_back x w ∙ ap ordering_reverse (turn_opposite u x hu hx m k w ∙ ap ordering_reverse g))
        by_views (right n g p) (left m k q) = inr (inr (to_less k, g))
        by_views (ahead n g p) (right m k q) = absurd (no_order u w x p q (omega arith) h)
        by_views (ahead n g p) (ahead m k q) = absurd (ahead_both u w x hu hw p q (same_order u w x p q h))
        by_views (ahead n g p) (left m k q) = inr (inl (turn_opposite u w hu hw n g x ∙ ap ordering_reverse k, to_less k))
        by_views (left n g p) (right m k q) = absurd (no_order u w x p q (omega arith) h)
        by_views (left n g p) (ahead m k q) = absurd (no_order u w x p q (omega arith) h)
        by_views (left n g p) (left m k q) = inr (inl (same_order u w x p q h, to_less k))

  -- every other one comes before u itself
  pub before_own : (u x : ℕ) → ¬ (x ≡ u) → Before u x u
  before_own u x n = by_view (view u x)
    where
      own_part : part u u ≡ 3
      own_part = part_same K place c u u refl

      by_view : View u x → Before u x u
      by_view (own e p) = absurd (n e)
      by_view (right k h p) = earlier u x u p own_part (omega arith)
      by_view (ahead k h p) = earlier u x u p own_part (omega arith)
      by_view (left k h p) = earlier u x u p own_part (omega arith)

  -- of two, what isn't before the other comes after it
  pub comes_first : (u w x : ℕ) → IsNear u → IsNear w → IsNear x → ¬ (w ≡ x) → ¬ Before u x w → Before u w x
  comes_first u w x hu hw hx d k = elim (before_or_not u w x) [ inl b ↦ b | inr j ↦ absurd (d (one_first u w x hu hw hx j k)) ]

  -- two directions of which the same one comes first are one
  pub one_last : (w y z : ℕ) → IsNear w → IsNear y → IsNear z → ¬ Before y z w → ¬ Before z y w → y ≡ z
  one_last w y z hw hy hz n m = elim (ℕ_discrete y z) [
    | yes e ↦ e
    | no d ↦ absurd (by_equal d (ℕ_discrete w y) (ℕ_discrete w z))
  ]
    where
      greater_less : {s : Ordering} → s ≡ Greater → s ≡ Less → ⊥
      greater_less h k = absurd (cc)

      never : (a b : ℕ) → turn_of a b ≡ Less → turn_of b a ≡ Less → ⊥
      never a b h k = greater_less (to_greater h) k

      not_both : IsClockwise y w z → IsClockwise z w y → ⊥
      not_both (inl h) (inl k) = never y w h.0 k.1
      not_both (inl h) (inr (inl k)) = never y w h.0 k.0
      not_both (inl h) (inr (inr k)) = never w z h.1 k.1
      not_both (inr (inl h)) (inl k) = never w z h.0 k.0
      not_both (inr (inl h)) (inr (inl k)) = never z y h.1 k.1
      not_both (inr (inl h)) (inr (inr k)) = never w z h.0 k.1
      not_both (inr (inr h)) (inl k) = never y w h.1 k.1
      not_both (inr (inr h)) (inr (inl k)) = never z y h.0 k.1
      not_both (inr (inr h)) (inr (inr k)) = never z y h.0 k.0

      by_equal : ¬ (y ≡ z) → Dec (w ≡ y) → Dec (w ≡ z) → ⊥
      by_equal d (yes e) f = n (subst (λ w. Before y z w) (sym e) (before_own y z (λ g. d (sym g))))
      by_equal d (no e) (yes f) = m (subst (λ w. Before z y w) (sym f) (before_own z y d))
      by_equal d (no e) (no f) =
          not_both (before_clockwise y w z hy hw hz e (λ g. d (sym g)) (comes_first y w z hy hw hz f n))
          (before_clockwise z w y hz hw hy f d (comes_first z w y hz hw hy e m))
