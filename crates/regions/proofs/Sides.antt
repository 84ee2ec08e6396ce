-- The two sides of a piece of a cycle are two regions: the parity of the rays' crossings with the cycle tells them apart.
use Prim.Native.Nat.{ℕ}
use mathlib.Core.Path.{◌≡◌, refl, sym, ap, ap₂, ◌∙◌, subst}
use mathlib.Core.List.{List, [], ◌∷◌}
use mathlib.Core.Logic.{◌⊎◌, inl, inr}
use lib.IntN.{pos}
use Rattle.plane.proofs.Lines.{value_combination, value_multiple, same_vector, exchange, at_first, at_second, swapped, swapped_last}
use Rattle.std.specs.Prelude.{IsTrue}
use Rattle.std.specs.declared.cmp.Ordering.{Ordering}
use Rattle.std.specs.declared.cmp.Ordering.TheVariants.{Less, Equal, Greater}
use Rattle.std.specs.Ordering.{is_ge, is_le, ordering_reverse}
use Rattle.algebra.specs.OrderedRing.{OrderedRing}
use Rattle.plane.specs.declared.point.Point.{Point}
use Rattle.plane.specs.Lines.{determinant, line}
use Rattle.algebra.proofs.Solvers.{ring_from, multiple, no_equation, reads, sign_from, sign_from_multiple, known, no_sign, given, sum, product, negated, positive, negative, not_negative, not_positive, any_sign, at_zero, sign_of_multiple}
use Rattle.plane.specs.Points.{combination, multiple_of, IsPoint, IsSamePoint}
use Rattle.plane.specs.Segments.{IsOn, SegmentsMeet}
use Rattle.regions.proofs.Drawings.{Piece, piece, reversed, Among, IsDirected, IsEnd, IsPlane, IsVertex, Route, arrived, via}
use Rattle.regions.proofs.Regions.{IsClear, middle_of, LeftAt, LeftOf, OneRegion, straight, bent}
use Rattle.plane.proofs.Signs.{greater_ge, at_most, zero_is, equal_ge}
use Rattle.plane.proofs.OnSegments.{meet_back}
use Rattle.regions.proofs.Parity.{odd, crosses, beside as is_beside, balanced, odd_self}
use Rattle.plane.proofs.Nearby.{Closer, closer_point}
use Rattle.plane.proofs.Separation.{parted_apart}
use Rattle.regions.proofs.InnerPoints.{ends, directed_ends, closer_turned, left_one_region, middle_inner, on_line, left_toward, one_or_parted, inner_no_end, inner_on}
use Rattle.regions.proofs.Directions.{directed_back, on_first}
use mathlib.Core.Bool.{Bool, true, false}
use Rattle.regions.proofs.Tracing.{region_then, region_start, mirrored, mirrored_point, mirrored_sign}
use Rattle.regions.proofs.Crossing.{crossed}

-- ---- counting in twos

odd_swap : (a b c d : Bool) → odd (odd a b) (odd c d) ≡ odd (odd a c) (odd b d)
odd_swap true true true true = refl
odd_swap true true true false = refl
odd_swap true true false true = refl
odd_swap true true false false = refl
odd_swap true false true true = refl
odd_swap true false true false = refl
odd_swap true false false true = refl
odd_swap true false false false = refl
odd_swap false true true true = refl
odd_swap false true true false = refl
odd_swap false true false true = refl
odd_swap false true false false = refl
odd_swap false false true true = refl
odd_swap false false true false = refl
odd_swap false false false true = refl
odd_swap false false false false = refl

odd_chain : (a b c : Bool) → odd (odd a b) (odd b c) ≡ odd a c
odd_chain true true true = refl
odd_chain true true false = refl
odd_chain true false true = refl
odd_chain true false false = refl
odd_chain false true true = refl
odd_chain false true false = refl
odd_chain false false true = refl
odd_chain false false false = refl

odd_equal : (a b : Bool) → odd a b ≡ false → a ≡ b
odd_equal true true h = refl
odd_equal true false h = absurd (cc)
odd_equal false true h = absurd (cc)
odd_equal false false h = refl

odd_round : (a b : Bool) → odd (odd true (odd a b)) (odd b a) ≡ true
odd_round true true = refl
odd_round true false = refl
odd_round false true = refl
odd_round false false = refl

-- ---- routes

-- each piece but the first, which stands last, has an end in common with an earlier one
pub data IsGrown : List Piece → Type 0 where
  first : (e : Piece) → IsGrown (e ∷ [])
  grown : {ps : List Piece} → IsGrown ps → (e : Piece) → IsVertex ps e.tail ⊎ IsVertex ps e.head → IsGrown (e ∷ ps)

pub directed_more : (ps : List Piece) (e d : Piece) → IsDirected ps d → IsDirected (e ∷ ps) d
directed_more ps e d (inl i) = inl (inr i)
directed_more ps e d (inr i) = inr (inr i)

module _ {ps : List Piece} where
  pub route_then : {u v w : ℕ} → Route ps u v → Route ps v w → Route ps u w
  route_then arrived s = s
  route_then (via h r) s = via h (route_then r s)

  pub route_back : {u v : ℕ} → Route ps u v → Route ps v u
  route_back arrived = arrived
  route_back (via {u} {v} h r) = route_then (route_back r) (via (directed_back ps (piece u v) h) arrived)

  pub route_more : (e : Piece) {u v : ℕ} → Route ps u v → Route (e ∷ ps) u v
  route_more e arrived = arrived
  route_more e (via {u} {v} h r) = via (directed_more ps e (piece u v) h) (route_more e r)

grown_root : (ps : List Piece) (e : Piece) → IsVertex ps e.tail ⊎ IsVertex ps e.head → (r : ℕ) × ((v : ℕ) → IsVertex ps v → Route ps v r)
    → (r : ℕ) × ((v : ℕ) → IsVertex (e ∷ ps) v → Route (e ∷ ps) v r)
grown_root ps e old r = (r.0, λ v h. by_end v h.0 h.1)
  where
    both : Route (e ∷ ps) e.tail r.0 × Route (e ∷ ps) e.head r.0
    both = elim old [
      | inl t ↦ let s : Route (e ∷ ps) e.tail r.0 = route_more e (r.1 e.tail t) in (s, via (inr (inl refl)) s)
      | inr t ↦ let s : Route (e ∷ ps) e.head r.0 = route_more e (r.1 e.head t) in (via (inl (inl refl)) s, s)
    ]

    by_end : (v w : ℕ) → IsDirected (e ∷ ps) (piece v w) → Route (e ∷ ps) v r.0
    by_end v w (inl (inl i)) = subst (λ z. Route (e ∷ ps) z r.0) (ap (λ d. d.tail) i) both.0
    by_end v w (inl (inr i)) = route_more e (r.1 v (w, inl i))
    by_end v w (inr (inl i)) = subst (λ z. Route (e ∷ ps) z r.0) (ap (λ d. d.head) i) both.1
    by_end v w (inr (inr i)) = route_more e (r.1 v (w, inr i))

-- in a grown drawing all vertices are joined by routes, here to one of them
pub to_root : {ps : List Piece} → IsGrown ps → (r : ℕ) × ((v : ℕ) → IsVertex ps v → Route ps v r)
to_root (first e) = (e.tail, λ v h. by_end v h.0 h.1)
  where
    by_end : (v w : ℕ) → IsDirected (e ∷ []) (piece v w) → Route (e ∷ []) v e.tail
    by_end v w (inl (inl i)) = subst (λ z. Route (e ∷ []) z e.tail) (ap (λ d. d.tail) i) arrived
    by_end v w (inl (inr i)) = elim i [ ]
    by_end v w (inr (inl i)) = subst (λ z. Route (e ∷ []) z e.tail) (ap (λ d. d.head) i) (via (inr (inl refl)) arrived)
    by_end v w (inr (inr i)) = elim i [ ]
to_root (grown {ps} g e old) = grown_root ps e old (to_root g)

pub joined : {ps : List Piece} → IsGrown ps → (u v : ℕ) → IsVertex ps u → IsVertex ps v → Route ps u v
joined g u v hu hv = route_then ((to_root g).1 u hu) (route_back ((to_root g).1 v hv))

module _ {A : Type 0} (K : OrderedRing A) where
  -- ---- a point p, and c beyond m from p, so that α p + c = β m

  balance_of : (stay go pw mw m p c : A) → c ≡ K.add (K.mul stay m) (K.mul go (K.add (K.mul (K.add pw pw) m) (K.mul (K.neg mw) p)))
      → K.add (K.mul (K.mul go mw) p) (K.mul (K.int (pos 1)) c) ≡ K.mul (K.add stay (K.mul go (K.add pw pw))) m
  balance_of stay go pw mw m p c e = ring_from K (stay ∷ go ∷ pw ∷ mw ∷ m ∷ p ∷ c ∷ []) (multiple (K.int (pos 1)) (search reads depth 40 fits 50000) (search reads depth 40 fits 50000) (search reads depth 40 fits 50000) e no_equation) (search reads depth 40 fits 50000) (search reads depth 40 fits 50000) tt

  nearer_first : (α β s u τ p c m x : A) → K.add (K.mul α p) (K.mul (K.int (pos 1)) c) ≡ K.mul β m → K.add (K.mul s p) (K.mul u c) ≡ K.mul τ x
      → K.add (K.mul (K.sub s (K.mul α u)) p) (K.mul (K.mul u β) m) ≡ K.mul τ x
  nearer_first α β s u τ p c m x e g =
      ring_from K (α ∷ β ∷ s ∷ u ∷ τ ∷ p ∷ c ∷ m ∷ x ∷ []) (multiple (K.int (pos 1)) (search reads depth 40 fits 50000) (search reads depth 40 fits 50000) (search reads depth 40 fits 50000) g (multiple (K.neg u) (search reads depth 40 fits 50000) (search reads depth 40 fits 50000) (search reads depth 40 fits 50000) e no_equation)) (search reads depth 40 fits 50000) (search reads depth 40 fits 50000) tt

  nearer_second : (α β s u τ p c m x : A) → K.add (K.mul α p) (K.mul (K.int (pos 1)) c) ≡ K.mul β m → K.add (K.mul s p) (K.mul u c) ≡ K.mul τ x
      → K.add (K.mul (K.sub (K.mul α u) s) c) (K.mul (K.mul s β) m) ≡ K.mul (K.mul τ α) x
  nearer_second α β s u τ p c m x e g =
      ring_from K (α ∷ β ∷ s ∷ u ∷ τ ∷ p ∷ c ∷ m ∷ x ∷ []) (multiple α (search reads depth 40 fits 50000) (search reads depth 40 fits 50000) (search reads depth 40 fits 50000) g (multiple (K.neg s) (search reads depth 40 fits 50000) (search reads depth 40 fits 50000) (search reads depth 40 fits 50000) e no_equation)) (search reads depth 40 fits 50000) (search reads depth 40 fits 50000) tt

  nothing_of_first : (d v p m r : A) → d ≡ K.int (pos 0) → K.add (K.mul d p) (K.mul v m) ≡ r → K.add (K.mul (K.int (pos 0)) m) (K.mul v m) ≡ r
  nothing_of_first d v p m r e g = ring_from K (d ∷ v ∷ p ∷ m ∷ []) (multiple (K.neg p) (search reads depth 40 fits 50000) (search reads depth 40 fits 50000) (search reads depth 40 fits 50000) e no_equation) (search reads depth 40 fits 50000) (search reads depth 40 fits 50000) tt ∙ g

  product_ge : (s t : A) → IsTrue (is_ge (K.sign s)) → K.sign t ≡ Greater → IsTrue (is_ge (K.sign (K.mul s t)))
  product_ge s t hs ht = sign_from K (s ∷ t ∷ []) (known not_negative (search reads depth 40 fits 50000) hs (known positive (search reads depth 40 fits 50000) ht no_sign)) not_negative (search reads depth 40 fits 50000) (product (given 0) (given 1)) tt tt

  product_gt : (s t : A) → K.sign s ≡ Greater → K.sign t ≡ Greater → K.sign (K.mul s t) ≡ Greater
  product_gt s t hs ht = sign_from K (s ∷ t ∷ []) (known positive (search reads depth 40 fits 50000) hs (known positive (search reads depth 40 fits 50000) ht no_sign)) positive (search reads depth 40 fits 50000) (product (given 0) (given 1)) tt tt

  turned_difference : (s t : A) → K.sign (K.sub s t) ≡ Less → K.sign (K.sub t s) ≡ Greater
  turned_difference s t h = sign_from K (s ∷ t ∷ []) (known negative (search reads depth 40 fits 50000) h no_sign) positive (search reads depth 40 fits 50000) (negated (given 0)) tt tt

  module _ {m p c : Point A} (hm : IsPoint K m) (hp : IsPoint K p) (r : Closer K m (mirrored K m p) c) where
    abbrev pub alpha : A
    alpha = K.mul r.go m.w

    abbrev pub beta : A
    beta = K.add r.stay (K.mul r.go (K.add p.w p.w))

    alpha_gt : K.sign alpha ≡ Greater
    alpha_gt = product_gt r.go m.w r.go_gt hm

    pub beta_gt : K.sign beta ≡ Greater
    beta_gt =
        sign_from K (r.stay ∷ r.go ∷ p.w ∷ []) (known positive (search reads depth 40 fits 50000) r.stay_gt (known positive (search reads depth 40 fits 50000) r.go_gt (known positive (search reads depth 40 fits 50000) hp no_sign))) positive (search reads depth 40 fits 50000)
        (sum (given 0) (product (given 1) (sum (given 2) (given 2)))) tt tt

    pub balance : combination K.ops alpha p (K.int (pos 1)) c ≡ multiple_of K.ops beta m
    balance =
        same_vector (balance_of r.stay r.go p.w m.w m.x p.x c.x (ap (λ q. q.x) r.is)) (balance_of r.stay r.go p.w m.w m.y p.y c.y (ap (λ q. q.y) r.is))
        (balance_of r.stay r.go p.w m.w m.w p.w c.w (ap (λ q. q.w) r.is))

    -- a point between p and c lies between p and m, or between c and m, or is m
    pub one_half : {x : Point A} → IsOn K p c x
        → ((on : IsOn K p m x) × (K.sign on.from_share ≡ Greater)) ⊎ ((on : IsOn K c m x) × (K.sign on.from_share ≡ Greater)) ⊎ IsOn K m m x
    one_half {x} on = by_sign (K.sign (K.sub on.from_share (K.mul alpha on.to_share))) refl
      where
        first_sum : combination K.ops (K.sub on.from_share (K.mul alpha on.to_share)) p (K.mul on.to_share beta) m ≡ multiple_of K.ops on.factor x
        first_sum =
            same_vector (nearer_first alpha beta on.from_share on.to_share on.factor p.x c.x m.x x.x (ap (λ q. q.x) balance) (ap (λ q. q.x) (sym on.is)))
            (nearer_first alpha beta on.from_share on.to_share on.factor p.y c.y m.y x.y (ap (λ q. q.y) balance) (ap (λ q. q.y) (sym on.is)))
            (nearer_first alpha beta on.from_share on.to_share on.factor p.w c.w m.w x.w (ap (λ q. q.w) balance) (ap (λ q. q.w) (sym on.is)))

        second_sum : combination K.ops (K.sub (K.mul alpha on.to_share) on.from_share) c (K.mul on.from_share beta) m ≡ multiple_of K.ops (K.mul on.factor alpha) x
        second_sum =
            same_vector (nearer_second alpha beta on.from_share on.to_share on.factor p.x c.x m.x x.x (ap (λ q. q.x) balance) (ap (λ q. q.x) (sym on.is)))
            (nearer_second alpha beta on.from_share on.to_share on.factor p.y c.y m.y x.y (ap (λ q. q.y) balance) (ap (λ q. q.y) (sym on.is)))
            (nearer_second alpha beta on.from_share on.to_share on.factor p.w c.w m.w x.w (ap (λ q. q.w) balance) (ap (λ q. q.w) (sym on.is)))

        by_sign : (s : Ordering) → K.sign (K.sub on.from_share (K.mul alpha on.to_share)) ≡ s
            → ((on : IsOn K p m x) × (K.sign on.from_share ≡ Greater)) ⊎ ((on : IsOn K c m x) × (K.sign on.from_share ≡ Greater)) ⊎ IsOn K m m x
        by_sign Greater h = inl (
          record {
            from_share = K.sub on.from_share (K.mul alpha on.to_share);
            to_share = K.mul on.to_share beta;
            factor = on.factor;
            from_not_negative = greater_ge h;
            to_not_negative = product_ge on.to_share beta on.to_not_negative beta_gt;
            factor_positive = on.factor_positive;
            is = sym (first_sum);
          },
          h,
        )
        by_sign Less h = inr (inl (
          record {
            from_share = K.sub (K.mul alpha on.to_share) on.from_share;
            to_share = K.mul on.from_share beta;
            factor = K.mul on.factor alpha;
            from_not_negative = greater_ge (turned_difference on.from_share (K.mul alpha on.to_share) h);
            to_not_negative = product_ge on.from_share beta on.from_not_negative beta_gt;
            factor_positive = product_gt on.factor alpha on.factor_positive alpha_gt;
            is = sym (second_sum);
          },
          turned_difference on.from_share (K.mul alpha on.to_share) h,
        ))
        by_sign Equal h = inr (inr (record {
          from_share = K.int (pos 0);
          to_share = K.mul on.to_share beta;
          factor = on.factor;
          from_not_negative = equal_ge (K.sign_int (pos 0));
          to_not_negative = product_ge on.to_share beta on.to_not_negative beta_gt;
          factor_positive = on.factor_positive;
          is = sym (same_vector
              (nothing_of_first (K.sub on.from_share (K.mul alpha on.to_share)) (K.mul on.to_share beta) p.x m.x (K.mul on.factor x.x) (zero_is K h) (ap (λ q. q.x) first_sum))
              (nothing_of_first (K.sub on.from_share (K.mul alpha on.to_share)) (K.mul on.to_share beta) p.y m.y (K.mul on.factor x.y) (zero_is K h) (ap (λ q. q.y) first_sum))
              (nothing_of_first (K.sub on.from_share (K.mul alpha on.to_share)) (K.mul on.to_share beta) p.w m.w (K.mul on.factor x.w) (zero_is K h) (ap (λ q. q.w) first_sum)));
        }))

    zero_sum : (s t x y : A) → K.sign x ≡ Equal → K.sign y ≡ Equal → K.sign (K.add (K.mul s x) (K.mul t y)) ≡ Equal
    zero_sum s t x y hx hy =
        sign_from K (s ∷ t ∷ x ∷ y ∷ []) (known at_zero (search reads depth 40 fits 50000) hx (known at_zero (search reads depth 40 fits 50000) hy (known any_sign {a = s} (search reads depth 40 fits 50000) tt (known any_sign {a = t} (search reads depth 40 fits 50000) tt no_sign))))
        at_zero (search reads depth 40 fits 50000) (sum (product (given 2) (given 0)) (product (given 3) (given 1))) tt tt

    -- m lies on the line through p and c
    pub middle_on : K.sign (determinant K.ops p c m) ≡ Equal
    middle_on =
        sym (sign_of_multiple K beta (determinant K.ops p c m) beta_gt)
        ∙ ap K.sign (sym (value_multiple K (line K.ops p c) beta m) ∙ ap (λ q. determinant K.ops p c q) (sym balance) ∙ value_combination K (line K.ops p c) alpha (K.int (pos 1)) p c)
        ∙ zero_sum alpha (K.int (pos 1)) (determinant K.ops p c p) (determinant K.ops p c c) (at_first K p c) (at_second K p c)

  first_negative : (s t x y : A) → K.sign s ≡ Greater → K.sign t ≡ Greater → K.sign (K.add (K.mul s x) (K.mul t y)) ≡ Equal → K.sign y ≡ Greater → K.sign x ≡ Less
  first_negative s t x y hs ht z hy =
      sign_from_multiple K (s ∷ t ∷ x ∷ y ∷ []) (known at_zero (search reads depth 40 fits 50000) z (known positive (search reads depth 40 fits 50000) ht (known positive (search reads depth 40 fits 50000) hy no_sign))) negative (search reads depth 40 fits 50000) hs (search reads depth 40 fits 50000)
      (sum (given 0) (negated (product (given 1) (given 2)))) tt tt

  first_not_negative : (s t x y : A) → K.sign s ≡ Greater → K.sign t ≡ Greater → K.sign (K.add (K.mul s x) (K.mul t y)) ≡ Equal → IsTrue (is_le (K.sign y)) → IsTrue (is_ge (K.sign x))
  first_not_negative s t x y hs ht z hy =
      sign_from_multiple K (s ∷ t ∷ x ∷ y ∷ []) (known at_zero (search reads depth 40 fits 50000) z (known positive (search reads depth 40 fits 50000) ht (known not_positive (search reads depth 40 fits 50000) hy no_sign))) not_negative (search reads depth 40 fits 50000) hs (search reads depth 40 fits 50000)
      (sum (given 0) (negated (product (given 1) (given 2)))) tt tt

  both_not_positive : (s t x y : A) → IsTrue (is_le (K.sign s)) → IsTrue (is_le (K.sign t)) → K.sign x ≡ Greater → K.sign y ≡ Greater → IsTrue (is_le (K.sign (K.add (K.mul s x) (K.mul t y))))
  both_not_positive s t x y hs ht hx hy =
      sign_from K (s ∷ t ∷ x ∷ y ∷ []) (known not_positive (search reads depth 40 fits 50000) hs (known not_positive (search reads depth 40 fits 50000) ht (known positive (search reads depth 40 fits 50000) hx (known positive (search reads depth 40 fits 50000) hy no_sign)))) not_positive (search reads depth 40 fits 50000)
      (sum (product (given 0) (given 2)) (product (given 1) (given 3))) tt tt

  both_positive : (s t x y : A) → K.sign s ≡ Greater → K.sign t ≡ Greater → K.sign x ≡ Greater → K.sign y ≡ Greater → K.sign (K.add (K.mul s x) (K.mul t y)) ≡ Greater
  both_positive s t x y hs ht hx hy =
      sign_from K (s ∷ t ∷ x ∷ y ∷ []) (known positive (search reads depth 40 fits 50000) hs (known positive (search reads depth 40 fits 50000) ht (known positive (search reads depth 40 fits 50000) hx (known positive (search reads depth 40 fits 50000) hy no_sign)))) positive (search reads depth 40 fits 50000)
      (sum (product (given 0) (given 2)) (product (given 1) (given 3))) tt tt

module _ {A : Type 0} (K : OrderedRing A) (place : ℕ → Point A) where
  -- ---- crossings with a route

  -- whether the ray from p to the right meets the route an odd number of times
  pub crossings : {ps : List Piece} {u w : ℕ} → Point A → Route ps u w → Bool
  crossings p arrived = false
  crossings p (via {u} {v} h r) = odd (crosses K p (place u) (place v)) (crossings p r)

  module _ (ps : List Piece) (plane : IsPlane K place ps) {p q : Point A} (hp : IsPoint K p) (hq : IsPoint K q) (clear : IsClear K place ps p q) where
    directed_apart : (d : Piece) → IsDirected ps d → ¬ SegmentsMeet K p q (place d.tail) (place d.head)
    directed_apart d (inl i) m = clear d i m
    directed_apart d (inr i) m = clear (reversed d) i (meet_back K m)

    pub piece_balanced : (d : Piece) → IsDirected ps d
        → odd (crosses K p (place d.tail) (place d.head)) (crosses K q (place d.tail) (place d.head)) ≡ odd (is_beside K p q (place d.tail)) (is_beside K p q (place d.head))
    piece_balanced d h =
        balanced K p q (place d.tail) (place d.head) hp hq (directed_ends K place ps plane d h).tail_point (directed_ends K place ps plane d h).head_point (directed_apart d h)

    pub route_balanced : {u w : ℕ} (r : Route ps u w) → odd (crossings p r) (crossings q r) ≡ odd (is_beside K p q (place u)) (is_beside K p q (place w))
    unfolding crossings
    route_balanced (arrived {v}) = sym (odd_self (is_beside K p q (place v)))
    route_balanced (via {u} {v} {w} h r) =
        odd_swap (crosses K p (place u) (place v)) (crossings p r) (crosses K q (place u) (place v)) (crossings q r)
        ∙ ap₂ odd (piece_balanced (piece u v) h) (route_balanced r)
        ∙ odd_chain (is_beside K p q (place u)) (is_beside K p q (place v)) (is_beside K p q (place w))

  -- ---- a piece that closes a cycle with a route

  module _ (ps : List Piece) (e : Piece) (plane : IsPlane K place (e ∷ ps)) (route : Route ps e.head e.tail) where
    cycle : Point A → Bool
    cycle p = odd (crosses K p (place e.tail) (place e.head)) (crossings p route)

    cycle_steady : {p q : Point A} → IsPoint K p → IsPoint K q → IsClear K place (e ∷ ps) p q → cycle p ≡ cycle q
    unfolding cycle
    cycle_steady {p} {q} hp hq clear =
        odd_equal (cycle p) (cycle q)
        (odd_swap (crosses K p (place e.tail) (place e.head)) (crossings p route) (crosses K q (place e.tail) (place e.head)) (crossings q route)
        ∙ ap₂ odd (piece_balanced (e ∷ ps) plane hp hq clear e (inl (inl refl))) (route_balanced ps plane.4 hp hq (λ f i. clear f (inr i)) route)
        ∙ odd_chain (is_beside K p q (place e.tail)) (is_beside K p q (place e.head)) (is_beside K p q (place e.tail))
        ∙ odd_self (is_beside K p q (place e.tail)))

    cycle_region : {p q : Point A} → OneRegion K place (e ∷ ps) p q → cycle p ≡ cycle q
    cycle_region (straight hp hq clear) = cycle_steady hp hq clear
    cycle_region (bent hp clear l) = cycle_steady hp (region_start K place (e ∷ ps) l) clear ∙ cycle_region l

    -- the ends of the new piece
    abbrev a : Point A
    a = place e.tail

    abbrev b : Point A
    b = place e.head

    abbrev m : Point A
    m = middle_of K place e

    new_directed : IsDirected (e ∷ ps) e
    new_directed = inl (inl refl)

    back_directed : IsDirected (e ∷ ps) (reversed e)
    back_directed = inr (inl refl)

    inner : Closer K a b m
    inner = middle_inner K place (e ∷ ps) plane e new_directed

    hm : IsPoint K m
    hm = closer_point K inner plane.0 plane.1

    -- the new piece is none of the old ones
    new_piece : ¬ Among ps e
    new_piece i =
        let on : (on : IsOn K a b m) × (K.sign on.from_share ≡ Greater) × (K.sign on.to_share ≡ Greater) = inner_on K inner inner hm (on_first K m m) in
        let v : (v : ℕ) × IsEnd e v × IsEnd e v × IsSamePoint K (place v) m = plane.3 e i m hm on.0 on.0 in
        inner_no_end K place e (ends K place (e ∷ ps) plane e (inl refl)) on.0 on.1 on.2 v.0 v.1 v.3

    middle_off : (f : Piece) → Among ps f → ¬ SegmentsMeet K m m (place f.tail) (place f.head)
    middle_off f i = elim (one_or_parted K place (e ∷ ps) plane e (inl refl) inner inner f (inr i)) [
      | inl equal ↦ absurd (new_piece (subst (λ f. Among ps f) (sym equal) i))
      | inr r ↦ parted_apart K r
    ]

    module _ {p c : Point A} (l : LeftAt K place (e ∷ ps) a b m p) (r : Closer K m (mirrored K m p) c) (k : LeftAt K place (e ∷ ps) b a m c) where
      -- no old piece meets the segment that crosses the new one
      old_clear : IsClear K place ps p c
      old_clear f i meet = elim (one_half K hm l.point r meet.2) [
        | inl h ↦ l.clear f (inr i) meet.0 h.0 h.1 meet.3
        | inr h ↦ elim h [
          | inl g ↦ k.clear f (inr i) meet.0 g.0 g.1 meet.3
          | inr g ↦ middle_off f i (meet.0, meet.1, g, meet.3)
        ]
      ]

      al : K.sign (determinant K.ops a c b) ≡ Greater
      al = swapped_last K a b c ∙ ap ordering_reverse (swapped K b a c ∙ ap ordering_reverse k.left)

      on_m : K.sign (K.add (K.mul inner.stay (determinant K.ops p c a)) (K.mul inner.go (determinant K.ops p c b))) ≡ Equal
      on_m = ap K.sign (sym (value_combination K (line K.ops p c) inner.stay inner.go a b) ∙ ap (λ q. determinant K.ops p c q) (sym inner.is)) ∙ middle_on K hm l.point r

      opposite_ends : (K.sign (determinant K.ops p c b) ≡ Greater) × (K.sign (determinant K.ops c p a) ≡ Greater)
      opposite_ends = elim (at_most (K.sign (determinant K.ops p c b))) [
        | inr g ↦ (g, swapped K p c a ∙ ap ordering_reverse (first_negative K inner.stay inner.go (determinant K.ops p c a) (determinant K.ops p c b) inner.stay_gt inner.go_gt on_m g))
        | inl g ↦
            let h : IsTrue (is_ge (K.sign (determinant K.ops p c a))) = first_not_negative K inner.stay inner.go (determinant K.ops p c a) (determinant K.ops p c b) inner.stay_gt inner.go_gt on_m g in
            let d : IsTrue (is_le (K.sign (determinant K.ops c p a))) = subst (λ s. IsTrue (is_le s)) (sym (swapped K p c a)) (reversed_le (K.sign (determinant K.ops p c a)) h) in
            let w : K.sign (combination K.ops (determinant K.ops a c b) p (determinant K.ops a b p) c).w ≡ Greater
            = both_positive K (determinant K.ops a c b) (determinant K.ops a b p) p.w c.w al l.left l.point k.point in
            let z : IsTrue (is_le (K.sign (combination K.ops (determinant K.ops p c b) a (determinant K.ops c p a) b).w))
            = both_not_positive K (determinant K.ops p c b) (determinant K.ops c p a) a.w b.w g d plane.0 plane.1 in
            absurd (greater_not_le (K.sign (combination K.ops (determinant K.ops p c b) a (determinant K.ops c p a) b).w)
            (sym (ap (λ (q : Point A). K.sign q.w) (exchange K p c a b)) ∙ w) z)
      ]
        where
          reversed_le : (s : Ordering) → IsTrue (is_ge s) → IsTrue (is_le (ordering_reverse s))
          reversed_le Less h = h
          reversed_le Equal h = refl
          reversed_le Greater h = refl

          greater_not_le : (s : Ordering) → s ≡ Greater → IsTrue (is_le s) → ⊥
          greater_not_le s h k = absurd (cc)

      -- the cycle's parity changes across the new piece
      cycle_changes : odd (cycle p) (cycle c) ≡ true
      unfolding cycle
      cycle_changes =
          odd_swap (crosses K p a b) (crossings p route) (crosses K c a b) (crossings c route)
          ∙ ap₂ odd (crossed K p c a b l.point k.point plane.0 plane.1 al l.left opposite_ends.0 opposite_ends.1) (route_balanced ps plane.4 l.point k.point old_clear route)
          ∙ odd_round (is_beside K p c a) (is_beside K p c b)

    -- the two sides of a piece of a cycle are two regions
    pub two_sides : (p q : Point A) → LeftOf K place (e ∷ ps) e p → LeftOf K place (e ∷ ps) (reversed e) q → ¬ OneRegion K place (e ∷ ps) p q
    two_sides p q l k one =
        let far : IsPoint K (mirrored K m p) = mirrored_point K m p hm l.point in
        let right : K.sign (determinant K.ops b a (mirrored K m p)) ≡ Greater
        = swapped K a b (mirrored K m p) ∙ ap ordering_reverse (mirrored_sign K (line K.ops a b) m p hm (on_zero) ∙ ap ordering_reverse l.left) in
        let r : (c : Point A) × Closer K m (mirrored K m p) c × LeftAt K place (e ∷ ps) b a m c
        = left_toward K place (e ∷ ps) plane (reversed e) back_directed (closer_turned K inner) far right in
        let joined : OneRegion K place (e ∷ ps) p r.0
        = region_then K place (e ∷ ps) one (left_one_region K place (e ∷ ps) plane (reversed e) back_directed (middle_inner K place (e ∷ ps) plane (reversed e) back_directed) (closer_turned K inner) k r.2) in
        true_false (sym (cycle_changes l r.1 r.2) ∙ ap (λ s. odd s (cycle r.0)) (cycle_region joined) ∙ odd_self (cycle r.0))
      where
        on_zero : K.sign (determinant K.ops a b m) ≡ Equal
        on_zero = ap K.sign (on_line K inner) ∙ K.sign_int (pos 0)

        true_false : true ≡ false → ⊥
        true_false h = absurd (cc)
